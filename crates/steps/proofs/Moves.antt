-- What one move keeps.
use Rattle.std.proofs.Common.{◌≡◌, ℕ, ◌+◌, ◌*◌, ◌<◌, ◌≤◌, true, false, ◌≢◌, List, ◌∷◌, length, get_or, set, Some, None, Option, sym, refl, ap, ◌∙◌, subst, add-mul, one-mul, arith, length-set, get_or-set_other}
use lib.Seq.{length-paste}
use Rattle.std.proofs.lemmas.List.Sorted.{length_permutation}
use Rattle.queue.specs.declared.entries.Entry.{Entry}
use Rattle.std.proofs.lemmas.Bool.{both_ways}
use Rattle.rows.specs.Rows.{Row, fits}
use Rattle.rows.specs.Tasks.{Task, Accepted}
use Rattle.cost.specs.declared.costs.Cost as cost
use Rattle.store.specs.Stores.{CoverFound, CoverAt, Uncovered}
use Rattle.planning.specs.Plans.{price}
use Rattle.steps.specs.declared.tables.Record.{Record}
use Rattle.steps.specs.Memories.{Memory, At, width, row_at, written}
use Rattle.steps.specs.Steps.{back, Joined, Stored, One, unmoved, covered, stores}
use Rattle.steps.specs.Answers.{Ready}
use Rattle.steps.proofs.Parts.{row_below, row_within, length_written}
use Rattle.rows.proofs.Both.{fits_length}
use Rattle.planning.proofs.Fits.{back_fits}

-- what the move answers of the row that was read is what it answers of the node's row
pub here : (task : Task) (m : ℕ) (bytes : List ℕ) (n v : ℕ) (res : Row) (o : Option Row) → res ≡ row_at v bytes n → v ≡ width task → back task m res ≡ o → back task m (row_at (width task) bytes n) ≡ o
here task m bytes n v res o e w h =
    let e' : res ≡ row_at (width task) bytes n = subst (λ z. res ≡ row_at z bytes n) w e in
    subst (λ z. back task m z ≡ o) e' h

pub never_misfit : (task : Task) (m : ℕ) (g r : Row) (table : List ℕ) → Accepted task → table ≡ task.values → fits task.values g ≡ true → back task m g ≡ Some r → fits table r ≡ false → ⊥
never_misfit task m g r table a e fg b bad = both_ways (fits table r) bad (subst (λ z. fits z r ≡ true) (sym e) (back_fits task m g r a fg b))

pub found_some : {rows : List Row} {r : Row} {o : Option ℕ} {k : ℕ} → o ≡ Some k → CoverFound rows r o → CoverAt rows r k
found_some {rows} {r} e h = subst (λ z. CoverFound rows r z) e h

pub found_none : {rows : List Row} {r : Row} {o : Option ℕ} → o ≡ None → CoverFound rows r o → Uncovered rows r
found_none {rows} {r} e h = subst (λ z. CoverFound rows r z) e h

pub at_width : (after bs : List ℕ) (n : ℕ) (r : Row) (w : ℕ) → length r ≡ w → after ≡ written bs (n * length r) r → after ≡ written bs (n * w) r
at_width after bs n r w e h = subst (λ z. after ≡ written bs (n * z) r) e h

pub grown_length : (bytes after : List ℕ) (at cap w : ℕ) (r : List ℕ) → length r ≡ w → at < cap → cap * w ≤ length bytes → after ≡ written bytes (at * length r) r → length after ≡ length bytes
grown_length bytes after at cap w r e h b q = ap length q ∙ length_written bytes at r (row_within at cap (length r) w (length bytes) e h b)

pub at_other : {X : Type 0} (xs : List X) (i n : ℕ) (a x : X) → n < i → At xs n x → At (set xs i a) n x
at_other xs i n a x h at =
    let ne : n ≢ i = omega arith in
    record { below = simp length-set at.below; is = get_or-set_other xs i n a x ne ∙ at.is }

module _ {K : Type 0} (C : cost.Ghosts K) (task : Task) where
  pub joined_at : (s : Memory K) (n m : ℕ) (c rest : K) (p : ℕ) (noted : Record K) → At s.records n noted → p ≡ price task m → ((d : Record K) → rest ≡ (get_or s.records n d).cost)
      → C.value c ≡ C.arithmetic.joined (C.arithmetic.priced p) (C.value rest) → C.joins c ≡ 1 + C.joins rest → Joined C task s n m c
  joined_at s n m c rest p noted at ep er v j =
      let e : rest ≡ noted.cost = er noted ∙ ap (λ r. r.cost) at.is in
      record {
        noted = noted;
        there = at;
        value = subst (λ z. C.value c ≡ C.arithmetic.joined (C.arithmetic.priced z) (C.value noted.cost)) ep (subst (λ z. C.value c ≡ C.arithmetic.joined (C.arithmetic.priced p) (C.value z)) e v);
        joins = subst (λ z. C.joins c ≡ 1 + C.joins z) e j;
      }

module _ {K : Type 0} (C : cost.Ghosts K) (task : Task) (cap : ℕ) (acc : Accepted task) where
  grown_bytes : {n m : ℕ} {r : Row} {c : K} {s t : Memory K} → length r ≡ width task → s.stored < cap → cap * width task ≤ length s.bytes → Stored C task n m r c s t → length t.bytes ≡ length s.bytes
  grown_bytes {r = r} {s = s} e h b gr =
      let w = row_within s.stored cap (width task) (width task) (length s.bytes) refl h b in
      ap length gr.bytes ∙ length-paste s.bytes (s.stored * width task) r (length r) (omega (arith, add-mul s.stored 1 (width task), one-mul (width task))) (omega arith)

  grown_row : {n m k : ℕ} {r : Row} {c : K} {s t : Memory K} → length r ≡ width task → s.stored < cap → cap * width task ≤ length s.bytes → k < s.stored → Stored C task n m r c s t → row_at (width task) t.bytes k ≡ row_at (width task) s.bytes k
  grown_row {k = k} {r = r} {s = s} e h b lt gr =
      ap (λ z. row_at (width task) z k) gr.bytes
      ∙ row_below (width task) s.bytes k s.stored r e lt (row_within s.stored cap (width task) (width task) (length s.bytes) refl h b)

  pub ready_one : {n m : ℕ} {s t : Memory K} → Ready C task cap n s → One C task cap n m s t → Ready C task cap n t
  ready_one rd (unmoved q) = rd
  ready_one rd (covered q k) =
      let f = rd.fit in
      let sd = f.sound in
      record {
        fit = record { within = f.within; short = f.short; bytes = f.bytes; records = f.records; table = f.table; sound = record { node = sd.node; fit = sd.fit; noted = sd.noted; there = sd.there; joins = sd.joins } };
        roomy = rd.roomy;
      }
  ready_one {n} {m} {s} {t} rd (stores {r} {c} q u lt j gr) =
      let f = rd.fit in
      let sd = f.sound in
      let e : length r ≡ width task = fits_length task.values r (back_fits task m (row_at (width task) s.bytes n) r acc sd.fit q) in
      let lb = grown_bytes e lt f.bytes gr in
      let lr = ap length gr.records ∙ length-set s.records s.stored _ in
      let lw = length_permutation (record { cost = c; number = s.stored } ∷ s.waiting) t.waiting gr.waiting in
      record {
        fit = record {
          within = omega (arith, gr.stored);
          short = f.short;
          bytes = omega (arith, f.bytes);
          records = omega (arith, f.records);
          table = gr.table ∙ f.table;
          sound = record {
            node = omega (arith, sd.node, gr.stored);
            fit = ap (fits task.values) (grown_row e lt f.bytes sd.node gr) ∙ sd.fit;
            noted = sd.noted;
            there = subst (λ z. At z n sd.noted) (sym gr.records) (at_other s.records s.stored n _ sd.noted sd.node sd.there);
            joins = sd.joins;
          };
        };
        roomy = omega (arith, rd.roomy, gr.stored, gr.room);
      }

module _ {K : Type 0} (C : cost.Ghosts K) (task : Task) (cap : ℕ) where
  -- of what waits only the number counts
  pub ready_as_many : {n : ℕ} (s : Memory K) (w : List (Entry K)) → length w ≡ length s.waiting → Ready C task cap n s
      → Ready C task cap n (record { bytes = s.bytes; records = s.records; table = s.table; kept = s.kept; space = s.space; waiting = w; room = s.room; stored = s.stored; cover = s.cover })
  ready_as_many s w e rd =
      let f = rd.fit in
      let sd = f.sound in
      record {
        fit = record { within = f.within; short = f.short; bytes = f.bytes; records = f.records; table = f.table; sound = record { node = sd.node; fit = sd.fit; noted = sd.noted; there = sd.there; joins = sd.joins } };
        roomy = omega (arith, rd.roomy, e);
      }
