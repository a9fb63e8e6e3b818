-- How many nodes are stored, rows kept and steps done.
use Rattle.std.specs.Prelude.{◌≡◌, ℕ, ◌+◌, ◌*◌, ◌<◌, ◌≤◌, true, List, [], ◌∷◌, ◌++◌, length, refl}
use Rattle.std.proofs.Common.{sym, ◌∙◌, ap, subst, inl, inr, arith, mul-le-mul_left, mul-add, mul_comm, length-append}
use Rattle.cost.specs.Costs.{Arithmetic}
use Rattle.planning.specs.Lists.{In, Distinct}
use Rattle.planning.specs.Spaces.{Space, Lawful}
use Rattle.planning.proofs.Lists.{in_nth, in_push, distinct_push}
use Rattle.uniform.specs.Runs.{Node, Run, opened, Uncovered, Least, taken, keeping, child}
use Rattle.uniform.specs.Steps.{One, unmoved, covered, stored, Upto, none, more}
use Rattle.uniform.specs.Promises.{most}
use Rattle.uniform.proofs.Waits.{length_without}

module _ (a : Arithmetic) (p : Space) (law : Lawful p) where
  -- after i steps: each step took one node, each expansion stored at most one for each move
  pub record Tally (cap i : ℕ) (s : Run a p) : Type 0 where
    pub steps : i + length s.waiting ≡ length s.nodes
    pub within : length s.nodes ≤ cap
    pub stored : length s.nodes ≤ 1 + p.moves * length s.kept
    pub each : length s.kept ≤ i
    pub apart : Distinct s.kept
    pub fit : (r : p.Row) → In r s.kept → p.fits r ≡ true

  -- the same in the middle of an expansion that began with so many nodes
  pub record Counted (cap : ℕ) (s t : Run a p) (m : ℕ) : Type 0 where
    pub kept : t.kept ≡ s.kept
    pub grown : length t.nodes + length s.waiting ≡ length s.nodes + length t.waiting
    pub few : length t.nodes ≤ length s.nodes + m
    pub within : length t.nodes ≤ cap

  counted_one : {cap n m : ℕ} {x : Node a p} {s t u : Run a p} → Counted cap s t m → One a p cap n x m t u → Counted cap s u (m + 1)
  counted_one c (unmoved q) = record { kept = c.kept; grown = c.grown; few = omega (arith, c.few); within = c.within }
  counted_one c (covered q k) = record { kept = c.kept; grown = c.grown; few = omega (arith, c.few); within = c.within }
  counted_one {cap} {n} {m} {x} {s} {t} c (stored {r} q un lt) =
      let l = length-append t.nodes (child a p n x m r ∷ []) in
      let w = length-append t.waiting (length t.nodes ∷ []) in
      record { kept = c.kept; grown = omega (arith, c.grown); few = omega (arith, c.few); within = omega arith }

  pub counted_upto : {cap n : ℕ} {x : Node a p} {s : Run a p} → length s.nodes ≤ cap → {m : ℕ} {t : Run a p} → Upto a p cap n x s m t → Counted cap s t m
  counted_upto le none = record { kept = refl; grown = refl; few = omega arith; within = le }
  counted_upto le (more us o) = counted_one (counted_upto le us) o

  -- an uncovered row is not kept
  fresh : (rows : List p.Row) (r : p.Row) → Uncovered a p rows r → In r rows → ⊥
  fresh rows r u i = let h = in_nth rows r i in u h.0 (record { by = r; kept = h.1; over = law.itself r })

  -- with one more row kept, distinctness and fit stay
  apart_more : (rows : List p.Row) (r : p.Row) → Distinct rows → Uncovered a p rows r → Distinct (rows ++ r ∷ [])
  apart_more rows r d u = distinct_push r rows d (fresh rows r u)

  fit_more : (rows : List p.Row) (r : p.Row) → ((q : p.Row) → In q rows → p.fits q ≡ true) → p.fits r ≡ true → (q : p.Row) → In q (rows ++ r ∷ []) → p.fits q ≡ true
  fit_more rows r f fr q i = elim (in_push q r rows i) [ inl e ↦ subst (λ z. p.fits z ≡ true) (sym e) fr | inr j ↦ f q j ]

  -- so many kept rows, and no more nodes than they allow
  few_of : (k n : ℕ) → k ≤ p.many → n ≤ 1 + p.moves * k → n ≤ 1 + most p
  few_of k n le h = omega (arith, mul-le-mul_left p.moves le, mul_comm p.moves p.many)

  pub tally_few : {cap i : ℕ} {s : Run a p} → Tally cap i s → length s.nodes ≤ 1 + most p
  tally_few {cap} {i} {s} t = few_of (length s.kept) (length s.nodes) (law.few s.kept t.apart t.fit) t.stored

  pub tally_skip : {cap i n : ℕ} {x : Node a p} {s : Run a p} → Tally cap i s → Least a p s n x → Tally cap (i + 1) (taken a p s n)
  tally_skip {cap} {i} {n} {x} {s} t l = record {
    steps = omega (arith, t.steps, length_without n s.waiting l.waits);
    within = t.within;
    stored = t.stored;
    each = omega (arith, t.each);
    apart = t.apart;
    fit = t.fit;
  }

  -- an expansion that tried every move
  pub tally_spread : {cap i n : ℕ} {x : Node a p} {s t : Run a p} → Tally cap i s → Least a p s n x → Uncovered a p s.kept x.row → p.fits x.row ≡ true
      → Upto a p cap n x (keeping a p (taken a p s n) x.row) p.moves t → Tally cap (i + 1) t
  tally_spread {cap} {i} {n} {x} {s} {t} ta l un fr us =
      let c = counted_upto ta.within us in
      let kl : length t.kept ≡ length s.kept + 1 = ap length c.kept ∙ length-append s.kept (x.row ∷ []) in
      record {
        steps = omega (arith, ta.steps, length_without n s.waiting l.waits, c.grown);
        within = c.within;
        stored = omega (arith, c.few, ta.stored, ap (λ z. p.moves * z) kl, mul-add p.moves (length s.kept) 1);
        each = omega (arith, ta.each);
        apart = subst (λ z. Distinct z) (sym c.kept) (apart_more s.kept x.row ta.apart un);
        fit = subst (λ z. (q : p.Row) → In q z → p.fits q ≡ true) (sym c.kept) (fit_more s.kept x.row ta.fit fr);
      }

  -- one that found no space stored fewer nodes than every move of every row would need
  pub tally_crowd : {cap i n m : ℕ} {x : Node a p} {s t : Run a p} → Tally cap i s → Least a p s n x → Uncovered a p s.kept x.row → p.fits x.row ≡ true
      → Upto a p cap n x (keeping a p (taken a p s n) x.row) m t → m < p.moves → length t.nodes < 1 + most p
  tally_crowd {cap} {i} {n} {m} {x} {s} {t} ta l un fr us lt =
      let c = counted_upto ta.within us in
      let k = law.few (s.kept ++ x.row ∷ []) (apart_more s.kept x.row ta.apart un) (fit_more s.kept x.row ta.fit fr) in
      let kl = length-append s.kept (x.row ∷ []) in
      let le : length s.kept + 1 ≤ p.many = omega arith in
      omega (arith, c.few, ta.stored, mul-le-mul_left p.moves le, mul-add p.moves (length s.kept) 1, mul_comm p.moves p.many)

  pub tally_opened : {cap : ℕ} → 0 < cap → Tally cap 0 (opened a p)
  tally_opened pos = record { steps = refl; within = omega arith; stored = omega arith; each = omega arith; apart = tt; fit = λ r i. absurd i }
