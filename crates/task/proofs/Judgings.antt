-- The bodies pass the reader's tests exactly if they are sound.
use Rattle.std.proofs.Common.{◌≡◌, ℕ, ◌*◌, ◌/◌, ◌%◌, ◌<◌, ◌≤◌, true, not, ◌&&◌, eqb, ltb, leb, List, length, get_or, sym, ap, ◌∙◌, mul-le-mul, div-add-mod', mul-div_cancel, arith}
use native.Mathlib.Nat.{mul-mod_left}
use Rattle.std.proofs.lemmas.Bool.{and_parts, and_from, leb-true, le-leb, ltb-true, lt-ltb, eqb-true, eq-eqb}
use Rattle.std.proofs.lemmas.Bool.Decides.{nat_tests}
use Rattle.rows.specs.Rows.{Row, Move, fits, fits_at, complete, complete_at, valued}
use Rattle.rows.proofs.Alls.{all_at, all_from}
use Rattle.rows.proofs.Both.{both_length, both_at, both_from}
use Rattle.task.specs.Files.{Bodies, width, record_size, move_count, counts, move_at, each, rows_fit, positions, named}
use Rattle.task.specs.Laws.{Allowed, Whole, Sound}
use Rattle.task.specs.Layouts.{total}
use Rattle.task.proofs.Eaches.{each_at, each_from}
use Rattle.task.proofs.NameLists.{named_short}
use Rattle.task.proofs.Readings.{Judged}
use Rattle.task.proofs.Spellings.{Spelled, spelled_from, named_from}

-- rows
value_tells : (n b : ℕ) → fits_at n b ≡ true → (b ≡ 255 → ⊥) → b < n
value_tells n b h d = grind (arith, nat_tests)

value_from : (n b : ℕ) → ((b ≡ 255 → ⊥) → b < n) → fits_at n b ≡ true
value_from n b h = grind (arith, nat_tests)

pub allowed_from : (values : List ℕ) (row : Row) → fits values row ≡ true → Allowed values row
allowed_from values row h = record {
  long = sym (both_length fits_at values row h);
  value = λ v l. value_tells (get_or values v 0) (get_or row v 0) (both_at fits_at values row h v l);
}

pub fits_from : (values : List ℕ) (row : Row) → Allowed values row → fits values row ≡ true
fits_from values row a = both_from fits_at values row (sym a.long) (λ v l. value_from (get_or values v 0) (get_or row v 0) (a.value v l))

whole_from : (values : List ℕ) (row : Row) → complete values row ≡ true → Whole values row
whole_from values row h = record {
  allowed = record {
    long = sym (both_length complete_at values row h);
    value = λ v l d. let t = both_at complete_at values row h v l in grind (arith, nat_tests);
  };
  defined = λ v l e. let t = both_at complete_at values row h v l in grind (arith, nat_tests);
}

complete_from : (values : List ℕ) (row : Row) → Whole values row → complete values row ≡ true
complete_from values row w = both_from complete_at values row (sym w.allowed.long)
    (λ v l. let d = w.defined v l in let x = w.allowed.value v l d in grind (arith, nat_tests))

-- lengths
pub record Counted (b : Bodies) : Type 0 where
  pub some : 1 ≤ width b
  pub few : width b ≤ 64
  pub start : length b.start ≡ width b
  pub goal : length b.goal ≡ width b
  pub records : length b.moves ≡ move_count b * record_size (width b)
  pub not_many : move_count b ≤ 4096

pub counted : (b : Bodies) → counts b ≡ true → Counted b
counted b h =
    let p = and_parts (ltb 0 (width b) && leb (width b) 64) _ h in
    let p' = and_parts (ltb 0 (width b)) (leb (width b) 64) p.0 in
    let q = and_parts (eqb (length b.start) (width b)) _ p.1 in
    let r = and_parts (eqb (length b.goal) (width b)) _ q.1 in
    let s = and_parts (eqb (length b.moves % record_size (width b)) 0) (leb (move_count b) 4096) r.1 in
    let rest = eqb-true (length b.moves % record_size (width b)) 0 s.0 in
    record {
      some = ltb-true 0 (width b) p'.0;
      few = leb-true (width b) 64 p'.1;
      start = eqb-true (length b.start) (width b) q.0;
      goal = eqb-true (length b.goal) (width b) r.0;
      records = omega (arith, div-add-mod' (length b.moves) (record_size (width b)), rest);
      not_many = leb-true (move_count b) 4096 s.1;
    }

module _ (b : Bodies) where
  pub sound_from : Judged b → Sound b
  sound_from j =
      let c = counted b j.counted in
      let p = and_parts (valued b.values) _ j.positioned in
      let q = and_parts (complete b.values b.start) _ p.1 in
      let r = and_parts (fits b.values b.goal) (each (λ k. rows_fit b.values (move_at (width b) b.moves k)) (move_count b)) q.1 in
      let s : Spelled (move_count b) b.names = spelled_from (move_count b) b.names j.named in
      record {
        some = c.some;
        few = c.few;
        valued = λ v l. let t = all_at (λ n. not (eqb n 0)) b.values p.0 v l in grind (arith, nat_tests);
        start = whole_from b.values b.start q.0;
        goal = allowed_from b.values b.goal r.0;
        count = move_count b;
        not_many = c.not_many;
        records = c.records;
        moves = λ k l.
            let m = move_at (width b) b.moves k in
            let f = and_parts (fits b.values m.condition) (fits b.values m.effect) (each_at (λ i. rows_fit b.values (move_at (width b) b.moves i)) (move_count b) r.1 k l) in
            record {
              price = leb-true m.price 1000000000 (each_at (λ i. leb (move_at (width b) b.moves i).price 1000000000) (move_count b) j.priced k l);
              condition = allowed_from b.values m.condition f.0;
              effect = allowed_from b.values m.effect f.1;
            };
        spellings = s.list;
        named = s.is;
        each_named = s.count;
        spelling = s.each;
      }

  module _ (s : Sound b) where
    moves_are : move_count b ≡ s.count
    moves_are = ap (λ n. n / record_size (width b)) s.records ∙ mul-div_cancel s.count {n = record_size (width b)} (omega arith)

    no_rest : length b.moves % record_size (width b) ≡ 0
    no_rest = ap (λ n. n % record_size (width b)) s.records ∙ mul-mod_left s.count (record_size (width b))

    pub judged_if_sound : Judged b
    judged_if_sound =
        let m = moves_are in
        let below : (k : ℕ) → k < move_count b → k < s.count = λ k l. omega arith in
        record {
          counted =
              and_from (ltb 0 (width b) && leb (width b) 64) _ (and_from (ltb 0 (width b)) (leb (width b) 64) (lt-ltb 0 (width b) s.some) (le-leb (width b) 64 s.few))
              (and_from (eqb (length b.start) (width b)) _ (eq-eqb (length b.start) (width b) s.start.allowed.long)
              (and_from (eqb (length b.goal) (width b)) _ (eq-eqb (length b.goal) (width b) s.goal.long)
              (and_from (eqb (length b.moves % record_size (width b)) 0) (leb (move_count b) 4096) (eq-eqb (length b.moves % record_size (width b)) 0 no_rest) (le-leb (move_count b) 4096 (omega (arith, m, s.not_many))))));
          positioned =
              and_from (valued b.values) _ (all_from (λ n. not (eqb n 0)) b.values (λ v l. let t = s.valued v l in grind (arith, nat_tests)))
              (and_from (complete b.values b.start) _ (complete_from b.values b.start s.start)
              (and_from (fits b.values b.goal) (each (λ k. rows_fit b.values (move_at (width b) b.moves k)) (move_count b)) (fits_from b.values b.goal s.goal)
              (each_from (λ k. rows_fit b.values (move_at (width b) b.moves k)) (move_count b)
              (λ k l. let w = s.moves k (below k l) in
              and_from (fits b.values (move_at (width b) b.moves k).condition) (fits b.values (move_at (width b) b.moves k).effect) (fits_from b.values _ w.condition) (fits_from b.values _ w.effect)))));
          priced = each_from (λ k. leb (move_at (width b) b.moves k).price 1000000000) (move_count b)
              (λ k l. le-leb (move_at (width b) b.moves k).price 1000000000 (s.moves k (below k l)).price);
          named = ap (λ n. named n b.names) (m ∙ sym s.each_named) ∙ ap (named (length s.spellings)) s.named ∙ named_from s.spellings s.spelling;
        }

-- sound bodies are not long: no sum of their lengths comes near 32 bits
pub not_long : (b : Bodies) → Judged b → total b < 4294967296
not_long b j =
    let c = counted b j.counted in
    let n = named_short (move_count b) b.names j.named in
    let r : record_size (width b) ≤ 132 = omega (arith, c.few) in
    let m : move_count b * record_size (width b) ≤ 4096 * 132 = mul-le-mul c.not_many r in
    omega (arith, c.few, c.start, c.goal, c.records, c.not_many, n, m)

-- conditions, effects and the goal have a byte for each variable
pub record Level (b : Bodies) (m : Move) : Type 0 where
  pub condition : length m.condition ≡ width b
  pub effect : length m.effect ≡ width b

pub level : (b : Bodies) → positions b ≡ true → (k : ℕ) → k < move_count b → Level b (move_at (width b) b.moves k)
level b h k l =
    let p = and_parts (valued b.values) _ h in
    let q = and_parts (complete b.values b.start) _ p.1 in
    let r = and_parts (fits b.values b.goal) (each (λ i. rows_fit b.values (move_at (width b) b.moves i)) (move_count b)) q.1 in
    let m = move_at (width b) b.moves k in
    let f = and_parts (fits b.values m.condition) (fits b.values m.effect) (each_at (λ i. rows_fit b.values (move_at (width b) b.moves i)) (move_count b) r.1 k l) in
    record { condition = sym (both_length fits_at b.values m.condition f.0); effect = sym (both_length fits_at b.values m.effect f.1) }
