-- The task in accepted bodies, and its moves as they are read from there.
use Rattle.std.proofs.Common.{◌≡◌, ℕ, zero, suc, ◌+◌, ◌<◌, ◌≤◌, Bool, true, false, ◌&&◌, ltb, leb, List, map, length, Some, None, Ok, Option, sym, refl, ap, ◌∙◌, subst, arith}
use Rattle.std.proofs.lemmas.Bool.{and_parts, and_from, leb-true}
use Rattle.std.proofs.lemmas.List.FromFn.{length-map-range_with_len}
use Rattle.std.specs.List.{range_with_len}
use Rattle.rows.specs.Rows.{Row, Move, fits_at, fits, complete, valued, pulled}
use Rattle.rows.specs.Calls.{Placing, placing, even}
use Rattle.rows.specs.Tasks.{Task, nth, MoveFits, Accepted}
use Rattle.rows.proofs.Both.{fits_length}
use Rattle.rows.proofs.Outcomes.{even_from}
use Rattle.task.specs.declared.tables.Step.{Step}
use Rattle.task.specs.Answers.{move_of, Steps}
use Rattle.task.specs.Files.{Bodies, move_count, move_at, counts, positions, prices, rows_fit, reading, task_of}
use Rattle.task.specs.Files as file
use Rattle.task.proofs.Eaches.{each_at}
use Rattle.task.proofs.Judgings.{counted}
use Rattle.task.proofs.Readings.{read_parts}
use Rattle.planning.proofs.Lists.{some_inj, none_some, nth_none, nth_below}
use Rattle.planning.specs.Plans.{price, price_of}
use Rattle.planning.specs.Regressions.{over}
use Rattle.steps.specs.Memories.{width}
use Rattle.steps.specs.Steps.{back}

nth_counting : {X : Type 0} (f : ℕ → X) (a n k j : ℕ) → a + k ≡ j → k < n → nth (map f (range_with_len a n)) k ≡ Some (f j)
nth_counting f a zero k j e h = absurd (omega arith)
nth_counting f a (suc n) zero j e h = ap (λ z. Some (f z)) (omega arith)
nth_counting f a (suc n) (suc k) j e h = nth_counting f (a + 1) n k j (omega arith) (omega arith)

-- as many moves as records
pub move_count_lem : (b : Bodies) → length (task_of b).moves ≡ move_count b
move_count_lem b = length-map-range_with_len (move_at (file.width b) b.moves) 0 (move_count b)

nth_move : (b : Bodies) (k : ℕ) → k < move_count b → nth (task_of b).moves k ≡ Some (move_at (file.width b) b.moves k)
nth_move b k h = nth_counting (move_at (file.width b) b.moves) 0 (move_count b) k k (omega arith) h

-- what the reader looked for makes the task an accepted one
pub accepted_task : (b : Bodies) → counts b ≡ true → positions b ≡ true → prices b ≡ true → Accepted (task_of b)
accepted_task b c p q =
    let cs = and_parts (ltb 0 (file.width b) && leb (file.width b) 64) _ c in
    let v = and_parts (valued b.values) _ p in
    let s = and_parts (complete b.values b.start) _ v.1 in
    let g = and_parts (fits b.values b.goal) _ s.1 in
    record {
      usable = and_from (ltb 0 (file.width b) && leb (file.width b) 64) (valued b.values) cs.0 v.0;
      start = s.0;
      goal = g.0;
      few = omega (arith, move_count_lem b, (counted b c).not_many);
      move = λ n m e.
          let lt : n < move_count b = omega (arith, nth_below (task_of b).moves n m e, move_count_lem b) in
          let is : move_at (file.width b) b.moves n ≡ m = some_inj (move_at (file.width b) b.moves n) m (sym (nth_move b n lt) ∙ e) in
          let r = and_parts _ _ (each_at (λ k. rows_fit b.values (move_at (file.width b) b.moves k)) (move_count b) g.1 n lt) in
          subst (λ z. MoveFits b.values z) is (record {
            price = leb-true _ 1000000000 (each_at (λ k. leb (move_at (file.width b) b.moves k).price 1000000000) (move_count b) q n lt);
            condition = r.0;
            effect = r.1;
          });
    }

-- so does a file that is read
pub accepted : (file : List ℕ) (b : Bodies) → reading file ≡ Ok b → Accepted (task_of b)
accepted file b h = let j = (read_parts file b h).judged in accepted_task b j.counted j.positioned j.priced

-- a move that is read is the task's
pub at_step : (b : Bodies) (k : ℕ) (s : Step) → Steps b k (Some s) → nth (task_of b).moves k ≡ Some (move_of s)
at_step b k s h = nth_move b k h.0 ∙ ap Some (sym h.1)

pub no_step : (b : Bodies) (k : ℕ) (g : Row) → move_count b ≤ k → back (task_of b) k g ≡ None
no_step b k g h = ap (λ o. over o g) (nth_none (task_of b).moves k (omega (arith, move_count_lem b)))

pub step_back : (b : Bodies) (k : ℕ) (s : Step) (g : Row) → Steps b k (Some s) → back (task_of b) k g ≡ pulled s.operator.condition.now s.operator.effect.now g
step_back b k s g h = ap (λ o. over o g) (at_step b k s h)

pub step_price : (b : Bodies) (k : ℕ) (s : Step) → Steps b k (Some s) → s.price ≡ price (task_of b) k
step_price b k s h = sym (ap price_of (at_step b k s h))

pub step_even : (b : Bodies) (k : ℕ) (s : Step) (g out : List ℕ) → Accepted (task_of b) → Steps b k (Some s) → length g ≡ width (task_of b) → length out ≡ width (task_of b)
    → even s.operator.condition.now s.operator.effect.now g out ≡ true
step_even b k s g out a h lg lo =
    let m = a.move k (move_of s) (at_step b k s h) in
    even_from s.operator.condition.now s.operator.effect.now g out (fits_length b.values s.operator.condition.now m.condition ∙ sym lg) (fits_length b.values s.operator.effect.now m.effect ∙ sym lg) (lo ∙ sym lg)

apart : {X : Type 0} → true ≡ false → X
apart e = let z : ◌≡◌ {A = ℕ} 0 1 = cc in absurd (omega arith)

-- what an answer of the row calls says of the regressed row
pub placed_yes : (e : Bool) (o : Option Row) (out new : List ℕ) → ◌≡◌ {A = Placing} (record { answer = true; buffer = new }) (placing e o out) → o ≡ Some new
placed_yes true None out new h = apart (ap (λ (p : Placing). p.answer) h)
placed_yes true (Some r) out new h = ap Some (sym (ap (λ (p : Placing). p.buffer) h))
placed_yes false o out new h = apart (ap (λ (p : Placing). p.answer) h)

pub placed_no : (e : Bool) (o : Option Row) (out new : List ℕ) → e ≡ true → ◌≡◌ {A = Placing} (record { answer = false; buffer = new }) (placing e o out) → o ≡ None
placed_no true None out new t h = refl
placed_no true (Some r) out new t h = apart (sym (ap (λ (p : Placing). p.answer) h))
placed_no false o out new t h = apart (sym t)

price_over : (t : Task) (o : Option Move) (g h : Row) → ((m : Move) → o ≡ Some m → MoveFits t.values m) → over o g ≡ Some h → price_of o ≤ 1000000000
price_over t None g h mf b = none_some h b
price_over t (Some m) g h mf b = (mf m refl).price

-- a move that regresses a row is one of the task's
pub fair_price : (t : Task) (m : ℕ) (g r : Row) → Accepted t → back t m g ≡ Some r → price t m ≤ 1000000000
fair_price t m g r a q = price_over t (nth t.moves m) g r (λ x e. a.move m x e) q
