-- Each input has one text, and what the texts mean.
use Rattle.std.proofs.Common.{◌≡◌, ℕ, ◌+◌, ◌*◌, ◌/◌, ◌<◌, ◌≤◌, true, false, List, ◌++◌, length, get_or, Ok, Err, codes, decimal, Result, sym, refl, ap, ◌∙◌, subst, inl, inr, arith}
use Rattle.std.proofs.lemmas.List.{append_cancel_left}
use Rattle.std.proofs.lemmas.Bool.{cases_lt, both_ways}
use Rattle.std.proofs.lemmas.Nat.{le-div}
use Rattle.rows.specs.Tasks.{Accepted}
use Rattle.task.specs.declared.faults.Fault.{Fault}
use Rattle.task.specs.Files.{Bodies, width, move_count, reading, task_of}
use Rattle.task.proofs.Readings.{read_parts}
use Rattle.task.proofs.Judgings.{counted}
use Rattle.cost.specs.Kinds.{spend}
use Rattle.planning.specs.Plans.{Plan, plan_cost, Cheapest}
use Rattle.planning.specs.Regressions.{regression, row_count, Regresses}
use Rattle.planning.proofs.Regressions.{regression_lawful, best_cheapest}
use Rattle.uniform.specs.Runs.{Run, Reads}
use Rattle.uniform.specs.Steps.{Outcome, skipped, expanded, found, no_plan, out_of_space, going, Ends}
use Rattle.uniform.specs.Promises.{Alike}
use Rattle.uniform.specs.Promises as uniform
use Rattle.uniform.proofs.Goods.{found_cheapest, no_plan_none, few_nodes}
use Rattle.uniform.proofs.Chains.{reads_unique}
use Rattle.uniform.proofs.Endings.{ends_by}
use Rattle.uniform.proofs.Alikes.{go_alike}
use Rattle.steps.proofs.Tasks.{accepted_task, move_count_lem}
use Rattle.device.specs.Texts.{newline, name_lines, plan_text}
use Rattle.device.specs.Answers.{longest, capacity_of, too_long, refused_file, no_plan_text, out_of_space_text, Tells, plan, none, space, Shows, long, refused, searched, OneText, Cheap, CostMeans, NoneMeans, SpaceMeans}

pub accepted : (file : List ℕ) (b : Bodies) → reading file ≡ Ok b → Accepted (task_of b)
accepted file b h = let j = (read_parts file b h).judged in accepted_task b j.counted j.positioned j.priced

pub law : (file : List ℕ) (b : Bodies) → reading file ≡ Ok b → Regresses (task_of b)
law file b h = regression_lawful (task_of b) (accepted file b h)

pub ok_one : (x y : Bodies) → ◌≡◌ {A = Result Bodies Fault} (Ok x) (Ok y) → x ≡ y
ok_one x y e = cc

-- outcomes of different kinds
abbrev pub kind : Outcome → ℕ
kind skipped = 0
kind expanded = 1
kind (found k) = 2
kind no_plan = 3
kind out_of_space = 4

pub apart : {X : Type 0} {o q : Outcome} → o ≡ q → (kind o ≡ kind q → ⊥) → X
apart e differ = absurd (differ (ap kind e))

ok_err : {X : Type 0} (x : Bodies) (e : Fault) → ◌≡◌ {A = Result Bodies Fault} (Ok x) (Err e) → X
ok_err x e h = let z : ◌≡◌ {A = ℕ} 0 1 = cc in absurd (omega arith)

-- a run with space for a node at least
pub some_space : (v : ℕ) → 1 ≤ v → v ≤ 64 → 0 < capacity_of v
some_space v l h = let q : 1 ≤ 4096 / v = le-div 1 4096 v l (omega arith) in omega arith

found_one : (k m : ℕ) → found k ≡ found m → k ≡ m
found_one k m e = cc

module _ (b : Bodies) (ok : Regresses (task_of b)) where
  -- two runs that end, the first with space left, end alike
  alike : {i j : ℕ} {o q : Outcome} {r s : Run spend (regression (task_of b))} → Ends spend (regression (task_of b)) (capacity_of (width b)) i o r → Ends spend (regression (task_of b)) (capacity_of (width b)) j q s
      → (o ≡ out_of_space → ⊥) → (q ≡ o) × Alike r s
  alike {i} {j} {o} {q} {r} {s} e f sp =
      let h = (go_alike spend (regression (task_of b)) ok.lawful (capacity_of (width b)) (capacity_of (width b)) (omega arith)).at_end i j o q r s e f sp in
      (h.1, h.2)

  same_moves : {i j k m : ℕ} {r s : Run spend (regression (task_of b))} {ms ns : List ℕ} → Ends spend (regression (task_of b)) (capacity_of (width b)) i (found k) r → Ends spend (regression (task_of b)) (capacity_of (width b)) j (found m) s
      → Reads spend (regression (task_of b)) r.nodes k ms → Reads spend (regression (task_of b)) s.nodes m ns → ms ≡ ns
  same_moves {k = k} {m = m} {r = r} {s = s} {ns = ns} e f g h =
      let a = alike e f (λ x. apart x (λ y. omega arith)) in
      reads_unique spend (regression (task_of b)) g (subst (λ z. Reads spend (regression (task_of b)) z m ns) (sym a.1.nodes) h) (found_one k m (sym a.0))

  -- the search tells one text
  tells_one : {text other : List ℕ} → Tells b text → Tells b other → other ≡ text
  tells_one (plan e g) (plan f h) = ap (λ x. plan_text b (plan_cost spend (task_of b) x) x) (sym (same_moves e f g h))
  tells_one (plan e g) (none f) = apart (alike e f (λ x. apart x (λ y. omega arith))).0 (λ y. omega arith)
  tells_one (plan e g) (space f) = apart (alike e f (λ x. apart x (λ y. omega arith))).0 (λ y. omega arith)
  tells_one (none e) (plan f h) = apart (alike e f (λ x. apart x (λ y. omega arith))).0 (λ y. omega arith)
  tells_one (none e) (none f) = refl
  tells_one (none e) (space f) = apart (alike e f (λ x. apart x (λ y. omega arith))).0 (λ y. omega arith)
  tells_one (space e) (plan f h) = apart (alike f e (λ x. apart x (λ y. omega arith))).0 (λ y. omega arith)
  tells_one (space e) (none f) = apart (alike f e (λ x. apart x (λ y. omega arith))).0 (λ y. omega arith)
  tells_one (space e) (space f) = refl

  -- a plan that is told is a cheapest one
  tells_cheapest : {i k : ℕ} {r : Run spend (regression (task_of b))} {ms : List ℕ} → Ends spend (regression (task_of b)) (capacity_of (width b)) i (found k) r
      → Reads spend (regression (task_of b)) r.nodes k ms → Cheapest spend (task_of b) ms
  tells_cheapest {i} {k} {r} {ms} e g =
      let f = found_cheapest spend (regression (task_of b)) ok.lawful (capacity_of (width b)) i k r e in
      subst (λ z. Cheapest spend (task_of b) z) (sym (f.only ms g)) (best_cheapest spend (task_of b) ok f.moves f.best)

  -- how a run ended can be told
  told : {i : ℕ} {r : Run spend (regression (task_of b))} (o : Outcome) → going o ≡ false → Ends spend (regression (task_of b)) (capacity_of (width b)) i o r → (text : List ℕ) × Tells b text
  told skipped g e = absurd (both_ways true g refl)
  told expanded g e = absurd (both_ways true g refl)
  told {i} {r} (found k) g e =
      let f = found_cheapest spend (regression (task_of b)) ok.lawful (capacity_of (width b)) i k r e in
      (plan_text b (plan_cost spend (task_of b) f.moves) f.moves, plan e f.reads)
  told no_plan g e = (no_plan_text, none e)
  told out_of_space g e = (out_of_space_text, space e)

  some_text : 0 < capacity_of (width b) → (text : List ℕ) × Tells b text
  some_text pos =
      let h = (ends_by spend (regression (task_of b)) ok.lawful (capacity_of (width b))).some pos in
      told h.1 h.3.ended h.3

-- the texts of an input are one
shows_one : {input text other : List ℕ} → Shows input text → Shows input other → other ≡ text
shows_one (long l) (long m) = refl
shows_one (long l) (refused m h) = absurd (omega arith)
shows_one (long l) (searched m h t) = absurd (omega arith)
shows_one (refused l g) (long m) = absurd (omega arith)
shows_one (refused l g) (refused m h) = refl
shows_one (refused {e} l g) (searched {b} m h t) = ok_err b e (sym h ∙ g)
shows_one (searched l g s) (long m) = absurd (omega arith)
shows_one (searched {b} l g s) (refused {e} m h) = ok_err b e (sym g ∙ h)
shows_one {input} {text} {other} (searched {b} l g s) (searched {b = d} m h t) =
    tells_one b (law input b g) s (subst (λ z. Tells z other) (ok_one d b (sym h ∙ g)) t)

read_text : (input : List ℕ) → length input ≤ longest → (r : Result Bodies Fault) → reading input ≡ r → (text : List ℕ) × Shows input text
read_text input l (Err e) h = (refused_file, refused l h)
read_text input l (Ok b) h =
    let c = counted b (read_parts input b h).judged.counted in
    let t = some_text b (law input b h) (some_space (width b) c.some c.few) in
    (t.0, searched l h t.1)

pub one_text : OneText
one_text input =
    let t : (text : List ℕ) × Shows input text = elim (cases_lt longest (length input)) [ inl l ↦ (too_long, long l) | inr l ↦ read_text input l (reading input) refl ] in
    (t.0, t.1, λ other s. shows_one t.1 s)

-- texts that begin with other letters
other_text : {X : Type 0} (s t : List ℕ) → s ≡ t → (get_or s 0 0 ≡ get_or t 0 0 → ⊥) → X
other_text s t e no_way = absurd (no_way (ap (λ x. get_or x 0 0) e))

cost_tells : (input : List ℕ) (b : Bodies) (rest : List ℕ) {text : List ℕ} → reading input ≡ Ok b → Tells b text → text ≡ codes "cost " ++ rest → Cheap input rest
cost_tells input b rest g (plan {ms = ms} e r) h = record {
  bodies = b;
  reads = g;
  moves = ms;
  cheapest = tells_cheapest b (law input b g) e r;
  is = sym (append_cancel_left (codes "cost ") ((decimal (plan_cost spend (task_of b) ms) ++ newline) ++ name_lines b ms) rest h);
}
cost_tells input b rest g (none e) h = other_text no_plan_text (codes "cost " ++ rest) h (λ x. omega arith)
cost_tells input b rest g (space e) h = other_text out_of_space_text (codes "cost " ++ rest) h (λ x. omega arith)

cost_from : (input rest : List ℕ) {text : List ℕ} → Shows input text → text ≡ codes "cost " ++ rest → Cheap input rest
cost_from input rest (long l) h = other_text too_long (codes "cost " ++ rest) h (λ x. omega arith)
cost_from input rest (refused l g) h = other_text refused_file (codes "cost " ++ rest) h (λ x. omega arith)
cost_from input rest (searched {b} l g t) h = cost_tells input b rest g t h

pub cost_means : CostMeans
cost_means input rest s = cost_from input rest s refl

none_tells : (input : List ℕ) (b : Bodies) (ms : List ℕ) {text : List ℕ} → reading input ≡ Ok b → Tells b text → text ≡ no_plan_text → Plan (task_of b) ms → ⊥
none_tells input b ms g (plan {ms = ns} e r) h pl = other_text (plan_text b (plan_cost spend (task_of b) ns) ns) no_plan_text h (λ x. omega arith)
none_tells input b ms g (none {i} {r} e) h pl =
    let ok = law input b g in
    no_plan_none spend (regression (task_of b)) ok.lawful (capacity_of (width b)) i r ms e ((ok.plans ms).0 pl)
none_tells input b ms g (space e) h pl = other_text out_of_space_text no_plan_text h (λ x. omega arith)

none_from : (input : List ℕ) (b : Bodies) (ms : List ℕ) {text : List ℕ} → Shows input text → text ≡ no_plan_text → reading input ≡ Ok b → Plan (task_of b) ms → ⊥
none_from input b ms (long l) h g pl = other_text too_long no_plan_text h (λ x. omega arith)
none_from input b ms (refused {e} l k) h g pl = ok_err b e (sym g ∙ k)
none_from input b ms (searched {b = d} l k t) h g pl = none_tells input d ms k t h (subst (λ z. Plan (task_of z) ms) (ok_one b d (sym g ∙ k)) pl)

pub none_means : NoneMeans
none_means input b ms s g pl = none_from input b ms s refl g pl

space_tells : (input : List ℕ) (b : Bodies) {text : List ℕ} → reading input ≡ Ok b → Tells b text → text ≡ out_of_space_text → capacity_of (width b) < 1 + row_count b.values * move_count b
space_tells input b g (plan {ms = ms} e r) h = other_text (plan_text b (plan_cost spend (task_of b) ms) ms) out_of_space_text h (λ x. omega arith)
space_tells input b g (none e) h = other_text no_plan_text out_of_space_text h (λ x. omega arith)
space_tells input b g (space {i} {r} e) h =
    let same : uniform.most (regression (task_of b)) ≡ row_count b.values * move_count b = ap (λ z. row_count b.values * z) (move_count_lem b) in
    elim (cases_lt (capacity_of (width b)) (1 + row_count b.values * move_count b)) [
      | inl l ↦ l
      | inr ge ↦ absurd ((few_nodes spend (regression (task_of b)) (law input b g).lawful).space (capacity_of (width b)) i r (omega (arith, same)) e)
    ]

space_from : (input : List ℕ) (b : Bodies) {text : List ℕ} → Shows input text → text ≡ out_of_space_text → reading input ≡ Ok b → capacity_of (width b) < 1 + row_count b.values * move_count b
space_from input b (long l) h g = other_text too_long out_of_space_text h (λ x. omega arith)
space_from input b (refused {e} l k) h g = ok_err b e (sym g ∙ k)
space_from input b (searched {b = d} l k t) h g =
    subst (λ z. capacity_of (width z) < 1 + row_count z.values * move_count z) (ok_one d b (sym k ∙ g)) (space_tells input d k t h)

pub space_means : SpaceMeans
space_means input b s g = space_from input b s refl g
