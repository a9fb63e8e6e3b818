-- How long a text can be.
use Rattle.std.proofs.Common.{◌≡◌, ℕ, zero, suc, ◌+◌, ◌*◌, ◌^◌, ◌<◌, ◌≤◌, true, false, ◌&&◌, leb, List, [], ◌∷◌, length, take, drop, Some, None, Ok, Err, Option, Result, refl, ap, ◌∙◌, subst, arith, length-append, length-take}
use Rattle.std.proofs.lemmas.Bool.{and_parts, leb-true, both_ways}
use Rattle.std.proofs.lemmas.Fmt.{length-decimal-le}
use Rattle.rows.specs.declared.refusals.Refusal.{Refusal}
use Rattle.rows.specs.Rows.{Move, all}
use Rattle.rows.specs.Tasks.{Task, nth, Accepted}
use Rattle.task.specs.Files.{Bodies, width, move_count, named, begins, printable, name_in, reading, task_of}
use Rattle.task.proofs.Readings.{read_parts}
use Rattle.cost.specs.Costs.{Arithmetic}
use Rattle.cost.specs.Kinds.{spend}
use Rattle.planning.specs.Plans.{plan_cost, price, price_of}
use Rattle.planning.specs.Regressions.{regression}
use Rattle.planning.specs.Spaces.{Space, Lawful}
use Rattle.uniform.specs.Runs.{Run, Reads}
use Rattle.uniform.specs.Steps.{Outcome, found, Step, ends, skips, finds, expands, crowds, Ends}
use Rattle.uniform.proofs.Goods.{found_cheapest, joins_few}
use Rattle.uniform.proofs.Chains.{reads_unique}
use Rattle.device.specs.Texts.{newline, name_text, name_of, name_line, name_lines, Puts}
use Rattle.device.specs.Answers.{capacity_of, Tells, plan, none, space, Shows, long, refused, searched, most, Enough}
use Rattle.device.proofs.Meanings.{accepted, law, apart}
use Rattle.device.proofs.Places.{plan_length}

-- a step that finds a node stores none
found_nodes : {a : Arithmetic} {p : Space} {cap : ℕ} {o : Outcome} {s t : Run a p} (k : ℕ) → Step a p cap s o t → o ≡ found k → s.nodes ≡ t.nodes
found_nodes k (ends w) e = apart e (λ y. omega arith)
found_nodes k (skips l c) e = apart e (λ y. omega arith)
found_nodes k (finds l u m) e = refl
found_nodes k (expands l u m v) e = apart e (λ y. omega arith)
found_nodes k (crowds l u m v w c) e = apart e (λ y. omega arith)

-- the moves read from the node that a run finds are fewer than its capacity
pub few_moves : (a : Arithmetic) (p : Space) → Lawful p → (cap i k : ℕ) (r : Run a p) (ms : List ℕ) → Ends a p cap i (found k) r → Reads a p r.nodes k ms → length ms < cap
few_moves a p ok cap i k r ms e g =
    let f = found_cheapest a p ok cap i k r e in
    let same : e.last.nodes ≡ r.nodes = found_nodes k e.step refl in
    let j = joins_few a p ok k cap e.before e.last f.node e.after (ap (λ z. nth z k) same ∙ f.there) in
    let one : j.0 ≡ ms = reads_unique a p (subst (λ z. Reads a p z k j.0) same j.1) g refl in
    omega (arith, j.4, ap length one)

-- no move costs more than 1,000,000,000
fair : (t : Task) → Accepted t → (o : Option Move) → ((m : Move) → o ≡ Some m → m.price ≤ 1000000000) → price_of o ≤ 1000000000
fair t acc None h = omega arith
fair t acc (Some m) h = h m refl

pub plan_amount : (t : Task) → Accepted t → (ms : List ℕ) → plan_cost spend t ms ≤ length ms * 1000000000
plan_amount t acc [] = omega arith
plan_amount t acc (m ∷ ms) =
    let here : price t m ≤ 1000000000 = fair t acc (nth t.moves m) (λ x e. (acc.move m x e).price) in
    omega (arith, plan_amount t acc ms)

-- no name has more than 40 bytes
name_short : (m base : ℕ) (bs : List ℕ) (k : ℕ) → named m bs ≡ true → length (name_text (name_in base bs k)) ≤ 40
name_short zero base [] k h = omega arith
name_short zero base (n ∷ rest) k h = absurd (both_ways false refl h)
name_short (suc m) base [] k h = omega arith
name_short (suc m) base (n ∷ rest) zero h =
    let b = (and_parts (begins (n ∷ rest)) (named m (drop n rest)) h).0 in
    let p = (and_parts (leb 1 n && leb n 40) (leb n (length rest) && all printable (take n rest)) b).0 in
    omega (arith, length-take n rest, leb-true n 40 (and_parts (leb 1 n) (leb n 40) p).1)
name_short (suc m) base (n ∷ rest) (suc k) h = name_short m (base + 1 + n) (drop n rest) k (and_parts (begins (n ∷ rest)) (named m (drop n rest)) h).1

names_short : (b : Bodies) → named (move_count b) b.names ≡ true → (ks : List ℕ) → length (name_lines b ks) ≤ length ks * 41
names_short b h [] = omega arith
names_short b h (k ∷ ks) =
    omega (arith, names_short b h ks, name_short (move_count b) 0 b.names k h, length-append (name_line b k) (name_lines b ks), length-append (name_of b k) newline)

tells_short : (input : List ℕ) (b : Bodies) {text : List ℕ} → reading input ≡ Ok b → Tells b text → length text ≤ most
tells_short input b g (plan {i} {k} {r} {ms} e rd) =
    let few = few_moves spend (regression (task_of b)) (law input b g).lawful (capacity_of (width b)) i k r ms e rd in
    let n = plan_cost spend (task_of b) ms in
    let low : n ≤ length ms * 1000000000 = plan_amount (task_of b) (accepted input b g) ms in
    let small : n < 10 ^ 13 = omega arith in
    let digits = length-decimal-le 13 n (omega arith) small (omega arith) in
    omega (arith, plan_length b n ms, names_short b (read_parts input b g).judged.named ms)
tells_short input b g (none e) = omega arith
tells_short input b g (space e) = omega arith

shows_short : (input : List ℕ) {text : List ℕ} → Shows input text → length text ≤ most
shows_short input (long l) = omega arith
shows_short input (refused l g) = omega arith
shows_short input (searched {b} l g t) = tells_short input b g t

-- what is put into the buffer is refused only if it is short
pub enough : (input text out after : List ℕ) (r : Result ℕ Refusal) → Shows input text → Puts text out r after → Enough out r
enough input text out after (Ok n) s p = tt
enough input text out after (Err e) s p = omega (arith, shows_short input s, p.1)
