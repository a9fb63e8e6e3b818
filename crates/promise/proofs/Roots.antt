-- Node 0 of a run stays the goal's own node, at the cost of nothing.
use Rattle.std.proofs.Common.{◌≡◌, ℕ, Some, refl, ◌∙◌}
use Rattle.rows.specs.Tasks.{nth}
use Rattle.cost.specs.Costs.{Arithmetic}
use Rattle.planning.specs.Spaces.{Space}
use Rattle.planning.proofs.Lists.{nth_below, nth_left}
use Rattle.uniform.specs.Runs.{Node, Run, root}
use Rattle.uniform.specs.Steps.{Outcome, unmoved, covered, stored, Upto, none, more, Step, ends, skips, finds, expands, crowds, After, opening, onward, Ends}

module _ (a : Arithmetic) (p : Space) (cap : ℕ) where
  -- node 0 is the root
  abbrev pub Rooted : Run a p → Type 0
  Rooted s = nth s.nodes 0 ≡ Some (root a p)

  upto_rooted : {n : ℕ} {x : Node a p} {s : Run a p} {m : ℕ} {t : Run a p} → Upto a p cap n x s m t → Rooted s → Rooted t
  upto_rooted none h = h
  upto_rooted (more us (unmoved b)) h = upto_rooted us h
  upto_rooted (more us (covered b c)) h = upto_rooted us h
  upto_rooted (more {t = t} us (stored b u lt)) h =
      let k : Rooted t = upto_rooted us h in
      nth_left t.nodes _ 0 (nth_below t.nodes 0 (root a p) k) ∙ k

  step_rooted : {s t : Run a p} {o : Outcome} → Step a p cap s o t → Rooted s → Rooted t
  step_rooted (ends e) h = h
  step_rooted (skips l c) h = h
  step_rooted (finds l u m) h = h
  step_rooted (expands l u m us) h = upto_rooted us h
  step_rooted (crowds l u m us lt c) h = upto_rooted us h

  pub after_rooted : {i : ℕ} {s : Run a p} → After a p cap i s → Rooted s
  after_rooted (opening pos) = refl
  after_rooted (onward af g st) = step_rooted st (after_rooted af)

  pub ends_rooted : {i : ℕ} {o : Outcome} {t : Run a p} → Ends a p cap i o t → Rooted t
  ends_rooted e = step_rooted e.step (after_rooted e.after)
