-- What a search in the device's memory tells, as the text that is shown of it.
use Rattle.std.proofs.Common.{◌≡◌, ℕ, List, ◌++◌, length, take, drop, Ok, Err, Result, sym, ap, ◌∙◌, subst, arith, length-append}
use Rattle.std.proofs.lemmas.List.{take_at}
use Rattle.rows.specs.declared.refusals.Refusal.{Refusal}
use Rattle.task.specs.Files.{Bodies, width, reading, task_of}
use Rattle.task.proofs.Readings.{read_parts}
use Rattle.task.proofs.Judgings.{counted}
use Rattle.cost.specs.Spends.{Spent, spent}
use Rattle.cost.specs.Kinds.{spend}
use Rattle.cost.specs.Limits.{limited}
use Rattle.planning.specs.Plans.{plan_cost}
use Rattle.planning.specs.Regressions.{regression}
use Rattle.uniform.specs.Steps.{Outcome, found, no_plan, out_of_space, Ends}
use Rattle.steps.specs.Memories.{Memory}
use Rattle.steps.specs.Begins.{capacity}
use Rattle.solver.specs.declared.solutions.Solved.{Solved}
use Rattle.solver.specs.declared.solutions.Solved.TheVariants.{Found, NoPlan, OutOfSpace}
use Rattle.solver.specs.Solutions.{Ended, Solution}
use Rattle.solver.specs.Solutions as solver
use Rattle.device.specs.Texts.{plan_text}
use Rattle.device.specs.Answers.{capacity_of, Tells, plan, none, space}
use Rattle.device.specs.Searches.{Searched}
use Rattle.device.proofs.Meanings.{ok_one, some_space}
use Rattle.device.proofs.Sizes.{read_usable, Sized, sized_new, sized_capacity}

module _ (file : List ℕ) (m : Memory Spent) where
  -- the text of a plan that was found
  tell_plan : (b : Bodies) (cap : ℕ) (out after ms : List ℕ) (k : Spent) (count : ℕ) → cap ≡ capacity_of (width b) → Solution spent b cap ms
      → limited k.amount k.moves ≡ plan_cost spend (task_of b) ms → count ≡ length ms → after ≡ ms ++ drop count out → Searched b after (Ok (Found k count))
  tell_plan b cap out after ms k count e s cost n w =
      let here : take count after ≡ ms = ap (take count) w ∙ take_at ms (drop count out) count (sym n) in
      let text : plan_text b (plan_cost spend (task_of b) ms) ms ≡ plan_text b (limited k.amount k.moves) (take count after)
      = ap (λ z. plan_text b z ms) (sym cost) ∙ ap (plan_text b (limited k.amount k.moves)) (sym here) in
      let ended = subst (λ z. Ends spend (regression (task_of b)) z s.ended.steps (found s.node) s.ended.run) e s.ended.ends in (
        omega (arith, ap length w, length-append ms (drop count out)),
        subst (λ z. Tells b z) text (plan ended s.reads),
      )

  module _ (b : Bodies) (reads : reading file ≡ Ok b) (sized : Sized b m) where
    same_capacity : capacity (task_of b) m ≡ capacity_of (width b)
    same_capacity = let j = (read_parts file b reads).judged in sized_capacity b m (read_usable b j.counted j.positioned) sized

    -- the run ended, at the device's capacity
    ended_at : (d : Bodies) (o : Outcome) → d ≡ b → Ended spent d (capacity (task_of d) m) o → Ended spent b (capacity_of (width b)) o
    ended_at d o e x = subst (λ z. Ended spent b z o) same_capacity (subst (λ z. Ended spent z (capacity (task_of z) m) o) e x)

    pub tells : (out after : List ℕ) (r : Result (Solved Spent) Refusal) → length out ≡ 1024 → solver.Tells spent file m out after r → Searched b after r
    tells out after (Ok (Found k count)) l h =
        let e : h.bodies ≡ b = ok_one h.bodies b (sym h.reads ∙ reads) in
        tell_plan b (capacity (task_of b) m) out after h.plan k count same_capacity
        (subst (λ z. Solution spent z (capacity (task_of z) m) h.plan) e h.solution)
        (subst (λ z. limited k.amount k.moves ≡ plan_cost spend (task_of z) h.plan) e h.cost) h.counted h.written
    tells out after (Ok NoPlan) l h =
        let e : h.0.bodies ≡ b = ok_one h.0.bodies b (sym h.0.reads ∙ reads) in
        none (ended_at h.0.bodies no_plan e h.0.ended).ends
    tells out after (Ok OutOfSpace) l h =
        let e : h.0.bodies ≡ b = ok_one h.0.bodies b (sym h.0.reads ∙ reads) in
        space (ended_at h.0.bodies out_of_space e h.0.ended).ends
    tells out after (Err x) l h =
        let c = counted b (read_parts file b reads).judged.counted in
        let pos = some_space (width b) c.some c.few in
        let s = (h.0.short b reads (sized_new b m sized) (omega (arith, same_capacity))).1 in
        omega (arith, s.1.few, s.2, same_capacity)
