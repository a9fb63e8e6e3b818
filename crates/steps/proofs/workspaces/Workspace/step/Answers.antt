use Rattle.std.proofs.Common.{refl, ◌∙◌}
use Rattle.steps.specs.Steps.{Taken}
use Rattle.steps.specs.Answers.{memory_in, task_in}
use Rattle.steps.proofs.Leasts.{same_number}
use Rattle.steps.proofs.Takings.{steady_taken, steady_fewer, takes_visit}
use Rattle.steps.proofs.workspaces.Workspace.step.Goals as goal

pub returns-clause-granted : goal.returns-clause-granted
returns-clause-granted g c = λ pos eg.
    let w = c.args.self.now in
    c.visit.ensures.granted (steady_fewer g.K.Cost (task_in w) w.progress.capacity (memory_in g.S.Store g.Q.Queue w) (g.Q.Queue.entries c.take.new.self) (g.Q.Queue.room c.take.new.self) c.in-Some.ensures.count c.take.ensures.room eg)

pub returns-clause-takes : goal.returns-clause-takes
returns-clause-takes g c = λ o nm eg.
    let w = c.args.self.now in
    let mid = record w { queue = record w.queue { now = c.take.new.self } } in
    let le = c.in-Some.ensures.entries o in
    let tk : Taken g.K.Cost (task_in w) c.in-Some.field-0 (memory_in g.S.Store g.Q.Queue w) (memory_in g.S.Store g.Q.Queue mid)
    = record { least = le.0; rest = le.1; bytes = refl; records = refl; kept = refl; table = refl; space = refl; room = c.take.ensures.room; stored = refl; cover = refl } in
    takes_visit g.K.Cost g.S.Store g.Q.Queue w mid c.visit.new.self c.in-Some.field-0 c.visit.result
    (record { accepted = refl; node = refl; capacity = refl; rows = refl; bytes = refl; noted = refl; records = refl; store = refl; queue = refl })
    (nm.2 ∙ same_number g.K.Cost _ nm.0 c.in-Some.field-0 nm.1 le.0) tk
    (c.visit.ensures.visits (c.take.ensures.ordered o) (steady_taken g.K.Cost (task_in w) w.progress.capacity eg tk))
