use Rattle.follow.proofs.Promises.{jobs_never_refused, jobs_cheapest, jobs_complete}
use Rattle.follow.proofs.Uses.{others_use}
use Rattle.follow.proofs.jobs.jobs_tell.Goals as goal

pub returns : goal.returns
returns g c =
    let C = g.K.Cost in
    let st = g.S.Store in
    let qu = g.Q.Queue in
    record { never = jobs_never_refused C st qu; cheapest = jobs_cheapest C st qu; complete = jobs_complete C st qu; uses = others_use C st qu }
