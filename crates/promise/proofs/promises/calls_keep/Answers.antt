use Rattle.promise.proofs.Keeps.{always_kept}
use Rattle.promise.proofs.Repeats.{always_repeats}
use Rattle.promise.proofs.promises.calls_keep.Goals as goal

pub returns : goal.returns
returns g c = record { kept = always_kept g.K.Cost g.S.Store g.Q.Queue; repeated = always_repeats g.K.Cost g.S.Store g.Q.Queue g.R.Store g.P.Queue }
