use Rattle.std.proofs.Common.{◌<◌, length}
use Rattle.queue.proofs.Scans.{First}
use Rattle.queue.proofs.scanned_row.first_of.Given as goal

abbrev pub invariant-loop-i : goal.invariant-loop-i
invariant-loop-i g l = (l.best < length l.row) × First g.K.Cost l.row l.i l.best
