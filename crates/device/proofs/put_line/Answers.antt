use Rattle.std.proofs.Common.{arith}
use Rattle.device.proofs.Places.{placed_then}
use Rattle.device.proofs.put_line.Goals as goal

pub returns : goal.returns
returns c = placed_then (omega arith) c.put-end.ensures c.put.ensures
