use Rattle.std.proofs.Common.{◌+◌, ◌-◌, length, refl, arith}
use Rattle.task.proofs.Pieces.{over_part}
use Rattle.device.proofs.put.Goals as goal

pub returns : goal.returns
returns c =
    let piece = c.args.piece.now in
    let at = c.args.at in
    record {
      ends = refl;
      holds = over_part at (at + length piece - at) c.args.out.now piece c.copy_from_slice.new.self (omega arith) c.copy_from_slice.ensures.after (omega arith);
    }
