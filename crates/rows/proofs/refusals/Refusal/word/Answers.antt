use Rattle.rows.proofs.refusals.Refusal.word.Goals as goal

pub returns-in-ShortBuffer : goal.returns-in-ShortBuffer
returns-in-ShortBuffer c = let e = c.in-ShortBuffer.is in rw e
