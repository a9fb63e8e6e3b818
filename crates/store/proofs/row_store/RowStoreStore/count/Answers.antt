use Rattle.std.proofs.Common.{length, sym}
use Rattle.store.specs.Blocks.{length_rows}
use Rattle.store.proofs.row_store.RowStoreStore.count.Goals as goal

pub returns : goal.returns
returns c = sym (length_rows (length c.args.self.now.values.now) c.args.self.now.count c.args.self.now.bytes.now)
