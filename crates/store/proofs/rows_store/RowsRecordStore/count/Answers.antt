-- That there are as many keys as rows. Assumes nothing.
use Rattle.std.proofs.Common.{sym, arith}
use Rattle.store.specs.RowsLaws.{length-held}
use Rattle.store.proofs.rows_store.RowsRecordStore.count.Goals as goal

pub returns : goal.returns
returns g c = sym (length-held c.args.self.now.rows.items c.args.self.now.len (omega arith))
