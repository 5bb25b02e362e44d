-- That no rows are the empty map. Assumes nothing.
use Rattle.std.proofs.Common.{refl, arith}
use Rattle.store.proofs.Held.{held_none, rises-none, below_none}
use Rattle.store.proofs.rows_store.RowsRecordStore.clear.Goals as goal

pub invariant_of-self : goal.invariant_of-self
invariant_of-self g c = record { small = c.args.self.now.small; within = omega arith; rising = rises-none _ _ (omega arith); valid = below_none _ _ _ (omega arith) }

pub returns : goal.returns
returns g c = record { room = refl; entries = held_none _ _ (omega arith); slots = refl }
