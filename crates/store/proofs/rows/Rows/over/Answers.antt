-- That new rows are empty and within the most room. Assumes nothing.
use Rattle.std.proofs.Common.{arith}
use Rattle.store.proofs.Held.{held_none, rises-none, below_none, cut-capped}
use Rattle.store.proofs.rows.Rows.over.Goals as goal

pub invariant_of-result : goal.invariant_of-result
invariant_of-result g c = let cut = c.truncate.ensures.len in record { small = omega arith; within = omega arith; rising = rises-none _ _ (omega arith); valid = below_none _ _ _ (omega arith) }

pub returns : goal.returns
returns g c =
    let cut = c.truncate.ensures.len in
    record {
      room = cut-capped c.truncate.new.self.len c.args.rows.len (omega arith);
      entries = held_none _ _ (omega arith);
      slots = c.truncate.ensures.items;
    }
