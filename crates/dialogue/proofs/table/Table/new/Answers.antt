use Rattle.dialogue.specs.Listed.{listed}
use Rattle.dialogue.proofs.Order.{none_orderly}
use Rattle.dialogue.proofs.table.Table.new.Goals as goal

pub returns-clause-table : goal.returns-clause-table
unfolding listed
returns-clause-table c = none_orderly _
