use Rattle.dialogue.proofs.Order.{seen}
use Rattle.dialogue.proofs.table.Table.clear.Goals as goal

pub returns-clause-before : goal.returns-clause-before
returns-clause-before c = seen c.self.inside.rows c.self.inside.last c.args.self.now c.self.view_is c.self.invariant
