-- What the loop of `least_from` keeps, and what falls. Assumes nothing.
use Rattle.std.proofs.Common.{suc}
use Rattle.tree.specs.Tree.{tree_below, height}
use Rattle.tree.specs.Order.{lesser, least}
use Rattle.tree.proofs.Hunts.{Sink}
use Rattle.tree.proofs.search_tree.SearchTree.least_from.Given as goal

abbrev pub invariant-loop-at : goal.invariant-loop-at
invariant-loop-at g l =
    let ns = l.self.nodes.items in
    let bits = l.self.head.width.bits in
    Sink ns bits l.at l.best (lesser l.initial.best (least (tree_below (suc bits) ns l.initial.at)))

abbrev pub decreases-loop-at : goal.decreases-loop-at
decreases-loop-at g l = height (tree_below (suc l.self.head.width.bits) l.self.nodes.items l.at)
