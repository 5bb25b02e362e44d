-- What the loop of `least_above` keeps, and what falls. Assumes nothing.
use Rattle.std.proofs.Common.{suc}
use Rattle.tree.specs.State.{tree_of}
use Rattle.tree.specs.Tree.{tree_below, height}
use Rattle.tree.proofs.Above.{next}
use Rattle.tree.proofs.Hunts.{Hunt}
use Rattle.tree.proofs.search_tree.SearchTree.least_above.Given as goal

abbrev pub invariant-loop-at : goal.invariant-loop-at
invariant-loop-at g l =
    let ns = l.self.nodes.items in
    let h = l.self.head in
    Hunt ns l.key h.width.bits l.at l.span.low l.span.half l.seen (next l.key h.width.bits 0 (tree_of ns h))

abbrev pub decreases-loop-at : goal.decreases-loop-at
decreases-loop-at g l = height (tree_below (suc l.self.head.width.bits) l.self.nodes.items l.at)
