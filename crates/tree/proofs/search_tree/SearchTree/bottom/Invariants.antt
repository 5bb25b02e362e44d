-- What the loop of `bottom` keeps, and what falls. Assumes nothing.
use Rattle.std.proofs.Common.{suc, Some}
use Rattle.tree.specs.Tree.{tree_below, height}
use Rattle.tree.proofs.Feet.{Down}
use Rattle.tree.proofs.search_tree.SearchTree.bottom.Given as goal

abbrev pub invariant-loop-side : goal.invariant-loop-side
invariant-loop-side g l =
    let ns = l.self.nodes.items in
    let bits = l.self.head.width.bits in
    Down ns bits l.tip.at l.tip.under (tree_below (suc bits) ns (Some l.initial.tip.at)) l.initial.tip.under

abbrev pub decreases-loop-side : goal.decreases-loop-side
decreases-loop-side g l = height (tree_below (suc l.self.head.width.bits) l.self.nodes.items (Some l.tip.at))
