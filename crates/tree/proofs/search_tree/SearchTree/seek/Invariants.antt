-- What the loop of `seek` keeps, and what falls. Assumes nothing.
use Rattle.std.proofs.Common.{suc, None}
use Rattle.tree.specs.State.{tree_of}
use Rattle.tree.specs.Tree.{place_of, last_link, tree_below, height}
use Rattle.tree.proofs.Turns.{Turn}
use Rattle.tree.proofs.search_tree.SearchTree.seek.Given as goal

abbrev pub invariant-loop-at : goal.invariant-loop-at
invariant-loop-at g l =
    let ns = l.self.nodes.items in
    let h = l.self.head in
    Turn ns l.key h.width.bits l.at l.span.low l.span.half l.under (place_of l.key h.width.bits 0 (tree_of ns h)) (last_link l.key h.width.bits 0 (tree_of ns h) None)

abbrev pub decreases-loop-at : goal.decreases-loop-at
decreases-loop-at g l = height (tree_below (suc l.self.head.width.bits) l.self.nodes.items l.at)
