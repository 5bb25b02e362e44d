-- The answers of `least`. Assumes nothing.
use Rattle.std.proofs.Common.{◌∙◌}
use Rattle.tree.proofs.Finds.{seekable}
use Rattle.tree.proofs.Hunts.{first-least}
use Rattle.tree.proofs.Sealed.{known}
use Rattle.tree.proofs.search_tree.SearchTree.least.Goals as goal

pub least_from-requires-clause-tree : goal.least_from-requires-clause-tree
least_from-requires-clause-tree g c = let s = c.args.self.now in (seekable s.nodes.items s.head (known s).wf).is

pub returns : goal.returns
returns g c =
    let s = c.args.self.now in
    c.least_from.ensures ∙ first-least s.nodes.items s.head (known s).wf
