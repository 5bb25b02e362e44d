-- The answers of `key_digits`. Assumes nothing.
use Rattle.std.proofs.Common.{add-one}
use Rattle.tree.proofs.Depths.{way_short}
use Rattle.tree.proofs.Finds.{seekable}
use Rattle.tree.proofs.Sealed.{known}
use Rattle.tree.proofs.search_tree.SearchTree.key_digits.Goals as goal

pub returns-clause-short : goal.returns-clause-short
returns-clause-short g c =
    let s = c.args.self.now in
    let w = seekable s.nodes.items s.head (known s).wf in
    λ way down. rw add-one (way_short s.nodes.items s.head.width.bits 0 _ s.head.root w.root_is w.inside w.is way down)
