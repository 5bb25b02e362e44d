-- The answers of `bottom`. Assumes nothing.
use Rattle.std.proofs.Common.{arith}
use Rattle.tree.proofs.Feet.{down_ok, down_end, down_on, down-fewer, down_begin}
use Rattle.tree.proofs.Removal.{ready}
use Rattle.tree.proofs.Sealed.{known}
use Rattle.tree.proofs.Trees.{read}
use Rattle.tree.proofs.search_tree.SearchTree.bottom.Goals as goal

pub loop-side-init : goal.loop-side-init
loop-side-init g c =
    let s = c.args.self.now in
    let r = ready s.nodes.items s.head (known s).wf c.requires.0 c.args.from.at c.requires.1.at-is in
    down_begin _ r.node r.is r.high

pub index-requires : goal.index-requires
index-requires g c = omega (arith, c.args.self.now.nodes.ok.0, down_ok c.loop-side.invariant)

pub loop-side-preserved : goal.loop-side-preserved
loop-side-preserved g c =
    let at = read c.args.self.now.nodes.items c.loop-side.tip.at _ (down_ok c.loop-side.invariant) c.index.ensures in
    down_on c.index.result.now c.in-Some.side c.loop-side.invariant at c.in-Some.ensures

pub loop-side-smaller : goal.loop-side-smaller
loop-side-smaller g c =
    let at = read c.args.self.now.nodes.items c.loop-side.tip.at _ (down_ok c.loop-side.invariant) c.index.ensures in
    down-fewer c.index.result.now c.in-Some.side c.loop-side.invariant at c.in-Some.ensures

pub returns : goal.returns
returns g c =
    let at = read c.args.self.now.nodes.items c.loop-side.tip.at _ (down_ok c.loop-side.invariant) c.index.ensures in
    down_end c.index.result.now c.loop-side.invariant at c.in_default.ensures.0 c.in_default.ensures.1
