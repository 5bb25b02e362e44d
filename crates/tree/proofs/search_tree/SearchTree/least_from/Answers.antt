-- The answers of `least_from`. Assumes nothing.
use Rattle.std.proofs.Common.{arith}
use Rattle.tree.proofs.Hunts.{sink_begin, sink_ok, sink_down, sink-fewer}
use Rattle.tree.proofs.Trees.{read}
use Rattle.tree.proofs.search_tree.SearchTree.least_from.Goals as goal

pub loop-at-init : goal.loop-at-init
loop-at-init g c = sink_begin c.args.self.now.head.width.bits c.requires.link c.requires.tree

pub index-node-requires : goal.index-node-requires
index-node-requires g c = omega (arith, c.args.self.now.nodes.ok.0, sink_ok c.loop-at.invariant c.in-Some.is)

pub loop-at-preserved : goal.loop-at-preserved
loop-at-preserved g c =
    let at = read c.args.self.now.nodes.items c.in-Some.i _ (sink_ok c.loop-at.invariant c.in-Some.is) c.index-node.ensures in
    simp (c.lesser_of-best.ensures, c.or-at.ensures) (sink_down c.index-node.result.now c.loop-at.invariant c.in-Some.is at)

pub loop-at-smaller : goal.loop-at-smaller
loop-at-smaller g c =
    let at = read c.args.self.now.nodes.items c.in-Some.i _ (sink_ok c.loop-at.invariant c.in-Some.is) c.index-node.ensures in
    simp c.or-at.ensures (sink-fewer c.index-node.result.now c.loop-at.invariant c.in-Some.is at)
