-- The answers of `seek`. Assumes nothing.
use Rattle.std.proofs.Common.{sym, subst, arith}
use Rattle.tree.specs.State.{Held, tree_of}
use Rattle.tree.proofs.Finds.{seekable}
use Rattle.tree.proofs.Sealed.{known, short}
use Rattle.tree.proofs.Turns.{found, go_on, begin}
use Rattle.tree.proofs.Steps.{stand_ok, stand-fewer}
use Rattle.tree.proofs.Trees.{read}
use Rattle.tree.proofs.search_tree.SearchTree.seek.Goals as goal

pub loop-at-init : goal.loop-at-init
loop-at-init g c =
    let s = c.args.self.now in
    let h = s.head in
    let u = known s in
    let r = seekable s.nodes.items h u.wf in
    let q = c.to_number-key.result in
    let lt = short s q c.to_number-key.ensures.below in
    simp (c.of-span.ensures.low, c.of-span.ensures.half) (begin (tree_of s.nodes.items h) r.root_is r.is r.inside h.width.halved lt h.width.some)

pub index-node-requires : goal.index-node-requires
index-node-requires g c = omega (arith, c.args.self.now.nodes.ok.0, stand_ok c.loop-at.invariant.here c.in-Some.is)

pub loop-at-preserved : goal.loop-at-preserved
loop-at-preserved g c =
    let at = read c.args.self.now.nodes.items c.in-Some.i _ (stand_ok c.loop-at.invariant.here c.in-Some.is) c.index-node.ensures in
    simp (c.child-at.ensures, c.on-span.ensures.low, c.on-span.ensures.half) (go_on c.index-node.result.now c.side_of-side.result c.loop-at.invariant c.in-Some.is at c.if-node-key.false c.side_of-side.ensures)

pub returns-then-node-key : goal.returns-then-node-key
returns-then-node-key g c =
    let s = c.args.self.now in
    let at = read s.nodes.items c.in-Some.i _ (stand_ok c.loop-at.invariant.here c.in-Some.is) c.index-node.ensures in
    let f = found c.index-node.result.now (rw c.in-Some.is at c.loop-at.invariant) at c.if-node-key.true in
    subst (λ n. Held g.K.Key.LIMIT s.nodes.items s.head n (record { at = c.in-Some.i; under = c.loop-at.under })) c.to_number-key.ensures.is
    (record { below = c.to_number-key.ensures.below; at-is = f.0; under_is = sym f.1 })

pub loop-at-smaller : goal.loop-at-smaller
loop-at-smaller g c =
    let at = read c.args.self.now.nodes.items c.in-Some.i _ (stand_ok c.loop-at.invariant.here c.in-Some.is) c.index-node.ensures in
    simp c.child-at.ensures (stand-fewer c.index-node.result.now c.side_of-side.result c.loop-at.invariant.here c.in-Some.is at)
