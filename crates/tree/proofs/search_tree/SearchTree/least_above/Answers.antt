-- The answers of `least_above`. Assumes nothing.
use Rattle.std.proofs.Common.{ℕ, ◌+◌, ap, ◌∙◌, arith}
use Rattle.store.specs.Model.{first_from}
use Rattle.tree.specs.State.{tree_of, stored}
use Rattle.tree.proofs.Finds.{seekable}
use Rattle.tree.proofs.Hunts.{hunt_begin, hunt_turn, aside, hunt_none, next-first}
use Rattle.tree.proofs.Sealed.{known, short}
use Rattle.tree.proofs.Steps.{stand_ok, stand-fewer}
use Rattle.tree.proofs.Trees.{read}
use Rattle.tree.proofs.search_tree.SearchTree.least_above.Goals as goal

pub loop-at-init : goal.loop-at-init
loop-at-init g c =
    let s = c.args.self.now in
    let h = s.head in
    let u = known s in
    let r = seekable s.nodes.items h u.wf in
    let q = c.to_number-key.result in
    let lt = short s q c.to_number-key.ensures.below in
    simp (c.of-span.ensures.low, c.of-span.ensures.half) (hunt_begin (tree_of s.nodes.items h) c.default-seen.result c.default-seen.ensures.0 c.default-seen.ensures.1 r.root_is r.is r.inside h.width.halved lt h.width.some)

pub least_from-requires-clause-tree : goal.least_from-requires-clause-tree
least_from-requires-clause-tree g c = (aside c.loop-at.invariant).is

pub index-node-requires : goal.index-node-requires
index-node-requires g c = omega (arith, c.args.self.now.nodes.ok.0, stand_ok c.loop-at.invariant.here c.in-Some.is)

pub loop-at-preserved : goal.loop-at-preserved
loop-at-preserved g c =
    let n = c.index-node.result.now in
    let at = read c.args.self.now.nodes.items c.in-Some.i n (stand_ok c.loop-at.invariant.here c.in-Some.is) c.index-node.ensures in
    simp (c.child-at.ensures, c.on-span.ensures.low, c.on-span.ensures.half) (hunt_turn n c.loop-at.seen c.node.result c.beside-seen.result c.side_of-side.result c.loop-at.invariant c.in-Some.is at c.side_of-side.ensures c.node.ensures c.beside-seen.ensures)

pub loop-at-smaller : goal.loop-at-smaller
loop-at-smaller g c =
    let at = read c.args.self.now.nodes.items c.in-Some.i _ (stand_ok c.loop-at.invariant.here c.in-Some.is) c.index-node.ensures in
    simp c.child-at.ensures (stand-fewer c.index-node.result.now c.side_of-side.result c.loop-at.invariant.here c.in-Some.is at)

pub returns : goal.returns
returns g c =
    let s = c.args.self.now in
    let u = known s in
    let q = c.to_number-key.result in
    let lt = short s q c.to_number-key.ensures.below in
    c.least_from.ensures ∙ hunt_none c.loop-at.invariant c.in_default.is ∙ next-first s.nodes.items s.head q u.wf lt ∙ ap (λ (n : ℕ). first_from (stored s.nodes.items s.head) (n + 1)) c.to_number-key.ensures.is
