-- The answers of `clear`. Assumes nothing.
use Rattle.tree.proofs.Sealed.{known}
use Rattle.tree.proofs.Keeps.{cleared}
use Rattle.tree.proofs.search_tree.record_store.SearchTreeRecordStore.clear.Goals as goal

pub invariant_of-self : goal.invariant_of-self
invariant_of-self g c =
    let s = c.args.self.now in
    let u = cleared g.K.Key.LIMIT s.nodes.items s.head.width c.empty-self.result c.empty-self.ensures (known s).wf.small (known s).digits in
    record { sound = ∣ u.0 ∣₁; counted = u.1 }
