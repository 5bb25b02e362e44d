-- The answers of `put_new`. Assumes nothing.
use Rattle.std.proofs.Common.{◌≡◌, ℕ, length, sym, refl, ap, subst, arith}
use Rattle.tree.specs.Tree.{occurs, one, size}
use Rattle.tree.specs.State.{tree_of}
use Rattle.tree.specs.Writes.{Beside}
use Rattle.tree.proofs.Lent.{leaves_new}
use Rattle.tree.proofs.NewKey.{the_tree, link_ok}
use Rattle.tree.proofs.Sealed.{known}
use Rattle.tree.proofs.Trees.{one_same}
use Rattle.tree.proofs.search_tree.SearchTree.put_new.Goals as goal

pub attach-requires-clause-under : goal.attach-requires-clause-under
attach-requires-clause-under g c =
    let s = c.args.self.now in
    let new = c.args.spare.at in
    let here : one new new ≡ 1 = one_same new new refl in
    let out : occurs new (tree_of s.nodes.items s.head) ≡ 0 = omega (arith, c.requires.spare.apart new) in
    subst (λ (n : ℕ). Beside n new c.args.under) (ap length (sym c.deref_mut.ensures.value)) (link_ok s.nodes.items s.head (known s).wf _ new c.args.under out c.requires.missing.under_is)

pub grown-self-requires : goal.grown-self-requires
grown-self-requires g c =
    let s = c.args.self.now in
    let u = (known s).wf in
    omega (arith, u.count_is, u.small, ap size (the_tree s.nodes.items s.head u), c.requires.spare.used, c.requires.spare.within)

pub invariant_of-self : goal.invariant_of-self
invariant_of-self g c =
    let l = leaves_new c.args.self.now _ c.attach.new.nodes c.deref_mut.ensures.value c.attach.auto.nodes c.grown-self.result c.args.spare c.args.under _ _ c.args.v c.to_number.ensures.is c.grown-self.ensures c.requires.spare c.requires.missing c.attach.ensures in
    record { sound = l.sound; counted = l.counted }

pub returns-clause-entries : goal.returns-clause-entries
returns-clause-entries g c = (leaves_new c.args.self.now _ c.attach.new.nodes c.deref_mut.ensures.value c.attach.auto.nodes c.grown-self.result c.args.spare c.args.under _ _ c.args.v c.to_number.ensures.is c.grown-self.ensures c.requires.spare c.requires.missing c.attach.ensures).entries
