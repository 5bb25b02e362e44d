-- That a search tree keeps to the laws of a store. Assumes nothing.
use Rattle.std.proofs.Common.{sym, subst}
use Rattle.std.proofs.Props.{props}
use Rattle.std.proofs.Math.Logic.{∥∥₁_elim}
use Rattle.std.specs.Prelude.{ℕ}
use Rattle.key.specs.declared.identity.Key.{Ghosts}
use Rattle.store.specs.Model.{Lawful}
use Rattle.tree.specs.declared.search_tree.SearchTree.{SearchTree}
use Rattle.tree.specs.State.{stored}

pub tree_lawful : {K V : Type 0} {key : Ghosts K} (s : SearchTree K V key) → Lawful key.LIMIT s.nodes.len (stored s.nodes.items s.head)
tree_lawful {key = key} s = subst (λ (n : ℕ). Lawful key.LIMIT n (stored s.nodes.items s.head)) (sym s.nodes.ok.0) (∥∥₁_elim s.sound (hlevel props) (λ u. u.lawful))
