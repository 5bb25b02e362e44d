-- What the walk to a key finds. Assumes nothing.
use Rattle.std.proofs.Common.{◌≡◌, ℕ, ◌^◌, ◌<◌, true, List, [], length, Some, None, Option, Ok, Err, Result, sym, refl, ap, ◌∙◌, subst, arith}
use Rattle.std.specs.List.{slice_get}
use Rattle.std.specs.Result.{result_ok}
use Rattle.std.proofs.lemmas.Option.{same_Some}
use Rattle.store.specs.Model.{at, holds}
use Rattle.key.specs.declared.identity.Key.{Ghosts}
use Rattle.tree.specs.declared.head.Head.{Head}
use Rattle.tree.specs.declared.links.Link.{Link}
use Rattle.tree.specs.declared.links.Place.{Place}
use Rattle.tree.specs.declared.node.Node.{Node}
use Rattle.tree.specs.declared.search_tree.SearchTree.{SearchTree}
use Rattle.tree.specs.State.{WellFormed, Held, Missing, Sought, tree_of, stored}
use Rattle.tree.specs.Tree.{Tree, fork, node_of, link, Laid, Inside, place_of, pour, record_of}
use Rattle.tree.proofs.Maps.{holds-some}
use Rattle.tree.proofs.Entries.{yes_eq, get}
use Rattle.tree.proofs.NewKey.{the_tree, get_tree}
use Rattle.tree.proofs.Removal.{topped, val_is_end, ready}
use Rattle.tree.proofs.Sealed.{known, short}
use Rattle.tree.proofs.Trees.{val_none}

module _ {V : Type 0} where
  pub record Seekable (ns : List (Node V)) (h : Head) : Type 0 where
    pub root_is : h.root ≡ link (tree_of ns h)
    pub is : Laid ns (tree_of ns h)
    pub inside : Inside h.width.bits 0 (tree_of ns h)

  pub seekable : (ns : List (Node V)) (h : Head) → WellFormed ns h → Seekable ns h
  seekable ns h u = let tr = sym (the_tree ns h u) in
      record { root_is = u.root_is ∙ ap link tr; is = subst (Laid ns) tr u.is; inside = subst (Inside h.width.bits 0) tr u.inside }

  pub find_none : (ns : List (Node V)) (h : Head) (u : WellFormed ns h) (q : ℕ) → q < 2 ^ h.width.bits → place_of q h.width.bits 0 (tree_of ns h) ≡ None → get q (stored ns h) ≡ None
  find_none ns h u q lt lo =
      get_tree q (tree_of ns h) ∙ val_none q h.width.bits 0 (tree_of ns h) (seekable ns h u).inside (omega arith, omega arith) lo

  pub find_some : (ns : List (Node V)) (h : Head) (u : WellFormed ns h) (q i : ℕ) (n : Node V) → q < 2 ^ h.width.bits → place_of q h.width.bits 0 (tree_of ns h) ≡ Some i → slice_get ns i ≡ Some n → get q (stored ns h) ≡ Some n.«record»
  find_some ns h u q i n lt lo at =
      let tr = the_tree ns h u in
      let T = topped ns q h.width.bits 0 i u.t u.inside u.is u.once (ap (place_of q h.width.bits 0) (sym tr) ∙ lo) in
      let is0 : Laid ns (fork i q T.v T.l T.r) = subst (Laid ns) T.top T.is in
      let nd : slice_get ns i ≡ Some (node_of q T.v (link T.l) (link T.r)) = is0.0 in
      let eq : node_of q T.v (link T.l) (link T.r) ≡ n = cc in
      ap (λ (x : Tree V). get q (pour x [])) tr ∙ get_tree q u.t ∙ val_is_end q h.width.bits 0 u.t u.inside (omega arith, omega arith) ∙ ap (record_of q) T.top ∙ yes_eq q q _ _ refl ∙ ap (λ (x : Node V). Some x.«record») eq

  pub found-holds : (ns : List (Node V)) (h : Head) (u : WellFormed ns h) (q i : ℕ) → q < 2 ^ h.width.bits → place_of q h.width.bits 0 (tree_of ns h) ≡ Some i → holds (stored ns h) q ≡ true
  found-holds ns h u q i lt lo =
      let tr = the_tree ns h u in
      let T = topped ns q h.width.bits 0 i u.t u.inside u.is u.once (ap (place_of q h.width.bits 0) (sym tr) ∙ lo) in
      let is0 : Laid ns (fork i q T.v T.l T.r) = subst (Laid ns) T.top T.is in
      holds-some q _ (stored ns h) (find_some ns h u q i _ lt lo is0.0)

-- of a search tree, what the walk to a key says of its entries
module _ {K V : Type 0} {key : Ghosts K} (s : SearchTree K V key) (q : ℕ) where
  abbrev es : List (ℕ × V)
  es = stored s.nodes.items s.head

  pub missing_none : (under : Option Link) → Missing key.LIMIT s.nodes.items s.head q under → at es q ≡ None
  missing_none under m = find_none s.nodes.items s.head (known s).wf q (short s q m.below) m.at-is

  pub held_within : (p : Place) → Held key.LIMIT s.nodes.items s.head q p → p.at < length s.nodes.items
  held_within p m = (ready s.nodes.items s.head (known s).wf q p.at m.at-is).within

  pub held_some : (p : Place) (n : Node V) → Held key.LIMIT s.nodes.items s.head q p → slice_get s.nodes.items p.at ≡ Some n → at es q ≡ Some n.«record»
  held_some p n m at = find_some s.nodes.items s.head (known s).wf q p.at n (short s q m.below) m.at-is at

  pub held-holds : (p : Place) → Held key.LIMIT s.nodes.items s.head q p → holds es q ≡ true
  held-holds p m = found-holds s.nodes.items s.head (known s).wf q p.at (short s q m.below) m.at-is

  -- the same of the walk's answer
  pub sought_none : (r : Result Place (Option Link)) → Sought key.LIMIT s.nodes.items s.head q r → result_ok r ≡ None → at es q ≡ None
  sought_none (Ok p) m e = cc
  sought_none (Err under) m e = missing_none under m

  pub sought_some : (r : Result Place (Option Link)) (p : Place) → Sought key.LIMIT s.nodes.items s.head q r → result_ok r ≡ Some p → Held key.LIMIT s.nodes.items s.head q p
  sought_some (Ok p') p m e = subst (Held key.LIMIT s.nodes.items s.head q) (same_Some p' p e) m
  sought_some (Err under) p m e = cc
