-- How deep a tree is, and that the nodes hold it whole. Assumes nothing.
use Rattle.std.proofs.Common.{◌≡◌, ℕ, zero, suc, ◌+◌, ◌^◌, ◌≤◌, List, [], ◌∷◌, length, Some, None, Option, sym, refl, ap, ◌∙◌, subst, ⊎_elim, arith}
use Rattle.std.specs.List.{slice_get}
use Rattle.tree.specs.declared.node.Node.{Node}
use Rattle.tree.specs.Tree.{Tree, leaf, fork, link, Laid, Inside, Levels, tree_below, height, node_of, Way}

module _ {V : Type 0} where
  pub in_high : (h low f : ℕ) (t : Tree V) → Inside h low t → h ≤ f → Levels f t
  in_high h low f leaf inn le = tt
  in_high zero low zero (fork j k v l r) inn le = (inn.1, inn.2)
  in_high zero low (suc f) (fork j k v l r) inn le = (subst (Levels f) (sym inn.1) tt, subst (Levels f) (sym inn.2) tt)
  in_high (suc h) low zero (fork j k v l r) inn le = absurd (omega arith)
  in_high (suc h) low (suc f) (fork j k v l r) inn le = (in_high h low f l inn.2 (omega arith), in_high h (low + 2 ^ h) f r inn.3 (omega arith))

  pub tree_high : (ns : List (Node V)) (f : ℕ) (t : Tree V) → Levels f t → Laid ns t → tree_below (suc f) ns (link t) ≡ t
  tree_high ns f leaf hi is = refl
  tree_high ns zero (fork j k v l r) hi is =
      let F : Option (Node V) → Tree V = λ o. elim o [ None ↦ leaf | Some n ↦ fork j n.key n.«record» leaf leaf ] in
      ap F is.0 ∙ ap (λ (x : Tree V). fork j k v x leaf) (sym hi.0) ∙ ap (λ (x : Tree V). fork j k v l x) (sym hi.1)
  tree_high ns (suc f) (fork j k v l r) hi is =
      let F : Option (Node V) → Tree V = λ o. elim o [ None ↦ leaf | Some n ↦ fork j n.key n.«record» (tree_below (suc f) ns n.left) (tree_below (suc f) ns n.right) ] in
      ap F is.0 ∙ ap (λ (x : Tree V). fork j k v x (tree_below (suc f) ns (link r))) (tree_high ns f l hi.0 is.1) ∙ ap (λ (x : Tree V). fork j k v l x) (tree_high ns f r hi.1 is.2)

  -- the tree is what the nodes hold below its link
  pub tree_is : (ns : List (Node V)) (h low : ℕ) (t : Tree V) → Inside h low t → Laid ns t → tree_below (suc h) ns (link t) ≡ t
  tree_is ns h low t inn is = tree_high ns h t (in_high h low h t inn (omega arith)) is

  levels_up : (h : ℕ) (t : Tree V) → Levels h t → Levels (suc h) t
  levels_up h leaf hi = tt
  levels_up zero (fork j k v l r) hi = (subst (Levels zero) (sym hi.0) tt, subst (Levels zero) (sym hi.1) tt)
  levels_up (suc h) (fork j k v l r) hi = (levels_up h l hi.0, levels_up h r hi.1)

  -- so a walk that falls by a level at each turn has no more turns than a key has digits, plus one
  pub height_short : (h : ℕ) (t : Tree V) → Levels h t → height t ≤ suc h
  height_short h leaf hi = omega arith
  height_short zero (fork j k v l r) hi = let a = ap height hi.0 in let b = ap height hi.1 in omega (arith, a, b)
  height_short (suc h) (fork j k v l r) hi = let a = height_short h l hi.0 in let b = height_short h r hi.1 in omega (arith, a, b)

  -- no child is deeper
  pub levels_below : (h j k : ℕ) (v : V) (l r : Tree V) → Levels h (fork j k v l r) → Levels h l × Levels h r
  levels_below zero j k v l r hi = (subst (Levels zero) (sym hi.0) tt, subst (Levels zero) (sym hi.1) tt)
  levels_below (suc h) j k v l r hi = (levels_up h l hi.0, levels_up h r hi.1)

  pub levels_tree : (f : ℕ) (ns : List (Node V)) (i : Option ℕ) → Levels f (tree_below (suc f) ns i)
  levels_tree f ns None = tt
  levels_tree zero ns (Some j) = go (slice_get ns j)
    where
      go : (o : Option (Node V)) → Levels zero (elim o [ None ↦ leaf | Some n ↦ fork j n.key n.«record» leaf leaf ])
      go None = tt
      go (Some n) = (refl, refl)
  levels_tree (suc f) ns (Some j) = go (λ i. levels_tree f ns i) (slice_get ns j)
    where
      go : ((i : Option ℕ) → Levels f (tree_below (suc f) ns i)) → (o : Option (Node V)) → Levels (suc f) (elim o [ None ↦ leaf | Some n ↦ fork j n.key n.«record» (tree_below (suc f) ns n.left) (tree_below (suc f) ns n.right) ])
      go ih None = tt
      go ih (Some n) = (ih n.left, ih n.right)

  -- the node that a way comes to is the fork's
  below : (ns : List (Node V)) (p k : ℕ) (v : V) (l r : Tree V) (i : Option ℕ) (j : ℕ) (n : Node V) → i ≡ Some p → i ≡ Some j → slice_get ns p ≡ Some (node_of k v (link l) (link r)) → slice_get ns j ≡ Some n → n ≡ node_of k v (link l) (link r)
  below ns p k v l r i j n e f a b = let pj : p ≡ j = cc in let c : slice_get ns p ≡ Some n = ap (slice_get ns) pj ∙ b in cc

  -- no way down visits more nodes than the interval can be halved, plus one
  pub way_short : (ns : List (Node V)) (h low : ℕ) (t : Tree V) (i : Option ℕ) → i ≡ link t → Inside h low t → Laid ns t → (js : List ℕ) → Way ns i js → length js ≤ suc h
  way_short ns h low t i e inn is [] w = omega arith
  way_short ns h low leaf i e inn is (j ∷ js) w = let f : i ≡ Some j = w.0 in cc
  way_short ns zero low (fork p k v l r) i e inn is (j ∷ js) w =
      let s = below ns p k v l r i j w.1.0 e w.0 is.0 w.1.1 in
      ⊎_elim (λ u. ended js _ (ap (λ (x : Node V). x.left) s ∙ ap link inn.1) u) (λ u. ended js _ (ap (λ (x : Node V). x.right) s ∙ ap link inn.2) u) w.1.2
    where
      ended : (js : List ℕ) (o : Option ℕ) → o ≡ None → Way ns o js → length (j ∷ js) ≤ 1
      ended [] o e u = omega arith
      ended (x ∷ js) o e u = let f : o ≡ Some x = u.0 in cc
  way_short ns (suc h) low (fork p k v l r) i e inn is (j ∷ js) w =
      let s = below ns p k v l r i j w.1.0 e w.0 is.0 w.1.1 in
      ⊎_elim
      (λ u. let ih = way_short ns h low l _ (ap (λ (x : Node V). x.left) s) inn.2 is.1 js u in omega (arith, ih))
      (λ u. let ih = way_short ns h (low + 2 ^ h) r _ (ap (λ (x : Node V). x.right) s) inn.3 is.2 js u in omega (arith, ih))
      w.1.2
