-- The facts of a store come out from under their truncation, since what they say can be tested. Assumes nothing.
use Rattle.std.proofs.Common.{◌≡◌, ℕ, zero, suc, ◌+◌, ◌-◌, ◌^◌, ◌<◌, List, [], ◌∷◌, length, Some, None, Option, sym, refl, ap, ◌∙◌, subst, arith}
use mathlib.Core.Logic.{∥∥₁_elim, ∥∥₁_map}
use Rattle.std.proofs.Props.{props}
use Rattle.std.specs.List.{slice_get}
use Rattle.key.specs.declared.identity.Key.{Ghosts}
use Rattle.tree.specs.declared.head.Head.{Head}
use Rattle.tree.specs.declared.node.Node.{Node}
use Rattle.tree.specs.declared.search_tree.SearchTree.{SearchTree}
use Rattle.tree.specs.State.{listed, Chain, WellFormed, tree_of, Sound}
use Rattle.tree.specs.Tree.{Tree, leaf, fork, node_of, link, Laid, Inside, Distinct, tree_below, occurs, size, pour}
use Rattle.tree.specs.Cut.{out_none}
use Rattle.tree.proofs.NewKey.{the_tree}

module _ {V : Type 0} where
  out_leaf : (t : Tree V) → ∥ t ≡ leaf ∥₁ → t ≡ leaf
  out_leaf leaf h = refl
  out_leaf (fork j k v l r) h = absurd (∥∥₁_elim h (hlevel props) (λ e. let g : Some j ≡ None = ap link e in cc))

  out_is : (f : ℕ) (ns : List (Node V)) (i : Option ℕ) → ∥ Laid ns (tree_below f ns i) ∥₁ → Laid ns (tree_below f ns i)
  out_is zero ns i h = tt
  out_is (suc f) ns None h = tt
  out_is (suc f) ns (Some j) h = go (λ i w. out_is f ns i w) (slice_get ns j) refl h
    where
      below : Option (Node V) → Tree V
      below o = elim o [ None ↦ leaf | Some n ↦ fork j n.key n.«record» (tree_below f ns n.left) (tree_below f ns n.right) ]

      go : ((i : Option ℕ) → ∥ Laid ns (tree_below f ns i) ∥₁ → Laid ns (tree_below f ns i)) → (o : Option (Node V)) → slice_get ns j ≡ o → ∥ Laid ns (below o) ∥₁ → Laid ns (below o)
      go ih None e h = tt
      go ih (Some n) e h =
          let l : n.left ≡ link (tree_below f ns n.left) = ∥∥₁_elim h (hlevel props) (λ w. (let a : slice_get ns j ≡ Some (node_of n.key n.«record» (link (tree_below f ns n.left)) (link (tree_below f ns n.right))) = w.0 in let s : n ≡ node_of n.key n.«record» (link (tree_below f ns n.left)) (link (tree_below f ns n.right)) = cc in ap (λ (x : Node V). x.left) s)) in
          let r : n.right ≡ link (tree_below f ns n.right) = ∥∥₁_elim h (hlevel props) (λ w. (let a : slice_get ns j ≡ Some (node_of n.key n.«record» (link (tree_below f ns n.left)) (link (tree_below f ns n.right))) = w.0 in let s : n ≡ node_of n.key n.«record» (link (tree_below f ns n.left)) (link (tree_below f ns n.right)) = cc in ap (λ (x : Node V). x.right) s)) in (
            e ∙ ap (λ (x : Option ℕ). Some (node_of n.key n.«record» x n.right)) l ∙ ap (λ (x : Option ℕ). Some (node_of n.key n.«record» (link (tree_below f ns n.left)) x)) r,
            ih n.left (∥∥₁_map h (λ w. w.1)),
            ih n.right (∥∥₁_map h (λ w. w.2)),
          )

  out_in : (h low : ℕ) (t : Tree V) → ∥ Inside h low t ∥₁ → Inside h low t
  out_in h low leaf w = tt
  out_in zero low (fork j k v l r) w = (∥∥₁_elim w (hlevel props) (λ u. u.0), out_leaf l (∥∥₁_map w (λ u. u.1)), out_leaf r (∥∥₁_map w (λ u. u.2)))
  out_in (suc h) low (fork j k v l r) w = (∥∥₁_elim w (hlevel props) (λ u. u.0), ∥∥₁_elim w (hlevel props) (λ u. u.1), out_in h low l (∥∥₁_map w (λ u. u.2)), out_in h (low + 2 ^ h) r (∥∥₁_map w (λ u. u.3)))

  out_once : (t : Tree V) → ∥ Distinct t ∥₁ → Distinct t
  out_once leaf w = tt
  out_once (fork j k v l r) w = (out_none _ (∥∥₁_map w (λ u. u.0)), out_none _ (∥∥₁_map w (λ u. u.1)), out_once l (∥∥₁_map w (λ u. u.2)), out_once r (∥∥₁_map w (λ u. u.3)))

  -- as many free nodes as the first number says
  abbrev frees : ℕ → List (Node V) → Option ℕ → List ℕ
  frees zero ns i = []
  frees (suc f) ns None = []
  frees (suc f) ns (Some j) = j ∷ elim (slice_get ns j) [ None ↦ [] | Some n ↦ frees f ns n.left ]

  chain-is : (ns : List (Node V)) (i : Option ℕ) (f : List ℕ) → Chain ns i f → frees (length f) ns i ≡ f
  chain-is ns i [] c = refl
  chain-is ns i (j ∷ f) c = ap (frees (suc (length f)) ns) c.0 ∙ ap (λ (x : List ℕ). j ∷ x) (go (chain-is ns c.1.0.left f c.1.2) (slice_get ns j) refl)
    where
      go : frees (length f) ns c.1.0.left ≡ f → (o : Option (Node V)) → slice_get ns j ≡ o → elim o [ None ↦ [] | Some n ↦ frees (length f) ns n.left ] ≡ f
      go ih None e = (let a : slice_get ns j ≡ Some c.1.0 = c.1.1 in cc)
      go ih (Some n) e = (let a : slice_get ns j ≡ Some c.1.0 = c.1.1 in let s : n ≡ c.1.0 = cc in ap (λ (x : Node V). frees (length f) ns x.left) s ∙ ih)

  out_chain : (f : ℕ) (ns : List (Node V)) (i : Option ℕ) → ∥ Chain ns i (frees f ns i) ∥₁ → Chain ns i (frees f ns i)
  out_chain zero ns i h = ∥∥₁_elim h (hlevel props) (λ e. e)
  out_chain (suc f) ns None h = refl
  out_chain (suc f) ns (Some j) h = (refl, go (λ i w. out_chain f ns i w) (slice_get ns j) refl (∥∥₁_map h (λ w. w.1)))
    where
      below : Option (Node V) → List ℕ
      below o = elim o [ None ↦ [] | Some n ↦ frees f ns n.left ]

      go : ((i : Option ℕ) → ∥ Chain ns i (frees f ns i) ∥₁ → Chain ns i (frees f ns i)) → (o : Option (Node V)) → slice_get ns j ≡ o → ∥ ((n : Node V) × (slice_get ns j ≡ Some n) × Chain ns n.left (below o)) ∥₁ → (n : Node V) × (slice_get ns j ≡ Some n) × Chain ns n.left (below o)
      go ih None e h = absurd (∥∥₁_elim h (hlevel props) (λ w. let a : slice_get ns j ≡ Some w.0 = w.1 in cc))
      go ih (Some n) e h = (n, e, ih n.left (∥∥₁_map h (λ w. (let a : slice_get ns j ≡ Some w.0 = w.1 in let s : w.0 ≡ n = cc in subst (λ (x : Node V). Chain ns x.left (frees f ns n.left)) s w.2))))

  -- the free nodes, from the head
  abbrev freeOf : List (Node V) → Head → List ℕ
  freeOf ns h = frees (h.fresh - h.count) ns h.free

  the_free : (ns : List (Node V)) (h : Head) (u : WellFormed ns h) → freeOf ns h ≡ u.f
  the_free ns h u =
      let e : h.fresh - h.count ≡ length u.f = omega (arith, u.used, u.count_is) in
      ap (λ (x : ℕ). frees x ns h.free) e ∙ chain-is ns h.free u.f u.chain

  pub out : (ns : List (Node V)) (h : Head) → ∥ WellFormed ns h ∥₁ → WellFormed ns h
  out ns h w = record {
    t = tree_of ns h;
    f = freeOf ns h;
    root_is = ∥∥₁_elim w (hlevel props) (λ u. u.root_is ∙ ap link (sym (the_tree ns h u)));
    is = out_is (suc h.width.bits) ns h.root (∥∥₁_map w (λ u. subst (Laid ns) (sym (the_tree ns h u)) u.is));
    inside = out_in h.width.bits 0 (tree_of ns h) (∥∥₁_map w (λ u. subst (Inside h.width.bits 0) (sym (the_tree ns h u)) u.inside));
    once = out_once (tree_of ns h) (∥∥₁_map w (λ u. subst Distinct (sym (the_tree ns h u)) u.once));
    chain = out_chain (h.fresh - h.count) ns h.free (∥∥₁_map w (λ u. subst (Chain ns h.free) (sym (the_free ns h u)) u.chain));
    apart = λ x. ∥∥₁_elim w (hlevel props) (λ u. (let a = ap (occurs x) (the_tree ns h u) in let b = ap (listed x) (the_free ns h u) in omega (arith, a, b, u.apart x)));
    unused = λ x le. ∥∥₁_elim w (hlevel props) (λ u. (let a = ap (occurs x) (the_tree ns h u) in let b = ap (listed x) (the_free ns h u) in omega (arith, a, b, u.unused x le)));
    used = ∥∥₁_elim w (hlevel props) (λ u. (let a = ap size (the_tree ns h u) in let b = ap length (the_free ns h u) in omega (arith, a, b, u.used)));
    within = ∥∥₁_elim w (hlevel props) (λ u. u.within);
    small = ∥∥₁_elim w (hlevel props) (λ u. u.small);
    count_is = ∥∥₁_elim w (hlevel props) (λ u. u.count_is ∙ ap size (sym (the_tree ns h u)));
    sized = ∥∥₁_elim w (hlevel props) (λ u. (let a = ap size (the_tree ns h u) in a ∙ u.sized ∙ ap (λ (x : Tree V). length (pour x [])) (sym (the_tree ns h u))));
  }

  pub sound : (limit : ℕ) (ns : List (Node V)) (h : Head) → ∥ Sound limit ns h ∥₁ → Sound limit ns h
  sound limit ns h w = record { wf = out ns h (∥∥₁_map w (λ u. u.wf)); lawful = ∥∥₁_elim w (hlevel props) (λ u. u.lawful); digits = ∥∥₁_elim w (hlevel props) (λ u. u.digits) }

-- what a search tree keeps
pub known : {K V : Type 0} {key : Ghosts K} (s : SearchTree K V key) → Sound key.LIMIT s.nodes.items s.head
known {key = key} s = sound key.LIMIT s.nodes.items s.head s.sound

-- a key's number has no more digits than the tree goes by
pub short : {K V : Type 0} {key : Ghosts K} (s : SearchTree K V key) (q : ℕ) → q < key.LIMIT → q < 2 ^ s.head.width.bits
short s q lt = omega (arith, (known s).digits.suffice, lt)
