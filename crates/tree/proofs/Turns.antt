-- The turns of the walk to a key. Assumes nothing.
use Rattle.std.proofs.Common.{◌≡◌, ℕ, zero, suc, ◌+◌, ◌*◌, ◌/◌, ◌^◌, ◌<◌, ◌≤◌, cond, ltb, List, Some, None, Option, refl, ap, ◌∙◌, arith}
use Rattle.std.proofs.lemmas.Bool.Decides.{nat_tests}
use Rattle.std.specs.List.{slice_get}
use Rattle.tree.specs.declared.links.Link.{Link}
use Rattle.tree.specs.declared.links.Side.{Side}
use Rattle.tree.specs.declared.links.Side.TheVariants.{Left, Right}
use Rattle.tree.specs.declared.node.Node.{Node}
use Rattle.tree.specs.Tree.{Tree, leaf, fork, node_of, link, Laid, Inside, place_of, last_link, on}
use Rattle.tree.specs.Writes.{child, low_on}
use Rattle.tree.proofs.Entries.{yes_eq}
use Rattle.tree.proofs.Steps.{forked, Stand, stand_begin, step}
use Rattle.tree.proofs.Trees.{branch}

module _ {V : Type 0} where
  -- where the walk has come to: a subtree at which the answers are still to be found
  pub record Turn (ns : List (Node V)) (k bits : ℕ) (at : Option ℕ) (low half : ℕ) (under : Option Link) (goal : Option ℕ) (end : Option Link) : Type 0 where
    pub h : ℕ
    pub t : Tree V
    pub here : Stand ns k bits at low half h t
    pub ends : goal ≡ place_of k h low t
    pub lasts : end ≡ last_link k h low t under

  none-at : (k h low : ℕ) (t : Tree V) → None ≡ link t → place_of k h low t ≡ None
  none-at k h low leaf is = refl
  none-at k h low (fork j q v l r) is = let e : None ≡ Some j = is in cc

  none_last : (k h low : ℕ) (d : Option Link) (t : Tree V) → None ≡ link t → last_link k h low t d ≡ d
  none_last k h low d leaf is = refl
  none_last k h low d (fork j q v l r) is = let e : None ≡ Some j = is in cc

  pub none : {ns : List (Node V)} {k bits low half : ℕ} {goal : Option ℕ} {under end : Option Link} → Turn ns k bits None low half under goal end → (goal ≡ None) × (end ≡ under)
  none {k = k} {low = low} {under = under} u = (u.ends ∙ none-at k u.h low u.t u.here.at-is, u.lasts ∙ none_last k u.h low under u.t u.here.at-is)

  found' : (q h low i : ℕ) (k : ℕ) (v : V) (l r : Tree V) → k ≡ q → place_of q h low (fork i k v l r) ≡ Some i
  found' q zero low i k v l r e = grind (arith, nat_tests)
  found' q (suc h) low i k v l r e = grind (arith, nat_tests)

  found-last : (q h low i : ℕ) (k : ℕ) (v : V) (l r : Tree V) (d : Option Link) → k ≡ q → last_link q h low (fork i k v l r) d ≡ d
  found-last q zero low i k v l r d e = refl
  found-last q (suc h) low i k v l r d e = yes_eq k q _ _ e

  pub found : {ns : List (Node V)} {k bits low half i : ℕ} {goal : Option ℕ} {under end : Option Link} (n : Node V) → Turn ns k bits (Some i) low half under goal end → slice_get ns i ≡ Some n → n.key ≡ k → (goal ≡ Some i) × (end ≡ under)
  found {ns} {k} {low = low} {i = i} {under = under} n u at e =
      let a = forked ns i u.t u.here.at-is u.here.is in
      let node : slice_get ns i ≡ Some (node_of a.k a.v (link a.l) (link a.r)) = a.node in
      let s : node_of a.k a.v (link a.l) (link a.r) ≡ n = cc in
      let e' : a.k ≡ k = ap (λ (x : Node V). x.key) s ∙ e in
      (u.ends ∙ ap (place_of k u.h low) a.is ∙ found' k u.h low i a.k a.v a.l a.r e', u.lasts ∙ ap (λ (x : Tree V). last_link k u.h low x under) a.is ∙ found-last k u.h low i a.k a.v a.l a.r under e')

  -- a turn to the side of the key
  pub go_on : {ns : List (Node V)} {k bits low half i : ℕ} {at goal : Option ℕ} {under end : Option Link} (n : Node V) (s : Side) → Turn ns k bits at low half under goal end → at ≡ Some i → slice_get ns i ≡ Some n → (n.key ≡ k → ⊥) → s ≡ cond (ltb k (low + half)) Left Right → Turn ns k bits (child s n) (low_on s low half) (half / 2) (Some (on i s)) goal end
  go_on {under = under} n s u e nt ne es =
      let p = step n s u.here e nt es in
      record { h = p.p; t = branch s p.l p.r; here = p.here; ends = u.ends ∙ p.place_is ne; lasts = u.lasts ∙ p.last-is ne under }

  pub begin : {ns : List (Node V)} {k bits half : ℕ} {root : Option ℕ} (t : Tree V) → root ≡ link t → Laid ns t → Inside bits 0 t → half * 2 ≡ 2 ^ bits → k < 2 ^ bits → 1 ≤ bits → Turn ns k bits root 0 half None (place_of k bits 0 t) (last_link k bits 0 t None)
  begin {bits = bits} t at is inn two lt some = record { h = bits; t = t; here = stand_begin t at is inn two lt some; ends = refl; lasts = refl }
