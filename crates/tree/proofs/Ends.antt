-- A tree with another subtree at the end of a key's walk. Assumes nothing.
use Rattle.std.proofs.Common.{◌≡◌, ℕ, zero, suc, ◌+◌, ◌^◌, ◌<◌, ◌≤◌, cond, eqb, ltb, List, Some, None, Option, sym, refl, ap, ◌∙◌, subst, inl, inr, ⊎_elim, arith}
use Rattle.std.proofs.lemmas.Bool.{cases_lt, cases_eq}
use Rattle.std.specs.List.{slice_get}
use Rattle.std.specs.Option.{option_or}
use Rattle.tree.specs.declared.links.Link.{Link}
use Rattle.tree.specs.declared.links.Side.{Side}
use Rattle.tree.specs.declared.links.Side.TheVariants.{Left, Right}
use Rattle.tree.specs.declared.node.Node.{Node}
use Rattle.tree.specs.Tree.{Tree, leaf, fork, node_of, link, Laid, Inside, place_of, last_link, occurs, size, one, record_of, Distinct, on}
use Rattle.tree.specs.Writes.{with_link}
use Rattle.tree.proofs.Entries.{yes_eq, no_eq, yes_lt, no_lt}
use Rattle.tree.proofs.Trees.{or-none, one_same, At, at_left, at_right, outside, same, branch, opposite, both_sides, laid_side, own_link}

abbrev pub first : Option Link → ℕ
first None = 0
first (Some x) = x.node

module _ {V : Type 0} where
  -- the subtree that the walk to a key ends at
  abbrev pub end : ℕ → ℕ → ℕ → Tree V → Tree V
  end q h low leaf = leaf
  end q zero low (fork j k v l r) = fork j k v l r
  end q (suc h) low (fork j k v l r) = cond (eqb k q) (fork j k v l r) (cond (ltb q (low + 2 ^ h)) (end q h low l) (end q h (low + 2 ^ h) r))

  -- the tree with another subtree there
  abbrev pub put_at : Tree V → ℕ → ℕ → ℕ → Tree V → Tree V
  put_at s q h low leaf = s
  put_at s q zero low (fork j k v l r) = s
  put_at s q (suc h) low (fork j k v l r) = cond (eqb k q) s (cond (ltb q (low + 2 ^ h)) (fork j k v (put_at s q h low l) r) (fork j k v l (put_at s q h (low + 2 ^ h) r)))

  -- the ways through a fork
  pub data Way (s : Tree V) (q h low j k : ℕ) (v : V) (l r : Tree V) : Type 0 where
    here : k ≡ q → end q (suc h) low (fork j k v l r) ≡ fork j k v l r → put_at s q (suc h) low (fork j k v l r) ≡ s
        → ((d : Option Link) → last_link q (suc h) low (fork j k v l r) d ≡ d) → place_of q (suc h) low (fork j k v l r) ≡ Some j → Way s q h low j k v l r
    left : (k ≡ q → ⊥) → q < low + 2 ^ h → end q (suc h) low (fork j k v l r) ≡ end q h low l → put_at s q (suc h) low (fork j k v l r) ≡ fork j k v (put_at s q h low l) r
        → ((d : Option Link) → last_link q (suc h) low (fork j k v l r) d ≡ last_link q h low l (Some (on j Left))) → place_of q (suc h) low (fork j k v l r) ≡ place_of q h low l → Way s q h low j k v l r
    right : (k ≡ q → ⊥) → low + 2 ^ h ≤ q → end q (suc h) low (fork j k v l r) ≡ end q h (low + 2 ^ h) r → put_at s q (suc h) low (fork j k v l r) ≡ fork j k v l (put_at s q h (low + 2 ^ h) r)
        → ((d : Option Link) → last_link q (suc h) low (fork j k v l r) d ≡ last_link q h (low + 2 ^ h) r (Some (on j Right))) → place_of q (suc h) low (fork j k v l r) ≡ place_of q h (low + 2 ^ h) r → Way s q h low j k v l r

  pub way : (s : Tree V) (q h low j k : ℕ) (v : V) (l r : Tree V) → Way s q h low j k v l r
  way s q h low j k v l r = ⊎_elim
      (λ e. here e (yes_eq k q _ _ e) (yes_eq k q _ _ e) (λ d. yes_eq k q _ _ e) (yes_eq k q _ _ e))
      (λ ne. ⊎_elim
      (λ w. left ne w (no_eq k q _ _ ne ∙ yes_lt q (low + 2 ^ h) _ _ w) (no_eq k q _ _ ne ∙ yes_lt q (low + 2 ^ h) _ _ w) (λ d. no_eq k q _ _ ne ∙ yes_lt q (low + 2 ^ h) _ _ w) (no_eq k q _ _ ne ∙ yes_lt q (low + 2 ^ h) _ _ w))
      (λ w. right ne w (no_eq k q _ _ ne ∙ no_lt q (low + 2 ^ h) _ _ w) (no_eq k q _ _ ne ∙ no_lt q (low + 2 ^ h) _ _ w) (λ d. no_eq k q _ _ ne ∙ no_lt q (low + 2 ^ h) _ _ w) (no_eq k q _ _ ne ∙ no_lt q (low + 2 ^ h) _ _ w))
      (cases_lt q (low + 2 ^ h)))
      (cases_eq k q)

  pub in_at : (s : Tree V) (q h low : ℕ) (t : Tree V) → Inside h low t → At q h low → ((h' low' : ℕ) → At q h' low' → Inside h' low' (end q h low t) → Inside h' low' s) → Inside h low (put_at s q h low t)
  in_at s q h low leaf inn a f = f h low a tt
  in_at s q zero low (fork j k v l r) inn a f = f zero low a inn
  in_at s q (suc h) low (fork j k v l r) inn a f = elim (way s q h low j k v l r) [
    | here e en pu la lo ↦ subst (Inside (suc h) low) (sym pu) (f (suc h) low a (subst (Inside (suc h) low) (sym en) inn))
    | left ne w en pu la lo ↦ subst (Inside (suc h) low) (sym pu) (inn.0, inn.1, in_at s q h low l inn.2 (at_left q h low a w) (λ h' low' a' i. f h' low' a' (subst (Inside h' low') (sym en) i)), inn.3)
    | right ne w en pu la lo ↦ subst (Inside (suc h) low) (sym pu) (inn.0, inn.1, inn.2, in_at s q h (low + 2 ^ h) r inn.3 (at_right q h low a w) (λ h' low' a' i. f h' low' a' (subst (Inside h' low') (sym en) i)))
  ]

  pub cnt_at : (x : ℕ) (s : Tree V) (q h low : ℕ) (t : Tree V) → occurs x (put_at s q h low t) + occurs x (end q h low t) ≡ occurs x t + occurs x s
  cnt_at x s q h low leaf = omega arith
  cnt_at x s q zero low (fork j k v l r) = omega arith
  cnt_at x s q (suc h) low (fork j k v l r) = elim (way s q h low j k v l r) [
    | here e en pu la lo ↦ (let a = ap (occurs x) pu in let b = ap (occurs x) en in omega (arith, a, b))
    | left ne w en pu la lo ↦ (let a = ap (occurs x) pu in let b = ap (occurs x) en in omega (arith, a, b, cnt_at x s q h low l))
    | right ne w en pu la lo ↦ (let a = ap (occurs x) pu in let b = ap (occurs x) en in omega (arith, a, b, cnt_at x s q h (low + 2 ^ h) r))
  ]

  pub size-at : (s : Tree V) (q h low : ℕ) (t : Tree V) → size (put_at s q h low t) + size (end q h low t) ≡ size t + size s
  size-at s q h low leaf = omega arith
  size-at s q zero low (fork j k v l r) = omega arith
  size-at s q (suc h) low (fork j k v l r) = elim (way s q h low j k v l r) [
    | here e en pu la lo ↦ (let a = ap size pu in let b = ap size en in omega (arith, a, b))
    | left ne w en pu la lo ↦ (let a = ap size pu in let b = ap size en in omega (arith, a, b, size-at s q h low l))
    | right ne w en pu la lo ↦ (let a = ap size pu in let b = ap size en in omega (arith, a, b, size-at s q h (low + 2 ^ h) r))
  ]

  -- the key itself is to be found in the new subtree, and the others where they were
  pub val_end : (s : Tree V) (q h low : ℕ) (t : Tree V) → Inside h low t → At q h low → record_of q (put_at s q h low t) ≡ record_of q s
  val_end s q h low leaf inn a = refl
  val_end s q zero low (fork j k v l r) inn a = refl
  val_end s q (suc h) low (fork j k v l r) inn a = elim (way s q h low j k v l r) [
    | here e en pu la lo ↦ ap (record_of q) pu
    | left ne w en pu la lo ↦ ap (record_of q) pu ∙ no_eq q k _ _ (λ e. ne (sym e)) ∙ ap (λ (x : Option V). option_or x (record_of q r)) (val_end s q h low l inn.2 (at_left q h low a w))
        ∙ ap (option_or (record_of q s)) (outside q h (low + 2 ^ h) r inn.3 (inl w)) ∙ or-none (record_of q s)
    | right ne w en pu la lo ↦ ap (record_of q) pu ∙ no_eq q k _ _ (λ e. ne (sym e)) ∙ ap (λ (x : Option V). option_or x (record_of q (put_at s q h (low + 2 ^ h) r))) (outside q h low l inn.2 (inr w))
        ∙ val_end s q h (low + 2 ^ h) r inn.3 (at_right q h low a w)
  ]

  pub val_other : (x : ℕ) (s : Tree V) (q h low : ℕ) (t : Tree V) → record_of x s ≡ record_of x (end q h low t) → record_of x (put_at s q h low t) ≡ record_of x t
  val_other x s q h low leaf f = f
  val_other x s q zero low (fork j k v l r) f = f
  val_other x s q (suc h) low (fork j k v l r) f = elim (way s q h low j k v l r) [
    | here e en pu la lo ↦ ap (record_of x) pu ∙ f ∙ ap (record_of x) en
    | left ne w en pu la lo ↦ ap (record_of x) pu ∙ ap (λ (y : Option V). cond (eqb x k) (Some v) (option_or y (record_of x r))) (val_other x s q h low l (f ∙ ap (record_of x) en))
    | right ne w en pu la lo ↦ ap (record_of x) pu ∙ ap (λ (y : Option V). cond (eqb x k) (Some v) (option_or (record_of x l) y)) (val_other x s q h (low + 2 ^ h) r (f ∙ ap (record_of x) en))
  ]

  pub once-at : (s : Tree V) (q h low : ℕ) (t : Tree V) → Distinct t → Distinct s → ((x : ℕ) → (x ≡ q → ⊥) → record_of x s ≡ record_of x (end q h low t)) → Distinct (put_at s q h low t)
  once-at s q h low leaf o p f = p
  once-at s q zero low (fork j k v l r) o p f = p
  once-at s q (suc h) low (fork j k v l r) o p f = elim (way s q h low j k v l r) [
    | here e en pu la lo ↦ subst Distinct (sym pu) p
    | left ne w en pu la lo ↦ subst Distinct (sym pu) (val_other k s q h low l (f k ne ∙ ap (record_of k) en) ∙ o.0, o.1, once-at s q h low l o.2 p (λ x n. f x n ∙ ap (record_of x) en), o.3)
    | right ne w en pu la lo ↦ subst Distinct (sym pu) (o.0, val_other k s q h (low + 2 ^ h) r (f k ne ∙ ap (record_of k) en) ∙ o.1, o.2, once-at s q h (low + 2 ^ h) r o.3 p (λ x n. f x n ∙ ap (record_of x) en))
  ]

  pub cnt_end : (x q h low : ℕ) (t : Tree V) → occurs x (end q h low t) ≤ occurs x t
  cnt_end x q h low leaf = omega arith
  cnt_end x q zero low (fork j k v l r) = omega arith
  cnt_end x q (suc h) low (fork j k v l r) = elim (way leaf q h low j k v l r) [
    | here e en pu la lo ↦ (let b = ap (occurs x) en in omega (arith, b))
    | left ne w en pu la lo ↦ (let b = ap (occurs x) en in omega (arith, b, cnt_end x q h low l))
    | right ne w en pu la lo ↦ (let b = ap (occurs x) en in omega (arith, b, cnt_end x q h (low + 2 ^ h) r))
  ]

  -- the walk ends at once, or its last link stands in the tree
  pub data Near (s : Tree V) (q h low : ℕ) (t : Tree V) (d : Option Link) : Type 0 where
    stop : put_at s q h low t ≡ s → end q h low t ≡ t → last_link q h low t d ≡ d → Near s q h low t d
    deep : link (put_at s q h low t) ≡ link t → (p : ℕ) (side : Side) → last_link q h low t d ≡ Some (on p side) → 1 ≤ occurs p t → Near s q h low t d

  pub near : (s : Tree V) (q h low : ℕ) (t : Tree V) (d : Option Link) → Near s q h low t d
  near s q h low leaf d = stop refl refl refl
  near s q zero low (fork j k v l r) d = stop refl refl refl
  near s q (suc h) low (fork j k v l r) d =
      let o : one j j ≡ 1 = one_same j j refl in
      elim (way s q h low j k v l r) [
        | here e en pu la lo ↦ stop pu en (la d)
        | left ne w en pu la lo ↦ elim (near s q h low l (Some (on j Left))) [ stop a b c ↦ deep (ap link pu) j Left (la d ∙ c) (omega arith) | deep a p side c i ↦ deep (ap link pu) p side (la d ∙ c) (omega arith) ]
        | right ne w en pu la lo ↦ elim (near s q h (low + 2 ^ h) r (Some (on j Right))) [ stop a b c ↦ deep (ap link pu) j Right (la d ∙ c) (omega arith) | deep a p side c i ↦ deep (ap link pu) p side (la d ∙ c) (omega arith) ]
      ]

  -- the writes leave the tree but for its end, to which a link is set
  pub record Spliced (ns ms : List (Node V)) (s t e : Tree V) (u : Option Link) : Type 0 where
    pub new : Laid ms s
    pub kept : (x : ℕ) → 1 ≤ occurs x t → occurs x e ≡ 0 → ((p : ℕ) (side : Side) → u ≡ Some (on p side) → x ≡ p → ⊥) → slice_get ms x ≡ slice_get ns x
    pub linked : (p : ℕ) (side : Side) (n : Node V) → u ≡ Some (on p side) → 1 ≤ occurs p t → slice_get ns p ≡ Some n → slice_get ms p ≡ Some (with_link side (link s) n)

  -- above the end, the node takes the new link on the side of the way, and its other subtree stays
  above : (ns ms : List (Node V)) (s : Tree V) (q h low j k : ℕ) (v : V) (l r : Tree V) (e : Side) → ((x : ℕ) → occurs x (fork j k v l r) ≤ 1) → Laid ns (fork j k v l r)
      → Spliced ns ms s (fork j k v l r) (end q h low (branch e l r)) (last_link q h low (branch e l r) (Some (on j e)))
      → (slice_get ms j ≡ Some (with_link e (link (put_at s q h low (branch e l r))) (node_of k v (link l) (link r)))) × Laid ms (branch (opposite e) l r)
  above ns ms s q h low j k v l r e ap1 is sp =
      let w : Tree V = branch e l r in
      let n : Node V = node_of k v (link l) (link r) in
      let o : one j j ≡ 1 = one_same j j refl in
      let both = λ (x : ℕ). both_sides x e l r in
      elim (near s q h low w (Some (on j e))) [
        | stop a b c ↦ (
          sp.linked j e n c (omega arith) is.0 ∙ ap (λ (x : Tree V). Some (with_link e (link x) n)) (sym a),
          same ns ms (branch (opposite e) l r) (λ x i. sp.kept x (omega (arith, both x)) (omega (arith, ap1 x, both x, cnt_end x q h low w))
              (λ p side e' xp. let f : ◌≡◌ {A = ℕ} (first (Some (on j e))) (first (Some (on p side))) = ap first (sym c ∙ e') in let g : one x j ≡ 1 = one_same x j (xp ∙ sym f) in omega (arith, ap1 x, both x))) (laid_side ns (opposite e) l r is.1 is.2),
        )
        | deep a p side c i ↦ (
          sp.kept j (omega arith) (omega (arith, ap1 j, both j, cnt_end j q h low w))
              (λ p' side' e' jp. let f : ◌≡◌ {A = ℕ} (first (Some (on p side))) (first (Some (on p' side'))) = ap first (sym c ∙ e') in let g : one p j ≡ 1 = one_same p j (f ∙ sym jp) in omega (arith, ap1 p, both p))
              ∙ is.0 ∙ ap Some (own_link e k v l r) ∙ ap (λ (x : Option ℕ). Some (with_link e x n)) (sym a),
          same ns ms (branch (opposite e) l r) (λ x i'. sp.kept x (omega (arith, both x)) (omega (arith, ap1 x, both x, cnt_end x q h low w))
              (λ p' side' e' xp. let f : ◌≡◌ {A = ℕ} (first (Some (on p side))) (first (Some (on p' side'))) = ap first (sym c ∙ e') in let g : occurs x w ≡ occurs p w = ap (λ (y : ℕ). occurs y w) (xp ∙ sym f) in omega (arith, ap1 x, both x))) (laid_side ns (opposite e) l r is.1 is.2),
        )
      ]

  pub is_at : (ns ms : List (Node V)) (s : Tree V) (q h low : ℕ) (d : Option Link) (t : Tree V) → ((x : ℕ) → occurs x t ≤ 1) → Laid ns t → Spliced ns ms s t (end q h low t) (last_link q h low t d) → Laid ms (put_at s q h low t)
  is_at ns ms s q h low d leaf ap1 is sp = sp.new
  is_at ns ms s q zero low d (fork j k v l r) ap1 is sp = sp.new
  is_at ns ms s q (suc h) low d (fork j k v l r) ap1 is sp = elim (way s q h low j k v l r) [
    | here e en pu la lo ↦ subst (Laid ms) (sym pu) sp.new
    | left ne w en pu la lo ↦ (
        let s1 = subst (λ (x : Tree V). Spliced ns ms s (fork j k v l r) x (last_link q (suc h) low (fork j k v l r) d)) en sp in
        let s2 = subst (λ (x : Option Link). Spliced ns ms s (fork j k v l r) (end q h low l) x) (la d) s1 in
        let sd = above ns ms s q h low j k v l r Left ap1 is s2 in
        subst (Laid ms) (sym pu) (
          sd.0,
          is_at ns ms s q h low (Some (on j Left)) l (λ x. omega (arith, ap1 x)) is.1
              (record { new = s2.new; kept = λ x c e u. s2.kept x (omega arith) e u; linked = λ p side n e c at. s2.linked p side n e (omega arith) at }),
          sd.1,
        ))
    | right ne w en pu la lo ↦ (
        let s1 = subst (λ (x : Tree V). Spliced ns ms s (fork j k v l r) x (last_link q (suc h) low (fork j k v l r) d)) en sp in
        let s2 = subst (λ (x : Option Link). Spliced ns ms s (fork j k v l r) (end q h (low + 2 ^ h) r) x) (la d) s1 in
        let sd = above ns ms s q h (low + 2 ^ h) j k v l r Right ap1 is s2 in
        subst (Laid ms) (sym pu) (
          sd.0,
          sd.1,
          is_at ns ms s q h (low + 2 ^ h) (Some (on j Right)) r (λ x. omega (arith, ap1 x)) is.2
              (record { new = s2.new; kept = λ x c e u. s2.kept x (omega arith) e u; linked = λ p side n e c at. s2.linked p side n e (omega arith) at }),
        ))
  ]
