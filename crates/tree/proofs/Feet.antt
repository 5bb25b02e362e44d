-- A tree without one of its childless forks, and the walk down to one. Assumes nothing.
use Rattle.std.proofs.Common.{◌≡◌, ℕ, zero, suc, ◌+◌, ◌^◌, ◌<◌, ◌≤◌, Bool, true, false, cond, eqb, List, length, Some, None, Option, sym, refl, ap, ◌∙◌, subst, inl, inr, ⊎_elim, arith}
use native.Mathlib.Nat.{two-pow-succ}
use Rattle.std.proofs.lemmas.Bool.{cases_eq}
use Rattle.std.proofs.lemmas.Option.{none-some}
use Rattle.std.specs.List.{slice_get}
use Rattle.std.specs.Option.{option_or}
use Rattle.tree.specs.declared.links.Link.{Link}
use Rattle.tree.specs.declared.links.Side.{Side}
use Rattle.tree.specs.declared.links.Side.TheVariants.{Left, Right}
use Rattle.tree.specs.declared.node.Node.{Node}
use Rattle.tree.specs.Feet.{Foot, Bottom}
use Rattle.tree.specs.Tree.{Tree, leaf, fork, node_of, link, Laid, Inside, occurs, size, height, one, record_of, Distinct, Levels, tree_below, on}
use Rattle.tree.specs.Writes.{child, with_link}
use Rattle.tree.proofs.Depths.{levels_below}
use Rattle.tree.proofs.Ends.{first}
use Rattle.tree.proofs.Entries.{yes_eq, no_eq}
use Rattle.tree.proofs.Trees.{branch, opposite, both_sides, laid_side, own_link, one_same, At, outside, same, nth_lt}
use Rattle.tree.proofs.Steps.{forked, fewer}

pub off_other : (p q : ℕ) (a b : Side) (u : Option Link) → u ≡ Some (on p a) → u ≡ Some (on q b) → p ≡ q
off_other p q a b u e f = ap first (sym e ∙ f)

module _ {V : Type 0} where
  -- another key and record at the top
  abbrev pub crown : ℕ → V → Tree V → Tree V
  crown km vm leaf = leaf
  crown km vm (fork j k v l r) = fork j km vm l r

  pub foot_cnt : (x : ℕ) (t : Tree V) (d : Option Link) (m km : ℕ) (vm : V) (c : Tree V) (u : Option Link) → Foot t d m km vm c u → occurs x c + one x m ≡ occurs x t
  foot_cnt x leaf d m km vm c u f = absurd f
  foot_cnt x (fork j k v l r) d m km vm c u (inl f) =
      let a = ap (occurs x) f.0 in let b = ap (occurs x) f.1 in let e = ap (occurs x) f.5 in let o = ap (one x) f.2 in omega (arith, a, b, e, o)
  foot_cnt x (fork j k v l r) d m km vm c u (inr (inl f)) = let e = ap (occurs x) f.2 in omega (arith, e, foot_cnt x l (Some (on j Left)) m km vm f.0 u f.1)
  foot_cnt x (fork j k v l r) d m km vm c u (inr (inr f)) = let e = ap (occurs x) f.2 in omega (arith, e, foot_cnt x r (Some (on j Right)) m km vm f.0 u f.1)

  pub foot-size : (t : Tree V) (d : Option Link) (m km : ℕ) (vm : V) (c : Tree V) (u : Option Link) → Foot t d m km vm c u → size c + 1 ≡ size t
  foot-size leaf d m km vm c u f = absurd f
  foot-size (fork j k v l r) d m km vm c u (inl f) = let a = ap size f.0 in let b = ap size f.1 in let e = ap size f.5 in omega (arith, a, b, e)
  foot-size (fork j k v l r) d m km vm c u (inr (inl f)) = let e = ap size f.2 in omega (arith, e, foot-size l (Some (on j Left)) m km vm f.0 u f.1)
  foot-size (fork j k v l r) d m km vm c u (inr (inr f)) = let e = ap size f.2 in omega (arith, e, foot-size r (Some (on j Right)) m km vm f.0 u f.1)

  pub foot_in : (h low : ℕ) (t : Tree V) (d : Option Link) (m km : ℕ) (vm : V) (c : Tree V) (u : Option Link) → Foot t d m km vm c u → Inside h low t → Inside h low c × At km h low
  foot_in h low leaf d m km vm c u f inn = absurd f
  foot_in zero low (fork j k v l r) d m km vm c u (inl f) inn = (subst (Inside zero low) (sym f.5) tt, (omega (arith, f.3, inn.0), omega (arith, f.3, inn.0)))
  foot_in (suc h) low (fork j k v l r) d m km vm c u (inl f) inn = (subst (Inside (suc h) low) (sym f.5) tt, (omega (arith, f.3, inn.0), omega (arith, f.3, inn.1)))
  foot_in zero low (fork j k v l r) d m km vm c u (inr (inl f)) inn = absurd (subst (λ (x : Tree V). Foot x (Some (on j Left)) m km vm f.0 u) inn.1 f.1)
  foot_in zero low (fork j k v l r) d m km vm c u (inr (inr f)) inn = absurd (subst (λ (x : Tree V). Foot x (Some (on j Right)) m km vm f.0 u) inn.2 f.1)
  foot_in (suc h) low (fork j k v l r) d m km vm c u (inr (inl f)) inn =
      let i = foot_in h low l (Some (on j Left)) m km vm f.0 u f.1 inn.2 in let a : low ≤ km = i.1.0 in let b : km < low + 2 ^ h = i.1.1 in let two = two-pow-succ h in
      (subst (Inside (suc h) low) (sym f.2) (inn.0, inn.1, i.0, inn.3), (a, omega (arith, two)))
  foot_in (suc h) low (fork j k v l r) d m km vm c u (inr (inr f)) inn =
      let i = foot_in h (low + 2 ^ h) r (Some (on j Right)) m km vm f.0 u f.1 inn.3 in let a : low + 2 ^ h ≤ km = i.1.0 in let b : km < low + 2 ^ h + 2 ^ h = i.1.1 in let two = two-pow-succ h in
      (subst (Inside (suc h) low) (sym f.2) (inn.0, inn.1, inn.2, i.0), (omega arith, omega (arith, two)))

  or-cond : (b : Bool) (w : V) (x y : Option V) → option_or (cond b (Some w) x) y ≡ cond b (Some w) (option_or x y)
  or-cond true w x y = refl
  or-cond false w x y = refl

  -- what look-ups find without the fork
  pub foot_val : (x h low : ℕ) (t : Tree V) (d : Option Link) (m km : ℕ) (vm : V) (c : Tree V) (u : Option Link) → Foot t d m km vm c u → Inside h low t → Distinct t
      → (record_of x t ≡ cond (eqb x km) (Some vm) (record_of x c)) × (record_of km c ≡ None)
  foot_val x h low leaf d m km vm c u f inn o = absurd f
  foot_val x h low (fork j k v l r) d m km vm c u (inl f) inn o = (
    ap (λ (y : Tree V). cond (eqb x k) (Some v) (option_or (record_of x y) (record_of x r))) f.0 ∙ ap (λ (y : Tree V). cond (eqb x k) (Some v) (record_of x y)) f.1
        ∙ ap (λ (y : ℕ). cond (eqb x y) (Some v) None) (sym f.3) ∙ ap (λ (y : V). cond (eqb x km) (Some y) None) (sym f.4) ∙ ap (λ (y : Tree V). cond (eqb x km) (Some vm) (record_of x y)) (sym f.5),
    ap (record_of km) f.5,
  )
  foot_val x zero low (fork j k v l r) d m km vm c u (inr (inl f)) inn o = absurd (subst (λ (x : Tree V). Foot x (Some (on j Left)) m km vm f.0 u) inn.1 f.1)
  foot_val x zero low (fork j k v l r) d m km vm c u (inr (inr f)) inn o = absurd (subst (λ (x : Tree V). Foot x (Some (on j Right)) m km vm f.0 u) inn.2 f.1)
  foot_val x (suc h) low (fork j k v l r) d m km vm c u (inr (inl f)) inn o =
      let l' : Tree V = f.0 in
      let at : At km h low = (foot_in h low l (Some (on j Left)) m km vm l' u f.1 inn.2).1 in
      let ih = foot_val x h low l (Some (on j Left)) m km vm l' u f.1 inn.2 o.2 in
      let ihk = foot_val k h low l (Some (on j Left)) m km vm l' u f.1 inn.2 o.2 in
      let ne : km ≡ k → ⊥ = λ e. none-some vm (sym o.0 ∙ ihk.0 ∙ yes_eq k km _ _ (sym e)) in
      let go = ⊎_elim
      (λ (e : x ≡ km). ap (λ (y : Option V). cond (eqb x k) (Some v) (option_or y (record_of x r))) ih.0 ∙ no_eq x k _ _ (λ g. ne (sym e ∙ g)) ∙ ap (λ (y : Option V). option_or y (record_of x r)) (yes_eq x km _ _ e) ∙ sym (yes_eq x km _ _ e))
      (λ (e : x ≡ km → ⊥). ap (λ (y : Option V). cond (eqb x k) (Some v) (option_or y (record_of x r))) (ih.0 ∙ no_eq x km _ _ e) ∙ sym (no_eq x km _ _ e))
      (cases_eq x km) in (
        go ∙ ap (λ (y : Tree V). cond (eqb x km) (Some vm) (record_of x y)) (sym f.2),
        ap (record_of km) f.2 ∙ no_eq km k _ _ ne ∙ ap (λ (y : Option V). option_or y (record_of km r)) ih.1 ∙ outside km h (low + 2 ^ h) r inn.3 (inl at.1),
      )
  foot_val x (suc h) low (fork j k v l r) d m km vm c u (inr (inr f)) inn o =
      let r' : Tree V = f.0 in
      let at : At km h (low + 2 ^ h) = (foot_in h (low + 2 ^ h) r (Some (on j Right)) m km vm r' u f.1 inn.3).1 in
      let ih = foot_val x h (low + 2 ^ h) r (Some (on j Right)) m km vm r' u f.1 inn.3 o.3 in
      let ihk = foot_val k h (low + 2 ^ h) r (Some (on j Right)) m km vm r' u f.1 inn.3 o.3 in
      let ne : km ≡ k → ⊥ = λ e. none-some vm (sym o.1 ∙ ihk.0 ∙ yes_eq k km _ _ (sym e)) in
      let out : record_of km l ≡ None = outside km h low l inn.2 (inr at.0) in
      let go = ⊎_elim
      (λ (e : x ≡ km). let ox : record_of x l ≡ None = ap (λ (y : ℕ). record_of y l) e ∙ out in
      ap (λ (y : Option V). cond (eqb x k) (Some v) (option_or (record_of x l) y)) ih.0 ∙ no_eq x k _ _ (λ g. ne (sym e ∙ g)) ∙ ap (λ (y : Option V). option_or y (cond (eqb x km) (Some vm) (record_of x r'))) ox ∙ yes_eq x km _ _ e ∙ sym (yes_eq x km _ _ e))
      (λ (e : x ≡ km → ⊥). ap (λ (y : Option V). cond (eqb x k) (Some v) (option_or (record_of x l) y)) (ih.0 ∙ no_eq x km _ _ e) ∙ sym (no_eq x km _ _ e))
      (cases_eq x km) in (
        go ∙ ap (λ (y : Tree V). cond (eqb x km) (Some vm) (record_of x y)) (sym f.2),
        ap (record_of km) f.2 ∙ no_eq km k _ _ ne ∙ ap (λ (y : Option V). option_or y (record_of km r')) out ∙ ih.1,
      )

  -- a key that was not there is not there without the fork
  foot_less : (x h low : ℕ) (t : Tree V) (d : Option Link) (m km : ℕ) (vm : V) (c : Tree V) (u : Option Link) → Foot t d m km vm c u → Inside h low t → Distinct t → record_of x t ≡ None → (record_of x c ≡ None) × (x ≡ km → ⊥)
  foot_less x h low t d m km vm c u f inn o n =
      let fv = foot_val x h low t d m km vm c u f inn o in
      let ne : x ≡ km → ⊥ = λ e. none-some vm (sym n ∙ fv.0 ∙ yes_eq x km _ _ e) in
      (sym (no_eq x km _ _ ne) ∙ sym fv.0 ∙ n, ne)

  pub foot-once : (h low : ℕ) (t : Tree V) (d : Option Link) (m km : ℕ) (vm : V) (c : Tree V) (u : Option Link) → Foot t d m km vm c u → Inside h low t → Distinct t → Distinct c
  foot-once h low leaf d m km vm c u f inn o = absurd f
  foot-once h low (fork j k v l r) d m km vm c u (inl f) inn o = subst Distinct (sym f.5) tt
  foot-once zero low (fork j k v l r) d m km vm c u (inr (inl f)) inn o = absurd (subst (λ (x : Tree V). Foot x (Some (on j Left)) m km vm f.0 u) inn.1 f.1)
  foot-once zero low (fork j k v l r) d m km vm c u (inr (inr f)) inn o = absurd (subst (λ (x : Tree V). Foot x (Some (on j Right)) m km vm f.0 u) inn.2 f.1)
  foot-once (suc h) low (fork j k v l r) d m km vm c u (inr (inl f)) inn o =
      subst Distinct (sym f.2) ((foot_less k h low l (Some (on j Left)) m km vm f.0 u f.1 inn.2 o.2 o.0).0, o.1, foot-once h low l (Some (on j Left)) m km vm f.0 u f.1 inn.2 o.2, o.3)
  foot-once (suc h) low (fork j k v l r) d m km vm c u (inr (inr f)) inn o =
      subst Distinct (sym f.2) (o.0, (foot_less k h (low + 2 ^ h) r (Some (on j Right)) m km vm f.0 u f.1 inn.3 o.3 o.1).0, o.2, foot-once h (low + 2 ^ h) r (Some (on j Right)) m km vm f.0 u f.1 inn.3 o.3)

  pub foot_node : (ns : List (Node V)) (t : Tree V) (d : Option Link) (m km : ℕ) (vm : V) (c : Tree V) (u : Option Link) → Foot t d m km vm c u → Laid ns t → slice_get ns m ≡ Some (node_of km vm None None)
  foot_node ns leaf d m km vm c u f is = absurd f
  foot_node ns (fork j k v l r) d m km vm c u (inl f) is =
      ap (slice_get ns) f.2 ∙ is.0 ∙ ap (λ (x : Tree V). Some (node_of k v (link x) (link r))) f.0 ∙ ap (λ (x : Tree V). Some (node_of k v None (link x))) f.1
      ∙ ap (λ (x : ℕ). Some (node_of x v None None)) (sym f.3) ∙ ap (λ (x : V). Some (node_of km x None None)) (sym f.4)
  foot_node ns (fork j k v l r) d m km vm c u (inr (inl f)) is = foot_node ns l (Some (on j Left)) m km vm f.0 u f.1 is.1
  foot_node ns (fork j k v l r) d m km vm c u (inr (inr f)) is = foot_node ns r (Some (on j Right)) m km vm f.0 u f.1 is.2

  -- the fork is the tree, or its link stands in the tree
  pub data Hold (t : Tree V) (d : Option Link) (c : Tree V) (u : Option Link) : Type 0 where
    all : c ≡ leaf → u ≡ d → Hold t d c u
    part : link c ≡ link t → (p : ℕ) (side : Side) → u ≡ Some (on p side) → 1 ≤ occurs p t → Hold t d c u

  pub hold : (t : Tree V) (d : Option Link) (m km : ℕ) (vm : V) (c : Tree V) (u : Option Link) → Foot t d m km vm c u → Hold t d c u
  hold leaf d m km vm c u f = absurd f
  hold (fork j k v l r) d m km vm c u (inl f) = all f.5 f.6
  hold (fork j k v l r) d m km vm c u (inr (inl f)) =
      let o : one j j ≡ 1 = one_same j j refl in
      elim (hold l (Some (on j Left)) m km vm f.0 u f.1) [ all a b ↦ part (ap link f.2) j Left b (omega arith) | part a p side b i ↦ part (ap link f.2) p side b (omega arith) ]
  hold (fork j k v l r) d m km vm c u (inr (inr f)) =
      let o : one j j ≡ 1 = one_same j j refl in
      elim (hold r (Some (on j Right)) m km vm f.0 u f.1) [ all a b ↦ part (ap link f.2) j Right b (omega arith) | part a p side b i ↦ part (ap link f.2) p side b (omega arith) ]

  -- the writes that take the fork out of a tree
  pub record Freed (ns ms : List (Node V)) (t : Tree V) (m : ℕ) (u : Option Link) : Type 0 where
    pub kept : (x : ℕ) → 1 ≤ occurs x t → (x ≡ m → ⊥) → ((p : ℕ) (side : Side) → u ≡ Some (on p side) → x ≡ p → ⊥) → slice_get ms x ≡ slice_get ns x
    pub linked : (p : ℕ) (side : Side) (n : Node V) → u ≡ Some (on p side) → 1 ≤ occurs p t → (p ≡ m → ⊥) → slice_get ns p ≡ Some n → slice_get ms p ≡ Some (with_link side None n)

  -- above a foot, the node takes the new link on the foot's side, and its other subtree stays
  foot_above : (ns ms : List (Node V)) (j k : ℕ) (v : V) (l r : Tree V) (e : Side) (m km : ℕ) (vm : V) (c : Tree V) (u : Option Link) → Foot (branch e l r) (Some (on j e)) m km vm c u → ((x : ℕ) → occurs x (fork j k v l r) ≤ 1) → Laid ns (fork j k v l r)
      → Freed ns ms (fork j k v l r) m u → (slice_get ms j ≡ Some (with_link e (link c) (node_of k v (link l) (link r)))) × Laid ms (branch (opposite e) l r)
  foot_above ns ms j k v l r e m km vm c u f a1 is fr =
      let w : Tree V = branch e l r in
      let n : Node V = node_of k v (link l) (link r) in
      let o : one j j ≡ 1 = one_same j j refl in
      let mm : one m m ≡ 1 = one_same m m refl in
      let both = λ (x : ℕ). both_sides x e l r in
      let in_w : occurs m c + one m m ≡ occurs m w = foot_cnt m w (Some (on j e)) m km vm c u f in
      let jm : j ≡ m → ⊥ = λ q. (let g : one m j ≡ 1 = one_same m j (sym q) in omega (arith, a1 m, both m)) in
      let xm : (x : ℕ) → 1 ≤ occurs x (branch (opposite e) l r) → x ≡ m → ⊥ = λ x i q. (let g : occurs x (branch (opposite e) l r) ≡ occurs m (branch (opposite e) l r) = ap (λ (y : ℕ). occurs y (branch (opposite e) l r)) q in omega (arith, a1 m, both m)) in
      let other = laid_side ns (opposite e) l r is.1 is.2 in
      elim (hold w (Some (on j e)) m km vm c u f) [
        | all a b ↦ (
          fr.linked j e n b (omega arith) jm is.0 ∙ ap (λ (x : Tree V). Some (with_link e (link x) n)) (sym a),
          same ns ms (branch (opposite e) l r) (λ x i. fr.kept x (omega (arith, both x)) (xm x i) (λ p side q xp. let g : one x j ≡ 1 = one_same x j (xp ∙ off_other p j side e u q b) in omega (arith, a1 x, both x))) other,
        )
        | part a p side b i ↦ (
          fr.kept j (omega arith) jm (λ p' side' q jp. let g : one p j ≡ 1 = one_same p j (off_other p p' side side' u b q ∙ sym jp) in omega (arith, a1 p, both p))
              ∙ is.0 ∙ ap Some (own_link e k v l r) ∙ ap (λ (x : Option ℕ). Some (with_link e x n)) (sym a),
          same ns ms (branch (opposite e) l r) (λ x i'. fr.kept x (omega (arith, both x)) (xm x i')
              (λ p' side' q xp. let g : occurs x w ≡ occurs p w = ap (λ (y : ℕ). occurs y w) (xp ∙ off_other p' p side' side u q b) in omega (arith, a1 x, both x))) other,
        )
      ]

  pub foot-is : (ns ms : List (Node V)) (t : Tree V) (d : Option Link) (m km : ℕ) (vm : V) (c : Tree V) (u : Option Link) → Foot t d m km vm c u → ((x : ℕ) → occurs x t ≤ 1) → Laid ns t → Freed ns ms t m u → Laid ms c
  foot-is ns ms leaf d m km vm c u f a1 is fr = absurd f
  foot-is ns ms (fork j k v l r) d m km vm c u (inl f) a1 is fr = subst (Laid ms) (sym f.5) tt
  foot-is ns ms (fork j k v l r) d m km vm c u (inr (inl f)) a1 is fr =
      let top = foot_above ns ms j k v l r Left m km vm f.0 u f.1 a1 is fr in
      let rest = foot-is ns ms l (Some (on j Left)) m km vm f.0 u f.1 (λ x. omega (arith, a1 x)) is.1 (record { kept = λ x i. fr.kept x (omega arith); linked = λ p side n e i. fr.linked p side n e (omega arith) }) in
      subst (Laid ms) (sym f.2) (top.0, rest, top.1)
  foot-is ns ms (fork j k v l r) d m km vm c u (inr (inr f)) a1 is fr =
      let top = foot_above ns ms j k v l r Right m km vm f.0 u f.1 a1 is fr in
      let rest = foot-is ns ms r (Some (on j Right)) m km vm f.0 u f.1 (λ x. omega (arith, a1 x)) is.2 (record { kept = λ x i. fr.kept x (omega arith); linked = λ p side n e i. fr.linked p side n e (omega arith) }) in
      subst (Laid ms) (sym f.2) (top.0, top.1, rest)

  -- a turn of the walk down: a foot of the subtree is one of the whole
  pub record Down (ns : List (Node V)) (bits at : ℕ) (under : Option Link) (s : Tree V) (start : Option Link) : Type 0 where
    pub t : Tree V
    pub at-is : Some at ≡ link t
    pub is : Laid ns t
    pub high : Levels bits t
    pub back : (m km : ℕ) (vm : V) (c : Tree V) (u : Option Link) → Foot t under m km vm c u → Bottom s start m u

  pub down_ok : {ns : List (Node V)} {bits at : ℕ} {under start : Option Link} {s : Tree V} → Down ns bits at under s start → at < length ns
  down_ok {ns} {at = at} w = let a = forked ns at w.t w.at-is w.is in nth_lt ns at _ a.node

  leafed : (t : Tree V) → None ≡ link t → t ≡ leaf
  leafed leaf e = refl
  leafed (fork j k v l r) e = let g : None ≡ Some j = e in cc

  pub down_end : {ns : List (Node V)} {bits at : ℕ} {under start : Option Link} {s : Tree V} (n : Node V) → Down ns bits at under s start → slice_get ns at ≡ Some n → n.left ≡ None → n.right ≡ None → Bottom s start at under
  down_end {ns} {bits} {at} {under} {start} {s} n w e nl nr =
      let a = forked ns at w.t w.at-is w.is in
      let node : slice_get ns at ≡ Some (node_of a.k a.v (link a.l) (link a.r)) = a.node in
      let eq : n ≡ node_of a.k a.v (link a.l) (link a.r) = cc in
      let ll : a.l ≡ leaf = leafed a.l (sym nl ∙ ap (λ (x : Node V). x.left) eq) in
      let rr : a.r ≡ leaf = leafed a.r (sym nr ∙ ap (λ (x : Node V). x.right) eq) in
      w.back at a.k a.v leaf under (subst (λ (x : Tree V). Foot x under at a.k a.v leaf under) (sym a.is) (inl (ll, rr, refl, refl, refl, refl, refl)))

  pub down_left : {ns : List (Node V)} {bits at i : ℕ} {under start : Option Link} {s : Tree V} (n : Node V) → Down ns bits at under s start → slice_get ns at ≡ Some n → n.left ≡ Some i → Down ns bits i (Some (on at Left)) s start
  down_left {ns} {bits} {at} {i} {under} {start} {s} n w e nl =
      let a = forked ns at w.t w.at-is w.is in
      let node : slice_get ns at ≡ Some (node_of a.k a.v (link a.l) (link a.r)) = a.node in
      let eq : n ≡ node_of a.k a.v (link a.l) (link a.r) = cc in
      let li : Some i ≡ link a.l = sym nl ∙ ap (λ (x : Node V). x.left) eq in
      let hi = levels_below bits at a.k a.v a.l a.r (subst (Levels bits) a.is w.high) in
      record {
        t = a.l;
        at-is = li;
        is = a.left_is;
        high = hi.0;
        back = λ m km vm c u f. w.back m km vm (fork at a.k a.v c a.r) u (subst (λ (x : Tree V). Foot x under m km vm (fork at a.k a.v c a.r) u) (sym a.is) (inr (inl (c, f, refl))));
      }

  pub down_right : {ns : List (Node V)} {bits at i : ℕ} {under start : Option Link} {s : Tree V} (n : Node V) → Down ns bits at under s start → slice_get ns at ≡ Some n → n.right ≡ Some i → Down ns bits i (Some (on at Right)) s start
  down_right {ns} {bits} {at} {i} {under} {start} {s} n w e nl =
      let a = forked ns at w.t w.at-is w.is in
      let node : slice_get ns at ≡ Some (node_of a.k a.v (link a.l) (link a.r)) = a.node in
      let eq : n ≡ node_of a.k a.v (link a.l) (link a.r) = cc in
      let li : Some i ≡ link a.r = sym nl ∙ ap (λ (x : Node V). x.right) eq in
      let hi = levels_below bits at a.k a.v a.l a.r (subst (Levels bits) a.is w.high) in
      record {
        t = a.r;
        at-is = li;
        is = a.right_is;
        high = hi.1;
        back = λ m km vm c u f. w.back m km vm (fork at a.k a.v a.l c) u (subst (λ (x : Tree V). Foot x under m km vm (fork at a.k a.v a.l c) u) (sym a.is) (inr (inr (c, f, refl))));
      }

  -- a turn to a side on which there is a child
  pub down_on : {ns : List (Node V)} {bits at i : ℕ} {under start : Option Link} {s : Tree V} (n : Node V) (e : Side) → Down ns bits at under s start → slice_get ns at ≡ Some n → child e n ≡ Some i → Down ns bits i (Some (on at e)) s start
  down_on n Left w at c = down_left n w at c
  down_on n Right w at c = down_right n w at c

  -- and fewer levels are below
  pub down-fewer : {ns : List (Node V)} {bits at i : ℕ} {under start : Option Link} {s : Tree V} (n : Node V) (e : Side) → Down ns bits at under s start → slice_get ns at ≡ Some n → child e n ≡ Some i → height (tree_below (suc bits) ns (Some i)) < height (tree_below (suc bits) ns (Some at))
  down-fewer {ns} {bits} {at} n e w nt c = rw (← c) (fewer ns bits at w.t n e w.at-is w.is w.high nt)

  pub down_begin : {ns : List (Node V)} {bits at : ℕ} {under : Option Link} (s : Tree V) → Some at ≡ link s → Laid ns s → Levels bits s → Down ns bits at under s under
  down_begin {bits = bits} s e is hi = record { t = s; at-is = e; is = is; high = hi; back = λ m km vm c u f. record { km = km; vm = vm; c = c; foot = f } }

  -- the top of a foot's tree may take the foot's key and record
  pub foot-crown : (j k : ℕ) (v : V) (l r : Tree V) (d : Option Link) (m km : ℕ) (vm : V) (c : Tree V) (u : Option Link) → Foot (fork j k v l r) d m km vm c u → Foot (fork j km vm l r) d m km vm (crown km vm c) u
  foot-crown j k v l r d m km vm c u (inl f) = inl (f.0, f.1, f.2, refl, refl, ap (crown km vm) f.5, f.6)
  foot-crown j k v l r d m km vm c u (inr (inl f)) = inr (inl (f.0, f.1, ap (crown km vm) f.2))
  foot-crown j k v l r d m km vm c u (inr (inr f)) = inr (inr (f.0, f.1, ap (crown km vm) f.2))

  pub cnt_crown : (x km : ℕ) (vm : V) (c : Tree V) → occurs x (crown km vm c) ≡ occurs x c
  cnt_crown x km vm leaf = refl
  cnt_crown x km vm (fork j k v l r) = refl

  pub size-crown : (km : ℕ) (vm : V) (c : Tree V) → size (crown km vm c) ≡ size c
  size-crown km vm leaf = refl
  size-crown km vm (fork j k v l r) = refl

  pub link-crown : (km : ℕ) (vm : V) (c : Tree V) → link (crown km vm c) ≡ link c
  link-crown km vm leaf = refl
  link-crown km vm (fork j k v l r) = refl

  pub in_crown : (h low km : ℕ) (vm : V) (c : Tree V) → Inside h low c → At km h low → Inside h low (crown km vm c)
  in_crown h low km vm leaf inn a = tt
  in_crown zero low km vm (fork j k v l r) inn a = (omega (arith, a.0, a.1), inn.1, inn.2)
  in_crown (suc h) low km vm (fork j k v l r) inn a = (a.0, a.1, inn.2, inn.3)

  -- a fork of a key, and what is below once it holds another key
  or_both : (x y : Option V) → option_or x y ≡ None → (x ≡ None) × (y ≡ None)
  or_both None y e = (refl, e)
  or_both (Some x) y e = absurd (none-some x (sym e))

  pub record Crowned (q km : ℕ) (vm : V) (s c : Tree V) : Type 0 where
    pub gone : record_of q (crown km vm c) ≡ None
    pub others : (x : ℕ) → (x ≡ q → ⊥) → record_of x (crown km vm c) ≡ record_of x s
    pub once : Distinct (crown km vm c)

  crowned_fork : (h low j q : ℕ) (v : V) (l r : Tree V) (d : Option Link) (m km : ℕ) (vm : V) (c : Tree V) (u : Option Link) (l' r' : Tree V) → c ≡ fork j q v l' r' → Foot (fork j q v l r) d m km vm c u → Inside h low (fork j q v l r) → Distinct (fork j q v l r)
      → Crowned q km vm (fork j q v l r) c
  crowned_fork h low j q v l r d m km vm c u l' r' e f inn o =
      let fv = λ (x : ℕ). foot_val x h low (fork j q v l r) d m km vm c u f inn o in
      let oc : Distinct (fork j q v l' r') = subst Distinct e (foot-once h low (fork j q v l r) d m km vm c u f inn o) in
      let cr : crown km vm c ≡ fork j km vm l' r' = ap (crown km vm) e in
      let ck : record_of km (fork j q v l' r') ≡ None = ap (record_of km) (sym e) ∙ (fv km).1 in
      let ne : km ≡ q → ⊥ = λ g. none-some v (sym ck ∙ yes_eq km q _ _ g) in
      let both = or_both (record_of km l') (record_of km r') (sym (no_eq km q _ _ ne) ∙ ck) in
      record {
        gone = ap (record_of q) cr ∙ no_eq q km _ _ (λ g. ne (sym g)) ∙ ap (λ (y : Option V). option_or y (record_of q r')) oc.0 ∙ oc.1;
        others = λ x xq. ap (record_of x) cr ∙ ap (λ (y : Option V). cond (eqb x km) (Some vm) y) (sym (no_eq x q _ _ xq)) ∙ ap (λ (y : Tree V). cond (eqb x km) (Some vm) (record_of x y)) (sym e) ∙ sym (fv x).0;
        once = subst Distinct (sym cr) (both.0, both.1, oc.2, oc.3);
      }

  pub crowned : (h low j q : ℕ) (v : V) (l r : Tree V) (d : Option Link) (m km : ℕ) (vm : V) (c : Tree V) (u : Option Link) → Foot (fork j q v l r) d m km vm c u → Inside h low (fork j q v l r) → Distinct (fork j q v l r)
      → Crowned q km vm (fork j q v l r) c
  crowned h low j q v l r d m km vm c u (inl f) inn o =
      let e : crown km vm c ≡ leaf = ap (crown km vm) f.5 in
      record { gone = ap (record_of q) e; others = λ x ne. ap (record_of x) e ∙ sym (no_eq x q _ _ ne ∙ ap (λ (y : Tree V). option_or (record_of x y) (record_of x r)) f.0 ∙ ap (record_of x) f.1); once = subst Distinct (sym e) tt }
  crowned h low j q v l r d m km vm c u (inr (inl f)) inn o = crowned_fork h low j q v l r d m km vm c u f.0 r f.2 (inr (inl f)) inn o
  crowned h low j q v l r d m km vm c u (inr (inr f)) inn o = crowned_fork h low j q v l r d m km vm c u l f.0 f.2 (inr (inr f)) inn o
