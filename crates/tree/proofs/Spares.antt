-- The nodes that hold no record. Assumes nothing.
use Rattle.std.proofs.Common.{◌≡◌, ℕ, ◌+◌, ◌<◌, List, [], ◌∷◌, length, Some, None, Option, sym, refl, ap, ◌∙◌, subst, inl, inr, ⊎_elim, arith}
use Rattle.std.proofs.lemmas.Bool.{cases_eq}
use Rattle.std.specs.List.{slice_get}
use Rattle.tree.specs.declared.head.Head.{Head}
use Rattle.tree.specs.declared.node.Node.{Node}
use Rattle.tree.specs.Tree.{Tree, occurs, size, one, pour}
use Rattle.tree.specs.State.{listed, Chain, WellFormed, SpareNode, tree_of, stored}
use Rattle.tree.proofs.Trees.{one_same, one_other, nth_lt}
use Rattle.tree.proofs.NewKey.{the_tree}

module _ {V : Type 0} where
  -- the first free node
  pub record Popped (ns : List (Node V)) (new : ℕ) (f : List ℕ) : Type 0 where
    pub rest : List ℕ
    pub was : f ≡ new ∷ rest
    pub node : Node V
    pub at : slice_get ns new ≡ Some node
    pub chain : Chain ns node.left rest

  pub popped : (ns : List (Node V)) (i : Option ℕ) (new : ℕ) (f : List ℕ) → Chain ns i f → i ≡ Some new → Popped ns new f
  popped ns i new [] c e = let d : i ≡ None = c in cc
  popped ns i new (j ∷ f) c e =
      let d : i ≡ Some j = c.0 in let jn : j ≡ new = cc in
      record { rest = f; was = ap (λ (x : ℕ). x ∷ f) jn; node = c.1.0; at = ap (slice_get ns) (sym jn) ∙ c.1.1; chain = c.1.2 }

  none-freed : (ns : List (Node V)) (i : Option ℕ) (f : List ℕ) → Chain ns i f → i ≡ None → f ≡ []
  none-freed ns i [] c e = refl
  none-freed ns i (j ∷ f) c e = let d : i ≡ Some j = c.0 in cc

  pub freed-within : (ns : List (Node V)) (h : Head) (i : ℕ) → WellFormed ns h → h.free ≡ Some i → i < length ns
  freed-within ns h i u e = nth_lt ns i _ (popped ns h.free i u.f u.chain e).at

  -- the first freed node
  pub kept-freed : (ns : List (Node V)) (h : Head) (i : ℕ) (n : Node V) → WellFormed ns h → h.free ≡ Some i → slice_get ns i ≡ Some n → SpareNode ns h (record { at = i; free = n.left; fresh = h.fresh })
  kept-freed ns h i n u e at =
      let tr = the_tree ns h u in
      let p = popped ns h.free i u.f u.chain e in
      let o : (x : ℕ) → listed x u.f ≡ one x i + listed x p.rest = λ x. ap (listed x) p.was in
      let cts : (x : ℕ) → occurs x (tree_of ns h) ≡ occurs x u.t = λ x. ap (occurs x) tr in
      let pn : Node V = p.node in
      let pat : slice_get ns i ≡ Some pn = p.at in
      let same : pn ≡ n = cc in
      record {
        freed_first = inl e;
        f = p.rest;
        chain = subst (λ (m : Node V). Chain ns m.left p.rest) same p.chain;
        apart = λ x. omega (arith, u.apart x, o x, cts x);
        unused = λ x le. omega (arith, u.unused x le, o x, cts x);
        used = omega (arith, ap size tr, ap length p.was, u.used);
        at_within = nth_lt ns i n at;
        within = u.within;
      }

  -- the first unused node
  pub kept-unused : (ns : List (Node V)) (h : Head) → WellFormed ns h → h.free ≡ None → h.fresh < length ns → SpareNode ns h (record { at = h.fresh; free = None; fresh = h.fresh + 1 })
  kept-unused ns h u e lt =
      let tr = the_tree ns h u in
      let cts : (x : ℕ) → occurs x (tree_of ns h) ≡ occurs x u.t = λ x. ap (occurs x) tr in
      let none = none-freed ns h.free u.f u.chain e in
      record {
        freed_first = inr (e, refl);
        f = [];
        chain = refl;
        apart = λ x. ⊎_elim
            (λ (q : x ≡ h.fresh). let o : one x h.fresh ≡ 1 = one_same x h.fresh q in omega (arith, u.unused x (omega (arith, q)), cts x))
            (λ (q : x ≡ h.fresh → ⊥). let o : one x h.fresh ≡ 0 = one_other x h.fresh q in omega (arith, u.apart x, cts x))
            (cases_eq x h.fresh);
        unused = λ x le. let o : one x h.fresh ≡ 0 = one_other x h.fresh (omega (arith, le)) in omega (arith, u.unused x (omega (arith, le)), cts x);
        used = omega (arith, ap size tr, ap length none, u.used);
        at_within = lt;
        within = omega (arith, lt);
      }

  -- every node holds a record
  pub full : (ns : List (Node V)) (h : Head) → WellFormed ns h → h.free ≡ None → h.fresh ≡ length ns → length (stored ns h) ≡ length ns
  full ns h u e f = ap (λ (x : Tree V). length (pour x [])) (the_tree ns h u) ∙ sym u.sized ∙ (let none = none-freed ns h.free u.f u.chain e in omega (arith, ap length none, u.used, f))
