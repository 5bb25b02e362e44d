-- The least key, and the least above a key. Assumes nothing.
use Rattle.std.proofs.Common.{◌≡◌, ℕ, zero, suc, ◌+◌, ◌^◌, ◌<◌, ◌≤◌, cond, eqb, ltb, List, [], ◌∷◌, Some, None, Option, sym, refl, ap, ◌∙◌, subst, inl, inr, ⊎_elim, arith}
use Rattle.std.proofs.lemmas.Bool.{cases_lt, cases_order}
use Rattle.store.specs.Model.{first_from}
use Rattle.std.specs.Option.{option_or}
use Rattle.tree.specs.Order.{lesser, least}
use Rattle.tree.specs.Tree.{Tree, leaf, fork, Inside, record_of, Distinct, pour}
use Rattle.tree.proofs.Entries.{yes_eq, no_eq, yes_lt, no_lt, get, Sorted, get_nil, get_hit, get_cons, get-over, over_less}
use Rattle.tree.proofs.NewKey.{get_tree}
use Rattle.tree.proofs.Trees.{At, at_left, at_right, outside, sorted_pour}

module _ {V : Type 0} where
  -- the least key above a key, on the way that the key's digits show
  abbrev pub next : ℕ → ℕ → ℕ → Tree V → Option ℕ
  next q h low leaf = None
  next q zero low (fork j k v l r) = None
  next q (suc h) low (fork j k v l r) = cond (ltb q k) (lesser (Some k) (cond (ltb q (low + 2 ^ h)) (option_or (next q h low l) (least r)) (next q h (low + 2 ^ h) r))) (cond (ltb q (low + 2 ^ h)) (option_or (next q h low l) (least r)) (next q h (low + 2 ^ h) r))

  -- the first key from a number on, of a map as a function
  abbrev pub From : ℕ → (ℕ → Option V) → Option ℕ → Type 0
  From lo g None = (x : ℕ) → lo ≤ x → g x ≡ None
  From lo g (Some k) = (lo ≤ k) × (g k ≡ None → ⊥) × ((x : ℕ) → lo ≤ x → x < k → g x ≡ None)

  held : (o : Option V) (v : V) → o ≡ Some v → o ≡ None → ⊥
  held o v a b = cc

  or-none : (a b : Option V) → option_or a b ≡ None → a ≡ None
  or-none None b e = refl
  or-none (Some x) b e = e

  -- it is one key
  pub from_one : (lo : ℕ) (g : ℕ → Option V) (a b : Option ℕ) → From lo g a → From lo g b → a ≡ b
  from_one lo g None None p q = refl
  from_one lo g None (Some e) p q = absurd (q.1 (p e q.0))
  from_one lo g (Some e) None p q = absurd (p.1 (q e p.0))
  from_one lo g (Some e) (Some f) p q = ⊎_elim
      (λ k. ap Some k)
      (⊎_elim
      (λ lt. absurd (p.1 (q.2 e p.0 lt)))
      (λ lt. absurd (q.1 (p.2 f q.0 lt))))
      (cases_order e f)

  pub from_same : (lo : ℕ) (f g : ℕ → Option V) (o : Option ℕ) → ((x : ℕ) → g x ≡ f x) → From lo f o → From lo g o
  from_same lo f g None e p = λ x le. e x ∙ p x le
  from_same lo f g (Some a) e p = (p.0, λ z. p.1 (sym (e a) ∙ z), λ x le lt. e x ∙ p.2 x le lt)

  -- one more entry
  pub from_pick : (lo k : ℕ) (v : V) (b : ℕ → Option V) (o : Option ℕ) → b k ≡ None → lo ≤ k → From lo b o → From lo (λ x. cond (eqb x k) (Some v) (b x)) (lesser (Some k) o)
  from_pick lo k v b None n le p = (le, held _ v (yes_eq k k _ _ refl), λ x a lt. no_eq x k _ _ (omega arith) ∙ p x a)
  from_pick lo k v b (Some e) n le p = ⊎_elim
      (λ lt. subst (From lo (λ x. cond (eqb x k) (Some v) (b x))) (sym (yes_lt k e _ _ lt)) (le, held _ v (yes_eq k k _ _ refl), λ x a l2. no_eq x k _ _ (omega arith) ∙ p.2 x a (omega arith)))
      (λ ge. let ne : e ≡ k → ⊥ = λ q. p.1 (ap b q ∙ n) in
      subst (From lo (λ x. cond (eqb x k) (Some v) (b x))) (sym (no_lt k e _ _ ge)) (p.0, λ z. p.1 (sym (no_eq e k _ _ ne) ∙ z), λ x a l2. no_eq x k _ _ (omega arith) ∙ p.2 x a l2))
      (cases_lt k e)

  pub from_skip : (lo k : ℕ) (v : V) (b : ℕ → Option V) (o : Option ℕ) → k < lo → From lo b o → From lo (λ x. cond (eqb x k) (Some v) (b x)) o
  from_skip lo k v b None lt p = λ x a. no_eq x k _ _ (omega arith) ∙ p x a
  from_skip lo k v b (Some e) lt p = (p.0, λ z. p.1 (sym (no_eq e k _ _ (omega (arith, p.0))) ∙ z), λ x a l2. no_eq x k _ _ (omega arith) ∙ p.2 x a l2)

  -- two maps, one below the other
  pub from_or : (lo mid : ℕ) (f g : ℕ → Option V) (a b : Option ℕ) → ((x : ℕ) → mid ≤ x → f x ≡ None) → ((x : ℕ) → x < mid → g x ≡ None) → From lo f a → From lo g b → From lo (λ x. option_or (f x) (g x)) (option_or a b)
  from_or lo mid f g None None hf hg p q = λ x le. ap (λ (y : Option V). option_or y (g x)) (p x le) ∙ q x le
  from_or lo mid f g None (Some e) hf hg p q = (q.0, λ z. q.1 (sym (ap (λ (y : Option V). option_or y (g e)) (p e q.0)) ∙ z), λ x le lt. ap (λ (y : Option V). option_or y (g x)) (p x le) ∙ q.2 x le lt)
  from_or lo mid f g (Some e) b hf hg p q =
      let em : e < mid = ⊎_elim (λ w. w) (λ w. absurd (p.1 (hf e w))) (cases_lt e mid) in
      (p.0, λ z. p.1 (or-none (f e) (g e) z), λ x le lt. ap (λ (y : Option V). option_or y (g x)) (p.2 x le lt) ∙ hg x (omega arith))

  pub from_least : (h low : ℕ) (t : Tree V) → Inside h low t → Distinct t → From 0 (λ x. record_of x t) (least t)
  from_least h low leaf inn o = λ x le. refl
  from_least zero low (fork j k v l r) inn o =
      from_pick 0 k v (λ x. option_or (record_of x l) (record_of x r)) (option_or (least l) (least r)) (ap (λ (y : Option V). option_or y (record_of k r)) o.0 ∙ o.1) (omega arith)
      (subst (λ (y : Tree V). From 0 (λ x. option_or (record_of x y) (record_of x r)) (option_or (least y) (least r))) (sym inn.1) (subst (λ (y : Tree V). From 0 (λ x. record_of x y) (least y)) (sym inn.2) (λ x le. refl)))
  from_least (suc h) low (fork j k v l r) inn o =
      from_pick 0 k v (λ x. option_or (record_of x l) (record_of x r)) (option_or (least l) (least r)) (ap (λ (y : Option V). option_or y (record_of k r)) o.0 ∙ o.1) (omega arith)
      (from_or 0 (low + 2 ^ h) (λ x. record_of x l) (λ x. record_of x r) (least l) (least r) (λ x w. outside x h low l inn.2 (inr w)) (λ x w. outside x h (low + 2 ^ h) r inn.3 (inl w)) (from_least h low l inn.2 o.2) (from_least h (low + 2 ^ h) r inn.3 o.3))

  -- nothing lies below
  pub from_raise : (lo mid : ℕ) (g : ℕ → Option V) (a : Option ℕ) → lo ≤ mid → ((x : ℕ) → x < mid → g x ≡ None) → From 0 g a → From lo g a
  from_raise lo mid g None le f p = λ x a. p x (omega arith)
  from_raise lo mid g (Some e) le f p = (⊎_elim (λ (w : e < mid). absurd (p.1 (f e w))) (λ (w : mid ≤ e). omega arith) (cases_lt e mid), p.1, λ x a lt. p.2 x (omega arith) lt)

  pub from_next : (q h low : ℕ) (t : Tree V) → Inside h low t → Distinct t → At q h low → From (suc q) (λ x. record_of x t) (next q h low t)
  from_next q h low leaf inn o a = λ x le. refl
  from_next q zero low (fork j k v l r) inn o a = λ x le. outside x zero low (fork j k v l r) inn (inr (omega (arith, a.0)))
  from_next q (suc h) low (fork j k v l r) inn o a =
      let ihl : At q h low → From (suc q) (λ x. record_of x l) (next q h low l) = λ b. from_next q h low l inn.2 o.2 b in
      let ihr : At q h (low + 2 ^ h) → From (suc q) (λ x. record_of x r) (next q h (low + 2 ^ h) r) = λ b. from_next q h (low + 2 ^ h) r inn.3 o.3 b in ⊎_elim
      (λ lt. subst (From (suc q) (λ x. record_of x (fork j k v l r))) (sym (up lt)) (from_pick (suc q) k v (λ x. option_or (record_of x l) (record_of x r)) rest none (omega arith) (below ihl ihr)))
      (λ ge. subst (From (suc q) (λ x. record_of x (fork j k v l r))) (sym (skip ge)) (from_skip (suc q) k v (λ x. option_or (record_of x l) (record_of x r)) rest (omega arith) (below ihl ihr)))
      (cases_lt q k)
    where
      rest : Option ℕ
      rest = cond (ltb q (low + 2 ^ h)) (option_or (next q h low l) (least r)) (next q h (low + 2 ^ h) r)

      up : q < k → next q (suc h) low (fork j k v l r) ≡ lesser (Some k) rest
      up lt = yes_lt q k _ _ lt

      skip : k ≤ q → next q (suc h) low (fork j k v l r) ≡ rest
      skip ge = no_lt q k _ _ ge

      none : option_or (record_of k l) (record_of k r) ≡ None
      none = ap (λ (y : Option V). option_or y (record_of k r)) o.0 ∙ o.1

      hl : (x : ℕ) → low + 2 ^ h ≤ x → record_of x l ≡ None
      hl x w = outside x h low l inn.2 (inr w)

      hr : (x : ℕ) → x < low + 2 ^ h → record_of x r ≡ None
      hr x w = outside x h (low + 2 ^ h) r inn.3 (inl w)

      below : (At q h low → From (suc q) (λ x. record_of x l) (next q h low l)) → (At q h (low + 2 ^ h) → From (suc q) (λ x. record_of x r) (next q h (low + 2 ^ h) r)) → From (suc q) (λ x. option_or (record_of x l) (record_of x r)) rest
      below ihl ihr = ⊎_elim
          (λ lt. subst (From (suc q) (λ x. option_or (record_of x l) (record_of x r))) (sym (yes_lt q (low + 2 ^ h) _ _ lt))
          (from_or (suc q) (low + 2 ^ h) (λ x. record_of x l) (λ x. record_of x r) (next q h low l) (least r) hl hr (ihl (at_left q h low a lt)) (from_raise (suc q) (low + 2 ^ h) (λ x. record_of x r) (least r) (omega arith) hr (from_least h (low + 2 ^ h) r inn.3 o.3))))
          (λ ge. subst (From (suc q) (λ x. option_or (record_of x l) (record_of x r))) (sym (no_lt q (low + 2 ^ h) _ _ ge))
          (from_or (suc q) (low + 2 ^ h) (λ x. record_of x l) (λ x. record_of x r) None (next q h (low + 2 ^ h) r) hl hr (λ x le. hl x (omega arith)) (ihr (at_right q h low a ge))))
          (cases_lt q (low + 2 ^ h))

  -- what the entries say
  pub from_first : (lo : ℕ) (es : List (ℕ × V)) → Sorted es → From lo (λ x. get x es) (first_from es lo)
  unfolding first_from
  from_first lo [] s = λ x le. get_nil V x
  from_first lo (e ∷ es) s = ⊎_elim
      (λ lt. subst (From lo (λ x. get x (e ∷ es))) (sym (yes_lt e.0 lo _ _ lt)) (from_same lo (λ x. cond (eqb x e.0) (Some e.1) (get x es)) (λ x. get x (e ∷ es)) (first_from es lo) (λ x. get_cons x e es) (from_skip lo e.0 e.1 (λ x. get x es) (first_from es lo) lt (from_first lo es s.1))))
      (λ ge. subst (From lo (λ x. get x (e ∷ es))) (sym (no_lt e.0 lo _ _ ge)) (ge, held _ e.1 (get_hit e.0 e es refl), λ x a lt. get-over x (e ∷ es) (lt, over_less x e.0 es (omega arith) s.0)))
      (cases_lt e.0 lo)

  from_entries : (lo : ℕ) (t : Tree V) → From lo (λ x. record_of x t) (first_from (pour t []) lo)
  from_entries lo t = from_same lo (λ x. get x (pour t [])) (λ x. record_of x t) (first_from (pour t []) lo) (λ x. sym (get_tree x t)) (from_first lo (pour t []) (sorted_pour t [] tt))

  -- the walks find the first key above, and the first of all
  pub next-is : (q h low : ℕ) (t : Tree V) → Inside h low t → Distinct t → At q h low → next q h low t ≡ first_from (pour t []) (suc q)
  next-is q h low t inn o a = from_one (suc q) (λ x. record_of x t) (next q h low t) (first_from (pour t []) (suc q)) (from_next q h low t inn o a) (from_entries (suc q) t)

  pub least-is : (h low : ℕ) (t : Tree V) → Inside h low t → Distinct t → least t ≡ first_from (pour t []) 0
  least-is h low t inn o = from_one 0 (λ x. record_of x t) (least t) (first_from (pour t []) 0) (from_least h low t inn o) (from_entries 0 t)
