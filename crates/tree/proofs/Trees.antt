-- What a tree holds, how deep it is, and what writes elsewhere leave of it. Assumes nothing.
use Rattle.std.proofs.Common.{◌≡◌, ℕ, zero, suc, ◌+◌, ◌^◌, ◌<◌, ◌≤◌, ◌⊎◌, List, length, get_or, Some, None, Option, sym, refl, ap, ◌∙◌, subst, inl, inr, ⊎_elim, arith}
use mathlib.Core.Logic.{⊎_swap}
use native.Mathlib.Nat.{two-pow-succ}
use Rattle.std.proofs.lemmas.Bool.{cases_lt, cases_eq}
use Rattle.std.proofs.lemmas.Option.{slice_get_past, slice_get_read}
use Rattle.std.specs.List.{slice_get}
use Rattle.std.specs.Option.{option_or}
use Rattle.tree.specs.declared.links.Side.{Side}
use Rattle.tree.specs.declared.links.Side.TheVariants.{Left, Right}
use Rattle.tree.specs.declared.node.Node.{Node}
use Rattle.tree.specs.Tree.{Tree, leaf, fork, Laid, Inside, place_of, pour, occurs, one, record_of, node_of, link}
use Rattle.tree.specs.Writes.{with_link}
use Rattle.tree.proofs.Entries.{get, Sorted, yes_eq, no_eq, yes_lt, no_lt, sorted_ins, get-ins}

pub one_same : (x j : ℕ) → x ≡ j → one x j ≡ 1
one_same x j e = yes_eq x j 1 0 e

pub one_other : (x j : ℕ) → (x ≡ j → ⊥) → one x j ≡ 0
one_other x j e = no_eq x j 1 0 e

pub or-none : {X : Type 0} (x : Option X) → option_or x None ≡ x
or-none None = refl
or-none (Some x) = refl

-- a key of the interval, on its way
abbrev pub At : ℕ → ℕ → ℕ → Type 0
At q h low = (low ≤ q) × (q < low + 2 ^ h)

pub at_left : (q h low : ℕ) → At q (suc h) low → q < low + 2 ^ h → At q h low
at_left q h low a w = (a.0, w)

pub at_right : (q h low : ℕ) → At q (suc h) low → low + 2 ^ h ≤ q → At q h (low + 2 ^ h)
at_right q h low a w = let b : q < low + 2 ^ suc h = a.1 in (w, omega (arith, two-pow-succ h))

abbrev pub opposite : Side → Side
opposite Left = Right
opposite Right = Left

module _ {V : Type 0} where
  -- the subtree on a side, of the left one and the right one
  abbrev pub branch : Side → Tree V → Tree V → Tree V
  branch Left l r = l
  branch Right l r = r

  pub both_sides : (x : ℕ) (e : Side) (l r : Tree V) → occurs x (branch e l r) + occurs x (branch (opposite e) l r) ≡ occurs x l + occurs x r
  both_sides x Left l r = refl
  both_sides x Right l r = omega arith

  pub laid_side : (ns : List (Node V)) (e : Side) (l r : Tree V) → Laid ns l → Laid ns r → Laid ns (branch e l r)
  laid_side ns Left l r a b = a
  laid_side ns Right l r a b = b

  -- a node already has its own links
  pub own_link : (e : Side) (k : ℕ) (v : V) (l r : Tree V) → node_of k v (link l) (link r) ≡ with_link e (link (branch e l r)) (node_of k v (link l) (link r))
  own_link Left k v l r = refl
  own_link Right k v l r = refl

  pub get-pour : (q : ℕ) (t : Tree V) (es : List (ℕ × V)) → get q (pour t es) ≡ option_or (record_of q t) (get q es)
  get-pour q leaf es = refl
  get-pour q (fork j k v l r) es =
      get-ins q k v (pour l (pour r es)) ∙ ⊎_elim
      (λ e. yes_eq q k _ _ e ∙ sym (ap (λ (x : Option V). option_or x (get q es)) (yes_eq q k _ _ e)))
      (λ e. no_eq q k _ _ e ∙ get-pour q l (pour r es) ∙ ap (option_or (record_of q l)) (get-pour q r es) ∙ assoc (record_of q l) (record_of q r) (get q es) ∙ sym (ap (λ (x : Option V). option_or x (get q es)) (no_eq q k _ _ e)))
      (cases_eq q k)
    where
      assoc : (x y z : Option V) → option_or x (option_or y z) ≡ option_or (option_or x y) z
      assoc None y z = refl
      assoc (Some x) y z = refl

  pub sorted_pour : (t : Tree V) (es : List (ℕ × V)) → Sorted es → Sorted (pour t es)
  sorted_pour leaf es s = s
  sorted_pour (fork j k v l r) es s = sorted_ins k v (pour l (pour r es)) (sorted_pour l (pour r es) (sorted_pour r es s))

  -- no key outside of the interval is in the tree
  pub outside : (q h low : ℕ) (t : Tree V) → Inside h low t → (q < low) ⊎ (low + 2 ^ h ≤ q) → record_of q t ≡ None
  outside q h low leaf inn o = refl
  outside q zero low (fork j k v l r) inn o =
      let ne : q ≡ k → ⊥ = ⊎_elim (λ (a : q < low). omega (arith, inn.0)) (λ (a : low + 2 ^ 0 ≤ q). omega (arith, inn.0)) o in
      no_eq q k _ _ ne ∙ ap (λ (x : Tree V). option_or (record_of q x) (record_of q r)) inn.1 ∙ ap (record_of q) inn.2
  outside q (suc h) low (fork j k v l r) inn o =
      let a : low ≤ k = inn.0 in let b : k < low + 2 ^ suc h = inn.1 in let two : 2 ^ suc h ≡ 2 ^ h + 2 ^ h = two-pow-succ h in
      let ne : q ≡ k → ⊥ = ⊎_elim (λ (w : q < low). omega arith) (λ (w : low + 2 ^ suc h ≤ q). omega arith) o in
      let ol : (q < low) ⊎ (low + 2 ^ h ≤ q) = ⊎_elim (λ (w : q < low). inl w) (λ (w : low + 2 ^ suc h ≤ q). inr (omega arith)) o in
      let or' : (q < low + 2 ^ h) ⊎ (low + 2 ^ h + 2 ^ h ≤ q) = ⊎_elim (λ (w : q < low). inl (omega arith)) (λ (w : low + 2 ^ suc h ≤ q). inr (omega arith)) o in
      no_eq q k _ _ ne ∙ ap (λ (x : Option V). option_or x (record_of q r)) (outside q h low l inn.2 ol) ∙ outside q h (low + 2 ^ h) r inn.3 or'

  -- writes elsewhere leave a tree as it is
  pub same : (ns ms : List (Node V)) (t : Tree V) → ((x : ℕ) → 1 ≤ occurs x t → slice_get ms x ≡ slice_get ns x) → Laid ns t → Laid ms t
  same ns ms leaf k is = tt
  same ns ms (fork j q v l r) k is =
      let here : one j j ≡ 1 = one_same j j refl in
      (k j (omega (arith, here)) ∙ is.0, same ns ms l (λ x c. k x (omega arith)) is.1, same ns ms r (λ x c. k x (omega arith)) is.2)

  -- what a look-up that fails says at a fork
  pub miss_ne : (q h low j k : ℕ) (v : V) (l r : Tree V) → place_of q h low (fork j k v l r) ≡ None → k ≡ q → ⊥
  miss_ne q zero low j k v l r n e = let c : Some j ≡ None = sym (yes_eq k q (Some j) None e) ∙ n in cc
  miss_ne q (suc h) low j k v l r n e = let c : Some j ≡ None = sym (yes_eq k q (Some j) _ e) ∙ n in cc

  miss_left : (q h low j k : ℕ) (v : V) (l r : Tree V) → place_of q (suc h) low (fork j k v l r) ≡ None → q < low + 2 ^ h → place_of q h low l ≡ None
  miss_left q h low j k v l r n w = sym (no_eq k q (Some j) _ (miss_ne q (suc h) low j k v l r n) ∙ yes_lt q (low + 2 ^ h) _ _ w) ∙ n

  miss_right : (q h low j k : ℕ) (v : V) (l r : Tree V) → place_of q (suc h) low (fork j k v l r) ≡ None → low + 2 ^ h ≤ q → place_of q h (low + 2 ^ h) r ≡ None
  miss_right q h low j k v l r n w = sym (no_eq k q (Some j) _ (miss_ne q (suc h) low j k v l r n) ∙ no_lt q (low + 2 ^ h) _ _ w) ∙ n

  pub val_none : (q h low : ℕ) (t : Tree V) → Inside h low t → At q h low → place_of q h low t ≡ None → record_of q t ≡ None
  val_none q h low leaf inn a n = refl
  val_none q zero low (fork j k v l r) inn a n = absurd (miss_ne q zero low j k v l r n (omega (arith, inn.0, a)))
  val_none q (suc h) low (fork j k v l r) inn a n =
      no_eq q k _ _ (λ e. miss_ne q (suc h) low j k v l r n (sym e)) ∙ ⊎_elim
      (λ w. ap (λ (x : Option V). option_or x (record_of q r)) (val_none q h low l inn.2 (at_left q h low a w) (miss_left q h low j k v l r n w)) ∙ outside q h (low + 2 ^ h) r inn.3 (inl w))
      (λ w. ap (λ (x : Option V). option_or x (record_of q r)) (outside q h low l inn.2 (inr w)) ∙ val_none q h (low + 2 ^ h) r inn.3 (at_right q h low a w) (miss_right q h low j k v l r n w))
      (cases_lt q (low + 2 ^ h))

  -- the node that the code reads
  pub read : (ns : List (Node V)) (i : ℕ) (n : Node V) → i < length ns → n ≡ get_or ns i n → slice_get ns i ≡ Some n
  read ns i n lt e = slice_get_read ns (length ns) i n refl lt e

  pub nth_lt : (ns : List (Node V)) (i : ℕ) (n : Node V) → slice_get ns i ≡ Some n → i < length ns
  nth_lt ns i n e = ⊎_elim (λ h. h) (λ h. let f : slice_get ns i ≡ None = slice_get_past ns i h in cc) (cases_lt i (length ns))

  pub occurs-within : (ns : List (Node V)) (p : ℕ) (t : Tree V) → Laid ns t → 1 ≤ occurs p t → p < length ns
  occurs-within ns p leaf is c = absurd (omega arith)
  occurs-within ns p (fork j k v l r) is c = ⊎_elim
      (λ e. subst (λ (x : ℕ). x < length ns) (sym e) (nth_lt ns j _ is.0))
      (λ ne. ⊎_elim (λ a. occurs-within ns p l is.1 a) (λ (a : occurs p l < 1). occurs-within ns p r is.2 (let o : one p j ≡ 0 = one_other p j ne in omega arith)) (⊎_swap (cases_lt (occurs p l) 1)))
      (cases_eq p j)
