-- One step down, from a fork to the subtree on the side of a key. Assumes nothing.
use Rattle.std.proofs.Common.{◌≡◌, ℕ, zero, suc, ◌+◌, ◌-◌, ◌*◌, ◌/◌, ◌^◌, ◌<◌, ◌≤◌, cond, ltb, List, length, Some, None, Option, sym, refl, ap, ◌∙◌, subst, ⊎_elim, arith}
use native.Mathlib.Nat.{two-pow-succ}
use Rattle.std.proofs.lemmas.Bool.{cases_lt}
use Rattle.std.specs.List.{slice_get}
use Rattle.std.specs.Option.{option_or}
use Rattle.tree.specs.declared.links.Link.{Link}
use Rattle.tree.specs.declared.links.Side.{Side}
use Rattle.tree.specs.declared.links.Side.TheVariants.{Left, Right}
use Rattle.tree.specs.declared.node.Node.{Node}
use Rattle.tree.specs.Order.{lesser, least}
use Rattle.tree.specs.Tree.{Tree, leaf, fork, node_of, link, Laid, Inside, Levels, place_of, last_link, tree_below, height, on}
use Rattle.tree.specs.Writes.{child, low_on}
use Rattle.tree.proofs.Above.{next}
use Rattle.tree.proofs.Depths.{in_high, tree_high, levels_below}
use Rattle.tree.proofs.Entries.{no_eq, yes_lt, no_lt}
use Rattle.tree.proofs.Trees.{branch, nth_lt}

abbrev pub half_of : ℕ → ℕ
half_of zero = 0
half_of (suc h) = 2 ^ h

pub half_next : (h : ℕ) → half_of (suc h) / 2 ≡ half_of h
half_next zero = refl
half_next (suc h) = omega (arith, two-pow-succ h)

-- which side was taken
pub went_left : (q m : ℕ) (s : Side) → s ≡ cond (ltb q m) Left Right → s ≡ Left → q < m
went_left q m s e f = ⊎_elim (λ w. w) (λ w. let g : Right ≡ Left = sym (no_lt q m Left Right w) ∙ sym e ∙ f in cc) (cases_lt q m)

pub went_right : (q m : ℕ) (s : Side) → s ≡ cond (ltb q m) Left Right → s ≡ Right → m ≤ q
went_right q m s e f = ⊎_elim (λ w. let g : Left ≡ Right = sym (yes_lt q m Left Right w) ∙ sym e ∙ f in cc) (λ w. w) (cases_lt q m)

-- the least of what lies on a side and of what that leaves on its right
abbrev pub or_right : Side → Option ℕ → Option ℕ → Option ℕ
or_right Left o right = option_or o right
or_right Right o right = o

module _ {V : Type 0} where
  -- a tree whose link is i has a fork there
  pub record Fork (ns : List (Node V)) (i : ℕ) (t : Tree V) : Type 0 where
    pub k : ℕ
    pub v : V
    pub l : Tree V
    pub r : Tree V
    pub is : t ≡ fork i k v l r
    pub node : slice_get ns i ≡ Some (node_of k v (link l) (link r))
    pub left_is : Laid ns l
    pub right_is : Laid ns r

  pub forked : (ns : List (Node V)) (i : ℕ) (t : Tree V) → Some i ≡ link t → Laid ns t → Fork ns i t
  forked ns i leaf at is = let f : Some i ≡ None = at in cc
  forked ns i (fork j k v l r) at is =
      let f : Some i ≡ Some j = at in let ij : i ≡ j = cc in
      record { k = k; v = v; l = l; r = r; is = cc; node = rw ij is.0; left_is = is.1; right_is = is.2 }

  -- below a child of a fork there are fewer levels
  pub fewer : (ns : List (Node V)) (bits i : ℕ) (t : Tree V) (n : Node V) (s : Side) → Some i ≡ link t → Laid ns t → Levels bits t → slice_get ns i ≡ Some n → height (tree_below (suc bits) ns (child s n)) < height (tree_below (suc bits) ns (Some i))
  fewer ns bits i t n s e is hi at =
      let a = forked ns i t e is in
      let node : slice_get ns i ≡ Some (node_of a.k a.v (link a.l) (link a.r)) = a.node in
      let same : node_of a.k a.v (link a.l) (link a.r) ≡ n = cc in
      let b = levels_below bits i a.k a.v a.l a.r (subst (Levels bits) a.is hi) in
      let whole = ap height (ap (tree_below (suc bits) ns) e ∙ tree_high ns bits t hi is ∙ a.is) in
      let left = ap height (ap (λ (x : Node V). tree_below (suc bits) ns x.left) (sym same) ∙ tree_high ns bits a.l b.0 a.left_is) in
      let right = ap height (ap (λ (x : Node V). tree_below (suc bits) ns x.right) (sym same) ∙ tree_high ns bits a.r b.1 a.right_is) in
      elim s as (λ (x : Side). height (tree_below (suc bits) ns (child x n)) < height (tree_below (suc bits) ns (Some i))) [ Left ↦ omega (arith, whole, left) | Right ↦ omega (arith, whole, right) ]

  -- where a walk to the key q stands: at the top of a subtree whose keys are those of a span
  pub record Stand (ns : List (Node V)) (q bits : ℕ) (at : Option ℕ) (low half h : ℕ) (t : Tree V) : Type 0 where
    pub within : h ≤ bits
    pub at-is : at ≡ link t
    pub is : Laid ns t
    pub inside : Inside h low t
    pub from : low ≤ q
    pub to : q < low + 2 ^ h
    pub half_is : half ≡ half_of h

  pub stand_begin : {ns : List (Node V)} {q bits half : ℕ} {root : Option ℕ} (t : Tree V) → root ≡ link t → Laid ns t → Inside bits 0 t → half * 2 ≡ 2 ^ bits → q < 2 ^ bits → 1 ≤ bits → Stand ns q bits root 0 half bits t
  stand_begin {bits = bits} {half} t at is inn two lt some =
      let pos : bits ≡ suc (bits - 1) = omega arith in
      let p2 : 2 ^ bits ≡ 2 ^ (bits - 1) + 2 ^ (bits - 1) = ap (λ (x : ℕ). 2 ^ x) pos ∙ two-pow-succ (bits - 1) in
      let hp : half ≡ 2 ^ (bits - 1) = omega arith in
      record { within = omega arith; at-is = at; is = is; inside = inn; from = omega arith; to = omega arith; half_is = hp ∙ sym (ap half_of pos) }

  pub stand_ok : {ns : List (Node V)} {q bits low half h i : ℕ} {at : Option ℕ} {t : Tree V} → Stand ns q bits at low half h t → at ≡ Some i → i < length ns
  stand_ok {ns} {i = i} {t = t} u e = let a = forked ns i t (sym e ∙ u.at-is) u.is in nth_lt ns i _ a.node

  pub stand-fewer : {ns : List (Node V)} {q bits low half h i : ℕ} {at : Option ℕ} {t : Tree V} (n : Node V) (s : Side) → Stand ns q bits at low half h t → at ≡ Some i → slice_get ns i ≡ Some n → height (tree_below (suc bits) ns (child s n)) < height (tree_below (suc bits) ns at)
  stand-fewer {ns} {bits = bits} {low} {h = h} {i} {t = t} n s u e nt = rw e (fewer ns bits i t n s (sym e ∙ u.at-is) u.is (in_high h low bits t u.inside u.within) nt)

  -- the step from the node at i, and what the searches from there on come to
  pub record Step (ns : List (Node V)) (q bits : ℕ) (n : Node V) (s : Side) (i low half h : ℕ) (t : Tree V) : Type 0 where
    pub p : ℕ
    pub l : Tree V
    pub r : Tree V
    pub here : Stand ns q bits (child s n) (low_on s low half) (half / 2) p (branch s l r)
    pub right_is : n.right ≡ link r
    pub right-laid : Laid ns r
    pub right_high : Levels bits r
    pub place_is : (n.key ≡ q → ⊥) → place_of q h low t ≡ place_of q p (low_on s low half) (branch s l r)
    pub last-is : (n.key ≡ q → ⊥) → (d : Option Link) → last_link q h low t d ≡ last_link q p (low_on s low half) (branch s l r) (Some (on i s))
    pub next-is : let there = or_right s (next q p (low_on s low half) (branch s l r)) (least r) in next q h low t ≡ cond (ltb q n.key) (lesser (Some n.key) there) there

  bare : (q low : ℕ) (t : Tree V) → next q zero low t ≡ None
  bare q low leaf = refl
  bare q low (fork j k v l r) = refl

  -- at the last level stands no key but q itself
  step_last : (ns : List (Node V)) (q bits i low half k : ℕ) (v : V) (l r : Tree V) (s : Side) → Stand ns q bits (Some i) low half zero (fork i k v l r) → s ≡ Right → Step ns q bits (node_of k v (link l) (link r)) s i low half zero (fork i k v l r)
  step_last ns q bits i low half k v l r s u right =
      let inn : Inside zero low (fork i k v l r) = u.inside in
      let none : half ≡ 0 = u.half_is in
      let from : low ≤ q = u.from in
      let to : q < low + 2 ^ zero = u.to in
      let same : k ≡ low = inn.0 in
      subst (λ (x : Side). Step ns q bits (node_of k v (link l) (link r)) x i low half zero (fork i k v l r)) (sym right) (record {
        p = zero;
        l = l;
        r = r;
        here = record { within = omega arith; at-is = refl; is = u.is.2; inside = subst (Inside zero (low + half)) (sym inn.2) tt; from = omega arith; to = omega arith; half_is = omega arith };
        right_is = refl;
        right-laid = u.is.2;
        right_high = subst (Levels bits) (sym inn.2) tt;
        place_is = λ ne. absurd (ne (omega arith));
        last-is = λ ne d. absurd (ne (omega arith));
        next-is = sym (no_lt q k _ _ (omega arith) ∙ bare q (low + half) r);
      })

  step_down : (ns : List (Node V)) (q bits i low half p k : ℕ) (v : V) (l r : Tree V) (s : Side) → Stand ns q bits (Some i) low half (suc p) (fork i k v l r) → s ≡ cond (ltb q (low + half)) Left Right → Step ns q bits (node_of k v (link l) (link r)) s i low half (suc p) (fork i k v l r)
  step_down ns q bits i low half p k v l r Left u e =
      let inn : Inside (suc p) low (fork i k v l r) = u.inside in
      let from : low ≤ q = u.from in
      let hf : half ≡ 2 ^ p = u.half_is in
      let lt = went_left q (low + half) Left e refl in
      let below : q < low + 2 ^ p = omega arith in
      let high = in_high (suc p) low bits (fork i k v l r) inn u.within in
      record {
        p = p;
        l = l;
        r = r;
        here = record { within = omega (arith, u.within); at-is = refl; is = u.is.1; inside = inn.2; from = from; to = below; half_is = ap (λ (x : ℕ). x / 2) hf ∙ half_next p };
        right_is = refl;
        right-laid = u.is.2;
        right_high = (levels_below bits i k v l r high).1;
        place_is = λ ne. no_eq k q _ _ ne ∙ yes_lt q (low + 2 ^ p) _ _ below;
        last-is = λ ne d. no_eq k q _ _ ne ∙ yes_lt q (low + 2 ^ p) _ _ below;
        next-is = ap (λ (x : Option ℕ). cond (ltb q k) (lesser (Some k) x) x) (yes_lt q (low + 2 ^ p) _ _ below);
      }
  step_down ns q bits i low half p k v l r Right u e =
      let inn : Inside (suc p) low (fork i k v l r) = u.inside in
      let from : low ≤ q = u.from in
      let hf : half ≡ 2 ^ p = u.half_is in
      let ge = went_right q (low + half) Right e refl in
      let above : low + 2 ^ p ≤ q = omega arith in
      let to : q < low + 2 ^ suc p = u.to in
      let lows : low + 2 ^ p ≡ low + half = ap (λ (x : ℕ). low + x) (sym hf) in
      let high = in_high (suc p) low bits (fork i k v l r) inn u.within in
      record {
        p = p;
        l = l;
        r = r;
        here = record { within = omega (arith, u.within); at-is = refl; is = u.is.2; inside = subst (λ (x : ℕ). Inside p x r) lows inn.3; from = omega arith; to = omega (arith, two-pow-succ p); half_is = ap (λ (x : ℕ). x / 2) hf ∙ half_next p };
        right_is = refl;
        right-laid = u.is.2;
        right_high = (levels_below bits i k v l r high).1;
        place_is = λ ne. no_eq k q _ _ ne ∙ no_lt q (low + 2 ^ p) _ _ above ∙ ap (λ (x : ℕ). place_of q p x r) lows;
        last-is = λ ne d. no_eq k q _ _ ne ∙ no_lt q (low + 2 ^ p) _ _ above ∙ ap (λ (x : ℕ). last_link q p x r (Some (on i Right))) lows;
        next-is = ap (λ (x : Option ℕ). cond (ltb q k) (lesser (Some k) x) x) (no_lt q (low + 2 ^ p) _ _ above ∙ ap (λ (x : ℕ). next q p x r) lows);
      }

  stepped : (ns : List (Node V)) (q bits i low half h k : ℕ) (v : V) (l r : Tree V) (s : Side) → Stand ns q bits (Some i) low half h (fork i k v l r) → s ≡ cond (ltb q (low + half)) Left Right → Step ns q bits (node_of k v (link l) (link r)) s i low half h (fork i k v l r)
  stepped ns q bits i low half zero k v l r s u e =
      let none : half ≡ 0 = u.half_is in let from : low ≤ q = u.from in
      step_last ns q bits i low half k v l r s u (e ∙ no_lt q (low + half) _ _ (omega arith))
  stepped ns q bits i low half (suc p) k v l r s u e = step_down ns q bits i low half p k v l r s u e

  pub step : {ns : List (Node V)} {q bits low half h i : ℕ} {at : Option ℕ} {t : Tree V} (n : Node V) (s : Side) → Stand ns q bits at low half h t → at ≡ Some i → slice_get ns i ≡ Some n → s ≡ cond (ltb q (low + half)) Left Right → Step ns q bits n s i low half h t
  step {ns} {q} {bits} {low} {half} {h} {i} {t = t} n s u e nt es =
      let a = forked ns i t (sym e ∙ u.at-is) u.is in
      let node : slice_get ns i ≡ Some (node_of a.k a.v (link a.l) (link a.r)) = a.node in
      let same : node_of a.k a.v (link a.l) (link a.r) ≡ n = cc in
      let u' = subst (λ (x : Option ℕ). Stand ns q bits x low half h t) e u in
      subst (λ (x : Node V). Step ns q bits x s i low half h t) same (subst (Step ns q bits (node_of a.k a.v (link a.l) (link a.r)) s i low half h) (sym a.is)
      (stepped ns q bits i low half h a.k a.v a.l a.r s (subst (Stand ns q bits (Some i) low half h) a.is u') es))
