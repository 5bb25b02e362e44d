-- The walks to the least key and to the least above a key. Assumes nothing.
use Rattle.std.proofs.Common.{◌≡◌, ℕ, suc, ◌+◌, ◌*◌, ◌/◌, ◌^◌, ◌<◌, ◌≤◌, cond, ltb, List, length, Some, None, Option, sym, refl, ap, ◌∙◌, subst, ⊎_elim, add-one, arith}
use Rattle.std.proofs.lemmas.Bool.{cases_lt}
use Rattle.std.specs.List.{slice_get}
use Rattle.std.specs.Option.{option_or}
use Rattle.store.specs.Model.{first_from}
use Rattle.tree.specs.declared.head.Head.{Head}
use Rattle.tree.specs.declared.node.Node.{Node}
use Rattle.tree.specs.declared.order.Passed.{Passed}
use Rattle.tree.specs.declared.links.Side.{Side}
use Rattle.tree.specs.declared.links.Side.TheVariants.{Left, Right}
use Rattle.tree.specs.Order.{node_passed, side_passed, lesser, least}
use Rattle.tree.specs.Writes.{child, low_on}
use Rattle.tree.specs.State.{WellFormed, tree_of, stored}
use Rattle.tree.specs.Tree.{Tree, leaf, fork, node_of, link, Laid, Inside, tree_below, height, Levels, Distinct}
use Rattle.tree.proofs.Above.{next, next-is, least-is}
use Rattle.tree.proofs.Depths.{tree_high, levels_below, levels_tree}
use Rattle.tree.proofs.Entries.{yes_lt, no_lt}
use Rattle.tree.proofs.Finds.{seekable}
use Rattle.tree.proofs.NewKey.{the_tree}
use Rattle.tree.proofs.Trees.{branch, or-none, nth_lt}
use Rattle.tree.proofs.Steps.{forked, fewer, Stand, stand_begin, or_right, step}

pub lesser-none : (a : Option ℕ) → lesser a None ≡ a
lesser-none None = refl
lesser-none (Some x) = refl

pub lesser_assoc : (a b c : Option ℕ) → lesser (lesser a b) c ≡ lesser a (lesser b c)
lesser_assoc None b c = refl
lesser_assoc (Some x) None c = refl
lesser_assoc (Some x) (Some y) None = lesser-none (cond (ltb x y) (Some x) (Some y))
lesser_assoc (Some x) (Some y) (Some z) = ⊎_elim
    (λ (a : x < y). ap (λ (o : Option ℕ). lesser o (Some z)) (yes_lt x y _ _ a) ∙ ⊎_elim
    (λ (b : y < z). yes_lt x z _ _ (omega arith) ∙ sym (ap (lesser (Some x)) (yes_lt y z _ _ b) ∙ yes_lt x y _ _ a))
    (λ (b : z ≤ y). sym (ap (lesser (Some x)) (no_lt y z _ _ b)))
    (cases_lt y z))
    (λ (a : y ≤ x). ap (λ (o : Option ℕ). lesser o (Some z)) (no_lt x y _ _ a) ∙ ⊎_elim
    (λ (b : y < z). yes_lt y z _ _ b ∙ sym (ap (lesser (Some x)) (yes_lt y z _ _ b) ∙ no_lt x y _ _ a))
    (λ (b : z ≤ y). no_lt y z _ _ b ∙ sym (ap (lesser (Some x)) (no_lt y z _ _ b) ∙ no_lt x z _ _ (omega arith)))
    (cases_lt y z))
    (cases_lt x y)

or_assoc : (a b c : Option ℕ) → option_or (option_or a b) c ≡ option_or a (option_or b c)
or_assoc None b c = refl
or_assoc (Some x) b c = refl

-- a number beside others is there
or-lesser : (k : ℕ) (o c : Option ℕ) → option_or (lesser (Some k) o) c ≡ lesser (Some k) o
or-lesser k None c = refl
or-lesser k (Some x) c = ⊎_elim
    (λ a. ap (λ (y : Option ℕ). option_or y c) (yes_lt k x _ _ a) ∙ sym (yes_lt k x _ _ a))
    (λ a. ap (λ (y : Option ℕ). option_or y c) (no_lt k x _ _ a) ∙ sym (no_lt k x _ _ a))
    (cases_lt k x)

module _ {V : Type 0} where
  -- the first tree, or the second where it is a leaf
  abbrev side : Tree V → Tree V → Tree V
  side leaf r = r
  side (fork j k v a b) r = fork j k v a b

  side-link : (l r : Tree V) → option_or (link l) (link r) ≡ link (side l r)
  side-link leaf r = refl
  side-link (fork j k v a b) r = refl

  side-is : (ns : List (Node V)) (l r : Tree V) → Laid ns l → Laid ns r → Laid ns (side l r)
  side-is ns leaf r p q = q
  side-is ns (fork j k v a b) r p q = p

  side-least : (l r : Tree V) → option_or (least l) (least r) ≡ least (side l r)
  side-least leaf r = refl
  side-least (fork j k v a b) r = or-lesser k (option_or (least a) (least b)) (least r)

  side_high : (h : ℕ) (l r : Tree V) → Levels h l → Levels h r → Levels h (side l r)
  side_high h leaf r p q = q
  side_high h (fork j k v a b) r p q = p

  -- a tree in the nodes is the one below its link
  whole : (ns : List (Node V)) (bits : ℕ) (i : Option ℕ) (t : Tree V) → i ≡ link t → Levels bits t → Laid ns t → tree_below (suc bits) ns i ≡ t
  whole ns bits i t e hi is = ap (tree_below (suc bits) ns) e ∙ tree_high ns bits t hi is

  -- where the walk to the least key has come to
  pub record Sink (ns : List (Node V)) (bits : ℕ) (at : Option ℕ) (best goal : Option ℕ) : Type 0 where
    pub t : Tree V
    pub at-is : at ≡ link t
    pub is : Laid ns t
    pub high : Levels bits t
    pub ends : goal ≡ lesser best (least t)

  pub sink_begin : {ns : List (Node V)} (bits : ℕ) {at best : Option ℕ} → at ≡ link (tree_below (suc bits) ns at) → Laid ns (tree_below (suc bits) ns at) → Sink ns bits at best (lesser best (least (tree_below (suc bits) ns at)))
  sink_begin {ns} bits {at} e is = record { t = tree_below (suc bits) ns at; at-is = e; is = is; high = levels_tree bits ns at; ends = refl }

  pub sink_ok : {ns : List (Node V)} {bits i : ℕ} {at best goal : Option ℕ} → Sink ns bits at best goal → at ≡ Some i → i < length ns
  sink_ok {ns} {i = i} w e = let a = forked ns i w.t (sym e ∙ w.at-is) w.is in nth_lt ns i _ a.node

  no_link : (t : Tree V) → None ≡ link t → least t ≡ None
  no_link leaf e = refl
  no_link (fork j k v l r) e = let g : None ≡ Some j = e in cc

  pub sink_none : {ns : List (Node V)} {bits : ℕ} {at best goal : Option ℕ} → Sink ns bits at best goal → at ≡ None → best ≡ goal
  sink_none {best = best} w e = sym (w.ends ∙ ap (lesser best) (no_link w.t (sym e ∙ w.at-is)) ∙ lesser-none best)

  pub sink_down : {ns : List (Node V)} {bits i : ℕ} {at best goal : Option ℕ} (n : Node V) → Sink ns bits at best goal → at ≡ Some i → slice_get ns i ≡ Some n → Sink ns bits (option_or n.left n.right) (lesser best (Some n.key)) goal
  sink_down {ns} {bits} {i} {at} {best} {goal} n w e nt =
      let a = forked ns i w.t (sym e ∙ w.at-is) w.is in
      let node : slice_get ns i ≡ Some (node_of a.k a.v (link a.l) (link a.r)) = a.node in
      let same : node_of a.k a.v (link a.l) (link a.r) ≡ n = cc in
      let b = levels_below bits i a.k a.v a.l a.r (subst (Levels bits) a.is w.high) in
      record {
        t = side a.l a.r;
        at-is = ap (λ (x : Node V). option_or x.left x.right) (sym same) ∙ side-link a.l a.r;
        is = side-is ns a.l a.r a.left_is a.right_is;
        high = side_high bits a.l a.r b.0 b.1;
        ends = w.ends ∙ ap (λ (x : Tree V). lesser best (least x)) a.is ∙ sym (lesser_assoc best (Some a.k) (option_or (least a.l) (least a.r)))
            ∙ ap (lesser (lesser best (Some a.k))) (side-least a.l a.r) ∙ ap (λ (x : Node V). lesser (lesser best (Some x.key)) (least (side a.l a.r))) same;
      }

  some_side : (n : Node V) → (s : Side) × (option_or n.left n.right ≡ child s n)
  some_side n = go n.left refl
    where
      go : (o : Option ℕ) → n.left ≡ o → (s : Side) × (option_or n.left n.right ≡ child s n)
      go None e = (Right, ap (λ (x : Option ℕ). option_or x n.right) e)
      go (Some j) e = (Left, ap (λ (x : Option ℕ). option_or x n.right) e ∙ sym e)

  -- and fewer levels are below
  pub sink-fewer : {ns : List (Node V)} {bits i : ℕ} {at best goal : Option ℕ} (n : Node V) → Sink ns bits at best goal → at ≡ Some i → slice_get ns i ≡ Some n → height (tree_below (suc bits) ns (option_or n.left n.right)) < height (tree_below (suc bits) ns at)
  sink-fewer {ns} {bits} {i} n w e nt = let s = some_side n in rw (s.1, e) (fewer ns bits i w.t n s.0 (sym e ∙ w.at-is) w.is w.high nt)

  -- what is left to find, once the walk has come by p: the least of what is still below, which the option says, and of a tree on the right
  pub record Beside (ns : List (Node V)) (bits : ℕ) (p : Passed) (below goal : Option ℕ) : Type 0 where
    pub a : Tree V
    pub aside_is : p.aside ≡ link a
    pub laid : Laid ns a
    pub high : Levels bits a
    pub ends : goal ≡ lesser p.best (option_or below (least a))

  -- a node on the way is dealt with
  beside_node : {ns : List (Node V)} {bits : ℕ} {goal : Option ℕ} (q k : ℕ) (p : Passed) (below : Option ℕ) → Beside ns bits p (cond (ltb q k) (lesser (Some k) below) below) goal → Beside ns bits (node_passed q k p) below goal
  beside_node {ns} {bits} {goal} q k p below u = ⊎_elim
      (λ (lt : q < k). subst (λ (x : Passed). Beside ns bits x below goal) (sym (yes_lt q k _ _ lt)) (record {
        a = leaf;
        aside_is = refl;
        laid = tt;
        high = tt;
        ends = u.ends ∙ ap (λ (x : Option ℕ). lesser p.best (option_or x (least u.a))) (yes_lt q k _ _ lt) ∙ ap (lesser p.best) (or-lesser k below (least u.a)) ∙ sym (lesser_assoc p.best (Some k) below)
            ∙ ap (lesser (lesser p.best (Some k))) (sym (or-none below));
      }))
      (λ (ge : k ≤ q). subst (λ (x : Passed). Beside ns bits x below goal) (sym (no_lt q k _ _ ge))
      (record { a = u.a; aside_is = u.aside_is; laid = u.laid; high = u.high; ends = u.ends ∙ ap (λ (x : Option ℕ). lesser p.best (option_or x (least u.a))) (no_lt q k _ _ ge) }))
      (cases_lt q k)

  -- and the subtree on its right
  beside_side : {ns : List (Node V)} {bits : ℕ} {goal : Option ℕ} (s : Side) (r : Tree V) (right : Option ℕ) (p : Passed) (below : Option ℕ) → right ≡ link r → Laid ns r → Levels bits r → Beside ns bits p (or_right s below (least r)) goal → Beside ns bits (side_passed s right p) below goal
  beside_side {ns} {bits} Left r right p below e is hi u = record {
    a = side r u.a;
    aside_is = ap (λ (x : Option ℕ). option_or x p.aside) e ∙ ap (option_or (link r)) u.aside_is ∙ side-link r u.a;
    laid = side-is ns r u.a is u.laid;
    high = side_high bits r u.a hi u.high;
    ends = u.ends ∙ ap (lesser p.best) (or_assoc below (least r) (least u.a) ∙ ap (option_or below) (side-least r u.a));
  }
  beside_side Right r right p below e is hi u = record { a = u.a; aside_is = u.aside_is; laid = u.laid; high = u.high; ends = u.ends }

  -- where the walk to the next key has come to
  pub record Hunt (ns : List (Node V)) (q bits : ℕ) (at : Option ℕ) (low half : ℕ) (p : Passed) (goal : Option ℕ) : Type 0 where
    pub h : ℕ
    pub t : Tree V
    pub here : Stand ns q bits at low half h t
    pub seen : Beside ns bits p (next q h low t) goal

  pub hunt_begin : {ns : List (Node V)} {q bits half : ℕ} {root : Option ℕ} (t : Tree V) (p : Passed) → p.best ≡ None → p.aside ≡ None → root ≡ link t → Laid ns t → Inside bits 0 t → half * 2 ≡ 2 ^ bits → q < 2 ^ bits → 1 ≤ bits → Hunt ns q bits root 0 half p (next q bits 0 t)
  hunt_begin {q = q} {bits} t p best aside at is inn two lt some =
      let all : lesser p.best (option_or (next q bits 0 t) None) ≡ next q bits 0 t = ap (λ (x : Option ℕ). lesser x (option_or (next q bits 0 t) None)) best ∙ or-none _ in
      record { h = bits; t = t; here = stand_begin t at is inn two lt some; seen = record { a = leaf; aside_is = aside; laid = tt; high = tt; ends = sym all } }

  -- a node on the way, and the turn to the side of the key
  pub hunt_turn : {ns : List (Node V)} {q bits low half i : ℕ} {at goal : Option ℕ} (n : Node V) (p r r' : Passed) (s : Side) → Hunt ns q bits at low half p goal → at ≡ Some i → slice_get ns i ≡ Some n
      → s ≡ cond (ltb q (low + half)) Left Right → r ≡ node_passed q n.key p → r' ≡ side_passed s n.right r → Hunt ns q bits (child s n) (low_on s low half) (half / 2) r' goal
  hunt_turn {ns} {q} {bits} {low} {half} {goal = goal} n p r r' s u e nt es er er' =
      let st = step n s u.here e nt es in
      let below : Option ℕ = next q st.p (low_on s low half) (branch s st.l st.r) in
      let node = beside_node q n.key p _ (subst (λ (x : Option ℕ). Beside ns bits p x goal) st.next-is u.seen) in
      let past = beside_side s st.r n.right r below st.right_is st.right-laid st.right_high (subst (λ (x : Passed). Beside ns bits x (or_right s below (least st.r)) goal) (sym er) node) in
      record { h = st.p; t = branch s st.l st.r; here = st.here; seen = subst (λ (x : Passed). Beside ns bits x below goal) (sym er') past }

  pub record Aside (ns : List (Node V)) (bits : ℕ) (alt : Option ℕ) : Type 0 where
    pub link-is : alt ≡ link (tree_below (suc bits) ns alt)
    pub is : Laid ns (tree_below (suc bits) ns alt)

  pub aside : {ns : List (Node V)} {q bits low half : ℕ} {at goal : Option ℕ} {p : Passed} → Hunt ns q bits at low half p goal → Aside ns bits p.aside
  aside {ns} {bits = bits} {p = p} u =
      let b = u.seen in
      let e : tree_below (suc bits) ns p.aside ≡ b.a = whole ns bits p.aside b.a b.aside_is b.high b.laid in
      record { link-is = b.aside_is ∙ ap link (sym e); is = subst (Laid ns) (sym e) b.laid }

  bare : (q h low : ℕ) (t : Tree V) → None ≡ link t → next q h low t ≡ None
  bare q h low leaf e = refl
  bare q h low (fork j k v l r) e = let g : None ≡ Some j = e in cc

  pub hunt_none : {ns : List (Node V)} {q bits low half : ℕ} {at goal : Option ℕ} {p : Passed} → Hunt ns q bits at low half p goal → at ≡ None → lesser p.best (least (tree_below (suc bits) ns p.aside)) ≡ goal
  hunt_none {ns} {q} {bits} {low} {p = p} u e =
      let b = u.seen in
      ap (λ (x : Tree V). lesser p.best (least x)) (whole ns bits p.aside b.a b.aside_is b.high b.laid) ∙ sym (b.ends ∙ ap (λ (x : Option ℕ). lesser p.best (option_or x (least b.a))) (bare q u.h low u.t (sym e ∙ u.here.at-is)))

  pub next-first : (ns : List (Node V)) (hd : Head) (q : ℕ) → WellFormed ns hd → q < 2 ^ hd.width.bits → next q hd.width.bits 0 (tree_of ns hd) ≡ first_from (stored ns hd) (q + 1)
  next-first ns hd q u lt = rw add-one (next-is q hd.width.bits 0 (tree_of ns hd) (seekable ns hd u).inside (subst Distinct (sym (the_tree ns hd u)) u.once) (omega arith, omega arith))

  pub first-least : (ns : List (Node V)) (hd : Head) → WellFormed ns hd → least (tree_of ns hd) ≡ first_from (stored ns hd) 0
  first-least ns hd u = least-is hd.width.bits 0 (tree_of ns hd) (seekable ns hd u).inside (subst Distinct (sym (the_tree ns hd u)) u.once)
