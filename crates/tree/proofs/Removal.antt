-- A remove. Assumes nothing.
use Rattle.std.proofs.Common.{◌≡◌, ℕ, zero, suc, ◌+◌, ◌-◌, ◌^◌, ◌<◌, ◌≤◌, cond, eqb, List, [], ◌∷◌, length, Some, None, Option, sym, refl, ap, ◌∙◌, subst, inl, inr, ⊎_elim, arith}
use Rattle.std.proofs.lemmas.Bool.{cases_eq}
use Rattle.std.specs.List.{slice_get}
use Rattle.std.specs.Option.{option_or}
use Rattle.tree.specs.declared.head.Head.{Head}
use Rattle.tree.specs.declared.width.Width.{Width}
use Rattle.tree.specs.declared.links.Link.{Link}
use Rattle.tree.specs.declared.links.Side.{Side}
use Rattle.tree.specs.declared.links.Side.TheVariants.{Left, Right}
use Rattle.tree.specs.declared.node.Node.{Node}
use Rattle.tree.specs.Feet.{Foot, Bottom}
use Rattle.tree.specs.State.{Chain, WellFormed, tree_of, stored}
use Rattle.tree.specs.Heads.{rooted_at}
use Rattle.tree.specs.Tree.{Tree, leaf, fork, node_of, link, Laid, Inside, place_of, last_link, tree_below, pour, occurs, size, one, record_of, Distinct, Levels, on}
use Rattle.tree.specs.Writes.{with_link, Stands, Relinked, Promoted, Released}
use Rattle.tree.proofs.Depths.{in_high, tree_high}
use Rattle.tree.proofs.Ends.{end, put_at, way, here, left, right, in_at, cnt_at, size-at, val_end, val_other, once-at, cnt_end, stop, deep, near, is_at}
use Rattle.tree.proofs.Entries.{yes_eq, no_eq, sorted_del, get-del, same_entries, length-del, get, del}
use Rattle.tree.proofs.Feet.{crown, off_other, foot_cnt, foot-size, foot_in, foot_node, foot-is, foot-crown, all, part, hold, Freed, cnt_crown, size-crown, link-crown, in_crown, Crowned, crowned}
use Rattle.tree.proofs.NewKey.{the_tree, get_tree, same_chain, off_of}
use Rattle.tree.proofs.Trees.{branch, both_sides, own_link, or-none, occurs-within, one_same, At, at_left, at_right, outside, same, sorted_pour, nth_lt}

abbrev pub second : Option Link → Side
second None = Left
second (Some x) = x.side

module _ {V : Type 0} where
  -- the subtree that a found key heads
  pub record Top (ns : List (Node V)) (q h i : ℕ) (s : Tree V) : Type 0 where
    pub v : V
    pub l : Tree V
    pub r : Tree V
    pub top : s ≡ fork i q v l r
    pub h' : ℕ
    pub low' : ℕ
    pub less : h' ≤ h
    pub inside : Inside h' low' s
    pub is : Laid ns s
    pub once : Distinct s

  deeper : (ns : List (Node V)) (q h i : ℕ) (s : Tree V) → Top ns q h i s → Top ns q (suc h) i s
  deeper ns q h i s m = record { v = m.v; l = m.l; r = m.r; top = m.top; h' = m.h'; low' = m.low'; less = omega (arith, m.less); inside = m.inside; is = m.is; once = m.once }

  pub topped : (ns : List (Node V)) (q h low i : ℕ) (t : Tree V) → Inside h low t → Laid ns t → Distinct t → place_of q h low t ≡ Some i → Top ns q h i (end q h low t)
  topped ns q h low i leaf inn is o e = cc
  topped ns q zero low i (fork j k v l r) inn is o e = ⊎_elim
      (λ kq. let f : Some j ≡ Some i = sym (yes_eq k q _ _ kq) ∙ e in let ji : j ≡ i = cc in
      record { v = v; l = l; r = r; top = ap (λ (x : ℕ). fork x k v l r) ji ∙ ap (λ (x : ℕ). fork i x v l r) kq; h' = zero; low' = low; less = omega arith; inside = inn; is = is; once = o })
      (λ ne. let f : None ≡ Some i = sym (no_eq k q _ _ ne) ∙ e in cc)
      (cases_eq k q)
  topped ns q (suc h) low i (fork j k v l r) inn is o e = elim (way leaf q h low j k v l r) [
    | here kq en pu la lo ↦ (let f : Some j ≡ Some i = sym lo ∙ e in let ji : j ≡ i = cc in
        subst (Top ns q (suc h) i) (sym en) (record { v = v; l = l; r = r; top = ap (λ (x : ℕ). fork x k v l r) ji ∙ ap (λ (x : ℕ). fork i x v l r) kq; h' = suc h; low' = low; less = omega arith; inside = inn; is = is; once = o }))
    | left ne w en pu la lo ↦ subst (Top ns q (suc h) i) (sym en) (deeper ns q h i _ (topped ns q h low i l inn.2 is.1 o.2 (sym lo ∙ e)))
    | right ne w en pu la lo ↦ subst (Top ns q (suc h) i) (sym en) (deeper ns q h i _ (topped ns q h (low + 2 ^ h) i r inn.3 is.2 o.3 (sym lo ∙ e)))
  ]

  -- the last link stands above the end of the walk, and leads there
  pub data Lead (ns : List (Node V)) (q h low : ℕ) (t : Tree V) (d : Option Link) : Type 0 where
    begins : last_link q h low t d ≡ d → end q h low t ≡ t → Lead ns q h low t d
    leads : (p : ℕ) (side : Side) → last_link q h low t d ≡ Some (on p side) → 1 ≤ occurs p t → occurs p (end q h low t) ≡ 0 → ((n : Node V) → slice_get ns p ≡ Some n → with_link side (link (end q h low t)) n ≡ n) → Lead ns q h low t d

  lead_side : (ns : List (Node V)) (q h h' low low' j k : ℕ) (v : V) (l r : Tree V) (d : Option Link) (e : Side) → ((x : ℕ) → occurs x (fork j k v l r) ≤ 1) → Laid ns (fork j k v l r)
      → end q h low (fork j k v l r) ≡ end q h' low' (branch e l r) → last_link q h low (fork j k v l r) d ≡ last_link q h' low' (branch e l r) (Some (on j e)) → Lead ns q h' low' (branch e l r) (Some (on j e)) → Lead ns q h low (fork j k v l r) d
  lead_side ns q h h' low low' j k v l r d e a1 is en la ld =
      let o : one j j ≡ 1 = one_same j j refl in
      let both = λ (x : ℕ). both_sides x e l r in
      elim ld [
        | begins a b ↦ leads j e (la ∙ a) (omega arith) (let g = ap (occurs j) (en ∙ b) in omega (arith, g, a1 j, both j))
            (λ n at. let ev : n ≡ node_of k v (link l) (link r) = (let is0 : slice_get ns j ≡ Some (node_of k v (link l) (link r)) = is.0 in cc) in
            ap (λ (x : Tree V). with_link e (link x) n) (en ∙ b) ∙ ap (λ (x : Node V). with_link e (link (branch e l r)) x) ev ∙ sym (own_link e k v l r) ∙ sym ev)
        | leads p side a i z f ↦ leads p side (la ∙ a) (omega (arith, both p)) (ap (occurs p) en ∙ z) (λ n at. ap (λ (x : Tree V). with_link side (link x) n) en ∙ f n at)
      ]

  pub lead : (ns : List (Node V)) (q h low : ℕ) (t : Tree V) (d : Option Link) → ((x : ℕ) → occurs x t ≤ 1) → Laid ns t → Lead ns q h low t d
  lead ns q h low leaf d a1 is = begins refl refl
  lead ns q zero low (fork j k v l r) d a1 is = begins refl refl
  lead ns q (suc h) low (fork j k v l r) d a1 is = elim (way leaf q h low j k v l r) [
    | here kq en pu la lo ↦ begins (la d) en
    | left ne w en pu la lo ↦ lead_side ns q (suc h) h low low j k v l r d Left a1 is en (la d) (lead ns q h low l (Some (on j Left)) (λ x. omega (arith, a1 x)) is.1)
    | right ne w en pu la lo ↦ lead_side ns q (suc h) h low (low + 2 ^ h) j k v l r d Right a1 is en (la d) (lead ns q h (low + 2 ^ h) r (Some (on j Right)) (λ x. omega (arith, a1 x)) is.2)
  ]

  pub sub_tree : (ns : List (Node V)) (h : Head) (u : WellFormed ns h) (q i : ℕ) → Top ns q h.width.bits i (end q h.width.bits 0 u.t) → Levels h.width.bits (end q h.width.bits 0 u.t) × (tree_below (suc h.width.bits) ns (Some i) ≡ end q h.width.bits 0 u.t) × (Some i ≡ link (end q h.width.bits 0 u.t))
  sub_tree ns h u q i t =
      let hi = in_high t.h' t.low' h.width.bits (end q h.width.bits 0 u.t) t.inside t.less in
      let li : Some i ≡ link (end q h.width.bits 0 u.t) = ap link (sym t.top) in
      (hi, ap (tree_below (suc h.width.bits) ns) li ∙ tree_high ns h.width.bits (end q h.width.bits 0 u.t) hi t.is, li)

  set-some : (ns ms : List (Node V)) (um : Option Link) (to : Option ℕ) (p : ℕ) (side : Side) (n : Node V) → Relinked ns ms um to → um ≡ Some (on p side) → slice_get ns p ≡ Some n → slice_get ms p ≡ Some (with_link side to n)
  set-some ns ms um to p side n r e at = (subst (λ (x : Option Link). Relinked ns ms x to) e r).linked n at

  -- the writes of a remove leave a store without the key
  pub splice : (ns n1 n2 ms : List (Node V)) (q hb : ℕ) (t : Tree V) (i m km : ℕ) (vm : V) (c : Tree V) (sp um : Option Link) (v : V) (l r : Tree V) (free : Option ℕ) → ((x : ℕ) → occurs x t ≤ 1) → Laid ns t → sp ≡ last_link q hb 0 t None
      → end q hb 0 t ≡ fork i q v l r → Laid ns (fork i q v l r) → Foot (fork i q v l r) sp m km vm c um → Promoted ns n1 i m → Relinked n1 n2 um None → Released n2 ms m free → Laid ms (put_at (crown km vm c) q hb 0 t)
  splice ns n1 n2 ms q hb t i m km vm c sp um v l r free a1 is ls en isS ft pr re rl =
      let S : Tree V = fork i q v l r in
      let cntS : (x : ℕ) → occurs x S ≤ occurs x t = λ x. (let g = ap (occurs x) en in omega (arith, g, cnt_end x q hb 0 t)) in
      let aS : (x : ℕ) → occurs x S ≤ 1 = λ x. omega (arith, cntS x, a1 x) in
      let ii : one i i ≡ 1 = one_same i i refl in
      let mm : one m m ≡ 1 = one_same m m refl in
      let inm : occurs m c + one m m ≡ occurs m S = foot_cnt m S sp m km vm c um ft in
      let bn : slice_get ns m ≡ Some (node_of km vm None None) = foot_node ns S sp m km vm c um ft isS in
      let top1 : slice_get n1 i ≡ Some (node_of km vm (link l) (link r)) = pr.moved (node_of q v (link l) (link r)) (node_of km vm None None) isS.0 bn in
      let off-i : (x : ℕ) → 1 ≤ occurs x l + occurs x r → x ≡ i → ⊥ = λ x k e. (let g : one x i ≡ 1 = one_same x i e in omega (arith, aS x)) in
      let is1 : Laid n1 (fork i km vm l r) = (top1, same ns n1 l (λ x k. pr.kept x (off-i x (omega arith))) isS.1, same ns n1 r (λ x k. pr.kept x (off-i x (omega arith))) isS.2) in
      let fr : Freed n1 ms (fork i km vm l r) m um = record {
        kept = λ x k xm f. rl.kept x xm ∙ re.kept x (off_of x um f);
        linked = λ p side n e k pm at. rl.kept p pm ∙ set-some n1 n2 um None p side n re e at;
      } in
      let new : Laid ms (crown km vm c) = foot-is n1 ms (fork i km vm l r) sp m km vm (crown km vm c) um (foot-crown i q v l r sp m km vm c um ft) aS is1 fr in
      let not-m : (x : ℕ) → occurs x S ≡ 0 → x ≡ m → ⊥ = λ x z e. (let g : occurs x S ≡ occurs m S = ap (λ (y : ℕ). occurs y S) e in omega arith) in
      let not-i : (x : ℕ) → occurs x S ≡ 0 → x ≡ i → ⊥ = λ x z e. (let g : occurs x S ≡ occurs i S = ap (λ (y : ℕ). occurs y S) e in omega arith) in
      let out : (x : ℕ) → occurs x S ≡ 0 → ((p : ℕ) (side : Side) → um ≡ Some (on p side) → x ≡ p → ⊥) → slice_get ms x ≡ slice_get ns x =
      λ x z f. rl.kept x (not-m x z) ∙ re.kept x (off_of x um f) ∙ pr.kept x (not-i x z) in
      let hd = hold S sp m km vm c um ft in
      is_at ns ms (crown km vm c) q hb 0 None t a1 is (record {
        new = new;
        kept = λ x k z f. (let z' : occurs x S ≡ 0 = ap (occurs x) (sym en) ∙ z in out x z' (λ p side e xp. elim hd [
          | all ca ua ↦ f p side (sym ls ∙ sym ua ∙ e) xp
          | part a p' side' e' k' ↦ (let g : occurs x S ≡ occurs p' S = ap (λ (y : ℕ). occurs y S) (xp ∙ off_other p p' side side' um e e') in omega arith)
        ]));
        linked = λ p side n e k at. (
            let ld : (occurs p S ≡ 0) × (with_link side (link S) n ≡ n) = elim (lead ns q hb 0 t None a1 is) [
              | begins a b ↦ (let y : None ≡ Some (on p side) = sym a ∙ e in cc)
              | leads p' side' a k' z f ↦ (
                  let pp : p' ≡ p = off_other p' p side' side (last_link q hb 0 t None) a e in
                  let ss : side' ≡ side = ap second (sym a ∙ e) in (
                    ap (λ (y : ℕ). occurs y S) (sym pp) ∙ ap (occurs p') (sym en) ∙ z,
                    ap (λ (y : Tree V). with_link side (link y) n) (sym en) ∙ ap (λ (y : Side). with_link y (link (end q hb 0 t)) n) (sym ss) ∙ f n (ap (slice_get ns) pp ∙ at),
                  ))
            ] in
            let z0 : occurs p S ≡ 0 = ld.0 in
            elim hd [
              | all ca ua ↦ rl.kept p (not-m p z0) ∙ set-some n1 n2 um None p side n re (ua ∙ ls ∙ e) (pr.kept p (not-i p z0) ∙ at) ∙ ap (λ (y : Tree V). Some (with_link side (link (crown km vm y)) n)) (sym ca)
              | part a p' side' e' k' ↦ out p z0 (λ p2 side2 e2 pp. (let g : occurs p S ≡ occurs p' S = ap (λ (y : ℕ). occurs y S) (pp ∙ off_other p2 p' side2 side' um e2 e') in omega arith)) ∙ at
                  ∙ ap Some (sym (ap (λ (y : Option ℕ). with_link side y n) (link-crown km vm c ∙ a) ∙ ld.1))
            ]);
      })

  -- the root's link after it
  pub splice_root : (q hb : ℕ) (t : Tree V) (m km : ℕ) (vm : V) (c : Tree V) (sp um : Option Link) (s : Tree V) → sp ≡ last_link q hb 0 t None → end q hb 0 t ≡ s → Foot s sp m km vm c um → rooted_at um None (link t) ≡ link (put_at (crown km vm c) q hb 0 t)
  splice_root q hb t m km vm c sp um s ls en ft = elim (hold s sp m km vm c um ft) [
    | all ca ua ↦ elim (near (crown km vm c) q hb 0 t None) [
      | stop pu e la ↦ ap (λ (x : Option Link). rooted_at x None (link t)) (ua ∙ ls ∙ la) ∙ sym (ap link pu ∙ ap (λ (y : Tree V). link (crown km vm y)) ca)
      | deep a p side la k ↦ ap (λ (x : Option Link). rooted_at x None (link t)) (ua ∙ ls ∙ la) ∙ sym a
    ]
    | part a p side e k ↦ ap (λ (x : Option Link). rooted_at x None (link t)) e ∙ elim (near (crown km vm c) q hb 0 t None) [
      | stop pu e2 la ↦ sym (ap link pu ∙ link-crown km vm c ∙ a ∙ ap link (sym en ∙ e2))
      | deep b p2 side2 la k2 ↦ sym b
    ]
  ]

  -- where the foot and its link stand
  pub foot_range : (ns : List (Node V)) (q hb : ℕ) (t : Tree V) (m km : ℕ) (vm : V) (c : Tree V) (sp um : Option Link) (s : Tree V) → ((x : ℕ) → occurs x t ≤ 1) → Laid ns t → sp ≡ last_link q hb 0 t None → Laid ns s → Foot s sp m km vm c um → (m < length ns) × Stands (length ns) um
  foot_range ns q hb t m km vm c sp um s a1 is ls iss ft = (
    nth_lt ns m _ (foot_node ns s sp m km vm c um ft iss),
    elim (hold s sp m km vm c um ft) [
      | all ca ua ↦ elim (lead ns q hb 0 t None a1 is) [
        | begins a b ↦ subst (Stands (length ns)) (sym (ua ∙ ls ∙ a)) tt
        | leads p side a k z f ↦ subst (Stands (length ns)) (sym (ua ∙ ls ∙ a)) (occurs-within ns p t is k)
      ]
      | part a p side e k ↦ subst (Stands (length ns)) (sym e) (occurs-within ns p s iss k)
    ],
  )

  pub del_tree : (q : ℕ) (s t : Tree V) → ((x : ℕ) → record_of x s ≡ cond (eqb x q) None (record_of x t)) → pour s [] ≡ del q (pour t [])
  del_tree q s t e = same_entries (pour s []) (del q (pour t [])) (sorted_pour s [] tt) (sorted_del q (pour t []) (sorted_pour t [] tt))
      (λ x. get_tree x s ∙ e x ∙ sym (get-del x q (pour t []) (sorted_pour t [] tt) ∙ ap (λ (y : Option V). cond (eqb x q) None y) (get_tree x t)))

  -- a key is where its walk ends, or nowhere
  pub val_is_end : (q h low : ℕ) (t : Tree V) → Inside h low t → At q h low → record_of q t ≡ record_of q (end q h low t)
  val_is_end q h low leaf inn a = refl
  val_is_end q zero low (fork j k v l r) inn a = refl
  val_is_end q (suc h) low (fork j k v l r) inn a = elim (way leaf q h low j k v l r) [
    | here e en pu la lo ↦ ap (record_of q) (sym en)
    | left ne w en pu la lo ↦ no_eq q k _ _ (λ e. ne (sym e)) ∙ ap (option_or (record_of q l)) (outside q h (low + 2 ^ h) r inn.3 (inl w)) ∙ or-none (record_of q l) ∙ val_is_end q h low l inn.2 (at_left q h low a w) ∙ ap (record_of q) (sym en)
    | right ne w en pu la lo ↦ no_eq q k _ _ (λ e. ne (sym e)) ∙ ap (λ (x : Option V). option_or x (record_of q r)) (outside q h low l inn.2 (inr w)) ∙ val_is_end q h (low + 2 ^ h) r inn.3 (at_right q h low a w) ∙ ap (record_of q) (sym en)
  ]

  pub found_some : (ns : List (Node V)) (h : Head) (u : WellFormed ns h) (q i : ℕ) → place_of q h.width.bits 0 (tree_of ns h) ≡ Some i → 1 ≤ h.count
  found_some ns h u q i e = omega (arith, u.count_is, ap size (the_tree ns h u), go h.width.bits 0 (tree_of ns h) e)
    where
      go : (b low : ℕ) (t : Tree V) → place_of q b low t ≡ Some i → 1 ≤ size t
      go b low leaf e = cc
      go b low (fork j k v l r) e = omega arith

  pub record Ready (ns : List (Node V)) (bits i : ℕ) (s : Tree V) : Type 0 where
    pub node : Some i ≡ link s
    pub is : Laid ns s
    pub high : Levels bits s
    pub within : i < length ns

  pub ready : (ns : List (Node V)) (h : Head) (u : WellFormed ns h) (q i : ℕ) → place_of q h.width.bits 0 (tree_of ns h) ≡ Some i → Ready ns h.width.bits i (tree_below (suc h.width.bits) ns (Some i))
  ready ns h u q i lo =
      let T = topped ns q h.width.bits 0 i u.t u.inside u.is u.once (ap (place_of q h.width.bits 0) (sym (the_tree ns h u)) ∙ lo) in
      let st = sub_tree ns h u q i T in
      let is0 : Laid ns (fork i q T.v T.l T.r) = subst (Laid ns) T.top T.is in
      record { node = st.2 ∙ ap link (sym st.1); is = subst (Laid ns) (sym st.1) T.is; high = subst (Levels h.width.bits) (sym st.1) st.0; within = nth_lt ns i _ is0.0 }

  pub ranges : (ns : List (Node V)) (h : Head) (u : WellFormed ns h) (q i m : ℕ) (sp um : Option Link) → place_of q h.width.bits 0 (tree_of ns h) ≡ Some i → sp ≡ last_link q h.width.bits 0 (tree_of ns h) None → Bottom (tree_below (suc h.width.bits) ns (Some i)) sp m um → (m < length ns) × Stands (length ns) um
  ranges ns h u q i m sp um lo ls bo =
      let rd = ready ns h u q i lo in
      foot_range ns q h.width.bits u.t m bo.km bo.vm bo.c sp um (tree_below (suc h.width.bits) ns (Some i)) (λ x. omega (arith, u.apart x)) u.is (ls ∙ ap (λ (x : Tree V). last_link q h.width.bits 0 x None) (the_tree ns h u)) rd.is bo.foot

  pub record Without (ns ms : List (Node V)) (h k : Head) (q : ℕ) : Type 0 where
    pub wf : WellFormed ms k
    pub entries_are : stored ms k ≡ del q (stored ns h)

  pub taken : (ns n1 n2 ms : List (Node V)) (h k : Head) (u : WellFormed ns h) (q i m : ℕ) (sp um : Option Link) → q < 2 ^ h.width.bits → place_of q h.width.bits 0 (tree_of ns h) ≡ Some i → sp ≡ last_link q h.width.bits 0 (tree_of ns h) None
      → Bottom (tree_below (suc h.width.bits) ns (Some i)) sp m um → Promoted ns n1 i m → Relinked n1 n2 um None → Released n2 ms m h.free → length ms ≡ length ns
      → k.root ≡ rooted_at um None h.root → k.free ≡ Some m → k.fresh ≡ h.fresh → k.count ≡ h.count - 1 → k.width ≡ h.width → Without ns ms h k q
  taken ns n1 n2 ms h k u q i m sp um lt lo ls bo pr re rl len kr kf ks kc kw =
      let tr : tree_of ns h ≡ u.t = the_tree ns h u in
      let t : Tree V = u.t in
      let hb : ℕ = h.width.bits in
      let a : At q hb 0 = (omega arith, omega arith) in
      let lo' : place_of q hb 0 t ≡ Some i = ap (place_of q hb 0) (sym tr) ∙ lo in
      let ls' : sp ≡ last_link q hb 0 t None = ls ∙ ap (λ (x : Tree V). last_link q hb 0 x None) tr in
      let a1 : (x : ℕ) → occurs x t ≤ 1 = λ x. omega (arith, u.apart x) in
      let T = topped ns q hb 0 i t u.inside u.is u.once lo' in
      let st = sub_tree ns h u q i T in
      let en : end q hb 0 t ≡ fork i q T.v T.l T.r = T.top in
      let S : Tree V = fork i q T.v T.l T.r in
      let km : ℕ = bo.km in let vm : V = bo.vm in let c : Tree V = bo.c in
      let ft : Foot S sp m km vm c um = subst (λ (x : Tree V). Foot x sp m km vm c um) (st.1 ∙ en) bo.foot in
      let isS : Laid ns S = subst (Laid ns) en T.is in
      let in_s : Inside T.h' T.low' S = subst (Inside T.h' T.low') en T.inside in
      let onS : Distinct S = subst Distinct en T.once in
      let s' : Tree V = crown km vm c in
      let t' : Tree V = put_at s' q hb 0 t in
      let cr : Crowned q km vm S c = crowned T.h' T.low' i q T.v T.l T.r sp m km vm c um ft in_s onS in
      let oth : (x : ℕ) → (x ≡ q → ⊥) → record_of x s' ≡ record_of x (end q hb 0 t) = λ x ne. cr.others x ne ∙ ap (record_of x) (sym en) in
      let vals : (x : ℕ) → record_of x t' ≡ cond (eqb x q) None (record_of x t) = λ x. ⊎_elim
      (λ (e : x ≡ q). ap (λ (y : ℕ). record_of y t') e ∙ val_end s' q hb 0 t u.inside a ∙ cr.gone ∙ sym (yes_eq x q _ _ e))
      (λ (e : x ≡ q → ⊥). val_other x s' q hb 0 t (oth x e) ∙ sym (no_eq x q _ _ e))
      (cases_eq x q) in
      let es : pour t' [] ≡ del q (pour t []) = del_tree q t' t vals in
      let cnts : (x : ℕ) → occurs x t' + one x m ≡ occurs x t = λ x. (let g = ap (occurs x) en in omega (arith, g, cnt_at x s' q hb 0 t, cnt_crown x km vm c, foot_cnt x S sp m km vm c um ft)) in
      let sz : size t' + 1 ≡ size t = (let g = ap size en in omega (arith, g, size-at s' q hb 0 t, size-crown km vm c, foot-size S sp m km vm c um ft)) in
      let had : get q (pour t []) ≡ Some T.v = get_tree q t ∙ val_is_end q hb 0 t u.inside a ∙ ap (record_of q) en ∙ yes_eq q q _ _ refl in
      let lens : suc (length (pour t' [])) ≡ length (pour t []) = ap (λ (x : List (ℕ × V)). suc (length x)) es ∙ length-del q T.v (pour t []) had in
      let fd = rl.freed in
      let mm : one m m ≡ 1 = one_same m m refl in
      let chained : Chain ms (Some m) (m ∷ u.f) = (
        refl,
        (
          with_link Left h.free fd.0,
          fd.2,
          (same_chain ns ms h.free u.f (λ x o.
              (let inS' : (y : ℕ) → occurs y S ≤ occurs y t = λ y. (let g = ap (occurs y) en in omega (arith, g, cnt_end y q hb 0 t)) in
              let nt : occurs x t ≡ 0 = omega (arith, u.apart x) in
              let xm : x ≡ m → ⊥ = λ e. (let g : occurs x t ≡ occurs m t = ap (λ (y : ℕ). occurs y t) e in omega (arith, cnts m)) in
              let xi : x ≡ i → ⊥ = λ e. (let g : occurs x t ≡ occurs i t = ap (λ (y : ℕ). occurs y t) e in let o2 : one i i ≡ 1 = one_same i i refl in omega (arith, inS' i)) in
              rl.kept x xm ∙ re.kept x (off_of x um (λ p side e xp. elim (hold S sp m km vm c um ft) [
                | all ca ua ↦ elim (lead ns q hb 0 t None a1 u.is) [
                  | begins b1 b2 ↦ (let y : None ≡ Some (on p side) = sym b1 ∙ sym ls' ∙ sym ua ∙ e in cc)
                  | leads p' side' b1 k' z f ↦ (let g : occurs x t ≡ occurs p' t = ap (λ (y : ℕ). occurs y t) (xp ∙ off_other p p' side side' um e (ua ∙ ls' ∙ b1)) in omega arith)
                ]
                | part b1 p' side' e' k' ↦ (let g : occurs x t ≡ occurs p' t = ap (λ (y : ℕ). occurs y t) (xp ∙ off_other p p' side side' um e e') in omega (arith, inS' p'))
              ])) ∙ pr.kept x xi)) u.chain),
        ),
      ) in
      let wf : WellFormed ms k = record {
        t = t';
        f = m ∷ u.f;
        root_is = kr ∙ ap (rooted_at um None) u.root_is ∙ splice_root q hb t m km vm c sp um S ls' en ft;
        is = splice ns n1 n2 ms q hb t i m km vm c sp um T.v T.l T.r h.free a1 u.is ls' en isS ft pr re rl;
        inside = subst (λ (w : Width). Inside w.bits 0 t') (sym kw) (in_at s' q hb 0 t u.inside a (λ h2 low2 a2 i2.
            (let j2 = foot_in h2 low2 S sp m km vm c um ft (subst (Inside h2 low2) en i2) in in_crown h2 low2 km vm c j2.0 j2.1)));
        once = once-at s' q hb 0 t u.once cr.once oth;
        chain = subst (λ (x : Option ℕ). Chain ms x (m ∷ u.f)) (sym kf) chained;
        apart = λ x. omega (arith, u.apart x, cnts x);
        unused = λ x le. omega (arith, u.unused x (omega (arith, ks, le)), cnts x);
        used = omega (arith, u.used, sz, ks);
        within = omega (arith, u.within, len, ks);
        small = omega (arith, u.small, len);
        count_is = omega (arith, kc, u.count_is, sz);
        sized = omega (arith, sz, lens, u.sized);
      } in
      record { wf = wf; entries_are = ap (λ (x : Tree V). pour x []) (the_tree ms k wf) ∙ es ∙ ap (λ (x : Tree V). del q (pour x [])) (sym tr) }
