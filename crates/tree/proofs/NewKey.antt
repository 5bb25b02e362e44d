-- A put of a new key. Assumes nothing.
use Rattle.std.proofs.Common.{◌≡◌, ℕ, zero, suc, ◌+◌, ◌^◌, ◌<◌, ◌≤◌, cond, eqb, ◌⊎◌, List, [], ◌∷◌, length, Some, None, Option, sym, refl, ap, ◌∙◌, subst, inl, inr, ⊎_elim, arith}
use Rattle.std.proofs.lemmas.Bool.{cases_lt, cases_eq}
use Rattle.std.specs.List.{slice_get}
use Rattle.std.specs.Option.{option_or}
use Rattle.tree.specs.declared.head.Head.{Head}
use Rattle.tree.specs.declared.free.Spare.{Spare}
use Rattle.tree.specs.declared.width.Width.{Width}
use Rattle.tree.specs.declared.links.Link.{Link}
use Rattle.tree.specs.declared.links.Side.{Side}
use Rattle.tree.specs.declared.links.Side.TheVariants.{Left, Right}
use Rattle.tree.specs.declared.node.Node.{Node}
use Rattle.tree.specs.State.{SpareNode, listed, Chain, WellFormed, tree_of, stored}
use Rattle.tree.specs.Heads.{rooted_at}
use Rattle.tree.specs.Tree.{Tree, leaf, fork, link, Laid, Inside, place_of, last_link, tree_below, pour, occurs, size, one, record_of, on}
use Rattle.tree.specs.Writes.{with_link, Attached, Linked, Elsewhere, Beside}
use Rattle.tree.proofs.Depths.{tree_is}
use Rattle.tree.proofs.Ends.{end, put_at, first, way, here, left, right, in_at, cnt_at, size-at, val_end, val_other, once-at, near, stop, deep, is_at}
use Rattle.tree.proofs.Entries.{get, ins, get_nil, yes_eq, no_eq, yes_lt, no_lt, sorted_ins, get-ins, same_entries, length-ins}
use Rattle.tree.proofs.Trees.{or-none, occurs-within, one_same, At, at_left, at_right, get-pour, sorted_pour, miss_ne, val_none}

pub off_of : (x : ℕ) (um : Option Link) → ((p : ℕ) (side : Side) → um ≡ Some (on p side) → x ≡ p → ⊥) → Elsewhere x um
off_of x None f = tt
off_of x (Some e) f = f e.node e.side refl

module _ {V : Type 0} where
  pub the_tree : (ns : List (Node V)) (h : Head) (u : WellFormed ns h) → tree_of ns h ≡ u.t
  the_tree ns h u = ap (tree_below (suc h.width.bits) ns) u.root_is ∙ tree_is ns h.width.bits 0 u.t u.inside u.is

  -- what the entries say of a key
  pub get_tree : (q : ℕ) (t : Tree V) → get q (pour t []) ≡ record_of q t
  get_tree q t = get-pour q t [] ∙ ap (option_or (record_of q t)) (get_nil V q) ∙ or-none (record_of q t)

  -- the entries after a put, from what look-ups find
  pub ins_tree : (q : ℕ) (w : V) (s t : Tree V) → ((x : ℕ) → record_of x s ≡ cond (eqb x q) (Some w) (record_of x t)) → pour s [] ≡ ins q w (pour t [])
  ins_tree q w s t e = same_entries (pour s []) (ins q w (pour t [])) (sorted_pour s [] tt) (sorted_ins q w (pour t []) (sorted_pour t [] tt))
      (λ x. get_tree x s ∙ e x ∙ sym (get-ins x q w (pour t []) ∙ ap (λ (y : Option V). cond (eqb x q) (Some w) y) (get_tree x t)))

  pub same_chain : (ns ms : List (Node V)) (i : Option ℕ) (f : List ℕ) → ((x : ℕ) → 1 ≤ listed x f → slice_get ms x ≡ slice_get ns x) → Chain ns i f → Chain ms i f
  same_chain ns ms i [] k c = c
  same_chain ns ms i (j ∷ f) k c =
      let here : one j j ≡ 1 = one_same j j refl in
      (c.0, (c.1.0, k j (omega arith) ∙ c.1.1, same_chain ns ms c.1.0.left f (λ x o. k x (omega arith)) c.1.2))

  -- the last link stands in the tree
  pub last_in : (q h low p : ℕ) (s : Side) (d : Option Link) (t : Tree V) → last_link q h low t d ≡ Some (on p s) → (d ≡ Some (on p s)) ⊎ (1 ≤ occurs p t)
  last_in q h low p s d leaf e = inl e
  last_in q zero low p s d (fork j k v l r) e = inl e
  last_in q (suc h) low p s d (fork j k v l r) e = ⊎_elim
      (λ kq. inl (sym (yes_eq k q _ _ kq) ∙ e))
      (λ ne. ⊎_elim
      (λ lt. inr (⊎_elim (λ d. let o : one p j ≡ 1 = one_same p j (sym (ap first d)) in omega arith) (λ c. omega arith) (last_in q h low p s (Some (on j Left)) l (sym (no_eq k q _ _ ne ∙ yes_lt q (low + 2 ^ h) _ _ lt) ∙ e))))
      (λ ge. inr (⊎_elim (λ d. let o : one p j ≡ 1 = one_same p j (sym (ap first d)) in omega arith) (λ c. omega arith) (last_in q h (low + 2 ^ h) p s (Some (on j Right)) r (sym (no_eq k q _ _ ne ∙ no_lt q (low + 2 ^ h) _ _ ge) ∙ e))))
      (cases_lt q (low + 2 ^ h)))
      (cases_eq k q)

  -- where the link to a new key stands
  pub link_ok : (ns : List (Node V)) (h : Head) (u : WellFormed ns h) (q new : ℕ) (under : Option Link) → occurs new (tree_of ns h) ≡ 0 → under ≡ last_link q h.width.bits 0 (tree_of ns h) None → Beside (length ns) new under
  link_ok ns h u q new None out e = tt
  link_ok ns h u q new (Some d) out e =
      let tr = the_tree ns h u in
      ⊎_elim
      (λ x. cc)
      (λ c. (occurs-within ns d.node u.t u.is c, λ x. (let y : occurs d.node u.t ≡ 0 = ap (λ (z : ℕ). occurs z u.t) x ∙ ap (occurs new) (sym tr) ∙ out in omega arith)))
      (last_in q h.width.bits 0 d.node d.side None u.t (sym (e ∙ ap (λ (x : Tree V). last_link q h.width.bits 0 x None) tr)))

  -- the way to a key that is not there ends at a leaf
  end-leaf : (q h low : ℕ) (t : Tree V) → Inside h low t → At q h low → place_of q h low t ≡ None → end q h low t ≡ leaf
  end-leaf q h low leaf inn a n = refl
  end-leaf q zero low (fork j k v l r) inn a n = absurd (miss_ne q zero low j k v l r n (omega (arith, inn.0, a)))
  end-leaf q (suc h) low (fork j k v l r) inn a n = elim (way leaf q h low j k v l r) [
    | here e en pu la lo ↦ absurd (miss_ne q (suc h) low j k v l r n e)
    | left ne w en pu la lo ↦ en ∙ end-leaf q h low l inn.2 (at_left q h low a w) (sym lo ∙ n)
    | right ne w en pu la lo ↦ en ∙ end-leaf q h (low + 2 ^ h) r inn.3 (at_right q h low a w) (sym lo ∙ n)
  ]

  new_in : (q : ℕ) (w : V) (new h low : ℕ) → At q h low → Inside h low (fork new q w leaf leaf)
  new_in q w new zero low a = (omega (arith, a), refl, refl)
  new_in q w new (suc h) low a = (a.0, a.1, tt, tt)

  hung_at : (ns ms : List (Node V)) (new : ℕ) (under : Option Link) (p : ℕ) (side : Side) (n : Node V) → Linked ns ms new under → under ≡ Some (on p side) → slice_get ns p ≡ Some n → slice_get ms p ≡ Some (with_link side (Some new) n)
  hung_at ns ms new under p side n li e at = subst (Linked ns ms new) e li n at

  -- the store after a put of a new key
  pub record After (ns ms : List (Node V)) (h k : Head) (q : ℕ) (w : V) : Type 0 where
    pub wf : WellFormed ms k
    pub entries_are : stored ms k ≡ ins q w (stored ns h)

  pub put_new_lem : (ns ms : List (Node V)) (h k : Head) (u : WellFormed ns h) (q : ℕ) (w : V) (sp : Spare) (kp : SpareNode ns h sp) (under : Option Link) → q < 2 ^ h.width.bits → place_of q h.width.bits 0 (tree_of ns h) ≡ None
      → under ≡ last_link q h.width.bits 0 (tree_of ns h) None → Attached ns ms q w sp.at under → length ms ≡ length ns
      → k.root ≡ rooted_at under (Some sp.at) h.root → k.free ≡ sp.free → k.fresh ≡ sp.fresh → k.count ≡ h.count + 1 → k.width ≡ h.width → After ns ms h k q w
  put_new_lem ns ms h k u q w sp kp under lt lo un hu len kr kf ks kc kw =
      let new : ℕ = sp.at in
      let tr : tree_of ns h ≡ u.t = the_tree ns h u in
      let a : At q h.width.bits 0 = (omega arith, omega arith) in
      let lo' : place_of q h.width.bits 0 u.t ≡ None = ap (place_of q h.width.bits 0) (sym tr) ∙ lo in
      let un' : under ≡ last_link q h.width.bits 0 u.t None = un ∙ ap (λ (x : Tree V). last_link q h.width.bits 0 x None) tr in
      let here : one new new ≡ 1 = one_same new new refl in
      let cts : (x : ℕ) → occurs x (tree_of ns h) ≡ occurs x u.t = λ x. ap (occurs x) tr in
      let not_in : occurs new u.t ≡ 0 = omega (arith, kp.apart new, cts new) in
      let no_more : listed new kp.f ≡ 0 = omega (arith, kp.apart new) in
      let apart : (x : ℕ) → occurs x u.t + one x new + listed x kp.f ≤ 1 = λ x. omega (arith, kp.apart x, cts x) in
      let t : Tree V = u.t in
      let hb : ℕ = h.width.bits in
      let s : Tree V = fork new q w leaf leaf in
      let t' : Tree V = put_at s q hb 0 t in
      let en : end q hb 0 t ≡ leaf = end-leaf q hb 0 t u.inside a lo' in
      let not_new : (x : ℕ) → 1 ≤ occurs x t → x ≡ new → ⊥ = λ x c e. (let g : occurs x t ≡ occurs new t = ap (λ (y : ℕ). occurs y t) e in omega (arith, not_in)) in
      let is' : Laid ms t' = is_at ns ms s q hb 0 None t (λ x. omega (arith, u.apart x)) u.is (record {
        new = (hu.fresh, tt, tt);
        kept = λ x c z f. hu.kept x (not_new x c) (off_of x under (λ p side e. f p side (sym un' ∙ e)));
        linked = λ p side n e c at. hung_at ns ms new under p side n hu.linked (un' ∙ e) at;
      }) in
      let root' : rooted_at under (Some new) h.root ≡ link t' = elim (near s q hb 0 t None) [
        | stop pu e la ↦ ap (λ (x : Option Link). rooted_at x (Some new) h.root) (un' ∙ la) ∙ sym (ap link pu)
        | deep b p side la k ↦ ap (λ (x : Option Link). rooted_at x (Some new) h.root) (un' ∙ la) ∙ u.root_is ∙ sym b
      ] in
      let oth : (x : ℕ) → (x ≡ q → ⊥) → record_of x s ≡ record_of x (end q hb 0 t) = λ x ne. no_eq x q _ _ ne ∙ ap (record_of x) (sym en) in
      let vals : (x : ℕ) → record_of x t' ≡ cond (eqb x q) (Some w) (record_of x t) = λ x. ⊎_elim
      (λ (e : x ≡ q). ap (λ (y : ℕ). record_of y t') e ∙ val_end s q hb 0 t u.inside a ∙ yes_eq q q _ _ refl ∙ sym (yes_eq x q _ _ e))
      (λ (e : x ≡ q → ⊥). val_other x s q hb 0 t (oth x e) ∙ sym (no_eq x q _ _ e))
      (cases_eq x q) in
      let es : pour t' [] ≡ ins q w (pour t []) = ins_tree q w t' t vals in
      let missing : get q (pour u.t []) ≡ None = get_tree q u.t ∙ val_none q h.width.bits 0 u.t u.inside a lo' in
      let sz : size t' ≡ 1 + size u.t = (let g = ap size en in omega (arith, g, size-at s q hb 0 t)) in
      let cnts : (x : ℕ) → occurs x t' ≡ one x new + occurs x t = λ x. (let g = ap (occurs x) en in omega (arith, g, cnt_at x s q hb 0 t)) in
      let lens : length (pour t' []) ≡ suc (length (pour u.t [])) = ap length es ∙ length-ins q w (pour u.t []) missing in
      let wf : WellFormed ms k = record {
        t = t';
        f = kp.f;
        root_is = kr ∙ root';
        is = is';
        inside = subst (λ (w : Width). Inside w.bits 0 t') (sym kw) (in_at s q hb 0 t u.inside a (λ h2 low2 a2 i2. new_in q w new h2 low2 a2));
        once = once-at s q hb 0 t u.once (refl, refl, tt, tt) oth;
        chain = subst (λ (i : Option ℕ). Chain ms i kp.f) (sym kf)
            (same_chain ns ms sp.free kp.f (λ x o. hu.kept x
            (λ e. let y : listed x kp.f ≡ 0 = ap (λ (z : ℕ). listed z kp.f) e ∙ no_more in omega arith)
            (off x under un' o (apart x))) kp.chain);
        apart = λ x. omega (arith, apart x, cnts x);
        unused = λ x le. omega (arith, kp.unused x (omega (arith, ks, le)), cts x, cnts x);
        used = omega (arith, kp.used, ap size tr, sz, ks);
        within = omega (arith, kp.within, len, ks);
        small = omega (arith, u.small, len);
        count_is = omega (arith, kc, u.count_is, sz);
        sized = omega (arith, sz, lens, u.sized);
      } in
      record { wf = wf; entries_are = ap (λ (x : Tree V). pour x []) (the_tree ms k wf) ∙ es ∙ ap (λ (x : Tree V). ins q w (pour x [])) (sym tr) }
    where
      off : (x : ℕ) (under : Option Link) → under ≡ last_link q h.width.bits 0 u.t None → 1 ≤ listed x kp.f → occurs x u.t + one x sp.at + listed x kp.f ≤ 1 → Elsewhere x under
      off x None e o ap' = tt
      off x (Some d) e o ap' = λ xp. ⊎_elim
          (λ y. cc)
          (λ c. let c' : 1 ≤ occurs x u.t = subst (λ (z : ℕ). 1 ≤ occurs z u.t) (sym xp) c in omega arith)
          (last_in q h.width.bits 0 d.node d.side None u.t (sym e))
