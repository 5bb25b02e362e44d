-- A put of a key that is there. Assumes nothing.
use Rattle.std.proofs.Common.{◌≡◌, ℕ, zero, suc, ◌+◌, ◌^◌, ◌<◌, ◌≤◌, cond, eqb, List, [], length, Some, None, sym, refl, ap, ◌∙◌, subst, ⊎_elim, arith}
use Rattle.std.proofs.lemmas.Bool.{cases_eq}
use Rattle.std.specs.List.{slice_get}
use Rattle.tree.specs.declared.head.Head.{Head}
use Rattle.tree.specs.declared.links.Side.{Side}
use Rattle.tree.specs.declared.node.Node.{Node}
use Rattle.tree.specs.State.{WellFormed, tree_of}
use Rattle.tree.specs.Tree.{Tree, fork, node_of, link, Laid, Inside, place_of, last_link, pour, occurs, size, one, record_of, Distinct, on}
use Rattle.tree.specs.Writes.{with_link, Renewed}
use Rattle.tree.proofs.Ends.{end, put_at, in_at, cnt_at, size-at, val_end, val_other, once-at, cnt_end, stop, deep, near, is_at}
use Rattle.tree.proofs.Entries.{yes_eq, no_eq, length_had, get, ins}
use Rattle.tree.proofs.Feet.{off_other}
use Rattle.tree.proofs.NewKey.{the_tree, get_tree, same_chain, ins_tree, After}
use Rattle.tree.proofs.Removal.{topped, val_is_end, begins, leads, lead, second}
use Rattle.tree.proofs.Trees.{one_same, At, same, sorted_pour}

module _ {V : Type 0} where
  in_again : (h low i q : ℕ) (v w : V) (l r : Tree V) → Inside h low (fork i q v l r) → Inside h low (fork i q w l r)
  in_again zero low i q v w l r inn = inn
  in_again (suc h) low i q v w l r inn = inn

  pub again : (ns ms : List (Node V)) (h : Head) (u : WellFormed ns h) (q i : ℕ) (w : V) → q < 2 ^ h.width.bits → place_of q h.width.bits 0 (tree_of ns h) ≡ Some i → Renewed ns ms i w → length ms ≡ length ns → After ns ms h h q w
  again ns ms h u q i w lt lo re len =
      let tr : tree_of ns h ≡ u.t = the_tree ns h u in
      let t : Tree V = u.t in
      let hb : ℕ = h.width.bits in
      let a : At q hb 0 = (omega arith, omega arith) in
      let a1 : (x : ℕ) → occurs x t ≤ 1 = λ x. omega (arith, u.apart x) in
      let T = topped ns q hb 0 i t u.inside u.is u.once (ap (place_of q hb 0) (sym tr) ∙ lo) in
      let en : end q hb 0 t ≡ fork i q T.v T.l T.r = T.top in
      let S : Tree V = fork i q T.v T.l T.r in
      let s' : Tree V = fork i q w T.l T.r in
      let t' : Tree V = put_at s' q hb 0 t in
      let isS : Laid ns S = subst (Laid ns) en T.is in
      let onS : Distinct S = subst Distinct en T.once in
      let ii : one i i ≡ 1 = one_same i i refl in
      let cntS : (x : ℕ) → occurs x S ≤ occurs x t = λ x. (let g = ap (occurs x) en in omega (arith, g, cnt_end x q hb 0 t)) in
      let not-i : (x : ℕ) → occurs x S ≡ 0 → x ≡ i → ⊥ = λ x z e. (let g : occurs x S ≡ occurs i S = ap (λ (y : ℕ). occurs y S) e in omega arith) in
      let side-off : (x : ℕ) → 1 ≤ occurs x T.l + occurs x T.r → x ≡ i → ⊥ = λ x k e. (let g : one x i ≡ 1 = one_same x i e in omega (arith, cntS x, a1 x)) in
      let is' : Laid ms t' = is_at ns ms s' q hb 0 None t a1 u.is (record {
        new = (re.moved (node_of q T.v (link T.l) (link T.r)) isS.0, same ns ms T.l (λ x k. re.kept x (side-off x (omega arith))) isS.1, same ns ms T.r (λ x k. re.kept x (side-off x (omega arith))) isS.2);
        kept = λ x k z f. re.kept x (not-i x (ap (occurs x) (sym en) ∙ z));
        linked = λ p side n e k at. elim (lead ns q hb 0 t None a1 u.is) [
          | begins b1 b2 ↦ (let y : None ≡ Some (on p side) = sym b1 ∙ e in cc)
          | leads p' side' b1 k' z f ↦ (
              let pp : p' ≡ p = off_other p' p side' side (last_link q hb 0 t None) b1 e in
              let ss : side' ≡ side = ap second (sym b1 ∙ e) in
              let z0 : occurs p S ≡ 0 = ap (λ (y : ℕ). occurs y S) (sym pp) ∙ ap (occurs p') (sym en) ∙ z in
              re.kept p (not-i p z0) ∙ at ∙ ap Some (sym (ap (λ (y : Tree V). with_link side (link y) n) (sym en) ∙ ap (λ (y : Side). with_link y (link (end q hb 0 t)) n) (sym ss) ∙ f n (ap (slice_get ns) pp ∙ at))))
        ];
      }) in
      let oth : (x : ℕ) → (x ≡ q → ⊥) → record_of x s' ≡ record_of x (end q hb 0 t) = λ x ne. no_eq x q _ _ ne ∙ sym (no_eq x q _ _ ne) ∙ ap (record_of x) (sym en) in
      let vals : (x : ℕ) → record_of x t' ≡ cond (eqb x q) (Some w) (record_of x t) = λ x. ⊎_elim
      (λ (e : x ≡ q). ap (λ (y : ℕ). record_of y t') e ∙ val_end s' q hb 0 t u.inside a ∙ yes_eq q q _ _ refl ∙ sym (yes_eq x q _ _ e))
      (λ (e : x ≡ q → ⊥). val_other x s' q hb 0 t (oth x e) ∙ sym (no_eq x q _ _ e))
      (cases_eq x q) in
      let es : pour t' [] ≡ ins q w (pour t []) = ins_tree q w t' t vals in
      let had : get q (pour t []) ≡ Some T.v = get_tree q t ∙ val_is_end q hb 0 t u.inside a ∙ ap (record_of q) en ∙ yes_eq q q _ _ refl in
      let lens : length (pour t' []) ≡ length (pour t []) = ap length es ∙ length_had q w T.v (pour t []) (sorted_pour t [] tt) had in
      let sz : size t' ≡ size t = (let g = ap size en in omega (arith, g, size-at s' q hb 0 t)) in
      let wf : WellFormed ms h = record {
        t = t';
        f = u.f;
        root_is = u.root_is ∙ elim (near s' q hb 0 t None) [ stop pu e la ↦ sym (ap link pu ∙ ap link (sym en ∙ e)) | deep b p side la k ↦ sym b ];
        is = is';
        inside = in_at s' q hb 0 t u.inside a (λ h2 low2 a2 i2. in_again h2 low2 i q T.v w T.l T.r (subst (Inside h2 low2) en i2));
        once = once-at s' q hb 0 t u.once onS oth;
        chain = same_chain ns ms h.free u.f (λ x o. re.kept x (λ e. (let g : occurs x t ≡ occurs i t = ap (λ (y : ℕ). occurs y t) e in omega (arith, cntS i, u.apart x)))) u.chain;
        apart = λ x. (let g = ap (occurs x) en in omega (arith, g, u.apart x, cnt_at x s' q hb 0 t));
        unused = λ x le. (let g = ap (occurs x) en in omega (arith, g, u.unused x le, cnt_at x s' q hb 0 t));
        used = omega (arith, u.used, sz);
        within = omega (arith, u.within, len);
        small = omega (arith, u.small, len);
        count_is = u.count_is ∙ sym sz;
        sized = sz ∙ u.sized ∙ sym lens;
      } in
      record { wf = wf; entries_are = ap (λ (x : Tree V). pour x []) (the_tree ms h wf) ∙ es ∙ ap (λ (x : Tree V). ins q w (pour x [])) (sym tr) }
