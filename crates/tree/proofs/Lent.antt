-- What a method of the tree leaves of it, once it has written the nodes that it lent. Assumes nothing.
use Rattle.std.proofs.Common.{◌≡◌, ℕ, List, length, Some, Option, Vec, suc, sym, refl, ap, ◌∙◌, subst, arith}
use Rattle.std.specs.Vec.{with_items}
use Rattle.std.proofs.lemmas.List.{with_items_is}
use Rattle.key.specs.declared.identity.Key.{Ghosts}
use Rattle.tree.specs.declared.free.Spare.{Spare}
use Rattle.tree.specs.declared.head.Head.{Head}
use Rattle.tree.specs.declared.links.Link.{Link}
use Rattle.tree.specs.declared.links.Place.{Place}
use Rattle.tree.specs.declared.node.Node.{Node}
use Rattle.tree.specs.declared.search_tree.SearchTree.{SearchTree}
use Rattle.store.specs.Model.{with_entry, without}
use Rattle.tree.specs.Feet.{Bottom}
use Rattle.tree.specs.Heads.{with_spare, without_tip}
use Rattle.tree.specs.State.{Sound, SpareNode, Held, Missing, stored}
use Rattle.tree.specs.Tree.{tree_below}
use Rattle.tree.specs.Writes.{Attached, Renewed, TakenOut}
use Rattle.tree.proofs.Keeps.{counted, after_put, after-del}
use Rattle.tree.proofs.NewKey.{put_new_lem}
use Rattle.tree.proofs.OldKey.{again}
use Rattle.tree.proofs.Removal.{taken}
use Rattle.tree.proofs.Sealed.{known, short}

-- the tree of those nodes and that head, with its entries
pub record Leaves {V Z : Type 0} (limit : ℕ) (v : Vec (Node V) Z) (ws : List (Node V)) (k : Head) (es : List (ℕ × V)) : Type 0 where
  pub sound : ∥ Sound limit (with_items v ws).items k ∥₁
  pub counted : k.count ≡ length (stored (with_items v ws).items k)
  pub entries : stored (with_items v ws).items k ≡ es

leaves : {V Z : Type 0} (limit : ℕ) (v : Vec (Node V) Z) (ws : List (Node V)) (k : Head) (es : List (ℕ × V)) → length ws ≡ length v.items → Sound limit ws k → stored ws k ≡ es → Leaves limit v ws k es
leaves limit v ws k es len u e =
    let back : (with_items v ws).items ≡ ws = with_items_is v ws (omega (arith, len, v.ok.0)) in
    record {
      sound = subst (λ zs. ∥ Sound limit zs k ∥₁) (sym back) ∣ u ∣₁;
      counted = counted ws k u.wf ∙ ap (λ zs. length (stored zs k)) (sym back);
      entries = ap (λ zs. stored zs k) back ∙ e;
    }

module _ {K V : Type 0} {key : Ghosts K} (s : SearchTree K V key) (ns ws : List (Node V)) (was : ns ≡ s.nodes.items) (len : length ws ≡ length ns) where
  pub leaves_new : (k : Head) (sp : Spare) (under : Option Link) (q n : ℕ) (w : V) → q ≡ n → k ≡ with_spare s.head sp under → SpareNode s.nodes.items s.head sp → Missing key.LIMIT s.nodes.items s.head n under → Attached ns ws q w sp.at under → Leaves key.LIMIT s.nodes ws k (with_entry (stored s.nodes.items s.head) n w)
  leaves_new k sp under q n w num e kp m hu =
      let u = known s in
      let hu' : Attached s.nodes.items ws n w sp.at under = subst (λ zs. Attached zs ws n w sp.at under) was (subst (λ x. Attached ns ws x w sp.at under) num hu) in
      let a = put_new_lem s.nodes.items ws s.head k u.wf n w sp kp under (short s n m.below) m.at-is m.under_is hu' (len ∙ ap length was)
      (ap (λ (x : Head). x.root) e) (ap (λ (x : Head). x.free) e) (ap (λ (x : Head). x.fresh) e) (ap (λ (x : Head). x.count) e) (ap (λ (x : Head). x.width) e) in
      leaves key.LIMIT s.nodes ws k _ (len ∙ ap length was) (after_put key.LIMIT s.nodes.items ws s.head k n w u a.wf a.entries_are (ap (λ (x : Head). x.width) e) m.below) a.entries_are

  pub leaves_renewed : (p : Place) (n : ℕ) (w : V) → Held key.LIMIT s.nodes.items s.head n p → Renewed ns ws p.at w → Leaves key.LIMIT s.nodes ws s.head (with_entry (stored s.nodes.items s.head) n w)
  leaves_renewed p n w m re =
      let u = known s in
      let a = again s.nodes.items ws s.head u.wf n p.at w (short s n m.below) m.at-is (subst (λ zs. Renewed zs ws p.at w) was re) (len ∙ ap length was) in
      leaves key.LIMIT s.nodes ws s.head _ (len ∙ ap length was) (after_put key.LIMIT s.nodes.items ws s.head s.head n w u a.wf a.entries_are refl m.below) a.entries_are

  pub leaves-out : (k : Head) (p tip : Place) (n : ℕ) → k ≡ without_tip s.head tip → Held key.LIMIT s.nodes.items s.head n p → Bottom (tree_below (suc s.head.width.bits) s.nodes.items (Some p.at)) p.under tip.at tip.under → TakenOut ns ws p.at tip s.head.free
      → Leaves key.LIMIT s.nodes ws k (without (stored s.nodes.items s.head) n)
  leaves-out k p tip n e m bo t =
      let u = known s in
      let t' = subst (λ zs. TakenOut zs ws p.at tip s.head.free) was t in
      let a = taken s.nodes.items t'.filled t'.cut ws s.head k u.wf n p.at tip.at p.under tip.under (short s n m.below) m.at-is m.under_is bo t'.promoted t'.relinked t'.released (len ∙ ap length was)
      (ap (λ (x : Head). x.root) e) (ap (λ (x : Head). x.free) e) (ap (λ (x : Head). x.fresh) e) (ap (λ (x : Head). x.count) e) (ap (λ (x : Head). x.width) e) in
      leaves key.LIMIT s.nodes ws k _ (len ∙ ap length was) (after-del key.LIMIT s.nodes.items ws s.head k n u a.wf a.entries_are (ap (λ (x : Head). x.width) e)) a.entries_are
