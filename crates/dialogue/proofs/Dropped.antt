-- A key dropped from a map with another one set. Assumes nothing.
use Rattle.std.proofs.Common.{◌≡◌, ℕ, true, false, List, sym, ◌∙◌, inl, inr}
use Rattle.std.proofs.lemmas.Bool.{cases_eq}
use Rattle.store.specs.Model.{keys, rises, at, holds, with_entry, without}
use Rattle.store.proofs.Maps.{rises_with, rises-without, at_with_same, at_with_other, at-without_same, at-without_other, none_from_holds}
use Rattle.store.proofs.Changes.{same_map}

module _ {V : Type 0} (es : List (ℕ × V)) (k : ℕ) where
  pub without_with_new : (v : V) → rises (keys es) ≡ true → holds es k ≡ false → without (with_entry es k v) k ≡ es
  without_with_new v up new = same_map _ _ (rises-without (with_entry es k v) k (rises_with es k v up)) up looks
    where
      looks : (q : ℕ) → at (without (with_entry es k v) k) q ≡ at es q
      looks q =
          elim (cases_eq q k) [
            | inl e ↦ rw e (at-without_same (with_entry es k v) k (rises_with es k v up) ∙ sym (none_from_holds es k new))
            | inr ne ↦ at-without_other (with_entry es k v) k q ne ∙ at_with_other es k q v ne
          ]

  pub without_with_other : (j : ℕ) (v : V) → rises (keys es) ≡ true → (k ≡ j → ⊥) → without (with_entry es k v) j ≡ with_entry (without es j) k v
  without_with_other j v up ne = same_map _ _ (rises-without (with_entry es k v) j (rises_with es k v up)) (rises_with (without es j) k v (rises-without es j up)) looks
    where
      looks : (q : ℕ) → at (without (with_entry es k v) j) q ≡ at (with_entry (without es j) k v) q
      looks q =
          elim (cases_eq q j) [
            | inl e ↦ rw e (at-without_same (with_entry es k v) j (rises_with es k v up) ∙ sym (at_with_other (without es j) k j v (λ s. ne (sym s)) ∙ at-without_same es j up))
            | inr other ↦
                at-without_other (with_entry es k v) j q other ∙ elim (cases_eq q k) [
                  | inl s ↦ rw s (at_with_same es k v ∙ sym (at_with_same (without es j) k v))
                  | inr new ↦ at_with_other es k q v new ∙ sym (at_with_other (without es j) k q v new ∙ at-without_other es j q other)
                ]
          ]
