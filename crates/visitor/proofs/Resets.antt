-- One turn of a reset. Assumes nothing.
use Rattle.std.proofs.Common.{◌≡◌, ℕ, ◌+◌, ◌-◌, ◌<◌, true, false, cond, List, length, Some, None, Option, IsSome, sym, refl, ap, ◌∙◌, arith}
use Rattle.store.specs.Model.{keys, rises, at, with_entry, first_from, up_to, tally}
use Rattle.store.proofs.Walk.{first-least, first-at, walk_less, up_to_short, up_to_longer}
use Rattle.store.proofs.Each.{each_to, first-each_to, at-each_to, each_to_more, each_to_pass, tally_more, tally_short}
use Rattle.restoration.specs.declared.record.Record.{Record}
use Rattle.key.specs.Figures.{begins}
use Rattle.restoration.specs.declared.record.Indicator.TheVariants.{NotConfirmed}
use Rattle.restoration.specs.Records.{relocated}
use Rattle.restoration.specs.Steps.{concerns, reset_one}

is_there : {A : Type 0} (o : Option A) → (o ≡ None → ⊥) → IsSome o
is_there None h = absurd (h refl)
is_there (Some v) h = refl

module _ (digits value n k : ℕ) (es now : List (ℕ × Record)) (up : rises (keys es) ≡ true) (inv : now ≡ each_to (reset_one digits value) n es) (next : Some k ≡ first_from now n) where
  first : first_from es n ≡ Some k
  first = sym (first-each_to (reset_one digits value) n es) ∙ ap (λ zs. first_from zs n) (sym inv) ∙ sym next

  here : at now k ≡ at es k
  here = ap (λ zs. at zs k) inv ∙ at-each_to (reset_one digits value) n k es (first-least n k es first)

  pub found : IsSome (at now k)
  found = is_there (at now k) (λ h. first-at n k es first (sym here ∙ h))

  pub turn_sets : (v : Record) → at now k ≡ Some v → begins k digits value ≡ true → with_entry now k (relocated NotConfirmed v) ≡ each_to (reset_one digits value) (k + 1) es
  turn_sets v h t =
      let e : relocated NotConfirmed v ≡ reset_one digits value k v = rw t in
      ap (λ zs. with_entry zs k (relocated NotConfirmed v)) inv ∙ ap (with_entry (each_to (reset_one digits value) n es) k) e ∙ each_to_more (reset_one digits value) n k v es up first (sym here ∙ h)

  pub turn_passes : begins k digits value ≡ false → now ≡ each_to (reset_one digits value) (k + 1) es
  turn_passes f = inv ∙ each_to_pass (reset_one digits value) n k es up first (λ v. rw f)

  pub turn_falls : length es - length (up_to (k + 1) es) < length es - length (up_to n es)
  turn_falls = walk_less n k es first

  pub turn_counts : tally (concerns digits value) (up_to (k + 1) es) ≡ cond (begins k digits value) (1 + tally (concerns digits value) (up_to n es)) (tally (concerns digits value) (up_to n es))
  turn_counts = tally_more (λ k. begins k digits value) n k es up first

  pub turn_low : tally (concerns digits value) (up_to n es) < length es
  turn_low = omega (arith, tally_short (concerns digits value) (up_to n es), up_to_longer n k es first, up_to_short (k + 1) es)
