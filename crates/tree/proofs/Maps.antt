-- What the map of a store keeps and holds. Assumes nothing.
use Rattle.std.proofs.Common.{◌≡◌, ℕ, ◌<◌, true, false, List, [], ◌∷◌, Some, None, refl, arith}
use Rattle.std.proofs.lemmas.Bool.Decides.{nat_tests}
use Rattle.store.specs.Model.{keys, climbs, rises, all_below, at, holds, with_entry, without, first_from}
use Rattle.tree.proofs.Entries.{Over, Sorted}

module _ {V : Type 0} where
  climbs-over : (n : ℕ) (es : List (ℕ × V)) → Over n es → Sorted es → climbs n (keys es) ≡ true
  unfolding climbs
  climbs-over n [] o s = refl
  climbs-over n (e ∷ es) o s = let ih = climbs-over e.0 es s.0 s.1 in let lt : n < e.0 = o.0 in grind (arith, nat_tests)

  pub rises_sorted : (es : List (ℕ × V)) → Sorted es → rises (keys es) ≡ true
  unfolding rises
  rises_sorted [] s = refl
  rises_sorted (e ∷ es) s = climbs-over e.0 es s.0 s.1

  pub below_with : (m k : ℕ) (v : V) (es : List (ℕ × V)) → k < m → all_below m (keys es) ≡ true → all_below m (keys (with_entry es k v)) ≡ true
  unfolding all_below with_entry
  below_with m k v [] lt h = grind (arith, nat_tests)
  below_with m k v (e ∷ es) lt h = let ih = below_with m k v es lt in grind (arith, nat_tests)

  pub below-without : (m k : ℕ) (es : List (ℕ × V)) → all_below m (keys es) ≡ true → all_below m (keys (without es k)) ≡ true
  unfolding all_below without
  below-without m k [] h = h
  below-without m k (e ∷ es) h = let ih = below-without m k es in grind (arith, nat_tests)

  pub holds-some : (k : ℕ) (v : V) (es : List (ℕ × V)) → at es k ≡ Some v → holds es k ≡ true
  unfolding holds at
  holds-some k v [] g = cc
  holds-some k v (e ∷ es) g = let ih = holds-some k v es in grind (arith, nat_tests)

  pub holds-none : (k : ℕ) (es : List (ℕ × V)) → at es k ≡ None → holds es k ≡ false
  unfolding holds at
  holds-none k [] g = refl
  holds-none k (e ∷ es) g = let ih = holds-none k es in grind (arith, nat_tests)

  pub first_below : (m n k : ℕ) (es : List (ℕ × V)) → all_below m (keys es) ≡ true → first_from es n ≡ Some k → k < m
  unfolding all_below first_from
  first_below m n k [] h f = cc
  first_below m n k (e ∷ es) h f = let ih = first_below m n k es in grind (arith, nat_tests)
