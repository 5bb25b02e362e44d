-- Look-up, order and count where each entry of a map is changed, or only some are left. Assumes nothing.
use Rattle.std.proofs.Common.{◌≡◌, ℕ, suc, ◌<◌, ◌≤◌, Bool, true, false, ◌||◌, eqb, ltb, List, [], ◌∷◌, length, Some, sym, refl, ap, ◌∙◌, inl, inr, arith, ltb-true}
use Rattle.std.proofs.lemmas.Option.{none-some}
use Rattle.std.proofs.lemmas.Bool.{cases_Bool, and_parts, and_from, or_parts, cond_both, eqb-true}
use Rattle.store.specs.Model.{keys, climbs, rises, at, holds, without, any, only, each}
use Rattle.store.proofs.Maps.{rises_tail, climbs_weaker, at_miss, above-climbs}
use Rattle.store.proofs.Changes.{length_without, length-without_known}

-- one entry less
pub without_shorter : {V : Type 0} (es : List (ℕ × V)) (k : ℕ) → length (without es k) ≤ length es
without_shorter es k =
    elim (cases_Bool (holds es k)) [
      | inl t ↦ omega (arith, length-without_known es k t)
      | inr f ↦ let l = length_without es k in omega (arith, rw f at l)
    ]

-- each entry changed
pub keys-each : {V : Type 0} (f : ℕ → V → V) (es : List (ℕ × V)) → keys (each f es) ≡ keys es
unfolding each
keys-each f [] = refl
keys-each f (e ∷ es) = ap (λ ks. e.0 ∷ ks) (keys-each f es)

pub length-each : {V : Type 0} (f : ℕ → V → V) (es : List (ℕ × V)) → length (each f es) ≡ length es
unfolding each
length-each f [] = refl
length-each f (e ∷ es) = ap suc (length-each f es)

pub holds-each : {V : Type 0} (f : ℕ → V → V) (es : List (ℕ × V)) (k : ℕ) → holds (each f es) k ≡ holds es k
unfolding each holds
holds-each f [] k = refl
holds-each f (e ∷ es) k = ap (λ b. eqb e.0 k || b) (holds-each f es k)

-- only some of them left
only-climbs : {V : Type 0} (p : ℕ × V → Bool) (n : ℕ) (es : List (ℕ × V)) → climbs n (keys es) ≡ true → climbs n (keys (only p es)) ≡ true
unfolding only climbs
only-climbs p n [] up = refl
only-climbs p n (e ∷ es) up =
    let q = and_parts (ltb n e.0) (climbs e.0 (keys es)) up in
    let l : n < e.0 = ltb-true n e.0 q.0 in
    cond_both (p e) (e ∷ only p es) (only p es) (λ zs. climbs n (keys zs) ≡ true) (λ t. and_from _ _ q.0 (only-climbs p e.0 es q.1)) (λ f. only-climbs p n es (climbs_weaker n e.0 (keys es) (omega arith) q.1))

pub rises-only : {V : Type 0} (p : ℕ × V → Bool) (es : List (ℕ × V)) → rises (keys es) ≡ true → rises (keys (only p es)) ≡ true
unfolding only rises
rises-only p [] up = refl
rises-only p (e ∷ es) up = cond_both (p e) (e ∷ only p es) (only p es) (λ zs. rises (keys zs) ≡ true) (λ t. only-climbs p e.0 es up) (λ f. rises-only p es (rises_tail e.0 (keys es) up))

pub length-only : {V : Type 0} (p : ℕ × V → Bool) (es : List (ℕ × V)) → length (only p es) ≤ length es
unfolding only
length-only p [] = omega arith
length-only p (e ∷ es) = let ih = length-only p es in cond_both (p e) (e ∷ only p es) (only p es) (λ zs. length zs ≤ suc (length es)) (λ t. omega arith) (λ f. omega arith)

pub at_only : {V : Type 0} (p : ℕ × V → Bool) (es : List (ℕ × V)) → rises (keys es) ≡ true → (k : ℕ) (v : V) → at (only p es) k ≡ Some v → (at es k ≡ Some v) × (p (k, v) ≡ true)
unfolding at only rises
at_only p [] up k v h = absurd (none-some v h)
at_only p (e ∷ es) up k v h =
    elim (cases_Bool (p e)) [
      | inl t ↦ left t (rw t at h) (at_only p es (rises_tail e.0 (keys es) up) k v)
      | inr f ↦ passed f (at_only p es (rises_tail e.0 (keys es) up) k v (rw f at h))
    ]
  where
    left : p e ≡ true → at (e ∷ only p es) k ≡ Some v → (at (only p es) k ≡ Some v → (at es k ≡ Some v) × (p (k, v) ≡ true)) → (at (e ∷ es) k ≡ Some v) × (p (k, v) ≡ true)
    left t h later =
        elim (cases_Bool (eqb e.0 k)) [
          | inl s ↦
              let b : Some e.1 ≡ Some v = rw s at h in
              let same : e.0 ≡ k = eqb-true e.0 k s in
              let value : e.1 ≡ v = cc in
              (rw s b, ap (λ x. p (k, x)) (sym value) ∙ ap (λ x. p (x, e.1)) (sym same) ∙ t)
          | inr u ↦ let r = later (rw u at h) in (rw u r.0, r.1)
        ]

    passed : p e ≡ false → (at es k ≡ Some v) × (p (k, v) ≡ true) → (at (e ∷ es) k ≡ Some v) × (p (k, v) ≡ true)
    passed f r =
        elim (cases_Bool (eqb e.0 k)) [
          | inl s ↦ absurd (none-some v (sym (at_miss k es (rw (eqb-true e.0 k s) at (above-climbs e.0 es up))) ∙ r.0))
          | inr u ↦ (rw u r.0, r.1)
        ]

-- where no entry is such, none that is found is
pub none_such : {V : Type 0} (p : ℕ × V → Bool) (es : List (ℕ × V)) → any p es ≡ false → (k : ℕ) (v : V) → at es k ≡ Some v → p (k, v) ≡ false
unfolding any at
none_such p [] h k v here = absurd (none-some v here)
none_such p (e ∷ es) h k v here =
    let q = or_parts (p e) (any p es) h in
    elim (cases_Bool (eqb e.0 k)) [
      | inl s ↦
          let b : Some e.1 ≡ Some v = rw s at here in
          let same : e.0 ≡ k = eqb-true e.0 k s in
          let value : e.1 ≡ v = cc in
          ap (λ x. p (k, x)) (sym value) ∙ ap (λ x. p (x, e.1)) (sym same) ∙ q.0
      | inr u ↦ none_such p es q.1 k v (rw u at here)
    ]

pub none-rises : (V : Type 0) → rises (keys {V = V} []) ≡ true
unfolding rises
none-rises V = refl
