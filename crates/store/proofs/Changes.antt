-- The toolbox of a register above a store: look-up, count and room after each change. Assumes nothing.
use Rattle.std.proofs.Common.{◌≡◌, ℕ, ◌+◌, ◌-◌, ◌<◌, ◌≤◌, true, false, cond, eqb, ltb, List, [], ◌∷◌, length, Some, None, Ok, Err, Option, Result, sym, refl, ap, ◌∙◌, inl, inr, arith, ltb-true, le-ltb, lt-ltb, eq-eqb, ne_eqb}
use Rattle.std.proofs.lemmas.Bool.{cases_Bool, cases_order, both_ways, or_right, eqb-true}
use Rattle.std.proofs.lemmas.Bool.Decides.{nat_tests}
use Rattle.key.specs.declared.refusal.Refusal.{Refusal}
use Rattle.key.specs.declared.refusal.Refusal.TheVariants.{StoreFull}
use Rattle.key.specs.Keys.{Made}
use Rattle.store.specs.Model.{keys, rises, at, holds, with_entry, without, takes, numbered, PutSays, room_answer}
use Rattle.store.proofs.Maps.{rises_tail, above-climbs, holds_miss, at_miss, at_hit, at-without_same, holds_from_none, length_with_new, without-none, above_less}

-- an emptied map has no key
pub at_cleared : (V : Type 0) (k : ℕ) → at {V = V} [] k ≡ None
unfolding at
at_cleared V k = refl

pub holds_cleared : (V : Type 0) (k : ℕ) → holds {V = V} [] k ≡ false
unfolding holds
holds_cleared V k = refl

-- which keys stand after a drop; Maps has the same of look-ups, and of a put
pub holds-without_same : {V : Type 0} (es : List (ℕ × V)) (k : ℕ) → rises (keys es) ≡ true → holds (without es k) k ≡ false
holds-without_same es k up = holds_from_none (without es k) k (at-without_same es k up)

pub holds-without_other : {V : Type 0} (es : List (ℕ × V)) (k q : ℕ) → (q ≡ k → ⊥) → holds (without es k) q ≡ holds es q
unfolding without holds
holds-without_other [] k q ne = refl
holds-without_other (e ∷ es) k q ne = let ih = holds-without_other es k q ne in grind (arith, nat_tests)

-- the count after a put: one more where the key was new
pub length_with_known : {V : Type 0} (es : List (ℕ × V)) (k : ℕ) (v : V) → rises (keys es) ≡ true → holds es k ≡ true → length (with_entry es k v) ≡ length es
unfolding with_entry holds rises
length_with_known [] k v up h = let z : ⊥ = both_ways false refl h in absurd z
length_with_known (e ∷ es) k v up h =
    elim (cases_order e.0 k) [
      | inl same ↦ rw (le-ltb e.0 k (omega arith), eq-eqb e.0 k same)
      | inr o ↦ elim o [
        | inl lt ↦
            let h' : holds es k ≡ true = rw (ne_eqb e.0 k (λ q. omega arith)) at h in
            rw (lt-ltb e.0 k lt) (omega (arith, length_with_known es k v (rises_tail e.0 (keys es) up) h'))
        | inr gt ↦
            let h' : holds es k ≡ true = rw (ne_eqb e.0 k (λ q. omega arith)) at h in
            absurd (both_ways (holds es k) (holds_miss k es (above_less k e.0 es (omega arith) (above-climbs e.0 es up))) h')
      ]
    ]

pub length_with : {V : Type 0} (es : List (ℕ × V)) (k : ℕ) (v : V) → rises (keys es) ≡ true → length (with_entry es k v) ≡ cond (holds es k) (length es) (1 + length es)
length_with es k v up =
    elim (cases_Bool (holds es k)) [
      | inl t ↦ rw t (length_with_known es k v up t)
      | inr f ↦ rw f (length_with_new es k v f)
    ]

-- the count after a drop: one less where the key stood there
pub length-without_known : {V : Type 0} (es : List (ℕ × V)) (k : ℕ) → holds es k ≡ true → 1 + length (without es k) ≡ length es
unfolding without holds
length-without_known [] k h = let z : ⊥ = both_ways false refl h in absurd z
length-without_known (e ∷ es) k h =
    elim (cases_Bool (eqb e.0 k)) [
      | inl t ↦ rw t (omega arith)
      | inr f ↦ let ih = length-without_known es k (rw f at h) in rw f (omega arith)
    ]

pub length_without : {V : Type 0} (es : List (ℕ × V)) (k : ℕ) → length (without es k) ≡ cond (holds es k) (length es - 1) (length es)
length_without es k =
    elim (cases_Bool (holds es k)) [
      | inl t ↦ rw t (omega (arith, length-without_known es k t))
      | inr f ↦ rw f (ap length (without-none es k f))
    ]

-- a put that is taken stays within the room
pub with_within : {V : Type 0} (room : ℕ) (es : List (ℕ × V)) (k : ℕ) (v : V) → rises (keys es) ≡ true → length es ≤ room → takes room es k ≡ true → length (with_entry es k v) ≤ room
with_within room es k v up l t =
    elim (cases_Bool (holds es k)) [
      | inl known ↦ omega (arith, length_with_known es k v up known)
      | inr new ↦ let space : ltb (length es) room ≡ true = rw new at t in omega (arith, length_with_new es k v new, ltb-true (length es) room space)
    ]

-- freed room is used again: after a drop any key is taken
pub freed : {V : Type 0} (room : ℕ) (es : List (ℕ × V)) (k q : ℕ) → length es ≤ room → holds es k ≡ true → takes room (without es k) q ≡ true
freed room es k q l h = or_right _ _ (lt-ltb (length (without es k)) room (omega (arith, length-without_known es k h)))

-- a put is taken or refused as `room_for` says
pub put_taken : {V : Type 0} (room : ℕ) (es : List (ℕ × V)) (k : ℕ) (v : V) (r : Result (Unit {0}) Refusal) (after : List (ℕ × V)) → takes room es k ≡ true → PutSays room es k v r after → (r ≡ Ok tt) × (after ≡ with_entry es k v)
put_taken room es k v (Ok x) after t says = (refl, says.1)
put_taken room es k v (Err e) after t says = absurd (both_ways (takes room es k) says.1 t)

pub put_refused : {V : Type 0} (room : ℕ) (es : List (ℕ × V)) (k : ℕ) (v : V) (r : Result (Unit {0}) Refusal) (after : List (ℕ × V)) → takes room es k ≡ false → PutSays room es k v r after → (r ≡ Err StoreFull) × (after ≡ es)
put_refused room es k v (Ok x) after f says = absurd (both_ways (takes room es k) f says.0)
put_refused room es k v (Err e) after f says = (ap (λ x. Err x) says.0, says.2)

pub put_answer : {V : Type 0} (room : ℕ) (es : List (ℕ × V)) (k : ℕ) (v : V) (r : Result (Unit {0}) Refusal) (after : List (ℕ × V)) → PutSays room es k v r after → r ≡ room_answer room es k
put_answer room es k v (Ok x) after says = rw says.0
put_answer room es k v (Err e) after says = rw says.1 (ap (λ x. Err x) says.0)

-- a number below the limit makes its key again
pub made_again : {K : Type 0} (f : K → ℕ) (limit n : ℕ) (r : Option K) → n < limit → Made f limit n r → numbered f r ≡ Some n
made_again f limit n (Some k) l h = ap (λ m. Some m) h.0
made_again f limit n None l h = let le : limit ≤ n = h in let no : ⊥ = omega arith in absurd no

-- two maps with the same look-ups are one map
pub same_map : {V : Type 0} (xs ys : List (ℕ × V)) → rises (keys xs) ≡ true → rises (keys ys) ≡ true → ((k : ℕ) → at xs k ≡ at ys k) → xs ≡ ys
unfolding rises at
same_map [] [] up up' h = refl
same_map [] (y ∷ ys) up up' h = let b : None ≡ Some y.1 = h y.0 ∙ at_hit y ys in let z : ◌≡◌ {A = ℕ} 0 1 = cc in let no : ⊥ = omega arith in absurd no
same_map (x ∷ xs) [] up up' h = let b : Some x.1 ≡ None = sym (at_hit x xs) ∙ h x.0 in let z : ◌≡◌ {A = ℕ} 0 1 = cc in let no : ⊥ = omega arith in absurd no
same_map (x ∷ xs) (y ∷ ys) up up' h =
    elim (cases_order x.0 y.0) [
      | inl same ↦ joined same (same_map xs ys (rises_tail x.0 (keys xs) up) (rises_tail y.0 (keys ys) up') (rest same))
      | inr o ↦ elim o [
        | inl lt ↦
            let b : Some x.1 ≡ None = sym (at_hit x xs) ∙ h x.0 ∙ at_miss x.0 (y ∷ ys) (lt, above_less x.0 y.0 ys (omega arith) (above-climbs y.0 ys up')) in
            let z : ◌≡◌ {A = ℕ} 0 1 = cc in
            let no : ⊥ = omega arith in
            absurd no
        | inr gt ↦
            let b : None ≡ Some y.1 = sym (at_miss y.0 (x ∷ xs) (gt, above_less y.0 x.0 xs (omega arith) (above-climbs x.0 xs up))) ∙ h y.0 ∙ at_hit y ys in
            let z : ◌≡◌ {A = ℕ} 0 1 = cc in
            let no : ⊥ = omega arith in
            absurd no
      ]
    ]
  where
    rest : x.0 ≡ y.0 → (k : ℕ) → at xs k ≡ at ys k
    rest same k =
        elim (cases_Bool (eqb x.0 k)) [
          | inl t ↦
              let hit : x.0 ≡ k = eqb-true x.0 k t in
              at_miss k xs (rw hit at (above-climbs x.0 xs up)) ∙ sym (at_miss k ys (rw (sym same ∙ hit) at (above-climbs y.0 ys up')))
          | inr f ↦ let there : at (x ∷ xs) k ≡ at (y ∷ ys) k = h k in rw (f, rw same at f) at there
        ]

    joined : x.0 ≡ y.0 → xs ≡ ys → x ∷ xs ≡ y ∷ ys
    joined same tails =
        let b : Some x.1 ≡ Some y.1 = sym (at_hit x xs) ∙ h x.0 ∙ ap (λ k. at (y ∷ ys) k) same ∙ at_hit y ys in
        let value : x.1 ≡ y.1 = cc in
        ap (λ k. (k, x.1) ∷ xs) same ∙ ap (λ v. (y.0, v) ∷ xs) value ∙ ap (λ zs. y ∷ zs) tails
