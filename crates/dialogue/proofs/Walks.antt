-- What a walk over the rows finds among the open dialogues. Assumes nothing.
use Rattle.std.proofs.Common.{◌≡◌, ℕ, zero, suc, ◌<◌, true, false, cond, ◌||◌, ltb, leb, min, List, [], ◌∷◌, length, get_or, map, Some, None, Option, sym, refl, ap, ◌∙◌, inl, inr, arith, eq-eqb, ne_eqb}
use Rattle.std.specs.List.{fold, reduce, find, list_any, filter, AllWithin}
use Rattle.std.proofs.lemmas.Bool.Decides.{nat_tests}
use Rattle.std.proofs.lemmas.Bool.{cases_Bool, cases_eq}
use Rattle.store.specs.Model.{at, holds, with_entry, any, first_from}
use Rattle.store.proofs.Maps.{any_with, at_with_same, at_with_other, length_with_new}
use Rattle.event.specs.declared.answer.Kind.{Kind}
use Rattle.dialogue.specs.declared.row.Dialogue.{Dialogue}
use Rattle.dialogue.specs.Dialogues.{is_gone, has_number, is_on, is_from}
use Rattle.dialogue.specs.Listed.{listed, Numbered, on, OnImsi}
use Rattle.dialogue.proofs.Listing.{listed_gone, listed_live, is_live}

pub find_more : (r : Dialogue) (rs : List Dialogue) (n : ℕ) → at (listed (r ∷ rs)) n ≡ cond (has_number n r) (Some r) (at (listed rs) n)
find_more r rs n =
    elim (cases_Bool (is_gone r.stage)) [
      | inl t ↦ rw t (ap (λ es. at es n) (listed_gone r rs t))
      | inr f ↦ rw f (ap (λ es. at es n) (listed_live r rs f) ∙ elim (cases_eq n r.number) [
        | inl e ↦ rw (eq-eqb r.number n (sym e)) (ap (λ k. at (with_entry (listed rs) k r) n) (sym e) ∙ at_with_same (listed rs) n r)
        | inr ne ↦ rw (ne_eqb r.number n (λ e. ne (sym e))) (at_with_other (listed rs) r.number n r ne)
      ])
    ]

pub has_more : (imsi : ℕ) (kind : Kind) (r : Dialogue) (rs : List Dialogue) → (is_gone r.stage ≡ false → holds (listed rs) r.number ≡ false) → any (on imsi kind) (listed (r ∷ rs)) ≡ (is_on imsi kind r || any (on imsi kind) (listed rs))
has_more imsi kind r rs new =
    elim (cases_Bool (is_gone r.stage)) [
      | inl t ↦ rw t (ap (any (on imsi kind)) (listed_gone r rs t))
      | inr f ↦ rw f (ap (any (on imsi kind)) (listed_live r rs f) ∙ any_with (on imsi kind) (listed rs) r.number r (new f))
    ]

-- the lesser of a number and the least of others
abbrev least : ℕ → Option ℕ → Option ℕ
least k None = Some k
least k (Some j) = Some (min k j)

-- the first open number from n on, of a row and of others whose first is known
abbrev nearer : ℕ → Dialogue → Option ℕ → Option ℕ
nearer n d first = cond (is_from n d) (least d.number first) first

passed : (k n : ℕ) (first : Option ℕ) → cond (ltb k n) first (least k first) ≡ cond (leb n k) (least k first) first
passed k n first = grind (arith, nat_tests)

first_with : (es : List (ℕ × Dialogue)) (k n : ℕ) (d : Dialogue) → first_from (with_entry es k d) n ≡ cond (ltb k n) (first_from es n) (least k (first_from es n))
unfolding first_from with_entry
first_with [] k n d = grind (arith, nat_tests)
first_with (e ∷ es) k n d = let ih = first_with es k n d in grind (arith, nat_tests)

pub first_more : (r : Dialogue) (rs : List Dialogue) (n : ℕ) → first_from (listed (r ∷ rs)) n ≡ nearer n r (first_from (listed rs) n)
first_more r rs n =
    elim (cases_Bool (is_gone r.stage)) [
      | inl t ↦ rw t (ap (λ es. first_from es n) (listed_gone r rs t))
      | inr f ↦ rw f (ap (λ es. first_from es n) (listed_live r rs f) ∙ first_with (listed rs) r.number n r ∙ passed r.number n (first_from (listed rs) n))
    ]

pub find_of : (rs : List Dialogue) (n : ℕ) → at (listed rs) n ≡ find (has_number n) rs
unfolding listed at
find_of [] n = refl
find_of (r ∷ rs) n = find_more r rs n ∙ ap (cond (has_number n r) (Some r)) (find_of rs n)

pub any_of : (rs : List Dialogue) (last imsi : ℕ) (kind : Kind) → Numbered rs last → any (on imsi kind) (listed rs) ≡ list_any (is_on imsi kind) rs
unfolding listed any
any_of [] last imsi kind h = refl
any_of (r ∷ rs) last imsi kind h = has_more imsi kind r rs (λ f. (h.0 f).1) ∙ ap (λ b. is_on imsi kind r || b) (any_of rs last imsi kind h.1)

fold-min : (k j : ℕ) (js : List ℕ) → fold min (min k j) js ≡ min k (fold min j js)
fold-min k j [] = refl
fold-min k j (i ∷ js) = let e : min (min k j) i ≡ min k (min j i) = omega arith in ap (λ m. fold min m js) e ∙ fold-min k (min j i) js

least-reduce : (k : ℕ) (js : List ℕ) → least k (reduce min js) ≡ reduce min (k ∷ js)
least-reduce k [] = refl
least-reduce k (j ∷ js) = ap Some (sym (fold-min k j js))

pub first_of : (rs : List Dialogue) (n : ℕ) → first_from (listed rs) n ≡ reduce min (map (λ d. d.number) (filter (is_from n) rs))
unfolding listed first_from
first_of [] n = refl
first_of (r ∷ rs) n =
    first_more r rs n ∙ ap (nearer n r) (first_of rs n) ∙ elim (cases_Bool (is_from n r)) [
      | inl t ↦ rw t (least-reduce r.number (map (λ d. d.number) (filter (is_from n) rs)))
      | inr f ↦ rw f
    ]

-- by a place
abbrev pub Unlike : ℕ → Dialogue → Type 0
Unlike n r = has_number n r ≡ false

pub none_at : (rs : List Dialogue) (n : ℕ) → AllWithin (Unlike n) rs 0 (length rs) → at (listed rs) n ≡ None
unfolding listed at
none_at [] n apart = refl
none_at (r ∷ rs) n apart =
    find_more r rs n ∙ rw (apart 0 r (omega arith) (omega arith)) (none_at rs n (λ k d a b. apart (suc k) d (omega arith) (omega arith)))

pub found_at : (rs : List Dialogue) (n i : ℕ) (d : Dialogue) → i < length rs → AllWithin (Unlike n) rs 0 i → has_number n (get_or rs i d) ≡ true → at (listed rs) n ≡ Some (get_or rs i d)
found_at [] n i d l apart h = absurd (omega arith)
found_at (r ∷ rs) n zero d l apart h = find_more r rs n ∙ rw h
found_at (r ∷ rs) n (suc i) d l apart h =
    find_more r rs n ∙ rw (apart 0 r (omega arith) (omega arith)) (found_at rs n i d (omega arith) (λ k e a b. apart (suc k) e (omega arith) (omega arith)) h)

-- no row is free
pub full : (rs : List Dialogue) (last : ℕ) → Numbered rs last → AllWithin (λ r. is_gone r.stage ≡ false) rs 0 (length rs) → length (listed rs) ≡ length rs
unfolding listed
full [] last h apart = refl
full (r ∷ rs) last h apart =
    let live = apart 0 r (omega arith) (omega arith) in
    let more = full rs last h.1 (λ k d a b. apart (suc k) d (omega arith) (omega arith)) in
    rw live (omega (arith, length_with_new (listed rs) r.number r (h.0 live).1, more))

-- what is found is on an IMSI
pub low_find : (rs : List Dialogue) (last n : ℕ) → Numbered rs last → OnImsi (find (has_number n) rs)
low_find [] last n h = tt
low_find (r ∷ rs) last n h =
    elim (cases_Bool (has_number n r)) [
      | inl t ↦ rw t (h.0 (is_live n r t).0).2
      | inr f ↦ rw f (low_find rs last n h.1)
    ]
