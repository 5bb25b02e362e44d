-- A walk by `next` from the smallest key on visits each key once, in order, and ends. Assumes nothing.
use Rattle.std.proofs.Common.{◌≡◌, ℕ, zero, suc, ◌+◌, ◌<◌, ◌≤◌, true, ltb, List, [], ◌∷◌, ◌++◌, length, Some, None, Option, sym, refl, ap, ◌∙◌, arith, ltb-true}
use Rattle.std.proofs.lemmas.List.{append_assoc}
use Rattle.std.proofs.lemmas.Bool.{and_parts}
use Rattle.store.specs.Model.{keys, climbs, rises, first_from}
use Rattle.store.proofs.Maps.{Below, rises_tail, first_skip, first_hit, first-none}

abbrev pub onward : Option ℕ → (ℕ → List ℕ) → List ℕ
onward None rest = []
onward (Some k) rest = k ∷ rest k

-- what `next` answers one after another, from the smallest key that is at least n, for so many turns or until it answers none
unfoldable pub walked : {V : Type 0} → List (ℕ × V) → ℕ → ℕ → List ℕ
walked es zero n = []
walked es (suc turns) n = onward (first_from es n) (λ k. walked es turns (k + 1))

-- the first key is at least n
abbrev Starts : {V : Type 0} → ℕ → List (ℕ × V) → Type 0
Starts n [] = Unit {0}
Starts n (e ∷ es) = n ≤ e.0

starts_climbs : {V : Type 0} (k : ℕ) (es : List (ℕ × V)) → climbs k (keys es) ≡ true → Starts (k + 1) es
unfolding climbs
starts_climbs k [] h = tt
starts_climbs k (e ∷ es) h = let l : k < e.0 = ltb-true k e.0 (and_parts (ltb k e.0) (climbs e.0 (keys es)) h).0 in omega arith

-- what was visited is below the next one
below_next : {V : Type 0} (n : ℕ) (e : ℕ × V) (es : List (ℕ × V)) → n ≤ e.0 → Below n es → Below (e.0 + 1) (es ++ e ∷ [])
below_next n e [] l b = (omega arith, tt)
below_next n e (x ∷ es) l b = let h = b.0 in (omega arith, below_next n e es l b.1)

walks : {V : Type 0} (turns n : ℕ) (seen left : List (ℕ × V)) → Below n seen → Starts n left → rises (keys left) ≡ true → length left ≤ turns → walked (seen ++ left) turns n ≡ keys left
unfolding walked rises
walks zero n seen [] b s up l = refl
walks zero n seen (e ∷ es) b s up l = let no : ⊥ = omega arith in absurd no
walks {V = V} (suc turns) n seen [] b s up l = ap (λ o. onward o (λ k. walked (seen ++ []) turns (k + 1))) (first_skip n seen [] b ∙ first-none V n)
walks (suc turns) n seen (e ∷ es) b s up l =
    let all = seen ++ e ∷ es in
    let here : first_from all n ≡ Some e.0 = first_skip n seen (e ∷ es) b ∙ first_hit n e es s in
    let rest : walked all turns (e.0 + 1) ≡ keys es = ap (λ zs. walked zs turns (e.0 + 1)) (sym (append_assoc seen (e ∷ []) es)) ∙ walks turns (e.0 + 1) (seen ++ e ∷ []) es (below_next n e seen s b) (starts_climbs e.0 es up) (rises_tail e.0 (keys es) up) (omega arith) in
    ap (λ o. onward o (λ k. walked all turns (k + 1))) here ∙ ap (λ ks. e.0 ∷ ks) rest

starts_none : {V : Type 0} (es : List (ℕ × V)) → Starts 0 es
starts_none [] = tt
starts_none (e ∷ es) = omega arith

-- a walk of as many turns as there are keys has visited all of them, and one of more turns visits no other
pub walk_visits : {V : Type 0} (es : List (ℕ × V)) (turns : ℕ) → rises (keys es) ≡ true → length es ≤ turns → walked es turns 0 ≡ keys es
walk_visits es turns up l = walks turns 0 [] es tt (starts_none es) up l
