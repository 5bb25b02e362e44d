-- The rows with those of a subscriber freed, as far as the program has come. Assumes nothing.
use Rattle.std.proofs.Common.{◌≡◌, ℕ, zero, suc, ◌+◌, ◌<◌, ◌≤◌, Bool, true, false, cond, not, List, [], ◌∷◌, length, get_or, set, sym, refl, ap, ◌∙◌, inl, inr, add-one, arith}
use Rattle.std.proofs.lemmas.Bool.{cases_Bool, both_ways}
use Rattle.store.specs.Model.{holds, with_entry, only}
use Rattle.store.proofs.Maps.{only_with}
use Rattle.dialogue.specs.declared.row.Stage.TheVariants.{Gone}
use Rattle.dialogue.specs.declared.row.Dialogue.{Dialogue}
use Rattle.dialogue.specs.Dialogues.{is_gone}
use Rattle.dialogue.specs.Listed.{listed, Numbered}
use Rattle.dialogue.proofs.Listing.{free_row, listed-rises, listed_gone, apart, further, not_listed}

-- a row is freed
abbrev pub freed : Dialogue → Dialogue
freed r = record r { stage = Gone }

-- the first i rows, freed where they are such
module _ (p : Dialogue → Bool) where
  abbrev pub shut : Dialogue → Dialogue
  shut r = cond (p r) (freed r) r

  unfoldable pub swept : ℕ → List Dialogue → List Dialogue
  swept zero rs = rs
  swept (suc i) [] = []
  swept (suc i) (r ∷ rs) = shut r ∷ swept i rs

  pub length-swept : (i : ℕ) (rs : List Dialogue) → length (swept i rs) ≡ length rs
  unfolding swept
  length-swept zero rs = refl
  length-swept (suc i) [] = refl
  length-swept (suc i) (r ∷ rs) = ap suc (length-swept i rs)

  pub at-swept : (i : ℕ) (rs : List Dialogue) → get_or (swept i rs) i free_row ≡ get_or rs i free_row
  unfolding swept
  at-swept zero rs = refl
  at-swept (suc i) [] = refl
  at-swept (suc i) (r ∷ rs) = at-swept i rs

  pub set-swept : (i : ℕ) (rs : List Dialogue) → i < length rs → set (swept i rs) i (shut (get_or rs i free_row)) ≡ swept (i + 1) rs
  unfolding swept
  set-swept i [] l = absurd (omega arith)
  set-swept zero (r ∷ rs) l = refl
  set-swept (suc i) (r ∷ rs) l = rw add-one (ap (λ xs. shut r ∷ xs) (rw add-one at (set-swept i rs (omega arith))))

  pub keep-swept : (i : ℕ) (rs : List Dialogue) → i < length rs → p (get_or rs i free_row) ≡ false → swept i rs ≡ swept (i + 1) rs
  unfolding swept
  keep-swept i [] l f = absurd (omega arith)
  keep-swept zero (r ∷ rs) l f = rw f
  keep-swept (suc i) (r ∷ rs) l f = rw add-one (ap (λ xs. shut r ∷ xs) (rw add-one at (keep-swept i rs (omega arith) f)))

  pub listed-swept : (i : ℕ) (rs : List Dialogue) (last : ℕ) → length rs ≤ i → Numbered rs last → listed (swept i rs) ≡ only (λ e. not (p e.1)) (listed rs)
  unfolding swept listed only
  listed-swept zero [] last l h = refl
  listed-swept zero (r ∷ rs) last l h = absurd (omega arith)
  listed-swept (suc i) [] last l h = refl
  listed-swept (suc i) (r ∷ rs) last l h =
      let ih = listed-swept i rs last (omega arith) h.1 in
      elim (cases_Bool (is_gone r.stage)) [
        | inl t ↦ elim (cases_Bool (p r)) [ inl u ↦ rw (t, u) ih | inr v ↦ rw (v, t) ih ]
        | inr f ↦
            let kept = only_with (λ e. not (p e.1)) (listed rs) r.number r (listed-rises rs) (h.0 f).1 in
            elim (cases_Bool (p r)) [ inl u ↦ rw f (rw u (ih ∙ sym (kept ∙ rw u))) | inr v ↦ rw (v, f) (ap (λ es. with_entry es r.number r) ih ∙ sym (kept ∙ rw v)) ]
      ]

  stays_off : (i : ℕ) (rs : List Dialogue) (n : ℕ) → holds (listed rs) n ≡ false → holds (listed (swept i rs)) n ≡ false
  unfolding swept
  stays_off zero rs n h = h
  stays_off (suc i) [] n h = h
  stays_off (suc i) (r ∷ rs) n h =
      let more = stays_off i rs n (further r rs n h) in
      elim (cases_Bool (p r)) [
        | inl t ↦ rw t (ap (λ es. holds es n) (listed_gone (freed r) (swept i rs) refl) ∙ more)
        | inr f ↦ rw f (not_listed r (swept i rs) n more (λ live. apart r rs n live h))
      ]

  pub numbered-swept : (i : ℕ) (rs : List Dialogue) (last : ℕ) → Numbered rs last → Numbered (swept i rs) last
  unfolding swept
  numbered-swept zero rs last h = h
  numbered-swept (suc i) [] last h = tt
  numbered-swept (suc i) (r ∷ rs) last h =
      let more = numbered-swept i rs last h.1 in
      elim (cases_Bool (p r)) [
        | inl t ↦ rw t (λ live. absurd (both_ways true live refl), more)
        | inr f ↦ rw f (λ live. let q = h.0 live in (q.0, stays_off i rs r.number q.1, q.2), more)
      ]

  module _ (i : ℕ) (rs now : List Dialogue) (inv : now ≡ swept i rs) (within : i < length rs) where
    read : get_or now i free_row ≡ get_or rs i free_row
    read = ap (λ xs. get_or xs i free_row) inv ∙ at-swept i rs

    pub turn_frees : p (get_or now i free_row) ≡ true → set now i (freed (get_or now i free_row)) ≡ swept (i + 1) rs
    turn_frees t =
        let u : p (get_or rs i free_row) ≡ true = ap p (sym read) ∙ t in
        let e : shut (get_or rs i free_row) ≡ freed (get_or rs i free_row) = rw u in
        ap (λ xs. set xs i (freed (get_or now i free_row))) inv ∙ ap (λ r. set (swept i rs) i (freed r)) read ∙ ap (set (swept i rs) i) (sym e) ∙ set-swept i rs within

    pub turn_keeps : p (get_or now i free_row) ≡ false → now ≡ swept (i + 1) rs
    turn_keeps f = inv ∙ keep-swept i rs within (ap p (sym read) ∙ f)
