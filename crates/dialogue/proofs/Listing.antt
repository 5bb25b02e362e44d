-- What a changed table lists. Assumes nothing.
use Rattle.std.proofs.Common.{◌≡◌, ℕ, zero, suc, ◌<◌, ◌≤◌, true, false, not, eqb, List, [], ◌∷◌, length, get_or, set, sym, refl, ap, ◌∙◌, inl, inr, arith}
use Rattle.std.proofs.lemmas.Bool.{and_parts, cases_Bool, both_ways, not-true, eqb-true}
use Rattle.store.specs.Model.{keys, rises, holds, with_entry, without}
use Rattle.store.proofs.Maps.{rises_with, with_with, with_again, holds_with_other, holds_with_same, length_with_new}
use Rattle.event.specs.declared.answer.Kind.{Kind}
use Rattle.event.specs.declared.answer.Kind.TheVariants.{RestoreData, UpdateLocation, StandAlone}
use Rattle.dialogue.specs.declared.row.Dialogue.{Dialogue}
use Rattle.dialogue.specs.declared.row.Stage.TheVariants.{Gone}
use Rattle.dialogue.specs.Data.{no_data}
use Rattle.dialogue.specs.Dialogues.{is_gone, has_number, first_stage}
use Rattle.dialogue.specs.Listed.{listed, Numbered, kept_open}
use Rattle.dialogue.proofs.Dropped.{without_with_new, without_with_other}

abbrev pub free_row : Dialogue
free_row = record { number = 0; imsi = 0; kind = RestoreData; stage = Gone; draft = no_data }

pub listed-rises : (rs : List Dialogue) → rises (keys (listed rs)) ≡ true
unfolding listed rises
listed-rises [] = refl
listed-rises (r ∷ rs) = elim (cases_Bool (is_gone r.stage)) [ inl t ↦ rw t (listed-rises rs) | inr f ↦ rw f (rises_with (listed rs) r.number r (listed-rises rs)) ]

-- one row at the front
pub listed_gone : (r : Dialogue) (rs : List Dialogue) → is_gone r.stage ≡ true → listed (r ∷ rs) ≡ listed rs
unfolding listed
listed_gone r rs t = rw t

pub listed_live : (r : Dialogue) (rs : List Dialogue) → is_gone r.stage ≡ false → listed (r ∷ rs) ≡ with_entry (listed rs) r.number r
unfolding listed
listed_live r rs f = rw f

-- what is not listed is not listed further on
pub apart : (r : Dialogue) (rs : List Dialogue) (n : ℕ) → is_gone r.stage ≡ false → holds (listed (r ∷ rs)) n ≡ false → n ≡ r.number → ⊥
apart r rs n f h e = both_ways _ h (ap (λ es. holds es n) (listed_live r rs f) ∙ ap (λ k. holds (with_entry (listed rs) k r) n) (sym e) ∙ holds_with_same (listed rs) n r)

pub further : (r : Dialogue) (rs : List Dialogue) (n : ℕ) → holds (listed (r ∷ rs)) n ≡ false → holds (listed rs) n ≡ false
further r rs n h =
    elim (cases_Bool (is_gone r.stage)) [
      | inl t ↦ sym (ap (λ es. holds es n) (listed_gone r rs t)) ∙ h
      | inr f ↦ sym (holds_with_other (listed rs) r.number n r (apart r rs n f h)) ∙ sym (ap (λ es. holds es n) (listed_live r rs f)) ∙ h
    ]

pub not_listed : (r : Dialogue) (rs : List Dialogue) (n : ℕ) → holds (listed rs) n ≡ false → (is_gone r.stage ≡ false → n ≡ r.number → ⊥) → holds (listed (r ∷ rs)) n ≡ false
not_listed r rs n h ne =
    elim (cases_Bool (is_gone r.stage)) [
      | inl t ↦ ap (λ es. holds es n) (listed_gone r rs t) ∙ h
      | inr f ↦ ap (λ es. holds es n) (listed_live r rs f) ∙ holds_with_other (listed rs) r.number n r (ne f) ∙ h
    ]

pub above : (rs : List Dialogue) (last n : ℕ) → Numbered rs last → last < n → holds (listed rs) n ≡ false
unfolding listed holds
above [] last n h l = refl
above (r ∷ rs) last n h l = not_listed r rs n (above rs last n h.1 l) (λ f e. let low = (h.0 f).0 in omega arith)

-- how many
pub few : (rs : List Dialogue) (last : ℕ) → Numbered rs last → length (listed rs) ≤ length rs
unfolding listed
few [] last h = omega arith
few (r ∷ rs) last h =
    let ih = few rs last h.1 in
    elim (cases_Bool (is_gone r.stage)) [ inl t ↦ rw t (omega arith) | inr f ↦ rw f (omega (arith, length_with_new (listed rs) r.number r (h.0 f).1)) ]

pub fewer : (rs : List Dialogue) (last i : ℕ) → Numbered rs last → i < length rs → is_gone (get_or rs i free_row).stage ≡ true → length (listed rs) < length rs
unfolding listed
fewer [] last i h l t = absurd (omega arith)
fewer (r ∷ rs) last zero h l t = rw t (omega (arith, few rs last h.1))
fewer (r ∷ rs) last (suc i) h l t =
    let ih = fewer rs last i h.1 (omega arith) t in
    elim (cases_Bool (is_gone r.stage)) [ inl u ↦ rw u (omega arith) | inr f ↦ rw f (omega (arith, length_with_new (listed rs) r.number r (h.0 f).1)) ]

-- a row that was free is taken
pub listed-set : (rs : List Dialogue) (i : ℕ) (d : Dialogue) → i < length rs → is_gone (get_or rs i free_row).stage ≡ true → is_gone d.stage ≡ false → holds (listed rs) d.number ≡ false → listed (set rs i d) ≡ with_entry (listed rs) d.number d
listed-set [] i d l t f h = absurd (omega arith)
listed-set (r ∷ rs) zero d l t f h = listed_live d rs f ∙ ap (λ es. with_entry es d.number d) (sym (listed_gone r rs t))
listed-set (r ∷ rs) (suc i) d l t f h =
    let ih = listed-set rs i d (omega arith) t f (further r rs d.number h) in
    elim (cases_Bool (is_gone r.stage)) [
      | inl u ↦ listed_gone r (set rs i d) u ∙ ih ∙ ap (λ es. with_entry es d.number d) (sym (listed_gone r rs u))
      | inr v ↦
          listed_live r (set rs i d) v ∙ ap (λ es. with_entry es r.number r) ih ∙ with_with (listed rs) d.number r.number d r (apart r rs d.number v h) ∙ ap (λ es. with_entry es d.number d) (sym (listed_live r rs v))
    ]

numbered_more : (rs : List Dialogue) (last next : ℕ) → Numbered rs last → last ≤ next → Numbered rs next
numbered_more [] last next h l = tt
numbered_more (r ∷ rs) last next h l = (λ f. let q = h.0 f in let low = q.0 in (omega arith, q.1, q.2), numbered_more rs last next h.1 l)

pub numbered-set : (rs : List Dialogue) (last i : ℕ) (d : Dialogue) → i < length rs → is_gone (get_or rs i free_row).stage ≡ true → is_gone d.stage ≡ false → Numbered rs last → last < d.number → d.imsi < 1000000000000000 → Numbered (set rs i d) d.number
numbered-set [] last i d l t f h n m = absurd (omega arith)
numbered-set (r ∷ rs) last zero d l t f h n m = (λ _. (omega arith, above rs last d.number h.1 n, m), numbered_more rs last d.number h.1 (omega arith))
numbered-set (r ∷ rs) last (suc i) d l t f h n m = (
  λ v.
      let q = h.0 v in
      let low = q.0 in
      (omega arith, ap (λ es. holds es r.number) (listed-set rs i d (omega arith) t f (above rs last d.number h.1 n)) ∙ holds_with_other (listed rs) d.number r.number d (λ e. omega arith) ∙ q.1, q.2),
  numbered-set rs last i d (omega arith) t f h.1 n m,
)

-- an open row is changed, and keeps its number
held-there : (rs : List Dialogue) (i : ℕ) → i < length rs → is_gone (get_or rs i free_row).stage ≡ false → holds (listed rs) (get_or rs i free_row).number ≡ true
held-there [] i l f = absurd (omega arith)
held-there (r ∷ rs) zero l f = ap (λ es. holds es r.number) (listed_live r rs f) ∙ holds_with_same (listed rs) r.number r
held-there (r ∷ rs) (suc i) l f =
    elim (cases_Bool (holds (listed (r ∷ rs)) (get_or rs i free_row).number)) [
      | inl t ↦ t
      | inr u ↦ absurd (both_ways _ (further r rs (get_or rs i free_row).number u) (held-there rs i (omega arith) f))
    ]

module _ (d : Dialogue) (live : is_gone d.stage ≡ false) where
  -- the row in front has another number
  unlike : (r : Dialogue) (rs : List Dialogue) (i : ℕ) → i < length rs → is_gone (get_or rs i free_row).stage ≡ false → d.number ≡ (get_or rs i free_row).number → holds (listed rs) r.number ≡ false → d.number ≡ r.number → ⊥
  unlike r rs i l f e h same = both_ways _ h (ap (holds (listed rs)) (sym same ∙ e) ∙ held-there rs i l f)

  pub listed_change : (rs : List Dialogue) (last i : ℕ) → Numbered rs last → i < length rs → is_gone (get_or rs i free_row).stage ≡ false → d.number ≡ (get_or rs i free_row).number → listed (set rs i d) ≡ with_entry (listed rs) d.number d
  listed_change [] last i h l f e = absurd (omega arith)
  listed_change (r ∷ rs) last zero h l f e =
      listed_live d rs live ∙ sym (with_again (listed rs) d.number r d) ∙ ap (λ n. with_entry (with_entry (listed rs) n r) d.number d) e ∙ ap (λ es. with_entry es d.number d) (sym (listed_live r rs f))
  listed_change (r ∷ rs) last (suc i) h l f e =
      let ih = listed_change rs last i h.1 (omega arith) f e in
      elim (cases_Bool (is_gone r.stage)) [
        | inl t ↦ listed_gone r (set rs i d) t ∙ ih ∙ ap (λ es. with_entry es d.number d) (sym (listed_gone r rs t))
        | inr v ↦ listed_live r (set rs i d) v ∙ ap (λ es. with_entry es r.number r) ih ∙ with_with (listed rs) d.number r.number d r (unlike r rs i (omega arith) f e (h.0 v).1) ∙ ap (λ es. with_entry es d.number d) (sym (listed_live r rs v))
      ]

  pub numbered_change : (rs : List Dialogue) (last i : ℕ) → Numbered rs last → i < length rs → is_gone (get_or rs i free_row).stage ≡ false → d.number ≡ (get_or rs i free_row).number → d.imsi ≡ (get_or rs i free_row).imsi → Numbered (set rs i d) last
  numbered_change [] last i h l f e m = absurd (omega arith)
  numbered_change (r ∷ rs) last zero h l f e m = (λ _. let q = h.0 f in let low = q.0 in let on = q.2 in (omega arith, ap (holds (listed rs)) e ∙ q.1, omega arith), h.1)
  numbered_change (r ∷ rs) last (suc i) h l f e m = (
    λ v.
        let q = h.0 v in
        (q.0, ap (λ es. holds es r.number) (listed_change rs last i h.1 (omega arith) f e) ∙ holds_with_other (listed rs) d.number r.number d (λ s. unlike r rs i (omega arith) f e q.1 (sym s)) ∙ q.1, q.2),
    numbered_change rs last i h.1 (omega arith) f e m,
  )

-- a row is freed
off_stays : (rs : List Dialogue) (i n : ℕ) (d : Dialogue) → is_gone d.stage ≡ true → holds (listed rs) n ≡ false → holds (listed (set rs i d)) n ≡ false
off_stays [] i n d t h = h
off_stays (r ∷ rs) zero n d t h = ap (λ es. holds es n) (listed_gone d rs t) ∙ further r rs n h
off_stays (r ∷ rs) (suc i) n d t h = not_listed r (set rs i d) n (off_stays rs i n d t (further r rs n h)) (λ f. apart r rs n f h)

pub numbered_unset : (rs : List Dialogue) (last i : ℕ) (d : Dialogue) → is_gone d.stage ≡ true → Numbered rs last → Numbered (set rs i d) last
numbered_unset [] last i d t h = tt
numbered_unset (r ∷ rs) last zero d t h = (λ f. absurd (both_ways _ f t), h.1)
numbered_unset (r ∷ rs) last (suc i) d t h = (λ f. let q = h.0 f in (q.0, off_stays rs i r.number d t q.1, q.2), numbered_unset rs last i d t h.1)

-- a row that is of the number is open, and has it
pub is_live : (n : ℕ) (r : Dialogue) → has_number n r ≡ true → (is_gone r.stage ≡ false) × (r.number ≡ n)
is_live n r h = let p = and_parts (not (is_gone r.stage)) (eqb r.number n) h in (not-true _ p.0, eqb-true _ _ p.1)

-- a row that is open is freed
pub listed_free : (d : Dialogue) → is_gone d.stage ≡ true → (rs : List Dialogue) (last i : ℕ) → Numbered rs last → i < length rs → is_gone (get_or rs i free_row).stage ≡ false → listed (set rs i d) ≡ without (listed rs) (get_or rs i free_row).number
listed_free d t [] last i h l f = absurd (omega arith)
listed_free d t (r ∷ rs) last zero h l f = listed_gone d rs t ∙ sym (ap (λ es. without es r.number) (listed_live r rs f) ∙ without_with_new (listed rs) r.number r (listed-rises rs) (h.0 f).1)
listed_free d t (r ∷ rs) last (suc i) h l f =
    let n = (get_or rs i free_row).number in
    let ih = listed_free d t rs last i h.1 (omega arith) f in
    elim (cases_Bool (is_gone r.stage)) [
      | inl u ↦ listed_gone r (set rs i d) u ∙ ih ∙ ap (λ es. without es n) (sym (listed_gone r rs u))
      | inr v ↦
          let other : r.number ≡ n → ⊥ = λ e. both_ways _ (h.0 v).1 (ap (holds (listed rs)) e ∙ held-there rs i (omega arith) f) in
          listed_live r (set rs i d) v ∙ ap (λ es. with_entry es r.number r) ih ∙ sym (without_with_other (listed rs) r.number n r (listed-rises rs) other) ∙ ap (λ es. without es n) (sym (listed_live r rs v))
    ]

-- an open row is changed, and keeps its number and its subscriber: it may be gone then
module _ (d : Dialogue) (rs : List Dialogue) (last i : ℕ) (sound : Numbered rs last) (within : i < length rs) (live : is_gone (get_or rs i free_row).stage ≡ false) (number : d.number ≡ (get_or rs i free_row).number) where
  pub listed_put : listed (set rs i d) ≡ kept_open (listed rs) d.number d
  listed_put =
      elim (cases_Bool (is_gone d.stage)) [
        | inl t ↦ rw t (listed_free d t rs last i sound within live ∙ ap (without (listed rs)) (sym number))
        | inr f ↦ rw f (listed_change d f rs last i sound within live number)
      ]

  pub numbered_put : d.imsi ≡ (get_or rs i free_row).imsi → Numbered (set rs i d) last
  numbered_put imsi =
      elim (cases_Bool (is_gone d.stage)) [
        | inl t ↦ numbered_unset rs last i d t sound
        | inr f ↦ numbered_change d f rs last i sound within live number imsi
      ]

-- a dialogue opens as one that is not gone
pub opens_live : (kind : Kind) → is_gone (first_stage kind) ≡ false
opens_live RestoreData = refl
opens_live UpdateLocation = refl
opens_live StandAlone = refl
