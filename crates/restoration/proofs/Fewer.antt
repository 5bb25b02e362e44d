-- A register stays sound where no dialogue is opened: each that is open then was open before. Assumes nothing.
use Rattle.std.proofs.Common.{◌≡◌, ℕ, ◌≤◌, Bool, true, false, cond, [], length, Some, None, Ok, Err, Option, Result, sym, refl, ap, ◌∙◌, inl, inr, arith}
use Rattle.std.proofs.lemmas.Option.{none-some, same_Some}
use Rattle.std.proofs.lemmas.Bool.{cases_eq}
use Rattle.key.specs.declared.refusal.Refusal.{Refusal}
use Rattle.store.specs.Model.{keys, rises, at, holds, with_entry, without, only}
use Rattle.store.proofs.Maps.{rises_with, rises-without, at_with_same, at_with_other, at-without_same, at-without_other, holds_from_some}
use Rattle.store.proofs.Changes.{length_with_known}
use Rattle.dialogue.specs.declared.row.Dialogue.{Dialogue}
use Rattle.dialogue.specs.declared.row.Met.{Met}
use Rattle.dialogue.specs.Dialogues.{Comes, is_gone, outcome, dialogue_after}
use Rattle.dialogue.specs.Listed.{Open, unless_refused, kept_open, met_by, met_on}
use Rattle.restoration.specs.State.{State}
use Rattle.restoration.specs.Sound.{Sound}
use Rattle.restoration.proofs.Parts.{without_shorter, rises-only, length-only, at_only, none-rises}

-- d is still the dialogue c
pub record Still (c d : Dialogue) : Type 0 where
  pub number : d.number ≡ c.number
  pub imsi : d.imsi ≡ c.imsi
  pub kind : d.kind ≡ c.kind
  pub here : is_gone d.stage ≡ false

pub record Fewer (before now : Open) : Type 0 where
  pub rise : rises (keys now) ≡ true
  pub short : length now ≤ length before
  pub was : (n : ℕ) (d : Dialogue) → at now n ≡ Some d → (c : Dialogue) × (at before n ≡ Some c) × Still c d

pub fewer_sound : {s : State} → Sound s → (t : State) → rises (keys t.records) ≡ true → length t.records ≤ t.room → Fewer s.dialogues t.dialogues → t.last ≡ s.last → ((n : ℕ) (d : Dialogue) → at t.dialogues n ≡ Some d → holds t.records d.imsi ≡ true) → Sound t
fewer_sound {s} sound t rise fit fewer last on = record {
  records_rise = rise;
  fitting = fit;
  dialogues_rise = fewer.rise;
  few = let a = fewer.short in let b = sound.few in omega arith;
  its_number = λ n d h. let w = fewer.was n d h in w.2.number ∙ sound.its_number n w.0 w.1;
  numbered = λ n d h. let w = fewer.was n d h in let l = sound.numbered n w.0 w.1 in omega arith;
  still_open = λ n d h. (fewer.was n d h).2.here;
  on_record = on;
  one_of_a_kind = λ m n c d g h i k. let v = fewer.was m c g in let w = fewer.was n d h in sound.one_of_a_kind m n v.0 w.0 v.1 w.1 (sym v.2.imsi ∙ i ∙ w.2.imsi) (sym v.2.kind ∙ k ∙ w.2.kind);
}

-- the records that dialogues are on stay where they stood
pub still_on_record : {s : State} → Sound s → (t : State) → Fewer s.dialogues t.dialogues → ((k : ℕ) → holds s.records k ≡ true → holds t.records k ≡ true) → (n : ℕ) (d : Dialogue) → at t.dialogues n ≡ Some d → holds t.records d.imsi ≡ true
still_on_record sound t fewer stay n d h = let w = fewer.was n d h in stay d.imsi (ap (holds _) w.2.imsi ∙ sound.on_record n w.0 w.1)

module _ {s : State} (sound : Sound s) where
  same : (n : ℕ) (d : Dialogue) → at s.dialogues n ≡ Some d → Still d d
  same n d h = record { number = refl; imsi = refl; kind = refl; here = sound.still_open n d h }

  pub all_stay : Fewer s.dialogues s.dialogues
  all_stay = record { rise = sound.dialogues_rise; short = omega arith; was = λ n d h. (d, h, same n d h) }

  pub none_stays : Fewer s.dialogues []
  unfolding at
  none_stays = record { rise = none-rises Dialogue; short = omega arith; was = λ n d h. absurd (none-some d h) }

  pub one_less : (n : ℕ) → Fewer s.dialogues (without s.dialogues n)
  one_less n = record { rise = rises-without s.dialogues n sound.dialogues_rise; short = without_shorter s.dialogues n; was = before }
    where
      before : (m : ℕ) (d : Dialogue) → at (without s.dialogues n) m ≡ Some d → (c : Dialogue) × (at s.dialogues m ≡ Some c) × Still c d
      before m d h =
          elim (cases_eq m n) [
            | inl e ↦ absurd (none-some d (sym (ap (at (without s.dialogues n)) e ∙ at-without_same s.dialogues n sound.dialogues_rise) ∙ h))
            | inr ne ↦ let g = sym (at-without_other s.dialogues n m ne) ∙ h in (d, g, same m d g)
          ]

  pub some_stay : (p : ℕ × Dialogue → Bool) → Fewer s.dialogues (only p s.dialogues)
  some_stay p = record { rise = rises-only p s.dialogues sound.dialogues_rise; short = length-only p s.dialogues; was = λ n d h. let g = (at_only p s.dialogues sound.dialogues_rise n d h).0 in (d, g, same n d g) }

  one_changed : (n : ℕ) (c d : Dialogue) → at s.dialogues n ≡ Some c → Still c d → Fewer s.dialogues (with_entry s.dialogues n d)
  one_changed n c d is still = record { rise = rises_with s.dialogues n d sound.dialogues_rise; short = omega (arith, length_with_known s.dialogues n d sound.dialogues_rise (holds_from_some s.dialogues n c is)); was = before }
    where
      before : (m : ℕ) (x : Dialogue) → at (with_entry s.dialogues n d) m ≡ Some x → (c : Dialogue) × (at s.dialogues m ≡ Some c) × Still c x
      before m x h =
          elim (cases_eq m n) [
            | inl e ↦
                let is_x : d ≡ x = same_Some d x (sym (at_with_same s.dialogues n d) ∙ ap (at (with_entry s.dialogues n d)) (sym e) ∙ h) in
                (c, ap (at s.dialogues) e ∙ is, rw is_x at still)
            | inr ne ↦ let g = sym (at_with_other s.dialogues n m d ne) ∙ h in (x, g, same m x g)
          ]

  kept : (n : ℕ) (d : Dialogue) (c : Comes) → at s.dialogues n ≡ Some d → Fewer s.dialogues (kept_open s.dialogues n (dialogue_after d c))
  kept n d c is = by (is_gone (dialogue_after d c).stage) refl
    where
      by : (b : Bool) → is_gone (dialogue_after d c).stage ≡ b → Fewer s.dialogues (cond b (without s.dialogues n) (with_entry s.dialogues n (dialogue_after d c)))
      by true e = one_less n
      by false e = one_changed n d (dialogue_after d c) is (record { number = refl; imsi = refl; kind = refl; here = e })

  unless : (m : Result Met Refusal) (now : Open) → Fewer s.dialogues now → Fewer s.dialogues (unless_refused m s.dialogues now)
  unless (Ok m) now f = f
  unless (Err e) now f = all_stay

  -- what comes for the dialogue of a number
  pub meeting : (n : ℕ) (c : Comes) → Fewer s.dialogues (met_on s.dialogues n c)
  meeting n c = go (at s.dialogues n) refl
    where
      go : (o : Option Dialogue) → at s.dialogues n ≡ o → Fewer s.dialogues (met_by s.dialogues n o c)
      go None h = all_stay
      go (Some d) h = unless (outcome d c) (kept_open s.dialogues n (dialogue_after d c)) (kept n d c h)
