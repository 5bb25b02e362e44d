-- A register stays sound where dialogues end, where records are cancelled or reset, and at a restart. Assumes nothing.
use Rattle.std.proofs.Common.{sym, ◌≡◌, ℕ, Bool, true, false, cond, eqb, ltb, length, Some, None, Ok, Err, Option, Result, refl, ap, ◌∙◌, arith, eq-eqb}
use Rattle.std.proofs.lemmas.Option.{none-some}
use Rattle.std.proofs.lemmas.Bool.{both_ways, not-true, or_left}
use Rattle.key.specs.declared.refusal.Refusal.{Refusal}
use Rattle.store.specs.Model.{rises, at, holds, without, only}
use Rattle.store.proofs.Maps.{rises-without}
use Rattle.store.proofs.Changes.{at_cleared, holds-without_other}
use Rattle.dialogue.specs.declared.row.Dialogue.{Dialogue}
use Rattle.dialogue.specs.declared.row.Met.{Met}
use Rattle.dialogue.specs.declared.row.Met.TheVariants as met
use Rattle.dialogue.specs.Dialogues as comes
use Rattle.dialogue.specs.Dialogues.{Comes, outcome}
use Rattle.dialogue.specs.Listed.{other_imsi, met_on}
use Rattle.restoration.specs.declared.record.Record.{Record}
use Rattle.restoration.specs.declared.updates.Outcome.{Outcome}
use Rattle.restoration.specs.State.{State}
use Rattle.restoration.specs.Sound.{Sound}
use Rattle.restoration.specs.Steps.{with_dialogues, keep, has_room, end_of, end_left, end_on, end_after, reset_one, reset_after, cancel_after, restart_after}
use Rattle.restoration.proofs.Parts.{none-rises, without_shorter, keys-each, length-each, holds-each, at_only}
use Rattle.restoration.proofs.Fewer.{fewer_sound, still_on_record, all_stay, none_stays, one_less, some_stay, meeting}
use Rattle.restoration.proofs.Opening.{keep-rises, keep-holds, keep_fits}

module _ {s : State} (sound : Sound s) where
  -- what comes for one dialogue: a send, a withdrawal, a message
  pub met_sound : (n : ℕ) (c : Comes) → Sound (with_dialogues s (met_on s.dialogues n c))
  met_sound n c =
      let t = with_dialogues s (met_on s.dialogues n c) in
      fewer_sound sound t sound.records_rise sound.fitting (meeting sound n c) refl (still_on_record sound t (meeting sound n c) (λ k h. h))

  -- there is room for the record that an end leaves, which stands
  room_for : (k : ℕ) (kept : Option Record) → holds s.records k ≡ true → has_room s k kept ≡ true
  room_for k None h = refl
  room_for k (Some v) h = or_left (holds s.records k) (ltb (length s.records) s.room) h

  left_sound : (n : ℕ) (d : Dialogue) → at s.dialogues n ≡ Some d → (kept : Option Record) → Sound (record s { records = keep s.records d.imsi kept; dialogues = without s.dialogues n })
  left_sound n d is kept =
      let t : State = record s { records = keep s.records d.imsi kept; dialogues = without s.dialogues n } in
      fewer_sound sound t (keep-rises s.records d.imsi kept sound.records_rise) (keep_fits s d.imsi kept sound (room_for d.imsi kept (sound.on_record n d is))) (one_less sound n) refl (still_on_record sound t (one_less sound n) (keep-holds s.records d.imsi kept))

  pub end_sound : (n : ℕ) (how : Outcome) → Sound (end_after s n how)
  end_sound n how = go (at s.dialogues n) refl
    where
      by : (m : Result Met Refusal) (d : Dialogue) → at s.dialogues n ≡ Some d → Sound (end_left s m n d how)
      by (Ok met.Sent) d is = sound
      by (Ok met.Withdrawn) d is = sound
      by (Ok (met.Taken ignored)) d is = sound
      by (Ok met.Rejected) d is = sound
      by (Ok met.Ended) d is = left_sound n d is (end_of s d how).kept
      by (Err e) d is = sound

      go : (o : Option Dialogue) → at s.dialogues n ≡ o → Sound (end_on s n o how)
      go None is = sound
      go (Some d) is = by (outcome d comes.end) d is

  pub reset_sound : (digits value : ℕ) → Sound (reset_after s digits value)
  reset_sound digits value =
      let t = reset_after s digits value in
      let one = reset_one digits value in
      fewer_sound sound t (ap rises (keys-each one s.records) ∙ sound.records_rise) (let l = length-each one s.records in let m = sound.fitting in omega arith) (all_stay sound) refl (still_on_record sound t (all_stay sound) (λ k h. holds-each one s.records k ∙ h))

  -- the dialogues of other subscribers are on their records still
  others_on_record : (k n : ℕ) (d : Dialogue) → at (only (other_imsi k) s.dialogues) n ≡ Some d → holds (without s.records k) d.imsi ≡ true
  others_on_record k n d h =
      let p = at_only (other_imsi k) s.dialogues sound.dialogues_rise n d h in
      holds-without_other s.records k d.imsi (λ e. both_ways (eqb d.imsi k) (not-true (eqb d.imsi k) p.1) (eq-eqb d.imsi k e)) ∙ sound.on_record n d p.0

  pub cancel_sound : (k : ℕ) → Sound (cancel_after s k)
  cancel_sound k = by (holds s.records k)
    where
      by : (b : Bool) → Sound (cond b (record s { records = without s.records k; dialogues = only (other_imsi k) s.dialogues }) s)
      by true =
          let t : State = record s { records = without s.records k; dialogues = only (other_imsi k) s.dialogues } in
          fewer_sound sound t (rises-without s.records k sound.records_rise) (let l = without_shorter s.records k in let m = sound.fitting in omega arith) (some_stay sound (other_imsi k)) refl (others_on_record k)
      by false = sound

  pub restart_sound : Sound (restart_after s)
  restart_sound = fewer_sound sound (restart_after s) (none-rises Record) (omega arith) (none_stays sound) refl (λ n d h. absurd (none-some d (sym (at_cleared Dialogue n) ∙ h)))
