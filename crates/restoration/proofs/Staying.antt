-- A register is sound from its start on, whatever comes. Assumes nothing.
use Rattle.std.proofs.Common.{sym, ◌∙◌, ◌≡◌, ℕ, Bool, true, false, ltb, List, [], length, Some, None, Ok, Err, Option, Result, arith}
use Rattle.std.proofs.lemmas.Option.{none-some}
use Rattle.key.specs.declared.refusal.Refusal.{Refusal}
use Rattle.key.specs.Figures.{is_hlr_id}
use Rattle.store.specs.Model.{at}
use Rattle.store.proofs.Changes.{at_cleared}
use Rattle.event.specs.declared.answer.Answer.{Answer}
use Rattle.event.specs.Layout.{Event, provide_roaming_number, call_information, short_message_v2, short_message_v1, location_request, access, outgoing, registration, open_update, insert, end, reset, cancel, restart}
use Rattle.event.specs.Decoding.{Reading, decoded}
use Rattle.dialogue.specs.declared.row.Dialogue.{Dialogue}
use Rattle.dialogue.specs.Dialogues as comes
use Rattle.restoration.specs.declared.record.Record.{Record}
use Rattle.restoration.specs.State.{State, started}
use Rattle.restoration.specs.Numbers.{auth_of, outcome_of}
use Rattle.restoration.specs.Steps.{after, answered, same_unless, planned_after, provide, accessed, went_out, registered, updating, insert_after, end_after, reset_after, cancel_after, is_imsi, is_contact, is_message, handed, sent_if, sent_out}
use Rattle.restoration.specs.Received.{if_area, reading_after, received_after}
use Rattle.restoration.specs.Sound.{Sound, StaysSound}
use Rattle.restoration.proofs.Parts.{none-rises}
use Rattle.restoration.proofs.Fair.{fair_provide, fair_accessed, fair_went_out, fair_registered, fair_updating}
use Rattle.restoration.proofs.Opening.{planned_sound}
use Rattle.restoration.proofs.Leaving.{met_sound, end_sound, reset_sound, cancel_sound, restart_sound}

start_sound : (room last : ℕ) (several : Bool) → Sound (started room last several)
start_sound room last several = record {
  records_rise = none-rises Record;
  fitting = omega arith;
  dialogues_rise = none-rises Dialogue;
  few = omega arith;
  its_number = λ n d h. absurd (none n d h);
  numbered = λ n d h. absurd (none n d h);
  still_open = λ n d h. absurd (none n d h);
  on_record = λ n d h. absurd (none n d h);
  one_of_a_kind = λ m n c d g h i k. absurd (none m c g);
}
  where
    none : (n : ℕ) (d : Dialogue) → at [] n ≡ Some d → ⊥
    none n d h = none-some d (sym (at_cleared Dialogue n) ∙ h)

module _ {s : State} (sound : Sound s) where
  -- operands out of range change nothing
  in_range : (b : Bool) (t : State) → Sound t → Sound (same_unless b s t)
  in_range true t then = then
  in_range false t then = sound

  event_sound : (e : Event) → Sound (after s e)
  event_sound (provide_roaming_number k) = in_range (is_imsi k) (planned_after s k (provide s k)) (planned_sound sound k (provide s k) (fair_provide s k))
  event_sound (call_information k) = sound
  event_sound (short_message_v2 k) = sound
  event_sound (short_message_v1 k) = sound
  event_sound (location_request k) = sound
  event_sound (access k auth msc area) = let p = accessed s k (auth_of auth) msc area in in_range (is_contact k auth) (planned_after s k p) (planned_sound sound k p (fair_accessed s k (auth_of auth) msc area))
  event_sound (outgoing k auth msc) = let p = went_out s k (auth_of auth) msc in in_range (is_contact k auth) (planned_after s k p) (planned_sound sound k p (fair_went_out s k (auth_of auth) msc))
  event_sound (registration k auth msc area) = let p = registered s k (auth_of auth) msc area in in_range (is_contact k auth) (planned_after s k p) (planned_sound sound k p (fair_registered s k (auth_of auth) msc area))
  event_sound (open_update k) = in_range (is_imsi k) (planned_after s k (updating s k)) (planned_sound sound k (updating s k) (fair_updating s k))
  event_sound (insert n count groups) = in_range (is_message count groups) (insert_after s n groups) (met_sound sound n (comes.insert groups))
  event_sound (end n outcome) = in_range (ltb outcome 2) (end_after s n (outcome_of outcome)) (end_sound sound n (outcome_of outcome))
  event_sound (reset digits value) = in_range (is_hlr_id digits value) (reset_after s digits value) (reset_sound sound digits value)
  event_sound (cancel k) = in_range (is_imsi k) (cancel_after s k) (cancel_sound sound k)
  event_sound restart = restart_sound sound

  handed_sound : (o : Option ℕ) → Sound (sent_if s o)
  handed_sound None = sound
  handed_sound (Some n) = met_sound sound n comes.send

  -- the invoke that was handed out is sent at once
  sent_sound : (r : Result Answer Refusal) → Sound (sent_out r s)
  sent_sound (Ok a) = handed_sound (handed a.opened)
  sent_sound (Err x) = sound

module _ {s : State} (sound : Sound s) where
  reading_sound : (r : Reading) → Sound (reading_after s r)
  reading_sound (Ok (e, n)) = sent_sound (event_sound sound e) (answered s e)
  reading_sound (Err x) = sound

  bytes_sound : (input area : List ℕ) → Sound (received_after s input area)
  bytes_sound input area = by (ltb (length area) 16)
    where
      by : (b : Bool) → Sound (if_area b s (reading_after s (decoded input)))
      by true = sound
      by false = reading_sound (decoded input)

pub stays_sound_lem : StaysSound
stays_sound_lem = record {
  at_start = start_sound;
  after_event = λ s sound e. event_sound sound e;
  after_spending = λ s sound n c. met_sound sound n c;
  after_bytes = λ s sound input area. bytes_sound sound input area;
}
