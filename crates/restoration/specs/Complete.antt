-- When a record has groups A and B: from its first good end on. Assumes nothing.
use Rattle.std.specs.Prelude.{◌≡◌, ℕ, Bool, true, false, ◌&&◌, ◌||◌, List, length, Some, None, Ok, Err, Option, Result, ◌==◌, nat_lt}
use Rattle.key.specs.declared.refusal.Refusal.{Refusal}
use Rattle.store.specs.Model.{at, holds}
use Rattle.event.specs.declared.answer.Answer.{Answer}
use Rattle.event.specs.declared.answer.Reply.{Reply}
use Rattle.event.specs.declared.answer.Reply.TheVariants.{Done, UnidentifiedSubscriber, IllegalSubscriber, SystemFailure, DataMissing, UnexpectedDataValue}
use Rattle.event.specs.Layout.{Event, provide_roaming_number, call_information, short_message_v2, short_message_v1, location_request, access, outgoing, registration, open_update, insert, end, reset, cancel, restart}
use Rattle.event.specs.Decoding.{Reading, decoded}
use Rattle.dialogue.specs.declared.row.Dialogue.{Dialogue}
use Rattle.dialogue.specs.Dialogues.{Comes}
use Rattle.dialogue.specs.Data.{no_data, is_complete}
use Rattle.restoration.specs.declared.record.Record.{Record}
use Rattle.restoration.specs.Plans.{record_data}
use Rattle.restoration.specs.State.{State}
use Rattle.restoration.specs.Steps.{answered, after, found, spending_after}
use Rattle.restoration.specs.Received.{if_area, received_after}
use Rattle.restoration.specs.Sound.{Sound}

-- a record has groups A and B; where there is none, there are none
abbrev pub has_both : Option Record → Bool
has_both old = is_complete (record_data old)

abbrev pub is_done : Reply → Bool
is_done Done = true
is_done UnidentifiedSubscriber = false
is_done IllegalSubscriber = false
is_done SystemFailure = false
is_done DataMissing = false
is_done UnexpectedDataValue = false

-- the answer is a reply of 0
abbrev pub says_done : Result Answer Refusal → Bool
says_done (Ok a) = is_done a.reply
says_done (Err x) = false

-- a dialogue is open, and is the subscriber's
abbrev pub is_for : ℕ → Option Dialogue → Bool
is_for k None = false
is_for k (Some d) = d.imsi == k

-- the event is an End with reply 0 of a dialogue that is open for the subscriber
abbrev pub good_end : State → Event → ℕ → Bool
good_end s (provide_roaming_number q) k = false
good_end s (call_information q) k = false
good_end s (short_message_v2 q) k = false
good_end s (short_message_v1 q) k = false
good_end s (location_request q) k = false
good_end s (access q auth msc area) k = false
good_end s (outgoing q auth msc) k = false
good_end s (registration q auth msc area) k = false
good_end s (open_update q) k = false
good_end s (insert n count groups) k = false
good_end s (end n outcome) k = is_for k (at s.dialogues n) && says_done (answered s (end n outcome))
good_end s (reset digits value) k = false
good_end s (cancel q) k = false
good_end s restart k = false

-- the records after the event that bytes are read as, if they are one
abbrev pub records_read : State → Reading → List (ℕ × Record)
records_read s (Ok (e, n)) = (after s e).records
records_read s (Err x) = s.records

pub record DataLaw : Type 0 where
  -- a record has A and B after an event exactly when this was a good end for it, or it had them before
  pub by_event : (s : State) → Sound s → (e : Event) (k : ℕ) → holds (after s e).records k ≡ true → has_both (found (after s e) k) ≡ (good_end s e k || has_both (found s k))
  -- what is no good end leaves all its groups as they were
  pub otherwise : (s : State) → Sound s → (e : Event) (k : ℕ) → holds (after s e).records k ≡ true → good_end s e k ≡ false → record_data (found (after s e) k) ≡ record_data (found s k)
  -- where there was no record it was no good end, and a record that the event made has no group
  pub when_made : (s : State) → Sound s → (e : Event) (k : ℕ) → holds s.records k ≡ false → (good_end s e k ≡ false) × (record_data (found (after s e) k) ≡ no_data)
  -- spending an invoke changes no record
  pub by_spending : (s : State) (n : ℕ) (c : Comes) → (spending_after s n c).records ≡ s.records
  -- in bytes an event does to the records what it does directly
  pub by_bytes : (s : State) (input area : List ℕ) → (received_after s input area).records ≡ if_area (nat_lt (length area) 16) s.records (records_read s (decoded input))
