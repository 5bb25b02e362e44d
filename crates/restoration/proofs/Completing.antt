-- A record has groups A and B exactly from its first good end on, step by step. Assumes nothing.
use Rattle.std.proofs.Common.{◌≡◌, ℕ, Bool, true, false, ◌||◌, eqb, ltb, [], length, Some, None, Ok, Err, Option, Result, sym, refl, ap, ◌∙◌, inl, inr}
use Rattle.std.proofs.lemmas.Bool.{cases_Bool, both_ways, and_left, eqb-true}
use Rattle.key.specs.declared.refusal.Refusal.{Refusal}
use Rattle.key.specs.Figures.{is_hlr_id}
use Rattle.store.specs.Model.{at, holds}
use Rattle.store.proofs.Maps.{none_from_holds}
use Rattle.store.proofs.Changes.{holds_cleared}
use Rattle.event.specs.declared.answer.Answer.{Answer}
use Rattle.event.specs.Layout.{Event, provide_roaming_number, call_information, short_message_v2, short_message_v1, location_request, access, outgoing, registration, open_update, insert, end, reset, cancel, restart}
use Rattle.event.specs.Decoding.{Reading, decoded}
use Rattle.dialogue.specs.declared.data.SubscriberData.{SubscriberData}
use Rattle.dialogue.specs.declared.row.Dialogue.{Dialogue}
use Rattle.dialogue.specs.Data.{no_data, is_complete}
use Rattle.restoration.specs.declared.record.Record.{Record}
use Rattle.restoration.specs.declared.plan.Plan.{Plan}
use Rattle.restoration.specs.Plans.{record_data}
use Rattle.restoration.specs.State.{State}
use Rattle.restoration.specs.Numbers.{auth_of, outcome_of}
use Rattle.restoration.specs.Steps.{after, answered, found, busy, same_unless, planned_after, provide, accessed, went_out, registered, updating, insert_after, reset_after, cancel_after, is_imsi, is_contact, is_message, handed, sent_if, sent_out}
use Rattle.restoration.specs.Received.{if_area, reading_after}
use Rattle.restoration.specs.Sound.{Sound}
use Rattle.restoration.specs.Complete.{is_for, says_done, good_end, records_read, DataLaw}
use Rattle.event.specs.declared.answer.Kind.TheVariants.{RestoreData, UpdateLocation, StandAlone}
use Rattle.restoration.proofs.Unsupplied.{AddsNothing, plain-provide, plain-access, plain-outgoing, plain-registration, plain_update, planned_plain, reset-plain, cancel-plain}
use Rattle.restoration.proofs.GoodEnds.{Supplied, unsupplied, end_supplies}

module _ (s : State) (sound : Sound s) (q : ℕ) where
  abbrev GroupsStay : State → Type 0
  GroupsStay t = holds t.records q ≡ true → Supplied false (record_data (found s q)) (record_data (found t q))

  in_range : (b : Bool) (t : State) → (holds t.records q ≡ true → record_data (found t q) ≡ record_data (found s q)) → GroupsStay (same_unless b s t)
  in_range true t plain = λ h. unsupplied refl (plain h)
  in_range false t plain = λ h. unsupplied refl refl

  planned : (b : Bool) (k : ℕ) (p : Plan) → AddsNothing (found s k) p.kept → GroupsStay (same_unless b s (planned_after s k p))
  planned b k p plain = in_range b (planned_after s k p) (λ h. planned_plain s q k p plain)

  supplies : (e : Event) → holds (after s e).records q ≡ true → Supplied (good_end s e q) (record_data (found s q)) (record_data (found (after s e) q))
  supplies (provide_roaming_number k) = planned (is_imsi k) k (provide s k) (plain-provide s.several (found s k) (busy s k RestoreData))
  supplies (call_information k) = λ h. unsupplied refl refl
  supplies (short_message_v2 k) = λ h. unsupplied refl refl
  supplies (short_message_v1 k) = λ h. unsupplied refl refl
  supplies (location_request k) = λ h. unsupplied refl refl
  supplies (access k auth msc area) = planned (is_contact k auth) k (accessed s k (auth_of auth) msc area) (plain-access (found s k) (auth_of auth) msc area (busy s k UpdateLocation))
  supplies (outgoing k auth msc) = planned (is_contact k auth) k (went_out s k (auth_of auth) msc) (plain-outgoing (found s k) (auth_of auth) msc (busy s k UpdateLocation))
  supplies (registration k auth msc area) = planned (is_contact k auth) k (registered s k (auth_of auth) msc area) (plain-registration (found s k) (auth_of auth) msc area (busy s k UpdateLocation))
  supplies (open_update k) = planned (is_imsi k) k (updating s k) (plain_update (found s k) (busy s k StandAlone))
  supplies (insert n count groups) = in_range (is_message count groups) (insert_after s n groups) (λ h. refl)
  supplies (end n outcome) = end_supplies s n (outcome_of outcome) q (ltb outcome 2)
  supplies (reset digits value) = in_range (is_hlr_id digits value) (reset_after s digits value) (λ h. reset-plain s q digits value)
  supplies (cancel k) = in_range (is_imsi k) (cancel_after s k) (cancel-plain s q k sound.records_rise)
  supplies restart = λ h. absurd (both_ways (holds [] q) (holds_cleared Record q) h)

  -- no dialogue is open for a subscriber without a record
  none_for : holds s.records q ≡ false → (n : ℕ) (o : Option Dialogue) → at s.dialogues n ≡ o → is_for q o ≡ false
  none_for off n None is = refl
  none_for off n (Some d) is =
      elim (cases_Bool (eqb d.imsi q)) [
        | inl t ↦ absurd (both_ways (holds s.records q) off (ap (holds s.records) (sym (eqb-true d.imsi q t)) ∙ sound.on_record n d is))
        | inr f ↦ f
      ]

  no_good_end : holds s.records q ≡ false → (e : Event) → good_end s e q ≡ false
  no_good_end off (provide_roaming_number k) = refl
  no_good_end off (call_information k) = refl
  no_good_end off (short_message_v2 k) = refl
  no_good_end off (short_message_v1 k) = refl
  no_good_end off (location_request k) = refl
  no_good_end off (access k auth msc area) = refl
  no_good_end off (outgoing k auth msc) = refl
  no_good_end off (registration k auth msc area) = refl
  no_good_end off (open_update k) = refl
  no_good_end off (insert n count groups) = refl
  no_good_end off (end n outcome) = and_left (is_for q (at s.dialogues n)) (says_done (answered s (end n outcome))) (none_for off n (at s.dialogues n) refl)
  no_good_end off (reset digits value) = refl
  no_good_end off (cancel k) = refl
  no_good_end off restart = refl

  made_bare : holds s.records q ≡ false → (e : Event) → record_data (found (after s e) q) ≡ no_data
  made_bare off e =
      elim (cases_Bool (holds (after s e).records q)) [
        | inl t ↦ (supplies e t).same (no_good_end off e) ∙ ap record_data (none_from_holds s.records q off)
        | inr f ↦ ap record_data (none_from_holds (after s e).records q f)
      ]

-- both groups are there after a good end, or where they were
both : (good : Bool) (before now : SubscriberData) → Supplied good before now → is_complete now ≡ (good || is_complete before)
both true before now p = p.whole refl
both false before now p = ap is_complete (p.same refl)

sent_records : (r : Result Answer Refusal) (t : State) → (sent_out r t).records ≡ t.records
sent_records (Err x) t = refl
sent_records (Ok a) t = by (handed a.opened)
  where
    by : (o : Option ℕ) → (sent_if t o).records ≡ t.records
    by None = refl
    by (Some n) = refl

read-records : (s : State) (short : Bool) (r : Reading) → (if_area short s (reading_after s r)).records ≡ if_area short s.records (records_read s r)
read-records s true r = refl
read-records s false (Ok (e, n)) = sent_records (answered s e) (after s e)
read-records s false (Err x) = refl

pub data_law_lem : DataLaw
data_law_lem = record {
  by_event = λ s sound e k h. both (good_end s e k) (record_data (found s k)) (record_data (found (after s e) k)) (supplies s sound k e h);
  otherwise = λ s sound e k h. (supplies s sound k e h).same;
  when_made = λ s sound e k off. (no_good_end s sound k off e, made_bare s sound k off e);
  by_spending = λ s n c. refl;
  by_bytes = λ s input area. read-records s (ltb (length area) 16) (decoded input);
}
