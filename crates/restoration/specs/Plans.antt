-- What each event comes to for one subscriber, row by row of the tables. Assumes nothing.
use Rattle.std.specs.Prelude.{ℕ, Bool, true, false, cond, not, ◌&&◌, ◌||◌, Some, None, Ok, Err, Option, Result}
use Rattle.event.specs.declared.answer.Answer.{Answer}
use Rattle.event.specs.declared.answer.Reply.{Reply}
use Rattle.event.specs.declared.answer.Reply.TheVariants.{Done, UnidentifiedSubscriber, IllegalSubscriber, SystemFailure, DataMissing, UnexpectedDataValue}
use Rattle.event.specs.declared.answer.Handling.TheVariants.{Nothing, Page, Search, RoamingNumber}
use Rattle.event.specs.declared.answer.Kind.{Kind}
use Rattle.event.specs.declared.answer.Kind.TheVariants.{RestoreData, UpdateLocation, StandAlone}
use Rattle.event.specs.declared.answer.Opened.{Opened}
use Rattle.event.specs.declared.answer.Subject.TheVariants.{Subscriber}
use Rattle.dialogue.specs.declared.data.SubscriberData.{SubscriberData}
use Rattle.dialogue.specs.declared.row.Dialogue.{Dialogue}
use Rattle.dialogue.specs.declared.row.Stage.{Stage}
use Rattle.dialogue.specs.declared.row.Stage.TheVariants.{Gone, Waiting, Sent, Rejected}
use Rattle.dialogue.specs.Data.{no_data, data_over, is_complete}
use Rattle.dialogue.specs.Messages.{none_ignored}
use Rattle.restoration.specs.declared.record.Indicator.{Indicator}
use Rattle.restoration.specs.declared.record.Indicator.TheVariants.{NotConfirmed, Confirmed}
use Rattle.restoration.specs.declared.record.Place.{Place}
use Rattle.restoration.specs.declared.record.Record.{Record}
use Rattle.restoration.specs.declared.plan.Plan.{Plan}
use Rattle.restoration.specs.declared.contacts.Auth.{Auth}
use Rattle.restoration.specs.declared.contacts.Auth.TheVariants.{Failed, Passed}
use Rattle.restoration.specs.declared.updates.Outcome.{Outcome}
use Rattle.restoration.specs.declared.updates.Outcome.TheVariants.{Well, NotWell}
use Rattle.restoration.specs.Records.{is_unconfirmed, made, or_made, only_made, contacted, relocated, supplied, doubted}

abbrev pub reply_only : Reply → Plan
reply_only reply = record { kept = None; reply = reply; handling = Nothing; opens = None }

abbrev pub answer_of : Plan → ℕ → Option Opened → Answer
answer_of p imsi opened = record { reply = p.reply; handling = p.handling; opened = opened; ignored = none_ignored; subject = Subscriber imsi }

-- a kind, where it is wanted and none of it is open yet
abbrev pub unless_open : Bool → Bool → Kind → Option Kind
unless_open wanted busy kind = cond wanted (cond busy None (Some kind)) None

-- Provide Roaming Number makes a record where there is none; with one MSC the location is then known
abbrev pub first_location : Bool → Indicator
first_location true = NotConfirmed
first_location false = Confirmed

abbrev pub made_for_call : Bool → Option Record → Option Record
made_for_call several None = Some (made (first_location several))
made_for_call several (Some v) = None

abbrev pub lacks_data : Option Record → Bool
lacks_data None = true
lacks_data (Some v) = is_unconfirmed v.«data»

abbrev pub roaming_number_plan : Bool → Option Record → Bool → Plan
roaming_number_plan several old busy = record { kept = made_for_call several old; reply = Done; handling = RoamingNumber; opens = unless_open (lacks_data old) busy RestoreData }

-- how to reach a subscriber: by the indicators of data and radio; `unknown` is the reply where that is not known
abbrev pub reach_by : Reply → Indicator → Indicator → Plan
reach_by unknown NotConfirmed radio = reply_only unknown
reach_by unknown Confirmed NotConfirmed = record (reply_only Done) { handling = Search }
reach_by unknown Confirmed Confirmed = record (reply_only Done) { handling = Page }

abbrev pub reach_plan : Reply → Option Record → Plan
reach_plan unknown None = reply_only unknown
reach_plan unknown (Some v) = reach_by unknown v.«data» v.radio

-- a contact: authentication decides, and a making comes before it
abbrev pub contact_plan : Option Record → Record → Auth → Place → Bool → Bool → Plan
contact_plan only v Failed place wanted busy = record (reply_only IllegalSubscriber) { kept = only }
contact_plan only v Passed place wanted busy = record { kept = Some (contacted v place); reply = Done; handling = Nothing; opens = unless_open wanted busy UpdateLocation }

abbrev pub at_place : ℕ → ℕ → Place
at_place msc area = record { msc = Some msc; area = Some area }

-- another MSC, the same area
abbrev pub moved_to : ℕ → Place → Place
moved_to msc place = record place { msc = Some msc }

abbrev pub access_plan : Option Record → Auth → ℕ → ℕ → Bool → Plan
access_plan None auth msc area busy = reply_only UnidentifiedSubscriber
access_plan (Some v) auth msc area busy = contact_plan None v auth (at_place msc area) (is_unconfirmed v.location) busy

abbrev pub outgoing_with : Indicator → Record → Auth → ℕ → Bool → Plan
outgoing_with NotConfirmed v auth msc busy = reply_only UnidentifiedSubscriber
outgoing_with Confirmed v auth msc busy = contact_plan None v auth (moved_to msc v.place) (is_unconfirmed v.location) busy

abbrev pub outgoing_plan : Option Record → Auth → ℕ → Bool → Plan
outgoing_plan None auth msc busy = reply_only UnidentifiedSubscriber
outgoing_plan (Some v) auth msc busy = outgoing_with v.«data» v auth msc busy

abbrev pub registration_plan : Option Record → Auth → ℕ → ℕ → Bool → Plan
registration_plan old auth msc area busy =
    contact_plan (only_made old) (or_made old) auth (at_place msc area) (is_unconfirmed (or_made old).location || is_unconfirmed (or_made old).«data») busy

-- the home register opens a stand-alone update: one at a time, for a subscriber that is known
abbrev pub open_update : Bool → Plan
open_update true = reply_only SystemFailure
open_update false = record (reply_only Done) { opens = Some StandAlone }

abbrev pub update_plan : Option Record → Bool → Plan
update_plan None busy = reply_only UnidentifiedSubscriber
update_plan (Some v) busy = open_update busy

-- the data that a good end leaves: new data for kinds 1 and 2, and what a stand-alone update received over the old data
abbrev pub record_data : Option Record → SubscriberData
record_data None = no_data
record_data (Some v) = v.subscriber

abbrev pub resulting_data : Kind → SubscriberData → Option Record → SubscriberData
resulting_data RestoreData draft old = draft
resulting_data UpdateLocation draft old = draft
resulting_data StandAlone draft old = data_over draft (record_data old)

abbrev pub is_rejected : Stage → Bool
is_rejected Gone = false
is_rejected Waiting = false
is_rejected Sent = false
is_rejected Rejected = true

abbrev pub is_well : Outcome → Bool
is_well Well = true
is_well NotWell = false

-- a good end: outcome well, no rejected message, and groups A and B
abbrev pub is_good : Dialogue → Outcome → Option Record → Bool
is_good d outcome old = is_well outcome && (not (is_rejected d.stage) && is_complete (resulting_data d.kind d.draft old))

-- the reply: 0 for a good end, else 34 for outcome 1, else 36 for a rejection, else 35 for missing data
abbrev pub end_reply : Bool → Bool → Bool → Reply
end_reply true well rejected = Done
end_reply false false rejected = SystemFailure
end_reply false true true = UnexpectedDataValue
end_reply false true false = DataMissing

-- the data that a good end leaves, or the reply to one that is not good
abbrev pub data_at_end : Dialogue → Outcome → Option Record → Result SubscriberData Reply
data_at_end d outcome old = cond (is_good d outcome old) (Ok (resulting_data d.kind d.draft old)) (Err (end_reply false (is_well outcome) (is_rejected d.stage)))

-- what an end leaves of the record
abbrev pub well_ended : Kind → SubscriberData → Record → Record
well_ended RestoreData subscriber v = supplied subscriber v
well_ended UpdateLocation subscriber v = relocated Confirmed (supplied subscriber v)
well_ended StandAlone subscriber v = supplied subscriber v

abbrev pub ill_ended : Kind → Record → Option Record
ill_ended RestoreData v = None
ill_ended UpdateLocation v = None
ill_ended StandAlone v = Some (doubted v)

abbrev pub ended : Kind → Bool → SubscriberData → Option Record → Option Record
ended kind good subscriber None = None
ended kind true subscriber (Some v) = Some (well_ended kind subscriber v)
ended kind false subscriber (Some v) = ill_ended kind v

abbrev pub end_plan : Dialogue → Outcome → Option Record → Plan
end_plan d outcome old =
    record (reply_only (end_reply (is_good d outcome old) (is_well outcome) (is_rejected d.stage))) { kept = ended d.kind (is_good d outcome old) (resulting_data d.kind d.draft old) old }
