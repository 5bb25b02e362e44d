-- A dialogue's stage against what comes for it, case by case. Assumes nothing.
use Rattle.std.specs.Prelude.{ℕ, Bool, true, false, not, ◌&&◌, List, Some, None, Ok, Err, Option, Result, ◌==◌, nat_le, codes}
use Rattle.key.specs.declared.refusal.Refusal.{Refusal}
use Rattle.key.specs.declared.refusal.Refusal.TheVariants.{DialogueNotOpen}
use Rattle.event.specs.declared.answer.Kind.{Kind}
use Rattle.event.specs.declared.answer.Kind.TheVariants.{RestoreData, UpdateLocation, StandAlone}
use Rattle.dialogue.specs.declared.data.SubscriberData.{SubscriberData}
use Rattle.dialogue.specs.declared.row.Stage.{Stage}
use Rattle.dialogue.specs.declared.row.Stage.TheVariants.{Gone, Waiting, Sent, Rejected}
use Rattle.dialogue.specs.declared.row.Dialogue.{Dialogue}
use Rattle.dialogue.specs.declared.row.Coming.{Coming}
use Rattle.dialogue.specs.declared.row.Coming.TheVariants.{Send, Withdraw, Insert, End}
use Rattle.dialogue.specs.declared.row.Met.{Met}
use Rattle.dialogue.specs.declared.row.Met.TheVariants as met
use Rattle.dialogue.specs.Data.{no_data}
use Rattle.dialogue.specs.Messages.{Progress, message, message_draft}

-- what comes, with a message's groups as a list of bytes
pub data Comes : Type 0 where
  send : Comes
  withdraw : Comes
  insert : (groups : List ℕ) → Comes
  end : Comes

abbrev pub comes : Coming → Comes
comes Send = send
comes Withdraw = withdraw
comes (Insert groups) = insert groups.now
comes End = end

abbrev pub is_gone : Stage → Bool
is_gone Gone = true
is_gone Waiting = false
is_gone Sent = false
is_gone Rejected = false

abbrev pub stage_text : Stage → List ℕ
stage_text Gone = codes "gone"
stage_text Waiting = codes "waiting"
stage_text Sent = codes "sent"
stage_text Rejected = codes "rejected"

-- what a message of these bytes makes of a draft
abbrev pub taken_into : List ℕ → SubscriberData → Option Progress
taken_into s draft = message s draft

-- what became of it, or that the dialogue was not at the stage for it
abbrev pub message_met : Option Progress → Met
message_met None = met.Rejected
message_met (Some p) = met.Taken p.ignored

abbrev pub not_open : Result Met Refusal
not_open = Err DialogueNotOpen

abbrev pub stage_outcome : Stage → Comes → SubscriberData → Result Met Refusal
stage_outcome Gone send draft = not_open
stage_outcome Gone withdraw draft = not_open
stage_outcome Gone (insert s) draft = not_open
stage_outcome Gone end draft = not_open
stage_outcome Waiting send draft = Ok met.Sent
stage_outcome Waiting withdraw draft = Ok met.Withdrawn
stage_outcome Waiting (insert s) draft = not_open
stage_outcome Waiting end draft = not_open
stage_outcome Sent send draft = not_open
stage_outcome Sent withdraw draft = not_open
stage_outcome Sent (insert s) draft = Ok (message_met (taken_into s draft))
stage_outcome Sent end draft = Ok met.Ended
stage_outcome Rejected send draft = not_open
stage_outcome Rejected withdraw draft = not_open
stage_outcome Rejected (insert s) draft = Ok met.Rejected
stage_outcome Rejected end draft = Ok met.Ended

abbrev pub outcome : Dialogue → Comes → Result Met Refusal
outcome d c = stage_outcome d.stage c d.draft

-- the stage after it
abbrev pub message_stage : Option Progress → Stage
message_stage None = Rejected
message_stage (Some p) = Sent

abbrev pub next_stage : Stage → Comes → SubscriberData → Stage
next_stage Gone send draft = Gone
next_stage Gone withdraw draft = Gone
next_stage Gone (insert s) draft = Gone
next_stage Gone end draft = Gone
next_stage Waiting send draft = Sent
next_stage Waiting withdraw draft = Gone
next_stage Waiting (insert s) draft = Waiting
next_stage Waiting end draft = Waiting
next_stage Sent send draft = Sent
next_stage Sent withdraw draft = Sent
next_stage Sent (insert s) draft = message_stage (taken_into s draft)
next_stage Sent end draft = Gone
next_stage Rejected send draft = Rejected
next_stage Rejected withdraw draft = Rejected
next_stage Rejected (insert s) draft = Rejected
next_stage Rejected end draft = Gone

-- the draft after it: only a message that a sent dialogue takes changes it
abbrev pub next_draft : Stage → Comes → SubscriberData → SubscriberData
next_draft Gone c draft = draft
next_draft Waiting c draft = draft
next_draft Sent send draft = draft
next_draft Sent withdraw draft = draft
next_draft Sent (insert s) draft = message_draft (taken_into s draft) draft
next_draft Sent end draft = draft
next_draft Rejected c draft = draft

abbrev pub dialogue_after : Dialogue → Comes → Dialogue
dialogue_after d c = record d { stage = next_stage d.stage c d.draft; draft = next_draft d.stage c d.draft }

abbrev pub same_kind : Kind → Kind → Bool
same_kind RestoreData RestoreData = true
same_kind RestoreData UpdateLocation = false
same_kind RestoreData StandAlone = false
same_kind UpdateLocation RestoreData = false
same_kind UpdateLocation UpdateLocation = true
same_kind UpdateLocation StandAlone = false
same_kind StandAlone RestoreData = false
same_kind StandAlone UpdateLocation = false
same_kind StandAlone StandAlone = true

-- it is open and has the number; it is open for the subscriber and of the kind
abbrev pub has_number : ℕ → Dialogue → Bool
has_number n d = not (is_gone d.stage) && d.number == n

abbrev pub is_on : ℕ → Kind → Dialogue → Bool
is_on imsi kind d = not (is_gone d.stage) && (d.imsi == imsi && same_kind d.kind kind)

-- it is open, and its number is n or above
abbrev pub is_from : ℕ → Dialogue → Bool
is_from n d = not (is_gone d.stage) && nat_le n d.number

-- a dialogue as it opens: a stand-alone one needs no invoke, and starts as sent
abbrev pub first_stage : Kind → Stage
first_stage RestoreData = Waiting
first_stage UpdateLocation = Waiting
first_stage StandAlone = Sent

abbrev pub opening : ℕ → ℕ → Kind → Dialogue
opening number imsi kind = record { number = number; imsi = imsi; kind = kind; stage = first_stage kind; draft = no_data }
