-- What each event is answered, and what the register is after it. Assumes nothing.
use Rattle.std.specs.Prelude.{ℕ, ◌+◌, ◌*◌, Bool, true, false, cond, ◌&&◌, List, [], length, Some, None, Ok, Err, Option, Result, ◌==◌, nat_le, nat_lt}
use Rattle.std.specs.Result.{is_ok}
use Rattle.key.specs.declared.refusal.Refusal.{Refusal}
use Rattle.key.specs.declared.refusal.Refusal.TheVariants.{OutOfRange, StoreFull, DialogueNotOpen}
use Rattle.key.specs.Figures.{begins, is_hlr_id}
use Rattle.store.specs.Model.{at, holds, with_entry, without, takes, any, only, each, tally}
use Rattle.event.specs.declared.answer.Answer.{Answer}
use Rattle.event.specs.declared.answer.Ignored.{Ignored}
use Rattle.event.specs.declared.answer.Kind.{Kind}
use Rattle.event.specs.declared.answer.Kind.TheVariants.{RestoreData, UpdateLocation, StandAlone}
use Rattle.event.specs.declared.answer.Opened.{Opened}
use Rattle.event.specs.declared.answer.Reply.{Reply}
use Rattle.event.specs.declared.answer.Reply.TheVariants.{Done, UnidentifiedSubscriber, SystemFailure, UnexpectedDataValue}
use Rattle.event.specs.declared.answer.Handling.TheVariants.{Nothing}
use Rattle.event.specs.declared.answer.Subject.{Subject}
use Rattle.event.specs.declared.answer.Subject.TheVariants.{Nobody, Subscriber, Records}
use Rattle.event.specs.Layout.{Event, provide_roaming_number, call_information, short_message_v2, short_message_v1, location_request, access, outgoing, registration, open_update, insert, end, reset, cancel, restart, imsi_limit}
use Rattle.dialogue.specs.declared.row.Dialogue.{Dialogue}
use Rattle.dialogue.specs.declared.row.Met.{Met}
use Rattle.dialogue.specs.declared.row.Met.TheVariants as met
use Rattle.dialogue.specs.Dialogues as comes
use Rattle.dialogue.specs.Dialogues.{Comes, outcome, opening}
use Rattle.dialogue.specs.Listed.{Open, on, other_imsi, barred, met_at, met_on}
use Rattle.dialogue.specs.Messages.{none_ignored}
use Rattle.restoration.specs.declared.record.Record.{Record}
use Rattle.restoration.specs.declared.record.Indicator.TheVariants.{NotConfirmed}
use Rattle.restoration.specs.declared.plan.Plan.{Plan}
use Rattle.restoration.specs.declared.contacts.Auth.{Auth}
use Rattle.restoration.specs.declared.updates.Outcome.{Outcome}
use Rattle.restoration.specs.Records.{relocated}
use Rattle.restoration.specs.Plans.{answer_of, roaming_number_plan, reach_plan, access_plan, outgoing_plan, registration_plan, update_plan, end_plan}
use Rattle.restoration.specs.Numbers.{auth_of, outcome_of}
use Rattle.restoration.specs.State.{State}

-- a state with other records or other dialogues
abbrev pub with_dialogues : State → Open → State
with_dialogues s ds = record s { dialogues = ds }

-- carrying a plan out: the record to keep
abbrev pub keep : List (ℕ × Record) → ℕ → Option Record → List (ℕ × Record)
keep es k None = es
keep es k (Some v) = with_entry es k v

abbrev pub has_room : State → ℕ → Option Record → Bool
has_room s k None = true
has_room s k (Some v) = takes s.room s.records k

-- the dialogue to open, which has the next number
abbrev pub begun : State → ℕ → Option Kind → Open
begun s k None = s.dialogues
begun s k (Some kind) = with_entry s.dialogues (s.last + 1) (opening (s.last + 1) k kind)

abbrev pub last_after : State → Option Kind → ℕ
last_after s None = s.last
last_after s (Some kind) = s.last + 1

abbrev pub opened_by : State → Option Kind → Option Opened
opened_by s None = None
opened_by s (Some kind) = Some (record { kind = kind; dialogue = s.last + 1 })

abbrev pub no_dialogue : State → Option Kind → Option Refusal
no_dialogue s None = None
no_dialogue s (Some kind) = barred (length s.dialogues) s.last

-- why a plan is turned down: the store is full, else no dialogue can open
abbrev pub refusal : State → ℕ → Plan → Option Refusal
refusal s k p = cond (has_room s k p.kept) (no_dialogue s p.opens) (Some StoreFull)

abbrev pub unless_refused : {A : Type 0} → Option Refusal → A → Result A Refusal
unless_refused None a = Ok a
unless_refused (Some e) a = Err e

abbrev pub same_if_refused : Option Refusal → State → State → State
same_if_refused None s t = t
same_if_refused (Some e) s t = s

abbrev pub done : State → ℕ → Plan → State
done s k p = record s { records = keep s.records k p.kept; dialogues = begun s k p.opens; last = last_after s p.opens }

abbrev pub planned_answer : State → ℕ → Plan → Result Answer Refusal
planned_answer s k p = unless_refused (refusal s k p) (answer_of p k (opened_by s p.opens))

abbrev pub planned_after : State → ℕ → Plan → State
planned_after s k p = same_if_refused (refusal s k p) s (done s k p)

-- the record of a subscriber, and whether a dialogue of a kind is open for it
abbrev pub found : State → ℕ → Option Record
found s k = at s.records k

abbrev pub busy : State → ℕ → Kind → Bool
busy s k kind = any (on k kind) s.dialogues

-- the plan of an event that is planned
abbrev pub provide : State → ℕ → Plan
provide s k = roaming_number_plan s.several (found s k) (busy s k RestoreData)

abbrev pub accessed : State → ℕ → Auth → ℕ → ℕ → Plan
accessed s k auth msc area = access_plan (found s k) auth msc area (busy s k UpdateLocation)

abbrev pub went_out : State → ℕ → Auth → ℕ → Plan
went_out s k auth msc = outgoing_plan (found s k) auth msc (busy s k UpdateLocation)

abbrev pub registered : State → ℕ → Auth → ℕ → ℕ → Plan
registered s k auth msc area = registration_plan (found s k) auth msc area (busy s k UpdateLocation)

abbrev pub updating : State → ℕ → Plan
updating s k = update_plan (found s k) (busy s k StandAlone)

-- how to reach a subscriber, which changes nothing
abbrev pub reached : State → ℕ → Reply → Answer
reached s k unknown = answer_of (reach_plan unknown (found s k)) k None

-- an answer that is a reply alone
abbrev pub plain : Reply → Ignored → Subject → Answer
plain reply ignored subject = record { reply = reply; handling = Nothing; opened = None; ignored = ignored; subject = subject }

-- Insert: by what became of the dialogue
abbrev pub insert_said : Result Met Refusal → ℕ → Result Answer Refusal
insert_said (Ok met.Sent) k = Err DialogueNotOpen
insert_said (Ok met.Withdrawn) k = Err DialogueNotOpen
insert_said (Ok (met.Taken ignored)) k = Ok (plain Done ignored (Subscriber k))
insert_said (Ok met.Rejected) k = Ok (plain UnexpectedDataValue none_ignored (Subscriber k))
insert_said (Ok met.Ended) k = Err DialogueNotOpen
insert_said (Err e) k = Err e

abbrev pub insert_in : Option Dialogue → List ℕ → Result Answer Refusal
insert_in None groups = Err DialogueNotOpen
insert_in (Some d) groups = insert_said (outcome d (comes.insert groups)) d.imsi

abbrev pub insert_answer : State → ℕ → List ℕ → Result Answer Refusal
insert_answer s n groups = insert_in (at s.dialogues n) groups

abbrev pub insert_after : State → ℕ → List ℕ → State
insert_after s n groups = with_dialogues s (met_on s.dialogues n (comes.insert groups))

-- End: the plan is made of the dialogue as it stood
abbrev pub end_of : State → Dialogue → Outcome → Plan
end_of s d how = end_plan d how (found s d.imsi)

abbrev pub end_said : State → Result Met Refusal → Dialogue → Outcome → Result Answer Refusal
end_said s (Ok met.Sent) d how = Err DialogueNotOpen
end_said s (Ok met.Withdrawn) d how = Err DialogueNotOpen
end_said s (Ok (met.Taken ignored)) d how = Err DialogueNotOpen
end_said s (Ok met.Rejected) d how = Err DialogueNotOpen
end_said s (Ok met.Ended) d how = Ok (answer_of (end_of s d how) d.imsi None)
end_said s (Err e) d how = Err e

abbrev pub end_in : State → Option Dialogue → Outcome → Result Answer Refusal
end_in s None how = Err DialogueNotOpen
end_in s (Some d) how = end_said s (outcome d comes.end) d how

abbrev pub end_answer : State → ℕ → Outcome → Result Answer Refusal
end_answer s n how = end_in s (at s.dialogues n) how

abbrev pub end_left : State → Result Met Refusal → ℕ → Dialogue → Outcome → State
end_left s (Ok met.Sent) n d how = s
end_left s (Ok met.Withdrawn) n d how = s
end_left s (Ok (met.Taken ignored)) n d how = s
end_left s (Ok met.Rejected) n d how = s
end_left s (Ok met.Ended) n d how = record s { records = keep s.records d.imsi (end_of s d how).kept; dialogues = without s.dialogues n }
end_left s (Err e) n d how = s

abbrev pub end_on : State → ℕ → Option Dialogue → Outcome → State
end_on s n None how = s
end_on s n (Some d) how = end_left s (outcome d comes.end) n d how

abbrev pub end_after : State → ℕ → Outcome → State
end_after s n how = end_on s n (at s.dialogues n) how

-- Reset: each record whose IMSI begins with the digits is concerned
abbrev pub concerns : ℕ → ℕ → ℕ × Record → Bool
concerns digits value e = begins e.0 digits value

abbrev pub reset_one : ℕ → ℕ → ℕ → Record → Record
reset_one digits value k v = cond (begins k digits value) (relocated NotConfirmed v) v

abbrev pub reset_answer : State → ℕ → ℕ → Answer
reset_answer s digits value = plain Done none_ignored (Records (tally (concerns digits value) s.records))

abbrev pub reset_after : State → ℕ → ℕ → State
reset_after s digits value = record s { records = each (reset_one digits value) s.records }

-- Cancel: the record and the subscriber's dialogues go
abbrev pub cancel_answer : State → ℕ → Answer
cancel_answer s k = plain (cond (holds s.records k) Done UnidentifiedSubscriber) none_ignored (Subscriber k)

abbrev pub cancel_after : State → ℕ → State
cancel_after s k = cond (holds s.records k) (record s { records = without s.records k; dialogues = only (other_imsi k) s.dialogues }) s

-- Restart: records and dialogues go, and numbers go on
abbrev pub restart_after : State → State
restart_after s = record s { records = []; dialogues = [] }

-- operands within their ranges
abbrev pub is_imsi : ℕ → Bool
is_imsi k = nat_lt k imsi_limit

abbrev pub is_contact : ℕ → ℕ → Bool
is_contact k auth = is_imsi k && nat_lt auth 2

abbrev pub is_message : ℕ → List ℕ → Bool
is_message count groups = (nat_le 1 count && nat_le count 6) && length groups == 11 * count

abbrev pub or_out_of_range : Bool → Result Answer Refusal → Result Answer Refusal
or_out_of_range true r = r
or_out_of_range false r = Err OutOfRange

abbrev pub same_unless : Bool → State → State → State
same_unless true s t = t
same_unless false s t = s

-- every event
abbrev pub answered : State → Event → Result Answer Refusal
answered s (provide_roaming_number k) = or_out_of_range (is_imsi k) (planned_answer s k (provide s k))
answered s (call_information k) = or_out_of_range (is_imsi k) (Ok (reached s k SystemFailure))
answered s (short_message_v2 k) = or_out_of_range (is_imsi k) (Ok (reached s k UnidentifiedSubscriber))
answered s (short_message_v1 k) = or_out_of_range (is_imsi k) (Ok (reached s k SystemFailure))
answered s (location_request k) = or_out_of_range (is_imsi k) (Ok (reached s k UnidentifiedSubscriber))
answered s (access k auth msc area) = or_out_of_range (is_contact k auth) (planned_answer s k (accessed s k (auth_of auth) msc area))
answered s (outgoing k auth msc) = or_out_of_range (is_contact k auth) (planned_answer s k (went_out s k (auth_of auth) msc))
answered s (registration k auth msc area) = or_out_of_range (is_contact k auth) (planned_answer s k (registered s k (auth_of auth) msc area))
answered s (open_update k) = or_out_of_range (is_imsi k) (planned_answer s k (updating s k))
answered s (insert n count groups) = or_out_of_range (is_message count groups) (insert_answer s n groups)
answered s (end n outcome) = or_out_of_range (nat_lt outcome 2) (end_answer s n (outcome_of outcome))
answered s (reset digits value) = or_out_of_range (is_hlr_id digits value) (Ok (reset_answer s digits value))
answered s (cancel k) = or_out_of_range (is_imsi k) (Ok (cancel_answer s k))
answered s restart = Ok (plain Done none_ignored Nobody)

abbrev pub after : State → Event → State
after s (provide_roaming_number k) = same_unless (is_imsi k) s (planned_after s k (provide s k))
after s (call_information k) = s
after s (short_message_v2 k) = s
after s (short_message_v1 k) = s
after s (location_request k) = s
after s (access k auth msc area) = same_unless (is_contact k auth) s (planned_after s k (accessed s k (auth_of auth) msc area))
after s (outgoing k auth msc) = same_unless (is_contact k auth) s (planned_after s k (went_out s k (auth_of auth) msc))
after s (registration k auth msc area) = same_unless (is_contact k auth) s (planned_after s k (registered s k (auth_of auth) msc area))
after s (open_update k) = same_unless (is_imsi k) s (planned_after s k (updating s k))
after s (insert n count groups) = same_unless (is_message count groups) s (insert_after s n groups)
after s (end n outcome) = same_unless (nat_lt outcome 2) s (end_after s n (outcome_of outcome))
after s (reset digits value) = same_unless (is_hlr_id digits value) s (reset_after s digits value)
after s (cancel k) = same_unless (is_imsi k) s (cancel_after s k)
after s restart = restart_after s

-- whether the invoke of a dialogue is spent; where no unsent one is open nothing changes
abbrev pub spending_answer : State → ℕ → Comes → Bool
spending_answer s n c = is_ok (met_at (at s.dialogues n) c)

abbrev pub spending_after : State → ℕ → Comes → State
spending_after s n c = with_dialogues s (met_on s.dialogues n c)

-- the dialogue whose invoke is handed out: a stand-alone one needs none
abbrev pub invoke_of : Kind → ℕ → Option ℕ
invoke_of RestoreData n = Some n
invoke_of UpdateLocation n = Some n
invoke_of StandAlone n = None

abbrev pub handed : Option Opened → Option ℕ
handed None = None
handed (Some o) = invoke_of o.kind o.dialogue

-- the register where the invoke that was handed out is sent at once
abbrev pub sent_if : State → Option ℕ → State
sent_if s None = s
sent_if s (Some n) = spending_after s n comes.send

abbrev pub sent_out : Result Answer Refusal → State → State
sent_out (Ok a) s = sent_if s (handed a.opened)
sent_out (Err e) s = s
