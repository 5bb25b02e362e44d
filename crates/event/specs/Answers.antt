-- The numbers and the words of an answer, case by case, and its sixteen bytes. Assumes nothing.
use Rattle.std.specs.Prelude.{ℕ, ◌+◌, cond, List, [], ◌∷◌, ◌++◌, length, drop, Some, None, Option, nat_lt, codes, decimal}
use Rattle.key.specs.Figures.{in_bytes}
use Rattle.event.specs.declared.answer.Reply.{Reply}
use Rattle.event.specs.declared.answer.Reply.TheVariants.{Done, UnidentifiedSubscriber, IllegalSubscriber, SystemFailure, DataMissing, UnexpectedDataValue}
use Rattle.event.specs.declared.answer.Handling.{Handling}
use Rattle.event.specs.declared.answer.Handling.TheVariants.{Nothing, Page, Search, RoamingNumber}
use Rattle.event.specs.declared.answer.Kind.{Kind}
use Rattle.event.specs.declared.answer.Kind.TheVariants.{RestoreData, UpdateLocation, StandAlone}
use Rattle.event.specs.declared.answer.Ignored.{Ignored}
use Rattle.event.specs.declared.answer.Opened.{Opened}
use Rattle.event.specs.declared.answer.Subject.{Subject}
use Rattle.event.specs.declared.answer.Subject.TheVariants.{Nobody, Subscriber, Records}
use Rattle.event.specs.declared.answer.Answer.{Answer}

abbrev pub reply_number : Reply → ℕ
reply_number Done = 0
reply_number UnidentifiedSubscriber = 5
reply_number IllegalSubscriber = 9
reply_number SystemFailure = 34
reply_number DataMissing = 35
reply_number UnexpectedDataValue = 36

abbrev pub handling_number : Handling → ℕ
handling_number Nothing = 0
handling_number Page = 1
handling_number Search = 2
handling_number RoamingNumber = 3

abbrev pub kind_number : Kind → ℕ
kind_number RestoreData = 1
kind_number UpdateLocation = 2
kind_number StandAlone = 3

-- any group C weighs 4, any group F 32
abbrev pub ignored_number : Ignored → ℕ
ignored_number i = cond i.supplementary 4 0 + cond i.regional 32 0

-- the kind opened, and the dialogue's number; 0 where none was opened
abbrev pub opened_number : Option Opened → ℕ
opened_number None = 0
opened_number (Some o) = kind_number o.kind

abbrev pub dialogue_shown : Option Opened → ℕ
dialogue_shown None = 0
dialogue_shown (Some o) = o.dialogue

abbrev pub subject_number : Subject → ℕ
subject_number Nobody = 0
subject_number (Subscriber imsi) = imsi
subject_number (Records count) = count

-- reply, handling, kind opened, ignored groups
abbrev pub answer_head : Answer → List ℕ
answer_head a = reply_number a.reply ∷ handling_number a.handling ∷ opened_number a.opened ∷ ignored_number a.ignored ∷ []

-- then the dialogue in four bytes and the subject in eight
abbrev pub answer_bytes : Answer → List ℕ
answer_bytes a = answer_head a ++ (in_bytes 4 (dialogue_shown a.opened) ++ in_bytes 8 (subject_number a.subject))

-- an area after the answer is written to its front; one that is too short is as it was
abbrev pub written_into : List ℕ → Answer → List ℕ
written_into area a = cond (nat_lt (length area) 16) area (answer_bytes a ++ drop 16 area)

-- the words of a reply, and the short word of a kind
abbrev pub reply_text : Reply → List ℕ
reply_text Done = codes "done"
reply_text UnidentifiedSubscriber = codes "unidentified subscriber"
reply_text IllegalSubscriber = codes "illegal subscriber"
reply_text SystemFailure = codes "system failure"
reply_text DataMissing = codes "data missing"
reply_text UnexpectedDataValue = codes "unexpected data value"

abbrev pub kind_text : Kind → List ℕ
kind_text RestoreData = codes "restore"
kind_text UpdateLocation = codes "update"
kind_text StandAlone = codes "stand-alone"

-- a dialogue that opened, as an answer tells it
abbrev pub kind_opened_text : Kind → List ℕ
kind_opened_text RestoreData = codes "Restore Data"
kind_opened_text UpdateLocation = codes "Update Location"
kind_opened_text StandAlone = codes "stand-alone update"

abbrev pub opened_text : Opened → List ℕ
opened_text o = kind_opened_text o.kind ++ codes " opened as dialogue " ++ decimal o.dialogue
