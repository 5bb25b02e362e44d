-- What a message of groups does to a draft. Assumes nothing.
use Rattle.std.specs.Prelude.{ℕ, ◌/◌, true, false, List, length, Some, None, Option, fold}
use Rattle.std.specs.Simd.{first_chunks}
use Rattle.event.specs.declared.answer.Ignored.{Ignored}
use Rattle.dialogue.specs.declared.data.SubscriberData.{SubscriberData}
use Rattle.dialogue.specs.declared.group.Group.{Group}
use Rattle.dialogue.specs.declared.group.Group.TheVariants.{Subscriber, Services, Supplementary, Barring, Restriction, Regional}
use Rattle.dialogue.specs.Groups.{group_read, with_group}

-- a draft as far as a message has been taken, and the groups passed over so far
pub record Progress : Type 0 where
  pub draft : SubscriberData
  pub ignored : Ignored

abbrev pub none_ignored : Ignored
none_ignored = record { supplementary = false; regional = false }

-- a group that is not supported is passed over and shown
abbrev pub with_ignored : Group → Ignored → Ignored
with_ignored (Subscriber a) i = i
with_ignored (Services b) i = i
with_ignored Supplementary i = record i { supplementary = true }
with_ignored (Barring b) i = i
with_ignored (Restriction r) i = i
with_ignored Regional i = record i { regional = true }

-- one group more, unless it is unexpected
abbrev pub with_more : Option Group → Progress → Option Progress
with_more None p = None
with_more (Some g) p = Some (record { draft = with_group g p.draft; ignored = with_ignored g p.ignored })

-- the next eleven bytes; an unexpected group rejects the message
abbrev pub one_more : Option Progress → List ℕ → Option Progress
one_more None bytes = None
one_more (Some p) bytes = with_more (group_read bytes) p

-- the message, eleven bytes at a time
abbrev pub groups : List ℕ → List (List ℕ)
groups s = first_chunks 11 (length s / 11) s

abbrev pub message : List ℕ → SubscriberData → Option Progress
message s draft = fold one_more (Some (record { draft = draft; ignored = none_ignored })) (groups s)

-- what the message passed over, where it is taken; the draft after it, which is the old one where it is not
abbrev pub message_ignored : Option Progress → Option Ignored
message_ignored None = None
message_ignored (Some p) = Some p.ignored

abbrev pub message_draft : Option Progress → SubscriberData → SubscriberData
message_draft None old = old
message_draft (Some p) old = p.draft
