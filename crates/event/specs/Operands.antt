-- What the operands that several events share are read as. Assumes nothing.
use Rattle.std.specs.Prelude.{ℕ, List, Ok, Err, Result, nat_lt}
use Rattle.key.specs.Figures.{number_at}
use Rattle.key.specs.declared.refusal.Refusal.{Refusal}
use Rattle.event.specs.declared.operands.Contact.{Contact}
use Rattle.event.specs.declared.operands.Located.{Located}
use Rattle.event.specs.declared.events.Event.{Event}
use Rattle.event.specs.Layout.{imsi_limit}
use Rattle.event.specs.Decoding.{Reading, found, needs_bytes, in_range, contact_in_range}
use Rattle.event.specs.Seen.{as_event}

abbrev pub imsi_read : List ℕ → Result ℕ Refusal
imsi_read ops = needs_bytes 8 ops (in_range (nat_lt (number_at 8 0 ops) imsi_limit) (Ok (number_at 8 0 ops)))

abbrev pub contact_at_front : List ℕ → Contact
contact_at_front ops = record { imsi = number_at 8 0 ops; auth = number_at 1 8 ops; msc = number_at 1 9 ops }

abbrev pub contact_read : List ℕ → Result Contact Refusal
contact_read ops = needs_bytes 10 ops (in_range (contact_in_range ops) (Ok (contact_at_front ops)))

abbrev pub located_read : List ℕ → Result Located Refusal
located_read ops = needs_bytes 12 ops (in_range (contact_in_range ops) (Ok (record { contact = contact_at_front ops; area = number_at 2 10 ops })))

-- what the parser answered
abbrev pub parsed : Result Event Refusal → Reading
parsed (Ok e) = found (as_event e)
parsed (Err e) = Err e
