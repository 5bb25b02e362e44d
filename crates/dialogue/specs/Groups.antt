-- What the eleven bytes of a group mean, and what is unexpected. Assumes nothing.
use Rattle.std.specs.Prelude.{ℕ, Bool, cond, ◌&&◌, List, length, drop, Some, None, Option, ◌==◌, nat_lt, slice_index}
use Rattle.std.specs.List.{list_all}
use Rattle.key.specs.Figures.{number_at}
use Rattle.dialogue.specs.declared.data.SubscriberData.{SubscriberData}
use Rattle.dialogue.specs.Data.{status}
use Rattle.dialogue.specs.declared.group.Group.{Group}
use Rattle.dialogue.specs.declared.group.Group.TheVariants.{Subscriber, Services, Supplementary, Barring, Restriction, Regional}

abbrev pub all_zero : List ℕ → Bool
all_zero s = list_all (λ b. b == 0) s

-- a group in range, or none
abbrev pub expected : Bool → Group → Option Group
expected ok g = cond ok (Some g) None

-- A: MSISDN below 10^15, category, status 0 or 1
abbrev pub subscriber_read : List ℕ → Option Group
subscriber_read s =
    expected (nat_lt (number_at 8 1 s) 1000000000000000 && nat_lt (slice_index s 10) 2)
    (Subscriber (record { msisdn = number_at 8 1 s; category = slice_index s 9; status = status (slice_index s 10) }))

-- B: bearer services, teleservices, two zeros
abbrev pub services_read : List ℕ → Option Group
services_read s = expected (all_zero (drop 9 s)) (Services (record { bearer = number_at 4 1 s; teleservice = number_at 4 5 s }))

-- D: barring, six zeros
abbrev pub barring_read : List ℕ → Option Group
barring_read s = expected (all_zero (drop 5 s)) (Barring (number_at 4 1 s))

-- E: restriction 0 or 1, nine zeros
abbrev pub restriction_read : List ℕ → Option Group
restriction_read s = expected (nat_lt (slice_index s 1) 2 && all_zero (drop 2 s)) (Restriction (slice_index s 1 == 1))

-- by its letter; C and F are not supported, and any other letter is unexpected
abbrev pub lettered : ℕ → List ℕ → Option Group
lettered letter s =
    cond (letter == 65) (subscriber_read s)
    (cond (letter == 66) (services_read s)
    (cond (letter == 67) (Some Supplementary)
    (cond (letter == 68) (barring_read s)
    (cond (letter == 69) (restriction_read s)
    (cond (letter == 70) (Some Regional) None)))))

abbrev pub group_read : List ℕ → Option Group
group_read s = cond (length s == 11) (lettered (slice_index s 0) s) None

-- the data with a group put over what was there
abbrev pub with_group : Group → SubscriberData → SubscriberData
with_group (Subscriber a) d = record d { subscriber = Some a }
with_group (Services b) d = record d { services = Some b }
with_group Supplementary d = d
with_group (Barring b) d = record d { barring = Some b }
with_group (Restriction r) d = record d { restricted = Some r }
with_group Regional d = d
