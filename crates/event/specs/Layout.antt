-- The events, how each is laid out in bytes, and the ranges of its operands. Assumes nothing.
use Rattle.std.specs.Prelude.{◌≡◌, ℕ, ◌+◌, ◌*◌, ◌^◌, ◌<◌, ◌≤◌, List, [], ◌∷◌, ◌++◌, length}
use Rattle.key.specs.Figures.{in_bytes}

-- an event, with an Insert's groups as a list of bytes
pub data Event : Type 0 where
  provide_roaming_number : (imsi : ℕ) → Event
  call_information : (imsi : ℕ) → Event
  short_message_v2 : (imsi : ℕ) → Event
  short_message_v1 : (imsi : ℕ) → Event
  location_request : (imsi : ℕ) → Event
  access : (imsi auth msc area : ℕ) → Event
  outgoing : (imsi auth msc : ℕ) → Event
  registration : (imsi auth msc area : ℕ) → Event
  open_update : (imsi : ℕ) → Event
  insert : (dialogue count : ℕ) (groups : List ℕ) → Event
  end : (dialogue outcome : ℕ) → Event
  reset : (digits value : ℕ) → Event
  cancel : (imsi : ℕ) → Event
  restart : Event

-- the layout: a code, then the operands, each in its number of bytes
abbrev pub form : Event → List ℕ
form (provide_roaming_number imsi) = 1 ∷ in_bytes 8 imsi
form (call_information imsi) = 2 ∷ in_bytes 8 imsi
form (short_message_v2 imsi) = 3 ∷ in_bytes 8 imsi
form (short_message_v1 imsi) = 4 ∷ in_bytes 8 imsi
form (location_request imsi) = 5 ∷ in_bytes 8 imsi
form (access imsi auth msc area) = 6 ∷ (in_bytes 8 imsi ++ (in_bytes 1 auth ++ (in_bytes 1 msc ++ in_bytes 2 area)))
form (outgoing imsi auth msc) = 7 ∷ (in_bytes 8 imsi ++ (in_bytes 1 auth ++ in_bytes 1 msc))
form (registration imsi auth msc area) = 8 ∷ (in_bytes 8 imsi ++ (in_bytes 1 auth ++ (in_bytes 1 msc ++ in_bytes 2 area)))
form (open_update imsi) = 9 ∷ in_bytes 8 imsi
form (insert dialogue count groups) = 10 ∷ (in_bytes 4 dialogue ++ (in_bytes 1 count ++ groups))
form (end dialogue outcome) = 11 ∷ (in_bytes 4 dialogue ++ in_bytes 1 outcome)
form (reset digits value) = 12 ∷ (in_bytes 1 digits ++ in_bytes 8 value)
form (cancel imsi) = 13 ∷ in_bytes 8 imsi
form restart = 14 ∷ []

-- how many bytes that is
abbrev pub size : Event → ℕ
size (provide_roaming_number imsi) = 9
size (call_information imsi) = 9
size (short_message_v2 imsi) = 9
size (short_message_v1 imsi) = 9
size (location_request imsi) = 9
size (access imsi auth msc area) = 13
size (outgoing imsi auth msc) = 11
size (registration imsi auth msc area) = 13
size (open_update imsi) = 9
size (insert dialogue count groups) = 6 + length groups
size (end dialogue outcome) = 6
size (reset digits value) = 10
size (cancel imsi) = 9
size restart = 1

-- what no IMSI's number reaches
abbrev pub imsi_limit : ℕ
imsi_limit = 1000000000000000

-- the operands of a handset's contact: authentication passed (1) or failed (0), its exchange
abbrev pub ContactInRange : ℕ → ℕ → ℕ → Type 0
ContactInRange imsi auth msc = (imsi < imsi_limit) × (auth < 2) × (msc < 256)

-- the ranges of the operands
abbrev pub InRange : Event → Type 0
InRange (provide_roaming_number imsi) = imsi < imsi_limit
InRange (call_information imsi) = imsi < imsi_limit
InRange (short_message_v2 imsi) = imsi < imsi_limit
InRange (short_message_v1 imsi) = imsi < imsi_limit
InRange (location_request imsi) = imsi < imsi_limit
InRange (access imsi auth msc area) = ContactInRange imsi auth msc × (area < 65536)
InRange (outgoing imsi auth msc) = ContactInRange imsi auth msc
InRange (registration imsi auth msc area) = ContactInRange imsi auth msc × (area < 65536)
InRange (open_update imsi) = imsi < imsi_limit
InRange (insert dialogue count groups) = (dialogue < 4294967296) × (1 ≤ count) × (count ≤ 6) × (length groups ≡ 11 * count)
InRange (end dialogue outcome) = (dialogue < 4294967296) × (outcome < 2)
InRange (reset digits value) = (5 ≤ digits) × (digits ≤ 15) × (value < 10 ^ digits)
InRange (cancel imsi) = imsi < imsi_limit
InRange restart = Unit {0}
