-- The open dialogues of a table, as a map from their numbers. Assumes nothing.
use Rattle.std.specs.Prelude.{◌≡◌, ℕ, ◌+◌, ◌<◌, ◌≤◌, Bool, true, false, cond, not, ◌&&◌, List, [], ◌∷◌, length, Some, None, Ok, Err, Option, Result, ◌==◌, nat_lt}
use Rattle.std.specs.List.{AllWithin, HoldsAt}
use Rattle.key.specs.declared.refusal.Refusal.{Refusal}
use Rattle.key.specs.declared.refusal.Refusal.TheVariants.{TooManyDialogues, NumbersUsedUp, DialogueNotOpen}
use Rattle.store.specs.Model.{keys, rises, at, holds, with_entry, without, only}
use Rattle.event.specs.declared.answer.Kind.{Kind}
use Rattle.dialogue.specs.declared.row.Dialogue.{Dialogue}
use Rattle.dialogue.specs.declared.row.Met.{Met}
use Rattle.dialogue.specs.Dialogues.{Comes, is_gone, same_kind, has_number, not_open, outcome, dialogue_after, opening}

-- open dialogues by their numbers, which rise
abbrev pub Open : Type 0
Open = List (ℕ × Dialogue)

-- a table of them, and the last number used
pub record Dialogues : Type 0 where
  pub by_number : Open
  pub last : ℕ

abbrev pub none_open : ℕ → Dialogues
none_open last = record { by_number = []; last = last }

-- the open dialogues of the rows
unfoldable pub listed : List Dialogue → Open
listed [] = []
listed (d ∷ ds) = cond (is_gone d.stage) (listed ds) (with_entry (listed ds) d.number d)

-- each number is given once, and none past the last; each is on an IMSI
abbrev pub RowSound : Dialogue → List Dialogue → ℕ → Type 0
RowSound d ds last = (d.number ≤ last) × (holds (listed ds) d.number ≡ false) × (d.imsi < 1000000000000000)

abbrev pub Numbered : List Dialogue → ℕ → Type 0
Numbered [] last = Unit {0}
Numbered (d ∷ ds) last = (is_gone d.stage ≡ false → RowSound d ds last) × Numbered ds last

-- what holds of every table
pub record Orderly (t : Dialogues) : Type 0 where
  -- the open dialogues stand in the order of their numbers, and are at most 64
  pub rising : rises (keys t.by_number) ≡ true
  pub few : length t.by_number ≤ 64
  -- a dialogue stands at its own number, which is not above the last used
  pub its_number : (n : ℕ) (d : Dialogue) → at t.by_number n ≡ Some d → d.number ≡ n
  pub numbered : (n : ℕ) (d : Dialogue) → at t.by_number n ≡ Some d → n ≤ t.last
  -- it is not gone, and is on an IMSI
  pub still_open : (n : ℕ) (d : Dialogue) → at t.by_number n ≡ Some d → is_gone d.stage ≡ false
  pub on_imsi : (n : ℕ) (d : Dialogue) → at t.by_number n ≡ Some d → d.imsi < 1000000000000000

-- what is found is on an IMSI
abbrev pub OnImsi : Option Dialogue → Type 0
OnImsi None = Unit {0}
OnImsi (Some d) = d.imsi < 1000000000000000

-- a dialogue of the kind is open for the subscriber
abbrev pub on : ℕ → Kind → ℕ × Dialogue → Bool
on imsi kind e = e.1.imsi == imsi && same_kind e.1.kind kind

-- it is on another subscriber
abbrev pub other_imsi : ℕ → ℕ × Dialogue → Bool
other_imsi imsi e = not (e.1.imsi == imsi)

-- the table without the dialogues of a subscriber
abbrev pub without_imsi : Dialogues → ℕ → Dialogues
without_imsi was imsi = record was { by_number = only (other_imsi imsi) was.by_number }

-- why no dialogue can open, where so many are open and the last number is `last`
abbrev pub barred : ℕ → ℕ → Option Refusal
barred count last = cond (nat_lt count 64) (cond (nat_lt last 4294967295) None (Some NumbersUsedUp)) (Some TooManyDialogues)

-- the table with one dialogue more, which has the next number
abbrev pub with_opened : Dialogues → ℕ → Kind → Dialogues
with_opened was imsi kind = record { by_number = with_entry was.by_number (was.last + 1) (opening (was.last + 1) imsi kind); last = was.last + 1 }

-- what opening a dialogue answers, and what it leaves
abbrev pub OpenSays : Result ℕ Refusal → Dialogues → ℕ → Kind → Dialogues → Type 0
OpenSays (Ok n) was imsi kind now = (barred (length was.by_number) was.last ≡ None) × (n ≡ was.last + 1) × (now ≡ with_opened was imsi kind)
OpenSays (Err e) was imsi kind now = (barred (length was.by_number) was.last ≡ Some e) × (now ≡ was)

-- what became of the dialogue of a number, if one is open
abbrev pub met_at : Option Dialogue → Comes → Result Met Refusal
met_at None c = not_open
met_at (Some d) c = outcome d c

-- the open dialogues after it; one that is gone is open no more
abbrev pub kept_open : Open → ℕ → Dialogue → Open
kept_open es n d = cond (is_gone d.stage) (without es n) (with_entry es n d)

abbrev pub unless_refused : Result Met Refusal → Open → Open → Open
unless_refused (Ok m) es after = after
unless_refused (Err e) es after = es

abbrev pub met_by : Open → ℕ → Option Dialogue → Comes → Open
met_by es n None c = es
met_by es n (Some d) c = unless_refused (outcome d c) es (kept_open es n (dialogue_after d c))

abbrev pub met_on : Open → ℕ → Comes → Open
met_on es n c = met_by es n (at es n) c

-- the table after it
abbrev pub with_met : Dialogues → ℕ → Comes → Dialogues
with_met was n c = record was { by_number = met_on was.by_number n c }

-- where the dialogue of the number stands
abbrev pub PlaceSays : Result ℕ Refusal → List Dialogue → ℕ → Type 0
PlaceSays (Ok i) ds n = (i < length ds) × HoldsAt (λ d. (has_number n d ≡ true) × (at (listed ds) n ≡ Some d)) ds i
PlaceSays (Err e) ds n = (e ≡ DialogueNotOpen) × (at (listed ds) n ≡ None)

-- a free row
abbrev pub FreeSays : Result ℕ Refusal → List Dialogue → Type 0
FreeSays (Ok i) ds = (i < length ds) × HoldsAt (λ d. is_gone d.stage ≡ true) ds i
FreeSays (Err e) ds = (e ≡ TooManyDialogues) × AllWithin (λ d. is_gone d.stage ≡ false) ds 0 (length ds)

-- the number after the last one
abbrev pub NumberSays : Result ℕ Refusal → ℕ → Type 0
NumberSays (Ok n) last = (last < 4294967295) × (n ≡ last + 1)
NumberSays (Err e) last = (4294967295 ≤ last) × (e ≡ NumbersUsedUp)
