-- What holds of a register at all times, and that each step keeps it. Assumes nothing.
use Rattle.std.specs.Prelude.{◌≡◌, ℕ, ◌≤◌, Bool, true, false, List, length, Some}
use Rattle.store.specs.Model.{keys, rises, at, holds}
use Rattle.event.specs.Layout.{Event}
use Rattle.dialogue.specs.declared.row.Dialogue.{Dialogue}
use Rattle.dialogue.specs.Dialogues.{Comes, is_gone}
use Rattle.restoration.specs.State.{State, started}
use Rattle.restoration.specs.Steps.{after, spending_after}
use Rattle.restoration.specs.Received.{received_after}

pub record Sound (s : State) : Type 0 where
  -- the records stand in the order of their IMSIs, within the room
  pub records_rise : rises (keys s.records) ≡ true
  pub fitting : length s.records ≤ s.room
  -- the dialogues stand in the order of their numbers, and at most 64 are open
  pub dialogues_rise : rises (keys s.dialogues) ≡ true
  pub few : length s.dialogues ≤ 64
  -- a dialogue stands at its own number, which is not above the last used
  pub its_number : (n : ℕ) (d : Dialogue) → at s.dialogues n ≡ Some d → d.number ≡ n
  pub numbered : (n : ℕ) (d : Dialogue) → at s.dialogues n ≡ Some d → n ≤ s.last
  -- none that is gone is kept
  pub still_open : (n : ℕ) (d : Dialogue) → at s.dialogues n ≡ Some d → is_gone d.stage ≡ false
  -- a dialogue is open only for a subscriber with a record
  pub on_record : (n : ℕ) (d : Dialogue) → at s.dialogues n ≡ Some d → holds s.records d.imsi ≡ true
  -- at most one dialogue of a kind is open for a subscriber
  pub one_of_a_kind : (m n : ℕ) (c d : Dialogue) → at s.dialogues m ≡ Some c → at s.dialogues n ≡ Some d → c.imsi ≡ d.imsi → c.kind ≡ d.kind → m ≡ n

-- a register is sound from its start on, whatever comes: an event in either form, or an invoke spent in either way
pub record StaysSound : Type 0 where
  pub at_start : (room last : ℕ) (several : Bool) → Sound (started room last several)
  pub after_event : (s : State) → Sound s → (e : Event) → Sound (after s e)
  pub after_spending : (s : State) → Sound s → (n : ℕ) (c : Comes) → Sound (spending_after s n c)
  pub after_bytes : (s : State) → Sound s → (input area : List ℕ) → Sound (received_after s input area)
