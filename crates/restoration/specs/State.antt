-- What a visitor register is, to those who ask it. Assumes nothing.
use Rattle.std.specs.Prelude.{ℕ, Bool, List, []}
use Rattle.dialogue.specs.Listed.{Open}
use Rattle.restoration.specs.declared.record.Record.{Record}

pub record State : Type 0 where
  -- the records by IMSI, which rise, and how many there is room for
  pub records : List (ℕ × Record)
  pub room : ℕ
  -- the open dialogues by number, and the last number used
  pub dialogues : Open
  pub last : ℕ
  -- it serves several MSCs, and not one
  pub several : Bool

abbrev pub started : ℕ → ℕ → Bool → State
started room last several = record { records = []; room = room; dialogues = []; last = last; several = several }
