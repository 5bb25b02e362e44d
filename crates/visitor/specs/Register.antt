-- What the inner calls of a register say. Assumes nothing.
use Rattle.std.specs.Prelude.{◌≡◌, ℕ, true, false, Ok, Err, Option, Result}
use Rattle.key.specs.declared.refusal.Refusal.{Refusal}
use Rattle.key.specs.declared.refusal.Refusal.TheVariants.{StoreFull}
use Rattle.restoration.specs.declared.record.Record.{Record}
use Rattle.event.specs.declared.answer.Answer.{Answer}
use Rattle.restoration.specs.declared.plan.Plan.{Plan}
use Rattle.store.specs.Model.{Lawful}
use Rattle.dialogue.specs.Listed.{Orderly}
use Rattle.restoration.specs.State.{State}
use Rattle.restoration.specs.Steps.{planned_answer, planned_after, keep, has_room}

-- what holds of every register: of its records what holds of every store's, of its dialogues what holds of every table's
pub record Regular (s : State) : Type 0 where
  pub records : Lawful 1000000000000000 s.room s.records
  pub dialogues : Orderly (record { by_number = s.dialogues; last = s.last })

-- whether a record would be taken
abbrev pub FitsSays : {T : Type 0} → State → ℕ → Option Record → Result T Refusal → Type 0
FitsSays s k kept (Ok _) = has_room s k kept ≡ true
FitsSays s k kept (Err e) = (e ≡ StoreFull) × (has_room s k kept ≡ false)

-- that it is kept, or why not
abbrev pub KeepSays : {T : Type 0} → State → ℕ → Option Record → Result T Refusal → State → Type 0
KeepSays s k kept (Ok _) t = (has_room s k kept ≡ true) × (t ≡ record s { records = keep s.records k kept })
KeepSays s k kept (Err e) t = (e ≡ StoreFull) × (has_room s k kept ≡ false) × (t ≡ s)

-- a plan that is such was carried out, or turned down
pub record Carried (s : State) (k : ℕ) (IsPlan : Plan → Type 0) (answer : Result Answer Refusal) (t : State) : Type 0 where
  pub plan : Plan
  pub is : IsPlan plan
  pub answered : answer ≡ planned_answer s k plan
  pub left : t ≡ planned_after s k plan
