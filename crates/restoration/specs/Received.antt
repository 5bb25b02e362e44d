-- An event in bytes: what it is answered, what it leaves, and what the answer area holds then. Assumes nothing.
use Rattle.std.specs.Prelude.{ℕ, Bool, true, false, List, length, Ok, Err, Result, nat_lt}
use Rattle.key.specs.declared.refusal.Refusal.{Refusal}
use Rattle.key.specs.declared.refusal.Refusal.TheVariants.{AreaTooShort}
use Rattle.event.specs.declared.answer.Answer.{Answer}
use Rattle.event.specs.Answers.{written_into}
use Rattle.event.specs.Decoding.{Reading, decoded}
use Rattle.restoration.specs.declared.received.Received.{Received}
use Rattle.restoration.specs.State.{State}
use Rattle.restoration.specs.Steps.{answered, after, sent_out}

-- the length that was read and the answer, where the event is accepted
abbrev pub with_length : ℕ → Result Answer Refusal → Result Received Refusal
with_length n (Ok a) = Ok (record { length = n; answer = a })
with_length n (Err e) = Err e

-- by what the bytes are read as
abbrev pub reading_answer : State → Reading → Result Received Refusal
reading_answer s (Ok (e, n)) = with_length n (answered s e)
reading_answer s (Err x) = Err x

abbrev pub reading_after : State → Reading → State
reading_after s (Ok (e, n)) = sent_out (answered s e) (after s e)
reading_after s (Err x) = s

-- the area takes the answer, if there is one
abbrev pub answer_in : List ℕ → Result Answer Refusal → List ℕ
answer_in area (Ok a) = written_into area a
answer_in area (Err e) = area

abbrev pub reading_area : State → Reading → List ℕ → List ℕ
reading_area s (Ok (e, n)) area = answer_in area (answered s e)
reading_area s (Err x) area = area

-- an area that is too short is refused before anything is read
abbrev pub if_area : {A : Type 0} → Bool → A → A → A
if_area true short long = short
if_area false short long = long

abbrev pub received : State → List ℕ → List ℕ → Result Received Refusal
received s input area = if_area (nat_lt (length area) 16) (Err AreaTooShort) (reading_answer s (decoded input))

abbrev pub received_after : State → List ℕ → List ℕ → State
received_after s input area = if_area (nat_lt (length area) 16) s (reading_after s (decoded input))

abbrev pub received_area : State → List ℕ → List ℕ → List ℕ
received_area s input area = if_area (nat_lt (length area) 16) area (reading_area s (decoded input) area)
