-- The numbers and the words of the refusals, case by case. Assumes nothing.
use Rattle.std.specs.Prelude.{ℕ, List, codes}
use Rattle.key.specs.declared.refusal.Refusal.{Refusal}
use Rattle.key.specs.declared.refusal.Refusal.TheVariants.{AreaTooShort, UnknownCode, InputTooShort, OutOfRange, StoreFull, TooManyDialogues, NumbersUsedUp, DialogueNotOpen, AlreadyAdmitted, BackUpTooSmall}

abbrev pub refusal_number : Refusal → ℕ
refusal_number AreaTooShort = 1
refusal_number UnknownCode = 2
refusal_number InputTooShort = 3
refusal_number OutOfRange = 4
refusal_number StoreFull = 5
refusal_number TooManyDialogues = 6
refusal_number NumbersUsedUp = 7
refusal_number DialogueNotOpen = 8
refusal_number AlreadyAdmitted = 9
refusal_number BackUpTooSmall = 10

-- and their words
abbrev pub refusal_text : Refusal → List ℕ
refusal_text AreaTooShort = codes "the answer area has under 16 bytes"
refusal_text UnknownCode = codes "the input is empty or starts with no event's code"
refusal_text InputTooShort = codes "the input ends before the operands do"
refusal_text OutOfRange = codes "an operand is outside its range"
refusal_text StoreFull = codes "the store is full"
refusal_text TooManyDialogues = codes "64 dialogues are open"
refusal_text NumbersUsedUp = codes "the last dialogue number has been used"
refusal_text DialogueNotOpen = codes "the dialogue is not open, or not yet sent"
refusal_text AlreadyAdmitted = codes "the subscriber is admitted already"
refusal_text BackUpTooSmall = codes "the back-up has too little room"
