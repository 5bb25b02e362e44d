-- An answer with the invoke that it hands out. Assumes nothing.
use Rattle.std.specs.Prelude.{ℕ, false, Result}
use Rattle.std.specs.Option.{option_map}
use Rattle.std.specs.Result.{result_map_both}
use Rattle.key.specs.declared.refusal.Refusal.{Refusal}
use Rattle.event.specs.declared.answer.Answer.{Answer}
use Rattle.restoration.specs.Steps.{handed}
use Rattle.visitor.specs.declared.invoke.Invoke.{Invoke}
use Rattle.visitor.specs.declared.invoke.Handed.{Handed}

-- the invoke of a dialogue, not spent yet
abbrev pub fresh : ℕ → Invoke
fresh n = record { dialogue = n; spent = false }

abbrev pub hand : Answer → Handed
hand a = record { answer = a; invoke = option_map fresh (handed a.opened) }

-- an event's answer in the direct form
abbrev pub direct : Result Answer Refusal → Result Handed Refusal
direct r = result_map_both hand (λ e. e) r
