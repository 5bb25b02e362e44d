-- What the operands of an event stand for that are numbers. Assumes nothing.
use Rattle.std.specs.Prelude.{◌≡◌, ℕ, true, false, cond, ◌==◌, nat_lt, Ok, Err, Result}
use Rattle.key.specs.declared.refusal.Refusal.{Refusal}
use Rattle.key.specs.declared.refusal.Refusal.TheVariants.{OutOfRange}
use Rattle.restoration.specs.declared.contacts.Auth.{Auth}
use Rattle.restoration.specs.declared.contacts.Auth.TheVariants.{Failed, Passed}
use Rattle.restoration.specs.declared.updates.Outcome.{Outcome}
use Rattle.restoration.specs.declared.updates.Outcome.TheVariants.{Well, NotWell}

-- how authentication went
abbrev pub auth_of : ℕ → Auth
auth_of n = cond (n == 0) Failed Passed

abbrev pub AuthSays : ℕ → Result Auth Refusal → Type 0
AuthSays n (Ok a) = (a ≡ auth_of n) × (nat_lt n 2 ≡ true)
AuthSays n (Err e) = (e ≡ OutOfRange) × (nat_lt n 2 ≡ false)

-- how a dialogue ended
abbrev pub outcome_of : ℕ → Outcome
outcome_of n = cond (n == 0) Well NotWell

abbrev pub OutcomeSays : ℕ → Result Outcome Refusal → Type 0
OutcomeSays n (Ok o) = (o ≡ outcome_of n) × (nat_lt n 2 ≡ true)
OutcomeSays n (Err e) = (e ≡ OutOfRange) × (nat_lt n 2 ≡ false)
