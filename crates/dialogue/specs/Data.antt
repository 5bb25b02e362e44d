-- Subscriber data: which groups are known, and new ones over old ones. Assumes nothing.
use Rattle.std.specs.Prelude.{◌≡◌, ℕ, ◌<◌, ◌≤◌, Bool, true, false, cond, ◌&&◌, ◌==◌, Some, None, Ok, Err, Option, Result}
use Rattle.key.specs.declared.refusal.Refusal.{Refusal}
use Rattle.key.specs.declared.refusal.Refusal.TheVariants.{OutOfRange}
use Rattle.dialogue.specs.declared.data.Status.{Status}
use Rattle.dialogue.specs.declared.data.Status.TheVariants.{Granted, Barred}
use Rattle.dialogue.specs.declared.data.SubscriberData.{SubscriberData}

-- whether service is granted, by its number
abbrev pub status : ℕ → Status
status n = cond (n == 0) Granted Barred

abbrev pub StatusSays : ℕ → Result Status Refusal → Type 0
StatusSays n (Ok s) = (n < 2) × (s ≡ status n)
StatusSays n (Err e) = (2 ≤ n) × (e ≡ OutOfRange)

abbrev pub no_data : SubscriberData
no_data = record { subscriber = None; services = None; barring = None; restricted = None }

abbrev pub has : {A : Type 0} → Option A → Bool
has None = false
has (Some x) = true

-- the new one, or the old one where there is no new one
abbrev pub over : {A : Type 0} → Option A → Option A → Option A
over None old = old
over (Some x) old = Some x

abbrev pub data_over : SubscriberData → SubscriberData → SubscriberData
data_over new old = record {
  subscriber = over new.subscriber old.subscriber;
  services = over new.services old.services;
  barring = over new.barring old.barring;
  restricted = over new.restricted old.restricted;
}

-- groups A and B are there
abbrev pub is_complete : SubscriberData → Bool
is_complete d = has d.subscriber && has d.services
