-- No event but an End changes the groups of a record. Assumes nothing.
use Rattle.std.proofs.Common.{◌≡◌, ℕ, Bool, true, false, cond, ◌||◌, Some, None, Option, sym, refl, ap, ◌∙◌, inl, inr}
use Rattle.std.proofs.lemmas.Bool.{cases_Bool, cases_eq, both_ways}
use Rattle.key.specs.declared.refusal.Refusal.{Refusal}
use Rattle.key.specs.Figures.{begins}
use Rattle.store.specs.Model.{keys, rises, at, holds, with_entry, without, each_at}
use Rattle.store.proofs.Maps.{at_with_same, at_with_other, at-without_other, at_each}
use Rattle.store.proofs.Changes.{holds-without_same}
use Rattle.restoration.specs.declared.record.Record.{Record}
use Rattle.restoration.specs.declared.record.Place.{Place}
use Rattle.restoration.specs.declared.record.Indicator.{Indicator}
use Rattle.restoration.specs.declared.record.Indicator.TheVariants.{NotConfirmed, Confirmed}
use Rattle.restoration.specs.declared.plan.Plan.{Plan}
use Rattle.restoration.specs.declared.contacts.Auth.{Auth}
use Rattle.restoration.specs.declared.contacts.Auth.TheVariants.{Failed, Passed}
use Rattle.restoration.specs.Records.{is_unconfirmed, only_made, or_made, relocated}
use Rattle.restoration.specs.Plans.{record_data, contact_plan, roaming_number_plan, at_place, moved_to, access_plan, outgoing_with, outgoing_plan, registration_plan, update_plan}
use Rattle.restoration.specs.State.{State}
use Rattle.restoration.specs.Steps.{keep, found, busy, refusal, same_if_refused, done, planned_after, reset_one, reset_after, cancel_after}

-- the record to keep has the groups of the old one, and none where there was none
abbrev pub AddsNothing : Option Record → Option Record → Type 0
AddsNothing old None = Unit {0}
AddsNothing old (Some v) = v.subscriber ≡ record_data old

pub plain-provide : (several : Bool) (old : Option Record) (busy : Bool) → AddsNothing old (roaming_number_plan several old busy).kept
plain-provide several None busy = refl
plain-provide several (Some v) busy = tt

contacting : (old only : Option Record) (v : Record) (auth : Auth) (place : Place) (wanted busy : Bool) → AddsNothing old only → v.subscriber ≡ record_data old → AddsNothing old (contact_plan only v auth place wanted busy).kept
contacting old only v Failed place wanted busy a b = a
contacting old only v Passed place wanted busy a b = b

pub plain-access : (old : Option Record) (auth : Auth) (msc area : ℕ) (busy : Bool) → AddsNothing old (access_plan old auth msc area busy).kept
plain-access None auth msc area busy = tt
plain-access (Some v) auth msc area busy = contacting (Some v) None v auth (at_place msc area) (is_unconfirmed v.location) busy tt refl

outgoing_by : (supply : Indicator) (v : Record) (auth : Auth) (msc : ℕ) (busy : Bool) → AddsNothing (Some v) (outgoing_with supply v auth msc busy).kept
outgoing_by NotConfirmed v auth msc busy = tt
outgoing_by Confirmed v auth msc busy = contacting (Some v) None v auth (moved_to msc v.place) (is_unconfirmed v.location) busy tt refl

pub plain-outgoing : (old : Option Record) (auth : Auth) (msc : ℕ) (busy : Bool) → AddsNothing old (outgoing_plan old auth msc busy).kept
plain-outgoing None auth msc busy = tt
plain-outgoing (Some v) auth msc busy = outgoing_by v.«data» v auth msc busy

pub plain-registration : (old : Option Record) (auth : Auth) (msc area : ℕ) (busy : Bool) → AddsNothing old (registration_plan old auth msc area busy).kept
plain-registration None auth msc area busy = contacting None (only_made None) (or_made None) auth (at_place msc area) true busy refl refl
plain-registration (Some v) auth msc area busy = contacting (Some v) None v auth (at_place msc area) (is_unconfirmed v.location || is_unconfirmed v.«data») busy tt refl

pub plain_update : (old : Option Record) (busy : Bool) → AddsNothing old (update_plan old busy).kept
plain_update None busy = tt
plain_update (Some v) true = tt
plain_update (Some v) false = tt

module _ (s : State) (q : ℕ) where
  pub kept-plain : (k : ℕ) (kept : Option Record) → AddsNothing (found s k) kept → record_data (at (keep s.records k kept) q) ≡ record_data (found s q)
  kept-plain k None plain = refl
  kept-plain k (Some v) plain =
      elim (cases_eq q k) [
        | inl e ↦ ap (λ x. record_data (at (with_entry s.records k v) x)) e ∙ ap record_data (at_with_same s.records k v) ∙ plain ∙ ap (λ x. record_data (found s x)) (sym e)
        | inr ne ↦ ap record_data (at_with_other s.records k q v ne)
      ]

  pub planned_plain : (k : ℕ) (p : Plan) → AddsNothing (found s k) p.kept → record_data (found (planned_after s k p) q) ≡ record_data (found s q)
  planned_plain k p plain = by (refusal s k p)
    where
      by : (o : Option Refusal) → record_data (found (same_if_refused o s (done s k p)) q) ≡ record_data (found s q)
      by None = kept-plain k p.kept plain
      by (Some x) = refl

  pub reset-plain : (digits value : ℕ) → record_data (found (reset_after s digits value) q) ≡ record_data (found s q)
  reset-plain digits value = ap record_data (at_each (reset_one digits value) s.records q) ∙ by (found s q)
    where
      one : (b : Bool) (v : Record) → record_data (Some (cond b (relocated NotConfirmed v) v)) ≡ record_data (Some v)
      one true v = refl
      one false v = refl

      by : (o : Option Record) → record_data (each_at (reset_one digits value) q o) ≡ record_data o
      by None = refl
      by (Some v) = one (begins q digits value) v

  -- a record that still stands was not the one cancelled
  pub cancel-plain : (k : ℕ) → rises (keys s.records) ≡ true → holds (cancel_after s k).records q ≡ true → record_data (found (cancel_after s k) q) ≡ record_data (found s q)
  cancel-plain k up h =
      elim (cases_Bool (holds s.records k)) [
        | inl t ↦
            let stands : holds (without s.records k) q ≡ true = rw t at h in
            let kept : record_data (at (without s.records k) q) ≡ record_data (found s q) = ap record_data (at-without_other s.records k q (λ e. both_ways (holds (without s.records k) q) (ap (holds (without s.records k)) e ∙ holds-without_same s.records k up) stands)) in
            rw t kept
        | inr f ↦ rw f refl
      ]
