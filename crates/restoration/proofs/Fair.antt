-- What a plan opens: a dialogue of a kind that is not open yet, for a subscriber that has a record then. Assumes nothing.
use Rattle.std.proofs.Common.{◌≡◌, ℕ, Bool, true, false, ◌||◌, Some, None, Option, sym, refl, ap, ◌∙◌}
use Rattle.std.proofs.lemmas.Option.{none-some, same_Some}
use Rattle.store.specs.Model.{holds}
use Rattle.store.proofs.Maps.{holds_from_some, holds_with_same}
use Rattle.event.specs.declared.answer.Kind.{Kind}
use Rattle.event.specs.declared.answer.Kind.TheVariants.{RestoreData, UpdateLocation, StandAlone}
use Rattle.event.specs.declared.answer.Reply.TheVariants.{UnidentifiedSubscriber}
use Rattle.restoration.specs.declared.record.Record.{Record}
use Rattle.restoration.specs.declared.record.Place.{Place}
use Rattle.restoration.specs.declared.record.Indicator.{Indicator}
use Rattle.restoration.specs.declared.record.Indicator.TheVariants.{NotConfirmed, Confirmed}
use Rattle.restoration.specs.declared.plan.Plan.{Plan}
use Rattle.restoration.specs.declared.contacts.Auth.{Auth}
use Rattle.restoration.specs.declared.contacts.Auth.TheVariants.{Failed, Passed}
use Rattle.restoration.specs.Records.{is_unconfirmed, or_made, only_made, contacted}
use Rattle.restoration.specs.Plans.{reply_only, unless_open, roaming_number_plan, contact_plan, at_place, moved_to, access_plan, outgoing_with, outgoing_plan, open_update, update_plan}
use Rattle.restoration.specs.State.{State}
use Rattle.restoration.specs.Steps.{keep, found, busy, provide, accessed, went_out, registered, updating}

-- a dialogue that is opened is the first of its kind, on a record
pub record Fair (s : State) (k : ℕ) (p : Plan) (kind : Kind) : Type 0 where
  pub first : busy s k kind ≡ false
  pub on_record : holds (keep s.records k p.kept) k ≡ true

-- the kind is opened only where it is not busy
opened_so : (wanted busy : Bool) (kind other : Kind) → unless_open wanted busy kind ≡ Some other → (busy ≡ false) × (kind ≡ other)
opened_so true true kind other h = absurd (none-some other h)
opened_so true false kind other h = (refl, same_Some kind other h)
opened_so false busy kind other h = absurd (none-some other h)

module _ (s : State) (k : ℕ) where
  abbrev pub OpensFairly : Plan → Type 0
  OpensFairly p = (kind : Kind) → p.opens ≡ Some kind → Fair s k p kind

  -- of a kind, on a record that is kept or stands
  fair : (p : Plan) (wanted : Bool) (kind : Kind) → p.opens ≡ unless_open wanted (busy s k kind) kind → holds (keep s.records k p.kept) k ≡ true → OpensFairly p
  fair p wanted kind is stands other h =
      let o = opened_so wanted (busy s k kind) kind other (sym is ∙ h) in
      record { first = ap (busy s k) (sym o.1) ∙ o.0; on_record = stands }

  -- a plan that opens nothing
  shut : (p : Plan) → p.opens ≡ None → OpensFairly p
  shut p off kind h = absurd (none-some kind (sym off ∙ h))

  pub fair_provide : OpensFairly (provide s k)
  fair_provide = go (found s k) refl
    where
      go : (old : Option Record) → found s k ≡ old → OpensFairly (roaming_number_plan s.several old (busy s k RestoreData))
      go None is = fair (roaming_number_plan s.several None (busy s k RestoreData)) true RestoreData refl (holds_with_same s.records k _)
      go (Some v) is = fair (roaming_number_plan s.several (Some v) (busy s k RestoreData)) (is_unconfirmed v.«data») RestoreData refl (holds_from_some s.records k v is)

  fair_contact : (only : Option Record) (v : Record) (auth : Auth) (place : Place) (wanted : Bool) → OpensFairly (contact_plan only v auth place wanted (busy s k UpdateLocation))
  fair_contact only v Failed place wanted = shut (contact_plan only v Failed place wanted (busy s k UpdateLocation)) refl
  fair_contact only v Passed place wanted = fair (contact_plan only v Passed place wanted (busy s k UpdateLocation)) wanted UpdateLocation refl (holds_with_same s.records k (contacted v place))

  pub fair_accessed : (auth : Auth) (msc area : ℕ) → OpensFairly (accessed s k auth msc area)
  fair_accessed auth msc area = go (found s k)
    where
      go : (old : Option Record) → OpensFairly (access_plan old auth msc area (busy s k UpdateLocation))
      go None = shut (reply_only UnidentifiedSubscriber) refl
      go (Some v) = fair_contact None v auth (at_place msc area) (is_unconfirmed v.location)

  pub fair_went_out : (auth : Auth) (msc : ℕ) → OpensFairly (went_out s k auth msc)
  fair_went_out auth msc = go (found s k)
    where
      known : (supply : Indicator) (v : Record) → OpensFairly (outgoing_with supply v auth msc (busy s k UpdateLocation))
      known NotConfirmed v = shut (reply_only UnidentifiedSubscriber) refl
      known Confirmed v = fair_contact None v auth (moved_to msc v.place) (is_unconfirmed v.location)

      go : (old : Option Record) → OpensFairly (outgoing_plan old auth msc (busy s k UpdateLocation))
      go None = shut (reply_only UnidentifiedSubscriber) refl
      go (Some v) = known v.«data» v

  pub fair_registered : (auth : Auth) (msc area : ℕ) → OpensFairly (registered s k auth msc area)
  fair_registered auth msc area = let old = found s k in fair_contact (only_made old) (or_made old) auth (at_place msc area) (is_unconfirmed (or_made old).location || is_unconfirmed (or_made old).«data»)

  pub fair_updating : OpensFairly (updating s k)
  fair_updating = go (found s k) refl
    where
      known : (b : Bool) (v : Record) → found s k ≡ Some v → busy s k StandAlone ≡ b → OpensFairly (open_update b)
      known true v is e other h = absurd (none-some other h)
      known false v is e other h = record { first = ap (busy s k) (sym (same_Some StandAlone other h)) ∙ e; on_record = holds_from_some s.records k v is }

      go : (old : Option Record) → found s k ≡ old → OpensFairly (update_plan old (busy s k StandAlone))
      go None is = shut (reply_only UnidentifiedSubscriber) refl
      go (Some v) is = known (busy s k StandAlone) v is refl
