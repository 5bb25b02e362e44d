-- A good end leaves a record with groups A and B, and any other leaves its groups as they were. Assumes nothing.
use Rattle.std.proofs.Common.{◌≡◌, ℕ, Bool, true, false, not, ◌&&◌, eqb, Some, None, Ok, Err, Option, Result, sym, refl, ap, ◌∙◌, subst, inl, inr, eq-eqb, ne_eqb}
use Rattle.std.proofs.lemmas.Bool.{cases_eq, and_parts, and_left, and_right, both_ways}
use Rattle.key.specs.declared.refusal.Refusal.{Refusal}
use Rattle.store.specs.Model.{at, holds}
use Rattle.store.proofs.Maps.{at_with_same, at_with_other, holds_from_none}
use Rattle.event.specs.declared.answer.Kind.{Kind}
use Rattle.event.specs.declared.answer.Kind.TheVariants.{RestoreData, UpdateLocation, StandAlone}
use Rattle.dialogue.specs.declared.data.SubscriberData.{SubscriberData}
use Rattle.dialogue.specs.declared.row.Dialogue.{Dialogue}
use Rattle.dialogue.specs.declared.row.Met.{Met}
use Rattle.dialogue.specs.declared.row.Met.TheVariants as met
use Rattle.dialogue.specs.Dialogues as comes
use Rattle.dialogue.specs.Dialogues.{outcome}
use Rattle.dialogue.specs.Data.{is_complete}
use Rattle.restoration.specs.declared.record.Record.{Record}
use Rattle.restoration.specs.declared.updates.Outcome.{Outcome}
use Rattle.restoration.specs.Plans.{record_data, resulting_data, is_rejected, is_well, is_good, end_reply, well_ended, ill_ended, ended, end_plan}
use Rattle.restoration.specs.State.{State}
use Rattle.restoration.specs.Steps.{keep, found, or_out_of_range, same_unless, end_of, end_said, end_in, end_left, end_on, end_answer, end_after}
use Rattle.restoration.specs.Complete.{is_done, says_done, is_for}

-- the groups after a step that was a good end, or was none
pub record Supplied (good : Bool) (before now : SubscriberData) : Type 0 where
  pub whole : good ≡ true → is_complete now ≡ true
  pub same : good ≡ false → now ≡ before

pub unsupplied : {good : Bool} {before now : SubscriberData} → good ≡ false → now ≡ before → Supplied good before now
unsupplied {good} off is = record { whole = λ t. absurd (both_ways good off t); same = λ f. is }

read_as : {good told : Bool} {before now : SubscriberData} → told ≡ good → Supplied good before now → Supplied told before now
read_as e p = record { whole = λ t. p.whole (sym e ∙ t); same = λ f. p.same (sym e ∙ f) }

-- only a good end is answered with 0
reply_good : (good well rejected : Bool) → is_done (end_reply good well rejected) ≡ good
reply_good true well rejected = refl
reply_good false false rejected = refl
reply_good false true true = refl
reply_good false true false = refl

good_complete : (d : Dialogue) (how : Outcome) (old : Option Record) → is_good d how old ≡ true → is_complete (resulting_data d.kind d.draft old) ≡ true
good_complete d how old t = (and_parts (not (is_rejected d.stage)) (is_complete (resulting_data d.kind d.draft old)) (and_parts (is_well how) _ t).1).1

well_data : (kind : Kind) (subscriber : SubscriberData) (v : Record) → (well_ended kind subscriber v).subscriber ≡ subscriber
well_data RestoreData subscriber v = refl
well_data UpdateLocation subscriber v = refl
well_data StandAlone subscriber v = refl

module _ (s : State) (k : ℕ) where
  ill_data : (kind : Kind) (v : Record) → found s k ≡ Some v → record_data (at (keep s.records k (ill_ended kind v)) k) ≡ v.subscriber
  ill_data RestoreData v is = ap record_data is
  ill_data UpdateLocation v is = ap record_data is
  ill_data StandAlone v is = ap record_data (at_with_same s.records k _)

  -- the record that stood
  ended_data : (kind : Kind) (good : Bool) (subscriber : SubscriberData) (v : Record) → found s k ≡ Some v → (good ≡ true → is_complete subscriber ≡ true) → Supplied good v.subscriber (record_data (at (keep s.records k (ended kind good subscriber (Some v))) k))
  ended_data kind true subscriber v is full = record { whole = λ t. ap (λ o. is_complete (record_data o)) (at_with_same s.records k (well_ended kind subscriber v)) ∙ ap is_complete (well_data kind subscriber v) ∙ full refl; same = λ f. absurd (both_ways true f refl) }
  ended_data kind false subscriber v is full = unsupplied refl (ill_data kind v is)

module _ (s : State) (d : Dialogue) (how : Outcome) where
  -- the subscriber's own record
  own : (old : Option Record) → found s d.imsi ≡ old → holds (keep s.records d.imsi (end_plan d how old).kept) d.imsi ≡ true → Supplied (is_done (end_plan d how old).reply) (record_data old) (record_data (at (keep s.records d.imsi (end_plan d how old).kept) d.imsi))
  own None is stands = absurd (both_ways (holds s.records d.imsi) (holds_from_none s.records d.imsi is) stands)
  own (Some v) is stands =
      let good = is_good d how (Some v) in
      read_as (reply_good good (is_well how) (is_rejected d.stage)) (ended_data s d.imsi d.kind good (resulting_data d.kind d.draft (Some v)) v is (good_complete d how (Some v)))

  other : (q : ℕ) (kept : Option Record) → (q ≡ d.imsi → ⊥) → at (keep s.records d.imsi kept) q ≡ found s q
  other q None ne = refl
  other q (Some v) ne = at_with_other s.records d.imsi q v ne

  left : (q : ℕ) → holds (keep s.records d.imsi (end_of s d how).kept) q ≡ true → Supplied (eqb d.imsi q && is_done (end_of s d how).reply) (record_data (found s q)) (record_data (at (keep s.records d.imsi (end_of s d how).kept) q))
  left q stands =
      let es = keep s.records d.imsi (end_of s d how).kept in
      let done = is_done (end_of s d how).reply in
      elim (cases_eq q d.imsi) [
        | inl e ↦
            subst (λ x. Supplied (eqb d.imsi x && done) (record_data (found s x)) (record_data (at es x))) (sym e)
            (read_as (ap (λ b. b && done) (eq-eqb d.imsi d.imsi refl)) (own (found s d.imsi) refl (ap (holds es) (sym e) ∙ stands)))
        | inr ne ↦ unsupplied (and_left (eqb d.imsi q) done (ne_eqb d.imsi q (λ e. ne (sym e)))) (ap record_data (other q (end_of s d how).kept ne))
      ]

module _ (s : State) (n : ℕ) (how : Outcome) (q : ℕ) where
  by_met : (m : Result Met Refusal) (d : Dialogue) → holds (end_left s m n d how).records q ≡ true → Supplied (eqb d.imsi q && says_done (end_said s m d how)) (record_data (found s q)) (record_data (found (end_left s m n d how) q))
  by_met (Err e) d stands = unsupplied (and_right (eqb d.imsi q) false refl) refl
  by_met (Ok met.Sent) d stands = unsupplied (and_right (eqb d.imsi q) false refl) refl
  by_met (Ok met.Withdrawn) d stands = unsupplied (and_right (eqb d.imsi q) false refl) refl
  by_met (Ok (met.Taken ignored)) d stands = unsupplied (and_right (eqb d.imsi q) false refl) refl
  by_met (Ok met.Rejected) d stands = unsupplied (and_right (eqb d.imsi q) false refl) refl
  by_met (Ok met.Ended) d stands = left s d how q stands

  by_dialogue : (b : Bool) (o : Option Dialogue) → holds (same_unless b s (end_on s n o how)).records q ≡ true → Supplied (is_for q o && says_done (or_out_of_range b (end_in s o how))) (record_data (found s q)) (record_data (found (same_unless b s (end_on s n o how)) q))
  by_dialogue false o stands = unsupplied (and_right (is_for q o) false refl) refl
  by_dialogue true None stands = unsupplied refl refl
  by_dialogue true (Some d) stands = by_met (outcome d comes.end) d stands

  pub end_supplies : (b : Bool) → holds (same_unless b s (end_after s n how)).records q ≡ true → Supplied (is_for q (at s.dialogues n) && says_done (or_out_of_range b (end_answer s n how))) (record_data (found s q)) (record_data (found (same_unless b s (end_after s n how)) q))
  end_supplies b = by_dialogue b (at s.dialogues n)
