-- There is room for the record that an end leaves. Assumes nothing.
use Rattle.std.proofs.Common.{◌≡◌, ℕ, Bool, true, Some, None, Option, Result, IsOk, arith, refl, ap, ◌∙◌}
use Rattle.event.specs.declared.answer.Kind.{Kind}
use Rattle.store.specs.Model.{takes}
use Rattle.store.proofs.Maps.{takes-some}
use Rattle.dialogue.specs.declared.data.SubscriberData.{SubscriberData}
use Rattle.dialogue.specs.declared.row.Dialogue.{Dialogue}
use Rattle.restoration.specs.declared.record.Record.{Record}
use Rattle.restoration.specs.declared.updates.Outcome.{Outcome}
use Rattle.restoration.specs.declared.plan.Plan.{Plan}
use Rattle.restoration.specs.State.{State}
use Rattle.restoration.specs.Plans.{ended, end_plan, is_good, resulting_data}
use Rattle.key.specs.declared.refusal.Refusal.{Refusal}
use Rattle.visitor.specs.Register.{KeepSays}
use Rattle.restoration.specs.Steps.{has_room, found}

held-room : (s : State) (k : ℕ) (kept : Option Record) → takes s.room s.records k ≡ true → has_room s k kept ≡ true
held-room s k None h = refl
held-room s k (Some v) h = h

-- only a record that is there is changed
ended-room : (s : State) (kind : Kind) (good : Bool) (subscriber : SubscriberData) (k : ℕ) (old : Option Record) → found s k ≡ old → has_room s k (ended kind good subscriber old) ≡ true
ended-room s kind good subscriber k None h = refl
ended-room s kind good subscriber k (Some v) h = held-room s k (ended kind good subscriber (Some v)) (takes-some s.room s.records k v h)

-- so what an end leaves is kept
pub end_kept : {T : Type 0} (d : Dialogue) (how : Outcome) (s : State) (k : ℕ) (p : Plan) (r : Result T Refusal) (now : State) → KeepSays s k p.kept r now → p ≡ end_plan d how (found s k) → IsOk r
end_kept d how s k p r now says planned =
    let old = found s k in
    let room : has_room s k p.kept ≡ true = ap (λ (q : Plan). has_room s k q.kept) planned ∙ ended-room s d.kind (is_good d how old) (resulting_data d.kind d.draft old) k old refl in
    grind arith
