use Rattle.std.proofs.Common.{◌≡◌, Bool, true, false, cond, Some, None, Ok, Err, Option, Result, refl, ap, ◌∙◌, rules}
use Rattle.std.specs.Option.{option_map, option_and_then}
use Rattle.event.specs.declared.answer.Kind.{Kind}
use Rattle.event.specs.declared.answer.Reply.{Reply}
use Rattle.event.specs.declared.answer.Reply.TheVariants.{Done}
use Rattle.event.specs.declared.answer.Handling.TheVariants.{Nothing}
use Rattle.dialogue.specs.declared.data.SubscriberData.{SubscriberData}
use Rattle.dialogue.specs.declared.row.Dialogue.{Dialogue}
use Rattle.restoration.specs.declared.record.Record.{Record}
use Rattle.restoration.specs.declared.plan.Plan.{Plan}
use Rattle.restoration.specs.declared.updates.Outcome.{Outcome}
use Rattle.restoration.specs.Plans.{resulting_data, is_rejected, is_well, is_good, end_reply, data_at_end, well_ended, ill_ended, ended, end_plan}
use Rattle.restoration.proofs.updates.plan_end.Goals as goal

abbrev plan : Option Record → Reply → Plan
plan kept' reply = record { kept = kept'; reply = reply; handling = Nothing; opens = None }

-- the plan, by the data that the end leaves
abbrev planned : Kind → Option Record → Result SubscriberData Reply → Plan
planned kind old (Ok subscriber) = plan (option_map (well_ended kind subscriber) old) Done
planned kind old (Err reply) = plan (option_and_then (ill_ended kind) old) reply

by_good : (kind : Kind) (good well rejected : Bool) (subscriber : SubscriberData) (old : Option Record) → planned kind old (cond good (Ok subscriber) (Err (end_reply false well rejected))) ≡ plan (ended kind good subscriber old) (end_reply good well rejected)
by_good kind true well rejected subscriber None = refl
by_good kind true well rejected subscriber (Some v) = refl
by_good kind false well rejected subscriber None = refl
by_good kind false well rejected subscriber (Some v) = refl

ends : (d : Dialogue) (how : Outcome) (old : Option Record) → planned d.kind old (data_at_end d how old) ≡ end_plan d how old
ends d how old = by_good d.kind (is_good d how old) (is_well how) (is_rejected d.stage) (resulting_data d.kind d.draft old) old

pub returns-in-Ok : goal.returns-in-Ok
returns-in-Ok c =
    let d = c.args.dialogue in
    let old = c.args.old in
    let kept' : c.map.result ≡ option_map (well_ended d.kind c.in-Ok.subscriber) old = search rules in
    ap (λ p. record { kept = c.map.result; reply = p.reply; handling = p.handling; opens = p.opens }) c.reply_only.ensures ∙ ap (λ k. plan k Done) kept' ∙ ap (planned d.kind old) c.in-Ok.ensures ∙ ends d c.args.outcome old

pub returns-in-Err : goal.returns-in-Err
returns-in-Err c =
    let d = c.args.dialogue in
    let old = c.args.old in
    let kept' : c.and_then.result ≡ option_and_then (ill_ended d.kind) old = search rules in
    ap (λ p. record { kept = c.and_then.result; reply = p.reply; handling = p.handling; opens = p.opens }) c.reply_only-in-Err.ensures ∙ ap (λ k. plan k c.in-Err.reply) kept' ∙ ap (planned d.kind old) c.in-Err.ensures ∙ ends d c.args.outcome old
