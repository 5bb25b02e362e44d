use Rattle.std.proofs.Common.{ap, ◌∙◌}
use Rattle.restoration.specs.Plans.{end_plan}
use Rattle.visitor.proofs.Ends.{end_kept}
use Rattle.visitor.proofs.register.Vlr.end.Goals as goal

-- the store cannot be full for a record that it has
pub unwrap-requires : goal.unwrap-requires
unwrap-requires g c =
    end_kept c.in_ok-row.row c.args.outcome _ _ c.plan_end-plan.result _ _ c.keep.ensures.kept (c.plan_end-plan.ensures ∙ ap (end_plan c.in_ok-row.row c.args.outcome) c.find-2.ensures)
