use Rattle.std.proofs.Common.{◌≡◌, eqb}
use Rattle.dialogue.proofs.Sweep.{swept}
use Rattle.dialogue.proofs.table.Table.close_of.Given as goal

-- the rows so far are freed where they are the subscriber's
abbrev pub invariant-loop-row : goal.invariant-loop-row
invariant-loop-row l = l.row-items ≡ swept (λ r. eqb r.imsi l.imsi) l.row-index l.initial.row-items
