use Rattle.std.proofs.Common.{◌+◌, cond}
use Rattle.std.specs.Prelude.{is_some}
use Rattle.board.specs.Reading.{left}
use Rattle.board.proofs.play.Given as goal

abbrev pub decreases-loop-next : goal.decreases-loop-next
decreases-loop-next l = cond (is_some l.next) (left l.journal + 1) 0
