use Rattle.std.proofs.Common.{vec_len}
use Rattle.board.proofs.site.Site.withdraw_kept.Given as goal

abbrev pub decreases-loop-invoke : goal.decreases-loop-invoke
decreases-loop-invoke g l = vec_len l.self.kept
