use Rattle.std.proofs.Common.{arith}
use Rattle.key.proofs.Written.{ten_some}
use Rattle.key.proofs.imsi.Imsi.leading.Goals as goal

pub nonzero_div-result : goal.nonzero_div-result
nonzero_div-result c = omega (arith, ten_some c.from-others.result)
