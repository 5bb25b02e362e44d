use Rattle.std.proofs.Common.{arith}
use Rattle.event.proofs.Exact.{laid_as_read}
use Rattle.event.proofs.decoding.decode.Goals as goal

pub returns-clause-exactly_laid : goal.returns-clause-exactly_laid
returns-clause-exactly_laid c = laid_as_read c.args.input.now _ c.read_front.ensures (λ i. let byte = c.type_inv.input i in omega arith)
