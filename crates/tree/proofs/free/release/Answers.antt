-- The answers of `release`. Assumes nothing.
use Rattle.tree.proofs.Writes.{released}
use Rattle.tree.proofs.free.release.Goals as goal

pub returns : goal.returns
returns g c = released c.args.nodes.now c.args.m c.args.free _ c.requires
