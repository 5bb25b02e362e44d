-- What a single write leaves. Assumes nothing.
use Rattle.std.proofs.Common.{ℕ, ◌<◌, List, length, get_or, set, Option, arith}
use Rattle.std.proofs.lemmas.Grind.{common_steps}
use Rattle.std.proofs.lemmas.Option.{slice_get-get_or, gets}
use Rattle.tree.specs.declared.links.Side.TheVariants.{Left}
use Rattle.tree.specs.declared.node.Node.{Node}
use Rattle.tree.specs.Writes.{Released, with_link}

pub released : {V : Type 0} (ns : List (Node V)) (m : ℕ) (free : Option ℕ) (d : Node V) → m < length ns → Released ns (set ns m (with_link Left free (get_or ns m d))) m free
released ns m free d lt = record { freed = (get_or ns m d, slice_get-get_or ns m d lt, grind (arith, common_steps, gets)); kept = λ x o. grind (arith, common_steps, gets) }
