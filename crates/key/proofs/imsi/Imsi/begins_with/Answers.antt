use Rattle.std.proofs.Common.{eqb, sym, ap, ◌∙◌}
use Rattle.key.proofs.Written.{begins-is}
use Rattle.key.proofs.imsi.Imsi.begins_with.Goals as goal

pub returns : goal.returns
returns c =
    let id = c.args.id in
    let imsi = c.args.self in
    ap (λ n. eqb n id.value) c.leading.ensures ∙ sym (begins-is imsi.number id.digits id.value imsi.fifteen id.most id.within)
