-- The answers of `over`. Assumes nothing.
use Rattle.std.proofs.Common.{ℕ, subst, arith}
use Rattle.tree.specs.Digits.{Digits}
use Rattle.tree.proofs.Keeps.{cleared}
use Rattle.tree.proofs.search_tree.SearchTree.over.Goals as goal

pub invariant_of-result : goal.invariant_of-result
invariant_of-result g c =
    let v = c.truncate.new.self in
    let digits = subst (λ (n : ℕ). Digits n c.of.result.bits) c.LIMIT.ensures c.of.ensures in
    let u = cleared g.K.Key.LIMIT v.items c.of.result c.empty.result c.empty.ensures (omega (arith, v.ok.0, c.truncate.ensures.len)) digits in
    record { sound = ∣ u.0 ∣₁; counted = u.1 }
