-- The answers of `of`. Assumes nothing.
use Rattle.std.proofs.Common.{◌≡◌, ℕ, ap, ◌+◌, ◌^◌, ◌<◌, ◌≤◌, ⊎_elim, arith}
use Rattle.std.proofs.lemmas.Bool.{cases_lt}
use Rattle.std.proofs.lemmas.Nat.{pow_below}
use native.Mathlib.Nat.{two-pow-succ}
use Rattle.tree.proofs.width.Width.of.Goals as goal

shorter : (i j : ℕ) → i ≤ j → 2 ^ i ≤ 2 ^ j
shorter i j le = ⊎_elim (λ (lt : i < j). let h = pow_below i j lt in omega arith) (λ (ge : j ≤ i). let e : i ≡ j = omega arith in let h = ap (λ (x : ℕ). 2 ^ x) e in omega arith) (cases_lt i j)

pub returns : goal.returns
returns c =
    let highest = c.ilog2-highest.result in
    let e = c.ilog2-highest.ensures in
    record {
      some = omega arith;
      suffice = omega (arith, two-pow-succ highest);
      least = λ fewer some enough. ⊎_elim
          (λ (lt : fewer < highest + 1). ⊎_elim
          (λ (some_bits : 0 < highest). let big = pow_below 0 highest some_bits in let less = shorter fewer highest (omega arith) in absurd (omega arith))
          (λ (none : highest ≤ 0). omega arith)
          (cases_lt 0 highest))
          (λ (le : highest + 1 ≤ fewer). le)
          (cases_lt fewer (highest + 1));
    }
