-- How many binary digits the numbers below a limit take. Assumes nothing.
use Rattle.std.specs.Prelude.{ℕ, ◌^◌, ◌≤◌}

-- so many digits suffice, and no fewer do; a number has one digit at least
pub record Digits (limit bits : ℕ) : Type 0 where
  pub some : 1 ≤ bits
  pub suffice : limit ≤ 2 ^ bits
  pub least : (fewer : ℕ) → 1 ≤ fewer → limit ≤ 2 ^ fewer → bits ≤ fewer
