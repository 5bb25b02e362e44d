-- What a key's number says of the key. Assumes nothing.
use Rattle.std.specs.Prelude.{◌≡◌, ℕ, ◌<◌, ◌≤◌, Some, None, Option}

-- what the number n is made into: the key of that number, or nothing where n reaches the limit
abbrev pub Made : {K : Type 0} → (K → ℕ) → ℕ → ℕ → Option K → Type 0
Made number limit n (Some k) = (number k ≡ n) × (n < limit)
Made number limit n None = limit ≤ n
