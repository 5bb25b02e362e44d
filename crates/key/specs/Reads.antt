-- What a key is read as. Assumes nothing.
use Rattle.std.specs.Prelude.{◌≡◌, ℕ, ◌<◌, ◌≤◌, cond, List, length, take, Some, None, Ok, Err, Option, Result, nat_lt}
use Rattle.std.specs.Int.Digits.{number_from_digits}
use Rattle.key.specs.declared.refusal.Refusal.{Refusal}
use Rattle.key.specs.declared.refusal.Refusal.TheVariants.{InputTooShort, OutOfRange}
use Rattle.key.specs.declared.hlr_id.HlrId.{HlrId}
use Rattle.key.specs.declared.imsi.Imsi.{Imsi}

-- the key by its number
abbrev pub by_number : {K : Type 0} → (K → ℕ) → Result K Refusal → Result ℕ Refusal
by_number f (Ok k) = Ok (f k)
by_number f (Err e) = Err e

-- the big-endian number in the first bytes, where there are so many and it is below the limit
abbrev pub key_read : ℕ → ℕ → List ℕ → Result ℕ Refusal
key_read octets limit input =
    cond (nat_lt (length input) octets) (Err InputTooShort)
    (cond (nat_lt (number_from_digits 256 (take octets input)) limit) (Ok (number_from_digits 256 (take octets input))) (Err OutOfRange))

-- an HLR-Id by its count of digits and its value
abbrev pub by_digits : Option HlrId → Option (ℕ × ℕ)
by_digits None = None
by_digits (Some id) = Some (id.digits, id.value)

-- the IMSI of a number, or a refusal where no IMSI has it
abbrev pub ImsiOf : ℕ → Result Imsi Refusal → Type 0
ImsiOf n (Ok imsi) = (imsi.number ≡ n) × (n < 1000000000000000)
ImsiOf n (Err e) = (e ≡ OutOfRange) × (1000000000000000 ≤ n)
