-- Numbers in a fixed count of figures, the highest first: bytes are figures of base 256, digits of base 10. Assumes nothing.
use Rattle.std.specs.Prelude.{ℕ, zero, suc, ◌/◌, ◌%◌, ◌^◌, Bool, true, false, ◌&&◌, List, [], ◌∷◌, ◌++◌, take, drop, ◌==◌, nat_le, nat_lt}
use Rattle.std.specs.Int.Digits.{number_from_digits}

-- the number n in w figures
unfoldable pub figures : ℕ → ℕ → ℕ → List ℕ
figures base zero n = []
figures base (suc w) n = figures base w (n / base) ++ (n % base ∷ [])

-- the number n in w bytes
abbrev pub in_bytes : ℕ → ℕ → List ℕ
in_bytes w n = figures 256 w n

-- the number in the w bytes from place i on
unfoldable pub number_at : ℕ → ℕ → List ℕ → ℕ
number_at w i s = number_from_digits 256 (take w (drop i s))

-- the fifteen digits of an IMSI
abbrev pub imsi_digits : ℕ → List ℕ
imsi_digits imsi = figures 10 15 imsi

-- the same numbers in the same order
unfoldable pub alike : List ℕ → List ℕ → Bool
alike [] [] = true
alike [] (y ∷ ys) = false
alike (x ∷ xs) [] = false
alike (x ∷ xs) (y ∷ ys) = x == y && alike xs ys

-- an IMSI begins with the digits that write a value
unfoldable pub begins : ℕ → ℕ → ℕ → Bool
begins imsi count value = alike (take count (imsi_digits imsi)) (figures 10 count value)

-- an HLR-Id has five to fifteen digits, and its value takes no more
abbrev pub is_hlr_id : ℕ → ℕ → Bool
is_hlr_id count value = nat_le 5 count && (nat_le count 15 && nat_lt value (10 ^ count))
