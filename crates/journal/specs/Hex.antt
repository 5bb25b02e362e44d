-- Hexadecimal digits, as characters' codes. Assumes nothing.
use Rattle.std.specs.Prelude.{ℕ, ◌+◌, ◌-◌, ◌*◌, Bool, cond, ◌&&◌, Some, None, Option, Err, Result, List, [], ◌∷◌, nat_le}
use Rattle.std.specs.Option.{ok_or}
use Rattle.journal.specs.declared.fault.Fault.{Fault}
use Rattle.journal.specs.declared.fault.Fault.TheVariants.{Hexadecimal}

abbrev between : ℕ → ℕ → ℕ → Bool
between low high c = nat_le low c && nat_le c high

-- 0 to 9, a to f, A to F
abbrev pub digit_value : ℕ → Option ℕ
digit_value c =
    cond (between 48 57 c) (Some (c - 48))
    (cond (between 97 102 c) (Some (c - 97 + 10))
    (cond (between 65 70 c) (Some (c - 65 + 10)) None))

-- the byte of two digits, if both are such
abbrev pub byte_of : Option ℕ → Option ℕ → Option ℕ
byte_of None low = None
byte_of (Some h) None = None
byte_of (Some h) (Some l) = Some (16 * h + l)

abbrev pub pair_value : ℕ → ℕ → Option ℕ
pair_value high low = byte_of (digit_value high) (digit_value low)

-- the byte that digits write, which are two
abbrev pub written : List ℕ → Result ℕ Fault
written [] = Err Hexadecimal
written (h ∷ []) = Err Hexadecimal
written (h ∷ l ∷ []) = ok_or (pair_value h l) Hexadecimal
written (h ∷ l ∷ x ∷ xs) = Err Hexadecimal
