-- What the front of bytes is read as, or why it is refused, and the law over it. Assumes nothing.
use Rattle.std.specs.Prelude.{◌≡◌, ℕ, ◌+◌, ◌*◌, Bool, cond, ◌&&◌, ◌↔◌, List, ◌++◌, length, take, drop, Ok, Err, Result, ◌==◌, nat_le, nat_lt, slice_index}
use Rattle.std.specs.Int.Digits.{AllBelowBase}
use Rattle.key.specs.Figures.{number_at, is_hlr_id}
use Rattle.key.specs.declared.refusal.Refusal.{Refusal}
use Rattle.key.specs.declared.refusal.Refusal.TheVariants.{UnknownCode, InputTooShort, OutOfRange}
use Rattle.event.specs.Layout.{Event, provide_roaming_number, call_information, short_message_v2, short_message_v1, location_request, access, outgoing, registration, open_update, insert, end, reset, cancel, restart, form, size, InRange, imsi_limit}

-- an event and how many bytes it took, or a refusal
abbrev pub Reading : Type 0
Reading = Result (Event × ℕ) Refusal

abbrev pub found : Event → Reading
found e = Ok (e, size e)

-- the operands have to have n bytes
abbrev pub needs_bytes : {T : Type 0} → ℕ → List ℕ → Result T Refusal → Result T Refusal
needs_bytes n ops r = cond (nat_lt (length ops) n) (Err InputTooShort) r

-- the operands read have to be in range
abbrev pub in_range : {T : Type 0} → Bool → Result T Refusal → Result T Refusal
in_range ok r = cond ok r (Err OutOfRange)

-- an event whose one operand is an IMSI
abbrev pub read_subscriber : (ℕ → Event) → List ℕ → Reading
read_subscriber e ops = needs_bytes 8 ops (in_range (nat_lt (number_at 8 0 ops) imsi_limit) (found (e (number_at 8 0 ops))))

-- a handset's contact begins with its IMSI and whether authentication passed
abbrev pub contact_in_range : List ℕ → Bool
contact_in_range ops = nat_lt (number_at 8 0 ops) imsi_limit && nat_lt (number_at 1 8 ops) 2

abbrev pub read_contact : (ℕ → ℕ → ℕ → ℕ → Event) → List ℕ → Reading
read_contact e ops =
    needs_bytes 12 ops (in_range (contact_in_range ops) (found (e (number_at 8 0 ops) (number_at 1 8 ops) (number_at 1 9 ops) (number_at 2 10 ops))))

abbrev pub read_outgoing : List ℕ → Reading
read_outgoing ops =
    needs_bytes 10 ops (in_range (contact_in_range ops) (found (outgoing (number_at 8 0 ops) (number_at 1 8 ops) (number_at 1 9 ops))))

-- the count is judged before the groups are measured
abbrev pub read_groups : List ℕ → ℕ → Reading
read_groups ops count = needs_bytes (5 + 11 * count) ops (found (insert (number_at 4 0 ops) count (take (11 * count) (drop 5 ops))))

abbrev pub read_insert : List ℕ → Reading
read_insert ops = needs_bytes 5 ops (in_range (nat_le 1 (number_at 1 4 ops) && nat_le (number_at 1 4 ops) 6) (read_groups ops (number_at 1 4 ops)))

abbrev pub read_end : List ℕ → Reading
read_end ops = needs_bytes 5 ops (in_range (nat_lt (number_at 1 4 ops) 2) (found (end (number_at 4 0 ops) (number_at 1 4 ops))))

abbrev pub read_reset : List ℕ → Reading
read_reset ops = needs_bytes 9 ops (in_range (is_hlr_id (number_at 1 0 ops) (number_at 8 1 ops)) (found (reset (number_at 1 0 ops) (number_at 8 1 ops))))

-- the operands by the code before them
abbrev pub read_coded : ℕ → List ℕ → Reading
read_coded code ops =
    cond (code == 1) (read_subscriber provide_roaming_number ops)
    (cond (code == 2) (read_subscriber call_information ops)
    (cond (code == 3) (read_subscriber short_message_v2 ops)
    (cond (code == 4) (read_subscriber short_message_v1 ops)
    (cond (code == 5) (read_subscriber location_request ops)
    (cond (code == 6) (read_contact access ops)
    (cond (code == 7) (read_outgoing ops)
    (cond (code == 8) (read_contact registration ops)
    (cond (code == 9) (read_subscriber open_update ops)
    (cond (code == 10) (read_insert ops)
    (cond (code == 11) (read_end ops)
    (cond (code == 12) (read_reset ops)
    (cond (code == 13) (read_subscriber cancel ops)
    (cond (code == 14) (found restart)
    (Err UnknownCode))))))))))))))

unfoldable pub decoded : List ℕ → Reading
decoded s = cond (nat_lt (length s) 1) (Err UnknownCode) (read_coded (slice_index s 0) (drop 1 s))

-- the input begins with the n bytes of an event within its ranges, and anything may follow
pub record Laid (s : List ℕ) (e : Event) (n : ℕ) : Type 0 where
  pub rest : List ℕ
  pub begins : s ≡ form e ++ rest
  pub in_range : InRange e
  pub long : n ≡ length (form e)

-- an event of n bytes is read exactly where the input begins with that event's bytes
abbrev pub ExactlyLaid : List ℕ → Reading → Type 0
ExactlyLaid s r = (e : Event) (n : ℕ) → (r ≡ Ok (e, n)) ↔ Laid s e n

pub record DecodingLaw : Type 0 where
  pub exactly_laid : (s : List ℕ) → AllBelowBase 256 s → ExactlyLaid s (decoded s)
  pub one_reading : (e f : Event) (r s : List ℕ) → InRange e → InRange f → form e ++ r ≡ form f ++ s → e ≡ f
  pub rest_not_read : (e : Event) (rest : List ℕ) → InRange e → decoded (form e ++ rest) ≡ Ok (e, length (form e))
  pub size_of_form : (e : Event) → size e ≡ length (form e)
