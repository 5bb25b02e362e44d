use Rattle.std.proofs.Common.{◌≡◌, ◌+◌, ◌*◌, ◌^◌, ◌<◌, ◌≤◌, length, take, ap, ◌∙◌, subst, pow-suc, add-one, arith, lit≤}
use native.Mathlib.Nat.{pow-le-pow_right}
use lib.Seq.{take-length}
use Rattle.std.specs.Int.Digits.{number_from_digits}
use Rattle.std.proofs.lemmas.Int.Digits.{number_more}
use Rattle.key.proofs.reading.big_endian.Goals as goal

pub loop-byte-preserved : goal.loop-byte-preserved
loop-byte-preserved c =
    let i = c.loop-byte.byte-index in
    let more = number_more 256 c.args.bytes.now i (omega arith) in
    let power : 256 ^ (i + 1) ≡ 256 ^ i * 256 = rw add-one (pow-suc 256 i) in
    (omega arith, rw (power, more) (omega arith))

pub returns : goal.returns
returns c =
    let s = c.args.bytes.now in
    let end : c.loop-byte.byte-index ≡ length s = omega arith in
    let read : number_from_digits 256 (take c.loop-byte.byte-index s) ≡ number_from_digits 256 s = ap (λ i. number_from_digits 256 (take i s)) end ∙ ap (number_from_digits 256) (take-length s) in
    let small : number_from_digits 256 s < 256 ^ length s = subst (λ i. number_from_digits 256 s < 256 ^ i) end (omega (arith, c.loop-byte.invariant.1)) in
    let whole : length s ≤ 8 → c.loop-byte.number ≡ number_from_digits 256 s =
    λ l. let top : 256 ^ length s ≤ 256 ^ 8 = pow-le-pow_right (lit≤ tt) l in omega arith in
    record { is = omega arith; whole = whole; below = λ l. omega (arith, whole l, small) }
