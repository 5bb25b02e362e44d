use Rattle.std.proofs.Common.{◌≡◌, ◌-◌, ◌%◌, ◌^◌, ◌<◌, length, take, drop, ap, ◌∙◌, subst, arith}
use Rattle.std.specs.Int.Digits.{number_from_digits}
use Rattle.key.specs.Figures.{number_at}
use Rattle.key.proofs.Written.{cut_part, length_part}
use Rattle.key.proofs.reading.number_at.Goals as goal

pub returns : goal.returns
unfolding number_at
returns c =
    let s = c.args.bytes.now in
    let w = c.args.width in
    let i = c.args.at in
    let start = c.min-start.result in
    let end = c.min-end.result in
    let part : take (end - start) (drop start s) ≡ take w (drop i s) = cut_part w i start end s (omega arith) (omega arith) in
    record {
      is = c.big_endian.ensures.is ∙ ap (λ t. number_from_digits 256 t % 18446744073709551616) part;
      whole = λ l few. c.big_endian.ensures.whole (omega (arith, ap length part, length_part w i s l)) ∙ ap (number_from_digits 256) part;
      below = λ l few. subst (λ n. c.big_endian.result < 256 ^ n) (ap length part ∙ length_part w i s l) (c.big_endian.ensures.below (omega (arith, ap length part, length_part w i s l)));
    }
