-- Numbers in figures of any base, there and back. Assumes nothing.
use Rattle.std.proofs.Common.{◌≡◌, ℕ, zero, suc, ◌+◌, ◌-◌, ◌*◌, ◌/◌, ◌%◌, ◌^◌, ◌<◌, ◌≤◌, min, true, eqb, List, [], ◌∷◌, ◌++◌, length, get_or, take, drop, sym, refl, ap, ◌∙◌, inl, inr, append_assoc, div-lt_iff_lt-mul, pow-suc, div-add-mod', div-one, arith, length-append, length-drop, drop-drop, pow-add, eq-eqb, ne_eqb}
use native.Mathlib.Nat.{pow-zero, pow-succ', div-div-eq-div-mul}
use lib.Arith.{digits_div, digits_mod}
use lib.Seq.{take-nil, take-append-le, take-append_seam, drop-append_seam}
use Rattle.std.specs.Int.Digits.{number_from_digits, number_from_digits_after, AllBelowBase}
use Rattle.std.proofs.lemmas.Int.Digits.{number_push, number_lt}
use Rattle.std.proofs.lemmas.List.{append-nil, take_all, drop_all, take-append-drop, length-take-le}
use Rattle.std.proofs.lemmas.Bool.{and_parts, and_from, cases_Bool, cases_eq, cases_lt, eqb-true}
use Rattle.key.specs.Figures.{figures, number_at, alike, begins}

pub length-figures : (b w n : ℕ) → length (figures b w n) ≡ w
unfolding figures
length-figures b zero n = refl
length-figures b (suc w) n = length-append (figures b w (n / b)) (n % b ∷ []) ∙ omega (arith, length-figures b w (n / b))

-- what is written is read again
pub number_figures : (b w n : ℕ) → 0 < b → n < b ^ w → number_from_digits b (figures b w n) ≡ n
unfolding figures
number_figures b zero n h l = omega (arith, pow-zero b)
number_figures b (suc w) n h l =
    let fewer : n / b < b ^ w = (div-lt_iff_lt-mul h).1 (rw pow-suc at l) in
    number_push b (figures b w (n / b)) (n % b) ∙ ap (λ x. x * b + n % b) (number_figures b w (n / b) h fewer) ∙ div-add-mod' n b

-- what is read is written again
figures-after : (b k a : ℕ) (ds : List ℕ) → AllBelowBase b ds → (w : ℕ) → w ≡ length ds + k → figures b w (number_from_digits_after b a ds) ≡ figures b k a ++ ds
unfolding figures
figures-after b k a [] ok w is = ap (λ n. figures b n a) (let e : w ≡ k = omega arith in e) ∙ sym (append-nil (figures b k a))
figures-after b k a (d ∷ ds) ok w is =
    let top : (a * b + d) / b ≡ a = digits_div a ok.0 in
    let low : (a * b + d) % b ≡ d = digits_mod a ok.0 in
    figures-after b (suc k) (a * b + d) ds ok.1 w (omega arith)
    ∙ append_assoc (figures b k ((a * b + d) / b)) ((a * b + d) % b ∷ []) ds
    ∙ ap (λ n. figures b k n ++ ((a * b + d) % b ∷ ds)) top
    ∙ ap (λ n. figures b k a ++ (n ∷ ds)) low

pub figures_number : (b w : ℕ) (ds : List ℕ) → AllBelowBase b ds → length ds ≡ w → figures b w (number_from_digits b ds) ≡ ds
unfolding figures
figures_number b w ds ok is = figures-after b 0 0 ds ok w (omega arith)

-- the leading figures write what a division leaves
pub take-figures : (b w m t n : ℕ) → t ≡ w + m → take w (figures b t n) ≡ figures b w (n / b ^ m)
unfolding figures
take-figures b w zero t n is =
    let same : t ≡ w = omega arith in
    take_all w (figures b t n) (omega (arith, length-figures b t n)) ∙ ap (λ k. figures b k n) same ∙ ap (figures b w) (sym (div-one n) ∙ ap (λ p. n / p) (sym (pow-zero b)))
take-figures b w (suc m) zero n is = absurd (omega arith)
take-figures b w (suc m) (suc t) n is =
    take-append-le w (figures b t (n / b)) (n % b ∷ []) (omega (arith, length-figures b t (n / b)))
    ∙ take-figures b w m t (n / b) (omega arith)
    ∙ ap (figures b w) (div-div-eq-div-mul n b (b ^ m) ∙ ap (λ p. n / p) (sym (pow-succ' b m)))

-- lists alike are equal, and equal ones alike
pub alike_refl : (xs : List ℕ) → alike xs xs ≡ true
unfolding alike
alike_refl [] = refl
alike_refl (x ∷ xs) = and_from _ _ (eq-eqb x x refl) (alike_refl xs)

pub alike_same : (xs ys : List ℕ) → alike xs ys ≡ true → xs ≡ ys
unfolding alike
alike_same [] [] h = refl
alike_same [] (y ∷ ys) h = let z : ◌≡◌ {A = ℕ} 0 1 = cc in let no : ⊥ = omega arith in absurd no
alike_same (x ∷ xs) [] h = let z : ◌≡◌ {A = ℕ} 0 1 = cc in let no : ⊥ = omega arith in absurd no
alike_same (x ∷ xs) (y ∷ ys) h =
    let p = and_parts (eqb x y) (alike xs ys) h in
    let first : x ≡ y = eqb-true x y p.0 in
    let rest : xs ≡ ys = alike_same xs ys p.1 in
    cc

-- figures are alike exactly where the numbers are equal
pub alike-figures : (b w m n : ℕ) → 0 < b → m < b ^ w → n < b ^ w → alike (figures b w m) (figures b w n) ≡ eqb m n
alike-figures b w m n h lm ln =
    elim (cases_eq m n) [
      | inl e ↦ rw e (alike_refl (figures b w n) ∙ sym (eq-eqb n n refl))
      | inr ne ↦
          elim (cases_Bool (alike (figures b w m) (figures b w n))) [
            | inl t ↦ absurd (ne (sym (number_figures b w m h lm) ∙ ap (number_from_digits b) (alike_same _ _ t) ∙ number_figures b w n h ln))
            | inr f ↦ f ∙ sym (ne_eqb m n ne)
          ]
    ]

pub ten_some : (m : ℕ) → 0 < 10 ^ m
ten_some zero = let p : 10 ^ 0 ≡ 1 = refl in omega arith
ten_some (suc m) = rw pow-suc (omega (arith, ten_some m))

-- leading digits by a division
pub begins-is : (imsi n v : ℕ) → imsi < 1000000000000000 → n ≤ 15 → v < 10 ^ n → begins imsi n v ≡ eqb (imsi / 10 ^ (15 - n)) v
unfolding begins
begins-is imsi n v li ln lv =
    let m = 15 - n in
    let whole : 10 ^ 15 ≡ 10 ^ n * 10 ^ m = ap (λ k. 10 ^ k) (let e : 15 ≡ n + m = omega arith in e) ∙ pow-add 10 n m in
    let some : 0 < 10 ^ m = ten_some m in
    let fits : imsi / 10 ^ m < 10 ^ n = (div-lt_iff_lt-mul some).1 (omega (arith, whole)) in
    ap (λ xs. alike xs (figures 10 n v)) (take-figures 10 n m 15 imsi (omega arith)) ∙ alike-figures 10 n (imsi / 10 ^ m) v (omega arith) fits lv

-- the items of a slice of bytes
pub under_bytes : (s : List ℕ) → ((i : ℕ) → get_or s i 0 < 256) → AllBelowBase 256 s
under_bytes [] h = tt
under_bytes (b ∷ s) h = (h 0, under_bytes s (λ i. h (suc i)))

bytes_take : (n : ℕ) (s : List ℕ) → AllBelowBase 256 s → AllBelowBase 256 (take n s)
bytes_take zero [] ok = tt
bytes_take zero (b ∷ s) ok = tt
bytes_take (suc n) [] ok = tt
bytes_take (suc n) (b ∷ s) ok = (ok.0, bytes_take n s ok.1)

bytes_drop : (n : ℕ) (s : List ℕ) → AllBelowBase 256 s → AllBelowBase 256 (drop n s)
bytes_drop zero s ok = ok
bytes_drop (suc n) [] ok = tt
bytes_drop (suc n) (b ∷ s) ok = bytes_drop n s ok.1

bytes_part : (w i : ℕ) (s : List ℕ) → AllBelowBase 256 s → AllBelowBase 256 (take w (drop i s))
bytes_part w i s ok = bytes_take w (drop i s) (bytes_drop i s ok)

pub length_part : (w i : ℕ) (s : List ℕ) → i + w ≤ length s → length (take w (drop i s)) ≡ w
length_part w i s l = length-take-le w (drop i s) (omega (arith, length-drop i s))

pub number_at-below : (w i : ℕ) (s : List ℕ) → AllBelowBase 256 s → i + w ≤ length s → number_at w i s < 256 ^ w
unfolding number_at
number_at-below w i s ok l = rw (length_part w i s l) at (number_lt 256 (take w (drop i s)) (bytes_part w i s ok))

-- a part that is cut at the end of the bytes
pub cut_part : (w i start end : ℕ) (s : List ℕ) → start ≡ min i (length s) → end ≡ min (i + w) (length s) → take (end - start) (drop start s) ≡ take w (drop i s)
cut_part w i start end s first last =
    elim (cases_lt (length s) (i + w)) [
      | inl past ↦
          elim (cases_lt (length s) i) [
            | inl gone ↦
                ap (λ n. take n (drop start s)) (let e : end - start ≡ 0 = omega arith in e) ∙ sym (ap (take w) (drop_all i s (omega arith)) ∙ take-nil w)
            | inr here ↦
                let at : start ≡ i = omega arith in
                ap (λ n. take (end - start) (drop n s)) at ∙ take_all (end - start) (drop i s) (omega (arith, length-drop i s)) ∙ sym (take_all w (drop i s) (omega (arith, length-drop i s)))
          ]
      | inr within ↦
          let at : start ≡ i = omega arith in
          ap (λ n. take (end - start) (drop n s)) at ∙ ap (λ n. take n (drop i s)) (let e : end - start ≡ w = omega arith in e)
    ]

-- an operand stands at i, and what follows it
pub operand_stands : (w i : ℕ) (s : List ℕ) → AllBelowBase 256 s → i + w ≤ length s → drop i s ≡ figures 256 w (number_at w i s) ++ drop (i + w) s
unfolding number_at
operand_stands w i s ok l =
    let front = take w (drop i s) in
    sym (take-append-drop w (drop i s)) ∙ ap (λ t. front ++ t) (drop-drop w i s) ∙ ap (λ f. f ++ drop (i + w) s) (sym (figures_number 256 w front (bytes_part w i s ok) (length_part w i s l)))

-- an operand that stands at i is read
pub operand_reads : (w i n : ℕ) (s t : List ℕ) → drop i s ≡ figures 256 w n ++ t → n < 256 ^ w → (number_at w i s ≡ n) × (drop (i + w) s ≡ t)
unfolding number_at
operand_reads w i n s t is l =
    let long = length-figures 256 w n in (
      ap (λ x. number_from_digits 256 (take w x)) is ∙ ap (λ m. number_from_digits 256 (take m (figures 256 w n ++ t))) (sym long) ∙ ap (number_from_digits 256) (take-append_seam (figures 256 w n) t) ∙ number_figures 256 w n (omega arith) l,
      sym (drop-drop w i s) ∙ ap (drop w) is ∙ ap (λ m. drop m (figures 256 w n ++ t)) (sym long) ∙ drop-append_seam (figures 256 w n) t,
    )

-- four and eight bytes, each by its place
pub four_bytes : (n : ℕ) → figures 256 4 n ≡ n / 16777216 % 256 ∷ n / 65536 % 256 ∷ n / 256 % 256 ∷ n % 256 ∷ []
unfolding figures
four_bytes n = simp div-div-eq-div-mul

pub eight_bytes : (n : ℕ) → figures 256 8 n ≡ n / 72057594037927936 % 256 ∷ n / 281474976710656 % 256 ∷ n / 1099511627776 % 256 ∷ n / 4294967296 % 256 ∷ n / 16777216 % 256 ∷ n / 65536 % 256 ∷ n / 256 % 256 ∷ n % 256 ∷ []
unfolding figures
eight_bytes n = simp div-div-eq-div-mul
