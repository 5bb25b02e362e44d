-- An event is read exactly where the input begins with its form. Assumes nothing.
use Rattle.std.proofs.Common.{◌≡◌, ℕ, ◌+◌, ◌*◌, ◌^◌, ◌<◌, ◌≤◌, Bool, true, cond, ◌&&◌, Ok, Err, eqb, ltb, leb, List, [], ◌∷◌, ◌++◌, length, get_or, take, drop, sym, refl, ap, ◌∙◌, subst, append_assoc, arith, lit≤, length-append, length-drop, drop-cons, ltb-false, ltb-true, le-ltb, lt-ltb}
use native.Mathlib.Nat.{pow-le-pow_right}
use lib.Seq.{take-append_seam}
use Rattle.std.specs.Int.Digits.{AllBelowBase}
use Rattle.std.proofs.lemmas.List.{take-append-drop, length-take-le}
use Rattle.std.proofs.lemmas.Bool.{cond_both, eqb-true, and_parts, leb-true, le-leb}
use Rattle.key.specs.Figures.{in_bytes, number_at, is_hlr_id}
use Rattle.key.proofs.Written.{length-figures, under_bytes, number_at-below, operand_stands, operand_reads}
use Rattle.event.specs.Layout.{Event, provide_roaming_number, call_information, short_message_v2, short_message_v1, location_request, access, outgoing, registration, open_update, insert, end, reset, cancel, restart, form, size, InRange, ContactInRange, imsi_limit}
use Rattle.event.specs.Decoding.{Reading, found, contact_in_range, needs_bytes, in_range, read_subscriber, read_contact, read_outgoing, read_insert, read_end, read_reset, read_coded, decoded, Laid, ExactlyLaid, DecodingLaw}
use Rattle.event.proofs.Sizes.{size_is}

-- what is read stands there
abbrev Stands : List ℕ → Reading → Type 0
Stands s (Ok (e, n)) = Laid s e n
Stands s (Err x) = Unit {0}

laid : (s : List ℕ) (e : Event) (rest : List ℕ) → s ≡ form e ++ rest → InRange e → Stands s (found e)
laid s e rest begins range = record { rest = rest; begins = begins; in_range = range; long = size_is e }

-- where there are n bytes, and the operands are in range
stands_long : (s ops : List ℕ) (n : ℕ) (r : Reading) → (n ≤ length ops → Stands s r) → Stands s (needs_bytes n ops r)
stands_long s ops n r stand = cond_both (ltb (length ops) n) _ r (Stands s) (λ t. tt) (λ f. stand (ltb-false (length ops) n f))

stands_checked : (s ops : List ℕ) (n : ℕ) (ok : Bool) (r : Reading) → (n ≤ length ops → ok ≡ true → Stands s r) → Stands s (needs_bytes n ops (in_range ok r))
stands_checked s ops n ok r stand = stands_long s ops n (in_range ok r) (λ l. cond_both ok r _ (Stands s) (stand l) (λ g. tt))

-- an event of one IMSI
stands_subscriber : (s ops : List ℕ) (code : ℕ) (e : ℕ → Event) → AllBelowBase 256 ops → s ≡ code ∷ ops → ((k : ℕ) → code ∷ in_bytes 8 k ≡ form (e k)) → ((k : ℕ) → k < imsi_limit → InRange (e k)) → Stands s (read_subscriber e ops)
stands_subscriber s ops code e ok head row range =
    let k = number_at 8 0 ops in
    stands_checked s ops 8 (ltb k imsi_limit) _ (λ l t.
    laid s (e k) (drop 8 ops) (head ∙ ap (λ x. code ∷ x) (operand_stands 8 0 ops ok l) ∙ ap (λ x. x ++ drop 8 ops) (row k)) (range k (ltb-true k imsi_limit t)))

reads_subscriber : (e : ℕ → Event) (k : ℕ) (ops rest : List ℕ) → k < imsi_limit → ops ≡ in_bytes 8 k ++ rest → read_subscriber e ops ≡ found (e k)
reads_subscriber e k ops rest l is =
    let long : 8 ≤ length ops = omega (arith, simp (length-append, length-figures) at (ap length is)) in
    let r = operand_reads 8 0 k ops rest is (omega arith) in
    rw (le-ltb (length ops) 8 long, r.0, lt-ltb k imsi_limit l)

-- what contacts begin with
contact_range : (ops : List ℕ) → AllBelowBase 256 ops → 10 ≤ length ops → contact_in_range ops ≡ true → ContactInRange (number_at 8 0 ops) (number_at 1 8 ops) (number_at 1 9 ops)
contact_range ops ok l t =
    let p = and_parts (ltb (number_at 8 0 ops) imsi_limit) (ltb (number_at 1 8 ops) 2) t in
    (ltb-true _ imsi_limit p.0, ltb-true _ 2 p.1, number_at-below 1 9 ops ok l)

contact-stands : (ops : List ℕ) → AllBelowBase 256 ops → 10 ≤ length ops → ops ≡ in_bytes 8 (number_at 8 0 ops) ++ (in_bytes 1 (number_at 1 8 ops) ++ (in_bytes 1 (number_at 1 9 ops) ++ drop 10 ops))
contact-stands ops ok l =
    operand_stands 8 0 ops ok (omega arith)
    ∙ ap (λ t. in_bytes 8 (number_at 8 0 ops) ++ t) (operand_stands 1 8 ops ok (omega arith) ∙ ap (λ t. in_bytes 1 (number_at 1 8 ops) ++ t) (operand_stands 1 9 ops ok l))

-- a contact with an area
stands-contact : (s ops : List ℕ) (code : ℕ) (e : ℕ → ℕ → ℕ → ℕ → Event) → AllBelowBase 256 ops → s ≡ code ∷ ops
    → ((k auth msc area : ℕ) → code ∷ (in_bytes 8 k ++ (in_bytes 1 auth ++ (in_bytes 1 msc ++ in_bytes 2 area))) ≡ form (e k auth msc area))
    → ((k auth msc area : ℕ) → ContactInRange k auth msc → area < 65536 → InRange (e k auth msc area)) → Stands s (read_contact e ops)
stands-contact s ops code e ok head row range =
    let k = number_at 8 0 ops in
    let auth = number_at 1 8 ops in
    let msc = number_at 1 9 ops in
    let area = number_at 2 10 ops in
    stands_checked s ops 12 (contact_in_range ops) _ (λ l t.
    let whole : ops ≡ (in_bytes 8 k ++ (in_bytes 1 auth ++ (in_bytes 1 msc ++ in_bytes 2 area))) ++ drop 12 ops =
    contact-stands ops ok (omega arith) ∙ ap (λ t. in_bytes 8 k ++ (in_bytes 1 auth ++ (in_bytes 1 msc ++ t))) (operand_stands 2 10 ops ok l) ∙ simp append_assoc in
    laid s (e k auth msc area) (drop 12 ops) (head ∙ ap (λ x. code ∷ x) whole ∙ ap (λ x. x ++ drop 12 ops) (row k auth msc area)) (range k auth msc area (contact_range ops ok (omega arith) t) (number_at-below 2 10 ops ok l)))

reads_contact : (e : ℕ → ℕ → ℕ → ℕ → Event) (k auth msc area : ℕ) (ops rest : List ℕ) → ContactInRange k auth msc → area < 65536 → ops ≡ in_bytes 8 k ++ (in_bytes 1 auth ++ (in_bytes 1 msc ++ (in_bytes 2 area ++ rest))) → read_contact e ops ≡ found (e k auth msc area)
reads_contact e k auth msc area ops rest (lk, la, lm) lp is =
    let long : 12 ≤ length ops = omega (arith, simp (length-append, length-figures) at (ap length is)) in
    let r = operand_reads 8 0 k ops _ is (omega arith) in
    let a = operand_reads 1 8 auth ops _ r.1 (omega arith) in
    let m = operand_reads 1 9 msc ops _ a.1 (omega arith) in
    let p = operand_reads 2 10 area ops _ m.1 (omega arith) in
    rw (le-ltb (length ops) 12 long, r.0, lt-ltb k imsi_limit lk, a.0, lt-ltb auth 2 la, m.0, p.0)

stands-outgoing : (s ops : List ℕ) → AllBelowBase 256 ops → s ≡ 7 ∷ ops → Stands s (read_outgoing ops)
stands-outgoing s ops ok head =
    stands_checked s ops 10 (contact_in_range ops) _ (λ l t.
    laid s (outgoing (number_at 8 0 ops) (number_at 1 8 ops) (number_at 1 9 ops)) (drop 10 ops) (head ∙ ap (λ x. 7 ∷ x) (contact-stands ops ok l ∙ simp append_assoc)) (contact_range ops ok l t))

reads_outgoing : (k auth msc : ℕ) (ops rest : List ℕ) → ContactInRange k auth msc → ops ≡ in_bytes 8 k ++ (in_bytes 1 auth ++ (in_bytes 1 msc ++ rest)) → read_outgoing ops ≡ found (outgoing k auth msc)
reads_outgoing k auth msc ops rest (lk, la, lm) is =
    let long : 10 ≤ length ops = omega (arith, simp (length-append, length-figures) at (ap length is)) in
    let r = operand_reads 8 0 k ops _ is (omega arith) in
    let a = operand_reads 1 8 auth ops _ r.1 (omega arith) in
    let m = operand_reads 1 9 msc ops _ a.1 (omega arith) in
    rw (le-ltb (length ops) 10 long, r.0, lt-ltb k imsi_limit lk, a.0, lt-ltb auth 2 la, m.0)

-- the groups stand behind the count
stands-insert : (s ops : List ℕ) → AllBelowBase 256 ops → s ≡ 10 ∷ ops → Stands s (read_insert ops)
stands-insert s ops ok head =
    let n = number_at 4 0 ops in
    let count = number_at 1 4 ops in
    let groups = take (11 * count) (drop 5 ops) in
    stands_checked s ops 5 (leb 1 count && leb count 6) _ (λ l t.
    let p = and_parts (leb 1 count) (leb count 6) t in
    stands_long s ops (5 + 11 * count) _ (λ m.
    let measure : length groups ≡ 11 * count = length-take-le (11 * count) (drop 5 ops) (omega (arith, length-drop 5 ops)) in
    let whole : ops ≡ (in_bytes 4 n ++ (in_bytes 1 count ++ groups)) ++ drop (11 * count) (drop 5 ops) =
    operand_stands 4 0 ops ok (omega arith)
    ∙ ap (λ x. in_bytes 4 n ++ x) (operand_stands 1 4 ops ok l ∙ ap (λ x. in_bytes 1 count ++ x) (sym (take-append-drop (11 * count) (drop 5 ops))))
    ∙ simp append_assoc in
    laid s (insert n count groups) (drop (11 * count) (drop 5 ops)) (head ∙ ap (λ x. 10 ∷ x) whole) (number_at-below 4 0 ops ok (omega arith), leb-true 1 count p.0, leb-true count 6 p.1, measure)))

reads_insert : (n count : ℕ) (groups ops rest : List ℕ) → InRange (insert n count groups) → ops ≡ in_bytes 4 n ++ (in_bytes 1 count ++ (groups ++ rest)) → read_insert ops ≡ found (insert n count groups)
reads_insert n count groups ops rest (ln, low, high, measure) is =
    let long : 5 + 11 * count ≤ length ops = omega (arith, measure, simp (length-append, length-figures) at (ap length is)) in
    let a = operand_reads 4 0 n ops _ is (omega arith) in
    let c = operand_reads 1 4 count ops _ a.1 (omega arith) in
    let g : take (11 * count) (drop 5 ops) ≡ groups = ap (take (11 * count)) c.1 ∙ ap (λ m. take m (groups ++ rest)) (sym measure) ∙ take-append_seam groups rest in
    rw (le-ltb (length ops) 5 (omega arith), c.0, le-leb 1 count low, le-leb count 6 high, le-ltb (length ops) (5 + 11 * count) long, a.0, g)

stands-end : (s ops : List ℕ) → AllBelowBase 256 ops → s ≡ 11 ∷ ops → Stands s (read_end ops)
stands-end s ops ok head =
    let n = number_at 4 0 ops in
    let outcome = number_at 1 4 ops in
    stands_checked s ops 5 (ltb outcome 2) _ (λ l t.
    let whole : ops ≡ (in_bytes 4 n ++ in_bytes 1 outcome) ++ drop 5 ops = operand_stands 4 0 ops ok (omega arith) ∙ ap (λ x. in_bytes 4 n ++ x) (operand_stands 1 4 ops ok l) ∙ simp append_assoc in
    laid s (end n outcome) (drop 5 ops) (head ∙ ap (λ x. 11 ∷ x) whole) (number_at-below 4 0 ops ok (omega arith), ltb-true outcome 2 t))

reads_end : (n outcome : ℕ) (ops rest : List ℕ) → InRange (end n outcome) → ops ≡ in_bytes 4 n ++ (in_bytes 1 outcome ++ rest) → read_end ops ≡ found (end n outcome)
reads_end n outcome ops rest (ln, lo) is =
    let long : 5 ≤ length ops = omega (arith, simp (length-append, length-figures) at (ap length is)) in
    let a = operand_reads 4 0 n ops _ is (omega arith) in
    let o = operand_reads 1 4 outcome ops _ a.1 (omega arith) in
    rw (le-ltb (length ops) 5 long, o.0, lt-ltb outcome 2 lo, a.0)

stands-reset : (s ops : List ℕ) → AllBelowBase 256 ops → s ≡ 12 ∷ ops → Stands s (read_reset ops)
stands-reset s ops ok head =
    let digits = number_at 1 0 ops in
    let value = number_at 8 1 ops in
    stands_checked s ops 9 (is_hlr_id digits value) _ (λ l t.
    let p = and_parts (leb 5 digits) (leb digits 15 && ltb value (10 ^ digits)) t in
    let q = and_parts (leb digits 15) (ltb value (10 ^ digits)) p.1 in
    let whole : ops ≡ (in_bytes 1 digits ++ in_bytes 8 value) ++ drop 9 ops = operand_stands 1 0 ops ok (omega arith) ∙ ap (λ x. in_bytes 1 digits ++ x) (operand_stands 8 1 ops ok l) ∙ simp append_assoc in
    laid s (reset digits value) (drop 9 ops) (head ∙ ap (λ x. 12 ∷ x) whole) (leb-true 5 digits p.0, leb-true digits 15 q.0, ltb-true value (10 ^ digits) q.1))

reads_reset : (digits value : ℕ) (ops rest : List ℕ) → InRange (reset digits value) → ops ≡ in_bytes 1 digits ++ (in_bytes 8 value ++ rest) → read_reset ops ≡ found (reset digits value)
reads_reset digits value ops rest (low, high, below) is =
    let long : 9 ≤ length ops = omega (arith, simp (length-append, length-figures) at (ap length is)) in
    let top : 10 ^ digits ≤ 10 ^ 15 = pow-le-pow_right (lit≤ tt) high in
    let d = operand_reads 1 0 digits ops _ is (omega arith) in
    let v = operand_reads 8 1 value ops _ d.1 (omega arith) in
    rw (le-ltb (length ops) 9 long, d.0, v.0, le-leb 5 digits low, le-leb digits 15 high, lt-ltb value (10 ^ digits) below)

-- by the code
stands_row : (s ops : List ℕ) (code known : ℕ) (r rest : Reading) → s ≡ code ∷ ops → (s ≡ known ∷ ops → Stands s r) → Stands s rest → Stands s (cond (eqb code known) r rest)
stands_row s ops code known r rest head stand others =
    cond_both (eqb code known) r rest (Stands s) (λ t. stand (head ∙ ap (λ c. c ∷ ops) (eqb-true code known t))) (λ f. others)

stands_coded : (s ops : List ℕ) (code : ℕ) → AllBelowBase 256 ops → s ≡ code ∷ ops → Stands s (read_coded code ops)
stands_coded s ops code ok head =
    stands_row s ops code 1 _ _ head (λ is. stands_subscriber s ops 1 provide_roaming_number ok is (λ k. refl) (λ k l. l)) (
    stands_row s ops code 2 _ _ head (λ is. stands_subscriber s ops 2 call_information ok is (λ k. refl) (λ k l. l)) (
    stands_row s ops code 3 _ _ head (λ is. stands_subscriber s ops 3 short_message_v2 ok is (λ k. refl) (λ k l. l)) (
    stands_row s ops code 4 _ _ head (λ is. stands_subscriber s ops 4 short_message_v1 ok is (λ k. refl) (λ k l. l)) (
    stands_row s ops code 5 _ _ head (λ is. stands_subscriber s ops 5 location_request ok is (λ k. refl) (λ k l. l)) (
    stands_row s ops code 6 _ _ head (λ is. stands-contact s ops 6 access ok is (λ k auth msc area. refl) (λ k auth msc area c l. (c, l))) (
    stands_row s ops code 7 _ _ head (λ is. stands-outgoing s ops ok is) (
    stands_row s ops code 8 _ _ head (λ is. stands-contact s ops 8 registration ok is (λ k auth msc area. refl) (λ k auth msc area c l. (c, l))) (
    stands_row s ops code 9 _ _ head (λ is. stands_subscriber s ops 9 open_update ok is (λ k. refl) (λ k l. l)) (
    stands_row s ops code 10 _ _ head (λ is. stands-insert s ops ok is) (
    stands_row s ops code 11 _ _ head (λ is. stands-end s ops ok is) (
    stands_row s ops code 12 _ _ head (λ is. stands-reset s ops ok is) (
    stands_row s ops code 13 _ _ head (λ is. stands_subscriber s ops 13 cancel ok is (λ k. refl) (λ k l. l)) (
    stands_row s ops code 14 _ _ head (λ is. laid s restart ops is tt) tt)))))))))))))

under_rest : (s : List ℕ) → AllBelowBase 256 s → AllBelowBase 256 (drop 1 s)
under_rest [] ok = tt
under_rest (b ∷ s) ok = ok.1

stands : (s : List ℕ) → AllBelowBase 256 s → Stands s (decoded s)
unfolding decoded
stands s ok =
    cond_both (ltb (length s) 1) _ _ (Stands s) (λ t. tt) (λ f.
    stands_coded s (drop 1 s) (get_or s 0 0) (under_rest s ok) (drop-cons s 0 0 (ltb-false (length s) 1 f)))

-- what stands there is read
coded : (s ops : List ℕ) (code : ℕ) → s ≡ code ∷ ops → decoded s ≡ read_coded code ops
unfolding decoded
coded s ops code is = ap decoded is ∙ rw (le-ltb (length (code ∷ ops)) 1 (omega arith))

reads_form : (e : Event) (s rest : List ℕ) → s ≡ form e ++ rest → InRange e → decoded s ≡ found e
reads_form (provide_roaming_number k) s rest is range = coded s _ 1 is ∙ reads_subscriber provide_roaming_number k _ rest range refl
reads_form (call_information k) s rest is range = coded s _ 2 is ∙ reads_subscriber call_information k _ rest range refl
reads_form (short_message_v2 k) s rest is range = coded s _ 3 is ∙ reads_subscriber short_message_v2 k _ rest range refl
reads_form (short_message_v1 k) s rest is range = coded s _ 4 is ∙ reads_subscriber short_message_v1 k _ rest range refl
reads_form (location_request k) s rest is range = coded s _ 5 is ∙ reads_subscriber location_request k _ rest range refl
reads_form (access k auth msc area) s rest is range = coded s _ 6 is ∙ reads_contact access k auth msc area _ rest range.0 range.1 (simp append_assoc)
reads_form (outgoing k auth msc) s rest is range = coded s _ 7 is ∙ reads_outgoing k auth msc _ rest range (simp append_assoc)
reads_form (registration k auth msc area) s rest is range = coded s _ 8 is ∙ reads_contact registration k auth msc area _ rest range.0 range.1 (simp append_assoc)
reads_form (open_update k) s rest is range = coded s _ 9 is ∙ reads_subscriber open_update k _ rest range refl
reads_form (insert n count groups) s rest is range = coded s _ 10 is ∙ reads_insert n count groups _ rest range (simp append_assoc)
reads_form (end n outcome) s rest is range = coded s _ 11 is ∙ reads_end n outcome _ rest range (simp append_assoc)
reads_form (reset digits value) s rest is range = coded s _ 12 is ∙ reads_reset digits value _ rest range (simp append_assoc)
reads_form (cancel k) s rest is range = coded s _ 13 is ∙ reads_subscriber cancel k _ rest range refl
reads_form restart s rest is range = coded s _ 14 is

pub exactly_laid : (s : List ℕ) → AllBelowBase 256 s → ExactlyLaid s (decoded s)
exactly_laid s ok e n = (
  λ h. subst (Stands s) h (stands s ok),
  λ l. reads_form e s l.rest l.begins l.in_range ∙ ap (λ n. Ok (e, n)) (size_is e ∙ sym l.long),
)

pub laid_as_read : (s : List ℕ) (r : Reading) → r ≡ decoded s → ((i : ℕ) → get_or s i 0 < 256) → ExactlyLaid s r
laid_as_read s r is bytes = subst (ExactlyLaid s) (sym is) (exactly_laid s (under_bytes s bytes))

pub decoding_law_lem : DecodingLaw
decoding_law_lem = record {
  exactly_laid = exactly_laid;
  one_reading = λ e f r s le lf is. let one : found e ≡ found f = sym (reads_form e _ r refl le) ∙ reads_form f _ s is lf in let pair : ◌≡◌ {A = Event × ℕ} (e, size e) (f, size f) = cc in ap (λ (p : Event × ℕ). p.0) pair;
  rest_not_read = λ e rest l. reads_form e _ rest refl l ∙ ap (λ n. Ok (e, n)) (size_is e);
  size_of_form = size_is;
}
