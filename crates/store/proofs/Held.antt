-- Rows and the map that they stand for, before and after a row goes in or out. Assumes nothing.
use Rattle.std.proofs.Common.{◌≡◌, ℕ, zero, suc, ◌+◌, ◌-◌, ◌<◌, ◌≤◌, true, ltb, List, [], ◌∷◌, ◌++◌, map, length, get_or, take, drop, set, sym, refl, ap, ◌∙◌, add-one, arith, ltb-false, ltb-true, le-ltb, lt-ltb}
use lib.Seq.{paste, take-set-lt}
use Rattle.std.proofs.lemmas.Bool.{cond_both}
use Rattle.std.proofs.lemmas.List.{length-take-le, length-append, length-drop, drop_more, drop-map, take-map, map-append, drop-take, take_at, take-take, drop_all, set_split, set-append_left, append_assoc, get_or-take}
use Rattle.store.specs.declared.row.Row.{Row}
use Rattle.store.specs.Model.{keys, rises, all_below, capped, Placed, tally}
use Rattle.store.specs.Rows.{as_pair, held, rank, opened, closed}

-- the key of the row at i
pub key_held : {V : Type 0} (rs : List (Row V)) (n i : ℕ) (d : Row V) → i < n → i < length rs → get_or (keys (held rs n)) i 0 ≡ (get_or rs i d).key
unfolding held
key_held [] n i d l m = omega arith
key_held (x ∷ rs) zero i d l m = omega arith
key_held (x ∷ rs) (suc n) zero d l m = refl
key_held (x ∷ rs) (suc n) (suc i) d l m = key_held rs n i d (omega arith) (omega arith)

-- the rows from i on begin with the row at i
pub drop-held : {V : Type 0} (rs : List (Row V)) (n i : ℕ) (d : Row V) → i < n → n ≤ length rs → drop i (held rs n) ≡ as_pair (get_or rs i d) ∷ drop (i + 1) (held rs n)
unfolding held
drop-held rs n i d l m =
    let t : i < length (take n rs) = rw (length-take-le n rs m) l in
    drop-map as_pair i (take n rs) ∙ ap (map as_pair) (drop_more (take n rs) i d t) ∙ ap (λ (x : Row _). as_pair x ∷ map as_pair (drop (i + 1) (take n rs))) (get_or-take n rs i d l) ∙ ap (λ zs. as_pair (get_or rs i d) ∷ zs) (sym (drop-map as_pair (i + 1) (take n rs)))

-- no rows are the empty map
pub held_none : {V : Type 0} (rs : List (Row V)) (n : ℕ) → n ≡ 0 → held rs n ≡ []
unfolding held
held_none rs n e = ap (λ m. map as_pair (take m rs)) e

pub rises-none : {V : Type 0} (rs : List (Row V)) (n : ℕ) → n ≡ 0 → rises (keys (held rs n)) ≡ true
unfolding rises
rises-none rs n e = ap (λ es. rises (keys es)) (held_none rs n e)

pub below_none : {V : Type 0} (limit : ℕ) (rs : List (Row V)) (n : ℕ) → n ≡ 0 → all_below limit (keys (held rs n)) ≡ true
unfolding all_below
below_none limit rs n e = ap (λ es. all_below limit (keys es)) (held_none rs n e)

-- what is left of n slots where those past 65,536 go
pub cut-capped : (m n : ℕ) → m + (n - 65536) ≡ n → m ≡ capped n
cut-capped m n e = cond_both (ltb n 65536) n 65536 (λ r. m ≡ r) (λ t. omega (arith, ltb-true n 65536 t)) (λ f. omega (arith, ltb-false n 65536 f))

-- the place of a key is its rank
pub rank_placed : {V : Type 0} (es : List (ℕ × V)) (k r : ℕ) → Placed es k r → rank es k ≡ r
unfolding tally
rank_placed [] k r p = let l = p.within in omega arith
rank_placed (e ∷ es) k zero p =
    let above : k ≤ e.0 = p.above 0 (omega arith) (omega arith) in
    rw (le-ltb e.0 k above) (rank_placed es k 0 (record {
      within = omega arith;
      below = λ i l. omega arith;
      above = λ i l m. p.above (suc i) (omega arith) (omega arith);
    }))
rank_placed (e ∷ es) k (suc r) p =
    let below : e.0 < k = p.below 0 (omega arith) in
    let within = p.within in
    let ih = rank_placed es k r (record {
      within = omega arith;
      below = λ i l. p.below (suc i) (omega arith);
      above = λ i l m. p.above (suc i) (omega arith) (omega arith);
    }) in
    rw (lt-ltb e.0 k below) (omega arith)

module _ {V : Type 0} (rs : List (Row V)) (n i : ℕ) where
  -- a copy up by one and a write open the slot
  pub slots_opened : (x : Row V) → i ≤ n → n < length rs → set (paste rs (i + 1) (drop i rs) (n - i)) i x ≡ opened rs n i x
  slots_opened x l h =
      let a = take (i + 1) rs in
      let b = take (n - i) (drop i rs) in
      let z = drop (i + 1 + (n - i)) rs in
      let la : length a ≡ i + 1 = length-take-le (i + 1) rs (omega arith) in
      let e1 : set ((a ++ b) ++ z) i x ≡ set (a ++ b) i x ++ z = set-append_left (a ++ b) z i x (omega (arith, length-append a b)) in
      let e2 : set (a ++ b) i x ≡ set a i x ++ b = set-append_left a b i x (omega arith) in
      let e3 : set a i x ≡ take i rs ++ x ∷ [] = set_split a i x (omega arith) ∙ ap (λ zs. zs ++ x ∷ drop (suc i) a) (take-take i (i + 1) rs (omega arith)) ∙ ap (λ zs. take i rs ++ x ∷ zs) (drop_all (suc i) a (omega arith)) in
      let e4 : b ≡ drop i (take n rs) = sym (drop-take i (n - i) rs) ∙ ap (λ m. drop i (take m rs)) (omega arith) in
      let e5 : z ≡ drop (n + 1) rs = ap (λ m. drop m rs) (omega arith) in
      e1
      ∙ ap (λ zs. zs ++ z) (e2 ∙ ap (λ zs. zs ++ b) e3)
      ∙ append_assoc (take i rs ++ x ∷ []) b z
      ∙ append_assoc (take i rs) (x ∷ []) (b ++ z)
      ∙ ap (λ zs. take i rs ++ x ∷ (zs ++ z)) e4
      ∙ ap (λ zs. take i rs ++ x ∷ (drop i (take n rs) ++ zs)) e5

  -- a copy down by one closes it
  pub slots_closed : i < n → n ≤ length rs → paste rs i (drop (i + 1) rs) (n - (i + 1)) ≡ closed rs n i
  slots_closed l h =
      let b = take (n - (i + 1)) (drop (i + 1) rs) in
      let z = drop (i + (n - (i + 1))) rs in
      let e4 : b ≡ drop (i + 1) (take n rs) = sym (drop-take (i + 1) (n - (i + 1)) rs) ∙ ap (λ m. drop (i + 1) (take m rs)) (omega arith) in
      let e5 : z ≡ drop (n - 1) rs = ap (λ m. drop m rs) (omega arith) in
      append_assoc (take i rs) b z ∙ ap (λ zs. take i rs ++ (zs ++ z)) e4 ∙ ap (λ zs. take i rs ++ (drop (i + 1) (take n rs) ++ zs)) e5

  front : i ≤ n → map as_pair (take i rs) ≡ take i (held rs n)
  unfolding held
  front l = ap (map as_pair) (sym (take-take i n rs l)) ∙ sym (take-map as_pair i (take n rs))

  pub held-set : (x : Row V) → i < n → n ≤ length rs → held (set rs i x) n ≡ take i (held rs n) ++ as_pair x ∷ drop (i + 1) (held rs n)
  unfolding held
  held-set x l h =
      let t : i < length (take n rs) = rw (length-take-le n rs h) l in
      ap (map as_pair) (take-set-lt n rs i x l ∙ set_split (take n rs) i x t)
      ∙ map-append as_pair (take i (take n rs)) (x ∷ drop (suc i) (take n rs))
      ∙ ap (λ zs. zs ++ as_pair x ∷ map as_pair (drop (suc i) (take n rs))) (sym (take-map as_pair i (take n rs)))
      ∙ ap (λ zs. take i (map as_pair (take n rs)) ++ as_pair x ∷ zs) (sym (drop-map as_pair (suc i) (take n rs)) ∙ ap (λ j. drop j (map as_pair (take n rs))) (sym (add-one i)))

  pub held-opened : (x : Row V) → i ≤ n → n < length rs → held (opened rs n i x) (n + 1) ≡ take i (held rs n) ++ as_pair x ∷ drop i (held rs n)
  unfolding held
  held-opened x l h =
      let b = drop i (take n rs) in
      let li : length (take i rs) ≡ i = length-take-le i rs (omega arith) in
      let lb : length b ≡ n - i = rw length-drop (rw (length-take-le n rs (omega arith)) refl) in
      ap (λ zs. map as_pair (take (n + 1) zs)) (sym (append_assoc (take i rs) (x ∷ b) (drop (n + 1) rs)))
      ∙ ap (map as_pair) (take_at (take i rs ++ x ∷ b) (drop (n + 1) rs) (n + 1) (omega (arith, length-append (take i rs) (x ∷ b))))
      ∙ map-append as_pair (take i rs) (x ∷ b)
      ∙ ap (λ zs. zs ++ as_pair x ∷ map as_pair b) (front l)
      ∙ ap (λ zs. take i (map as_pair (take n rs)) ++ as_pair x ∷ zs) (sym (drop-map as_pair i (take n rs)))

  pub held-closed : i < n → n ≤ length rs → held (closed rs n i) (n - 1) ≡ take i (held rs n) ++ drop (i + 1) (held rs n)
  unfolding held
  held-closed l h =
      let b = drop (i + 1) (take n rs) in
      let li : length (take i rs) ≡ i = length-take-le i rs (omega arith) in
      let lb : length b ≡ n - (i + 1) = rw length-drop (rw (length-take-le n rs h) refl) in
      ap (λ zs. map as_pair (take (n - 1) zs)) (sym (append_assoc (take i rs) b (drop (n - 1) rs)))
      ∙ ap (map as_pair) (take_at (take i rs ++ b) (drop (n - 1) rs) (n - 1) (omega (arith, length-append (take i rs) b)))
      ∙ map-append as_pair (take i rs) b
      ∙ ap (λ zs. zs ++ map as_pair b) (front (omega arith))
      ∙ ap (λ zs. take i (map as_pair (take n rs)) ++ zs) (sym (drop-map as_pair (i + 1) (take n rs)))
