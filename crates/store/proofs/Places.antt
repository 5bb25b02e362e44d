-- What the place that a search found says of the map and of the slots, as they are and once a row goes in or out. Assumes nothing.
use Rattle.std.proofs.Common.{◌≡◌, ℕ, ◌+◌, ◌-◌, ◌<◌, ◌≤◌, true, false, List, [], ◌∷◌, length, get_or, take, drop, set, Some, None, Ok, Err, Result, sym, ap, subst, ◌∙◌, inl, inr, arith, le-ltb, lt-ltb, ne_eqb, eq-eqb}
use lib.Seq.{paste}
use Rattle.std.specs.Cmp.{ranked}
use Rattle.std.specs.List.Sorted.{IsSearchInRange, IsBinarySearchResult, IsNonDecreasingBy}
use Rattle.std.specs.Ordering.{nat_cmp, ordering_index}
use Rattle.std.specs.Result.{result_ok}
use Rattle.std.proofs.lemmas.Bool.{both_ways, cases_order, or_left, or_right, or_from}
use Rattle.std.proofs.lemmas.List.{get_or-take, length-take-le}
use Rattle.store.specs.declared.row.Row.{Row}
use Rattle.store.specs.Model.{keys, rises, at, holds, takes, with_entry, without, Placed}
use Rattle.store.specs.Rows.{as_pair, held, opened, closed, put_slots, drop_slots, PlaceSays}
use Rattle.store.specs.RowsLaws.{length-held}
use Rattle.store.proofs.Maps.{length-keys, rises-at, at-found, holds-found, holds_missing, with_found, with_missing, without-found}
use Rattle.store.proofs.Held.{key_held, drop-held, held-set, held-opened, held-closed, slots_opened, slots_closed, rank_placed}

-- of two numbers, the larger compares no lower with a third
index_rises : (x y k : ℕ) → x ≤ y → ordering_index (nat_cmp x k) ≤ ordering_index (nat_cmp y k)
index_rises x y k l =
    elim (cases_order x k) [
      | inl e ↦ elim (cases_order y k) [ inl f ↦ rw (le-ltb x k (omega arith), eq-eqb x k e, le-ltb y k (omega arith), eq-eqb y k f) (omega arith) | inr o ↦ elim o [ inl lt ↦ absurd (omega arith) | inr gt ↦ rw (le-ltb x k (omega arith), eq-eqb x k e, le-ltb y k (omega arith), ne_eqb y k (λ q. omega arith)) (omega arith) ] ]
      | inr o ↦ elim o [
        | inl lt ↦ rw (lt-ltb x k lt) (omega arith)
        | inr gt ↦ rw (le-ltb x k (omega arith), ne_eqb x k (λ q. omega arith), le-ltb y k (omega arith), ne_eqb y k (λ q. omega arith)) (omega arith)
      ]
    ]

-- a row of rows that there are
pub some_row : {V : Type 0} (rs : List (Row V)) → 0 < length rs → Row V
some_row [] l = absurd (omega arith)
some_row (x ∷ rs) l = x

module _ {V : Type 0} (rs : List (Row V)) (n k : ℕ) (h : n ≤ length rs) (up : rises (keys (held rs n)) ≡ true) where
  ks : List ℕ
  ks = keys (held rs n)

  size : length ks ≡ n
  unfolding ks
  size = length-keys (held rs n) ∙ length-held rs n h

  key_at : (i : ℕ) (d : Row V) → i < n → get_or ks i 0 ≡ (get_or (take n rs) i d).key
  unfolding ks
  key_at i d l = key_held rs n i d l (omega arith) ∙ ap (λ (x : Row V). x.key) (sym (get_or-take n rs i d l))

  -- the keys rise, so a search by halves finds its way
  ordered : IsNonDecreasingBy (λ (y : Row V). ordering_index (nat_cmp y.key k)) (take n rs)
  unfolding ks
  ordered a b d l m =
      let long : length (take n rs) ≡ n = length-take-le n rs h in
      let first = key_at a d (omega arith) in
      let second = key_at b d (omega arith) in
      let rises : get_or ks a 0 ≤ get_or ks b 0 =
      elim (cases_order a b) [
        | inl e ↦ rw e (omega arith)
        | inr o ↦ elim o [ inl lt ↦ omega (arith, rises-at ks up a b lt (omega (arith, size))) | inr gt ↦ absurd (omega arith) ]
      ] in
      index_rises (get_or (take n rs) a d).key (get_or (take n rs) b d).key k (omega (arith, first, second, rises))

  -- the key stands at i
  stands : (i : ℕ) → i < n → get_or ks i 0 ≡ k → Placed (held rs n) k i
  unfolding ks
  stands i l e = record {
    within = omega (arith, length-held rs n h);
    below = λ j m. omega (arith, rises-at ks up j i m (omega (arith, size)));
    above = λ j m o.
        elim (cases_order i j) [
          | inl f ↦ rw (sym f) (omega arith)
          | inr q ↦ elim q [ inl lt ↦ omega (arith, rises-at ks up i j lt (omega (arith, size, length-held rs n h))) | inr gt ↦ absurd (omega arith) ]
        ];
  }

  pub searched : (r : Result ℕ ℕ) → IsSearchInRange r (length (take n rs)) → IsBinarySearchResult (λ (y : Row V). nat_cmp y.key k) (take n rs) r → PlaceSays (held rs n) k r
  unfolding ks
  searched (Ok i) within found =
      let long : length (take n rs) ≡ n = length-take-le n rs h in
      let l : i < n = omega (arith, long) in
      let d : Row V = some_row rs (omega arith) in
      let same : get_or ks i 0 ≡ k = key_at i d l ∙ ranked (get_or (take n rs) i d).key k _ (sym (found d)) in
      (stands i l same, omega (arith, length-held rs n h), same)
  searched (Err i) within found =
      let long : length (take n rs) ≡ n = length-take-le n rs h in
      let parts = found ordered in
      let below : (j : ℕ) → j < i → get_or ks j 0 < k = λ j l. let d : Row V = some_row rs (omega arith) in let lt = ranked (get_or (take n rs) j d).key k _ (sym (parts.0 j d (omega arith) l)) in omega (arith, key_at j d (omega (arith, long))) in
      let above : (j : ℕ) → i ≤ j → j < n → k < get_or ks j 0 = λ j l m. let d : Row V = some_row rs (omega arith) in let gt = ranked (get_or (take n rs) j d).key k _ (sym (parts.1 j d l (omega (arith, long)))) in omega (arith, key_at j d m) in
      let place : Placed (held rs n) k i = record {
        within = omega (arith, long, length-held rs n h);
        below = below;
        above = λ j l m. omega (arith, above j l (omega (arith, length-held rs n h)));
      } in
      (place, holds_missing (held rs n) k i place up (λ l e. let no = above i (omega arith) (omega (arith, length-held rs n h)) in omega arith))

-- the key stands at i
module _ {V : Type 0} (rs : List (Row V)) (n k i : ℕ) (h : n ≤ length rs) (says : PlaceSays (held rs n) k (Ok i)) where
  pub inside : i < n
  inside = omega (arith, says.1, length-held rs n h)

  here : (d : Row V) → drop i (held rs n) ≡ as_pair (get_or rs i d) ∷ drop (i + 1) (held rs n)
  here d = drop-held rs n i d inside h

  same : (d : Row V) → (get_or rs i d).key ≡ k
  same d = sym (key_held rs n i d inside (omega (arith, inside))) ∙ says.2

  pub found_at : (d : Row V) → at (held rs n) k ≡ Some (get_or rs i d).value
  found_at d = at-found (held rs n) k i says.0 (as_pair (get_or rs i d)) (here d) (same d)

  any : Row V
  any = some_row rs (omega (arith, inside))

  pub known : holds (held rs n) k ≡ true
  known = holds-found (held rs n) k i says.0 (as_pair (get_or rs i any)) (here any) (same any)

  pub taken_there : takes (length rs) (held rs n) k ≡ true
  taken_there = or_left _ _ known

  pub map_set : (v : V) → held (set rs i (record { key = k; value = v })) n ≡ with_entry (held rs n) k v
  map_set v = held-set rs n i (record { key = k; value = v }) inside h ∙ sym (with_found (held rs n) k i says.0 (as_pair (get_or rs i any)) (here any) (same any) v)

  pub slots_set : (v : V) → set rs i (record { key = k; value = v }) ≡ put_slots rs n k v
  slots_set v = rw (taken_there, known, rank_placed (held rs n) k i says.0)

  cut : paste rs i (drop (i + 1) rs) (n - (i + 1)) ≡ closed rs n i
  cut = slots_closed rs n i inside h

  pub map_cut : held (paste rs i (drop (i + 1) rs) (n - (i + 1))) (n - 1) ≡ without (held rs n) k
  map_cut = ap (λ zs. held zs (n - 1)) cut ∙ held-closed rs n i inside h ∙ sym (without-found (held rs n) k i says.0 (as_pair (get_or rs i any)) (here any) (same any))

  pub slots_cut : paste rs i (drop (i + 1) rs) (n - (i + 1)) ≡ drop_slots rs n k
  slots_cut = rw (known, rank_placed (held rs n) k i says.0) cut

-- the key would go in at i
module _ {V : Type 0} (rs : List (Row V)) (n k i : ℕ) (v : V) (h : n < length rs) (up : rises (keys (held rs n)) ≡ true) (says : PlaceSays (held rs n) k (Err i)) where
  abbrev row : Row V
  row = record { key = k; value = v }

  pub within : i ≤ n
  within = omega (arith, says.0.within, length-held rs n (omega arith))

  absent : i < length (held rs n) → get_or (keys (held rs n)) i 0 ≡ k → ⊥
  absent l e =
      let l' : i < n = omega (arith, length-held rs n (omega arith)) in
      let there : holds (held rs n) k ≡ true = holds-found (held rs n) k i says.0 (as_pair (get_or rs i row)) (drop-held rs n i row l' (omega arith)) (sym (key_held rs n i row l' (omega arith)) ∙ e) in
      both_ways (holds (held rs n) k) says.1 there

  pub taken_new : takes (length rs) (held rs n) k ≡ true
  taken_new = or_right _ _ (lt-ltb (length (held rs n)) (length rs) (omega (arith, length-held rs n (omega arith))))

  opening : set (paste rs (i + 1) (drop i rs) (n - i)) i row ≡ opened rs n i row
  opening = slots_opened rs n i row within h

  pub map_opened : held (set (paste rs (i + 1) (drop i rs) (n - i)) i (record { key = k; value = v })) (n + 1) ≡ with_entry (held rs n) k v
  map_opened = ap (λ zs. held zs (n + 1)) opening ∙ held-opened rs n i row within h ∙ sym (with_missing (held rs n) k i says.0 up absent v)

  pub slots_new : set (paste rs (i + 1) (drop i rs) (n - i)) i (record { key = k; value = v }) ≡ put_slots rs n k v
  slots_new = rw (taken_new, says.1, rank_placed (held rs n) k i says.0) opening

-- what a search that found nothing, or a place, says
pub missed : {V : Type 0} (es : List (ℕ × V)) (k : ℕ) (r : Result ℕ ℕ) → PlaceSays es k r → result_ok r ≡ None → holds es k ≡ false
missed es k (Ok i) says none = let z : ◌≡◌ {A = ℕ} 0 1 = cc in let no : ⊥ = omega arith in absurd no
missed es k (Err i) says none = says.1

pub found : {V : Type 0} (es : List (ℕ × V)) (k i : ℕ) (r : Result ℕ ℕ) → PlaceSays es k r → result_ok r ≡ Some i → PlaceSays es k (Ok i)
found es k i (Ok j) says some = let same : j ≡ i = cc in subst (λ m. PlaceSays es k (Ok m)) same says
found es k i (Err j) says some = let z : ◌≡◌ {A = ℕ} 0 1 = cc in let no : ⊥ = omega arith in absurd no

-- where every slot is a row, a new key is not taken
pub full : {V : Type 0} (rs : List (Row V)) (n k i : ℕ) → n ≡ length rs → PlaceSays (held rs n) k (Err i) → takes (length rs) (held rs n) k ≡ false
full rs n k i e says = or_from _ _ says.1 (le-ltb (length (held rs n)) (length rs) (omega (arith, length-held rs n (omega arith))))
