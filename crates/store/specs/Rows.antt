-- Rows in key order: the map that they stand for, and which slots a change writes. Assumes nothing.
use Rattle.std.specs.Prelude.{◌≡◌, ℕ, ◌+◌, ◌-◌, ◌<◌, false, cond, List, ◌∷◌, ◌++◌, map, length, take, drop, Some, None, Ok, Err, Option, Result, nat_lt, slice_index, slice_set}
use Rattle.store.specs.declared.row.Row.{Row}
use Rattle.store.specs.Model.{Placed, keys, holds, takes, tally}

abbrev pub as_pair : {V : Type 0} → Row V → ℕ × V
as_pair r = (r.key, r.value)

-- the map that the first n slots stand for: these are the rows, and the slots past them are spare
unfoldable pub held : {V : Type 0} → List (Row V) → ℕ → List (ℕ × V)
held slots n = map as_pair (take n slots)

-- how many keys are below k: where k's row stands, or would stand
abbrev pub rank : {V : Type 0} → List (ℕ × V) → ℕ → ℕ
rank es k = tally (λ e. nat_lt e.0 k) es

-- the slots after a row goes in at i: the n - i rows from i on move up by one, and one is written
abbrev pub opened : {V : Type 0} → List (Row V) → ℕ → ℕ → Row V → List (Row V)
opened slots n i row = take i slots ++ row ∷ (drop i (take n slots) ++ drop (n + 1) slots)

-- the slots after the row at i goes: the rows above it move down by one, and the slot past the end stays as it was
abbrev pub closed : {V : Type 0} → List (Row V) → ℕ → ℕ → List (Row V)
closed slots n i = take i slots ++ (drop (i + 1) (take n slots) ++ drop (n - 1) slots)

-- the slots after a put of v at k: nothing is written by a refusal, and one slot where the key stood there
abbrev pub put_slots : {V : Type 0} → List (Row V) → ℕ → ℕ → V → List (Row V)
put_slots slots n k v = cond (takes (length slots) (held slots n) k) (cond (holds (held slots n) k) (slice_set slots (rank (held slots n) k) (record { key = k; value = v })) (opened slots n (rank (held slots n) k) (record { key = k; value = v }))) slots

-- the slots after a drop of k: nothing is written where it did not stand there
abbrev pub drop_slots : {V : Type 0} → List (Row V) → ℕ → ℕ → List (Row V)
drop_slots slots n k = cond (holds (held slots n) k) (closed slots n (rank (held slots n) k)) slots

-- where the row of k stands, or would go in
abbrev pub PlaceSays : {V : Type 0} → List (ℕ × V) → ℕ → Result ℕ ℕ → Type 0
PlaceSays es k (Ok i) = Placed es k i × (i < length es) × (slice_index (keys es) i ≡ k)
PlaceSays es k (Err i) = Placed es k i × (holds es k ≡ false)

-- where the row of k stands, if it does
abbrev pub StandsAt : {V : Type 0} → List (ℕ × V) → ℕ → Option ℕ → Type 0
StandsAt es k (Some i) = PlaceSays es k (Ok i)
StandsAt es k None = holds es k ≡ false
