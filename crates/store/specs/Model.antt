-- A map from key numbers to records, as a list of pairs that rises strictly by number. Assumes nothing.
use Rattle.std.specs.Prelude.{◌≡◌, ℕ, ◌+◌, ◌<◌, ◌≤◌, Bool, true, false, cond, ◌&&◌, ◌||◌, List, [], ◌∷◌, length, Some, None, Ok, Err, Option, Result, ◌==◌, nat_lt, slice_index}
use Rattle.key.specs.declared.refusal.Refusal.{Refusal}
use Rattle.key.specs.declared.refusal.Refusal.TheVariants.{StoreFull, BackUpTooSmall}

-- the key numbers
abbrev pub keys : {V : Type 0} → List (ℕ × V) → List ℕ
keys [] = []
keys (e ∷ es) = e.0 ∷ keys es

-- the numbers rise strictly, from above n
unfoldable pub climbs : ℕ → List ℕ → Bool
climbs n [] = true
climbs n (k ∷ ks) = nat_lt n k && climbs k ks

unfoldable pub rises : List ℕ → Bool
rises [] = true
rises (k ∷ ks) = climbs k ks

-- each number is below n
unfoldable pub all_below : ℕ → List ℕ → Bool
all_below n [] = true
all_below n (k ∷ ks) = nat_lt k n && all_below n ks

-- the record at the key number k
unfoldable pub at : {V : Type 0} → List (ℕ × V) → ℕ → Option V
at [] k = None
at (e ∷ es) k = cond (e.0 == k) (Some e.1) (at es k)

-- whether k is a key
unfoldable pub holds : {V : Type 0} → List (ℕ × V) → ℕ → Bool
holds [] k = false
holds (e ∷ es) k = e.0 == k || holds es k

-- the map with k set to v
unfoldable pub with_entry : {V : Type 0} → List (ℕ × V) → ℕ → V → List (ℕ × V)
with_entry [] k v = (k, v) ∷ []
with_entry (e ∷ es) k v = cond (nat_lt e.0 k) (e ∷ with_entry es k v) (cond (e.0 == k) ((k, v) ∷ es) ((k, v) ∷ e ∷ es))

-- the map without k
unfoldable pub without : {V : Type 0} → List (ℕ × V) → ℕ → List (ℕ × V)
without [] k = []
without (e ∷ es) k = cond (e.0 == k) es (e ∷ without es k)

-- the smallest key number that is at least n
unfoldable pub first_from : {V : Type 0} → List (ℕ × V) → ℕ → Option ℕ
first_from [] n = None
first_from (e ∷ es) n = cond (nat_lt e.0 n) (first_from es n) (Some e.0)

-- whether a put of k is taken
abbrev pub takes : {V : Type 0} → ℕ → List (ℕ × V) → ℕ → Bool
takes room es k = holds es k || nat_lt (length es) room

-- a number for each key
abbrev pub numbered : {K : Type 0} → (K → ℕ) → Option K → Option ℕ
numbered f (Some k) = Some (f k)
numbered f None = None

-- the least number above the given one, or the least of all
abbrev pub start : Option ℕ → ℕ
start (Some n) = n + 1
start None = 0

-- r is the place of k: how many keys are below it
pub record Placed {V : Type 0} (es : List (ℕ × V)) (k r : ℕ) : Type 0 where
  pub within : r ≤ length es
  pub below : (i : ℕ) → i < r → slice_index (keys es) i < k
  pub above : (i : ℕ) → r ≤ i → i < length es → k ≤ slice_index (keys es) i

-- what each store keeps to
pub record Lawful {V : Type 0} (limit room : ℕ) (es : List (ℕ × V)) : Type 0 where
  pub rising : rises (keys es) ≡ true
  pub valid : all_below limit (keys es) ≡ true
  pub bounded : length es ≤ room
  pub small : room ≤ 65536

-- the entries below n, which stand first
unfoldable pub up_to : {V : Type 0} → ℕ → List (ℕ × V) → List (ℕ × V)
up_to n [] = []
up_to n (e ∷ es) = cond (nat_lt e.0 n) (e ∷ up_to n es) []

-- what a put of v at k into es answers, and what it leaves
abbrev pub PutSays : {V T : Type 0} → ℕ → List (ℕ × V) → ℕ → V → Result T Refusal → List (ℕ × V) → Type 0
PutSays room es k v (Ok _) after = (takes room es k ≡ true) × (after ≡ with_entry es k v)
PutSays room es k v (Err e) after = (e ≡ StoreFull) × (takes room es k ≡ false) × (after ≡ es)

-- whether there is such an entry
unfoldable pub any : {V : Type 0} → (ℕ × V → Bool) → List (ℕ × V) → Bool
any p [] = false
any p (e ∷ es) = p e || any p es

-- the entries that are such
unfoldable pub only : {V : Type 0} → (ℕ × V → Bool) → List (ℕ × V) → List (ℕ × V)
only p [] = []
only p (e ∷ es) = cond (p e) (e ∷ only p es) (only p es)

-- how many entries are such
unfoldable pub tally : {V : Type 0} → (ℕ × V → Bool) → List (ℕ × V) → ℕ
tally p [] = 0
tally p (e ∷ es) = cond (p e) (1 + tally p es) (tally p es)

-- each entry changed
unfoldable pub each : {V : Type 0} → (ℕ → V → V) → List (ℕ × V) → List (ℕ × V)
each f [] = []
each f (e ∷ es) = (e.0, f e.0 e.1) ∷ each f es

abbrev pub each_at : {V : Type 0} → (ℕ → V → V) → ℕ → Option V → Option V
each_at f k None = None
each_at f k (Some v) = Some (f k v)

-- of the rows or nodes handed in, how many are used
abbrev pub capped : ℕ → ℕ
capped n = cond (nat_lt n 65536) n 65536

-- what a put at k would answer
abbrev pub room_answer : {V : Type 0} → ℕ → List (ℕ × V) → ℕ → Result (Unit {0}) Refusal
room_answer room es k = cond (takes room es k) (Ok tt) (Err StoreFull)

-- what a copy of es into a store of that room answers: it may have no more entries than the room
abbrev pub copy_answer : {V : Type 0} → ℕ → List (ℕ × V) → Result (Unit {0}) Refusal
copy_answer room es = cond (nat_lt room (length es)) (Err BackUpTooSmall) (Ok tt)

-- what the store holds then, where it held old
abbrev pub copied : {V : Type 0} → ℕ → List (ℕ × V) → List (ℕ × V) → List (ℕ × V)
copied room es old = cond (nat_lt room (length es)) old es
