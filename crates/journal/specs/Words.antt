-- The words of a `visitor` line that name a choice. Assumes nothing.
use Rattle.std.specs.Prelude.{◌≡◌, ◌≢◌, ℕ, List, Result, MatchResult, codes}
use Rattle.journal.specs.declared.call.Exchanges.{Exchanges}
use Rattle.journal.specs.declared.call.Exchanges.TheVariants.{One, Several}
use Rattle.journal.specs.declared.call.StoreKind.{StoreKind}
use Rattle.journal.specs.declared.call.StoreKind.TheVariants.{Rows, Tree}
use Rattle.journal.specs.declared.fault.Fault.{Fault}
use Rattle.journal.specs.declared.fault.Fault.TheVariants.{Visitor}

abbrev pub exchanges_word : Exchanges → List ℕ
exchanges_word One = codes "one"
exchanges_word Several = codes "several"

abbrev pub store_word : StoreKind → List ℕ
store_word Rows = codes "rows"
store_word Tree = codes "tree"

-- a word is read as the choice that it names, and refused where it names none
abbrev pub Reads : {A : Type 0} → (A → List ℕ) → List ℕ → Result A Fault → Type 0
Reads {A} word bs r = MatchResult r (λ choice. bs ≡ word choice) (λ fault. (fault ≡ Visitor) × ((choice : A) → bs ≢ word choice))
