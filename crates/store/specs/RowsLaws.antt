-- That rows in key order keep to what holds of every store. Assumes nothing.
use Rattle.std.specs.Prelude.{◌≡◌, ℕ, ◌≤◌, List, length, take}
use Rattle.std.proofs.Common.{◌∙◌, arith}
use Rattle.std.proofs.lemmas.List.{length-map, length-take-le}
use Rattle.key.specs.declared.identity.Key.{Ghosts}
use Rattle.store.specs.declared.row.Row.{Row}
use Rattle.store.specs.declared.rows.Rows.{Rows}
use Rattle.store.specs.Model.{Lawful}
use Rattle.store.specs.Rows.{as_pair, held}

pub length-held : {V : Type 0} (rs : List (Row V)) (n : ℕ) → n ≤ length rs → length (held rs n) ≡ n
unfolding held
length-held rs n l = length-map (take n rs) as_pair ∙ length-take-le n rs l

pub rows_lawful : {K V : Type 0} {key : Ghosts K} (s : Rows K V key) → Lawful key.LIMIT s.rows.len (held s.rows.items s.len)
rows_lawful s = record {
  rising = s.rising;
  valid = s.valid;
  bounded = omega (arith, length-held s.rows.items s.len (omega arith));
  small = s.small;
}
