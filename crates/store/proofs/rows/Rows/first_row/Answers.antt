-- That the row at a number's place is the first from it on. Assumes nothing.
use Rattle.std.proofs.Common.{Some, sym, ap, ◌∙◌, subst, arith}
use Rattle.std.proofs.lemmas.List.{drop_all}
use Rattle.store.specs.declared.row.Row.{Row}
use Rattle.store.specs.Model.{Placed}
use Rattle.store.specs.Rows.{as_pair, held}
use Rattle.store.specs.RowsLaws.{length-held}
use Rattle.store.proofs.Maps.{first_found, first_past}
use Rattle.store.proofs.Held.{key_held, drop-held}
use Rattle.store.proofs.rows.Rows.first_row.Goals as goal
use Rattle.store.proofs.rows.Rows.first_row.Goals.{in-Ok, in-Ok-2}

pub returns-then-i-self : goal.returns-then-i-self
returns-then-i-self g c =
    let s = c.args.self.now in
    let rs = s.rows.items in
    let i = c.match-place.i in
    let x = c.index.result.now in
    let size = length-held rs s.len (omega arith) in
    let place : Placed (held rs s.len) c.args.from i =
    elim c.match-place.branch [
      | in-Ok w ↦ subst (λ m. Placed (held rs s.len) c.args.from m) (sym w.i-is) w.in-Ok.ensures.0
      | in-Ok-2 w ↦ subst (λ m. Placed (held rs s.len) c.args.from m) (sym w.i-is) w.in-Ok.ensures.0
    ] in
    let key = key_held rs s.len i x c.if-i-self.true (omega arith) in
    let above = place.above i (omega arith) (omega (arith, size)) in
    sym (first_found (held rs s.len) c.args.from i place (as_pair _) (drop-held rs s.len i x c.if-i-self.true (omega arith)) (omega arith) ∙ ap (λ (y : Row _). Some y.key) (sym c.index.ensures))

pub returns-else-i-self : goal.returns-else-i-self
returns-else-i-self g c =
    let s = c.args.self.now in
    let rs = s.rows.items in
    let i = c.match-place.i in
    let size = length-held rs s.len (omega arith) in
    let place : Placed (held rs s.len) c.args.from i =
    elim c.match-place.branch [
      | in-Ok w ↦ subst (λ m. Placed (held rs s.len) c.args.from m) (sym w.i-is) w.in-Ok.ensures.0
      | in-Ok-2 w ↦ subst (λ m. Placed (held rs s.len) c.args.from m) (sym w.i-is) w.in-Ok.ensures.0
    ] in
    sym (first_past (held rs s.len) c.args.from i place (drop_all i (held rs s.len) (omega (arith, size))))
