-- That the row at a key's place is the key's, or there is none. Assumes nothing.
use Rattle.std.proofs.Common.{Some, sym, ap, ◌∙◌, arith}
use Rattle.store.specs.declared.row.Row.{Row}
use Rattle.store.specs.Rows.{held}
use Rattle.store.proofs.Maps.{none_from_holds}
use Rattle.store.proofs.Places.{missed, found, inside, found_at}
use Rattle.store.proofs.rows.Rows.find_row.Goals as goal

pub returns-in_err-i : goal.returns-in_err-i
returns-in_err-i g c =
    let es = held c.args.self.now.rows.items c.args.self.now.len in
    let k = c.args.key in
    c.from_residual.ensures ∙ sym (none_from_holds es k (missed es k c.place.result c.place.ensures (sym c.ok.ensures.value ∙ c.in_err-i.was)))

pub index-requires : goal.index-requires
index-requires g c =
    let s = c.args.self.now in
    let k = c.args.key in
    let there = found (held s.rows.items s.len) k c.in_ok-i.i c.place.result c.place.ensures (sym c.ok.ensures.value ∙ c.in_ok-i.was) in
    omega (arith, inside s.rows.items s.len k c.in_ok-i.i (omega arith) there)

pub returns : goal.returns
returns g c =
    let s = c.args.self.now in
    let k = c.args.key in
    let there = found (held s.rows.items s.len) k c.in_ok-i.i c.place.result c.place.ensures (sym c.ok.ensures.value ∙ c.in_ok-i.was) in
    rw (found_at s.rows.items s.len k c.in_ok-i.i (omega arith) there c.index.result.now) (ap (λ (x : Row _). Some x.value) c.index.ensures)
