-- That the number found makes a key again. Assumes nothing.
use Rattle.std.proofs.Common.{◌≡◌, Some, sym, ap, ◌∙◌, rules}
use Rattle.store.specs.Model.{start, numbered, first_from}
use Rattle.store.specs.Rows.{held}
use Rattle.store.proofs.Maps.{first_below}
use Rattle.store.proofs.Changes.{made_again}
use Rattle.store.proofs.rows_store.RowsRecordStore.next.Goals as goal

pub returns : goal.returns
returns g c =
    let es = held c.args.self.now.rows.items c.args.self.now.len in
    let k = c.map_or-from.result in
    let n = c.in_ok-first_row.field-0 in
    let from : k ≡ start (numbered g.K.Key.number c.args.above.now) = search rules in
    let first : first_from es k ≡ Some n = sym c.in_ok-first_row.ensures in
    made_again g.K.Key.number g.K.Key.LIMIT n c.from_number.result (first_below g.K.Key.LIMIT es k n c.args.self.now.valid first) c.from_number.ensures ∙ sym first ∙ ap (first_from es) from
