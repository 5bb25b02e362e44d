-- That the search by halves finds the place. Assumes nothing.
use Rattle.std.proofs.Common.{rules, arith}
use Rattle.std.proofs.lemmas.List.Sorted.{answers_always}
use Rattle.store.specs.declared.row.Row.{Row}
use Rattle.store.proofs.Places.{searched}
use Rattle.store.proofs.rows.Rows.place.Goals as goal

pub returns : goal.returns
returns g c =
    let s = c.args.self.now in
    let found = c.binary_search_by_key.ensures.position (λ (y : Row _). y.key) (answers_always _ _ _ (λ f a r h e. search rules)) in
    searched s.rows.items s.len c.args.key (omega arith) s.rising c.binary_search_by_key.result (rw c.deref.ensures.value at c.binary_search_by_key.ensures.bound) (rw c.deref.ensures.value at found)
