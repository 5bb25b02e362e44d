-- The answers of `next`. Assumes nothing.
use Rattle.std.proofs.Common.{◌≡◌, ℕ, ◌<◌, ◌≤◌, Some, None, Option, sym, ap, ◌∙◌, arith}
use Rattle.key.specs.Keys.{Made}
use Rattle.store.specs.Model.{numbered, first_from, start}
use Rattle.tree.specs.State.{stored}
use Rattle.tree.proofs.Maps.{first_below}
use Rattle.tree.proofs.Sealed.{known}
use Rattle.tree.proofs.search_tree.record_store.SearchTreeRecordStore.next.Goals as goal
use Rattle.tree.proofs.search_tree.record_store.SearchTreeRecordStore.next.Goals.{in-Some, in-None}

-- a number below the limit is a key's
made_again : {K : Type 0} (f : K → ℕ) (limit n : ℕ) (r : Option K) → n < limit → Made f limit n r → numbered f r ≡ Some n
made_again f limit n (Some k) l h = ap (λ m. Some m) h.0
made_again f limit n None l h = let le : limit ≤ n = h in let no : ⊥ = omega arith in absurd no

pub returns : goal.returns
returns g c =
    let s = c.args.self.now in
    let es = stored s.nodes.items s.head in
    let n = c.in_ok-found.field-0 in
    let from : c.match-above.found ≡ first_from es (start (numbered g.K.Key.number c.args.above.now)) =
    elim c.match-above.branch [
      | in-Some w ↦ w.found-is ∙ w.least_above-found.ensures ∙ ap (λ o. first_from es (start (numbered g.K.Key.number o))) (sym w.in-Some.is)
      | in-None w ↦ w.found-is ∙ w.least-found.ensures ∙ ap (λ o. first_from es (start (numbered g.K.Key.number o))) (sym w.in-None.is)
    ] in
    let first : first_from es (start (numbered g.K.Key.number c.args.above.now)) ≡ Some n = sym from ∙ c.in_ok-found.was in
    made_again g.K.Key.number g.K.Key.LIMIT n c.from_number.result (first_below g.K.Key.LIMIT _ n es (known s).lawful.valid first) c.from_number.ensures ∙ sym first
