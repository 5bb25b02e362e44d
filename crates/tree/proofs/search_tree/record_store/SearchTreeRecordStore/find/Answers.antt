-- The answers of `find`. Assumes nothing.
use Rattle.std.proofs.Common.{sym, ◌∙◌, arith}
use Rattle.tree.proofs.Finds.{sought_none, sought_some, held_within, held_some}
use Rattle.tree.proofs.Trees.{read}
use Rattle.tree.proofs.search_tree.record_store.SearchTreeRecordStore.find.Goals as goal

pub returns-in_err-held : goal.returns-in_err-held
returns-in_err-held g c = c.from_residual.ensures ∙ sym (sought_none c.args.self.now _ c.seek.result c.seek.ensures (sym c.ok.ensures.value ∙ c.in_err-held.was))

pub index-requires : goal.index-requires
index-requires g c =
    let s = c.args.self.now in
    let m = sought_some s _ c.seek.result c.in_ok-held.held c.seek.ensures (sym c.ok.ensures.value ∙ c.in_ok-held.was) in
    omega (arith, held_within s _ c.in_ok-held.held m, s.nodes.ok.0)

pub returns : goal.returns
returns g c =
    let s = c.args.self.now in
    let m = sought_some s _ c.seek.result c.in_ok-held.held c.seek.ensures (sym c.ok.ensures.value ∙ c.in_ok-held.was) in
    let at = read s.nodes.items c.in_ok-held.held.at _ (held_within s _ c.in_ok-held.held m) c.index.ensures in
    sym (held_some s _ c.in_ok-held.held c.index.result.now m at)
