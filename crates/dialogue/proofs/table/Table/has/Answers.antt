use Rattle.std.proofs.Common.{◌≡◌, sym, ap, ◌∙◌, rules, tests}
use Rattle.std.specs.List.{list_any}
use Rattle.std.proofs.lemmas.Iterator.{YieldsList-from_slice}
use Rattle.std.proofs.lemmas.Iterator.Search.{any_from_yields_List}
use Rattle.store.specs.Model.{any}
use Rattle.dialogue.specs.Dialogues.{is_on}
use Rattle.dialogue.specs.Listed.{on}
use Rattle.dialogue.proofs.Walks.{any_of}
use Rattle.dialogue.proofs.Order.{seen}
use Rattle.dialogue.proofs.table.Table.has.Goals as goal

pub returns : goal.returns
returns c =
    let t = c.self.inside in
    let imsi = c.args.imsi in
    let kind = c.args.kind in
    let walked : c.any.result ≡ list_any (is_on imsi kind) t.rows =
    any_from_yields_List (is_on imsi kind) _ _ c.any.result c.any.ensures.ran (YieldsList-from_slice t.rows cc) (λ x b q k. search (rules, tests))
    in
    record {
      answer = walked ∙ sym (any_of t.rows t.last imsi kind c.self.invariant.1) ∙ ap (λ v. any (on imsi kind) v.by_number) c.self.view_is;
      table = seen c.self.inside.rows c.self.inside.last c.args.self.now c.self.view_is c.self.invariant;
    }
