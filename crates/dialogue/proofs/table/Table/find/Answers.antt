use Rattle.std.proofs.Common.{◌≡◌, sym, ap, ◌∙◌, rules, tests}
use Rattle.std.specs.List.{find}
use Rattle.std.proofs.lemmas.Iterator.{YieldsList-from_slice}
use Rattle.std.proofs.lemmas.Iterator.Search.{find_from_yields_List}
use Rattle.store.specs.Model.{at}
use Rattle.dialogue.specs.Dialogues.{has_number}
use Rattle.dialogue.proofs.Walks.{find_of, low_find}
use Rattle.dialogue.proofs.Order.{seen}
use Rattle.dialogue.proofs.table.Table.find.Goals as goal

pub returns : goal.returns
returns c =
    let rows = c.self.inside.rows in
    let n = c.args.number in
    let first : c.copied.result ≡ find (has_number n) rows =
    c.copied.ensures ∙ find_from_yields_List (has_number n) _ _ c.find.result c.find.ensures.ran (YieldsList-from_slice rows cc) (λ x b q k. search (rules, tests))
    in
    record {
      found = first ∙ sym (find_of rows n) ∙ ap (λ t. at t.by_number n) c.self.view_is;
      on_imsi = rw first (low_find rows c.self.inside.last n c.self.invariant.1);
      table = seen c.self.inside.rows c.self.inside.last c.args.self.now c.self.view_is c.self.invariant;
    }
