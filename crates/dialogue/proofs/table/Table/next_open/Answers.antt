use Rattle.std.proofs.Common.{◌≡◌, min, map, sym, ap, ◌∙◌, rules, tests}
use Rattle.std.specs.List.{filter, reduce}
use Rattle.std.specs.Option.{option_map}
use Rattle.std.proofs.lemmas.Iterator.{YieldsList-from_slice, YieldsList-from_map}
use Rattle.std.proofs.lemmas.Iterator.Consumers.{YieldsList-at, YieldsList-from_filter, min_from_yields_List}
use Rattle.std.proofs.lemmas.Iterator.Adapters.{option_map_id}
use Rattle.store.specs.Model.{first_from, start}
use Rattle.dialogue.specs.Dialogues.{is_from}
use Rattle.dialogue.proofs.Walks.{first_of}
use Rattle.dialogue.proofs.Order.{seen}
use Rattle.dialogue.proofs.table.Table.next_open.Goals as goal

pub returns : goal.returns
returns c =
    let rows = c.self.inside.rows in
    let n = start c.args.above in
    let least : option_map (λ k. k) c.min.result ≡ reduce min (map (λ d. d.number) (filter (is_from n) rows)) =
    min_from_yields_List c.map.result c.min.result c.min.ensures.ran (
    YieldsList-from_map _ (λ d. d.number) (YieldsList-at c.map.ensures.source (YieldsList-from_filter _ (is_from n) (YieldsList-at c.filter.ensures.source (YieldsList-from_slice rows cc)) c.filter.ensures.closure (λ x b q k. search (rules, tests)))) c.map.ensures.closure (λ x r q k. search rules)
    )
    in
    let walked : c.min.result ≡ reduce min (map (λ d. d.number) (filter (is_from n) rows)) = sym (option_map_id c.min.result) ∙ least in
    record {
      answer = walked ∙ sym (first_of rows n) ∙ ap (λ t. first_from t.by_number n) c.self.view_is;
      table = seen c.self.inside.rows c.self.inside.last c.args.self.now c.self.view_is c.self.invariant;
    }
