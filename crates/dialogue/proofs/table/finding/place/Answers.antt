use Rattle.std.proofs.Common.{◌≡◌, ◌<◌, ℕ, true, List, length, None, Some, Option, refl, rules, tests}
use Rattle.std.specs.List.{AllWithin, HoldsAt}
use Rattle.std.specs.Option.{MatchOption, ok_or}
use Rattle.std.proofs.lemmas.Iterator.{YieldsList-from_slice, IsFirst-from_position}
use Rattle.key.specs.declared.refusal.Refusal.TheVariants.{DialogueNotOpen}
use Rattle.dialogue.specs.declared.row.Dialogue.{Dialogue}
use Rattle.dialogue.specs.Dialogues.{has_number}
use Rattle.dialogue.specs.Listed.{PlaceSays}
use Rattle.dialogue.proofs.Walks.{Unlike, none_at, found_at}
use Rattle.dialogue.proofs.table.finding.place.Goals as goal

says : (rows : List Dialogue) (n : ℕ) (o : Option ℕ) → MatchOption o (AllWithin (Unlike n) rows 0 (length rows)) (λ i. (i < length rows) × HoldsAt (λ r. has_number n r ≡ true) rows i × AllWithin (Unlike n) rows 0 i) → PlaceSays (ok_or o DialogueNotOpen) rows n
says rows n None apart = (refl, none_at rows n apart)
says rows n (Some i) at = (at.0, λ r. (at.1 r, found_at rows n i r at.0 at.2 (at.1 r)))

pub returns : goal.returns
returns c =
    let rows = c.args.rows.now in
    let n = c.args.number in
    rw c.ok_or.ensures.value (says rows n c.position.result (IsFirst-from_position _ _ c.position.result (λ r. has_number n r ≡ true) (Unlike n) c.position.ensures.ran (YieldsList-from_slice rows cc) (λ x q k. search (rules, tests)) (λ x q k. search (rules, tests))))
