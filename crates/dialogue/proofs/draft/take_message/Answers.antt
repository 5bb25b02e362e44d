use Rattle.std.proofs.Common.{◌≡◌, ℕ, ◌+◌, ◌<◌, List, [], ◌∷◌, length, get_or, drop, Some, None, sym, refl, ap, ◌∙◌, rules, add-one, drop-cons}
use Rattle.std.specs.List.{fold}
use Rattle.std.proofs.lemmas.List.{drop_all}
use Rattle.dialogue.specs.Groups.{group_read}
use Rattle.dialogue.specs.Messages.{Progress, message, message_ignored, one_more, with_more}
use Rattle.dialogue.proofs.draft.take_message.Goals as goal

-- one group of those that are left
turn : (gs : List (List ℕ)) (i : ℕ) (d : List ℕ) (p : Progress) → i < length gs → fold one_more (Some p) (drop i gs) ≡ fold one_more (with_more (group_read (get_or gs i d)) p) (drop (i + 1) gs)
turn gs i d p l = rw (add-one, drop-cons gs i d l)

rejected_stays : (gs : List (List ℕ)) → fold one_more None gs ≡ None
rejected_stays [] = refl
rejected_stays (g ∷ gs) = rejected_stays gs

pub returns-in_err-group : goal.returns-in_err-group
returns-in_err-group c =
    let gs = c.as_chunks.result.0.now in
    let i = c.loop-bytes.bytes-index in
    let now : Progress = record { draft = c.loop-bytes.guard.draft.now; ignored = c.loop-bytes.ignored } in
    let none : message c.args.groups.now c.args.draft.now ≡ None = sym c.loop-bytes.invariant.1 ∙ turn gs i [] now c.loop-bytes-test.true ∙ sym (ap (λ o. fold one_more (with_more o now) (drop (i + 1) gs)) c.in_err-group.ensures) ∙ rejected_stays (drop (i + 1) gs) in
    record { answer = c.from_residual.ensures ∙ sym (ap message_ignored none); draft = rw none (search rules) }

pub returns : goal.returns
returns c =
    let gs = c.as_chunks.result.0.now in
    let now : Progress = record { draft = c.loop-bytes.guard.draft.now; ignored = c.loop-bytes.ignored } in
    let all : message c.args.groups.now c.args.draft.now ≡ Some now = sym c.loop-bytes.invariant.1 ∙ ap (fold one_more (Some now)) (drop_all c.loop-bytes.bytes-index gs c.loop-bytes-test.false) in
    record { answer = sym (ap message_ignored all); draft = rw all (search rules) }
