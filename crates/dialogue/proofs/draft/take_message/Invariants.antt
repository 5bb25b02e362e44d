use Rattle.std.proofs.Common.{◌≡◌, Some, drop}
use Rattle.std.specs.List.{fold}
use Rattle.dialogue.specs.Messages.{message, one_more}
use Rattle.dialogue.proofs.draft.take_message.Given as goal

-- the groups that are left lead where all of them lead
abbrev pub invariant-loop-bytes : goal.invariant-loop-bytes
invariant-loop-bytes l =
    (l.guard.old ≡ l.initial.guard.old)
    × (fold one_more (Some (record { draft = l.guard.draft.now; ignored = l.ignored })) (drop l.bytes-index l.whole) ≡ message l.groups l.fn.draft)
