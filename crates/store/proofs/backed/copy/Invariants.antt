-- What a copy holds so far, and that it ends. Assumes nothing.
use Rattle.std.proofs.Common.{◌≡◌, ◌-◌, length}
use Rattle.store.specs.Model.{up_to, start, numbered}
use Rattle.store.proofs.backed.copy.Given as goal

-- `to` holds what `from` holds up to the last key
abbrev pub invariant-loop-k : goal.invariant-loop-k
invariant-loop-k g l =
    (g.B.RecordStore.room l.to ≡ g.B.RecordStore.room l.initial.to)
    × (g.B.RecordStore.entries l.to ≡ up_to (start (numbered g.K.Key.number l.last)) (g.A.RecordStore.entries l.from))

abbrev pub decreases-loop-k : goal.decreases-loop-k
decreases-loop-k g l = length (g.A.RecordStore.entries l.from) - length (up_to (start (numbered g.K.Key.number l.last)) (g.A.RecordStore.entries l.from))
