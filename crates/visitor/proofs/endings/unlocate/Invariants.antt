use Rattle.std.proofs.Common.{◌≡◌, ◌-◌, length}
use Rattle.store.specs.Model.{up_to, start, numbered, tally}
use Rattle.store.proofs.Each.{each_to}
use Rattle.restoration.specs.Steps.{concerns, reset_one}
use Rattle.visitor.proofs.endings.unlocate.Given as goal

-- the records up to the last key are changed and counted
abbrev pub invariant-loop-imsi : goal.invariant-loop-imsi
invariant-loop-imsi g l = record {
  room : g.S.RecordStore.room l.store ≡ g.S.RecordStore.room l.initial.store;
  records : g.S.RecordStore.entries l.store ≡ each_to (reset_one l.id.digits l.id.value) (start (numbered (λ k. k.number) l.last)) (g.S.RecordStore.entries l.initial.store);
  count : l.count ≡ tally (concerns l.id.digits l.id.value) (up_to (start (numbered (λ k. k.number) l.last)) (g.S.RecordStore.entries l.initial.store));
}

abbrev pub decreases-loop-imsi : goal.decreases-loop-imsi
decreases-loop-imsi g l = length (g.S.RecordStore.entries l.initial.store) - length (up_to (start (numbered (λ k. k.number) l.last)) (g.S.RecordStore.entries l.initial.store))
