use Rattle.std.proofs.Common.{◌≡◌, true, false, sym, refl, ap, ◌∙◌, arith}
use Rattle.key.specs.Figures.{begins}
use Rattle.store.specs.Model.{start, numbered, tally, first_from, with_entry, takes}
use Rattle.store.proofs.Maps.{takes-some}
use Rattle.store.proofs.Walk.{up_to_none, up_to_all}
use Rattle.store.proofs.Each.{each_to-none, each_to_all, first-each_to}
use Rattle.restoration.specs.Steps.{concerns, reset_one}
use Rattle.visitor.proofs.Resets.{found, turn_sets, turn_passes, turn_falls, turn_counts, turn_low}
use Rattle.visitor.proofs.endings.unlocate.Goals as goal

pub loop-imsi-init : goal.loop-imsi-init
unfolding tally
loop-imsi-init g c =
    let es = g.S.RecordStore.entries c.args.store.now in
    let id = c.args.id in
    record {
      room = refl;
      records = sym (each_to-none (reset_one id.digits id.value) es);
      count = sym (ap (tally (concerns id.digits id.value)) (up_to_none es));
    }

pub unwrap-record-requires : goal.unwrap-record-requires
unwrap-record-requires g c =
    rw c.find.ensures (found _ _ _ _ _ _ (g.met.S.RecordStore.lawful c.args.store.now).rising c.loop-imsi.invariant.records c.in-Some.ensures)

-- a record that is there is replaced, however full the store
pub unwrap-requires : goal.unwrap-requires
unwrap-requires g c =
    let store = c.loop-imsi.store in
    let room : takes (g.S.RecordStore.room store) (g.S.RecordStore.entries store) c.in-Some.imsi.number ≡ true = takes-some _ _ _ c.unwrap-record.result (sym c.find.ensures ∙ c.unwrap-record.ensures) in
    grind arith

pub overflow_add-count : goal.overflow_add-count
overflow_add-count g c =
    let law = g.met.S.RecordStore.lawful c.args.store.now in
    omega (arith, c.loop-imsi.invariant.count, turn_low _ _ _ _ _ _ law.rising c.loop-imsi.invariant.records c.in-Some.ensures, law.bounded, law.small)

pub loop-imsi-smaller-then-begins_with : goal.loop-imsi-smaller-then-begins_with
loop-imsi-smaller-then-begins_with g c = turn_falls _ _ _ _ _ _ (g.met.S.RecordStore.lawful c.args.store.now).rising c.loop-imsi.invariant.records c.in-Some.ensures

pub loop-imsi-smaller : goal.loop-imsi-smaller
loop-imsi-smaller g c = turn_falls _ _ _ _ _ _ (g.met.S.RecordStore.lawful c.args.store.now).rising c.loop-imsi.invariant.records c.in-Some.ensures

pub loop-imsi-preserved-then-begins_with : goal.loop-imsi-preserved-then-begins_with
loop-imsi-preserved-then-begins_with g c =
    let up = (g.met.S.RecordStore.lawful c.args.store.now).rising in
    let id = c.args.id in
    let concerned : begins c.in-Some.imsi.number id.digits id.value ≡ true = sym c.begins_with.ensures ∙ c.if-begins_with.true in
    record {
      room = c.put.ensures.room ∙ c.loop-imsi.invariant.room;
      records = (rw c.unwrap.ensures at c.put.ensures.entries).1 ∙ ap (with_entry (g.S.RecordStore.entries c.loop-imsi.store) c.in-Some.imsi.number) c.unlocated.ensures ∙ turn_sets _ _ _ _ _ _ up c.loop-imsi.invariant.records c.in-Some.ensures c.unwrap-record.result (sym c.find.ensures ∙ c.unwrap-record.ensures) concerned;
      count = omega (arith, c.loop-imsi.invariant.count, rw concerned at (turn_counts _ _ _ _ _ _ up c.loop-imsi.invariant.records c.in-Some.ensures));
    }

pub loop-imsi-preserved : goal.loop-imsi-preserved
loop-imsi-preserved g c =
    let up = (g.met.S.RecordStore.lawful c.args.store.now).rising in
    let id = c.args.id in
    let passed : begins c.in-Some.imsi.number id.digits id.value ≡ false = sym c.begins_with.ensures ∙ c.if-begins_with.false in
    record {
      room = c.loop-imsi.invariant.room;
      records = turn_passes _ _ _ _ _ _ up c.loop-imsi.invariant.records c.in-Some.ensures passed;
      count = c.loop-imsi.invariant.count ∙ sym (rw passed at (turn_counts _ _ _ _ _ _ up c.loop-imsi.invariant.records c.in-Some.ensures));
    }

pub returns : goal.returns
returns g c =
    let es = g.S.RecordStore.entries c.args.store.now in
    let n = start (numbered (λ k. k.number) c.loop-imsi.last) in
    let id = c.args.id in
    let f = reset_one id.digits id.value in
    let last = sym (first-each_to f n es) ∙ ap (λ zs. first_from zs n) (sym c.loop-imsi.invariant.records) ∙ sym c.next.ensures ∙ ap (numbered (λ k. k.number)) c.in_default.is in
    record {
      room = c.loop-imsi.invariant.room;
      count = c.loop-imsi.invariant.count ∙ ap (tally (concerns id.digits id.value)) (up_to_all n es last);
      records = c.loop-imsi.invariant.records ∙ each_to_all f n es last;
    }
