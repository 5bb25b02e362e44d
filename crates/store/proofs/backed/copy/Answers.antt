-- That a copy clears, then walks and puts, with room for each entry. Assumes nothing.
use Rattle.std.proofs.Common.{◌≡◌, ◌+◌, ◌<◌, length, is_ok, sym, refl, ap, ◌∙◌, arith, le-ltb, lt-ltb}
use Rattle.std.proofs.lemmas.Bool.{or_right}
use Rattle.store.specs.Model.{start, numbered, with_entry}
use Rattle.store.proofs.Changes.{put_taken}
use Rattle.store.proofs.Walk.{up_to_none, up_to_all, up_to_more, up_to_short, up_to_longer, found-there, walk_less}
use Rattle.store.proofs.backed.copy.Goals as goal

pub loop-k-init : goal.loop-k-init
loop-k-init g c = (refl, cc (up_to_none (g.A.RecordStore.entries c.args.from.now)))

pub unwrap-v-requires : goal.unwrap-v-requires
unwrap-v-requires g c = found-there (start (numbered g.K.Key.number c.loop-k.last)) (g.K.Key.number c.in-Some.k) (g.A.RecordStore.entries c.args.from.now) c.find.result (sym c.in-Some.ensures) c.find.ensures

-- there is room for each entry, since there was for all
pub unwrap-requires : goal.unwrap-requires
unwrap-requires g c =
    let es = g.A.RecordStore.entries c.args.from.now in
    let n = start (numbered g.K.Key.number c.loop-k.last) in
    let k = g.K.Key.number c.in-Some.k in
    let held = g.B.RecordStore.entries c.loop-k.to in
    let room = g.B.RecordStore.room c.loop-k.to in
    let same : room ≡ g.B.RecordStore.room c.args.to.now = cc in
    let space : length held < room = omega (arith, same, ap length c.loop-k.invariant.1, up_to_longer n k es (sym c.in-Some.ensures), up_to_short (k + 1) es) in
    ap is_ok (put_taken room held k c.unwrap-v.result c.put.result _ (or_right _ _ (lt-ltb (length held) room space)) c.put.ensures.entries).0

pub loop-k-smaller : goal.loop-k-smaller
loop-k-smaller g c = walk_less (start (numbered g.K.Key.number c.loop-k.last)) (g.K.Key.number c.in-Some.k) (g.A.RecordStore.entries c.args.from.now) (sym c.in-Some.ensures)

pub loop-k-preserved : goal.loop-k-preserved
loop-k-preserved g c =
    let es = g.A.RecordStore.entries c.args.from.now in
    let n = start (numbered g.K.Key.number c.loop-k.last) in
    let k = g.K.Key.number c.in-Some.k in
    let v = c.unwrap-v.result in
    let put = rw c.unwrap.ensures at c.put.ensures.entries in (
      c.put.ensures.room ∙ c.loop-k.invariant.0,
      put.1 ∙ ap (λ zs. with_entry zs k v) c.loop-k.invariant.1 ∙ up_to_more n k v es (g.met.A.RecordStore.lawful c.args.from.now).rising (sym c.in-Some.ensures) (sym c.find.ensures ∙ c.unwrap-v.ensures),
    )

pub returns : goal.returns
returns g c =
    let es = g.A.RecordStore.entries c.args.from.now in
    let n = start (numbered g.K.Key.number c.loop-k.last) in
    let fits = le-ltb (g.B.RecordStore.room c.args.to.now) (length es) (omega arith) in
    record {
      answer = rw fits;
      room = cc;
      entries = rw fits (c.loop-k.invariant.1 ∙ up_to_all n es (sym c.next.ensures ∙ ap (numbered g.K.Key.number) c.in_default.is));
      untouched = λ large. let no : ⊥ = omega arith in absurd no;
    }
