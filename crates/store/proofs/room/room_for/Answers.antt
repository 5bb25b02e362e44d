-- That what is found and counted says whether a put is taken. Assumes nothing.
use Rattle.std.proofs.Common.{◌≡◌, is_some, sym, ap, ◌∙◌}
use Rattle.std.proofs.lemmas.Bool.{or_left}
use Rattle.store.specs.Model.{holds, takes}
use Rattle.store.proofs.Maps.{some-at}
use Rattle.store.proofs.room.room_for.Goals as goal
use Rattle.store.proofs.room.room_for.Goals.{then-is_some, else-is_some}

pub returns-then-count-room : goal.returns-then-count-room
returns-then-count-room g c =
    let es = g.S.RecordStore.entries c.args.store.now in
    let k = g.K.Key.number c.args.k in
    let known : holds es k ≡ c.is_some.result = sym (some-at es k) ∙ ap is_some (sym c.find.ensures) ∙ sym c.is_some.ensures in
    let taken : takes (g.S.RecordStore.room c.args.store.now) es k ≡ c.if-is_some.value =
    elim c.if-is_some.branch [
      | then-is_some w ↦ or_left _ _ (known ∙ w.if-is_some.true) ∙ sym w.if-is_some.true ∙ sym w.value-is
      | else-is_some w ↦ rw (known ∙ w.if-is_some.false) (cc (w.count.ensures, w.room.ensures, w.value-is))
    ] in
    rw (taken ∙ c.if-count-room.true)

pub returns-else-count-room : goal.returns-else-count-room
returns-else-count-room g c =
    let es = g.S.RecordStore.entries c.args.store.now in
    let k = g.K.Key.number c.args.k in
    let known : holds es k ≡ c.is_some.result = sym (some-at es k) ∙ ap is_some (sym c.find.ensures) ∙ sym c.is_some.ensures in
    let taken : takes (g.S.RecordStore.room c.args.store.now) es k ≡ c.if-is_some.value =
    elim c.if-is_some.branch [
      | then-is_some w ↦ or_left _ _ (known ∙ w.if-is_some.true) ∙ sym w.if-is_some.true ∙ sym w.value-is
      | else-is_some w ↦ rw (known ∙ w.if-is_some.false) (cc (w.count.ensures, w.room.ensures, w.value-is))
    ] in
    rw (taken ∙ c.if-count-room.false)
