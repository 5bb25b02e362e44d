use Rattle.std.proofs.Common.{◌≡◌, false, sym, ◌∙◌}
use Rattle.store.specs.Model.{holds}
use Rattle.store.proofs.Maps.{without-none}
use Rattle.visitor.proofs.register.Vlr.cancel.Goals as goal

-- where the key did not stand, the map without it is the map
pub returns-else-remove-clause-after : goal.returns-else-remove-clause-after
returns-else-remove-clause-after g c =
    let records = g.S.RecordStore.entries c.self.inside.store in
    let stood : holds records c.args.imsi.number ≡ false = sym c.remove.ensures.stood ∙ c.if-remove.false in
    rw (← c.self.view_is, stood, c.remove.ensures.entries, without-none records c.args.imsi.number stood, c.remove.ensures.room)
