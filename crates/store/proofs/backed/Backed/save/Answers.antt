-- That a refused save leaves both stores as they were. Assumes nothing.
use Rattle.std.proofs.Common.{◌≡◌, ◌≤◌, length, sym, ap, subst}
use Rattle.std.proofs.Math.Bridge.{le_prop}
use Rattle.store.proofs.backed.Backed.save.Goals as goal

pub returns-clause-untouched : goal.returns-clause-untouched
returns-clause-untouched g c large =
    let s = c.args.self.now in
    let Same : g.row.B.Denot → Type 0 = λ b. (f : length (g.B.RecordStore.entries b) ≤ g.L.RecordStore.room s.live) → record { live = s.live; back = b; of = s.of; fits = f } ≡ s in
    subst Same (sym (c.copy.ensures.untouched large)) (λ f. ap (λ fits. record { live = s.live; back = s.back; of = s.of; fits = fits }) (le_prop f s.fits)) _
