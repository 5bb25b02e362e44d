-- That a key is known by its number. Assumes nothing.
use Rattle.std.specs.Prelude.{◌≡◌, ℕ, ◌<◌}
use Rattle.std.proofs.Common.{ap, subst}
use Rattle.std.proofs.Math.Bridge.{le_prop}
use Rattle.key.specs.declared.imsi.Imsi.{Imsi}
use Rattle.key.specs.declared.tmsi.Tmsi.{Tmsi}

-- keys of one number are one key
pub same_imsi : (a b : Imsi) → a.number ≡ b.number → a ≡ b
same_imsi a b e = again e b.fifteen
  where
    again : {n : ℕ} → a.number ≡ n → (below : n < 1000000000000000) → a ≡ record { number = n; fifteen = below }
    again e =
        let One : ℕ → Type 0 = λ n. (below : n < 1000000000000000) → a ≡ record { number = n; fifteen = below } in
        subst One e (λ below. ap (λ fits. record { number = a.number; fifteen = fits }) (le_prop a.fifteen below))

pub same_tmsi : (a b : Tmsi) → a.number ≡ b.number → a ≡ b
same_tmsi a b e = ap (λ n. record { number = n }) e
