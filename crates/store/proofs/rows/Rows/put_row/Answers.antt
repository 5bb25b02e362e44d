-- That the rows after a put keep their order and stand for the map with the key set. Assumes nothing.
use Rattle.std.proofs.Common.{◌≡◌, ℕ, ◌+◌, length, set, refl, ap, ◌∙◌, arith}
use Rattle.store.specs.Model.{keys, rises, all_below, with_entry}
use Rattle.store.specs.Rows.{held}
use Rattle.store.proofs.Maps.{rises_with, below_with}
use Rattle.store.proofs.Places.{inside, taken_there, map_set, slots_set, within, taken_new, map_opened, slots_new, full}
use Rattle.store.proofs.rows.Rows.put_row.Goals as goal

pub index_mut-requires : goal.index_mut-requires
index_mut-requires g c =
    let s = c.args.self.now in
    omega (arith, inside s.rows.items s.len c.args.row.key c.in-Ok.i (omega arith) c.in-Ok.ensures)

pub invariant_of-self : goal.invariant_of-self
invariant_of-self g c =
    let s = c.args.self.now in
    let k = c.args.row.key in
    let es = held s.rows.items s.len in
    let new = map_set s.rows.items s.len k c.in-Ok.i (omega arith) c.in-Ok.ensures c.args.row.value in
    record { small = s.small; within = s.within; rising = ap (λ zs. rises (keys zs)) new ∙ rises_with es k c.args.row.value s.rising; valid = ap (λ zs. all_below g.K.Key.LIMIT (keys zs)) new ∙ below_with g.K.Key.LIMIT es k c.args.row.value s.valid c.requires.below }

pub returns-in-Err-clause-entries : goal.returns-in-Err-clause-entries
returns-in-Err-clause-entries g c =
    let s = c.args.self.now in
    let size : s.rows.len ≡ length s.rows.items = omega arith in
    (refl, rw size (full s.rows.items s.len c.args.row.key c.in-Err.field-0 (omega arith) c.in-Err.ensures), refl)

pub returns-in-Err-clause-slots : goal.returns-in-Err-clause-slots
returns-in-Err-clause-slots g c =
    let s = c.args.self.now in
    rw (full s.rows.items s.len c.args.row.key c.in-Err.field-0 (omega arith) c.in-Err.ensures)

pub overflow_add-i : goal.overflow_add-i
overflow_add-i g c =
    let s = c.args.self.now in
    omega (arith, within s.rows.items s.len c.args.row.key c.in-Err.field-0 c.args.row.value (omega arith) s.rising c.in-Err.ensures, s.small)

pub copy_within-requires-clause-start_le_end : goal.copy_within-requires-clause-start_le_end
copy_within-requires-clause-start_le_end g c =
    let s = c.args.self.now in
    within s.rows.items s.len c.args.row.key c.in-Err.field-0 c.args.row.value (omega arith) s.rising c.in-Err.ensures

pub copy_within-requires-clause-dest_in_bounds : goal.copy_within-requires-clause-dest_in_bounds
copy_within-requires-clause-dest_in_bounds g c =
    let s = c.args.self.now in
    omega (arith, within s.rows.items s.len c.args.row.key c.in-Err.field-0 c.args.row.value (omega arith) s.rising c.in-Err.ensures)

pub index_mut-requires-in-Err-2 : goal.index_mut-requires-in-Err-2
index_mut-requires-in-Err-2 g c =
    let s = c.args.self.now in
    omega (arith, within s.rows.items s.len c.args.row.key c.in-Err.field-0 c.args.row.value (omega arith) s.rising c.in-Err.ensures, c.copy_within.ensures.len)

pub invariant_of-self-in-Err-2 : goal.invariant_of-self-in-Err-2
invariant_of-self-in-Err-2 g c =
    let s = c.args.self.now in
    let k = c.args.row.key in
    let i = c.in-Err.field-0 in
    let es = held s.rows.items s.len in
    let now = set c.copy_within.new.self.items i c.args.row in
    let more : (n : ℕ) → n ≡ s.len + 1 → held now n ≡ with_entry es k c.args.row.value = λ n e. ap (held now) e ∙ ap (λ zs. held (set zs i c.args.row) (s.len + 1)) c.copy_within.ensures.items ∙ map_opened s.rows.items s.len k i c.args.row.value (omega arith) s.rising c.in-Err.ensures in
    record { small = omega (arith, s.small, c.copy_within.ensures.len); within = omega (arith, c.copy_within.ensures.len); rising = ap (λ zs. rises (keys zs)) (more _ (omega arith)) ∙ rises_with es k c.args.row.value s.rising; valid = ap (λ zs. all_below g.K.Key.LIMIT (keys zs)) (more _ (omega arith)) ∙ below_with g.K.Key.LIMIT es k c.args.row.value s.valid c.requires.below }

pub returns-in-Ok-clause-entries : goal.returns-in-Ok-clause-entries
returns-in-Ok-clause-entries g c =
    let s = c.args.self.now in
    let k = c.args.row.key in
    let size : s.rows.len ≡ length s.rows.items = omega arith in
    rw size (taken_there s.rows.items s.len k c.in-Ok.i (omega arith) c.in-Ok.ensures, map_set s.rows.items s.len k c.in-Ok.i (omega arith) c.in-Ok.ensures c.args.row.value)

pub returns-in-Ok-clause-slots : goal.returns-in-Ok-clause-slots
returns-in-Ok-clause-slots g c =
    let s = c.args.self.now in
    let k = c.args.row.key in
    (slots_set s.rows.items s.len k c.in-Ok.i (omega arith) c.in-Ok.ensures c.args.row.value)

pub returns-in-Err-2-clause-entries : goal.returns-in-Err-2-clause-entries
returns-in-Err-2-clause-entries g c =
    let s = c.args.self.now in
    let k = c.args.row.key in
    let i = c.in-Err.field-0 in
    let n = s.len + 1 in
    let size : s.rows.len ≡ length s.rows.items = omega arith in
    rw size (
      taken_new s.rows.items s.len k i c.args.row.value (omega arith) s.rising c.in-Err.ensures,
      ap (λ zs. held (set zs i c.args.row) n) c.copy_within.ensures.items ∙ map_opened s.rows.items s.len k i c.args.row.value (omega arith) s.rising c.in-Err.ensures,
    )

pub returns-in-Err-2-clause-slots : goal.returns-in-Err-2-clause-slots
returns-in-Err-2-clause-slots g c =
    let s = c.args.self.now in
    let k = c.args.row.key in
    let i = c.in-Err.field-0 in
    (ap (λ zs. set zs i c.args.row) c.copy_within.ensures.items ∙ slots_new s.rows.items s.len k i c.args.row.value (omega arith) s.rising c.in-Err.ensures)
