-- That the rows after a drop keep their order and stand for the map without the key. Assumes nothing.
use Rattle.std.proofs.Common.{◌≡◌, ℕ, ◌+◌, ◌-◌, sym, ap, ◌∙◌, arith}
use Rattle.store.specs.Model.{keys, rises, all_below, without}
use Rattle.store.specs.Rows.{held}
use Rattle.store.proofs.Maps.{rises-without, below-without, without-none}
use Rattle.store.proofs.Places.{inside, known, map_cut, slots_cut}
use Rattle.store.proofs.rows.Rows.remove_row.Goals as goal

pub returns-in_default-clause-entries : goal.returns-in_default-clause-entries
returns-in_default-clause-entries g c =
    let s = c.args.self.now in
    (sym (without-none (held s.rows.items s.len) c.args.key c.in_default.ensures))

pub overflow_add-i : goal.overflow_add-i
overflow_add-i g c =
    let s = c.args.self.now in
    omega (arith, inside s.rows.items s.len c.args.key c.in-Some.i (omega arith) c.in-Some.ensures, s.small)

pub copy_within-requires-clause-start_le_end : goal.copy_within-requires-clause-start_le_end
copy_within-requires-clause-start_le_end g c =
    let s = c.args.self.now in
    omega (arith, inside s.rows.items s.len c.args.key c.in-Some.i (omega arith) c.in-Some.ensures)

pub copy_within-requires-clause-dest_in_bounds : goal.copy_within-requires-clause-dest_in_bounds
copy_within-requires-clause-dest_in_bounds g c =
    let s = c.args.self.now in
    omega (arith, inside s.rows.items s.len c.args.key c.in-Some.i (omega arith) c.in-Some.ensures)

pub overflow_sub-self : goal.overflow_sub-self
overflow_sub-self g c =
    let s = c.args.self.now in
    omega (arith, inside s.rows.items s.len c.args.key c.in-Some.i (omega arith) c.in-Some.ensures)

pub invariant_of-self : goal.invariant_of-self
invariant_of-self g c =
    let s = c.args.self.now in
    let k = c.args.key in
    let es = held s.rows.items s.len in
    let left : (n : ℕ) → n + 1 ≡ s.len → held c.copy_within.new.self.items n ≡ without es k = λ n e. ap (held c.copy_within.new.self.items) (let fewer : n ≡ s.len - 1 = omega arith in fewer) ∙ ap (λ zs. held zs (s.len - 1)) c.copy_within.ensures.items ∙ map_cut s.rows.items s.len k c.in-Some.i (omega arith) c.in-Some.ensures in
    let some = inside s.rows.items s.len k c.in-Some.i (omega arith) c.in-Some.ensures in
    record { small = omega (arith, s.small, c.copy_within.ensures.len); within = omega (arith, c.copy_within.ensures.len, s.within); rising = ap (λ zs. rises (keys zs)) (left _ (omega arith)) ∙ rises-without es k s.rising; valid = ap (λ zs. all_below g.K.Key.LIMIT (keys zs)) (left _ (omega arith)) ∙ below-without g.K.Key.LIMIT es k s.valid }

pub returns-clause-stood : goal.returns-clause-stood
returns-clause-stood g c =
    let s = c.args.self.now in
    (sym (known s.rows.items s.len c.args.key c.in-Some.i (omega arith) c.in-Some.ensures))

pub returns-clause-entries : goal.returns-clause-entries
returns-clause-entries g c =
    let s = c.args.self.now in
    let n = s.len - 1 in
    (ap (λ zs. held zs n) c.copy_within.ensures.items ∙ map_cut s.rows.items s.len c.args.key c.in-Some.i (omega arith) c.in-Some.ensures)

pub returns-clause-slots : goal.returns-clause-slots
returns-clause-slots g c =
    let s = c.args.self.now in
    (c.copy_within.ensures.items ∙ slots_cut s.rows.items s.len c.args.key c.in-Some.i (omega arith) c.in-Some.ensures)
