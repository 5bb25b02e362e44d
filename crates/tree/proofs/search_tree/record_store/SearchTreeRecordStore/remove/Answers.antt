-- The answers of `remove`. Assumes nothing.
use Rattle.std.proofs.Common.{ℕ, length, sym, ap, subst, arith}
use Rattle.tree.specs.State.{stored}
use Rattle.tree.specs.Writes.{Stands}
use Rattle.tree.proofs.Entries.{del-none}
use Rattle.tree.proofs.Finds.{missing_none, held_within, held-holds}
use Rattle.tree.proofs.Lent.{leaves-out}
use Rattle.tree.proofs.Maps.{holds-none}
use Rattle.tree.proofs.Removal.{ranges, found_some}
use Rattle.tree.proofs.Sealed.{known}
use Rattle.tree.proofs.search_tree.record_store.SearchTreeRecordStore.remove.Goals as goal

pub returns-in_default-clause-stood : goal.returns-in_default-clause-stood
returns-in_default-clause-stood g c =
    let s = c.args.self.now in
    sym (holds-none _ (stored s.nodes.items s.head) (missing_none s _ c.in_default.field-0 c.in_default.ensures))

pub returns-in_default-clause-entries : goal.returns-in_default-clause-entries
returns-in_default-clause-entries g c =
    let s = c.args.self.now in
    sym (del-none _ (stored s.nodes.items s.head) (missing_none s _ c.in_default.field-0 c.in_default.ensures))

pub take_out-requires : goal.take_out-requires
take_out-requires g c =
    let s = c.args.self.now in
    let m = c.in-Ok.ensures in
    let r = ranges s.nodes.items s.head (known s).wf _ c.in-Ok.held.at _ _ _ m.at-is m.under_is c.bottom-tip.ensures in
    let same = ap length (sym c.deref_mut.ensures.value) in
    (omega (arith, held_within s _ c.in-Ok.held m, same), omega (arith, r.0, same), subst (λ (n : ℕ). Stands n c.bottom-tip.result.under) same r.1)

pub shrunk-self-requires : goal.shrunk-self-requires
shrunk-self-requires g c =
    let s = c.args.self.now in
    found_some s.nodes.items s.head (known s).wf _ c.in-Ok.held.at c.in-Ok.ensures.at-is

pub invariant_of-self : goal.invariant_of-self
invariant_of-self g c =
    let l = leaves-out c.args.self.now _ c.take_out.new.nodes c.deref_mut.ensures.value c.take_out.auto.nodes c.shrunk-self.result c.in-Ok.held c.bottom-tip.result _ c.shrunk-self.ensures c.in-Ok.ensures c.bottom-tip.ensures c.take_out.ensures in
    record { sound = l.sound; counted = l.counted }

pub returns-clause-stood : goal.returns-clause-stood
returns-clause-stood g c = sym (held-holds c.args.self.now _ c.in-Ok.held c.in-Ok.ensures)

pub returns-clause-entries : goal.returns-clause-entries
returns-clause-entries g c =
    (leaves-out c.args.self.now _ c.take_out.new.nodes c.deref_mut.ensures.value c.take_out.auto.nodes c.shrunk-self.result c.in-Ok.held c.bottom-tip.result _ c.shrunk-self.ensures c.in-Ok.ensures c.bottom-tip.ensures c.take_out.ensures).entries
