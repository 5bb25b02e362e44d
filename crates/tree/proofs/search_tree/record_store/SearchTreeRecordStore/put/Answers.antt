-- The answers of `put`. Assumes nothing.
use Rattle.std.proofs.Common.{◌≤◌, length, Result, sym, refl, ap, ◌∙◌, subst, arith}
use Rattle.std.proofs.lemmas.Result.{err_from_is_err_and}
use Rattle.key.specs.declared.refusal.Refusal.{Refusal}
use Rattle.store.specs.Model.{PutSays}
use Rattle.tree.specs.State.{stored}
use Rattle.tree.proofs.Finds.{missing_none, held_within, held-holds}
use Rattle.tree.proofs.Keeps.{took, known_taken, put_full}
use Rattle.tree.proofs.Lent.{leaves_renewed}
use Rattle.tree.proofs.Sealed.{known}
use Rattle.tree.proofs.search_tree.record_store.SearchTreeRecordStore.put.Goals as goal

pub renew-requires : goal.renew-requires
renew-requires g c = omega (arith, held_within c.args.self.now _ c.in-Ok.held c.in-Ok.ensures, ap length c.deref_mut.ensures.value)

pub invariant_of-self : goal.invariant_of-self
invariant_of-self g c =
    let l = leaves_renewed c.args.self.now _ c.renew.new.nodes c.deref_mut.ensures.value c.renew.auto.nodes c.in-Ok.held _ c.args.v c.in-Ok.ensures c.renew.ensures in
    record { sound = l.sound; counted = l.counted }

pub returns-in_err-spare-in-Err-clause-entries : goal.returns-in_err-spare-in-Err-clause-entries
returns-in_err-spare-in-Err-clause-entries g c =
    let s = c.args.self.now in
    let es = stored s.nodes.items s.head in
    let p = err_from_is_err_and c.from_residual.result c.from_residual.ensures.1 in
    let why = c.in_err-spare-in-Err.ensures in
    subst (λ (r : Result _ Refusal). PutSays s.nodes.len es (g.K.Key.number c.args.k) c.args.v r es) (sym p.1)
    (p.2 ∙ why.0, put_full _ s.nodes.len es (missing_none s _ c.in-Err.under c.in-Err.ensures) (why.1 ∙ sym s.nodes.ok.0), refl)

pub returns-in-Ok-clause-entries : goal.returns-in-Ok-clause-entries
returns-in-Ok-clause-entries g c =
    let s = c.args.self.now in
    let l = leaves_renewed s _ c.renew.new.nodes c.deref_mut.ensures.value c.renew.auto.nodes c.in-Ok.held _ c.args.v c.in-Ok.ensures c.renew.ensures in
    (known_taken _ s.nodes.len (stored s.nodes.items s.head) (held-holds s _ c.in-Ok.held c.in-Ok.ensures), l.entries)

pub returns-in_ok-spare-in-Err-clause-entries : goal.returns-in_ok-spare-in-Err-clause-entries
returns-in_ok-spare-in-Err-clause-entries g c =
    let s = c.args.self.now in
    let t = c.put_new.new.self in
    let fits : length (stored t.nodes.items t.head) ≤ s.nodes.len = omega (arith, (known t).lawful.bounded, c.put_new.ensures.room, t.nodes.ok.0) in
    (took _ s.nodes.len c.args.v (stored s.nodes.items s.head) _ refl (omega (arith, fits, ap length c.put_new.ensures.entries)), c.put_new.ensures.entries)
