use Rattle.std.proofs.Common.{◌≡◌, ℕ, ◌+◌, ◌<◌, ◌≤◌, length, set, None, Some, refl, sym, ap, ◌∙◌, arith, length-set, le-ltb, lt-ltb}
use Rattle.std.proofs.lemmas.Result.{err_from_is_err_and}
use Rattle.key.specs.declared.refusal.Refusal.TheVariants.{NumbersUsedUp}
use Rattle.store.specs.Model.{with_entry}
use Rattle.dialogue.specs.declared.row.Dialogue.{Dialogue}
use Rattle.dialogue.specs.Dialogues.{is_gone, opening}
use Rattle.dialogue.specs.Listed.{Dialogues, listed, barred, with_opened}
use Rattle.dialogue.proofs.Listing.{free_row, opens_live, numbered-set, listed-set, above, fewer}
use Rattle.dialogue.proofs.Walks.{full}
use Rattle.dialogue.proofs.Order.{seen}
use Rattle.dialogue.proofs.table.Table.open.Goals as goal

used_up : (count last : ℕ) → count < 64 → 4294967295 ≤ last → barred count last ≡ Some NumbersUsedUp
used_up count last few all = rw (lt-ltb count 64 few, le-ltb last 4294967295 all)

open_to : (count last : ℕ) → count < 64 → last < 4294967295 → barred count last ≡ None
open_to count last few left = rw (lt-ltb count 64 few, lt-ltb last 4294967295 left)

pub returns-in_err-i : goal.returns-in_err-i
returns-in_err-i c =
    let p = err_from_is_err_and c.from_residual.result c.from_residual.ensures.1 in
    let t = c.self.inside in
    let all : length c.args.self.now.by_number ≡ 64 = sym (ap (λ v. length v.by_number) c.self.view_is) ∙ full t.rows t.last c.self.invariant.1 c.in_err-i.ensures.1 ∙ c.self.invariant.0 in
    record {
      opened = rw (p.1, p.2) (rw (all, c.in_err-i.ensures.0), refl);
      before = seen c.self.inside.rows c.self.inside.last c.args.self.now c.self.view_is c.self.invariant;
      table = seen c.self.inside.rows c.self.inside.last c.args.self.now c.self.view_is c.self.invariant;
    }

pub returns-in_err-number : goal.returns-in_err-number
returns-in_err-number c =
    let p = err_from_is_err_and c.from_residual-in_err-number.result c.from_residual-in_err-number.ensures.1 in
    let t = c.self.inside in
    let few = fewer t.rows t.last c.in_ok-i.i c.self.invariant.1 c.in_ok-i.ensures.0 (c.in_ok-i.ensures.1 free_row) in
    let says = used_up (length (listed t.rows)) t.last (omega (arith, few, c.self.invariant.0)) c.in_err-number.ensures.0 in
    record {
      opened = rw (p.1, p.2) (sym (ap (λ v. barred (length v.by_number) v.last) c.self.view_is) ∙ says ∙ sym (ap Some c.in_err-number.ensures.1), refl);
      before = seen c.self.inside.rows c.self.inside.last c.args.self.now c.self.view_is c.self.invariant;
      table = seen c.self.inside.rows c.self.inside.last c.args.self.now c.self.view_is c.self.invariant;
    }

pub invariant_of-self : goal.invariant_of-self
invariant_of-self c =
    let t = c.self.inside in
    let next = c.in_ok-number.ensures.1 in
    let is = c.opening.ensures in
    let number = ap (λ d. d.number) is in
    let imsi = ap (λ d. d.imsi) is in
    let live = ap (λ d. is_gone d.stage) is ∙ opens_live c.args.kind in
    let sound = numbered-set t.rows t.last c.in_ok-i.i c.opening.result c.in_ok-i.ensures.0 (c.in_ok-i.ensures.1 free_row) live c.self.invariant.1 (omega (arith, next, number)) (omega (arith, imsi, c.args.imsi.fifteen)) in
    (simp length-set c.self.invariant.0, rw (sym number) sound)

pub returns : goal.returns
returns c =
    let t = c.self.inside in
    let i = c.in_ok-i.i in
    let free = c.in_ok-i.ensures.1 free_row in
    let few = fewer t.rows t.last i c.self.invariant.1 c.in_ok-i.ensures.0 free in
    let next = c.in_ok-number.ensures.1 in
    let d = c.opening.result in
    let is = c.opening.ensures in
    let number = ap (λ d. d.number) is in
    let live = ap (λ d. is_gone d.stage) is ∙ opens_live c.args.kind in
    let put = listed-set t.rows i d c.in_ok-i.ensures.0 free live (above t.rows t.last d.number c.self.invariant.1 (omega (arith, next, number))) in
    let with : ℕ → Dialogue → Dialogues = λ n e. record { by_number = with_entry (listed t.rows) e.number e; last = n } in
    record {
      opened = (
        sym (ap (λ v. barred (length v.by_number) v.last) c.self.view_is) ∙ open_to (length (listed t.rows)) t.last (omega (arith, few, c.self.invariant.0)) c.in_ok-number.ensures.0,
        next ∙ ap (λ v. v.last + 1) c.self.view_is,
        ap (λ es. record { by_number = es; last = c.in_ok-number.number }) put ∙ ap (with c.in_ok-number.number) is ∙ ap (λ n. with n (opening n c.args.imsi.number c.args.kind)) next ∙ ap (λ v. with_opened v c.args.imsi.number c.args.kind) c.self.view_is,
      );
      before = seen c.self.inside.rows c.self.inside.last c.args.self.now c.self.view_is c.self.invariant;
      table = seen (set t.rows i d) c.in_ok-number.number _ refl (simp length-set c.self.invariant.0, rw (sym number) (numbered-set t.rows t.last i d c.in_ok-i.ensures.0 free live c.self.invariant.1 (omega (arith, next, number)) (omega (arith, ap (λ d. d.imsi) is, c.args.imsi.fifteen))));
    }
