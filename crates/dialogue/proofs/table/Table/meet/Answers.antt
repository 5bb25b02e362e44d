use Rattle.std.proofs.Common.{get_or, set, refl, sym, ap, ◌∙◌, length-set}
use Rattle.store.specs.Model.{at}
use Rattle.dialogue.specs.Dialogues.{comes}
use Rattle.dialogue.specs.Listed.{listed, kept_open, met_at, met_by, with_met}
use Rattle.dialogue.proofs.Listing.{free_row, numbered_put, listed_put, listed-rises, is_live}
use Rattle.dialogue.proofs.Refusing.{kept-unless_refused}
use Rattle.dialogue.proofs.Order.{seen}
use Rattle.dialogue.proofs.table.Table.meet.Goals as goal

pub invariant_of-self : goal.invariant_of-self
invariant_of-self c =
    let t = c.self.inside in
    let i = c.in_ok-i.i in
    let at = c.in_ok-i.ensures.1 free_row in
    let live = is_live c.args.number (get_or t.rows i free_row) at.0 in
    let is = c.meet.ensures.dialogue in
    (simp length-set c.self.invariant.0, numbered_put c.meet.new.self t.rows t.last i c.self.invariant.1 c.in_ok-i.ensures.0 live.0 (ap (λ d. d.number) is) (ap (λ d. d.imsi) is))

pub returns : goal.returns
returns c =
    let t = c.self.inside in
    let n = c.args.number in
    let what = comes c.args.coming in
    let i = c.in_ok-i.i in
    let r = get_or t.rows i free_row in
    let found = c.in_ok-i.ensures.1 free_row in
    let live = is_live n r found.0 in
    let is = c.meet.ensures.dialogue in
    let number = ap (λ d. d.number) is in
    let put = listed_put c.meet.new.self t.rows t.last i c.self.invariant.1 c.in_ok-i.ensures.0 live.0 number in
    let after =
    put ∙ ap (λ k. kept_open (listed t.rows) k c.meet.new.self) (number ∙ live.1) ∙ ap (kept_open (listed t.rows) n) is ∙ kept-unless_refused (listed t.rows) n r what (listed-rises t.rows) found.1 live.0 ∙ sym (ap (λ d. met_by (listed t.rows) n d what) found.1)
    in
    record {
      answer = c.meet.ensures.answer ∙ sym (ap (λ d. met_at d what) found.1) ∙ ap (λ v. met_at (at v.by_number n) what) c.self.view_is;
      after = ap (λ es. record { by_number = es; last = t.last }) after ∙ ap (λ v. with_met v n what) c.self.view_is;
      before = seen c.self.inside.rows c.self.inside.last c.args.self.now c.self.view_is c.self.invariant;
      table = seen (set t.rows i c.meet.new.self) t.last _ refl (simp length-set c.self.invariant.0, numbered_put c.meet.new.self t.rows t.last i c.self.invariant.1 c.in_ok-i.ensures.0 live.0 number (ap (λ d. d.imsi) is));
    }

pub returns-in_err-i-clause-before : goal.returns-in_err-i-clause-before
returns-in_err-i-clause-before c = seen c.self.inside.rows c.self.inside.last c.args.self.now c.self.view_is c.self.invariant

pub returns-in_err-i-clause-table : goal.returns-in_err-i-clause-table
returns-in_err-i-clause-table c = seen c.self.inside.rows c.self.inside.last c.args.self.now c.self.view_is c.self.invariant
