use Rattle.std.proofs.Common.{◌≡◌, ◌<◌, eqb, length, get_or, set, refl, sym, ap, ◌∙◌, arith, eq-eqb, ne_eqb}
use Rattle.std.proofs.lemmas.List.{set-get_or}
use Rattle.dialogue.specs.Listed.{listed, without_imsi}
use Rattle.dialogue.proofs.Listing.{free_row}
use Rattle.dialogue.proofs.Sweep.{freed, swept, length-swept, numbered-swept, listed-swept, turn_frees, turn_keeps}
use Rattle.dialogue.proofs.Order.{seen}
use Rattle.dialogue.proofs.table.Table.close_of.Goals as goal
use Rattle.dialogue.proofs.table.Table.close_of.Goals.{then-row-imsi, else-row-imsi}

pub loop-row-init : goal.loop-row-init
unfolding swept
loop-row-init c = refl

pub loop-row-preserved : goal.loop-row-preserved
loop-row-preserved c =
    let t = c.self.inside in
    let within : c.loop-row.row-index < length t.rows = omega (arith, c.self.invariant.0) in
    elim c.if-row-imsi.branch [
      | then-row-imsi w ↦
          let is : c.if-row-imsi.row-items ≡ set c.loop-row.row-items c.loop-row.row-index (freed (get_or c.loop-row.row-items c.loop-row.row-index free_row)) = w.row-items-is in
          is ∙ turn_frees (λ r. eqb r.imsi c.args.imsi) c.loop-row.row-index t.rows c.loop-row.row-items c.loop-row.invariant within (eq-eqb _ _ w.if-row-imsi.true)
      | else-row-imsi w ↦
          let is : c.if-row-imsi.row-items ≡ set c.loop-row.row-items c.loop-row.row-index (get_or c.loop-row.row-items c.loop-row.row-index free_row) = w.row-items-is in
          is ∙ set-get_or c.loop-row.row-items c.loop-row.row-index free_row ∙ turn_keeps (λ r. eqb r.imsi c.args.imsi) c.loop-row.row-index t.rows c.loop-row.row-items c.loop-row.invariant within (ne_eqb _ _ w.if-row-imsi.false)
    ]

pub invariant_of-self : goal.invariant_of-self
invariant_of-self c =
    let t = c.self.inside in
    rw c.loop-row.invariant (length-swept (λ r. eqb r.imsi c.args.imsi) c.loop-row.row-index t.rows ∙ c.self.invariant.0, numbered-swept (λ r. eqb r.imsi c.args.imsi) c.loop-row.row-index t.rows t.last c.self.invariant.1)

pub returns : goal.returns
returns c =
    let t = c.self.inside in
    let swept_rows = swept (λ r. eqb r.imsi c.args.imsi) c.loop-row.row-index t.rows in
    let is = ap (λ rows. record { by_number = listed rows; last = t.last }) c.loop-row.invariant in
    record {
      after = is ∙ ap (λ es. record { by_number = es; last = t.last }) (listed-swept (λ r. eqb r.imsi c.args.imsi) c.loop-row.row-index t.rows t.last (omega (arith, c.self.invariant.0)) c.self.invariant.1) ∙ ap (λ v. without_imsi v c.args.imsi) c.self.view_is;
      before = seen c.self.inside.rows c.self.inside.last c.args.self.now c.self.view_is c.self.invariant;
      table = seen swept_rows t.last _ (sym is) (length-swept (λ r. eqb r.imsi c.args.imsi) c.loop-row.row-index t.rows ∙ c.self.invariant.0, numbered-swept (λ r. eqb r.imsi c.args.imsi) c.loop-row.row-index t.rows t.last c.self.invariant.1);
    }
