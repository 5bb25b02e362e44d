-- A dialogue that refuses what comes is as it was. Assumes nothing.
use Rattle.std.proofs.Common.{◌≡◌, ℕ, true, false, List, Some, Ok, Err, Result, sym, refl, ap, ◌∙◌, inl, inr, rules}
use Rattle.std.proofs.lemmas.Bool.{cases_eq}
use Rattle.store.specs.Model.{keys, rises, at, with_entry}
use Rattle.store.proofs.Maps.{rises_with, at_with_same, at_with_other}
use Rattle.store.proofs.Changes.{same_map}
use Rattle.key.specs.declared.refusal.Refusal.{Refusal}
use Rattle.dialogue.specs.declared.data.SubscriberData.{SubscriberData}
use Rattle.dialogue.specs.declared.row.Stage.{Stage}
use Rattle.dialogue.specs.declared.row.Stage.TheVariants.{Gone, Waiting, Sent, Rejected}
use Rattle.dialogue.specs.declared.row.Dialogue.{Dialogue}
use Rattle.dialogue.specs.declared.row.Met.{Met}
use Rattle.dialogue.specs.Dialogues.{Comes, send, withdraw, insert, end, is_gone, stage_outcome, next_stage, next_draft, outcome, dialogue_after}
use Rattle.dialogue.specs.Listed.{Open, kept_open, unless_refused}

abbrev Same : Stage → Comes → SubscriberData → Type 0
Same s c d = (next_stage s c d ≡ s) × (next_draft s c d ≡ d)

ok_err : {A E B : Type 0} (a : A) (e : E) → ◌≡◌ {A = Result A E} (Ok a) (Err e) → B
ok_err a e h = absurd (search rules)

same_stage : (s : Stage) (c : Comes) (d : SubscriberData) (e : Refusal) → stage_outcome s c d ≡ Err e → Same s c d
same_stage Gone send d e h = (refl, refl)
same_stage Gone withdraw d e h = (refl, refl)
same_stage Gone (insert g) d e h = (refl, refl)
same_stage Gone end d e h = (refl, refl)
same_stage Waiting send d e h = ok_err _ e h
same_stage Waiting withdraw d e h = ok_err _ e h
same_stage Waiting (insert g) d e h = (refl, refl)
same_stage Waiting end d e h = (refl, refl)
same_stage Sent send d e h = (refl, refl)
same_stage Sent withdraw d e h = (refl, refl)
same_stage Sent (insert g) d e h = ok_err _ e h
same_stage Sent end d e h = ok_err _ e h
same_stage Rejected send d e h = (refl, refl)
same_stage Rejected withdraw d e h = (refl, refl)
same_stage Rejected (insert g) d e h = ok_err _ e h
same_stage Rejected end d e h = ok_err _ e h

same_dialogue : (d : Dialogue) (c : Comes) (e : Refusal) → outcome d c ≡ Err e → dialogue_after d c ≡ d
same_dialogue d c e h =
    let p = same_stage d.stage c d.draft e h in
    let at_stage : Stage → SubscriberData → Dialogue = λ s g. record d { stage = s; draft = g } in
    ap (λ s. at_stage s (next_draft d.stage c d.draft)) p.0 ∙ ap (at_stage d.stage) p.1

-- what is set again is as it was
with_same : {V : Type 0} (es : List (ℕ × V)) (k : ℕ) (v : V) → rises (keys es) ≡ true → at es k ≡ Some v → with_entry es k v ≡ es
with_same es k v up is = same_map _ _ (rises_with es k v up) up (λ q. elim (cases_eq q k) [ inl e ↦ rw e (at_with_same es k v ∙ sym is) | inr ne ↦ at_with_other es k q v ne ])

module _ (es : Open) (n : ℕ) (d : Dialogue) (c : Comes) (up : rises (keys es) ≡ true) (is : at es n ≡ Some d) (live : is_gone d.stage ≡ false) where
  by_outcome : (m : Result Met Refusal) → outcome d c ≡ m → kept_open es n (dialogue_after d c) ≡ unless_refused m es (kept_open es n (dialogue_after d c))
  by_outcome (Ok m) h = refl
  by_outcome (Err e) h = ap (kept_open es n) (same_dialogue d c e h) ∙ rw live (with_same es n d up is)

  pub kept-unless_refused : kept_open es n (dialogue_after d c) ≡ unless_refused (outcome d c) es (kept_open es n (dialogue_after d c))
  kept-unless_refused = by_outcome (outcome d c) refl
