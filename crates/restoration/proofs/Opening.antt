-- A register stays sound where a plan is carried out. Assumes nothing.
use Rattle.std.proofs.Common.{◌≡◌, ℕ, ◌+◌, ◌<◌, ◌≤◌, Bool, true, false, cond, eqb, ltb, ◌⊎◌, List, length, Some, None, Option, sym, refl, ap, ◌∙◌, inl, inr, arith, ltb-true, eq-eqb}
use Rattle.std.proofs.lemmas.Option.{none-some, same_Some}
use Rattle.std.proofs.lemmas.Bool.{cases_Bool, cases_eq, and_from, both_ways}
use Rattle.key.specs.declared.refusal.Refusal.{Refusal}
use Rattle.key.specs.declared.refusal.Refusal.TheVariants.{StoreFull, TooManyDialogues}
use Rattle.store.specs.Model.{keys, rises, at, holds, with_entry}
use Rattle.store.proofs.Maps.{rises_with, at_with_same, at_with_other, holds_from_none, holds_with_same, holds_with_other, length_with_new}
use Rattle.store.proofs.Changes.{with_within}
use Rattle.event.specs.declared.answer.Kind.{Kind}
use Rattle.event.specs.declared.answer.Kind.TheVariants.{RestoreData, UpdateLocation, StandAlone}
use Rattle.dialogue.specs.declared.row.Dialogue.{Dialogue}
use Rattle.dialogue.specs.Dialogues.{is_gone, same_kind, opening}
use Rattle.dialogue.specs.Listed.{on, barred}
use Rattle.dialogue.proofs.Listing.{opens_live}
use Rattle.restoration.specs.declared.record.Record.{Record}
use Rattle.restoration.specs.declared.plan.Plan.{Plan}
use Rattle.restoration.specs.State.{State}
use Rattle.restoration.specs.Sound.{Sound}
use Rattle.restoration.specs.Steps.{keep, has_room, begun, last_after, no_dialogue, same_if_refused, done, planned_after, busy}
use Rattle.restoration.proofs.Parts.{none_such}
use Rattle.restoration.proofs.Fewer.{fewer_sound, still_on_record, all_stay}
use Rattle.restoration.proofs.Fair.{OpensFairly}

pub keep-rises : (es : List (ℕ × Record)) (k : ℕ) (kept : Option Record) → rises (keys es) ≡ true → rises (keys (keep es k kept)) ≡ true
keep-rises es k None up = up
keep-rises es k (Some v) up = rises_with es k v up

-- a record that stood still stands
pub keep-holds : (es : List (ℕ × Record)) (k : ℕ) (kept : Option Record) (q : ℕ) → holds es q ≡ true → holds (keep es k kept) q ≡ true
keep-holds es k None q h = h
keep-holds es k (Some v) q h =
    elim (cases_eq q k) [
      | inl e ↦ ap (holds (with_entry es k v)) e ∙ holds_with_same es k v
      | inr ne ↦ holds_with_other es k q v ne ∙ h
    ]

pub keep_fits : (s : State) (k : ℕ) (kept : Option Record) → Sound s → has_room s k kept ≡ true → length (keep s.records k kept) ≤ s.room
keep_fits s k None sound t = sound.fitting
keep_fits s k (Some v) sound t = with_within s.room s.records k v sound.records_rise sound.fitting t

kind_same : (a b : Kind) → a ≡ b → same_kind a b ≡ true
kind_same RestoreData b e = rw (sym e)
kind_same UpdateLocation b e = rw (sym e)
kind_same StandAlone b e = rw (sym e)

-- a dialogue can open: fewer than 64 are
room_left : (count last : ℕ) → barred count last ≡ None → count < 64
room_left count last h =
    elim (cases_Bool (ltb count 64)) [
      | inl t ↦ ltb-true count 64 t
      | inr f ↦ absurd (none-some TooManyDialogues (sym h ∙ rw f))
    ]

module _ {s : State} (sound : Sound s) (k : ℕ) (kind : Kind) where
  abbrev new : Dialogue
  new = opening (s.last + 1) k kind

  -- what is found then is the new dialogue, or was found before
  told : (n : ℕ) (d : Dialogue) → at (with_entry s.dialogues (s.last + 1) new) n ≡ Some d → ((n ≡ s.last + 1) × (new ≡ d)) ⊎ (at s.dialogues n ≡ Some d)
  told n d h =
      elim (cases_eq n (s.last + 1)) [
        | inl e ↦ inl (e, same_Some new d (sym (at_with_same s.dialogues (s.last + 1) new) ∙ ap (at (with_entry s.dialogues (s.last + 1) new)) (sym e) ∙ h))
        | inr ne ↦ inr (sym (at_with_other s.dialogues (s.last + 1) n new ne) ∙ h)
      ]

  -- the number is new
  unused : holds s.dialogues (s.last + 1) ≡ false
  unused = by (at s.dialogues (s.last + 1)) refl
    where
      by : (o : Option Dialogue) → at s.dialogues (s.last + 1) ≡ o → holds s.dialogues (s.last + 1) ≡ false
      by None h = holds_from_none s.dialogues (s.last + 1) h
      by (Some d) h = let l = sound.numbered (s.last + 1) d h in absurd (omega arith)

  -- none of the kind was open for the subscriber
  apart : busy s k kind ≡ false → (n : ℕ) (d : Dialogue) → at s.dialogues n ≡ Some d → d.imsi ≡ k → d.kind ≡ kind → ⊥
  apart first n d h i t = both_ways (on k kind (n, d)) (none_such (on k kind) s.dialogues first n d h) (and_from (eqb d.imsi k) (same_kind d.kind kind) (eq-eqb d.imsi k i) (kind_same d.kind kind t))

  -- the dialogue opens, on a record of the records then
  pub opens_sound : (es : List (ℕ × Record)) → rises (keys es) ≡ true → length es ≤ s.room → ((q : ℕ) → holds s.records q ≡ true → holds es q ≡ true) → length s.dialogues < 64 → busy s k kind ≡ false → holds es k ≡ true → Sound (record s { records = es; dialogues = with_entry s.dialogues (s.last + 1) new; last = s.last + 1 })
  opens_sound es rise fit stay free first stands = record {
    records_rise = rise;
    fitting = fit;
    dialogues_rise = rises_with s.dialogues (s.last + 1) new sound.dialogues_rise;
    few = omega (arith, length_with_new s.dialogues (s.last + 1) new unused);
    its_number = λ n d h. elim (told n d h) [ inl e ↦ ap (λ x. x.number) (sym e.1) ∙ sym e.0 | inr g ↦ sound.its_number n d g ];
    numbered = λ n d h. elim (told n d h) [ inl e ↦ let l = e.0 in omega arith | inr g ↦ let l = sound.numbered n d g in omega arith ];
    still_open = λ n d h. elim (told n d h) [ inl e ↦ ap (λ x. is_gone x.stage) (sym e.1) ∙ opens_live kind | inr g ↦ sound.still_open n d g ];
    on_record = λ n d h. elim (told n d h) [ inl e ↦ ap (λ x. holds es x.imsi) (sym e.1) ∙ stands | inr g ↦ stay d.imsi (sound.on_record n d g) ];
    one_of_a_kind = λ m n c d g h i t. elim (told m c g) [
      | inl a ↦ elim (told n d h) [
        | inl b ↦ a.0 ∙ sym b.0
        | inr b ↦ absurd (apart first n d b (sym i ∙ ap (λ x. x.imsi) (sym a.1)) (sym t ∙ ap (λ x. x.kind) (sym a.1)))
      ]
      | inr a ↦ elim (told n d h) [
        | inl b ↦ absurd (apart first m c a (i ∙ ap (λ x. x.imsi) (sym b.1)) (t ∙ ap (λ x. x.kind) (sym b.1)))
        | inr b ↦ sound.one_of_a_kind m n c d a b i t
      ]
    ];
  }

module _ {s : State} (sound : Sound s) (k : ℕ) (kept : Option Record) (room : has_room s k kept ≡ true) where
  abbrev es : List (ℕ × Record)
  es = keep s.records k kept

  -- the plan is done, where it is not turned down
  done_sound : (opens : Option Kind) → no_dialogue s opens ≡ None → ((kind : Kind) → opens ≡ Some kind → (busy s k kind ≡ false) × (holds es k ≡ true)) → Sound (record s { records = es; dialogues = begun s k opens; last = last_after s opens })
  done_sound None free fair =
      let t : State = record s { records = es } in
      fewer_sound sound t (keep-rises s.records k kept sound.records_rise) (keep_fits s k kept sound room) (all_stay sound) refl (still_on_record sound t (all_stay sound) (keep-holds s.records k kept))
  done_sound (Some kind) free fair =
      let f = fair kind refl in
      opens_sound sound k kind es (keep-rises s.records k kept sound.records_rise) (keep_fits s k kept sound room) (keep-holds s.records k kept) (room_left (length s.dialogues) s.last free) f.0 f.1

pub planned_sound : {s : State} → Sound s → (k : ℕ) (p : Plan) → OpensFairly s k p → Sound (planned_after s k p)
planned_sound {s} sound k p fair = by (has_room s k p.kept) refl (no_dialogue s p.opens) refl
  where
    by : (b : Bool) → has_room s k p.kept ≡ b → (o : Option Refusal) → no_dialogue s p.opens ≡ o → Sound (same_if_refused (cond b o (Some StoreFull)) s (done s k p))
    by true room None free = done_sound sound k p.kept room p.opens free (λ kind is. let f = fair kind is in (f.first, f.on_record))
    by true room (Some x) free = sound
    by false room o free = sound
