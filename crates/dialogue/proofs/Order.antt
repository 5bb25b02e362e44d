-- What holds of every table, by its rows. Assumes nothing.
use Rattle.std.proofs.Common.{◌≡◌, ℕ, ◌<◌, ◌≤◌, true, false, List, [], ◌∷◌, length, Some, None, Option, sym, refl, ap, ◌∙◌, subst, inl, inr, arith}
use Rattle.std.proofs.lemmas.Bool.{cases_Bool}
use Rattle.store.specs.Model.{at, keys, rises}
use Rattle.dialogue.specs.declared.row.Dialogue.{Dialogue}
use Rattle.dialogue.specs.Dialogues.{is_gone, has_number}
use Rattle.dialogue.specs.Listed.{Dialogues, listed, none_open, Numbered, Orderly}
use Rattle.dialogue.proofs.Listing.{listed-rises, few, is_live}
use Rattle.dialogue.proofs.Walks.{find_more}

-- what is told of a dialogue that stands at a number
abbrev Shown : ℕ → ℕ → Dialogue → Type 0
Shown last n d = (d.number ≡ n) × (n ≤ last) × (is_gone d.stage ≡ false) × (d.imsi < 1000000000000000)

shown : (rs : List Dialogue) (last n : ℕ) (d : Dialogue) → Numbered rs last → at (listed rs) n ≡ Some d → Shown last n d
unfolding listed at
shown [] last n d h e = let g : ◌≡◌ {A = Option Dialogue} None (Some d) = e in cc
shown (r ∷ rs) last n d h e =
    elim (cases_Bool (has_number n r)) [
      | inl t ↦
          let here : at (listed (r ∷ rs)) n ≡ Some r = find_more r rs n ∙ rw t in
          let same : Some r ≡ Some d = sym here ∙ e in
          let is : r ≡ d = cc in
          let live = is_live n r t in
          let on = h.0 live.0 in
          let low = on.0 in
          let number = live.1 in
          subst (Shown last n) is (number, omega (arith, low, number), live.0, on.2)
      | inr f ↦
          let further : at (listed (r ∷ rs)) n ≡ at (listed rs) n = find_more r rs n ∙ rw f in
          shown rs last n d h.1 (sym further ∙ e)
    ]

pub orderly : (rs : List Dialogue) (last : ℕ) → length rs ≡ 64 → Numbered rs last → Orderly (record { by_number = listed rs; last = last })
orderly rs last size h = record {
  rising = listed-rises rs;
  few = let f = few rs last h in omega (arith, f, size);
  its_number = λ n d e. (shown rs last n d h e).0;
  numbered = λ n d e. (shown rs last n d h e).1;
  still_open = λ n d e. (shown rs last n d h e).2;
  on_imsi = λ n d e. (shown rs last n d h e).3;
}

-- and so of what is seen of it
pub seen : (rs : List Dialogue) (last : ℕ) (t : Dialogues) → record { by_number = listed rs; last = last } ≡ t → (length rs ≡ 64) × Numbered rs last → Orderly t
seen rs last t is h = subst Orderly is (orderly rs last h.0 h.1)

-- a new table has nothing that could be out of order
pub none_orderly : (last : ℕ) → Orderly (none_open last)
unfolding rises at
none_orderly last = record {
  rising = refl;
  few = omega arith;
  its_number = λ n d e. let g : ◌≡◌ {A = Option Dialogue} None (Some d) = e in cc;
  numbered = λ n d e. let g : ◌≡◌ {A = Option Dialogue} None (Some d) = e in cc;
  still_open = λ n d e. let g : ◌≡◌ {A = Option Dialogue} None (Some d) = e in cc;
  on_imsi = λ n d e. let g : ◌≡◌ {A = Option Dialogue} None (Some d) = e in cc;
}
