-- What each call keeps of a store. Assumes nothing.
use Rattle.std.proofs.Common.{◌≡◌, ℕ, ◌<◌, ◌≤◌, true, false, List, [], length, Some, None, Option, sym, refl, ap, ◌∙◌, subst, arith}
use Rattle.std.proofs.lemmas.Bool.Decides.{nat_tests}
use Rattle.store.specs.Model.{keys, all_below, holds, takes}
use Rattle.tree.specs.declared.head.Head.{Head}
use Rattle.tree.specs.declared.node.Node.{Node}
use Rattle.tree.specs.State.{WellFormed, Sound, tree_of, stored}
use Rattle.tree.specs.declared.width.Width.{Width}
use Rattle.tree.specs.Heads.{blank}
use Rattle.tree.specs.Digits.{Digits}
use Rattle.tree.specs.Tree.{Tree, leaf, pour}
use Rattle.tree.proofs.Entries.{get, ins, del, length-ins}
use Rattle.tree.proofs.Maps.{rises_sorted, below_with, below-without, holds-some, holds-none}
use Rattle.tree.proofs.NewKey.{the_tree}
use Rattle.tree.proofs.Trees.{sorted_pour}

same_digits : (limit : ℕ) (h k : Head) → Digits limit h.width.bits → k.width ≡ h.width → Digits limit k.width.bits
same_digits limit h k d e = subst (λ (w : Width). Digits limit w.bits) (sym e) d

module _ {V : Type 0} where
  pub counted : (ns : List (Node V)) (h : Head) → WellFormed ns h → h.count ≡ length (stored ns h)
  counted ns h u = u.count_is ∙ u.sized ∙ ap (λ (x : Tree V). length (pour x [])) (sym (the_tree ns h u))

  build : (limit : ℕ) (ns : List (Node V)) (h : Head) → WellFormed ns h → all_below limit (keys (stored ns h)) ≡ true → Digits limit h.width.bits → Sound limit ns h
  build limit ns h u below digits = record {
    wf = u;
    lawful = record { rising = rises_sorted (stored ns h) (sorted_pour (tree_of ns h) [] tt); valid = below; bounded = omega (arith, counted ns h u, u.count_is, u.used, u.within); small = u.small };
    digits = digits;
  }

  pub after_put : (limit : ℕ) (ns ms : List (Node V)) (h k : Head) (q : ℕ) (w : V) → Sound limit ns h → WellFormed ms k → stored ms k ≡ ins q w (stored ns h) → k.width ≡ h.width → q < limit → Sound limit ms k
  after_put limit ns ms h k q w s u e b lt = build limit ms k u
      (ap (λ (x : List (ℕ × V)). all_below limit (keys x)) e ∙ below_with limit q w (stored ns h) lt s.lawful.valid) (same_digits limit h k s.digits b)

  pub after-del : (limit : ℕ) (ns ms : List (Node V)) (h k : Head) (q : ℕ) → Sound limit ns h → WellFormed ms k → stored ms k ≡ del q (stored ns h) → k.width ≡ h.width → Sound limit ms k
  after-del limit ns ms h k q s u e b = build limit ms k u
      (ap (λ (x : List (ℕ × V)). all_below limit (keys x)) e ∙ below-without limit q (stored ns h) s.lawful.valid) (same_digits limit h k s.digits b)

  pub known_taken : (q room : ℕ) (es : List (ℕ × V)) → holds es q ≡ true → takes room es q ≡ true
  known_taken q room es h = grind (arith, nat_tests)

  -- what fits in is taken
  pub took : (q room : ℕ) (w : V) (es : List (ℕ × V)) (o : Option V) → get q es ≡ o → length (ins q w es) ≤ room → takes room es q ≡ true
  took q room w es None g le = let h : holds es q ≡ false = holds-none q es g in let l = length-ins q w es g in let lt : length es < room = omega arith in grind (arith, nat_tests)
  took q room w es (Some v) g le = known_taken q room es (holds-some q v es g)

  -- what is put into a full store is refused, if it is new
  pub put_full : (q room : ℕ) (es : List (ℕ × V)) → get q es ≡ None → length es ≡ room → takes room es q ≡ false
  put_full q room es g len = let f : holds es q ≡ false = holds-none q es g in let le : room ≤ length es = omega arith in grind (arith, nat_tests)

  pub after_clear : (limit : ℕ) (ns : List (Node V)) (w : Width) → length ns ≤ 65536 → Digits limit w.bits → Sound limit ns (blank w)
  unfolding all_below
  after_clear limit ns w small digits = build limit ns (blank w) (record {
    t = leaf;
    f = [];
    root_is = refl;
    is = tt;
    inside = tt;
    once = tt;
    chain = refl;
    apart = λ x. omega arith;
    unused = λ x le. refl;
    used = refl;
    within = omega arith;
    small = small;
    count_is = refl;
    sized = refl;
  }) refl digits

  -- so it is with the head that a call writes
  pub cleared : (limit : ℕ) (ns : List (Node V)) (w : Width) (k : Head) → k ≡ blank w → length ns ≤ 65536 → Digits limit w.bits → Sound limit ns k × (k.count ≡ length (stored ns k))
  cleared limit ns w k e small digits =
      let u = subst (Sound limit ns) (sym e) (after_clear limit ns w small digits) in (u, counted ns k u.wf)
