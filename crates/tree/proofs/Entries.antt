-- Sorted lists of entries: what a put and a remove do to look-ups, and that look-ups determine the list. Assumes nothing.
use Rattle.std.proofs.Common.{◌≡◌, ℕ, suc, ◌<◌, ◌≤◌, cond, eqb, ltb, List, [], ◌∷◌, length, Some, None, Option, sym, refl, ap, ◌∙◌, subst, ⊎_elim, arith}
use Rattle.std.proofs.lemmas.Bool.Decides.{nat_tests}
use Rattle.std.proofs.lemmas.Bool.{cases_lt, cases_eq, cases_order}
use Rattle.store.specs.Model.{at, with_entry, without}

-- a test that is known
pub yes_eq : {X : Type 0} (a b : ℕ) (x y : X) → a ≡ b → cond (eqb a b) x y ≡ x
yes_eq a b x y e = grind (arith, nat_tests)

pub no_eq : {X : Type 0} (a b : ℕ) (x y : X) → (a ≡ b → ⊥) → cond (eqb a b) x y ≡ y
no_eq a b x y e = grind (arith, nat_tests)

pub yes_lt : {X : Type 0} (a b : ℕ) (x y : X) → a < b → cond (ltb a b) x y ≡ x
yes_lt a b x y e = grind (arith, nat_tests)

pub no_lt : {X : Type 0} (a b : ℕ) (x y : X) → b ≤ a → cond (ltb a b) x y ≡ y
no_lt a b x y e = grind (arith, nat_tests)

pub get_nil : (V : Type 0) (k : ℕ) → at {V = V} [] k ≡ None
unfolding at
get_nil V k = refl

module _ {V : Type 0} where
  -- the map's functions, with the map last
  abbrev pub get : ℕ → List (ℕ × V) → Option V
  get k es = at es k

  abbrev pub ins : ℕ → V → List (ℕ × V) → List (ℕ × V)
  ins k v es = with_entry es k v

  abbrev pub del : ℕ → List (ℕ × V) → List (ℕ × V)
  del k es = without es k

  -- every key is above k
  abbrev pub Over : ℕ → List (ℕ × V) → Type 0
  Over k [] = Unit {0}
  Over k (e ∷ es) = (k < e.0) × Over k es

  abbrev pub Sorted : List (ℕ × V) → Type 0
  Sorted [] = Unit {0}
  Sorted (e ∷ es) = Over e.0 es × Sorted es

  -- one step of each function
  pub get_hit : (k : ℕ) (e : ℕ × V) (es : List (ℕ × V)) → k ≡ e.0 → get k (e ∷ es) ≡ Some e.1
  unfolding at
  get_hit k e es q = yes_eq e.0 k _ _ (sym q)

  pub get_miss : (k : ℕ) (e : ℕ × V) (es : List (ℕ × V)) → (k ≡ e.0 → ⊥) → get k (e ∷ es) ≡ get k es
  unfolding at
  get_miss k e es q = no_eq e.0 k _ _ (λ z. q (sym z))

  pub get_cons : (k : ℕ) (e : ℕ × V) (es : List (ℕ × V)) → get k (e ∷ es) ≡ cond (eqb k e.0) (Some e.1) (get k es)
  get_cons k e es = ⊎_elim (λ q. get_hit k e es q ∙ sym (yes_eq k e.0 _ _ q)) (λ q. get_miss k e es q ∙ sym (no_eq k e.0 _ _ q)) (cases_eq k e.0)

  ins_hit : (k : ℕ) (v : V) (e : ℕ × V) (es : List (ℕ × V)) → k ≡ e.0 → ins k v (e ∷ es) ≡ (k, v) ∷ es
  unfolding with_entry
  ins_hit k v e es q = no_lt e.0 k _ _ (omega arith) ∙ yes_eq e.0 k _ _ (sym q)

  ins_before : (k : ℕ) (v : V) (e : ℕ × V) (es : List (ℕ × V)) → (k ≡ e.0 → ⊥) → k < e.0 → ins k v (e ∷ es) ≡ (k, v) ∷ e ∷ es
  unfolding with_entry
  ins_before k v e es q w = no_lt e.0 k _ _ (omega arith) ∙ no_eq e.0 k _ _ (λ z. q (sym z))

  ins-after : (k : ℕ) (v : V) (e : ℕ × V) (es : List (ℕ × V)) → (k ≡ e.0 → ⊥) → e.0 ≤ k → ins k v (e ∷ es) ≡ e ∷ ins k v es
  unfolding with_entry
  ins-after k v e es q w = yes_lt e.0 k _ _ (omega arith)

  del_hit : (k : ℕ) (e : ℕ × V) (es : List (ℕ × V)) → k ≡ e.0 → del k (e ∷ es) ≡ es
  unfolding without
  del_hit k e es q = yes_eq e.0 k _ _ (sym q)

  del_miss : (k : ℕ) (e : ℕ × V) (es : List (ℕ × V)) → (k ≡ e.0 → ⊥) → del k (e ∷ es) ≡ e ∷ del k es
  unfolding without
  del_miss k e es q = no_eq e.0 k _ _ (λ z. q (sym z))

  pub over_less : (a b : ℕ) (es : List (ℕ × V)) → a ≤ b → Over b es → Over a es
  over_less a b [] le o = tt
  over_less a b (e ∷ es) le o = (omega (arith, o.0), over_less a b es le o.1)

  pub get-over : (k : ℕ) (es : List (ℕ × V)) → Over k es → get k es ≡ None
  get-over k [] o = get_nil V k
  get-over k (e ∷ es) o = let lt : k < e.0 = o.0 in get_miss k e es (omega arith) ∙ get-over k es o.1

  over-ins : (b k : ℕ) (v : V) (es : List (ℕ × V)) → b < k → Over b es → Over b (ins k v es)
  unfolding at with_entry without
  over-ins b k v [] lt o = (lt, tt)
  over-ins b k v (e ∷ es) lt o = ⊎_elim
      (λ q. subst (Over b) (sym (ins_hit k v e es q)) (lt, o.1))
      (λ q. ⊎_elim
      (λ w. subst (Over b) (sym (ins_before k v e es q w)) (lt, o))
      (λ w. subst (Over b) (sym (ins-after k v e es q w)) (o.0, over-ins b k v es lt o.1))
      (cases_lt k e.0))
      (cases_eq k e.0)

  pub sorted_ins : (k : ℕ) (v : V) (es : List (ℕ × V)) → Sorted es → Sorted (ins k v es)
  unfolding at with_entry without
  sorted_ins k v [] s = (tt, tt)
  sorted_ins k v (e ∷ es) s = ⊎_elim
      (λ q. subst Sorted (sym (ins_hit k v e es q)) (subst (λ (x : ℕ). Over x es) (sym q) s.0, s.1))
      (λ q. ⊎_elim
      (λ w. subst Sorted (sym (ins_before k v e es q w)) ((w, over_less k e.0 es (omega arith) s.0), s))
      (λ w. subst Sorted (sym (ins-after k v e es q w)) (over-ins e.0 k v es (omega arith) s.0, sorted_ins k v es s.1))
      (cases_lt k e.0))
      (cases_eq k e.0)

  pub get-ins : (q k : ℕ) (v : V) (es : List (ℕ × V)) → get q (ins k v es) ≡ cond (eqb q k) (Some v) (get q es)
  unfolding at with_entry without
  get-ins q k v [] = get_cons q (k, v) []
  get-ins q k v (e ∷ es) = ⊎_elim
      (λ w. ap (get q) (ins_hit k v e es w) ∙ grind (arith, nat_tests))
      (λ w. ⊎_elim
      (λ x. ap (get q) (ins_before k v e es w x) ∙ get_cons q (k, v) (e ∷ es))
      (λ x. ap (get q) (ins-after k v e es w x) ∙ (let ih = get-ins q k v es in grind (arith, nat_tests, ih)))
      (cases_lt k e.0))
      (cases_eq k e.0)

  over-del : (b k : ℕ) (es : List (ℕ × V)) → Over b es → Over b (del k es)
  unfolding at with_entry without
  over-del b k [] o = tt
  over-del b k (e ∷ es) o = ⊎_elim
      (λ q. subst (Over b) (sym (del_hit k e es q)) o.1)
      (λ q. subst (Over b) (sym (del_miss k e es q)) (o.0, over-del b k es o.1))
      (cases_eq k e.0)

  pub sorted_del : (k : ℕ) (es : List (ℕ × V)) → Sorted es → Sorted (del k es)
  unfolding at with_entry without
  sorted_del k [] s = tt
  sorted_del k (e ∷ es) s = ⊎_elim
      (λ q. subst Sorted (sym (del_hit k e es q)) s.1)
      (λ q. subst Sorted (sym (del_miss k e es q)) (over-del e.0 k es s.0, sorted_del k es s.1))
      (cases_eq k e.0)

  pub get-del : (q k : ℕ) (es : List (ℕ × V)) → Sorted es → get q (del k es) ≡ cond (eqb q k) None (get q es)
  unfolding at with_entry without
  get-del q k [] s = grind (arith, nat_tests)
  get-del q k (e ∷ es) s = ⊎_elim
      (λ w. let n : get e.0 es ≡ None = get-over e.0 es s.0 in
      ap (get q) (del_hit k e es w) ∙ ⊎_elim
      (λ x. let nq : get q es ≡ None = ap (λ (y : ℕ). get y es) x ∙ n in nq ∙ sym (yes_eq q k _ _ (x ∙ sym w)))
      (λ x. sym (no_eq q k _ _ (λ y. x (y ∙ w)) ∙ get_miss q e es x))
      (cases_eq q e.0))
      (λ w. ap (get q) (del_miss k e es w) ∙ (let ih = get-del q k es s.1 in grind (arith, nat_tests, ih)))
      (cases_eq k e.0)

  -- sorted lists with equal look-ups are equal
  pub same_entries : (xs ys : List (ℕ × V)) → Sorted xs → Sorted ys → ((q : ℕ) → get q xs ≡ get q ys) → xs ≡ ys
  same_entries [] [] s t h = refl
  same_entries [] (y ∷ ys) s t h =
      let a : get y.0 [] ≡ get y.0 (y ∷ ys) = h y.0 in
      let b : None ≡ Some y.1 = sym (get_nil V y.0) ∙ a ∙ get_hit y.0 y ys refl in cc
  same_entries (x ∷ xs) [] s t h =
      let a : get x.0 (x ∷ xs) ≡ None = h x.0 ∙ get_nil V x.0 in
      let b : Some x.1 ≡ None = sym (get_hit x.0 x xs refl) ∙ a in cc
  same_entries (x ∷ xs) (y ∷ ys) s t h = ⊎_elim
      (λ e.
      let vs : Some x.1 ≡ Some y.1 = sym (get_hit x.0 x xs refl) ∙ h x.0 ∙ get_hit x.0 y ys e in
      let v : x.1 ≡ y.1 = cc in
      let xy : x ≡ y = ap (λ (a : ℕ). (a, x.1)) e ∙ ap (λ (b : V). (y.0, b)) v in
      let ts : xs ≡ ys = same_entries xs ys s.1 t.1 (λ q. ⊎_elim
      (λ w. ap (λ (z : ℕ). get z xs) w ∙ get-over x.0 xs s.0 ∙ sym (ap (λ (z : ℕ). get z ys) (w ∙ e) ∙ get-over y.0 ys t.0))
      (λ w. sym (get_miss q x xs w) ∙ h q ∙ get_miss q y ys (λ z. w (z ∙ sym e)))
      (cases_eq q x.0)) in
      cc)
      (⊎_elim
      (λ lt. let a : Some x.1 ≡ get x.0 (y ∷ ys) = sym (get_hit x.0 x xs refl) ∙ h x.0 in
      let b : get x.0 (y ∷ ys) ≡ None = get-over x.0 (y ∷ ys) (lt, over_less x.0 y.0 ys (omega arith) t.0) in
      let c : Some x.1 ≡ None = a ∙ b in cc)
      (λ lt. let a : get y.0 (x ∷ xs) ≡ Some y.1 = h y.0 ∙ get_hit y.0 y ys refl in
      let b : get y.0 (x ∷ xs) ≡ None = get-over y.0 (x ∷ xs) (lt, over_less y.0 x.0 xs (omega arith) s.0) in
      let c : None ≡ Some y.1 = sym b ∙ a in cc))
      (cases_order x.0 y.0)

  -- a new key is one more entry, and a key that is taken out one less
  pub length-ins : (k : ℕ) (v : V) (es : List (ℕ × V)) → get k es ≡ None → length (ins k v es) ≡ suc (length es)
  unfolding at with_entry without
  length-ins k v [] n = refl
  length-ins k v (e ∷ es) n = ⊎_elim
      (λ q. let c : Some e.1 ≡ None = sym (get_hit k e es q) ∙ n in cc)
      (λ q. ⊎_elim
      (λ w. ap length (ins_before k v e es q w))
      (λ w. ap length (ins-after k v e es q w) ∙ ap suc (length-ins k v es (sym (get_miss k e es q) ∙ n)))
      (cases_lt k e.0))
      (cases_eq k e.0)

  pub length-del : (k : ℕ) (v : V) (es : List (ℕ × V)) → get k es ≡ Some v → suc (length (del k es)) ≡ length es
  unfolding at with_entry without
  length-del k v [] e = cc
  length-del k v (e ∷ es) g = ⊎_elim
      (λ q. ap (λ (x : List (ℕ × V)). suc (length x)) (del_hit k e es q))
      (λ q. ap (λ (x : List (ℕ × V)). suc (length x)) (del_miss k e es q) ∙ ap suc (length-del k v es (sym (get_miss k e es q) ∙ g)))
      (cases_eq k e.0)

  -- a key that is not there
  pub del-none : (k : ℕ) (es : List (ℕ × V)) → get k es ≡ None → del k es ≡ es
  unfolding at with_entry without
  del-none k [] e = refl
  del-none k (e ∷ es) g = ⊎_elim
      (λ q. let c : Some e.1 ≡ None = sym (get_hit k e es q) ∙ g in cc)
      (λ q. del_miss k e es q ∙ ap (λ (x : List (ℕ × V)). e ∷ x) (del-none k es (sym (get_miss k e es q) ∙ g)))
      (cases_eq k e.0)

  pub length_had : (k : ℕ) (v w : V) (es : List (ℕ × V)) → Sorted es → get k es ≡ Some w → length (ins k v es) ≡ length es
  unfolding at with_entry without
  length_had k v w [] s g = cc
  length_had k v w (e ∷ es) s g = ⊎_elim
      (λ q. ap length (ins_hit k v e es q))
      (λ q. ⊎_elim
      (λ x. let n : get k (e ∷ es) ≡ None = get-over k (e ∷ es) (x, over_less k e.0 es (omega arith) s.0) in cc)
      (λ x. ap length (ins-after k v e es q x) ∙ ap suc (length_had k v w es s.1 (sym (get_miss k e es q) ∙ g)))
      (cases_lt k e.0))
      (cases_eq k e.0)
