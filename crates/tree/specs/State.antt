-- When nodes and a head hold a store, and what entries it has. Assumes nothing.
use Rattle.std.specs.Prelude.{◌≡◌, ℕ, suc, ◌+◌, ◌<◌, ◌≤◌, ◌⊎◌, List, [], ◌∷◌, length, Some, None, Ok, Err, Option, Result}
use Rattle.std.specs.List.{slice_get}
use Rattle.key.specs.declared.refusal.Refusal.{Refusal}
use Rattle.key.specs.declared.refusal.Refusal.TheVariants.{StoreFull}
use Rattle.store.specs.Model.{Lawful}
use Rattle.tree.specs.declared.free.Spare.{Spare}
use Rattle.tree.specs.declared.head.Head.{Head}
use Rattle.tree.specs.declared.links.Link.{Link}
use Rattle.tree.specs.declared.links.Place.{Place}
use Rattle.tree.specs.declared.node.Node.{Node}
use Rattle.tree.specs.Digits.{Digits}
use Rattle.tree.specs.Tree.{Tree, Laid, Inside, Distinct, link, tree_below, place_of, last_link, pour, occurs, size, one}

-- how often a place occurs in a list
abbrev pub listed : ℕ → List ℕ → ℕ
listed x [] = 0
listed x (j ∷ f) = one x j + listed x f

module _ {V : Type 0} where
  -- the freed nodes, each with the link to the next on its left
  abbrev pub Chain : List (Node V) → Option ℕ → List ℕ → Type 0
  Chain ns i [] = i ≡ None
  Chain ns i (j ∷ f) = (i ≡ Some j) × ((n : Node V) × (slice_get ns j ≡ Some n) × Chain ns n.left f)

  -- the nodes below `fresh` are those of the tree and the freed ones, each once
  pub record WellFormed (ns : List (Node V)) (h : Head) : Type 0 where
    pub t : Tree V
    pub f : List ℕ
    pub root_is : h.root ≡ link t
    pub is : Laid ns t
    pub inside : Inside h.width.bits 0 t
    pub once : Distinct t
    pub chain : Chain ns h.free f
    pub apart : (x : ℕ) → occurs x t + listed x f ≤ 1
    pub unused : (x : ℕ) → h.fresh ≤ x → occurs x t + listed x f ≡ 0
    pub used : size t + length f ≡ h.fresh
    pub within : h.fresh ≤ length ns
    pub small : length ns ≤ 65536
    pub count_is : h.count ≡ size t
    pub sized : size t ≡ length (pour t [])

  -- the tree below a place, down to the last level that there can be
  abbrev pub tree_at : List (Node V) → Head → Option ℕ → Tree V
  tree_at ns h i = tree_below (suc h.width.bits) ns i

  abbrev pub tree_of : List (Node V) → Head → Tree V
  tree_of ns h = tree_at ns h h.root

  abbrev pub stored : List (Node V) → Head → List (ℕ × V)
  stored ns h = pour (tree_of ns h) []

  -- a node that holds no record, and the freed and the unused ones without it
  pub record SpareNode (ns : List (Node V)) (h : Head) (s : Spare) : Type 0 where
    pub freed_first : (h.free ≡ Some s.at) ⊎ ((h.free ≡ None) × (s.at ≡ h.fresh))
    pub f : List ℕ
    pub chain : Chain ns s.free f
    pub apart : (x : ℕ) → occurs x (tree_of ns h) + one x s.at + listed x f ≤ 1
    pub unused : (x : ℕ) → s.fresh ≤ x → occurs x (tree_of ns h) + one x s.at + listed x f ≡ 0
    pub used : size (tree_of ns h) + suc (length f) ≡ s.fresh
    pub at_within : s.at < length ns
    pub within : s.fresh ≤ length ns

  -- there is none exactly where every node holds a record
  abbrev pub Reserved : List (Node V) → Head → Result Spare Refusal → Type 0
  Reserved ns h (Ok s) = SpareNode ns h s
  Reserved ns h (Err e) = (e ≡ StoreFull) × (length (stored ns h) ≡ length ns)

  -- the node at a place holds a key, and the link of the place leads there
  pub record Held (limit : ℕ) (ns : List (Node V)) (h : Head) (q : ℕ) (p : Place) : Type 0 where
    pub below : q < limit
    pub at-is : place_of q h.width.bits 0 (tree_of ns h) ≡ Some p.at
    pub under_is : p.under ≡ last_link q h.width.bits 0 (tree_of ns h) None

  -- no node holds a key, and the walk to it ends with a link
  pub record Missing (limit : ℕ) (ns : List (Node V)) (h : Head) (q : ℕ) (under : Option Link) : Type 0 where
    pub below : q < limit
    pub at-is : place_of q h.width.bits 0 (tree_of ns h) ≡ None
    pub under_is : under ≡ last_link q h.width.bits 0 (tree_of ns h) None

  -- the one or the other
  abbrev pub Sought : ℕ → List (Node V) → Head → ℕ → Result Place (Option Link) → Type 0
  Sought limit ns h q (Ok p) = Held limit ns h q p
  Sought limit ns h q (Err under) = Missing limit ns h q under

  -- nodes and a head that hold a store of keys below a limit
  pub record Sound (limit : ℕ) (ns : List (Node V)) (h : Head) : Type 0 where
    pub wf : WellFormed ns h
    pub lawful : Lawful limit (length ns) (stored ns h)
    pub digits : Digits limit h.width.bits
