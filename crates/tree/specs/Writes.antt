-- What the writes of single nodes leave. Assumes nothing.
use Rattle.std.specs.Prelude.{◌≡◌, ℕ, ◌+◌, ◌<◌, List, Some, None, Option, ◌≢◌}
use Rattle.std.specs.List.{slice_get}
use Rattle.tree.specs.declared.node.Node.{Node}
use Rattle.tree.specs.declared.links.Link.{Link}
use Rattle.tree.specs.declared.links.Place.{Place}
use Rattle.tree.specs.declared.links.Side.{Side}
use Rattle.tree.specs.declared.links.Side.TheVariants.{Left, Right}
use Rattle.tree.specs.Tree.{node_of}

-- a place other than that of a link
abbrev pub Elsewhere : ℕ → Option Link → Type 0
Elsewhere x None = Unit {0}
Elsewhere x (Some u) = x ≡ u.node → ⊥

-- a link stands in one of n nodes
abbrev pub Stands : ℕ → Option Link → Type 0
Stands n None = Unit {0}
Stands n (Some u) = u.node < n

-- a link stands in one of n nodes, and not in the new one
abbrev pub Beside : ℕ → ℕ → Option Link → Type 0
Beside n new None = Unit {0}
Beside n new (Some u) = (u.node < n) × (u.node ≢ new)

-- where the half of a span on a side begins
abbrev pub low_on : Side → ℕ → ℕ → ℕ
low_on Left low half = low
low_on Right low half = low + half

module _ {V : Type 0} where
  -- the link of a node on a side
  abbrev pub child : Side → Node V → Option ℕ
  child Left n = n.left
  child Right n = n.right

  -- a node with another link on one side
  abbrev pub with_link : Side → Option ℕ → Node V → Node V
  with_link Left i n = node_of n.key n.«record» i n.right
  with_link Right i n = node_of n.key n.«record» n.left i

  -- a link is set, if there is one, and nothing else
  abbrev pub Sets : List (Node V) → List (Node V) → Option Link → Option ℕ → Type 0
  Sets ns ms None to = ms ≡ ns
  Sets ns ms (Some u) to = (n : Node V) → slice_get ns u.node ≡ Some n → slice_get ms u.node ≡ Some (with_link u.side to n)

  pub record Relinked (ns ms : List (Node V)) (under : Option Link) (to : Option ℕ) : Type 0 where
    pub linked : Sets ns ms under to
    pub kept : (x : ℕ) → Elsewhere x under → slice_get ms x ≡ slice_get ns x

  -- a childless node is written, and a link to it
  abbrev pub Linked : List (Node V) → List (Node V) → ℕ → Option Link → Type 0
  Linked ns ms new None = Unit {0}
  Linked ns ms new (Some u) = (n : Node V) → slice_get ns u.node ≡ Some n → slice_get ms u.node ≡ Some (with_link u.side (Some new) n)

  pub record Attached (ns ms : List (Node V)) (q : ℕ) (w : V) (new : ℕ) (under : Option Link) : Type 0 where
    pub fresh : slice_get ms new ≡ Some (node_of q w None None)
    pub linked : Linked ns ms new under
    pub kept : (x : ℕ) → (x ≢ new) → Elsewhere x under → slice_get ms x ≡ slice_get ns x

  -- one node takes another record
  pub record Renewed (ns ms : List (Node V)) (i : ℕ) (w : V) : Type 0 where
    pub moved : (n : Node V) → slice_get ns i ≡ Some n → slice_get ms i ≡ Some (node_of n.key w n.left n.right)
    pub kept : (x : ℕ) → (x ≢ i) → slice_get ms x ≡ slice_get ns x

  -- one node takes the key and the record of another
  pub record Promoted (ns ms : List (Node V)) (i m : ℕ) : Type 0 where
    pub moved : (n b : Node V) → slice_get ns i ≡ Some n → slice_get ns m ≡ Some b → slice_get ms i ≡ Some (node_of b.key b.«record» n.left n.right)
    pub kept : (x : ℕ) → (x ≢ i) → slice_get ms x ≡ slice_get ns x

  -- one node goes before the freed ones
  pub record Released (ns ms : List (Node V)) (m : ℕ) (free : Option ℕ) : Type 0 where
    pub freed : (n : Node V) × (slice_get ns m ≡ Some n) × (slice_get ms m ≡ Some (with_link Left free n))
    pub kept : (x : ℕ) → (x ≢ m) → slice_get ms x ≡ slice_get ns x

  -- the writes that take a key out: its node takes the content of the one at the tip, whose link goes, and which is freed
  pub record TakenOut (ns ms : List (Node V)) (i : ℕ) (tip : Place) (free : Option ℕ) : Type 0 where
    pub filled : List (Node V)
    pub cut : List (Node V)
    pub promoted : Promoted ns filled i tip.at
    pub relinked : Relinked filled cut tip.under None
    pub released : Released cut ms tip.at free
