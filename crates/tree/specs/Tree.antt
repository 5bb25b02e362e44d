-- The tree that nodes in an array stand for. Assumes nothing.
use Rattle.std.specs.Prelude.{◌≡◌, ℕ, zero, suc, ◌+◌, ◌^◌, ◌<◌, ◌≤◌, max, cond, ◌⊎◌, List, [], ◌∷◌, Some, None, Option, ◌==◌, nat_lt}
use Rattle.std.specs.List.{slice_get}
use Rattle.std.specs.Option.{option_or}
use Rattle.tree.specs.declared.node.Node.{Node}
use Rattle.tree.specs.declared.links.Link.{Link}
use Rattle.tree.specs.declared.links.Side.{Side}
use Rattle.tree.specs.declared.links.Side.TheVariants.{Left, Right}
use Rattle.store.specs.Model.{with_entry}

-- a fork has its place in the array, its key and its record
pub data Tree (V : Type 0) : Type 0 where
  leaf : Tree V
  fork : ℕ → ℕ → V → Tree V → Tree V → Tree V

-- a link of the node at a place
abbrev pub on : ℕ → Side → Link
on j s = record { node = j; side = s }

-- 1 where two places are the same, else 0
abbrev pub one : ℕ → ℕ → ℕ
one x j = cond (x == j) 1 0

module _ {V : Type 0} where
  -- what leads to a tree
  abbrev pub link : Tree V → Option ℕ
  link leaf = None
  link (fork j k v l r) = Some j

  abbrev pub node_of : ℕ → V → Option ℕ → Option ℕ → Node V
  node_of k v l r = record { key = k; «record» = v; left = l; right = r }

  -- the nodes hold the tree
  abbrev pub Laid : List (Node V) → Tree V → Type 0
  Laid ns leaf = Unit {0}
  Laid ns (fork j k v l r) = (slice_get ns j ≡ Some (node_of k v (link l) (link r))) × Laid ns l × Laid ns r

  -- every key of a tree lies in its interval, of 2 ^ h numbers from low on; the left subtree has the lower half, the right one the upper half
  abbrev pub Inside : ℕ → ℕ → Tree V → Type 0
  Inside h low leaf = Unit {0}
  Inside zero low (fork j k v l r) = (k ≡ low) × (l ≡ leaf) × (r ≡ leaf)
  Inside (suc h) low (fork j k v l r) = (low ≤ k) × (k < low + 2 ^ suc h) × Inside h low l × Inside h (low + 2 ^ h) r

  -- the place of a key, on the way that its own digits show
  abbrev pub place_of : ℕ → ℕ → ℕ → Tree V → Option ℕ
  place_of q h low leaf = None
  place_of q zero low (fork j k v l r) = cond (k == q) (Some j) None
  place_of q (suc h) low (fork j k v l r) = cond (k == q) (Some j) (cond (nat_lt q (low + 2 ^ h)) (place_of q h low l) (place_of q h (low + 2 ^ h) r))

  -- the link that the walk to a key ends with
  abbrev pub last_link : ℕ → ℕ → ℕ → Tree V → Option Link → Option Link
  last_link q h low leaf d = d
  last_link q zero low (fork j k v l r) d = d
  last_link q (suc h) low (fork j k v l r) d = cond (k == q) d (cond (nat_lt q (low + 2 ^ h)) (last_link q h low l (Some (on j Left))) (last_link q h (low + 2 ^ h) r (Some (on j Right))))

  -- the tree below a place, as many levels of it as the first number says
  abbrev pub tree_below : ℕ → List (Node V) → Option ℕ → Tree V
  tree_below zero ns i = leaf
  tree_below (suc f) ns None = leaf
  tree_below (suc f) ns (Some j) = elim (slice_get ns j) [ None ↦ leaf | Some n ↦ fork j n.key n.«record» (tree_below f ns n.left) (tree_below f ns n.right) ]

  -- the places that a way down through the nodes visits, from the place that a link shows, left or right at each node
  abbrev pub Way : List (Node V) → Option ℕ → List ℕ → Type 0
  Way ns i [] = Unit {0}
  Way ns i (j ∷ js) = (i ≡ Some j) × ((n : Node V) × (slice_get ns j ≡ Some n) × (Way ns n.left js ⊎ Way ns n.right js))

  -- at most h levels below the top
  abbrev pub Levels : ℕ → Tree V → Type 0
  Levels h leaf = Unit {0}
  Levels zero (fork j k v l r) = (l ≡ leaf) × (r ≡ leaf)
  Levels (suc h) (fork j k v l r) = Levels h l × Levels h r

  -- the entries of a tree, put one after another into a list
  abbrev pub pour : Tree V → List (ℕ × V) → List (ℕ × V)
  pour leaf es = es
  pour (fork j k v l r) es = with_entry (pour l (pour r es)) k v

  -- how often a place occurs in a tree
  abbrev pub occurs : ℕ → Tree V → ℕ
  occurs x leaf = 0
  occurs x (fork j k v l r) = one x j + occurs x l + occurs x r

  abbrev pub size : Tree V → ℕ
  size leaf = 0
  size (fork j k v l r) = 1 + size l + size r

  -- how many levels a tree has
  abbrev pub height : Tree V → ℕ
  height leaf = 0
  height (fork j k v l r) = 1 + max (height l) (height r)

  -- the record of a key, wherever it stands in the tree
  abbrev pub record_of : ℕ → Tree V → Option V
  record_of q leaf = None
  record_of q (fork j k v l r) = cond (q == k) (Some v) (option_or (record_of q l) (record_of q r))

  -- no key stands below itself
  abbrev pub Distinct : Tree V → Type 0
  Distinct leaf = Unit {0}
  Distinct (fork j k v l r) = (record_of k l ≡ None) × (record_of k r ≡ None) × Distinct l × Distinct r
