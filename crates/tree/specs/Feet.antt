-- A childless fork of a tree, and the tree without it. Assumes nothing.
use Rattle.std.specs.Prelude.{◌≡◌, ℕ, ◌⊎◌, Some, Option}
use Rattle.tree.specs.declared.links.Link.{Link}
use Rattle.tree.specs.declared.links.Side.TheVariants.{Left, Right}
use Rattle.tree.specs.Tree.{Tree, leaf, fork, on}

module _ {V : Type 0} where
  -- a childless fork at the place m, with its key and record, stands in a tree to which the link d leads; c is the tree without it, and u the link that leads to it
  abbrev pub Foot : Tree V → Option Link → ℕ → ℕ → V → Tree V → Option Link → Type 0
  Foot leaf d m km vm c u = ⊥
  Foot (fork j k v l r) d m km vm c u =
      ((l ≡ leaf) × (r ≡ leaf) × (m ≡ j) × (km ≡ k) × (vm ≡ v) × (c ≡ leaf) × (u ≡ d))
      ⊎ (((l' : Tree V) × Foot l (Some (on j Left)) m km vm l' u × (c ≡ fork j k v l' r))
      ⊎ ((r' : Tree V) × Foot r (Some (on j Right)) m km vm r' u × (c ≡ fork j k v l r')))

  -- m is the place of such a fork, and u the link that leads to it
  pub record Bottom (s : Tree V) (d : Option Link) (m : ℕ) (u : Option Link) : Type 0 where
    pub km : ℕ
    pub vm : V
    pub c : Tree V
    pub foot : Foot s d m km vm c u
