-- The least key of a tree, and what a walk to the next key has come by. Assumes nothing.
use Rattle.std.specs.Prelude.{ℕ, cond, Some, None, Option, nat_lt}
use Rattle.std.specs.Option.{option_or}
use Rattle.tree.specs.declared.links.Side.{Side}
use Rattle.tree.specs.declared.links.Side.TheVariants.{Left, Right}
use Rattle.tree.specs.declared.order.Passed.{Passed}
use Rattle.tree.specs.Tree.{Tree, leaf, fork}

-- the lesser of two numbers that may be missing
abbrev pub lesser : Option ℕ → Option ℕ → Option ℕ
lesser None y = y
lesser (Some a) None = Some a
lesser (Some a) (Some b) = cond (nat_lt a b) (Some a) (Some b)

-- what the walk to the next key has come by, with a node on the way to the key q
abbrev pub node_passed : ℕ → ℕ → Passed → Passed
node_passed q met p = cond (nat_lt q met) (record { best = lesser p.best (Some met); aside = None }) p

-- and with the subtree on the right of a node, where the way goes left
abbrev pub side_passed : Side → Option ℕ → Passed → Passed
side_passed Left right p = record { best = p.best; aside = option_or right p.aside }
side_passed Right right p = p

-- on the left, if there is a subtree, else on the right
abbrev pub least : {V : Type 0} → Tree V → Option ℕ
least leaf = None
least (fork j k v l r) = lesser (Some k) (option_or (least l) (least r))
