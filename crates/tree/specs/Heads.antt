-- How a head changes. Assumes nothing.
use Rattle.std.specs.Prelude.{ℕ, ◌+◌, ◌-◌, Some, None, Option}
use Rattle.tree.specs.declared.free.Spare.{Spare}
use Rattle.tree.specs.declared.head.Head.{Head}
use Rattle.tree.specs.declared.links.Link.{Link}
use Rattle.tree.specs.declared.links.Place.{Place}
use Rattle.tree.specs.declared.width.Width.{Width}

-- no node is in use
abbrev pub blank : Width → Head
blank w = record { root = None; free = None; fresh = 0; count = 0; width = w }

-- the place of the root once a link is set: only the link that stands in no node is the root's
abbrev pub rooted_at : Option Link → Option ℕ → Option ℕ → Option ℕ
rooted_at None to root = to
rooted_at (Some u) to root = root

-- one more node, below a link
abbrev pub with_spare : Head → Spare → Option Link → Head
with_spare h s under = record { root = rooted_at under (Some s.at) h.root; free = s.free; fresh = s.fresh; count = h.count + 1; width = h.width }

-- one node less, which is freed
abbrev pub without_tip : Head → Place → Head
without_tip h t = record { root = rooted_at t.under None h.root; free = Some t.at; fresh = h.fresh; count = h.count - 1; width = h.width }
