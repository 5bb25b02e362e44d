-- The answers of `reserve`. Assumes nothing.
use Rattle.std.proofs.Common.{refl, ◌∙◌, arith}
use Rattle.tree.proofs.Sealed.{known}
use Rattle.tree.proofs.Trees.{read}
use Rattle.tree.proofs.Spares.{freed-within, kept-freed, kept-unused, full}
use Rattle.tree.proofs.search_tree.SearchTree.reserve.Goals as goal

pub index-requires : goal.index-requires
index-requires g c =
    let s = c.args.self.now in
    omega (arith, s.nodes.ok.0, freed-within s.nodes.items s.head c.in-Some.at (known s).wf c.in-Some.is)

pub returns-in-Some : goal.returns-in-Some
returns-in-Some g c =
    let s = c.args.self.now in
    let lt = freed-within s.nodes.items s.head c.in-Some.at (known s).wf c.in-Some.is in
    kept-freed s.nodes.items s.head c.in-Some.at c.index.result.now (known s).wf c.in-Some.is (read s.nodes.items c.in-Some.at _ lt c.index.ensures)

pub returns-then-fresh-len : goal.returns-then-fresh-len
returns-then-fresh-len g c =
    let s = c.args.self.now in
    (refl, full s.nodes.items s.head (known s).wf c.in_default.is (c.if-fresh-len.true ∙ c.len.ensures ∙ s.nodes.ok.0))

pub overflow_cast-result : goal.overflow_cast-result
overflow_cast-result g c =
    let s = c.args.self.now in
    omega (arith, (known s).wf.within, (known s).wf.small, s.nodes.ok.0)

pub overflow_add-result : goal.overflow_add-result
overflow_add-result g c =
    let s = c.args.self.now in
    omega (arith, (known s).wf.within, (known s).wf.small)

pub returns : goal.returns
returns g c =
    let s = c.args.self.now in
    kept-unused s.nodes.items s.head (known s).wf c.in_default.is (omega (arith, (known s).wf.within, s.nodes.ok.0))
