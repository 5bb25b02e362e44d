-- How far a journal is read. Assumes nothing.
use Rattle.std.specs.Prelude.{ℕ, ◌<◌, Option, Result, IfOk, OnSome}
use Rattle.std.specs.Io.Iter.{lines_left}
use Rattle.board.specs.declared.lines.Journal.{Journal}

-- the most lines that may still come
abbrev pub left : Journal → ℕ
left journal = lines_left journal.texts

-- a start that is handed on was read from the journal
abbrev pub ReadOn : {A E : Type 0} → Journal → Result (Option A) E → Journal → Type 0
ReadOn before result after = IfOk result (λ next. OnSome next (left after < left before))
