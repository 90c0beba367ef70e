-- The pieces of lines as callers see them.
use Rattle.std.specs.Prelude.{ℕ, List, slice_range}
use Rattle.serving.specs.declared.lines.LinePieces.{LinePieces}

-- the piece that was given last
abbrev pub newest_of : LinePieces → List ℕ
newest_of lines = slice_range lines.bytes lines.begin lines.end

-- what was read and isn't given yet
abbrev pub left_of : LinePieces → List ℕ
left_of lines = slice_range lines.bytes lines.end lines.count
