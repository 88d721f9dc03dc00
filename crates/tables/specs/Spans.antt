-- Cells at even distances.
use Rattle.std.specs.Prelude.{ℕ, ◌+◌, ◌*◌, List, map}
use Rattle.std.specs.List.{range_with_len}
use Rattle.tables.specs.declared.place.Place.{Place}
use Rattle.tables.specs.declared.span.CellSpan.{CellSpan}
use Rattle.tables.specs.Families.{cell_in}

-- one of the cells, counted from 0
abbrev pub span_cell : CellSpan → ℕ → Place
span_cell s k = cell_in s.buffer (s.first + s.step * k)

-- all of them
abbrev pub span_cells : CellSpan → List Place
span_cells s = map (span_cell s) (range_with_len 0 s.count)
