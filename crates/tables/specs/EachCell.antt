-- The cells of a span, one after another.
use Rattle.std.specs.Prelude.{◌-◌, List, map}
use Rattle.std.specs.List.{range_with_len}
use Rattle.tables.specs.declared.place.Place.{Place}
use Rattle.tables.specs.declared.each_cell.EachCell.TheInside.{Inside}
use Rattle.tables.specs.Spans.{span_cell}

-- the cells still to come
abbrev pub cells_left : Inside → List Place
cells_left e = map (span_cell e.span) (range_with_len e.passed (e.span.count - e.passed))
