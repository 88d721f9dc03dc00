use Rattle.std.proofs.lemmas.List.FromFn.{length-map-range_with_len}
use Rattle.tables.specs.Spans.{span_cell}
use Rattle.touching.proofs.line_places.LinePlaces.count.Goals as goal

pub returns-in-Cells : goal.returns-in-Cells
returns-in-Cells c = let n = length-map-range_with_len (span_cell c.in-Cells.span) 0 c.in-Cells.span.count in cc
