use Rattle.std.proofs.Common.{◌≡◌, ℕ, ltb, cond, Some, None, arith}
use Rattle.std.specs.List.{slice_get}
use Rattle.std.proofs.lemmas.Bool.Decides.{nat_tests}
use Rattle.std.proofs.lemmas.List.FromFn.{length-map-range_with_len, get_or-map-range_with_len}
use Rattle.std.proofs.lemmas.Option.{slice_get_cases}
use Rattle.tables.specs.declared.span.CellSpan.{CellSpan}
use Rattle.tables.specs.Spans.{span_cell, span_cells}
use Rattle.touching.proofs.line_places.LinePlaces.place.Goals as goal

-- the k-th cell of a span is the one of that number
span_nth : (s : CellSpan) (k : ℕ) → slice_get (span_cells s) k ≡ cond (ltb k s.count) (Some (span_cell s k)) None
span_nth s k =
    let n = length-map-range_with_len (span_cell s) 0 s.count in
    let cell = get_or-map-range_with_len (span_cell s) 0 s.count k k in
    grind (arith, nat_tests, slice_get_cases (span_cells s) k, n, cell)

pub returns-in-Cells : goal.returns-in-Cells
returns-in-Cells c = let n = span_nth c.in-Cells.span c.args.k in cc
