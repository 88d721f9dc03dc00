-- The cells of a span, one after another.
use Rattle.std.proofs.Common.{◌≡◌, ℕ, suc, ◌+◌, ◌-◌, ◌<◌, ◌∷◌, length, map, ap, arith}
use Rattle.std.specs.Iterator.{YieldsFirst}
use Rattle.std.specs.Iterator.Runs.{YieldsInOrder}
use Rattle.std.specs.List.{range_with_len}
use Rattle.std.proofs.iter.runs.Sources.{from_front, as_is}
use Rattle.tables.specs.declared.place.Place.{Place}
use Rattle.tables.specs.declared.span.CellSpan.{CellSpan}
use Rattle.tables.specs.Spans.{span_cell, span_cells}

-- the cells from the k-th on begin with it
pub cells_more : (s : CellSpan) (count k : ℕ) → k < count → map (span_cell s) (range_with_len k (count - k)) ≡ span_cell s k ∷ map (span_cell s) (range_with_len (k + 1) (count - (k + 1)))
cells_more s count k h =
    let left : count - k ≡ suc (count - (k + 1)) = omega arith in
    ap (λ n. map (span_cell s) (range_with_len k n)) left

-- an iterator that is seen as the cells still to come gives these cells
pub cells_in_order : YieldsInOrder (YieldsFirst {A = Place} (λ rest. rest)) (λ rest. rest)
cells_in_order p s = as_is p p.from (from_front (YieldsFirst {A = Place} (λ rest. rest)) (λ x. x) (λ rest. rest) (λ s t h. ap length h.0) (λ s x t h. h) p s)

-- at first all cells are still to come
pub cells_at_first : (s : CellSpan) → map (span_cell s) (range_with_len 0 (s.count - 0)) ≡ span_cells s
cells_at_first s =
    let all : s.count - 0 ≡ s.count = omega arith in
    ap (λ n. map (span_cell s) (range_with_len 0 n)) all
