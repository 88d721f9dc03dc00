-- Where cells stand.
use Rattle.std.proofs.Common.{◌≡◌, ℕ, ◌+◌, ◌<◌, true, ltb, Some, None, Option, arith}
use Rattle.std.proofs.lemmas.Bool.{cond_both, ltb-true}
use Rattle.tables.specs.declared.place.Buffer.{Buffer}
use Rattle.tables.specs.declared.place.Buffer.TheVariants.{Input, Output}
use Rattle.cells.specs.Cells.{all_cells, buffer_cells, first_cell, cell_position}

-- a position is among the cells
abbrev pub Inside : Option ℕ → Type 0
Inside None = Unit {0}
Inside (Some i) = i < all_cells

-- the cell of a code that its buffer has is among the cells
pub code_inside : (buffer : Buffer) (code : ℕ) → ltb code (buffer_cells buffer) ≡ true → first_cell buffer + code < all_cells
code_inside Input code e = omega (arith, ltb-true code (buffer_cells Input) e)
code_inside Output code e = omega (arith, ltb-true code (buffer_cells Output) e)

pub position_inside : (buffer : Buffer) (code : ℕ) → Inside (cell_position buffer code)
position_inside buffer code = cond_both (ltb code (buffer_cells buffer)) _ _ Inside (code_inside buffer code) (λ _. tt)
