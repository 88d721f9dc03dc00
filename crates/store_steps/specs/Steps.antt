-- What a step does to a store's cells, and what it answers.
use Rattle.std.specs.Prelude.{ℕ, Bool, List, take, Some, None, Option}
use Rattle.tables.specs.declared.place.State.{State}
use Rattle.cells.specs.Cells.{cleared, taken, held, written}
use Rattle.store_steps.specs.declared.step.Step.{Step}
use Rattle.store_steps.specs.declared.step.Step.TheVariants.{Clear, Take, Read, Write}

-- the cells after a step
abbrev pub cells_after : List Bool → List ℕ → Step → List Bool
cells_after cells frame Clear = cleared
cells_after cells frame (Take count) = taken cells (take count frame)
cells_after cells frame (Read buffer code) = cells
cells_after cells frame (Write buffer code state) = written cells buffer code state

-- what a step answers: a read the cell's state, the others nothing
abbrev pub step_answer : List Bool → Step → Option State
step_answer cells Clear = None
step_answer cells (Take count) = None
step_answer cells (Read buffer code) = Some (held cells buffer code)
step_answer cells (Write buffer code state) = None
