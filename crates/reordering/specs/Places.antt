-- Where a name stands.
use Rattle.std.specs.Prelude.{◌≡◌, ℕ, ◌<◌, true, false, List, map, length, take, Some, None, Option, slice_index_or}
use Rattle.tables.specs.declared.statement.Statement.{Statement}
use Rattle.tables.specs.Rows.{statement_row}
use Rattle.rules.specs.Calls.{has_name}

-- The first statement of a name stands at a place, counted from 0.
pub record StandsAt (statements : List Statement) (name place : ℕ) : Type 0 where
  pub within : place < length statements
  -- the statement there has the name
  pub named : (past_end : Statement) → (slice_index_or statements place past_end).name.0 ≡ name
  -- none above it has
  pub none_above : has_name name (map statement_row (take place statements)) ≡ false
  -- so the statements have the name
  pub there : has_name name (map statement_row statements) ≡ true

-- the place where the statement of a name stands, or none if there is no such statement
abbrev pub Found : List Statement → ℕ → Option ℕ → Type 0
Found statements name None = has_name name (map statement_row statements) ≡ false
Found statements name (Some place) = StandsAt statements name place
