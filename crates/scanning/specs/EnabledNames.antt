-- The enabled names of a scan, as the code holds them.
use Rattle.std.specs.Prelude.{◌≡◌, ℕ, ◌-◌, Bool, false, cond, List, slice_index_or}
use Rattle.tables.specs.Limits.{last_name, counted_to}
use Rattle.tables.specs.Lists.{Among}
use Rattle.tables.specs.Rows.{StatementRow, TableRows}
use Rattle.rules.specs.Frames.{setting}
use Rattle.rules.specs.Enabling.{enabled, enabled_count, name_enabled}
use Rattle.scanning.specs.declared.names.EnabledNames.{EnabledNames}

-- whether a name is there; a number that is no name's is not
abbrev pub is_there : EnabledNames → ℕ → Bool
is_there names name = cond (counted_to last_name name) (slice_index_or names.on (name - 1) false) false

-- the names that a table and a frame enable
abbrev pub NamesOf : TableRows → (frame : List ℕ) → EnabledNames → Type 0
NamesOf t frame names = (name : ℕ) → is_there names name ≡ name_enabled t.plans (setting frame) t.statements name

-- a statement is enabled exactly when its name is there
abbrev pub OwnNameOf : TableRows → (frame : List ℕ) → EnabledNames → StatementRow → Type 0
OwnNameOf t frame names s = is_there names s.name ≡ enabled t.plans (setting frame) s

-- The names that a table and a frame enable, and how many statements that is.
pub record EnabledBy (t : TableRows) (frame : List ℕ) (names : EnabledNames) : Type 0 where
  pub count : names.count ≡ enabled_count t.plans (setting frame) t.statements
  pub named : NamesOf t frame names
  pub own : (s : StatementRow) → Among s t.statements → OwnNameOf t frame names s
