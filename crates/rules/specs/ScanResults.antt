-- What a scan with an accepted frame leaves in the wait records.
use Rattle.std.specs.Prelude.{◌≡◌, ℕ, true, false, List, ◌∷◌, ◌++◌, length}
use Rattle.tables.specs.Limits.{last_name}
use Rattle.tables.specs.Lists.{Among}
use Rattle.tables.specs.Rows.{StatementRow, TableRows}
use Rattle.tables.specs.Rules.{table_keeps}
use Rattle.rules.specs.Frames.{setting}
use Rattle.rules.specs.Memory.{no_wait, wait_of, Memory}
use Rattle.rules.specs.Enabling.{enabled}
use Rattle.rules.specs.Scanning.{stepped, branch_now, turns, frame_taken, scanned}

-- In a table that keeps the rules, with a wait record for each name:
pub record RecordsFollowTheBranchesTaken : Type 0 where
  -- a statement's branch is decided by the places as the statements above it left them, and its record steps to that branch
  pub by_those_above : (t : TableRows) (frame : List ℕ) (m : Memory) → table_keeps t ≡ true → length m.waits ≡ last_name
      → (above below : List StatementRow) (s : StatementRow) → t.statements ≡ above ++ s ∷ below
      → wait_of s.name (scanned t frame m).waits
      ≡ stepped (wait_of s.name m.waits) (branch_now t frame s (turns t frame above (frame_taken frame m)).places)
  -- a statement that was not enabled holds no branch and no count
  pub not_enabled : (t : TableRows) (frame : List ℕ) (m : Memory) → table_keeps t ≡ true → length m.waits ≡ last_name
      → (s : StatementRow) → Among s t.statements → enabled t.plans (setting frame) s ≡ false
      → wait_of s.name (scanned t frame m).waits ≡ no_wait
