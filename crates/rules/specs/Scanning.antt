-- What one scan does.
use Rattle.std.specs.Prelude.{ℕ, ◌+◌, min, Bool, true, false, List, [], ◌∷◌}
use Rattle.tables.specs.declared.action.Action.{Action}
use Rattle.tables.specs.Limits.{max_delay}
use Rattle.tables.specs.Rows.{StatementRow, TableRows}
use Rattle.rules.specs.declared.branch.Branch.{Branch}
use Rattle.rules.specs.declared.branch.Branch.TheVariants.{Neither, Then, Else}
use Rattle.rules.specs.Frames.{cells_shown, setting}
use Rattle.rules.specs.Memory.{Places, Wait, wait_of, with_wait, Memory}
use Rattle.rules.specs.Enabling.{enabled}
use Rattle.rules.specs.Testing.{view, holds}
use Rattle.rules.specs.Acting.{written_at, after_writes}

-- ---- the wait record

-- one more, up to the longest wait that a branch can have
abbrev pub counted_on : ℕ → ℕ
counted_on count = min (count + 1) max_delay

-- the count after a step, by the branch held and the branch taken: the same branch counts on, another starts at 0
abbrev pub next_count : (held taken : Branch) → ℕ → ℕ
next_count Then Then count = counted_on count
next_count Else Else count = counted_on count
next_count Neither Then count = 0
next_count Neither Else count = 0
next_count Then Else count = 0
next_count Else Then count = 0
next_count Neither Neither count = 0
next_count Then Neither count = 0
next_count Else Neither count = 0

-- the record after a step to the branch taken
unfoldable pub stepped : Wait → (taken : Branch) → Wait
stepped held taken = record { branch = taken; count = next_count held.branch taken held.count }

-- ---- a statement's turn

-- the actions of a branch
abbrev pub actions : StatementRow → Branch → List Action
actions s Neither = []
actions s Then = s.thens
actions s Else = s.elses

-- the branch of a statement that is enabled or not and whose tests hold or not
abbrev pub branch_by : (enabled holds : Bool) → Branch
branch_by false holds = Neither
branch_by true false = Else
branch_by true true = Then

-- the branch that a statement takes
unfoldable pub branch_now : TableRows → (frame : List ℕ) → StatementRow → Places → Branch
branch_now t frame s ps = branch_by (enabled t.plans (setting frame) s) (holds (view t frame ps) s.tests)

-- the record that it leaves
abbrev pub wait_now : TableRows → (frame : List ℕ) → StatementRow → Memory → Wait
wait_now t frame s m = stepped (wait_of s.name m.waits) (branch_now t frame s m.places)

-- it leaves the record w, and writes what is due on branch b at the record's count
abbrev pub acted : StatementRow → Branch → Wait → Memory → Memory
acted s b w m = record {
  places = after_writes (written_at w.count (actions s b)) m.places;
  waits = with_wait s.name w m.waits;
}

-- it takes its branch, steps its record and acts
abbrev pub turn : TableRows → (frame : List ℕ) → StatementRow → Memory → Memory
turn t frame s m = acted s (branch_now t frame s m.places) (wait_now t frame s m) m

-- ---- the whole table

-- each statement in its turn, on the memory as those above it left it
abbrev pub turns : TableRows → (frame : List ℕ) → List StatementRow → Memory → Memory
turns t frame [] m = m
turns t frame (s ∷ more) m = turns t frame more (turn t frame s m)

-- the cells are the frame's; flags and wait records stay
abbrev pub frame_taken : (frame : List ℕ) → Memory → Memory
frame_taken frame m = record {
  places = record { cells = cells_shown frame; flags = m.places.flags };
  waits = m.waits;
}

-- a scan with an accepted frame
abbrev pub scanned : TableRows → (frame : List ℕ) → Memory → Memory
scanned t frame m = turns t frame t.statements (frame_taken frame m)
