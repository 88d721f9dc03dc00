-- Runs of a processor, and lists of calls that are alike to a table.
use Rattle.std.specs.Prelude.{◌≡◌, ℕ, cond, ◌⊎◌, List, [], ◌∷◌, map, length, Some, Option}
use Rattle.tables.specs.declared.place.Buffer.{Buffer}
use Rattle.tables.specs.declared.place.Place.{Place}
use Rattle.tables.specs.declared.number.Number.{Number}
use Rattle.tables.specs.Families.{cell_in}
use Rattle.tables.specs.Lists.{Among}
use Rattle.tables.specs.Rows.{StatementRow, TableRows}
use Rattle.rules.specs.Frames.{frame_bytes, is_frame, cells_shown, cell_on, number_shown, setting}
use Rattle.rules.specs.Touching.{Tests, TestsNumber}
use Rattle.rules.specs.Reordering.{Answer}
use Rattle.rules.specs.Calls.{ProcessorState, Call, scan, switch, reorder, restart, Rule}

-- ---- runs

-- One call of a run, with its answer and the states before and after it.
pub record Moment : Type 0 where
  pub call : Call
  pub answer : Answer
  pub before : ProcessorState
  pub after : ProcessorState

-- the calls of a run
abbrev pub calls : List Moment → List Call
calls ms = map (λ (m : Moment). m.call) ms

-- a run from a state: each call keeps its rule, and starts where the one before it ended
abbrev pub Run : ProcessorState → List Moment → Type 0
Run s [] = Unit {0}
Run s (m ∷ more) = (m.before ≡ s) × Rule m.call m.before m.answer m.after × Run m.after more

-- where a run from a state ends
abbrev pub end_of : ProcessorState → List Moment → ProcessorState
end_of s [] = s
end_of s (m ∷ more) = end_of m.after more

-- ---- frames that are alike to a table

-- some statement tests the place
abbrev pub Tested : TableRows → Place → Type 0
Tested t p = (s : StatementRow) × Among s t.statements × Tests s p

-- some statement tests the number
abbrev pub NumberTested : TableRows → Number → Type 0
NumberTested t n = (s : StatementRow) × Among s t.statements × TestsNumber s n

-- Two frames show the same wherever a table's statements look, and the same setting.
pub record LookAlike (t : TableRows) (f g : List ℕ) : Type 0 where
  pub cells : (b : Buffer) (c : ℕ) → Tested t (cell_in b c) → cell_on (cells_shown f) b c ≡ cell_on (cells_shown g) b c
  pub numbers : (n : Number) → NumberTested t n → number_shown f n ≡ number_shown g n
  pub settings : setting f ≡ setting g

-- Two frames are alike for a table: equally long, and where both are accepted they look alike.
pub record FramesAlike (t : TableRows) (f g : List ℕ) : Type 0 where
  pub lengths : length f ≡ length g
  pub look : length f ≡ frame_bytes → LookAlike t f g

-- two calls are the same, or scans with frames that are alike
abbrev pub CallAlike : TableRows → Call → Call → Type 0
CallAlike t c d = (c ≡ d) ⊎ ((f : List ℕ) × (g : List ℕ) × (c ≡ scan f) × (d ≡ scan g) × FramesAlike t f g)

-- two lists of calls are the same but for frames, which are alike
abbrev pub CallsAlike : TableRows → List Call → List Call → Type 0
CallsAlike t [] [] = Unit {0}
CallsAlike t [] (d ∷ ds) = ⊥
CallsAlike t (c ∷ cs) [] = ⊥
CallsAlike t (c ∷ cs) (d ∷ ds) = CallAlike t c d × CallsAlike t cs ds

-- ---- the frame that a run accepted last

-- after a scan, given the one before it
abbrev pub kept_frame : Option (List ℕ) → List ℕ → Option (List ℕ)
kept_frame f g = cond (is_frame g) (Some g) f

-- after a call
abbrev pub last_frame : Option (List ℕ) → Call → Option (List ℕ)
last_frame f (scan g) = kept_frame f g
last_frame f (switch name character) = f
last_frame f (reorder order) = f
last_frame f restart = f

-- after all calls of a run, given the one before them
abbrev pub last_of : Option (List ℕ) → List Moment → Option (List ℕ)
last_of f [] = f
last_of f (m ∷ more) = last_of (last_frame f m.call) more
