-- Rearranged tables run alike, whatever the calls and whatever the frames show where no statement looks.
use Rattle.std.specs.Prelude.{◌≡◌, ℕ, Bool, true, false, ◌⊎◌, List, [], ◌∷◌, length, Some, None, Ok, Option, slice_index_or}
use Rattle.tables.specs.declared.place.Buffer.{Buffer}
use Rattle.tables.specs.declared.place.Place.{Place}
use Rattle.tables.specs.declared.place.Place.TheVariants.{Flag}
use Rattle.tables.specs.Families.{cell_in}
use Rattle.tables.specs.Lists.{Among}
use Rattle.tables.specs.Rows.{StatementRow, TableRows}
use Rattle.documents.specs.Documents.{reading}
use Rattle.rules.specs.Frames.{frame_bytes, cells_shown, cell_on, setting}
use Rattle.rules.specs.Memory.{Wait, place_on}
use Rattle.rules.specs.Enabling.{enabled}
use Rattle.rules.specs.Touching.{Sets}
use Rattle.rules.specs.Rearranging.{Rearrangement}
use Rattle.rules.specs.Calls.{ProcessorState, fresh, Call, scan, switch, reorder, restart}
use Rattle.rules.specs.Runs.{Moment, calls, Run, CallsAlike, last_frame}

-- the cells, the flags and the wait records of a state
abbrev pub cells_of : ProcessorState → List Bool
cells_of s = s.memory.places.cells

abbrev pub flags_of : ProcessorState → List Bool
flags_of s = s.memory.places.flags

abbrev pub waits_of : ProcessorState → List Wait
waits_of s = s.memory.waits

-- ---- one run

-- some statement sets the place that is enabled in a scan with the frame
abbrev pub SetByEnabled : TableRows → (frame : List ℕ) → Place → Type 0
SetByEnabled t frame p =
    (s : StatementRow) × Among s t.statements × (enabled t.plans (setting frame) s ≡ true) × Sets s p

-- A cell that no enabled statement sets holds what the frame showed, and a flag that none sets holds what it held before.
pub record UnsetPlacesKept (frame : List ℕ) (before after : ProcessorState) : Type 0 where
  pub cells : (b : Buffer) (c : ℕ) → (SetByEnabled before.table frame (cell_in b c) → ⊥)
      → cell_on (cells_of after) b c ≡ cell_on (cells_shown frame) b c
  pub flags : (f : ℕ) → (SetByEnabled before.table frame (Flag f) → ⊥)
      → place_on after.memory.places (Flag f) ≡ place_on before.memory.places (Flag f)

-- so it is after an accepted scan
abbrev pub UnsetKeptBy : Call → (before after : ProcessorState) → Type 0
UnsetKeptBy (scan frame) s s' = length frame ≡ frame_bytes → UnsetPlacesKept frame s s'
UnsetKeptBy (switch name character) s s' = Unit {0}
UnsetKeptBy (reorder order) s s' = Unit {0}
UnsetKeptBy restart s s' = Unit {0}

-- ---- two runs

-- a cell, by its index, holds what the last accepted frame showed
abbrev pub Own : Option (List ℕ) → List Bool → ℕ → Type 0
Own None cells i = ⊥
Own (Some frame) cells i = slice_index_or cells i false ≡ slice_index_or (cells_shown frame) i false

-- the last accepted frames of both runs show a cell alike, or there are none
abbrev pub ShownAlike : Option (List ℕ) → Option (List ℕ) → ℕ → Type 0
ShownAlike None None i = Unit {0}
ShownAlike None (Some g) i = ⊥
ShownAlike (Some f) None i = ⊥
ShownAlike (Some f) (Some g) i = slice_index_or (cells_shown f) i false ≡ slice_index_or (cells_shown g) i false

-- a cell holds its own run's last accepted frame's value in both runs, or one value in both
abbrev pub OwnOrOne : Option (List ℕ) → Option (List ℕ) → (cells cells_too : List Bool) → ℕ → Type 0
OwnOrOne f g cells cells_too i = (Own f cells i × Own g cells_too i) ⊎ (slice_index_or cells i false ≡ slice_index_or cells_too i false)

-- After a call of each of two runs, where f and g are the frames that they accepted last.
pub record Agree (f g : Option (List ℕ)) (m n : Moment) : Type 0 where
  -- both answer the same, and every flag and every wait record is the same
  pub answers : m.answer ≡ n.answer
  pub flags : flags_of m.after ≡ flags_of n.after
  pub waits : waits_of m.after ≡ waits_of n.after
  -- every cell that the frames show alike is the same, and every cell before any frame
  pub cells : (i : ℕ) → ShownAlike f g i → slice_index_or (cells_of m.after) i false ≡ slice_index_or (cells_of n.after) i false
  -- what no enabled statement sets is kept, in each run
  pub kept : UnsetKeptBy m.call m.before m.after
  pub kept_too : UnsetKeptBy n.call n.before n.after
  -- each cell holds its own run's last accepted frame's value in both runs, or one value in both
  pub own_or_one : (i : ℕ) → OwnOrOne f g (cells_of m.after) (cells_of n.after) i

-- they agree after each call
abbrev pub AgreeAlong : Option (List ℕ) → Option (List ℕ) → List Moment → List Moment → Type 0
AgreeAlong f g [] [] = Unit {0}
AgreeAlong f g [] (n ∷ ns) = ⊥
AgreeAlong f g (m ∷ ms) [] = ⊥
AgreeAlong f g (m ∷ ms) (n ∷ ns) =
    Agree (last_frame f m.call) (last_frame g n.call) m n
    × AgreeAlong (last_frame f m.call) (last_frame g n.call) ms ns

-- Two processors, fresh from loading two documents whose tables are rearrangements of each other, and given calls that are
-- alike, agree after each call.
abbrev pub RearrangedTablesRunAlike : Type 0
RearrangedTablesRunAlike =
    (d e : List ℕ) (t u : TableRows) → reading d ≡ Ok t → reading e ≡ Ok u → Rearrangement t u
    → (ms ns : List Moment) → Run (fresh t) ms → Run (fresh u) ns → CallsAlike t (calls ms) (calls ns)
    → AgreeAlong None None ms ns
