-- Small tables and frames, for examples that are settled by evaluation.
use Rattle.std.specs.Prelude.{ℕ, ◌+◌, Bool, cond, List, [], ◌∷◌, ◌++◌, replicate}
use Rattle.tables.specs.declared.place.State.{State}
use Rattle.tables.specs.declared.place.State.TheVariants.{Off, On}
use Rattle.tables.specs.declared.place.Place.TheVariants.{InputCell, OutputCell, Flag}
use Rattle.tables.specs.declared.number.Ring.TheVariants.{One}
use Rattle.tables.specs.declared.number.Timer.TheVariants.{MinGreen}
use Rattle.tables.specs.declared.number.Number.TheVariants.{RingTimer}
use Rattle.tables.specs.declared.number.Entry.TheVariants.{Timed}
use Rattle.tables.specs.declared.statement.Mark.TheVariants.{Enabled, Disabled}
use Rattle.tables.specs.declared.test.Join.TheVariants.{First, And, Or}
use Rattle.tables.specs.declared.test.Comparison.{Comparison}
use Rattle.tables.specs.declared.test.Comparison.TheVariants.{Is}
use Rattle.tables.specs.declared.test.Test.{Test}
use Rattle.tables.specs.declared.test.Test.TheVariants.{PlaceIs, NumberIs}
use Rattle.tables.specs.declared.test.JoinedTest.{JoinedTest}
use Rattle.tables.specs.declared.action.Action.{Action}
use Rattle.tables.specs.declared.action.Action.TheVariants.{SetPlace, Delay}
use Rattle.tables.specs.Rows.{StatementRow, TableRows}
use Rattle.rules.specs.Memory.{place_on, wait_of, Wait}
use Rattle.rules.specs.Calls.{ProcessorState, fresh, after_scan}

-- ---- frames

-- a frame with one byte that is not zero
abbrev pub frame_with : (byte value : ℕ) → (rest : ℕ) → List ℕ
frame_with byte value rest = replicate byte 0 ++ value ∷ replicate rest 0

-- all zero
abbrev pub quiet_frame : List ℕ
quiet_frame = replicate 520 0

-- only output cell 1 is ON: the green of phase 2
abbrev pub phase_two_green : List ℕ
phase_two_green = frame_with 72 2 447

-- only output cell 15 is ON: the green of phase 16
abbrev pub phase_sixteen_green : List ℕ
phase_sixteen_green = frame_with 73 128 446

-- number 0, the minimum green timer of ring 1, is at a value below 256, and all else is zero
abbrev pub timer_at : ℕ → List ℕ
timer_at value = frame_with 169 value 350

-- ---- statements

-- IF one test holds
abbrev pub only_test : Test → List JoinedTest
only_test test = record { join = First; test = test } ∷ []

-- the minimum green timer of ring 1 compared with seconds
abbrev pub timer : Comparison → ℕ → Test
timer comparison seconds = NumberIs (RingTimer One MinGreen) comparison (Timed (record { 0 = seconds }))

-- IF a test holds THEN some actions, marked E
abbrev pub when : (name : ℕ) → Test → List Action → StatementRow
when name test thens = record { name = name; mark = Enabled; tests = only_test test; thens = thens; elses = [] }

-- IF the timer IS 5 THEN flag 1 ON
abbrev pub flag_setter : StatementRow
flag_setter = when 1 (timer Is 5) (SetPlace (Flag 1) On ∷ [])

-- IF flag 1 is ON THEN DELAY 3, output cell 160 ON
abbrev pub delayed_output : StatementRow
delayed_output = when 2 (PlaceIs (Flag 1) On) (Delay (record { 0 = 3 }) ∷ SetPlace (OutputCell 160) On ∷ [])

-- statements with no plans
abbrev pub unplanned : List StatementRow → TableRows
unplanned statements = record { statements = statements; plans = [] }

-- a timer sets a flag, which starts a delay before an output
abbrev pub timer_starts_a_delay : TableRows
timer_starts_a_delay = unplanned (flag_setter ∷ delayed_output ∷ [])

-- the same two the other way round: the flag is set below its test
abbrev pub flag_set_below_its_test : TableRows
flag_set_below_its_test = unplanned (delayed_output ∷ flag_setter ∷ [])

-- IF input cell 0 is OFF THEN input cell 5 ON, below it IF input cell 5 is ON THEN output cell 170 ON
abbrev pub second_tests_what_the_first_sets : TableRows
second_tests_what_the_first_sets = unplanned (
    when 1 (PlaceIs (InputCell 0) Off) (SetPlace (InputCell 5) On ∷ [])
    ∷ when 2 (PlaceIs (InputCell 5) On) (SetPlace (OutputCell 170) On ∷ [])
    ∷ [])

-- IF an input cell is ON ELSE flag 3 in a state
abbrev pub otherwise : (name code : ℕ) → State → StatementRow
otherwise name code state =
    record { name = name; mark = Enabled; tests = only_test (PlaceIs (InputCell code) On); thens = []; elses = SetPlace (Flag 3) state ∷ [] }

-- the first and the second set one flag by ELSE actions alone
abbrev pub touching_by_else : TableRows
touching_by_else = unplanned (otherwise 1 10 On ∷ otherwise 2 11 Off ∷ [])

-- a statement marked D
abbrev pub disabled : StatementRow → StatementRow
disabled s = record { name = s.name; mark = Disabled; tests = s.tests; thens = s.thens; elses = s.elses }

-- a flag is set and tested by statements that are both disabled
abbrev pub touching_while_disabled : TableRows
touching_while_disabled = unplanned (disabled flag_setter ∷ disabled delayed_output ∷ [])

-- A OR B AND C, of flags 1, 2 and 3
abbrev pub one_or_two_and_three : List JoinedTest
one_or_two_and_three =
    record { join = First; test = PlaceIs (Flag 1) On }
    ∷ record { join = Or; test = PlaceIs (Flag 2) On }
    ∷ record { join = And; test = PlaceIs (Flag 3) On }
    ∷ []

-- ---- scans

-- scans with these frames, one after another
abbrev pub after_scans : List (List ℕ) → ProcessorState → ProcessorState
after_scans [] s = s
after_scans (f ∷ more) s = after_scans more (after_scan f s)

-- the indices of the cells that are ON
abbrev pub indices_on : ℕ → List Bool → List ℕ
indices_on i [] = []
indices_on i (on ∷ more) = cond on (i ∷ []) [] ++ indices_on (i + 1) more

-- whether output cell 160 is ON after scans of a table, fresh from loading
abbrev pub output_after : TableRows → List (List ℕ) → Bool
output_after t frames = place_on (after_scans frames (fresh t)).memory.places (OutputCell 160)

-- the wait record of a name after scans of a table, fresh from loading
abbrev pub record_after : ℕ → TableRows → List (List ℕ) → Wait
record_after name t frames = wait_of name (after_scans frames (fresh t)).memory.waits
