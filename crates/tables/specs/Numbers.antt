-- The numbers of a frame, and the entries allowed to each.
use Rattle.std.specs.Prelude.{ℕ, ◌+◌, ◌-◌, ◌*◌, Bool, true, false, List, [], ◌∷◌, ◌++◌, map}
use Rattle.std.specs.List.{range_with_len, flat_map}
use Rattle.tables.specs.declared.number.Ring.{Ring}
use Rattle.tables.specs.declared.number.Ring.TheVariants.{One, Two, Three, Four}
use Rattle.tables.specs.declared.number.Timer.{Timer}
use Rattle.tables.specs.declared.number.Timer.TheVariants.{MinGreen, MaxGreen, Yellow, RedClear, Walk, PedClear}
use Rattle.tables.specs.declared.number.EntryRange.{EntryRange}
use Rattle.tables.specs.declared.number.Number.{Number}
use Rattle.tables.specs.declared.number.Number.TheVariants.{RingTimer, CoordinationPlan, CycleLength, Offset, LocalCycleTimer, MasterCycleTimer, SplitTimer, Month, DayOfMonth, DayOfWeek, Hour, Minute, Second, Tenth, Volume, Occupancy, SplitPattern, DetectorPlan, DayPlan, ActionPlan, Controller, Sequence, TimingPlan, RecallPlan}
use Rattle.tables.specs.Limits.{last_detector, counted_to}

-- the rings
abbrev pub rings : List Ring
rings = One ∷ Two ∷ Three ∷ Four ∷ []

-- a ring's number
abbrev pub ring_code : Ring → ℕ
ring_code One = 1
ring_code Two = 2
ring_code Three = 3
ring_code Four = 4

-- the timers of a ring
abbrev pub timers : List Timer
timers = MinGreen ∷ MaxGreen ∷ Yellow ∷ RedClear ∷ Walk ∷ PedClear ∷ []

-- a timer's place among those of its ring
abbrev pub timer_code : Timer → ℕ
timer_code MinGreen = 0
timer_code MaxGreen = 1
timer_code Yellow = 2
timer_code RedClear = 3
timer_code Walk = 4
timer_code PedClear = 5

-- the numbers in the order in which a frame holds them, 176 in all
abbrev pub numbers : List Number
numbers =
    flat_map (λ ring. map (RingTimer ring) timers) rings
    ++ (CoordinationPlan ∷ CycleLength ∷ Offset ∷ LocalCycleTimer ∷ MasterCycleTimer ∷ (map SplitTimer rings
    ++ (Month ∷ DayOfMonth ∷ DayOfWeek ∷ Hour ∷ Minute ∷ Second ∷ Tenth ∷ (map Volume (range_with_len 1 last_detector)
    ++ (map Occupancy (range_with_len 1 last_detector)
    ++ (SplitPattern ∷ DetectorPlan ∷ DayPlan ∷ ActionPlan ∷ Controller ∷ Sequence ∷ TimingPlan ∷ RecallPlan ∷ []))))))

-- a number's code: how many numbers stand before it in a frame
abbrev pub number_code : Number → ℕ
number_code (RingTimer ring timer) = 6 * (ring_code ring - 1) + timer_code timer
number_code CoordinationPlan = 24
number_code CycleLength = 25
number_code Offset = 26
number_code LocalCycleTimer = 27
number_code MasterCycleTimer = 28
number_code (SplitTimer ring) = 28 + ring_code ring
number_code Month = 33
number_code DayOfMonth = 34
number_code DayOfWeek = 35
number_code Hour = 36
number_code Minute = 37
number_code Second = 38
number_code Tenth = 39
number_code (Volume detector) = 39 + detector
number_code (Occupancy detector) = 103 + detector
number_code SplitPattern = 168
number_code DetectorPlan = 169
number_code DayPlan = 170
number_code ActionPlan = 171
number_code Controller = 172
number_code Sequence = 173
number_code TimingPlan = 174
number_code RecallPlan = 175

-- the entries from `least` to `greatest`
abbrev pub from_to : (least greatest : ℕ) → EntryRange
from_to least greatest = record { least = least; greatest = greatest }

-- the entries allowed to a number
abbrev pub entry_range : Number → EntryRange
entry_range (RingTimer ring timer) = from_to 0 255
entry_range CoordinationPlan = from_to 0 120
entry_range CycleLength = from_to 0 999
entry_range Offset = from_to 0 255
entry_range LocalCycleTimer = from_to 0 2047
entry_range MasterCycleTimer = from_to 0 999
entry_range (SplitTimer ring) = from_to 0 2047
entry_range Month = from_to 1 12
entry_range DayOfMonth = from_to 1 31
entry_range DayOfWeek = from_to 1 7
entry_range Hour = from_to 0 23
entry_range Minute = from_to 0 59
entry_range Second = from_to 0 59
entry_range Tenth = from_to 0 9
entry_range (Volume detector) = from_to 0 2047
entry_range (Occupancy detector) = from_to 0 999
entry_range SplitPattern = from_to 1 120
entry_range DetectorPlan = from_to 1 4
entry_range DayPlan = from_to 1 16
entry_range ActionPlan = from_to 1 100
entry_range Controller = from_to 1 4
entry_range Sequence = from_to 1 16
entry_range TimingPlan = from_to 1 4
entry_range RecallPlan = from_to 1 4

-- ring timers are entered in seconds, the other numbers as they are
abbrev pub in_seconds : Number → Bool
in_seconds (RingTimer ring timer) = true
in_seconds CoordinationPlan = false
in_seconds CycleLength = false
in_seconds Offset = false
in_seconds LocalCycleTimer = false
in_seconds MasterCycleTimer = false
in_seconds (SplitTimer ring) = false
in_seconds Month = false
in_seconds DayOfMonth = false
in_seconds DayOfWeek = false
in_seconds Hour = false
in_seconds Minute = false
in_seconds Second = false
in_seconds Tenth = false
in_seconds (Volume detector) = false
in_seconds (Occupancy detector) = false
in_seconds SplitPattern = false
in_seconds DetectorPlan = false
in_seconds DayPlan = false
in_seconds ActionPlan = false
in_seconds Controller = false
in_seconds Sequence = false
in_seconds TimingPlan = false
in_seconds RecallPlan = false

-- detectors are numbered from 1
abbrev pub numbered : Number → Bool
numbered (RingTimer ring timer) = true
numbered CoordinationPlan = true
numbered CycleLength = true
numbered Offset = true
numbered LocalCycleTimer = true
numbered MasterCycleTimer = true
numbered (SplitTimer ring) = true
numbered Month = true
numbered DayOfMonth = true
numbered DayOfWeek = true
numbered Hour = true
numbered Minute = true
numbered Second = true
numbered Tenth = true
numbered (Volume detector) = counted_to last_detector detector
numbered (Occupancy detector) = counted_to last_detector detector
numbered SplitPattern = true
numbered DetectorPlan = true
numbered DayPlan = true
numbered ActionPlan = true
numbered Controller = true
numbered Sequence = true
numbered TimingPlan = true
numbered RecallPlan = true
