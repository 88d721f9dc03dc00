-- What the numbers of a frame are called.
use Rattle.std.specs.Prelude.{ℕ, List, [], ◌++◌, Some, None, codes, decimal, Option}
use Rattle.tables.specs.declared.number.Timer.{Timer}
use Rattle.tables.specs.declared.number.Timer.TheVariants.{MinGreen, MaxGreen, Yellow, RedClear, Walk, PedClear}
use Rattle.tables.specs.declared.number.Number.{Number}
use Rattle.tables.specs.declared.number.Number.TheVariants.{RingTimer, CoordinationPlan, CycleLength, Offset, LocalCycleTimer, MasterCycleTimer, SplitTimer, Month, DayOfMonth, DayOfWeek, Hour, Minute, Second, Tenth, Volume, Occupancy, SplitPattern, DetectorPlan, DayPlan, ActionPlan, Controller, Sequence, TimingPlan, RecallPlan}
use Rattle.tables.specs.Numbers.{ring_code}

-- a timer, without its ring
abbrev pub timer_label : Timer → List ℕ
timer_label MinGreen = codes "MIN GRN TMR RING"
timer_label MaxGreen = codes "MAX GRN TMR RING"
timer_label Yellow = codes "YELLOW TMR RING"
timer_label RedClear = codes "RED TIMER RING"
timer_label Walk = codes "WALK TIMER RING"
timer_label PedClear = codes "PCLR TIMER RING"

-- a number, without its ring or its detector
abbrev pub number_label : Number → List ℕ
number_label (RingTimer ring timer) = timer_label timer
number_label CoordinationPlan = codes "COORD PLAN"
number_label CycleLength = codes "CYCLE LENGTH"
number_label Offset = codes "OFFSET"
number_label LocalCycleTimer = codes "LOCAL CYCLE TIMER"
number_label MasterCycleTimer = codes "MASTER CYCLE TIMER"
number_label (SplitTimer ring) = codes "SPLIT TIMER RING"
number_label Month = codes "TOD MONTH"
number_label DayOfMonth = codes "TOD DAY OF MONTH"
number_label DayOfWeek = codes "TOD DAY OF WEEK"
number_label Hour = codes "TOD HOUR"
number_label Minute = codes "TOD MINUTE"
number_label Second = codes "TOD SECOND"
number_label Tenth = codes "TOD TENTH SEC"
number_label (Volume detector) = codes "DETECTOR VOLUME"
number_label (Occupancy detector) = codes "DET OCCUPANCY"
number_label SplitPattern = codes "SPLIT PATTERN"
number_label DetectorPlan = codes "DETECTOR PLAN"
number_label DayPlan = codes "DAY PLAN"
number_label ActionPlan = codes "ACTION PLAN"
number_label Controller = codes "CONTROLLER"
number_label Sequence = codes "SEQUENCE"
number_label TimingPlan = codes "TIMING PLAN"
number_label RecallPlan = codes "RECALL PLAN"

-- the ring or the detector that a number is of
abbrev pub number_index : Number → Option ℕ
number_index (RingTimer ring timer) = Some (ring_code ring)
number_index CoordinationPlan = None
number_index CycleLength = None
number_index Offset = None
number_index LocalCycleTimer = None
number_index MasterCycleTimer = None
number_index (SplitTimer ring) = Some (ring_code ring)
number_index Month = None
number_index DayOfMonth = None
number_index DayOfWeek = None
number_index Hour = None
number_index Minute = None
number_index Second = None
number_index Tenth = None
number_index (Volume detector) = Some detector
number_index (Occupancy detector) = Some detector
number_index SplitPattern = None
number_index DetectorPlan = None
number_index DayPlan = None
number_index ActionPlan = None
number_index Controller = None
number_index Sequence = None
number_index TimingPlan = None
number_index RecallPlan = None

-- an index behind a label, if there is one
abbrev pub indexed : Option ℕ → List ℕ
indexed None = []
indexed (Some index) = codes " " ++ decimal index

-- a number: its label, and behind it the ring or the detector
abbrev pub number_text : Number → List ℕ
number_text number = number_label number ++ indexed (number_index number)
