-- The families, and which cells a family and a member name.
use Rattle.std.specs.Prelude.{ℕ, zero, suc, ◌+◌, ◌-◌, ◌*◌, Bool, true, false, ◌&&◌, ◌||◌, List, [], ◌∷◌, map, nat_le}
use Rattle.std.specs.List.{range_with_len}
use Rattle.tables.specs.declared.place.Buffer.{Buffer}
use Rattle.tables.specs.declared.place.Buffer.TheVariants.{Input, Output}
use Rattle.tables.specs.declared.place.Place.{Place}
use Rattle.tables.specs.declared.place.Place.TheVariants.{InputCell, OutputCell}
use Rattle.tables.specs.declared.family.Layout.{Layout}
use Rattle.tables.specs.declared.family.Family.{Family}
use Rattle.tables.specs.declared.family.Family.TheVariants.{PhaseGreen, PhaseYellow, PhaseRed, PhaseWalk, PhasePedClear, PhaseDontWalk, OverlapGreen, OverlapYellow, OverlapRed, LoadSwitchGreen, LoadSwitchYellow, LoadSwitchRed, PhaseTiming, VehicleCheck, PedCheck, VehicleDetector, PedDetector, Hold, Omit, PedOmit, InhibitMax, MaxTwo, MaxThree, OmitRedClear, RedRest, PedRecycle, ForceOff, StopTime, Alarm, PreemptCall}

-- sixteen output cells in a row
abbrev pub in_outputs : ℕ → Layout
in_outputs first = record { buffer = Output; first = first; members = 16; step = 1; whole = true }

-- input cells in a row
abbrev pub in_inputs : (first members : ℕ) → Layout
in_inputs first members = record { buffer = Input; first = first; members = members; step = 1; whole = true }

-- an input cell for each of four rings, eight apart
abbrev pub in_ring_inputs : ℕ → Layout
in_ring_inputs first = record { buffer = Input; first = first; members = 4; step = 8; whole = true }

-- where a family's cells lie; vehicle detectors have no member 0
abbrev pub layout_of : Family → Layout
layout_of PhaseGreen = in_outputs 0
layout_of PhaseYellow = in_outputs 16
layout_of PhaseRed = in_outputs 32
layout_of PhaseWalk = in_outputs 48
layout_of PhasePedClear = in_outputs 64
layout_of PhaseDontWalk = in_outputs 80
layout_of OverlapGreen = in_outputs 96
layout_of OverlapYellow = in_outputs 112
layout_of OverlapRed = in_outputs 128
layout_of LoadSwitchGreen = in_outputs 160
layout_of LoadSwitchYellow = in_outputs 176
layout_of LoadSwitchRed = in_outputs 192
layout_of PhaseTiming = in_outputs 320
layout_of VehicleCheck = in_outputs 352
layout_of PedCheck = in_outputs 368
layout_of VehicleDetector = record { buffer = Input; first = 0; members = 64; step = 1; whole = false }
layout_of PedDetector = in_inputs 64 16
layout_of Hold = in_inputs 80 16
layout_of Omit = in_inputs 96 16
layout_of PedOmit = in_inputs 112 16
layout_of InhibitMax = in_ring_inputs 128
layout_of MaxTwo = in_ring_inputs 129
layout_of MaxThree = in_ring_inputs 130
layout_of OmitRedClear = in_ring_inputs 131
layout_of RedRest = in_ring_inputs 132
layout_of PedRecycle = in_ring_inputs 133
layout_of ForceOff = in_ring_inputs 134
layout_of StopTime = in_ring_inputs 135
layout_of Alarm = in_inputs 208 16
layout_of PreemptCall = in_inputs 288 10

-- the members that a line may name: each, counted from 1, and 0 for all of them where the family has it
abbrev pub may_name : Family → ℕ → Bool
may_name family number = nat_le number (layout_of family).members && (nat_le 1 number || (layout_of family).whole)

-- a cell of a buffer
abbrev pub cell_in : Buffer → ℕ → Place
cell_in Input code = InputCell code
cell_in Output code = OutputCell code

-- the cell of one member, counted from 1
abbrev pub member_cell : Layout → ℕ → Place
member_cell l number = cell_in l.buffer (l.first + l.step * (number - 1))

-- the cells that a family and a member name: one, or each of the family's for member 0
abbrev pub cells_named : Family → ℕ → List Place
cells_named family zero = map (member_cell (layout_of family)) (range_with_len 1 (layout_of family).members)
cells_named family (suc n) = member_cell (layout_of family) (suc n) ∷ []

-- the thirty families, in the order of their codes
abbrev pub families : List Family
families = PhaseGreen ∷ PhaseYellow ∷ PhaseRed ∷ PhaseWalk ∷ PhasePedClear ∷ PhaseDontWalk ∷ OverlapGreen ∷ OverlapYellow ∷ OverlapRed ∷ LoadSwitchGreen ∷ LoadSwitchYellow ∷ LoadSwitchRed ∷ PhaseTiming ∷ VehicleCheck ∷ PedCheck ∷ VehicleDetector ∷ PedDetector ∷ Hold ∷ Omit ∷ PedOmit ∷ InhibitMax ∷ MaxTwo ∷ MaxThree ∷ OmitRedClear ∷ RedRest ∷ PedRecycle ∷ ForceOff ∷ StopTime ∷ Alarm ∷ PreemptCall ∷ []

-- a family's code
abbrev pub family_code : Family → ℕ
family_code PhaseGreen = 1
family_code PhaseYellow = 2
family_code PhaseRed = 3
family_code PhaseWalk = 4
family_code PhasePedClear = 5
family_code PhaseDontWalk = 6
family_code OverlapGreen = 7
family_code OverlapYellow = 8
family_code OverlapRed = 9
family_code LoadSwitchGreen = 10
family_code LoadSwitchYellow = 11
family_code LoadSwitchRed = 12
family_code PhaseTiming = 13
family_code VehicleCheck = 14
family_code PedCheck = 15
family_code VehicleDetector = 16
family_code PedDetector = 17
family_code Hold = 18
family_code Omit = 19
family_code PedOmit = 20
family_code InhibitMax = 21
family_code MaxTwo = 22
family_code MaxThree = 23
family_code OmitRedClear = 24
family_code RedRest = 25
family_code PedRecycle = 26
family_code ForceOff = 27
family_code StopTime = 28
family_code Alarm = 29
family_code PreemptCall = 30
