-- ON and OFF, as a test and back.
use Rattle.std.specs.Prelude.{Bool, true, false}
use Rattle.tables.specs.declared.place.State.{State}
use Rattle.tables.specs.declared.place.State.TheVariants.{Off, On}

-- whether a state is ON
abbrev pub is_on : State → Bool
is_on Off = false
is_on On = true

-- the state that is ON or not
abbrev pub state_when : Bool → State
state_when false = Off
state_when true = On

-- the other state
abbrev pub opposite_of : State → State
opposite_of Off = On
opposite_of On = Off
