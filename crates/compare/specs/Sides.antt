-- One of the two processors that are compared.
use Rattle.std.specs.Prelude.{Bool, List}
use Rattle.rules.specs.Calls.{ProcessorState}
use Rattle.processor.specs.States.{state}
use Rattle.compare.specs.declared.side.Side.{Side}

-- the state of its processor
abbrev pub state_of : {S : Type 0} → (cells : S → List Bool) → Side S → ProcessorState
state_of cells side = state cells side.processor.now
