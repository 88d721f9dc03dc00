-- A state by whether it is ON.
use Rattle.std.proofs.Common.{◌≡◌, Bool, true, false, refl}
use Rattle.cells.specs.Cells.{is_on, state_when}

pub is_on-state_when : (on : Bool) → is_on (state_when on) ≡ on
is_on-state_when true = refl
is_on-state_when false = refl
