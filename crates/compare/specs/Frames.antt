-- The frame that a run accepted last, as the code holds it.
use Rattle.std.specs.Prelude.{ℕ, List, Option, option_copied}
use Rattle.compare.specs.declared.last_frame.LastFrame.{LastFrame}

-- its bytes, if it accepted one
abbrev pub frame_of : LastFrame → Option (List ℕ)
frame_of l = option_copied l.frame
