-- The limits of a table.
use Rattle.std.specs.Prelude.{ℕ, Bool, ◌&&◌, nat_le}

-- tests in a statement
abbrev pub max_tests : ℕ
max_tests = 12

-- actions in a branch
abbrev pub max_actions : ℕ
max_actions = 8

-- the last name of a statement, and the last number of a plan
abbrev pub last_name : ℕ
last_name = 100

-- the longest sum of a branch's DELAYs, in tenths
abbrev pub max_delay : ℕ
max_delay = 2047

-- the cells of the input buffer
abbrev pub input_cells : ℕ
input_cells = 576

-- the cells of the output buffer
abbrev pub output_cells : ℕ
output_cells = 768

-- the last flag
abbrev pub last_flag : ℕ
last_flag = 64

-- the last vehicle detector
abbrev pub last_detector : ℕ
last_detector = 64

-- from 1 to `last`
abbrev pub counted_to : ℕ → ℕ → Bool
counted_to last n = nat_le 1 n && nat_le n last
