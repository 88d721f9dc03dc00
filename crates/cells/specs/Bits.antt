-- The bits of a byte.
use Rattle.std.specs.Prelude.{ℕ, ◌/◌, ◌%◌, ◌^◌, Bool, ◌==◌}

-- whether bit `k` of a byte is 1; bit 0 is the lowest
unfoldable pub bit : ℕ → ℕ → Bool
bit byte k = byte / 2 ^ k % 2 == 1
