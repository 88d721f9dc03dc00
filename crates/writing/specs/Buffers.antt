-- What writing does to a buffer.
use Rattle.std.specs.Prelude.{◌≡◌, ℕ, ◌<◌, List, ◌++◌, length, drop, Result, MatchResult}
use Rattle.tables.specs.declared.refusal.Refusal.{Refusal}
use Rattle.tables.specs.Refusals.{Told, told, of_bytes}

-- the refusal of a buffer that is too short: 12, with the number of bytes needed
abbrev pub short_by : ℕ → Told
short_by needed = record { number = 12; values = of_bytes needed }

-- `bytes` were written from the buffer's start on, the rest of it is as it was, and the answer is their number; or the buffer is
-- too short, is as it was, and the answer is refusal 12 with the number of bytes needed
abbrev pub WrittenInto : (bytes old new : List ℕ) → Result ℕ Refusal → Type 0
WrittenInto bytes old new r = MatchResult r
    (λ n. (n ≡ length bytes) × (new ≡ bytes ++ drop n old))
    (λ e. (told e ≡ short_by (length bytes)) × (length old < length bytes) × (new ≡ old))
