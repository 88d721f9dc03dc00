-- What is written into an output.
use Rattle.std.specs.Prelude.{◌≡◌, ℕ, ◌+◌, ◌≤◌, List, ◌++◌, length, take, drop}
use Rattle.writing.specs.declared.output.Output.{Output}

-- the bytes written so far
abbrev pub written : Output → List ℕ
written o = take o.len o.buffer.now

-- the rest of the buffer
abbrev pub rest : Output → List ℕ
rest o = drop o.len o.buffer.now

-- there is room for `bytes`
abbrev pub HasRoom : (output : Output) (bytes : List ℕ) → Type 0
HasRoom o bytes = length bytes ≤ length (rest o)

-- `bytes` were written behind those of `old`, and nothing else changed
pub record Wrote (old : Output) (bytes : List ℕ) (new : Output) : Type 0 where
  pub front : written new ≡ written old ++ bytes
  pub back : rest new ≡ drop (length bytes) (rest old)
  pub room : length (rest new) + length bytes ≡ length (rest old)
  pub len : new.len ≡ old.len + length bytes
  pub same_buffer : new.buffer.ghost_name ≡ old.buffer.ghost_name
