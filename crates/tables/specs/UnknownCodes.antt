-- What is said of codes that stand for nothing.
use Rattle.std.specs.Prelude.{ℕ, List, codes}

-- a code, or one of several, is out of range
abbrev pub unknown_text : List ℕ
unknown_text = codes "a code is out of range"
