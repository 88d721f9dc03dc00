-- What a code stands for among all of a kind.
use Rattle.std.specs.Prelude.{◌≡◌, ℕ, List, Some, None, Option, Result, MatchResult, nat_eq}
use Rattle.tables.specs.declared.codes.unknown.UnknownCode.{UnknownCode}
use Rattle.tables.specs.Lists.{found}

-- the one among `all` that has this code, if one has
abbrev pub decoded : {X : Type 0} → (X → ℕ) → List X → ℕ → Option X
decoded coded all code = found (λ x. nat_eq (coded x) code) all

-- a conversion from a code answers what the code stands for, and fails where it stands for nothing
abbrev pub Decodes : {X : Type 0} → Option X → Result X UnknownCode → Type 0
Decodes stands r = MatchResult r (λ x. stands ≡ Some x) (λ _. stands ≡ None)
