-- A list in words.
use Rattle.std.specs.Prelude.{ℕ, List, ◌++◌}
use Rattle.std.specs.List.{flat_map}

-- each of a list in words, behind the same lead
abbrev pub each_text : {X : Type 0} → (X → List ℕ) → List ℕ → List X → List ℕ
each_text worded lead xs = flat_map (λ x. lead ++ worded x) xs
