-- A list given by what stands at each place.
use Rattle.std.specs.Prelude.{◌≡◌, ℕ, Bool, List, map, length}
use Rattle.std.specs.List.{range_with_len}
use Rattle.std.proofs.lemmas.List.FromFn.{length-map-range_with_len}

-- the list of `n` with `f i` at each place `i`
unfoldable pub tabulated : ℕ → (ℕ → Bool) → List Bool
tabulated n f = map f (range_with_len 0 n)

-- it has `n` of them
pub length_tabulated : (n : ℕ) (f : ℕ → Bool) → length (tabulated n f) ≡ n
unfolding tabulated
length_tabulated n f = length-map-range_with_len f 0 n
