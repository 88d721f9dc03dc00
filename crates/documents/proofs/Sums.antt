-- Sums of DELAYs.
use Rattle.std.proofs.Common.{◌≡◌, ◌+◌, List, [], ◌∷◌, refl, ap, ◌∙◌, sym}
use Rattle.std.specs.List.{sum_by}
use Rattle.std.proofs.lemmas.List.Sums.{sum_by-cons}
use Rattle.tables.specs.declared.action.Action.{Action}
use Rattle.tables.specs.Rules.{delay, delays}

-- in std's words
pub delays_as_sum : (xs : List Action) → delays xs ≡ sum_by delay xs
delays_as_sum [] = refl
delays_as_sum (x ∷ xs) = ap (λ n. delay x + n) (delays_as_sum xs) ∙ sym (sum_by-cons delay x xs)
