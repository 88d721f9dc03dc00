-- Waits along a branch.
use Rattle.std.proofs.Common.{◌≡◌, ℕ, ◌+◌, ◌≤◌, List, [], ◌∷◌, refl, ap, inl, inr, arith}
use Rattle.tables.specs.declared.place.State.TheVariants.{Off}
use Rattle.tables.specs.declared.place.Place.TheVariants.{InputCell}
use Rattle.tables.specs.declared.time.Tenths.{Tenths}
use Rattle.tables.specs.declared.action.Action.{Action}
use Rattle.tables.specs.declared.action.Action.TheVariants.{SetPlace, SetMember, Delay}
use Rattle.tables.specs.Families.{cells_named}
use Rattle.tables.specs.Lists.{Among}
use Rattle.tables.specs.Rules.{delay}
use Rattle.tables.specs.States.{is_on}
use Rattle.rules.specs.Acting.{Timed, timed}

-- what stands past the end of a slice of actions, to a proof
abbrev pub no_action : Action
no_action = SetPlace (InputCell 0) Off

-- waits only grow
pub waits_from : (wait : ℕ) (actions : List Action) (a : Timed) → Among a (timed wait actions) → wait ≤ a.wait
waits_from wait [] a m = absurd m
waits_from wait (SetPlace place state ∷ more) a (inl e) = let w = ap (λ (x : Timed). x.wait) e in omega arith
waits_from wait (SetPlace place state ∷ more) a (inr m) = waits_from wait more a m
waits_from wait (SetMember member state ∷ more) a (inl e) = let w = ap (λ (x : Timed). x.wait) e in omega arith
waits_from wait (SetMember member state ∷ more) a (inr m) = waits_from wait more a m
waits_from wait (Delay tenths ∷ more) a m = let low = waits_from (wait + tenths.0) more a m in omega arith

-- An action that sets places is the first of those that do, from itself on, and adds nothing to their waits.
pub record StandsFirst (action : Action) (wait : ℕ) (first : Timed) : Type 0 where
  pub its_wait : first.wait ≡ wait
  pub no_delay : delay action ≡ 0
  pub then_more : (more : List Action) → timed wait (action ∷ more) ≡ first ∷ timed wait more

-- so does each that is no DELAY
pub stands_first : (action : Action) (wait : ℕ) → ((tenths : Tenths) → action ≡ Delay tenths → ⊥) → (first : Timed) × StandsFirst action wait first
stands_first (SetPlace place state) wait n =
    (record { wait = wait; places = place ∷ []; on = is_on state }, record { its_wait = refl; no_delay = refl; then_more = λ more. refl })
stands_first (SetMember member state) wait n =
    (record { wait = wait; places = cells_named member.family member.number; on = is_on state }, record { its_wait = refl; no_delay = refl; then_more = λ more. refl })
stands_first (Delay tenths) wait n = absurd (n tenths refl)
