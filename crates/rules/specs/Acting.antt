-- What the actions of a branch write, and when.
use Rattle.std.specs.Prelude.{◌≡◌, ℕ, ◌+◌, ◌*◌, ◌<◌, ◌≤◌, Bool, cond, List, [], ◌∷◌, ◌++◌, map, Some, None, Option, nat_le}
use Rattle.tables.specs.declared.place.Place.{Place}
use Rattle.tables.specs.declared.action.Action.{Action}
use Rattle.tables.specs.declared.action.Action.TheVariants.{SetPlace, SetMember, Delay}
use Rattle.tables.specs.Families.{cells_named}
use Rattle.tables.specs.Lists.{Among}
use Rattle.tables.specs.Rules.{delays}
use Rattle.cells.specs.Cells.{is_on}
use Rattle.rules.specs.Memory.{Places, place_set}

-- An action that sets places, with its wait: the sum of the DELAYs above it in its branch.
pub record Timed : Type 0 where
  pub wait : ℕ
  pub places : List Place
  pub on : Bool

-- the actions of a branch that set places, below DELAYs that sum to `wait`
abbrev pub timed : (wait : ℕ) → List Action → List Timed
timed wait [] = []
timed wait (SetPlace place state ∷ more) = record { wait = wait; places = place ∷ []; on = is_on state } ∷ timed wait more
timed wait (SetMember member state ∷ more) =
    record { wait = wait; places = cells_named member.family member.number; on = is_on state } ∷ timed wait more
timed wait (Delay tenths ∷ more) = timed (wait + tenths.0) more

-- One place set ON or OFF.
pub record Write : Type 0 where
  pub place : Place
  pub on : Bool

-- some places set alike
abbrev pub writes : List Place → Bool → List Write
writes ps on = map (λ p. record { place = p; on = on }) ps

-- what is written at a count: the actions whose wait is at most the count, from the top
abbrev pub due : (count : ℕ) → List Timed → List Write
due count [] = []
due count (a ∷ more) = cond (nat_le a.wait count) (writes a.places a.on) [] ++ due count more

-- what a branch's actions write at a count
unfoldable pub written_at : (count : ℕ) → List Action → List Write
written_at count actions = due count (timed 0 actions)

-- writes made one after another
abbrev pub after_writes : List Write → Places → Places
after_writes [] ps = ps
after_writes (w ∷ more) ps = after_writes more (place_set w.place w.on ps)

-- ---- time left

-- A wait that is above a count, and the least such among the actions of a branch.
pub record NextWait (actions : List Action) (count wait : ℕ) : Type 0 where
  pub above : count < wait
  pub some_has_it : (a : Timed) × Among a (timed 0 actions) × (a.wait ≡ wait)
  pub least : (a : Timed) → Among a (timed 0 actions) → count < a.wait → wait ≤ a.wait

-- Time left on a branch at a count: seconds and tenths to the next wait, or none where no wait is above the count.
abbrev pub TimeLeft : List Action → (count : ℕ) → Option (ℕ × ℕ) → Type 0
TimeLeft actions count None = (a : Timed) → Among a (timed 0 actions) → a.wait ≤ count
TimeLeft actions count (Some left) = NextWait actions count (count + (10 * left.0 + left.1)) × (left.1 < 10)

-- There is one answer.
abbrev pub TimeLeftIsOne : Type 0
TimeLeftIsOne = (actions : List Action) (count : ℕ) (r s : Option (ℕ × ℕ)) → TimeLeft actions count r → TimeLeft actions count s → r ≡ s

-- In plain words: what stands below some actions of a branch waits longer by the sum of their DELAYs.
abbrev pub WaitsAreSumsOfDelays : Type 0
WaitsAreSumsOfDelays =
    (wait : ℕ) (above below : List Action) → timed wait (above ++ below) ≡ timed wait above ++ timed (wait + delays above) below
