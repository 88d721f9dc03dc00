-- Which places a statement tests and sets, and when two statements touch.
use Rattle.std.specs.Prelude.{ℕ, ◌⊎◌, ◌↔◌, List, [], ◌∷◌, ◌++◌}
use Rattle.tables.specs.declared.place.Place.{Place}
use Rattle.tables.specs.declared.number.Number.{Number}
use Rattle.tables.specs.declared.test.Test.{Test}
use Rattle.tables.specs.declared.test.Test.TheVariants.{PlaceIs, MemberIs, StatementIs, NumberIs}
use Rattle.tables.specs.declared.test.JoinedTest.{JoinedTest}
use Rattle.tables.specs.declared.action.Action.{Action}
use Rattle.tables.specs.declared.action.Action.TheVariants.{SetPlace, SetMember, Delay}
use Rattle.tables.specs.Families.{cells_named}
use Rattle.tables.specs.Lists.{Among}
use Rattle.tables.specs.Rows.{StatementRow}

-- ---- what a line names

-- the places that a test names; member 0 names every member
abbrev pub test_places : Test → List Place
test_places (PlaceIs place state) = place ∷ []
test_places (MemberIs member state) = cells_named member.family member.number
test_places (StatementIs name state) = []
test_places (NumberIs number comparison entry) = []

-- the number that it names
abbrev pub test_numbers : Test → List Number
test_numbers (PlaceIs place state) = []
test_numbers (MemberIs member state) = []
test_numbers (StatementIs name state) = []
test_numbers (NumberIs number comparison entry) = number ∷ []

-- the statement that it names
abbrev pub test_names : Test → List ℕ
test_names (PlaceIs place state) = []
test_names (MemberIs member state) = []
test_names (StatementIs name state) = name.0 ∷ []
test_names (NumberIs number comparison entry) = []

-- the places that an action names
abbrev pub action_places : Action → List Place
action_places (SetPlace place state) = place ∷ []
action_places (SetMember member state) = cells_named member.family member.number
action_places (Delay tenths) = []

-- the places that a joined test names
abbrev pub joined_test_places : JoinedTest → List Place
joined_test_places t = test_places t.test

-- what all of some lines name
abbrev pub named_by : {X Y : Type 0} → (X → List Y) → List X → List Y
named_by names [] = []
named_by names (x ∷ more) = names x ++ named_by names more

-- ---- what a statement names

-- it tests a place, whatever its mark
abbrev pub Tests : StatementRow → Place → Type 0
Tests s p = Among p (named_by joined_test_places s.tests)

-- it tests a number
abbrev pub TestsNumber : StatementRow → Number → Type 0
TestsNumber s n = Among n (named_by (λ (t : JoinedTest). test_numbers t.test) s.tests)

-- it sets a place by a line of either branch, whatever its mark or waits
abbrev pub Sets : StatementRow → Place → Type 0
Sets s p = Among p (named_by action_places s.thens) ⊎ Among p (named_by action_places s.elses)

-- Two statements touch: one sets a place that the other sets or tests.
abbrev pub Touch : StatementRow → StatementRow → Type 0
Touch a b = (p : Place) × ((Sets a p × (Sets b p ⊎ Tests b p)) ⊎ (Sets b p × Tests a p))

-- A statement touches itself exactly when it sets something, and touching goes both ways.
pub record TouchingInPlainWords : Type 0 where
  pub itself : (s : StatementRow) → Touch s s ↔ ((p : Place) × Sets s p)
  pub both_ways : (a b : StatementRow) → Touch a b → Touch b a
