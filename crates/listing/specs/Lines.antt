-- The lines of a statement.
use Rattle.std.specs.Prelude.{ℕ, ◌/◌, ◌%◌, List, ◌++◌, codes, decimal}
use Rattle.tables.specs.declared.place.Place.{Place}
use Rattle.tables.specs.declared.place.Place.TheVariants.{InputCell, OutputCell, Flag}
use Rattle.tables.specs.declared.test.Test.{Test}
use Rattle.tables.specs.declared.test.Test.TheVariants.{PlaceIs, MemberIs, StatementIs, NumberIs}
use Rattle.tables.specs.declared.test.JoinedTest.{JoinedTest}
use Rattle.tables.specs.declared.action.Action.{Action}
use Rattle.tables.specs.declared.action.Action.TheVariants.{SetPlace, SetMember, Delay}
use Rattle.tables.specs.Codes.{place_code, entry_value}
use Rattle.listing.specs.Words.{state_text, join_text, comparison_text}
use Rattle.listing.specs.Families.{family_tested, family_set}
use Rattle.listing.specs.Numbers.{number_text}

-- what a place is, without its code
abbrev pub place_label : Place → List ℕ
place_label (InputCell code) = codes "CIB"
place_label (OutputCell code) = codes "COB"
place_label (Flag number) = codes "LOGIC FLAG"

-- a cell by its code, or a flag by its number
abbrev pub place_text : Place → List ℕ
place_text place = place_label place ++ (codes " " ++ decimal (place_code place))

-- a test: what is tested, and the state or the comparison and the entry
abbrev pub test_text : Test → List ℕ
test_text (PlaceIs place state) = place_text place ++ (codes " IS " ++ state_text state)
test_text (MemberIs member state) = family_tested member.family ++ (codes " " ++ (decimal member.number ++ (codes " IS " ++ state_text state)))
test_text (StatementIs name state) = codes "LOGIC STATEMENT " ++ (decimal name.0 ++ (codes " IS " ++ state_text state))
test_text (NumberIs number comparison entry) = number_text number ++ (codes " " ++ (comparison_text comparison ++ (codes " " ++ decimal (entry_value entry))))

-- a test with the word before it
abbrev pub test_line : JoinedTest → List ℕ
test_line t = join_text t.join ++ (codes " " ++ test_text t.test)

-- an action: what is set and to which state, or a DELAY in seconds with one decimal
abbrev pub action_text : Action → List ℕ
action_text (SetPlace place state) = codes "SET " ++ (place_text place ++ (codes " " ++ state_text state))
action_text (SetMember member state) = codes "SET " ++ (family_set member.family ++ (codes " " ++ (decimal member.number ++ (codes " " ++ state_text state))))
action_text (Delay tenths) = codes "DELAY FOR " ++ (decimal (tenths.0 / 10) ++ (codes "." ++ decimal (tenths.0 % 10)))
