-- The codes of tests and actions, and which test or action codes stand for.
use Rattle.std.specs.Prelude.{ℕ, ◌&&◌, Some, None, Option, ◌==◌, nat_le}
use Rattle.tables.specs.declared.place.State.{State}
use Rattle.tables.specs.declared.codes.cases.Kind.{Kind}
use Rattle.tables.specs.declared.codes.cases.Kind.TheVariants.{Cib, Cob, LogicFlag, FamilyMember, LogicStatement, FrameNumber, DelayFor}
use Rattle.tables.specs.declared.codes.lines.TestCodes.{TestCodes}
use Rattle.tables.specs.declared.codes.lines.ActionCodes.{ActionCodes}
use Rattle.tables.specs.declared.test.Test.{Test}
use Rattle.tables.specs.declared.test.Test.TheVariants.{PlaceIs, MemberIs, StatementIs, NumberIs}
use Rattle.tables.specs.declared.action.Action.{Action}
use Rattle.tables.specs.declared.action.Action.TheVariants.{SetPlace, SetMember, Delay}
use Rattle.tables.specs.Numbers.{number_code}
use Rattle.tables.specs.Limits.{max_delay}
use Rattle.tables.specs.Lists.{only, both, then}
use Rattle.tables.specs.Codes.{state_code, state_of, comparison_code, comparison_of, kind_code, kind_of, number_of, entry_in, entry_value, name_of, place_of, place_kind, place_code, member_of, member_code}

-- ---- tests

-- the codes of a test that something is ON or OFF: it has no entry
abbrev pub asked : Kind → ℕ → State → TestCodes
asked kind which state = record { kind = kind_code kind; which = which; relation = state_code state; entry = 0 }

-- the codes of a test
abbrev pub test_codes : Test → TestCodes
test_codes (PlaceIs place state) = asked (place_kind place) (place_code place) state
test_codes (MemberIs member state) = asked FamilyMember (member_code member) state
test_codes (StatementIs name state) = asked LogicStatement name.0 state
test_codes (NumberIs number comparison entry) = record { kind = kind_code FrameNumber; which = number_code number; relation = comparison_code comparison; entry = entry_value entry }

-- a test that what `which` names is in a state
abbrev pub asked_of : Kind → ℕ → State → Option Test
asked_of Cib which state = then (place_of Cib which) (λ place. Some (PlaceIs place state))
asked_of Cob which state = then (place_of Cob which) (λ place. Some (PlaceIs place state))
asked_of LogicFlag which state = then (place_of LogicFlag which) (λ place. Some (PlaceIs place state))
asked_of FamilyMember which state = then (member_of which) (λ member. Some (MemberIs member state))
asked_of LogicStatement which state = then (name_of which) (λ name. Some (StatementIs name state))
asked_of FrameNumber which state = None
asked_of DelayFor which state = None

-- a comparison of a number with an entry that it allows
abbrev pub number_test : TestCodes → Option Test
number_test c = then (number_of c.which) (λ number. both (NumberIs number) (comparison_of c.relation) (entry_in number c.entry))

-- a test that something is in a state has no entry
abbrev pub state_test : TestCodes → Kind → Option Test
state_test c kind = only (c.entry == 0) (then (state_of c.relation) (asked_of kind c.which))

-- the test of a kind
abbrev pub test_of_kind : TestCodes → Kind → Option Test
test_of_kind c Cib = state_test c Cib
test_of_kind c Cob = state_test c Cob
test_of_kind c LogicFlag = state_test c LogicFlag
test_of_kind c FamilyMember = state_test c FamilyMember
test_of_kind c LogicStatement = state_test c LogicStatement
test_of_kind c FrameNumber = number_test c
test_of_kind c DelayFor = None

-- the test of codes that are each in range
unfoldable pub test_of : TestCodes → Option Test
test_of c = then (kind_of c.kind) (test_of_kind c)

-- ---- actions

-- the codes of an action: a DELAY's state is 0
abbrev pub action_codes : Action → ActionCodes
action_codes (SetPlace place state) = record { kind = kind_code (place_kind place); which = place_code place; state = state_code state }
action_codes (SetMember member state) = record { kind = kind_code FamilyMember; which = member_code member; state = state_code state }
action_codes (Delay tenths) = record { kind = kind_code DelayFor; which = tenths.0; state = 0 }

-- an action that sets what `which` names
abbrev pub set_of : Kind → ℕ → State → Option Action
set_of Cib which state = then (place_of Cib which) (λ place. Some (SetPlace place state))
set_of Cob which state = then (place_of Cob which) (λ place. Some (SetPlace place state))
set_of LogicFlag which state = then (place_of LogicFlag which) (λ place. Some (SetPlace place state))
set_of FamilyMember which state = then (member_of which) (λ member. Some (SetMember member state))
set_of LogicStatement which state = None
set_of FrameNumber which state = None
set_of DelayFor which state = None

-- a DELAY of at most the longest sum
abbrev pub delay_of : ActionCodes → Option Action
delay_of c = only (nat_le c.which max_delay && c.state == 0) (Some (Delay (record { 0 = c.which })))

-- the action of a kind
abbrev pub action_of_kind : ActionCodes → Kind → Option Action
action_of_kind c Cib = then (state_of c.state) (set_of Cib c.which)
action_of_kind c Cob = then (state_of c.state) (set_of Cob c.which)
action_of_kind c LogicFlag = then (state_of c.state) (set_of LogicFlag c.which)
action_of_kind c FamilyMember = then (state_of c.state) (set_of FamilyMember c.which)
action_of_kind c LogicStatement = None
action_of_kind c FrameNumber = None
action_of_kind c DelayFor = delay_of c

-- the action of codes that are each in range
unfoldable pub action_of : ActionCodes → Option Action
action_of c = then (kind_of c.kind) (action_of_kind c)
