-- The rules that a table keeps.
use Rattle.std.specs.Prelude.{ℕ, ◌+◌, Bool, true, false, not, ◌&&◌, List, [], ◌∷◌, map, length, nat_le, nat_lt}
use Rattle.tables.specs.declared.place.Place.{Place}
use Rattle.tables.specs.declared.place.Place.TheVariants.{InputCell, OutputCell, Flag}
use Rattle.tables.specs.declared.family.Member.{Member}
use Rattle.tables.specs.declared.number.Number.{Number}
use Rattle.tables.specs.declared.number.Entry.{Entry}
use Rattle.tables.specs.declared.number.Entry.TheVariants.{Timed, Plain}
use Rattle.tables.specs.declared.test.Join.{Join}
use Rattle.tables.specs.declared.test.Join.TheVariants.{First, And, Or}
use Rattle.tables.specs.declared.test.Test.{Test}
use Rattle.tables.specs.declared.test.Test.TheVariants.{PlaceIs, MemberIs, StatementIs, NumberIs}
use Rattle.tables.specs.declared.test.JoinedTest.{JoinedTest}
use Rattle.tables.specs.declared.action.Action.{Action}
use Rattle.tables.specs.declared.action.Action.TheVariants.{SetPlace, SetMember, Delay}
use Rattle.tables.specs.Families.{may_name}
use Rattle.tables.specs.Numbers.{numbered, entry_range, in_seconds}
use Rattle.tables.specs.Limits.{max_tests, max_actions, last_name, max_delay, input_cells, output_cells, last_flag, counted_to}
use Rattle.tables.specs.Lists.{every, member, distinct, rising}
use Rattle.tables.specs.Codes.{entry_value}
use Rattle.tables.specs.Rows.{StatementRow, PlanRow, TableRows, row_name, row_number}

-- a place is a cell of its buffer, or one of the flags
abbrev pub place_keeps : Place → Bool
place_keeps (InputCell code) = nat_lt code input_cells
place_keeps (OutputCell code) = nat_lt code output_cells
place_keeps (Flag number) = counted_to last_flag number

-- a member is one that its family has
abbrev pub member_keeps : Member → Bool
member_keeps m = may_name m.family m.number

-- an entry is in seconds
abbrev pub timed : Entry → Bool
timed (Timed seconds) = true
timed (Plain value) = false

-- both hold or neither does
abbrev pub alike : Bool → Bool → Bool
alike true b = b
alike false b = not b

-- an entry is allowed to its number, and in seconds exactly for a ring timer
abbrev pub entry_keeps : Number → Entry → Bool
entry_keeps number entry =
    alike (in_seconds number) (timed entry)
    && (nat_le (entry_range number).least (entry_value entry) && nat_le (entry_value entry) (entry_range number).greatest)

-- a test is in range
abbrev pub test_keeps : Test → Bool
test_keeps (PlaceIs place state) = place_keeps place
test_keeps (MemberIs member state) = member_keeps member
test_keeps (StatementIs name state) = counted_to last_name name.0
test_keeps (NumberIs number comparison entry) = numbered number && entry_keeps number entry

-- an action is in range
abbrev pub action_keeps : Action → Bool
action_keeps (SetPlace place state) = place_keeps place
action_keeps (SetMember member state) = member_keeps member
action_keeps (Delay tenths) = nat_le tenths.0 max_delay

-- a test begins the IF of its statement
abbrev pub begins : Join → Bool
begins First = true
begins And = false
begins Or = false

-- the first test begins, and every later one is joined by AND or OR
abbrev pub joins_keep : List JoinedTest → Bool
joins_keep [] = true
joins_keep (t ∷ ts) = begins t.join && every (λ u. not (begins u.join)) ts

-- the tenths that an action adds to the waits of those below it
abbrev pub delay : Action → ℕ
delay (SetPlace place state) = 0
delay (SetMember member state) = 0
delay (Delay tenths) = tenths.0

-- the sum of the DELAYs of a branch
abbrev pub delays : List Action → ℕ
delays [] = 0
delays (a ∷ rest) = delay a + delays rest

-- a branch: few enough actions, each in range, and DELAYs that sum to at most the longest
abbrev pub branch_keeps : List Action → Bool
branch_keeps actions = nat_le (length actions) max_actions && (every action_keeps actions && nat_le (delays actions) max_delay)

-- a statement: its name, its tests, one at least and few enough, and its branches
abbrev pub statement_keeps : StatementRow → Bool
statement_keeps s =
    counted_to last_name s.name
    && ((nat_le 1 (length s.tests) && nat_le (length s.tests) max_tests)
    && (joins_keep s.tests
    && (every (λ t. test_keeps t.test) s.tests
    && (branch_keeps s.thens && branch_keeps s.elses))))

-- a plan of a table whose statements have these names: its number, and names of the table that rise
abbrev pub plan_keeps : List ℕ → PlanRow → Bool
plan_keeps names p =
    counted_to last_name p.number
    && (nat_le (length p.names) last_name
    && (rising 0 p.names && every (λ n. member n names) p.names))

-- a table: statements with a name each of its own, and plans whose numbers rise
unfoldable pub table_keeps : TableRows → Bool
table_keeps t =
    nat_le (length t.statements) last_name
    && (every statement_keeps t.statements
    && (distinct (map row_name t.statements)
    && (nat_le (length t.plans) last_name
    && (every (plan_keeps (map row_name t.statements)) t.plans
    && rising 0 (map row_number t.plans)))))
