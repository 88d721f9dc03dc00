-- A table that keeps the rules and has the most of everything.
use Rattle.std.proofs.Common.{◌≡◌, ℕ, ◌-◌, true, List, [], ◌∷◌, map, length, replicate, refl}
use Rattle.std.specs.List.{range_with_len}
use Rattle.tables.specs.declared.place.State.TheVariants.{Off}
use Rattle.tables.specs.declared.statement.Mark.TheVariants.{Enabled}
use Rattle.tables.specs.declared.test.Join.{Join}
use Rattle.tables.specs.declared.test.Join.TheVariants.{First, And}
use Rattle.tables.specs.declared.test.Test.TheVariants.{StatementIs}
use Rattle.tables.specs.declared.test.JoinedTest.{JoinedTest}
use Rattle.tables.specs.declared.action.Action.{Action}
use Rattle.tables.specs.declared.action.Action.TheVariants.{Delay}
use Rattle.tables.specs.Limits.{max_tests, max_actions, last_name}
use Rattle.tables.specs.Rows.{StatementRow, PlanRow, TableRows}
use Rattle.tables.specs.Rules.{table_keeps}
use Rattle.writing.specs.Bytes.{spelled_bytes}
use Rattle.writing.specs.Written.{longest, OneDocumentIsThatLong}

-- a test of statement 1
some_test : Join → JoinedTest
some_test join = record { join = join; test = StatementIs (record { 0 = 1 }) Off }

-- an action that waits not at all
some_action : Action
some_action = Delay (record { 0 = 0 })

-- a statement with a mark that is never left out, the most tests and the most actions
full_statement : ℕ → StatementRow
full_statement name = record {
  name = name;
  mark = Enabled;
  tests = some_test First ∷ replicate (max_tests - 1) (some_test And);
  thens = replicate max_actions some_action;
  elses = replicate max_actions some_action;
}

-- every name
every_name : List ℕ
every_name = range_with_len 1 last_name

-- a plan with every name
full_plan : ℕ → PlanRow
full_plan number = record { number = number; names = every_name }

-- a table with a statement of each name and a plan of each number
full_table : TableRows
full_table = record { statements = map full_statement every_name; plans = map full_plan every_name }

-- it keeps the rules
full_table_keeps : table_keeps full_table ≡ true
unfolding table_keeps full_table full_plan every_name full_statement some_test some_action
full_table_keeps = refl

-- its bytes are as many as the longest document's
full_table_length : length (spelled_bytes [] full_table) ≡ longest
unfolding full_table full_plan every_name full_statement some_test some_action
full_table_length = refl

-- a table that keeps the rules has a document of that length
pub one_document_is_that_long : OneDocumentIsThatLong
one_document_is_that_long = (full_table, [], full_table_keeps, full_table_length)
