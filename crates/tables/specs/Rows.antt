-- A table's contents as plain lists, without the spare memory of the lists that hold them.
use Rattle.std.specs.Prelude.{ℕ, zero, suc, List, [], ◌∷◌, map}
use Rattle.bounded.specs.Held.{held}
use Rattle.tables.specs.declared.statement.Mark.{Mark}
use Rattle.tables.specs.declared.statement.Name.{Name}
use Rattle.tables.specs.declared.statement.Statement.{Statement}
use Rattle.tables.specs.declared.test.JoinedTest.{JoinedTest}
use Rattle.tables.specs.declared.action.Action.{Action}
use Rattle.tables.specs.declared.plan.Plan.{Plan}

-- a statement
pub record StatementRow : Type 0 where
  pub name : ℕ
  pub mark : Mark
  pub tests : List JoinedTest
  pub thens : List Action
  pub elses : List Action

-- an action plan
pub record PlanRow : Type 0 where
  pub number : ℕ
  pub names : List ℕ

-- the statements in their order, and the plans
pub record TableRows : Type 0 where
  pub statements : List StatementRow
  pub plans : List PlanRow

-- the number in a name
abbrev pub name_number : Name → ℕ
name_number n = n.0

-- what a statement of the code says
abbrev pub statement_row : Statement → StatementRow
statement_row s = record {
  name = s.name.0;
  mark = s.mark;
  tests = held s.tests;
  thens = held s.then_actions;
  elses = held s.else_actions;
}

-- what a plan of the code says
abbrev pub plan_row : Plan → PlanRow
plan_row p = record { number = p.number; names = map name_number (held p.names) }

-- what the lists of statements and plans say together
abbrev pub table_rows : List Statement → List Plan → TableRows
table_rows statements plans = record { statements = map statement_row statements; plans = map plan_row plans }

-- a statement's name
abbrev pub row_name : StatementRow → ℕ
row_name s = s.name

-- a plan's number
abbrev pub row_number : PlanRow → ℕ
row_number p = p.number

-- a statement with another mark
abbrev pub with_row_mark : Mark → StatementRow → StatementRow
with_row_mark mark s = record { name = s.name; mark = mark; tests = s.tests; thens = s.thens; elses = s.elses }

-- statements of which the one at a place has another mark
abbrev pub marked_at : ℕ → Mark → List StatementRow → List StatementRow
marked_at at mark [] = []
marked_at zero mark (s ∷ more) = with_row_mark mark s ∷ more
marked_at (suc at) mark (s ∷ more) = s ∷ marked_at at mark more
