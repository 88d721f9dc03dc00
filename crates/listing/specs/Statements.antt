-- Statements and plans in words.
use Rattle.std.specs.Prelude.{ℕ, List, ◌∷◌, ◌++◌, codes, decimal}
use Rattle.bounded.specs.Held.{held}
use Rattle.tables.specs.declared.statement.Name.{Name}
use Rattle.tables.specs.declared.statement.Statement.{Statement}
use Rattle.tables.specs.declared.plan.Plan.{Plan}
use Rattle.listing.specs.Each.{each_text}
use Rattle.listing.specs.Words.{mark_text}
use Rattle.listing.specs.Lines.{test_line, action_text}

-- what begins each line below the first: a new line and two blanks
abbrev pub indented : List ℕ
indented = 10 ∷ codes "  "

-- a statement's name and mark
abbrev pub statement_head : Statement → List ℕ
statement_head s = codes "STATEMENT " ++ (decimal s.name.0 ++ (codes " " ++ mark_text s.mark))

-- a statement: its name and mark, its tests, its THEN actions and its ELSE actions, each on a line
abbrev pub statement_text : Statement → List ℕ
statement_text s =
    statement_head s
    ++ (each_text test_line indented (held s.tests)
    ++ (each_text action_text (indented ++ codes "THEN ") (held s.then_actions)
    ++ each_text action_text (indented ++ codes "ELSE ") (held s.else_actions)))

-- a name
abbrev pub name_text : Name → List ℕ
name_text n = decimal n.0

-- a plan: its number and the names that it lists, on one line
abbrev pub plan_text : Plan → List ℕ
plan_text p = (codes "PLAN " ++ (decimal p.number ++ codes ":")) ++ each_text name_text (codes " ") (held p.names)
