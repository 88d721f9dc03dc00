-- The bytes of a table: how a document is written.
use Rattle.std.specs.Prelude.{ℕ, ◌/◌, ◌%◌, Bool, false, cond, not, ◌&&◌, List, [], ◌∷◌, ◌++◌, map, length, ◌==◌}
use Rattle.std.specs.List.{flat_map}
use Rattle.tables.specs.declared.statement.Mark.{Mark}
use Rattle.tables.specs.declared.test.JoinedTest.{JoinedTest}
use Rattle.tables.specs.declared.action.Action.{Action}
use Rattle.tables.specs.declared.codes.tags.DocumentField.TheVariants.{Version, Statement, Plan}
use Rattle.tables.specs.declared.codes.tags.StatementField.TheVariants.{Name, Mark as MarkField, Test, ThenAction, ElseAction}
use Rattle.tables.specs.Codes.{mark_code, join_code}
use Rattle.tables.specs.Lines.{test_codes, action_codes}
use Rattle.tables.specs.Rows.{StatementRow, PlanRow, TableRows, row_name}
use Rattle.tables.specs.Tags.{document_tag, statement_tag}
use Rattle.documents.specs.Statements.{absent_mark}

-- a number in two bytes, the high one first
abbrev pub two : ℕ → List ℕ
two n = n / 256 ∷ n % 256 ∷ []

-- a field: its tag, the length of its body, its body
abbrev pub field_bytes : ℕ → List ℕ → List ℕ
field_bytes tag body = tag ∷ (two (length body) ++ body)

-- a field for each item, all with the same tag
abbrev pub fields_bytes : {X : Type 0} → (tag : ℕ) (body : X → List ℕ) → List X → List ℕ
fields_bytes tag body xs = flat_map (λ x. field_bytes tag (body x)) xs

-- a test's body: its join, then its codes
abbrev pub test_body : JoinedTest → List ℕ
test_body t =
    join_code t.join ∷ (test_codes t.test).kind
    ∷ (two (test_codes t.test).which ++ ((test_codes t.test).relation ∷ two (test_codes t.test).entry))

-- an action's body: its codes
abbrev pub action_body : Action → List ℕ
action_body a = (action_codes a).kind ∷ (two (action_codes a).which ++ ((action_codes a).state ∷ []))

-- a mark is what an absent one stands for
abbrev pub is_absent : Mark → Bool
is_absent m = mark_code m == mark_code absent_mark

-- a mark's field, which is left out where an absent mark says the same, unless it is to be spelled out
abbrev pub mark_bytes : (spelled : Bool) → Mark → List ℕ
mark_bytes spelled m = cond (is_absent m && not spelled) [] (field_bytes (statement_tag MarkField) (mark_code m ∷ []))

-- the fields of tests
abbrev pub tests_bytes : List JoinedTest → List ℕ
tests_bytes ts = fields_bytes (statement_tag Test) test_body ts

-- the fields of a branch's actions: the THEN branch has tag 19, the ELSE branch tag 20
abbrev pub actions_bytes : ℕ → List Action → List ℕ
actions_bytes tag actions = fields_bytes tag action_body actions

-- a statement's body: its name, its mark, its tests and its branches
abbrev pub statement_body : (spelled : Bool) → StatementRow → List ℕ
statement_body spelled s =
    field_bytes (statement_tag Name) (s.name ∷ [])
    ++ (mark_bytes spelled s.mark
    ++ (tests_bytes s.tests
    ++ (actions_bytes (statement_tag ThenAction) s.thens
    ++ actions_bytes (statement_tag ElseAction) s.elses)))

-- the fields of statements; `spelled` says of each in turn whether an absent mark is spelled out
abbrev pub statements_bytes : (spelled : List Bool) → List StatementRow → List ℕ
statements_bytes spelled [] = []
statements_bytes [] (s ∷ ss) = field_bytes (document_tag Statement) (statement_body false s) ++ statements_bytes [] ss
statements_bytes (b ∷ spelled) (s ∷ ss) = field_bytes (document_tag Statement) (statement_body b s) ++ statements_bytes spelled ss

-- a plan's field: its number, then its names
abbrev pub plan_bytes : PlanRow → List ℕ
plan_bytes p = field_bytes (document_tag Plan) (p.number ∷ p.names)

-- a document of a table: the version, the statements, the plans
abbrev pub spelled_bytes : (spelled : List Bool) → TableRows → List ℕ
spelled_bytes spelled t = field_bytes (document_tag Version) (1 ∷ []) ++ (statements_bytes spelled t.statements ++ flat_map plan_bytes t.plans)

-- the bytes of a table: no absent mark is spelled out
abbrev pub table_bytes : TableRows → List ℕ
table_bytes t = spelled_bytes [] t

-- the order alone, a byte a name
abbrev pub order_bytes : TableRows → List ℕ
order_bytes t = map row_name t.statements
