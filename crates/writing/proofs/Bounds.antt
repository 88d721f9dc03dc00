-- No accepted document is longer than the longest.
use Rattle.std.proofs.Common.{◌≡◌, ℕ, ◌+◌, ◌*◌, ◌≤◌, Bool, true, ◌&&◌, leb, List, map, length, sym, subst, mul-le-mul_right, arith}
use Rattle.std.specs.List.{flat_map}
use Rattle.std.proofs.lemmas.List.{length-append}
use Rattle.std.proofs.lemmas.Bool.{and_parts, leb-true}
use Rattle.tables.specs.declared.action.Action.{Action}
use Rattle.tables.specs.Limits.{max_tests, max_actions, last_name, counted_to}
use Rattle.tables.specs.Lists.{every, rising, distinct}
use Rattle.tables.specs.Rows.{StatementRow, PlanRow, TableRows, row_name, row_number}
use Rattle.tables.specs.Rules.{statement_keeps, plan_keeps, table_keeps, joins_keep, test_keeps, branch_keeps}
use Rattle.documents.proofs.Accepting.{accepted_tables_keep_the_rules}
use Rattle.writing.specs.Bytes.{field_bytes, statement_body, statements_bytes, plan_bytes, spelled_bytes}
use Rattle.writing.specs.Written.{longest, NoDocumentIsLonger}
use Rattle.writing.proofs.Lengths.{statement_at_most, statements_at_most, joined_at_most}
use Rattle.writing.proofs.WrittenTables.{accepted_documents_are_written_tables}

-- a branch that keeps its rules has few enough actions
branch_few : (actions : List Action) → branch_keeps actions ≡ true → length actions ≤ max_actions
branch_few actions keeps = leb-true (length actions) max_actions (and_parts (leb (length actions) max_actions) _ keeps).0

-- the field of a statement that keeps its rules is short enough
statement_short : (b : Bool) (s : StatementRow) → statement_keeps s ≡ true → length (field_bytes 2 (statement_body b s)) ≤ 3 + 4 + 4 + 10 * max_tests + 2 * (7 * max_actions)
statement_short b s keeps =
    let few = (and_parts (counted_to last_name s.name) _ keeps).1 in
    let counts = and_parts (leb 1 (length s.tests) && leb (length s.tests) max_tests) _ few in
    let tests = leb-true (length s.tests) max_tests (and_parts (leb 1 (length s.tests)) _ counts.0).1 in
    let joins = (and_parts (joins_keep s.tests) _ counts.1).1 in
    let branches = (and_parts (every (λ t. test_keeps t.test) s.tests) _ joins).1 in
    let both = and_parts (branch_keeps s.thens) (branch_keeps s.elses) branches in
    let most = statement_at_most b s max_tests max_actions tests (branch_few s.thens both.0) (branch_few s.elses both.1) in
    omega arith

-- the field of a plan that keeps its rules is short enough
plan_short : (names : List ℕ) (p : PlanRow) → plan_keeps names p ≡ true → length (plan_bytes p) ≤ 3 + 1 + last_name
plan_short names p keeps =
    let few = leb-true (length p.names) last_name (and_parts (leb (length p.names) last_name) _ (and_parts (counted_to last_name p.number) _ keeps).1).0 in
    omega arith

-- a document is at most as long as its parts, each of which is at most so long
document_at_most : (spelled : List Bool) (t : TableRows) (names statement plan : ℕ) → length t.statements ≤ names → length t.plans ≤ names → length (statements_bytes spelled t.statements) ≤ length t.statements * statement → length (flat_map plan_bytes t.plans) ≤ length t.plans * plan → length (spelled_bytes spelled t) ≤ 4 + names * statement + names * plan
document_at_most spelled t names statement plan ss ps a b =
    let both = length-append (statements_bytes spelled t.statements) (flat_map plan_bytes t.plans) in
    let c : length t.statements * statement ≤ names * statement = mul-le-mul_right statement ss in
    let d : length t.plans * plan ≤ names * plan = mul-le-mul_right plan ps in
    omega arith

-- the bytes of a table that keeps the rules are at most the longest
pub table_short : (spelled : List Bool) (t : TableRows) → table_keeps t ≡ true → length (spelled_bytes spelled t) ≤ longest
unfolding table_keeps
table_short spelled t keeps =
    let names = map row_name t.statements in
    let a = and_parts (leb (length t.statements) last_name) _ keeps in
    let b = and_parts (every statement_keeps t.statements) _ a.1 in
    let c = and_parts (distinct names) _ b.1 in
    let d = and_parts (leb (length t.plans) last_name) _ c.1 in
    let e = and_parts (every (plan_keeps names) t.plans) (rising 0 (map row_number t.plans)) d.1 in
    document_at_most spelled t last_name (3 + 4 + 4 + 10 * max_tests + 2 * (7 * max_actions)) (3 + 1 + last_name)
    (leb-true (length t.statements) last_name a.0)
    (leb-true (length t.plans) last_name d.0)
    (statements_at_most (3 + 4 + 4 + 10 * max_tests + 2 * (7 * max_actions)) statement_keeps statement_short spelled t.statements b.0)
    (joined_at_most plan_bytes (3 + 1 + last_name) (plan_keeps names) (plan_short names) t.plans e.0)

-- no accepted document is longer
pub no_document_is_longer : NoDocumentIsLonger
no_document_is_longer doc t small e =
    let is = accepted_documents_are_written_tables doc t small e in
    subst (λ bs. length bs ≤ longest) (sym is.1) (table_short is.0 t (accepted_tables_keep_the_rules doc t e))
