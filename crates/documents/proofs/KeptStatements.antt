-- A statement without fault keeps its rules, and its name is not used above.
use Rattle.std.proofs.Common.{◌≡◌, ℕ, ◌+◌, ◌≤◌, Bool, true, false, cond, ◌&&◌, leb, List, [], length, Some, None, refl, subst, arith}
use Rattle.std.proofs.lemmas.Bool.{and_from, leb-true}
use Rattle.tables.specs.Limits.{max_tests, last_name, counted_to}
use Rattle.tables.specs.Lists.{member, every}
use Rattle.tables.specs.Rows.{StatementRow}
use Rattle.tables.specs.Rules.{joins_keep, test_keeps, branch_keeps, statement_keeps}
use Rattle.documents.specs.Fields.{Piece, pieces, last_tag}
use Rattle.documents.specs.Judging.{first_fault}
use Rattle.documents.specs.Statements.{tests_in, actions_in, part_fault, unfinished, statement_fault, statement_in}
use Rattle.documents.specs.Documents.{row_in}
use Rattle.documents.proofs.Faults.{both_none}
use Rattle.documents.proofs.Shifting.{statement_place}
use Rattle.documents.proofs.KeptNames.{name_kept}
use Rattle.documents.proofs.KeptTests.{tests_few, tests_some, joins_kept, tests_kept}
use Rattle.documents.proofs.KeptBranches.{thens_kept, elses_kept}

-- where a condition alone keeps a fault away, and there is none, the condition is met
pub condition_met : {X : Type 0} (b : Bool) (x : X) → cond b None (Some x) ≡ None → b ≡ true
condition_met true x e = refl
condition_met false x e = absurd (cc)

-- a finished statement's last field is a test or an action
pub finished : (place last : ℕ) → unfinished place last ≡ None → 18 ≤ last
finished place last none = leb-true 18 last (condition_met (leb 18 last) _ none)

-- the statement of pieces without fault that end in a test or an action
pub pieces_kept : (used : List ℕ) (ps : List Piece) → first_fault (part_fault used) [] ps ≡ None → 18 ≤ last_tag ps → (statement_keeps (statement_in ps) ≡ true) × (member (statement_in ps).name used ≡ false)
pieces_kept used ps none late =
    let fresh = name_kept used ps none (omega arith) in
    let name = (statement_in ps).name in
    let tests = tests_in ps in
    let thens = actions_in 19 ps in
    let elses = actions_in 20 ps in
    let branches = and_from (branch_keeps thens) (branch_keeps elses) (thens_kept used ps none) (elses_kept used ps none) in
    let each = and_from (every (λ t. test_keeps t.test) tests) (branch_keeps thens && branch_keeps elses) (tests_kept used ps none) branches in
    let joins = and_from (joins_keep tests) _ (joins_kept used ps none) each in
    let count = and_from (leb 1 (length tests)) (leb (length tests) max_tests) (tests_some used ps none late) (tests_few used ps none) in
    (and_from (counted_to last_name name) _ fresh.0 (and_from (leb 1 (length tests) && leb (length tests) max_tests) _ count joins), fresh.1)

-- the statement of a body without fault, whatever its place
pub statement_kept : (used : List ℕ) (place : ℕ) (body : List ℕ) → statement_fault used place body ≡ None → (statement_keeps (row_in body) ≡ true) × (member (row_in body).name used ≡ false)
statement_kept used place body none =
    let two = both_none (first_fault (part_fault used) [] (pieces (place + 3) 0 body)) (unfinished place (last_tag (pieces (place + 3) 0 body))) none in
    subst (λ (r : StatementRow). (statement_keeps r ≡ true) × (member r.name used ≡ false)) (statement_place (place + 3) 0 body)
    (pieces_kept used (pieces (place + 3) 0 body) two.0 (finished place (last_tag (pieces (place + 3) 0 body)) two.1))
