-- What is known of a body without fault when its last field has been read.
use Rattle.std.proofs.Common.{◌≡◌, ℕ, ◌+◌, ◌<◌, leb, List, [], length, Some, None, Ok, sym, ap, ◌∙◌, subst, ⊎_elim, arith}
use Rattle.std.proofs.lemmas.Bool.{cases_Bool, cond-true, cond-false, le-leb, leb-true, leb-false}
use Rattle.tables.specs.Refusals.{refused_at}
use Rattle.tables.specs.Rows.{StatementRow, TableRows}
use Rattle.documents.specs.Fields.{Piece, pieces, last_tag}
use Rattle.documents.specs.Judging.{or_else}
use Rattle.documents.specs.Statements.{tests_in, part_fault, unfinished, statement_fault, statement_in}
use Rattle.documents.specs.Documents.{table_in, top_fault, no_version, unless, reading}
use Rattle.documents.proofs.Emptiness.{empty_document}
use Rattle.documents.proofs.Going.{Passed, ended}
use Rattle.documents.proofs.KeptTests.{tests_some, tests_late}

module _ (used : List ℕ) (place : ℕ) (body : List ℕ) (before : List Piece) {last here : ℕ} {rest : List ℕ} (passed : Passed (part_fault used) (place + 3) body before last here rest) (end : rest ≡ []) (s : StatementRow) (is : s ≡ statement_in before) where
  abbrev parts : List Piece
  parts = pieces (place + 3) 0 body

  said : s ≡ statement_in parts
  said = is ∙ ap statement_in (ended passed end).0

  judged : statement_fault used place body ≡ unfinished place (last_tag parts)
  judged = ap (λ x. or_else x (unfinished place (last_tag parts))) (ended passed end).1

  -- a statement with a test has what it needs
  pub with_tests : 0 < length s.tests → (statement_fault used place body ≡ None) × (s ≡ statement_in parts)
  with_tests some =
      let late = tests_late used parts (ended passed end).1 (subst (λ (r : StatementRow). 0 < length r.tests) said some) in
      (judged ∙ cond-true _ _ _ (le-leb 18 (last_tag parts) late), said)

  -- one without lacks it
  pub without_tests : length s.tests ≡ 0 → statement_fault used place body ≡ Some (refused_at 2 place)
  without_tests none =
      ⊎_elim
      (λ late. let some = leb-true 1 (length (tests_in parts)) (tests_some used parts (ended passed end).1 (leb-true 18 (last_tag parts) late)) in absurd (omega (arith, ap (λ (r : StatementRow). length r.tests) said)))
      (λ early. judged ∙ cond-false _ _ _ early)
      (cases_Bool (leb 18 (last_tag parts)))

-- a document that has a field says its table
pub whole_document : (doc : List ℕ) (before : List Piece) {last here : ℕ} {rest : List ℕ} → Passed top_fault 0 doc before last here rest → rest ≡ [] → (rows : TableRows) → rows ≡ table_in before → 0 < length doc → reading doc ≡ Ok rows
whole_document doc before passed end rows is some =
    let ps = pieces 0 0 doc in
    let e = ended passed end in
    let versioned : no_version (last_tag ps) ≡ None =
    ⊎_elim
    (λ there. cond-true _ _ _ there)
    (λ lacks. absurd (omega (arith, ap length (empty_document doc e.1 (leb-false 1 (last_tag ps) lacks)))))
    (cases_Bool (leb 1 (last_tag ps))) in
    ap (λ x. unless (or_else x (no_version (last_tag ps))) (table_in ps)) e.1 ∙ ap (λ x. unless x (table_in ps)) versioned ∙ ap Ok (sym (is ∙ ap table_in e.0))
