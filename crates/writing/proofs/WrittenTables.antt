-- An accepted document is the bytes of its table.
use Rattle.std.proofs.Common.{◌≡◌, ℕ, suc, Bool, true, leb, List, [], ◌∷◌, ◌++◌, length, drop, None, sym, refl, ap, ◌∙◌, arith}
use Rattle.std.proofs.lemmas.List.{drop_more}
use Rattle.std.proofs.lemmas.Bool.{and_parts, leb-true, eqb-true}
use Rattle.tables.specs.Limits.{last_name, counted_to}
use Rattle.documents.specs.Fields.{Piece, field, pieces, last_tag, byte}
use Rattle.documents.specs.Judging.{first_fault}
use Rattle.documents.specs.Documents.{row_in, plan_in, table_in, names_in, top_fault, no_version, document_fault}
use Rattle.documents.proofs.Accepting.{answered}
use Rattle.documents.proofs.KeptStatements.{condition_met}
use Rattle.documents.proofs.Faults.{both_none}
use Rattle.documents.proofs.Taking.{same}
use Rattle.documents.proofs.Pushing.{said_more}
use Rattle.documents.proofs.Passing.{VersionPasses, due_after}
use Rattle.documents.proofs.TopSteps.{TopSteps, tops_faultless}
use Rattle.writing.specs.Bytes.{statement_body, spelled_bytes}
use Rattle.writing.specs.Written.{AreBytes, AcceptedDocumentsAreWrittenTables}
use Rattle.documents.specs.Refused.{Whole}
use Rattle.writing.proofs.Laid.{laid, HoldBytes, pieces_hold_bytes, laid_pieces}
use Rattle.writing.proofs.Behind.{whole_push, hold_bytes_parts, said_push}
use Rattle.writing.proofs.Bodies.{one_byte}
use Rattle.writing.proofs.WrittenStatements.{due_until, statement_is_body}
use Rattle.writing.proofs.SaidTables.{TableSaid, said_version, said_statement, said_plan}

-- pieces that hold bytes are those of the table so far
abbrev BytesSaid : List Piece → Type 0
BytesSaid ps = HoldBytes ps → TableSaid (laid ps) (last_tag ps) (table_in ps)

-- a body with a byte is that byte and those behind it
first_byte : (last : ℕ) (body : List ℕ) → counted_to last (length body) ≡ true → body ≡ byte body 0 ∷ drop 1 body
first_byte last body sized =
    let some = leb-true 1 (length body) (and_parts (leb 1 (length body)) (leb (length body) last) sized).0 in
    drop_more body 0 0 (omega arith)

-- the version's body is 1
version_body : (last : ℕ) (body : List ℕ) → VersionPasses last body → body ≡ 1 ∷ []
version_body last body h = one_byte body h.sized ∙ ap (λ b. b ∷ []) (eqb-true (byte body 0) 1 h.one)

module _ (before : List Piece) (place : ℕ) (body : List ℕ) where
  -- the version leaves the table as it is
  took_version : table_in before ≡ table_in (before ++ field place 1 body ∷ [])
  took_version =
      let ss = same place body before 2 1 refl in
      let ps = same place body before 3 1 refl in
      cc

  -- a statement is one more of the table's
  took_statement : record { statements = (table_in before).statements ++ row_in body ∷ []; plans = (table_in before).plans } ≡ table_in (before ++ field place 2 body ∷ [])
  took_statement =
      let ss = said_more row_in 2 place body before refl in
      let ps = same place body before 3 2 refl in
      cc

  -- a plan is one more of the table's
  took_plan : record { statements = (table_in before).statements; plans = (table_in before).plans ++ plan_in body ∷ [] } ≡ table_in (before ++ field place 3 body ∷ [])
  took_plan =
      let ss = same place body before 2 3 refl in
      let ps = said_more plan_in 3 place body before refl in
      cc

-- each field without fault goes on from the bytes of the table so far
said_steps : TopSteps BytesSaid
said_steps = record {
  version = λ before place body h so small.
      let two = hold_bytes_parts before place 1 body small in
      said_push before place 1 body TableSaid table_in (1 ∷ []) (table_in before) (version_body (last_tag before) body h) (took_version before place body)
      (said_version (laid before) (last_tag before) (table_in before) (so two.0) (eqb-true (last_tag before) 0 h.due));
  statement = λ before place body due none so small.
      let two = hold_bytes_parts before place 2 body small in
      let s = statement_is_body (names_in before) place body two.1 none in
      said_push before place 2 body TableSaid table_in (statement_body s.0 (row_in body)) _ s.1 (took_statement before place body)
      (said_statement (laid before) (last_tag before) (table_in before) (so two.0) s.0 (row_in body) (due_after 1 (last_tag before) 2 due) (due_until 1 (last_tag before) 2 due));
  plan = λ before place body h so small.
      let two = hold_bytes_parts before place 3 body small in
      said_push before place 3 body TableSaid table_in (byte body 0 ∷ drop 1 body) _ (first_byte (suc last_name) body h.sized) (took_plan before place body)
      (said_plan (laid before) (last_tag before) (table_in before) (so two.0) (plan_in body) (due_after 1 (last_tag before) 3 h.due));
}

-- no piece without fault is cut
whole_steps : TopSteps Whole
whole_steps = record {
  version = λ before place body h so. whole_push before place 1 body so;
  statement = λ before place body due none so. whole_push before place 2 body so;
  plan = λ before place body h so. whole_push before place 3 body so;
}

-- a document without fault is the bytes of the table that its pieces say
document_is_table : (doc : List ℕ) → AreBytes doc → document_fault doc ≡ None → (spelled : List Bool) × (doc ≡ spelled_bytes spelled (table_in (pieces 0 0 doc)))
document_is_table doc small none =
    let ps = pieces 0 0 doc in
    let two = both_none (first_fault top_fault [] ps) (no_version (last_tag ps)) none in
    let whole = tops_faultless Whole whole_steps ps two.0 tt in
    let start : TableSaid [] 0 (table_in []) = record { spelled = []; each = refl; said = λ late. absurd (omega arith); unsaid = λ _. refl; no_statements = λ _. refl; no_plans = λ _. refl } in
    let so = tops_faultless BytesSaid said_steps ps two.0 (λ _. start) (pieces_hold_bytes 0 0 doc small) in
    let late = leb-true 1 (last_tag ps) (condition_met (leb 1 (last_tag ps)) _ two.1) in
    (so.spelled, sym (laid_pieces 0 0 doc small whole) ∙ so.said late)

-- an accepted document is the bytes of its table, but that it may spell out absent marks
pub accepted_documents_are_written_tables : AcceptedDocumentsAreWrittenTables
accepted_documents_are_written_tables doc t small e =
    let two = answered (document_fault doc) (table_in (pieces 0 0 doc)) t e in
    let is = document_is_table doc small two.0 in
    (is.0, is.1 ∙ ap (spelled_bytes is.0) two.1)
