-- The body of a statement without fault is the bytes of the statement that it says.
use Rattle.std.proofs.Common.{◌≡◌, ℕ, ◌+◌, ◌≤◌, Bool, true, false, ◌&&◌, leb, List, [], ◌∷◌, ◌++◌, None, sym, refl, ap, ◌∙◌, arith}
use Rattle.std.proofs.lemmas.Bool.{and_parts, leb-true, eqb-true}
use Rattle.documents.specs.Fields.{Piece, pieces, last_tag}
use Rattle.documents.specs.Judging.{first_fault}
use Rattle.documents.specs.Statements.{name_in, mark_in, test_in, action_in, part_fault, unfinished, statement_fault, statement_in}
use Rattle.documents.specs.Documents.{row_in}
use Rattle.documents.proofs.KeptStatements.{finished}
use Rattle.documents.proofs.Faults.{both_none}
use Rattle.documents.proofs.Faultless.{value_there}
use Rattle.documents.proofs.Taking.{took_name, took_mark, took_test, took_then, took_else}
use Rattle.documents.proofs.Passing.{due_after}
use Rattle.documents.proofs.PartSteps.{PartSteps, parts_faultless}
use Rattle.documents.proofs.Shifting.{statement_place}
use Rattle.writing.specs.Bytes.{statement_body}
use Rattle.writing.specs.Written.{AreBytes}
use Rattle.documents.specs.Refused.{Whole}
use Rattle.writing.proofs.Laid.{laid, HoldBytes, pieces_hold_bytes, laid_pieces}
use Rattle.writing.proofs.Behind.{whole_push, hold_bytes_parts, said_push}
use Rattle.writing.proofs.Bodies.{one_byte, mark_is_body, test_is_body, action_is_body}
use Rattle.writing.proofs.SaidStatements.{StatementSaid, said_name, said_mark, said_test, said_then, said_else}

-- pieces that hold bytes are those of the statement so far
abbrev BytesSaid : List Piece → Type 0
BytesSaid ps = HoldBytes ps → StatementSaid (laid ps) (last_tag ps) (statement_in ps)

-- what is due between two tags stands after the higher one at the latest
pub due_until : (low last high : ℕ) → (leb low last && leb last high) ≡ true → last ≤ high
due_until low last high due = leb-true last high (and_parts (leb low last) (leb last high) due).1

-- each field without fault goes on from the bytes of the statement so far
said_steps : (used : List ℕ) → PartSteps used BytesSaid
said_steps used = record {
  name = λ before place body h so small.
      let two = hold_bytes_parts before place 16 body small in
      let s = statement_in before in
      said_push before place 16 body StatementSaid statement_in (name_in body ∷ []) _ (one_byte body h.sized) (took_name place 16 body before s refl refl (name_in body) refl)
      (said_name (laid before) (last_tag before) s (so two.0) (name_in body) (eqb-true (last_tag before) 0 h.due));
  mark = λ before place body h so small.
      let two = hold_bytes_parts before place 17 body small in
      let s = statement_in before in
      let v = value_there (mark_in body) h.there in
      said_push before place 17 body StatementSaid statement_in _ _ (mark_is_body body v.0 h.sized v.1) (took_mark place 17 body before s refl refl v.0 v.1)
      (said_mark (laid before) (last_tag before) s (so two.0) v.0 (eqb-true (last_tag before) 16 h.due));
  test = λ before place body h so small.
      let two = hold_bytes_parts before place 18 body small in
      let s = statement_in before in
      let v = value_there (test_in body) h.there in
      said_push before place 18 body StatementSaid statement_in _ _ (test_is_body body v.0 two.1 h.sized v.1) (took_test place 18 body before s refl refl v.0 v.1 (s.tests ++ v.0 ∷ []) refl)
      (said_test (laid before) (last_tag before) s (so two.0) v.0 (due_after 16 (last_tag before) 18 h.due) (due_until 16 (last_tag before) 18 h.due));
  thens = λ before place body h so small.
      let two = hold_bytes_parts before place 19 body small in
      let s = statement_in before in
      let v = value_there (action_in body) h.there in
      said_push before place 19 body StatementSaid statement_in _ _ (action_is_body body v.0 two.1 h.sized v.1) (took_then place 19 body before s refl refl v.0 v.1 (s.thens ++ v.0 ∷ []) refl)
      (said_then (laid before) (last_tag before) s (so two.0) v.0 (due_after 18 (last_tag before) 19 h.in_turn) (due_until 18 (last_tag before) 19 h.in_turn));
  elses = λ before place body h so small.
      let two = hold_bytes_parts before place 20 body small in
      let s = statement_in before in
      let v = value_there (action_in body) h.there in
      said_push before place 20 body StatementSaid statement_in _ _ (action_is_body body v.0 two.1 h.sized v.1) (took_else place 20 body before s refl refl v.0 v.1 (s.elses ++ v.0 ∷ []) refl)
      (said_else (laid before) (last_tag before) s (so two.0) v.0 (due_after 18 (last_tag before) 20 h.in_turn));
}

-- no piece without fault is cut
whole_steps : (used : List ℕ) → PartSteps used Whole
whole_steps used = record {
  name = λ before place body h so. whole_push before place 16 body so;
  mark = λ before place body h so. whole_push before place 17 body so;
  test = λ before place body h so. whole_push before place 18 body so;
  thens = λ before place body h so. whole_push before place 19 body so;
  elses = λ before place body h so. whole_push before place 20 body so;
}

-- the body of a statement without fault is the bytes of its statement, with the mark spelled out or not
pub statement_is_body : (used : List ℕ) (place : ℕ) (body : List ℕ) → AreBytes body → statement_fault used place body ≡ None → (spelled : Bool) × (body ≡ statement_body spelled (row_in body))
statement_is_body used place body small none =
    let ps = pieces (place + 3) 0 body in
    let two = both_none (first_fault (part_fault used) [] ps) (unfinished place (last_tag ps)) none in
    let whole = parts_faultless used Whole (whole_steps used) ps two.0 tt in
    let start : StatementSaid [] 0 (statement_in []) = record { spelled = false; said = λ late. absurd (omega arith); unsaid = λ _. refl; unmarked = λ _. (refl, refl); no_tests = λ _. refl; no_thens = λ _. refl; no_elses = λ _. refl } in
    let so = parts_faultless used BytesSaid (said_steps used) ps two.0 (λ _. start) (pieces_hold_bytes (place + 3) 0 body small) in
    let late = finished place (last_tag ps) two.1 in
    (so.spelled, sym (laid_pieces (place + 3) 0 body small whole) ∙ so.said (omega arith) ∙ ap (statement_body so.spelled) (statement_place (place + 3) 0 body))
