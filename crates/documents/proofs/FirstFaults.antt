-- A refusal is of the first fault.
use Rattle.std.proofs.Common.{◌≡◌, ℕ, ◌+◌, eqb, leb, List, [], ◌∷◌, ◌++◌, Some, None, Err, Option, subst, ⊎_elim}
use Rattle.std.proofs.lemmas.Bool.{eqb-true, leb-false}
use Rattle.tables.specs.Refusals.{Told, refused_at}
use Rattle.tables.specs.Rows.{TableRows}
use Rattle.documents.specs.Fields.{Piece, field, cut, pieces, place_of, last_tag}
use Rattle.documents.specs.Judging.{first, at, first_fault}
use Rattle.documents.specs.Statements.{part_rules, part_fault, unfinished, statement_fault}
use Rattle.documents.specs.Documents.{names_in, top_rules, inner_fault, top_fault, no_version, document_fault, unless, table_in}
use Rattle.documents.specs.Refused.{Clean, FirstFault, own, inner, lacking, empty, RefusalsAreOfTheFirstFault}
use Rattle.documents.proofs.Faults.{one_or_other, at_some, at_none, test_failed, test_held}
use Rattle.documents.proofs.Leasts.{none_applies, first_is_least}
use Rattle.documents.proofs.Ascending.{part_ascends, top_ascends}
use Rattle.documents.proofs.Firsts.{none_is_clean, first_found}
use Rattle.documents.proofs.Emptiness.{empty_document}

module _ (doc : List ℕ) (t : Told) (before after : List Piece) (clean : Clean top_fault before) where
  -- the piece at fault is at fault itself
  by_itself : (p : Piece) → pieces 0 0 doc ≡ before ++ p ∷ after → at (place_of p) (first (top_rules before p)) ≡ Some t → FirstFault doc t
  by_itself p split e =
      let s = at_some (place_of p) (first (top_rules before p)) t e in
      subst (FirstFault doc) s.2 (own before p after s.0 split clean (first_is_least (top_rules before p) s.0 (top_ascends before p) s.1))

  -- a statement is at fault, and its own field is not
  in_statement : (place : ℕ) (body : List ℕ) → pieces 0 0 doc ≡ before ++ field place 2 body ∷ after
      → first (top_rules before (field place 2 body)) ≡ None
      → statement_fault (names_in before) place body ≡ Some t → FirstFault doc t
  in_statement place body split sound e =
      let used = names_in before in
      let parts = pieces (place + 3) 0 body in
      let free = none_applies (top_rules before (field place 2 body)) sound in
      ⊎_elim
      (λ here.
      let both = first_found (part_fault used) parts t here in
      let f = both.0 in
      let s = at_some (place_of f.piece) (first (part_rules used f.before f.piece)) t f.bad in
      subst (FirstFault doc) s.2
      (inner before place body after split clean free f.before f.piece f.after s.0 f.split both.1
      (first_is_least (part_rules used f.before f.piece) s.0 (part_ascends used f.before f.piece) s.1)))
      (λ rest.
      let s = test_failed (leb 18 (last_tag parts)) (refused_at 2 place) t rest.1 in
      subst (FirstFault doc) s.1
      (lacking before place body after split clean free (none_is_clean (part_fault used) parts rest.0) (leb-false 18 (last_tag parts) s.0)))
      (one_or_other (first_fault (part_fault used) [] parts) (unfinished place (last_tag parts)) t e)

  -- the piece at fault is not so itself, but inside
  by_inside : (p : Piece) → pieces 0 0 doc ≡ before ++ p ∷ after → first (top_rules before p) ≡ None → inner_fault before p ≡ Some t → FirstFault doc t
  by_inside (cut place) split sound e = absurd (cc)
  by_inside (field place tag body) split sound e =
      let h = test_held (eqb tag 2) (statement_fault (names_in before) place body) t e in
      let is = eqb-true tag 2 h.0 in
      in_statement place body
      (subst (λ n. pieces 0 0 doc ≡ before ++ field place n body ∷ after) is split)
      (subst (λ n. first (top_rules before (field place n body)) ≡ None) is sound)
      h.1

  -- the piece at fault is so itself or inside
  by_piece : (p : Piece) → pieces 0 0 doc ≡ before ++ p ∷ after → top_fault before p ≡ Some t → FirstFault doc t
  by_piece p split e =
      ⊎_elim
      (by_itself p split)
      (λ rest. by_inside p split (at_none (place_of p) (first (top_rules before p)) rest.0) rest.1)
      (one_or_other (at (place_of p) (first (top_rules before p))) (inner_fault before p) t e)

-- a document's fault is the first
fault_is_first : (doc : List ℕ) (t : Told) → document_fault doc ≡ Some t → FirstFault doc t
fault_is_first doc t e =
    let ps = pieces 0 0 doc in
    ⊎_elim
    (λ here.
    let both = first_found top_fault ps t here in
    let f = both.0 in
    by_piece doc t f.before f.after both.1 f.piece f.split f.bad)
    (λ rest.
    let s = test_failed (leb 1 (last_tag ps)) (refused_at 2 0) t rest.1 in
    subst (FirstFault doc) s.1 (empty (empty_document doc rest.0 (leb-false 1 (last_tag ps) s.0))))
    (one_or_other (first_fault top_fault [] ps) (no_version (last_tag ps)) t e)

-- a refusal is of a fault
refused_of : (fault : Option Told) (rows : TableRows) (t : Told) → unless fault rows ≡ Err t → fault ≡ Some t
refused_of None rows t e = absurd (cc)
refused_of (Some u) rows t e = cc

-- a refusal is of the first fault
pub refusals_are_of_the_first_fault : RefusalsAreOfTheFirstFault
refusals_are_of_the_first_fault doc t e = fault_is_first doc t (refused_of (document_fault doc) (table_in (pieces 0 0 doc)) t e)
