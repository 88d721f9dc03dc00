-- What the functions that read fields answer.
use Rattle.std.specs.Prelude.{◌≡◌, ℕ, ◌+◌, Bool, ◌&&◌, List, [], ◌∷◌, ◌++◌, map, length, Some, None, Option, MatchOption, Result, MatchResult, nat_le}
use Rattle.tables.specs.declared.codes.tags.StatementField.{StatementField}
use Rattle.tables.specs.declared.refusal.Refusal.{Refusal}
use Rattle.tables.specs.declared.refusal.Refusal.TheVariants.{Truncated, NotDue}
use Rattle.tables.specs.declared.statement.Statement.{Statement}
use Rattle.tables.specs.Decoded.{decoded}
use Rattle.tables.specs.Refusals.{told}
use Rattle.tables.specs.Rows.{row_name, statement_row}
use Rattle.tables.specs.Tags.{statement_tag}
use Rattle.documents.specs.declared.field.Field.{Field}
use Rattle.documents.specs.declared.fields.Fields.{Fields}
use Rattle.documents.specs.Fields.{Piece, field, cut, pieces, last_tag, tag_before}
use Rattle.documents.specs.Judging.{Rules, first, at}
use Rattle.documents.specs.Statements.{part_fault, statement_in}

-- the names of statements
abbrev pub names_of : List Statement → List ℕ
names_of statements = map row_name (map statement_row statements)

-- a field of the code, as a piece
abbrev pub piece_of : {K : Type 0} → (K → ℕ) → Field K → Piece
piece_of tag f = field f.place (tag f.kind) f.body.now

-- a piece that is none of these kinds of field, and its refusal: a cut one, or one whose tag is none of theirs
abbrev pub IsRefused : {K : Type 0} → (K → ℕ) → List K → Piece → Refusal → Type 0
IsRefused tag kinds (cut place) e = e ≡ Truncated place
IsRefused tag kinds (field place t body) e = (decoded tag kinds t ≡ None) × (e ≡ NotDue place)

-- The next of the fields that are left: none at the end, else the one at the front, or the refusal of what is none.
abbrev pub NextField : {K : Type 0} → (K → ℕ) → List K → Fields K → Option (Result (Field K) Refusal) → Fields K → Type 0
NextField tag kinds s r t = MatchOption r (s.rest.now ≡ [])
    (λ read. MatchResult read
    (λ f. (pieces s.place 0 s.rest.now ≡ piece_of tag f ∷ pieces t.place 0 t.rest.now) × (f.place ≡ s.place) × (f.before ≡ s.before)
    × (t.before ≡ Some f.kind) × (t.place ≡ s.place + (3 + length f.body.now)) × (3 + length f.body.now + length t.rest.now ≡ length s.rest.now))
    (λ e. (p : Piece) × (ps : List Piece) × (pieces s.place 0 s.rest.now ≡ p ∷ ps) × IsRefused tag kinds p e × (t.rest.now ≡ [])))

-- the field before has a tag from that of `first` to the field's own
abbrev pub follows : {K : Type 0} → (K → ℕ) → K → Field K → Bool
follows tag first f = nat_le (tag first) (tag_before tag f.before) && nat_le (tag_before tag f.before) (tag f.kind)

-- one field read: its value, where no rule is broken, or the refusal of the first broken rule
abbrev pub Read : {X : Type 0} → ℕ → Rules → (X → Type 0) → Result X Refusal → Type 0
Read place rules Value r = MatchResult r
    (λ v. (first rules ≡ None) × Value v)
    (λ e. at place (first rules) ≡ Some (told e))

-- One field taken into a statement that says what the fields before it say.
abbrev pub Taken : (used : List ℕ) → Field StatementField → (s s' : Statement) → Result (Unit {0}) Refusal → Type 0
Taken used f s s' r = (before : List Piece) → statement_row s ≡ statement_in before → tag_before statement_tag f.before ≡ last_tag before → MatchResult r
    (λ _. (part_fault used before (piece_of statement_tag f) ≡ None) × (statement_row s' ≡ statement_in (before ++ piece_of statement_tag f ∷ [])))
    (λ e. part_fault used before (piece_of statement_tag f) ≡ Some (told e))
