-- What a document may hold, what is wrong with it, and the table that it says.
-- Its fields are, in this order: 1, the version; 2, statements; 3, action plans.
use Rattle.std.specs.Prelude.{ℕ, suc, Bool, true, cond, not, ◌&&◌, List, [], ◌∷◌, map, length, drop, Some, None, Ok, Err, Option, Result, ◌==◌, nat_le, nat_lt}
use Rattle.tables.specs.Limits.{last_name, counted_to}
use Rattle.tables.specs.Lists.{every, member, rising}
use Rattle.tables.specs.Rows.{StatementRow, PlanRow, TableRows, row_name, row_number}
use Rattle.tables.specs.Refusals.{Told, refused_at}
use Rattle.documents.specs.Fields.{Piece, field, cut, pieces, place_of, bodies, latest, last_tag, byte}
use Rattle.documents.specs.Judging.{Rules, first, at, or_else, first_fault}
use Rattle.documents.specs.Statements.{statement_in, statement_fault}

-- ---- what the fields say

-- a statement's body
abbrev pub row_in : List ℕ → StatementRow
row_in body = statement_in (pieces 0 0 body)

-- a plan's body: its number, then the names that it lists
abbrev pub plan_in : List ℕ → PlanRow
plan_in body = record { number = byte body 0; names = drop 1 body }

-- the table that the pieces of a document without fault say
abbrev pub table_in : List Piece → TableRows
table_in ps = record { statements = map row_in (bodies 2 ps); plans = map plan_in (bodies 3 ps) }

-- the names of the statements among the pieces
abbrev pub names_in : List Piece → List ℕ
names_in ps = map row_name (table_in ps).statements

-- the number of the last of some plans, 0 where there is none
abbrev pub newest_number : List PlanRow → ℕ
newest_number plans = latest 0 (map row_number plans)

-- the number of the last plan among the pieces
abbrev pub last_plan : List Piece → ℕ
last_plan ps = newest_number (table_in ps).plans

-- ---- what is wrong with each kind of field

-- the version comes first, alone, and is 1
unfoldable pub version_rules : (last : ℕ) → List ℕ → Rules
version_rules last body =
    (not (last == 0), 2)
    ∷ (not (length body == 1), 2)
    ∷ (not (byte body 0 == 1), 4)
    ∷ []

-- statements follow the version or each other
abbrev pub statement_due : ℕ → Bool
statement_due last = nat_le 1 last && nat_le last 2

-- plans come last; their numbers rise from `above`, their names rise and are among `names`, those of the table
unfoldable pub plan_rules : (last above : ℕ) (names : List ℕ) → List ℕ → Rules
plan_rules last above names body =
    (not (nat_le 1 last && nat_le last 3), 2)
    ∷ (not (counted_to (suc last_name) (length body)), 2)
    ∷ (not (counted_to last_name (byte body 0)), 4)
    ∷ (not (every (counted_to last_name) (drop 1 body)), 4)
    ∷ (not (nat_lt above (byte body 0)), 5)
    ∷ (not (rising 0 (drop 1 body)), 5)
    ∷ (not (every (λ n. member n names) (drop 1 body)), 5)
    ∷ []

-- what is wrong with a piece of a document itself, after the pieces before it
abbrev pub top_rules : List Piece → Piece → Rules
top_rules before (cut place) = (true, 1) ∷ []
top_rules before (field place tag body) =
    cond (tag == 1) (version_rules (last_tag before) body)
    (cond (tag == 2) ((not (statement_due (last_tag before)), 2) ∷ [])
    (cond (tag == 3) (plan_rules (last_tag before) (last_plan before) (names_in before) body)
    ((true, 2) ∷ [])))

-- what is wrong inside a piece: a statement has fields of its own
abbrev pub inner_fault : List Piece → Piece → Option Told
inner_fault before (cut place) = None
inner_fault before (field place tag body) = cond (tag == 2) (statement_fault (names_in before) place body) None

-- ---- the document

-- the fault of a piece: its own, then one inside it
abbrev pub top_fault : List Piece → Piece → Option Told
top_fault before p = or_else (at (place_of p) (first (top_rules before p))) (inner_fault before p)

-- a document without any field lacks its version, and that is at 0
abbrev pub no_version : ℕ → Option Told
no_version last = cond (nat_le 1 last) None (Some (refused_at 2 0))

-- the first fault of a document: of its pieces, then what is missing
abbrev pub document_fault : List ℕ → Option Told
document_fault doc =
    or_else (first_fault top_fault [] (pieces 0 0 doc))
    (no_version (last_tag (pieces 0 0 doc)))

-- a fault is answered, and where there is none the table
abbrev pub unless : Option Told → TableRows → Result TableRows Told
unless None rows = Ok rows
unless (Some fault) rows = Err fault

-- what reading a document answers: its table, or the refusal of its first fault
abbrev pub reading : List ℕ → Result TableRows Told
reading doc = unless (document_fault doc) (table_in (pieces 0 0 doc))
