-- Writing and reading are inverse.
use Rattle.std.specs.Prelude.{◌≡◌, ℕ, ◌+◌, ◌*◌, ◌<◌, ◌≤◌, Bool, true, ◌↔◌, List, length, Ok, All}
use Rattle.tables.specs.Limits.{max_tests, max_actions, last_name}
use Rattle.tables.specs.Rows.{TableRows}
use Rattle.tables.specs.Rules.{table_keeps}
use Rattle.documents.specs.Documents.{reading}
use Rattle.writing.specs.Bytes.{spelled_bytes, table_bytes}

-- each is a byte
abbrev pub AreBytes : List ℕ → Type 0
AreBytes bs = All (λ b. b < 256) bs

-- reading the bytes of a table that keeps the rules gives that table, with absent marks spelled out or not
abbrev pub WrittenTablesAreReadBack : Type 0
WrittenTablesAreReadBack = (t : TableRows) (spelled : List Bool) → table_keeps t ≡ true → reading (spelled_bytes spelled t) ≡ Ok t

-- an accepted document is the bytes of its table, but that it may spell out absent marks
abbrev pub AcceptedDocumentsAreWrittenTables : Type 0
AcceptedDocumentsAreWrittenTables = (doc : List ℕ) (t : TableRows) → AreBytes doc → reading doc ≡ Ok t → (spelled : List Bool) × (doc ≡ spelled_bytes spelled t)

-- tables that keep the rules and have the same bytes are the same table
abbrev pub SameBytesSameTable : Type 0
SameBytesSameTable = (t u : TableRows) → table_keeps t ≡ true → table_keeps u ≡ true → table_bytes t ≡ table_bytes u → t ≡ u

-- the length of the longest document: the version; as many statements and plans as there are names; each statement with its
-- name, its mark, the most tests and the most actions in both branches; each plan with every name
abbrev pub longest : ℕ
longest = 4 + last_name * (3 + 4 + 4 + 10 * max_tests + 2 * (7 * max_actions)) + last_name * (3 + 1 + last_name)

-- no accepted document is longer
abbrev pub NoDocumentIsLonger : Type 0
NoDocumentIsLonger = (doc : List ℕ) (t : TableRows) → AreBytes doc → reading doc ≡ Ok t → length doc ≤ longest

-- and a table that keeps the rules has a document of that length
abbrev pub OneDocumentIsThatLong : Type 0
OneDocumentIsThatLong = (t : TableRows) × (spelled : List Bool) × (table_keeps t ≡ true) × (length (spelled_bytes spelled t) ≡ longest)

-- a document is accepted exactly when it is the writing of some table that keeps the rules, absent marks spelled out or not
abbrev pub AcceptanceIsBeingAWrittenTable : Type 0
AcceptanceIsBeingAWrittenTable = (doc : List ℕ) → AreBytes doc
    → ((t : TableRows) × (reading doc ≡ Ok t)) ↔ ((t : TableRows) × (spelled : List Bool) × (table_keeps t ≡ true) × (doc ≡ spelled_bytes spelled t))
