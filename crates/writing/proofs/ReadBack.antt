-- Reading the bytes of a table that keeps the rules gives that table, so tables with the same bytes are the same.
use Rattle.std.proofs.Common.{◌≡◌, ℕ, Bool, true, ◌&&◌, leb, List, [], ◌∷◌, ◌++◌, map, length, Some, None, Ok, sym, refl, ap, ◌∙◌, subst}
use Rattle.std.specs.List.{flat_map}
use Rattle.std.proofs.lemmas.List.{append-nil}
use Rattle.std.proofs.lemmas.Bool.{and_parts, cond-true}
use Rattle.tables.specs.Limits.{last_name, counted_to}
use Rattle.tables.specs.Lists.{every, distinct, rising}
use Rattle.tables.specs.Rows.{StatementRow, TableRows, row_name, row_number}
use Rattle.tables.specs.Rules.{statement_keeps, plan_keeps, table_keeps}
use Rattle.tables.specs.Refusals.{refused_at}
use Rattle.documents.specs.Fields.{pieces, last_tag}
use Rattle.documents.specs.Judging.{or_else}
use Rattle.documents.specs.Documents.{table_in, no_version, document_fault, unless, reading}
use Rattle.documents.proofs.Going.{ended}
use Rattle.documents.proofs.Pushing.{every_weaker, every_map}
use Rattle.writing.specs.Bytes.{statements_bytes, plan_bytes, spelled_bytes}
use Rattle.writing.specs.Written.{WrittenTablesAreReadBack, SameBytesSameTable}
use Rattle.writing.proofs.ReadFields.{table, FieldsRead, nothing_read, version_read}
use Rattle.writing.proofs.ReadRows.{plan_due, statement_or_plan, statements_are_read, plans_are_read}

-- what a table that keeps the rules keeps, but for how many rows it has
record RowsKeep (t : TableRows) : Type 0 where
  each : every statement_keeps t.statements ≡ true
  apart : distinct (map row_name t.statements) ≡ true
  planned : every (plan_keeps (map row_name t.statements)) t.plans ≡ true
  rises : rising 0 (map row_number t.plans) ≡ true

-- its parts, one by one
rows_keep : (t : TableRows) → table_keeps t ≡ true → RowsKeep t
unfolding table_keeps
rows_keep t keeps =
    let names : List ℕ = map row_name t.statements in
    let plans : Bool = every (plan_keeps names) t.plans && rising 0 (map row_number t.plans) in
    let few : Bool = leb (length t.plans) last_name in
    let a = and_parts (leb (length t.statements) last_name) (every statement_keeps t.statements && (distinct names && (few && plans))) keeps in
    let b = and_parts (every statement_keeps t.statements) (distinct names && (few && plans)) a.1 in
    let c = and_parts (distinct names) (few && plans) b.1 in
    let d = and_parts few plans c.1 in
    let e = and_parts (every (plan_keeps names) t.plans) (rising 0 (map row_number t.plans)) d.1 in
    record { each = b.0; apart = c.0; planned = e.0; rises = e.1 }

-- the names of statements that keep the rules are in range
names_in_range : (ss : List StatementRow) → every statement_keeps ss ≡ true → every (counted_to last_name) (map row_name ss) ≡ true
names_in_range ss each =
    every_map (counted_to last_name) row_name ss
    (every_weaker statement_keeps (λ s. counted_to last_name (row_name s)) (λ s keeps. (and_parts (counted_to last_name s.name) _ keeps).0) ss each)

-- a written table is read from its version to its last plan
rows_are_read : (t : TableRows) (spelled : List Bool) → RowsKeep t → (end : ℕ) × (plan_due end ≡ true) × FieldsRead (spelled_bytes spelled t) t end []
rows_are_read t spelled k =
    let doc : List ℕ = spelled_bytes spelled t in
    let plans : List ℕ = flat_map plan_bytes t.plans in
    let a = version_read doc [] [] 0 (1 ∷ []) (statements_bytes spelled t.statements ++ plans) (record { due = refl; sized = refl; one = refl }) (nothing_read doc) in
    let b = statements_are_read doc t.statements k.apart [] t.statements spelled 1 plans refl refl k.each a in
    plans_are_read doc t.statements (names_in_range t.statements k.each) t.plans k.rises [] t.plans b.0 [] refl (statement_or_plan b.0 b.1) k.planned
    (subst (FieldsRead doc (table t.statements []) b.0) (sym (append-nil plans)) b.2)

-- where all of a document is read, its reading is the table that its fields say
read_to_its_end : (doc : List ℕ) (t : TableRows) (end : ℕ) → plan_due end ≡ true → FieldsRead doc t end [] → reading doc ≡ Ok t
read_to_its_end doc t end due h =
    let two = ended h.passed refl in
    let last : last_tag (pieces 0 0 doc) ≡ end = ap last_tag (sym two.0) ∙ sym h.passed.tag in
    let versioned : no_version end ≡ None = cond-true (leb 1 end) None (Some (refused_at 2 0)) (and_parts (leb 1 end) (leb end 3) due).0 in
    let none : document_fault doc ≡ None = ap (λ o. or_else o (no_version (last_tag (pieces 0 0 doc)))) two.1 ∙ ap no_version last ∙ versioned in
    ap (λ o. unless o (table_in (pieces 0 0 doc))) none ∙ ap Ok (ap table_in (sym two.0) ∙ sym h.says)

-- reading the bytes of a table that keeps the rules gives that table, with absent marks spelled out or not
pub written_tables_are_read_back : WrittenTablesAreReadBack
written_tables_are_read_back t spelled keeps =
    let all = rows_are_read t spelled (rows_keep t keeps) in
    read_to_its_end (spelled_bytes spelled t) t all.0 all.1 all.2

-- tables that keep the rules and have the same bytes are the same table
pub same_bytes_same_table : SameBytesSameTable
same_bytes_same_table t u t-keeps u-keeps same =
    let a = written_tables_are_read_back t [] t-keeps in
    let b = written_tables_are_read_back u [] u-keeps in
    let both : Ok t ≡ Ok u = sym a ∙ ap reading same ∙ b in
    cc
