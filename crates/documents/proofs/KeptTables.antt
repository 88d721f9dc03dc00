-- The table of a document without fault keeps every rule.
use Rattle.std.proofs.Common.{◌≡◌, ℕ, ◌≤◌, true, false, ◌&&◌, ltb, leb, List, [], ◌∷◌, ◌++◌, map, length, drop, None, sym, refl, subst}
use Rattle.std.proofs.lemmas.List.{length-map, map_push}
use Rattle.std.proofs.lemmas.Bool.{and_parts, and_from, le-leb}
use Rattle.tables.specs.Limits.{last_name, counted_to}
use Rattle.tables.specs.Lists.{every, member, distinct, rising}
use Rattle.tables.specs.Rows.{StatementRow, PlanRow, row_name, row_number}
use Rattle.tables.specs.Rules.{statement_keeps, plan_keeps, table_keeps}
use Rattle.documents.specs.Fields.{Piece, field, latest, last_tag, byte}
use Rattle.documents.specs.Judging.{first_fault}
use Rattle.documents.specs.Documents.{row_in, plan_in, table_in, names_in, last_plan, top_fault}
use Rattle.documents.proofs.Pigeonhole.{distinct_at_most, rising_at_most}
use Rattle.documents.proofs.Pushing.{every_push, every_weaker, every_map, member_push, distinct_push, rising_push, said_more}
use Rattle.documents.proofs.Taking.{same}
use Rattle.documents.proofs.Passing.{PlanPasses}
use Rattle.documents.proofs.TopSteps.{TopSteps, tops_faultless}
use Rattle.documents.proofs.KeptStatements.{statement_kept}

-- ---- plans

-- the names that a plan without fault lists are at most as many as there are names
plan_short : (n : ℕ) (ms : List ℕ) → every (counted_to n) ms ≡ true → rising 0 ms ≡ true → leb (length ms) n ≡ true
plan_short n ms all up = le-leb (length ms) n (rising_at_most n ms all up)

-- a plan without fault keeps its rules
plan_kept : (last above : ℕ) (names body : List ℕ) → PlanPasses last above names body → plan_keeps names (plan_in body) ≡ true
plan_kept last above names body h =
    and_from (counted_to last_name (byte body 0)) _ h.in_range
    (and_from (leb (length (drop 1 body)) last_name) _ (plan_short last_name (drop 1 body) h.names_in_range h.names_rise)
    (and_from (rising 0 (drop 1 body)) (every (λ n. member n names) (drop 1 body)) h.names_rise h.names_known))

-- a plan keeps its rules where the table has one more statement
plan_still : (names : List ℕ) (m : ℕ) (p : PlanRow) → plan_keeps names p ≡ true → plan_keeps (names ++ m ∷ []) p ≡ true
plan_still names m p keeps =
    let a = and_parts (counted_to last_name p.number) (leb (length p.names) last_name && (rising 0 p.names && every (λ n. member n names) p.names)) keeps in
    let b = and_parts (leb (length p.names) last_name) (rising 0 p.names && every (λ n. member n names) p.names) a.1 in
    let c = and_parts (rising 0 p.names) (every (λ n. member n names) p.names) b.1 in
    let known = every_weaker (λ n. member n names) (λ n. member n (names ++ m ∷ [])) (λ n there. member_push n names m there) p.names c.1 in
    and_from (counted_to last_name p.number) _ a.0
    (and_from (leb (length p.names) last_name) _ b.0
    (and_from (rising 0 p.names) (every (λ n. member n (names ++ m ∷ [])) p.names) c.0 known))

-- ---- statements and plans together

-- statements and plans that keep the rules of a table, but for how many there are
record RowsKept (statements : List StatementRow) (plans : List PlanRow) : Type 0 where
  each : every statement_keeps statements ≡ true
  apart : distinct (map row_name statements) ≡ true
  planned : every (plan_keeps (map row_name statements)) plans ≡ true
  rises : rising 0 (map row_number plans) ≡ true

-- one more statement, whose name none of them has
kept_statement : (statements : List StatementRow) (plans : List PlanRow) (s : StatementRow) → RowsKept statements plans → statement_keeps s ≡ true → member s.name (map row_name statements) ≡ false → RowsKept (statements ++ s ∷ []) plans
kept_statement statements plans s so keeps unused =
    let names = map_push row_name statements s in
    record {
      each = every_push statement_keeps statements s so.each keeps;
      apart = subst (λ ns. distinct ns ≡ true) (sym names) (distinct_push (map row_name statements) s.name so.apart unused);
      planned = subst (λ ns. every (plan_keeps ns) plans ≡ true) (sym names)
          (every_weaker (plan_keeps (map row_name statements)) (plan_keeps (map row_name statements ++ s.name ∷ [])) (plan_still (map row_name statements) s.name) plans so.planned);
      rises = so.rises;
    }

-- one more plan, whose number is above theirs
kept_plan : (statements : List StatementRow) (plans : List PlanRow) (p : PlanRow) → RowsKept statements plans → plan_keeps (map row_name statements) p ≡ true → ltb (latest 0 (map row_number plans)) p.number ≡ true → RowsKept statements (plans ++ p ∷ [])
kept_plan statements plans p so keeps above =
    record {
      each = so.each;
      apart = so.apart;
      planned = every_push (plan_keeps (map row_name statements)) plans p so.planned keeps;
      rises = subst (λ ns. rising 0 ns ≡ true) (sym (map_push row_number plans p)) (rising_push 0 (map row_number plans) p.number so.rises above);
    }

-- such rows are a table that keeps every rule: there are few enough, since the names all differ and the plans' numbers rise
rows_keep : (statements : List StatementRow) (plans : List PlanRow) → RowsKept statements plans → table_keeps (record { statements = statements; plans = plans }) ≡ true
unfolding table_keeps
rows_keep statements plans so =
    let named : every (λ s. counted_to last_name (row_name s)) statements ≡ true =
    every_weaker statement_keeps (λ s. counted_to last_name (row_name s)) (λ s keeps. (and_parts (counted_to last_name s.name) _ keeps).0) statements so.each in
    let names = distinct_at_most last_name (map row_name statements) (every_map (counted_to last_name) row_name statements named) so.apart in
    let numbered : every (λ p. counted_to last_name (row_number p)) plans ≡ true =
    every_weaker (plan_keeps (map row_name statements)) (λ p. counted_to last_name (row_number p)) (λ p keeps. (and_parts (counted_to last_name p.number) _ keeps).0) plans so.planned in
    let numbers = rising_at_most last_name (map row_number plans) (every_map (counted_to last_name) row_number plans numbered) so.rises in
    and_from (leb (length statements) last_name) _ (le-leb (length statements) last_name (subst (λ n. n ≤ last_name) (length-map statements row_name) names))
    (and_from (every statement_keeps statements) _ so.each
    (and_from (distinct (map row_name statements)) _ so.apart
    (and_from (leb (length plans) last_name) _ (le-leb (length plans) last_name (subst (λ n. n ≤ last_name) (length-map plans row_number) numbers))
    (and_from (every (plan_keeps (map row_name statements)) plans) (rising 0 (map row_number plans)) so.planned so.rises))))

-- ---- a document's pieces

-- the table of the pieces keeps the rules, but for how many rows it has
abbrev TablesKept : List Piece → Type 0
TablesKept ps = RowsKept (table_in ps).statements (table_in ps).plans

-- each field without fault leaves such a table
tables_steps : TopSteps TablesKept
tables_steps = record {
  version = λ before place body h so.
      subst (λ bs. RowsKept (map row_in bs) (table_in (before ++ field place 1 body ∷ [])).plans) (sym (same place body before 2 1 refl))
      (subst (λ bs. RowsKept (table_in before).statements (map plan_in bs)) (sym (same place body before 3 1 refl)) so);
  statement = λ before place body due none so.
      let s = statement_kept (names_in before) place body none in
      subst (λ ss. RowsKept ss (table_in (before ++ field place 2 body ∷ [])).plans) (sym (said_more row_in 2 place body before refl))
      (subst (λ bs. RowsKept ((table_in before).statements ++ row_in body ∷ []) (map plan_in bs)) (sym (same place body before 3 2 refl))
      (kept_statement (table_in before).statements (table_in before).plans (row_in body) so s.0 s.1));
  plan = λ before place body h so.
      subst (λ bs. RowsKept (map row_in bs) (table_in (before ++ field place 3 body ∷ [])).plans) (sym (same place body before 2 3 refl))
      (subst (RowsKept (table_in before).statements) (sym (said_more plan_in 3 place body before refl))
      (kept_plan (table_in before).statements (table_in before).plans (plan_in body) so (plan_kept (last_tag before) (last_plan before) (names_in before) body h) h.rises));
}

-- the table that pieces without fault say keeps every rule
pub clean_pieces_keep_the_rules : (ps : List Piece) → first_fault top_fault [] ps ≡ None → table_keeps (table_in ps) ≡ true
clean_pieces_keep_the_rules ps none =
    rows_keep (table_in ps).statements (table_in ps).plans
    (tops_faultless TablesKept tables_steps ps none (record { each = refl; apart = refl; planned = refl; rises = refl }))
