-- Reading the written statements and plans of a table.
use Rattle.std.proofs.Common.{◌≡◌, ℕ, suc, Bool, true, false, ◌&&◌, ltb, leb, List, [], ◌∷◌, ◌++◌, map, length, sym, refl, ap, ◌∙◌, subst, append_assoc, arith}
use Rattle.std.specs.List.{flat_map}
use Rattle.std.proofs.lemmas.List.{map-append}
use Rattle.std.proofs.lemmas.Bool.{and_parts}
use Rattle.std.proofs.lemmas.Bool.Decides.{nat_tests}
use Rattle.tables.specs.Limits.{last_name, counted_to}
use Rattle.tables.specs.Lists.{every, member, distinct, rising}
use Rattle.tables.specs.Rows.{StatementRow, PlanRow, row_name, row_number}
use Rattle.tables.specs.Rules.{statement_keeps, plan_keeps}
use Rattle.documents.specs.Documents.{newest_number, statement_due}
use Rattle.documents.proofs.Passing.{PlanPasses}
use Rattle.documents.proofs.Pushing.{every_weaker}
use Rattle.writing.specs.Bytes.{field_bytes, statement_body, statements_bytes, plan_bytes}
use Rattle.writing.proofs.Fronts.{one_on, none_behind, not_before, above_the_last, member_passes}
use Rattle.writing.proofs.ReadStatements.{written_statement_is_read}
use Rattle.writing.proofs.ReadFields.{table, FieldsRead, statement_read, plan_read}

-- ---- statements

-- where the names all differ, a statement's name is not among those of the statements before it
name_not_before : (before : List StatementRow) (s : StatementRow) (behind all : List StatementRow) → before ++ s ∷ behind ≡ all → distinct (map row_name all) ≡ true → member s.name (map row_name before) ≡ false
name_not_before before s behind all is apart =
    not_before (map row_name before) s.name (map row_name behind) (ap distinct (sym (map-append row_name before (s ∷ behind)) ∙ ap (map row_name) is) ∙ apart)

module _ (doc : List ℕ) (all : List StatementRow) (apart : distinct (map row_name all) ≡ true) where
  -- the next statement is read
  next_statement_is_read : (before : List StatementRow) (s : StatementRow) (behind : List StatementRow) (spelled : Bool) (last : ℕ) (rest : List ℕ) → before ++ s ∷ behind ≡ all → statement_due last ≡ true → statement_keeps s ≡ true → FieldsRead doc (table before []) last (field_bytes 2 (statement_body spelled s) ++ rest) → FieldsRead doc (table (before ++ s ∷ []) []) 2 rest
  next_statement_is_read before s behind spelled last rest is due keeps h =
      statement_read doc before [] last (statement_body spelled s) rest s due
      (λ place. written_statement_is_read (map row_name before) place spelled s keeps (name_not_before before s behind all is apart)) h

  -- from any statement on, the statements are read, and a plan may follow
  pub statements_are_read : (before behind : List StatementRow) (spelled : List Bool) (last : ℕ) (rest : List ℕ) → before ++ behind ≡ all → statement_due last ≡ true → every statement_keeps behind ≡ true → FieldsRead doc (table before []) last (statements_bytes spelled behind ++ rest) → (end : ℕ) × (statement_due end ≡ true) × FieldsRead doc (table all []) end rest
  statements_are_read before [] spelled last rest is due keep h =
      (last, due, subst (λ ss. FieldsRead doc (table ss []) last rest) (none_behind before all is) h)
  statements_are_read before (s ∷ behind) [] last rest is due keep h =
      let two = and_parts (statement_keeps s) (every statement_keeps behind) keep in
      let on = next_statement_is_read before s behind false last (statements_bytes [] behind ++ rest) is due two.0
      (subst (FieldsRead doc (table before []) last) (append_assoc (field_bytes 2 (statement_body false s)) (statements_bytes [] behind) rest) h) in
      statements_are_read (before ++ s ∷ []) behind [] 2 rest (one_on before s behind all is) refl two.1 on
  statements_are_read before (s ∷ behind) (b ∷ spelled) last rest is due keep h =
      let two = and_parts (statement_keeps s) (every statement_keeps behind) keep in
      let on = next_statement_is_read before s behind b last (statements_bytes spelled behind ++ rest) is due two.0
      (subst (FieldsRead doc (table before []) last) (append_assoc (field_bytes 2 (statement_body b s)) (statements_bytes spelled behind) rest) h) in
      statements_are_read (before ++ s ∷ []) behind spelled 2 rest (one_on before s behind all is) refl two.1 on

-- ---- plans

-- after a field of a document a plan may stand
abbrev pub plan_due : ℕ → Bool
plan_due last = leb 1 last && leb last 3

-- a plan may stand where a statement may
pub statement_or_plan : (last : ℕ) → statement_due last ≡ true → plan_due last ≡ true
statement_or_plan last due = grind (arith, nat_tests)

-- one number more than a list within a limit is within the next limit
one_longer : (limit : ℕ) (n : ℕ) → leb n limit ≡ true → counted_to (suc limit) (suc n) ≡ true
one_longer limit n few = grind (arith, nat_tests)

-- where the numbers of the plans rise, a plan's is above the last of those before it
number_above : (before : List PlanRow) (p : PlanRow) (behind all : List PlanRow) → before ++ p ∷ behind ≡ all → rising 0 (map row_number all) ≡ true → ltb (newest_number before) p.number ≡ true
number_above before p behind all is up =
    above_the_last 0 (map row_number before) p.number (map row_number behind) (ap (rising 0) (sym (map-append row_number before (p ∷ behind)) ∙ ap (map row_number) is) ∙ up)

module _ (names : List ℕ) (named : every (counted_to last_name) names ≡ true) where
  -- a written plan that keeps its rules meets those of its field where it is due and its number is above those before
  written_plan_passes : (last above : ℕ) (p : PlanRow) → plan_due last ≡ true → ltb above p.number ≡ true → plan_keeps names p ≡ true → PlanPasses last above names (p.number ∷ p.names)
  written_plan_passes last above p due rises keeps =
      let known : Bool = every (λ n. member n names) p.names in
      let a = and_parts (counted_to last_name p.number) (leb (length p.names) last_name && (rising 0 p.names && known)) keeps in
      let b = and_parts (leb (length p.names) last_name) (rising 0 p.names && known) a.1 in
      let c = and_parts (rising 0 p.names) known b.1 in
      record {
        due = due;
        sized = one_longer last_name (length p.names) b.0;
        in_range = a.0;
        names_in_range = every_weaker (λ n. member n names) (counted_to last_name) (λ n among. member_passes (counted_to last_name) n names named among) p.names c.1;
        rises = rises;
        names_rise = c.0;
        names_known = c.1;
      }

module _ (doc : List ℕ) (statements : List StatementRow) (named : every (counted_to last_name) (map row_name statements) ≡ true) (all : List PlanRow) (up : rising 0 (map row_number all) ≡ true) where
  -- from any plan on, the plans are read
  pub plans_are_read : (before behind : List PlanRow) (last : ℕ) (rest : List ℕ) → before ++ behind ≡ all → plan_due last ≡ true → every (plan_keeps (map row_name statements)) behind ≡ true → FieldsRead doc (table statements before) last (flat_map plan_bytes behind ++ rest) → (end : ℕ) × (plan_due end ≡ true) × FieldsRead doc (table statements all) end rest
  plans_are_read before [] last rest is due keep h =
      (last, due, subst (λ ps. FieldsRead doc (table statements ps) last rest) (none_behind before all is) h)
  plans_are_read before (p ∷ behind) last rest is due keep h =
      let two = and_parts (plan_keeps (map row_name statements) p) (every (plan_keeps (map row_name statements)) behind) keep in
      let ok = written_plan_passes (map row_name statements) named last (newest_number before) p due (number_above before p behind all is up) two.0 in
      let on = plan_read doc statements before last (p.number ∷ p.names) (flat_map plan_bytes behind ++ rest) ok
      (subst (FieldsRead doc (table statements before) last) (append_assoc (plan_bytes p) (flat_map plan_bytes behind) rest) h) in
      plans_are_read (before ++ p ∷ []) behind 3 rest (one_on before p behind all is) refl two.1 on
