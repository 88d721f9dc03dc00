-- The bytes of a table, part by part.
use Rattle.std.proofs.Common.{◌≡◌, ℕ, ◌+◌, false, List, [], ◌∷◌, ◌++◌, map, length, refl, ap, arith}
use Rattle.std.specs.List.{flat_map}
use Rattle.std.proofs.lemmas.List.{length-append}
use Rattle.bounded.specs.Held.{held}
use Rattle.tables.specs.declared.statement.Statement.{Statement}
use Rattle.tables.specs.declared.plan.Plan.{Plan}
use Rattle.tables.specs.Rows.{name_number, row_name, statement_row, plan_row, table_rows}
use Rattle.writing.specs.Bytes.{field_bytes, fields_bytes, statement_body, statements_bytes, plan_bytes, table_bytes}

-- the fields of statements and of plans as the code holds them
abbrev pub coded_statements : List Statement → List ℕ
coded_statements ss = fields_bytes 2 (λ s. statement_body false (statement_row s)) ss

abbrev pub coded_plans : List Plan → List ℕ
coded_plans ps = fields_bytes 3 (λ p. p.number ∷ map name_number (held p.names)) ps

statements_same : (ss : List Statement) → coded_statements ss ≡ statements_bytes [] (map statement_row ss)
statements_same [] = refl
statements_same (s ∷ ss) = ap (λ l. field_bytes 2 (statement_body false (statement_row s)) ++ l) (statements_same ss)

plans_same : (ps : List Plan) → coded_plans ps ≡ flat_map plan_bytes (map plan_row ps)
plans_same [] = refl
plans_same (p ∷ ps) = ap (λ l. plan_bytes (plan_row p) ++ l) (plans_same ps)

-- the version, the statements, the plans
pub table_parts : (ss : List Statement) (ps : List Plan) → 1 ∷ 0 ∷ 1 ∷ 1 ∷ (coded_statements ss ++ coded_plans ps) ≡ table_bytes (table_rows ss ps)
table_parts ss ps = let s = statements_same ss in let p = plans_same ps in cc

pub table_length : (ss : List Statement) (ps : List Plan) → length (table_bytes (table_rows ss ps)) ≡ 4 + (length (coded_statements ss) + length (coded_plans ps))
table_length ss ps =
    omega (arith, ap length (table_parts ss ps), length-append (coded_statements ss) (coded_plans ps))

-- the names of statements
pub names_same : (ss : List Statement) → map (λ (s : Statement). s.name.0) ss ≡ map row_name (map statement_row ss)
names_same [] = refl
names_same (s ∷ ss) = ap (λ l. s.name.0 ∷ l) (names_same ss)
