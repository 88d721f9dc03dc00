-- When one table is a rearrangement of another.
use Rattle.std.specs.Prelude.{◌≡◌, ◌⊎◌, ◌↔◌, List, [], ◌∷◌}
use Rattle.tables.specs.Lists.{Among}
use Rattle.tables.specs.Rows.{StatementRow, TableRows}
use Rattle.rules.specs.Touching.{Touch}

-- a stands somewhere above b
abbrev pub Before : {X : Type 0} → X → X → List X → Type 0
Before a b [] = ⊥
Before a b (x ∷ xs) = ((x ≡ a) × Among b xs) ⊎ Before a b xs

-- The same statements, line by line and with the same marks, and the same plans; each touching pair in the same order.
pub record Rearrangement (t u : TableRows) : Type 0 where
  pub same : (s : StatementRow) → Among s t.statements ↔ Among s u.statements
  pub order : (a b : StatementRow) → Touch a b → Before a b t.statements → Before a b u.statements
  pub plans : t.plans ≡ u.plans
