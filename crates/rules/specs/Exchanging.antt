-- Which neighbours of a table may be exchanged.
use Rattle.std.specs.Prelude.{◌≡◌, true, ◌↔◌, List, [], ◌∷◌, ◌++◌, Err}
use Rattle.tables.specs.declared.refusal.Refusal.TheVariants.{TouchingPair}
use Rattle.tables.specs.Refusals.{told}
use Rattle.tables.specs.Rows.{StatementRow, PlanRow, TableRows}
use Rattle.tables.specs.Rules.{table_keeps}
use Rattle.rules.specs.Touching.{Touch}
use Rattle.rules.specs.Rearranging.{Rearrangement}
use Rattle.rules.specs.Reordering.{Answer, Reorders}

-- a table of some statements and plans
abbrev pub table_of : List StatementRow → List PlanRow → TableRows
table_of statements plans = record { statements = statements; plans = plans }

-- Two neighbours, x above y, and the same table with y above x.
pub record OnlyUntouchingNeighboursExchange : Type 0 where
  -- where they do not touch, the one table is a rearrangement of the other
  pub apart : (above below : List StatementRow) (x y : StatementRow) (plans : List PlanRow) → (Touch x y → ⊥)
      → Rearrangement (table_of (above ++ x ∷ y ∷ below) plans) (table_of (above ++ y ∷ x ∷ below) plans)
  -- where they touch, it is not
  pub touching : (above below : List StatementRow) (x y : StatementRow) (plans : List PlanRow) → Touch x y
      → table_keeps (table_of (above ++ x ∷ y ∷ below) plans) ≡ true
      → Rearrangement (table_of (above ++ x ∷ y ∷ below) plans) (table_of (above ++ y ∷ x ∷ below) plans) → ⊥
  -- and a reorder to the names of y and x, where the table has no others, is refused by 11 and leaves the table
  pub refused : (x y : StatementRow) (plans : List PlanRow) → Touch x y → table_keeps (table_of (x ∷ y ∷ []) plans) ≡ true
      → (r : Answer) (t' : TableRows)
      → Reorders (y.name ∷ x.name ∷ []) (table_of (x ∷ y ∷ []) plans) r t'
      ↔ ((r ≡ Err (told (TouchingPair (record { 0 = x.name }) (record { 0 = y.name })))) × (t' ≡ table_of (x ∷ y ∷ []) plans))
