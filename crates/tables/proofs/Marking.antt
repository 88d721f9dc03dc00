-- A statement's mark changed.
use Rattle.std.proofs.Common.{◌≡◌, ℕ, zero, suc, ◌<◌, ◌≤◌, ◌&&◌, leb, List, [], ◌∷◌, map, length, get_or, set, sym, refl, ap, ◌∙◌, arith}
use Rattle.tables.specs.declared.statement.Mark.{Mark}
use Rattle.tables.specs.declared.statement.Statement.{Statement}
use Rattle.tables.specs.Limits.{last_name}
use Rattle.tables.specs.Lists.{every, distinct, rising}
use Rattle.tables.specs.Rows.{StatementRow, PlanRow, statement_row, row_name, row_number, with_row_mark, marked_at}
use Rattle.tables.specs.Rules.{statement_keeps, plan_keeps, table_keeps}

-- past the end nothing changes
pub marked_past : (at : ℕ) (mark : Mark) (xs : List StatementRow) → length xs ≤ at → marked_at at mark xs ≡ xs
marked_past at mark [] h = refl
marked_past zero mark (x ∷ xs) h = absurd (omega arith)
marked_past (suc at) mark (x ∷ xs) h = ap (λ ys. x ∷ ys) (marked_past at mark xs (omega arith))

-- a statement replaced by itself with another mark
pub marked_set : (xs : List Statement) (at : ℕ) (mark : Mark) (d s : Statement) → at < length xs → statement_row s ≡ with_row_mark mark (statement_row (get_or xs at d))
    → map statement_row (set xs at s) ≡ marked_at at mark (map statement_row xs)
marked_set [] at mark d s h e = absurd (omega arith)
marked_set (x ∷ xs) zero mark d s h e = ap (λ r. r ∷ map statement_row xs) e
marked_set (x ∷ xs) (suc at) mark d s h e = ap (λ ys. statement_row x ∷ ys) (marked_set xs at mark d s (omega arith) e)

-- the same of a list that was read through a slice
pub marked_from : (held-before read held_after : List Statement) (at : ℕ) (mark : Mark) (d s : Statement) → read ≡ held-before
    → held_after ≡ set held-before at s → at < length read → statement_row s ≡ with_row_mark mark (statement_row (get_or read at d))
    → map statement_row held_after ≡ marked_at at mark (map statement_row held-before)
marked_from before read after at mark d s same changed h e =
    ap (map statement_row) changed
    ∙ ap (λ xs. map statement_row (set xs at s)) (sym same)
    ∙ marked_set read at mark d s h e
    ∙ ap (λ xs. marked_at at mark (map statement_row xs)) same

module _ (mark : Mark) where
  marked_length : (at : ℕ) (xs : List StatementRow) → length (marked_at at mark xs) ≡ length xs
  marked_length at [] = refl
  marked_length zero (x ∷ xs) = refl
  marked_length (suc at) (x ∷ xs) = ap suc (marked_length at xs)

  marked_names : (at : ℕ) (xs : List StatementRow) → map row_name (marked_at at mark xs) ≡ map row_name xs
  marked_names at [] = refl
  marked_names zero (x ∷ xs) = refl
  marked_names (suc at) (x ∷ xs) = ap (λ ns. x.name ∷ ns) (marked_names at xs)

  marked_every : (at : ℕ) (xs : List StatementRow) → every statement_keeps (marked_at at mark xs) ≡ every statement_keeps xs
  marked_every at [] = refl
  marked_every zero (x ∷ xs) = refl
  marked_every (suc at) (x ∷ xs) = ap (λ b. statement_keeps x && b) (marked_every at xs)

  -- no rule of a table is about marks
  pub marked_keeps : (at : ℕ) (xs : List StatementRow) (plans : List PlanRow)
      → table_keeps (record { statements = marked_at at mark xs; plans = plans }) ≡ table_keeps (record { statements = xs; plans = plans })
  unfolding table_keeps
  marked_keeps at xs plans = λ i.
      leb (marked_length at xs i) last_name
      && (marked_every at xs i
      && (distinct (marked_names at xs i)
      && (leb (length plans) last_name
      && (every (plan_keeps (marked_names at xs i)) plans
      && rising 0 (map row_number plans)))))
