-- The statement of a name, and its mark changed.
use Rattle.std.proofs.Common.{◌≡◌, ℕ, zero, suc, ◌<◌, cond, List, [], ◌∷◌, map, length, get_or, sym, refl, ap, ◌∙◌, ap₂, inl, inr, arith, eq-eqb, ne_eqb}
use Rattle.tables.specs.declared.statement.Mark.{Mark}
use Rattle.tables.specs.declared.statement.Statement.{Statement}
use Rattle.tables.specs.Lists.{Among}
use Rattle.tables.specs.Rows.{StatementRow, statement_row, row_name, with_row_mark, marked_at}
use Rattle.rules.specs.Calls.{with_mark}
use Rattle.rules.proofs.Orders.{OwnKeys, key_once}
use Rattle.scanning.proofs.Loops.{no_statement, among_at}

module _ (name : ℕ) (mark : Mark) where
  other_mark : (s : StatementRow) → (s.name ≡ name → ⊥) → with_mark name mark s ≡ s
  other_mark s n = λ i. record {
    name = s.name;
    mark = ap (λ b. cond b mark s.mark) (ne_eqb s.name name n) i;
    tests = s.tests;
    thens = s.thens;
    elses = s.elses;
  }

  own_mark : (s : StatementRow) → s.name ≡ name → with_mark name mark s ≡ with_row_mark mark s
  own_mark s e = λ i. record {
    name = s.name;
    mark = ap (λ b. cond b mark s.mark) (eq-eqb s.name name e) i;
    tests = s.tests;
    thens = s.thens;
    elses = s.elses;
  }

  other_marks : (xs : List StatementRow) → ((s : StatementRow) → Among s xs → s.name ≡ name → ⊥) → map (with_mark name mark) xs ≡ xs
  other_marks [] h = refl
  other_marks (x ∷ xs) h = ap₂ (λ (y : StatementRow) (ys : List StatementRow). y ∷ ys) (other_mark x (h x (inl refl))) (other_marks xs (λ s m. h s (inr m)))

  -- where each has a name of its own, the mark at the place of a name is that name's
  pub marked_by_name : (xs : List Statement) (at : ℕ) → at < length xs → OwnKeys row_name (map statement_row xs) → (get_or xs at no_statement).name.0 ≡ name
      → marked_at at mark (map statement_row xs) ≡ map (with_mark name mark) (map statement_row xs)
  marked_by_name [] at h d e = absurd (omega arith)
  marked_by_name (x ∷ xs) zero h d e =
      let row = statement_row x in
      ap₂ (λ (y : StatementRow) (ys : List StatementRow). y ∷ ys) (sym (own_mark row e))
      (sym (other_marks (map statement_row xs) (λ s m k. key_once row_name row s (map statement_row xs) d m (k ∙ sym e))))
  marked_by_name (x ∷ xs) (suc at) h d e =
      let row = statement_row x in
      let within : at < length xs = omega arith in
      ap₂ (λ (y : StatementRow) (ys : List StatementRow). y ∷ ys)
      (sym (other_mark row (λ k. key_once row_name row (statement_row (get_or xs at no_statement)) (map statement_row xs) d (among_at statement_row xs at no_statement within) (e ∙ sym k))))
      (marked_by_name xs at within d.1 e)
