use Rattle.std.proofs.Common.{◌≡◌, ℕ, ◌<◌, Bool, true, false, ◌||◌, eqb, List, [], ◌∷◌, map, length, take, length-take, Some, None, MatchOption, Option, refl, sym, ap, ◌∙◌, arith}
use Rattle.std.specs.List.{AllWithin, HoldsAt, list_any}
use Rattle.std.proofs.lemmas.Bool.{eqb-true}
use Rattle.std.proofs.lemmas.List.Folds.{list_any_none, list_any_at}
use Rattle.std.proofs.lemmas.List.{get_or-take, get_or_default}
use Rattle.tables.specs.declared.statement.Statement.{Statement}
use Rattle.tables.specs.Rows.{statement_row}
use Rattle.rules.specs.Calls.{has_name}
use Rattle.reordering.specs.Places.{Found}
use Rattle.reordering.proofs.by_name.find.Goals as goal

module _ (name : ℕ) where
  -- a statement has the name
  abbrev is_named : Statement → Bool
  is_named s = eqb s.name.0 name

  -- rows have the name where statements do
  named_rows : (xs : List Statement) → has_name name (map statement_row xs) ≡ list_any is_named xs
  named_rows [] = refl
  named_rows (x ∷ xs) = ap (λ b. is_named x || b) (named_rows xs)

  -- the first statement that has it stands at its place
  found : (r : Option ℕ) (xs : List Statement) → MatchOption r (AllWithin (λ s. is_named s ≡ false) xs 0 (length xs)) (λ i. (i < length xs) × HoldsAt (λ s. is_named s ≡ true) xs i × AllWithin (λ s. is_named s ≡ false) xs 0 i) → Found xs name r
  found None xs none = named_rows xs ∙ list_any_none is_named xs (λ k d h. none k d (omega arith) h)
  found (Some i) [] first = absurd (omega (arith, first.0))
  found (Some i) (x ∷ xs) first =
      let above = take i (x ∷ xs) in
      let shorter = length-take i (x ∷ xs) in
      record {
        within = first.0;
        named = λ d. eqb-true _ _ (first.1 d);
        none_above = named_rows above ∙ list_any_none is_named above (λ k d h. ap is_named (get_or-take i (x ∷ xs) k d (omega arith)) ∙ first.2 k d (omega arith) (omega arith));
        there = named_rows (x ∷ xs) ∙ list_any_at is_named (x ∷ xs) i x first.0 (first.1 x);
      }

pub returns-then-eq : goal.returns-then-eq
returns-then-eq c =
    let xs = c.args.statements.now in
    let n = c.args.name.0 in
    found n (Some c.loop-at.at) xs (c.loop-at-test.true, (λ d. ap (is_named n) (get_or_default xs c.loop-at.at d _ c.loop-at-test.true) ∙ sym c.eq.ensures ∙ c.if-eq.true), c.loop-at.invariant)

pub returns : goal.returns
returns c =
    found c.args.name.0 None c.args.statements.now (λ k d low high. c.loop-at.invariant k d low (omega arith))
