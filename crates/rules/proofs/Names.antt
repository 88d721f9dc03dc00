-- What the rules of a table say of the names of its statements.
use Rattle.std.proofs.Common.{◌≡◌, ℕ, ◌≤◌, Bool, true, false, not, eqb, leb, List, [], ◌∷◌, map, length, sym, ap, ◌∙◌, inl, inr}
use Rattle.std.proofs.lemmas.Bool.{and_parts, or_parts, not-true, eqb-false}
use Rattle.tables.specs.Limits.{last_name, counted_to}
use Rattle.tables.specs.Lists.{Among, every, member, distinct}
use Rattle.tables.specs.Rows.{StatementRow, TableRows, row_name}
use Rattle.tables.specs.Rules.{statement_keeps, table_keeps}
use Rattle.documents.proofs.Pigeonhole.{counted_bounds}
use Rattle.rules.proofs.Orders.{OwnKeys}

-- a number that is not in a list is not among it
pub not_among : (n : ℕ) (ns : List ℕ) → member n ns ≡ false → Among n ns → ⊥
not_among n [] e m = m
not_among n (k ∷ ns) e (inl p) = let two = or_parts (eqb n k) (member n ns) e in eqb-false n k two.0 (sym p)
not_among n (k ∷ ns) e (inr m) = let two = or_parts (eqb n k) (member n ns) e in not_among n ns two.1 m

-- numbers of which none is there twice are keys of their statements
pub own_names : (xs : List StatementRow) → distinct (map row_name xs) ≡ true → OwnKeys row_name xs
own_names [] e = tt
own_names (x ∷ xs) e =
    let two = and_parts (not (member x.name (map row_name xs))) (distinct (map row_name xs)) e in
    (not_among x.name (map row_name xs) (not-true _ two.0), own_names xs two.1)

every_among : {X : Type 0} (passes : X → Bool) (x : X) (xs : List X) → every passes xs ≡ true → Among x xs → passes x ≡ true
every_among passes x [] e m = absurd m
every_among passes x (y ∷ xs) e (inl p) = sym (ap passes p) ∙ (and_parts (passes y) (every passes xs) e).0
every_among passes x (y ∷ xs) e (inr m) = every_among passes x xs (and_parts (passes y) (every passes xs) e).1 m

-- The statements of a table that keeps the rules, and their names.
pub record WellNamed (t : TableRows) : Type 0 where
  pub keep : every statement_keeps t.statements ≡ true
  pub bounds : (s : StatementRow) → Among s t.statements → (1 ≤ s.name) × (s.name ≤ last_name)
  pub own : OwnKeys row_name t.statements
  pub distinct_names : distinct (map row_name t.statements) ≡ true

pub well_named : (t : TableRows) → table_keeps t ≡ true → WellNamed t
unfolding table_keeps
well_named t e =
    let one = (and_parts (leb (length t.statements) last_name) _ e).1 in
    let two = and_parts (every statement_keeps t.statements) _ one in
    let three = and_parts (distinct (map row_name t.statements)) _ two.1 in
    record {
      keep = two.0;
      bounds = λ s m. counted_bounds last_name s.name (and_parts (counted_to last_name s.name) _ (every_among statement_keeps s t.statements two.0 m)).0;
      own = own_names t.statements three.0;
      distinct_names = three.0;
    }
