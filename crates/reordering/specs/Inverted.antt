-- What the search for the least inverted pair looks for.
use Rattle.std.specs.Prelude.{◌≡◌, ℕ, ◌≤◌, true, List, Some, None, Option}
use Rattle.tables.specs.declared.statement.Name.{Name}
use Rattle.tables.specs.Limits.{last_name}
use Rattle.tables.specs.Lists.{Among, distinct}
use Rattle.tables.specs.Rows.{StatementRow}
use Rattle.rules.specs.Touching.{Touch}
use Rattle.rules.specs.Reordering.{names, Inverts, LeastInverted}

-- each statement has a name of its own, from 1 to the last
pub record OwnNames (statements : List StatementRow) : Type 0 where
  pub apart : distinct (names statements) ≡ true
  pub bounds : (n : ℕ) → Among n (names statements) → (1 ≤ n) × (n ≤ last_name)

-- statements with these names touch
pub record TouchNamed (statements : List StatementRow) (a b : ℕ) : Type 0 where
  pub one : StatementRow
  pub other : StatementRow
  pub one_there : Among one statements
  pub other_there : Among other statements
  pub named_a : one.name ≡ a
  pub named_b : other.name ≡ b
  pub touch : Touch one other

-- the least name that an order inverts with a, or none where it inverts none
abbrev pub LeastLater : (order : List ℕ) → List StatementRow → (a : ℕ) → Option Name → Type 0
LeastLater order statements a None = (b : ℕ) → Inverts order statements a b → ⊥
LeastLater order statements a (Some later) =
    Inverts order statements a later.0 × ((b : ℕ) → Inverts order statements a b → later.0 ≤ b)

-- the least pair that an order inverts, or none where it inverts none
abbrev pub LeastPair : (order : List ℕ) → List StatementRow → Option (Name × Name) → Type 0
LeastPair order statements None = (a b : ℕ) → Inverts order statements a b → ⊥
LeastPair order statements (Some pair) = LeastInverted order statements pair.0.0 pair.1.0
