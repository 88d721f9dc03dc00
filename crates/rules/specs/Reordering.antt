-- Which orders a table accepts, and what a reorder leaves.
use Rattle.std.specs.Prelude.{◌≡◌, ℕ, ◌<◌, ◌≤◌, true, ◌⊎◌, ◌↔◌, List, map, Ok, Err, Result}
use Rattle.tables.specs.declared.refusal.Refusal.{Refusal}
use Rattle.tables.specs.declared.refusal.Refusal.TheVariants.{NotTheNames, TouchingPair}
use Rattle.tables.specs.Lists.{Among, distinct}
use Rattle.tables.specs.Refusals.{Told, told}
use Rattle.tables.specs.Rows.{StatementRow, TableRows, row_name}
use Rattle.tables.specs.Rules.{table_keeps}
use Rattle.rules.specs.Touching.{Touch}
use Rattle.rules.specs.Rearranging.{Before, Rearrangement}

-- what a call answers: a count or 0, or a refusal with its values
abbrev pub Answer : Type 0
Answer = Result ℕ Told

-- what a call of the code answers
abbrev pub answered : Result ℕ Refusal → Answer
answered (Ok count) = Ok count
answered (Err refusal) = Err (told refusal)

-- the names of statements, in their order
abbrev pub names : List StatementRow → List ℕ
names statements = map row_name statements

-- an order is the names of some statements, each once
pub record EachOnce (order : List ℕ) (statements : List StatementRow) : Type 0 where
  pub once : distinct order ≡ true
  pub all : (n : ℕ) → Among n order ↔ Among n (names statements)

-- an order inverts the touching pair named a and b, of which a now stands earlier
pub record Inverts (order : List ℕ) (statements : List StatementRow) (a b : ℕ) : Type 0 where
  pub earlier : StatementRow
  pub later : StatementRow
  pub named_a : earlier.name ≡ a
  pub named_b : later.name ≡ b
  pub touch : Touch earlier later
  pub stands : Before earlier later statements
  pub inverted : Before b a order

-- of the pairs that an order inverts, this one has the least earlier name, and with it the least later name
pub record LeastInverted (order : List ℕ) (statements : List StatementRow) (a b : ℕ) : Type 0 where
  pub inverts : Inverts order statements a b
  pub least : (c d : ℕ) → Inverts order statements c d → (a < c) ⊎ ((a ≡ c) × (b ≤ d))

-- an order is accepted: the table's names, each once, and every touching pair keeps its order
pub record Accepts (statements : List StatementRow) (order : List ℕ) : Type 0 where
  pub whole : EachOnce order statements
  pub none_inverted : (a b : ℕ) → Inverts order statements a b → ⊥

-- Accepted: the same statements and plans, now in that order.
pub record Reordered (order : List ℕ) (t : TableRows) (r : Answer) (t' : TableRows) : Type 0 where
  pub answer : r ≡ Ok 0
  pub accepts : Accepts t.statements order
  pub ordered : names t'.statements ≡ order
  pub same : (s : StatementRow) → Among s t.statements ↔ Among s t'.statements
  pub plans : t'.plans ≡ t.plans

-- Refused by 10: not the table's names, each once.
pub record IsNotTheNames (order : List ℕ) (t : TableRows) (r : Answer) (t' : TableRows) : Type 0 where
  pub answer : r ≡ Err (told NotTheNames)
  pub not_whole : EachOnce order t.statements → ⊥
  pub kept : t' ≡ t

-- Refused by 11 with two names: the least pair that touches and would be inverted.
pub record PairInverted (order : List ℕ) (t : TableRows) (r : Answer) (t' : TableRows) : Type 0 where
  pub earlier : ℕ
  pub later : ℕ
  pub answer : r ≡ Err (told (TouchingPair (record { 0 = earlier }) (record { 0 = later })))
  pub whole : EachOnce order t.statements
  pub least : LeastInverted order t.statements earlier later
  pub kept : t' ≡ t

-- a reorder of a table to an order, its answer and the table after it
abbrev pub Reorders : List ℕ → TableRows → Answer → TableRows → Type 0
Reorders order t r t' = Reordered order t r t' ⊎ (IsNotTheNames order t r t' ⊎ PairInverted order t r t')

-- What a reorder does, in plain words.
pub record ReordersAsAccepted : Type 0 where
  -- it answers 0 exactly for an order that is accepted
  pub accepted : (order : List ℕ) (t t' : TableRows) (r : Answer) → Reorders order t r t' → (r ≡ Ok 0) ↔ Accepts t.statements order
  -- of a table that keeps the rules, one answer and one table after it
  pub one_answer : (order : List ℕ) (t t' u' : TableRows) (r s : Answer) → table_keeps t ≡ true
      → Reorders order t r t' → Reorders order t s u' → (r ≡ s) × (t' ≡ u')
  -- and where it answers 0, a rearrangement
  pub rearranged : (order : List ℕ) (t t' : TableRows) (r : Answer) → table_keeps t ≡ true → Reordered order t r t' → Rearrangement t t'
