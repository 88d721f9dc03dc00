-- What a statement's tests read, what its branches write, and which wait record it steps.
use Rattle.std.specs.Prelude.{◌≡◌, ℕ, ◌≤◌, ◌≢◌, List}
use Rattle.tables.specs.declared.place.Place.{Place}
use Rattle.tables.specs.declared.number.Number.{Number}
use Rattle.tables.specs.declared.test.JoinedTest.{JoinedTest}
use Rattle.tables.specs.Lists.{Among}
use Rattle.tables.specs.Rows.{StatementRow, TableRows}
use Rattle.rules.specs.declared.branch.Branch.{Branch}
use Rattle.rules.specs.Frames.{setting}
use Rattle.rules.specs.Memory.{Wait, Memory, wait_of}
use Rattle.rules.specs.Enabling.{enabled}
use Rattle.rules.specs.Testing.{View, holds, view}
use Rattle.rules.specs.Acting.{Write, written_at}
use Rattle.rules.specs.Scanning.{stepped, actions, branch_now, acted}
use Rattle.rules.specs.Touching.{named_by, joined_test_places, test_numbers, test_names, Sets}

-- Two views are the same to some tests: in the places and numbers that they name, and in whether the names that they test
-- are enabled.
pub record SameView (tests : List JoinedTest) (v w : View) : Type 0 where
  pub places : (p : Place) → Among p (named_by joined_test_places tests) → v.place p ≡ w.place p
  pub numbers : (n : Number) → Among n (named_by (λ (t : JoinedTest). test_numbers t.test) tests) → v.number n ≡ w.number n
  pub names : (n : ℕ) → Among n (named_by (λ (t : JoinedTest). test_names t.test) tests) → v.enables n ≡ w.enables n

-- What tests answer depends on nothing else.
abbrev pub TestsReadOnlyWhatTheyName : Type 0
TestsReadOnlyWhatTheyName = (tests : List JoinedTest) (v w : View) → SameView tests v w → holds v tests ≡ holds w tests

-- What a branch writes is given by the branch and the count alone, and every place that it writes is one that the statement
-- sets.
abbrev pub BranchesWriteOnlyWhatTheySet : Type 0
BranchesWriteOnlyWhatTheySet =
    (s : StatementRow) (b : Branch) (count : ℕ) (w : Write) → Among w (written_at count (actions s b)) → Sets s w.place

-- The branch that a statement takes depends on whether it is enabled and on what its tests answer; the record that it leaves
-- on its own record and that branch; and no other record changes.
pub record RecordsStepAlone : Type 0 where
  pub branch : (t u : TableRows) (f g : List ℕ) (s : StatementRow) (m n : Memory)
      → enabled t.plans (setting f) s ≡ enabled u.plans (setting g) s
      → holds (view t f m.places) s.tests ≡ holds (view u g n.places) s.tests
      → branch_now t f s m.places ≡ branch_now u g s n.places
  pub own : (s : StatementRow) (b c : Branch) (m n : Memory) → b ≡ c → wait_of s.name m.waits ≡ wait_of s.name n.waits
      → stepped (wait_of s.name m.waits) b ≡ stepped (wait_of s.name n.waits) c
  pub others : (s : StatementRow) (b : Branch) (w : Wait) (m : Memory) (name : ℕ) → 1 ≤ name → 1 ≤ s.name → name ≢ s.name
      → wait_of name (acted s b w m).waits ≡ wait_of name m.waits
