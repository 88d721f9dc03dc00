-- What two runs keep between calls.
use Rattle.std.proofs.Common.{◌≡◌, ℕ, true, List, None, Option, sym, refl, subst, inr}
use Rattle.tables.specs.declared.place.Place.{Place}
use Rattle.tables.specs.declared.number.Number.{Number}
use Rattle.tables.specs.declared.test.JoinedTest.{JoinedTest}
use Rattle.tables.specs.Lists.{Among}
use Rattle.tables.specs.Rows.{StatementRow, TableRows}
use Rattle.tables.specs.Rules.{table_keeps}
use Rattle.rules.specs.Memory.{Memory, blank}
use Rattle.rules.specs.Touching.{named_by, joined_test_places, test_numbers, Tests, TestsNumber}
use Rattle.rules.specs.Rearranging.{Rearrangement}
use Rattle.rules.specs.Calls.{ProcessorState, fresh}
use Rattle.rules.specs.Runs.{Tested, NumberTested}
use Rattle.rules.proofs.Moves.{Shuffle}
use Rattle.rules.proofs.Near.{Near}
use Rattle.rules.proofs.Names.{well_named}

-- two tables with the same plans and rearranged statements, of which each has a name of its own
pub record TablesAlike (t u : TableRows) : Type 0 where
  pub statements : Shuffle t.statements u.statements
  pub plans : t.plans ≡ u.plans

-- a rearrangement of tables that keep the rules
pub tables_alike : (t u : TableRows) → table_keeps t ≡ true → table_keeps u ≡ true → Rearrangement t u → TablesAlike t u
tables_alike t u k l r =
    let n = well_named t k in
    record {
      statements = record {
        named = λ s m. (n.bounds s m).0;
        distinct = n.own;
        distinct_too = (well_named u l).own;
        same = r.same;
        order = r.order;
      };
      plans = r.plans;
    }

-- each statement of xs has the tests of one of t
abbrev pub Covers : TableRows → List StatementRow → Type 0
Covers t xs = (s : StatementRow) → Among s xs → (x : StatementRow) × Among x t.statements × (x.tests ≡ s.tests)

pub covered_place : (t : TableRows) (xs : List StatementRow) → Covers t xs → (s : StatementRow) → Among s xs → (p : Place) → Tests s p → Tested t p
covered_place t xs h s k p m = let x = h s k in (x.0, x.1, subst (λ ls. Among p (named_by joined_test_places ls)) (sym x.2) m)

pub covered_number : (t : TableRows) (xs : List StatementRow) → Covers t xs → (s : StatementRow) → Among s xs → (n : Number) → TestsNumber s n → NumberTested t n
covered_number t xs h s k n m = let x = h s k in (x.0, x.1, subst (λ ls. Among n (named_by (λ (j : JoinedTest). test_numbers j.test) ls)) (sym x.2) m)

-- nobody looks between calls
abbrev pub Nobody : Place → Type 0
Nobody p = ⊥

-- t is the table at the start, f and g are the frames accepted last
pub record Related (t : TableRows) (f g : Option (List ℕ)) (a b : ProcessorState) : Type 0 where
  pub tables : TablesAlike a.table b.table
  pub covers : Covers t a.table.statements
  pub memories : Near Nobody f g a.memory b.memory

-- equal memories are near, whatever the frames
pub near_same : (f g : Option (List ℕ)) (m : Memory) → Near Nobody f g m m
near_same f g m = record {
  places = record { flags = refl; long = refl; cells = λ c. inr refl; looked = λ c k. absurd k };
  waits = refl;
}

pub unlooked : (P : Place → Type 0) (f g : Option (List ℕ)) (m n : Memory) → Near P f g m n → Near Nobody f g m n
unlooked P f g m n h = record {
  places = record { flags = h.places.flags; long = h.places.long; cells = h.places.cells; looked = λ c k. absurd k };
  waits = h.waits;
}

pub related_fresh : (t u : TableRows) → TablesAlike t u → Related t None None (fresh t) (fresh u)
related_fresh t u a = record { tables = a; covers = λ s k. (s, k, refl); memories = near_same None None blank }
