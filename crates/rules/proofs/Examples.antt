-- The examples.
use Rattle.std.proofs.Common.{◌≡◌, ◌≤◌, [], ◌∷◌, Some, sym, refl, ap, subst, inl, inr, arith}
use Rattle.tables.specs.declared.place.State.TheVariants.{On, Off}
use Rattle.tables.specs.declared.place.Place.TheVariants.{Flag}
use Rattle.tables.specs.Lists.{Among}
use Rattle.tables.specs.Lines.{test_of, action_of}
use Rattle.tables.specs.Rules.{table_keeps}
use Rattle.cells.specs.Bits.{bit}
use Rattle.cells.specs.Cells.{cleared}
use Rattle.cells.specs.Tabulated.{tabulated}
use Rattle.documents.specs.Statements.{test_in, action_in, name_rules, mark_rules, test_rules, action_rules}
use Rattle.documents.specs.Documents.{version_rules}
use Rattle.documents.specs.Examples.{DocumentsAreReadAsWritten}
use Rattle.rules.specs.declared.branch.Branch.TheVariants.{Then}
use Rattle.rules.specs.Frames.{number_shown, setting}
use Rattle.rules.specs.Memory.{Wait, blank}
use Rattle.rules.specs.Enabling.{enabled}
use Rattle.rules.specs.Testing.{truth, holds}
use Rattle.rules.specs.Acting.{Timed, timed, written_at, NextWait, TimeLeft}
use Rattle.rules.specs.Scanning.{stepped, actions, branch_now}
use Rattle.rules.specs.Touching.{Touch}
use Rattle.rules.specs.ExampleTables.{delayed_output, timer_starts_a_delay, timer_at, flag_setter, otherwise, disabled, record_after}
use Rattle.rules.specs.WorkedExamples.{WorkedExamples, TellingExamples}
use Rattle.rules.proofs.Exchanges.{only_untouching_neighbours_exchange}

documents : DocumentsAreReadAsWritten
unfolding test_of action_of test_in action_in name_rules mark_rules test_rules action_rules version_rules
documents = record { empty = refl; whole = refl; truncated = refl; marked = refl }

-- ---- time left

-- one wait of 3 tenths
next_wait : NextWait delayed_output.thens 0 3
next_wait = record { above = omega arith; some_has_it = (_, inl refl, refl); least = λ a m h. by a m }
  where
    by : (a : Timed) → Among a (timed 0 delayed_output.thens) → 3 ≤ a.wait
    by a (inl e) = let w : 3 ≡ a.wait = ap (λ (x : Timed). x.wait) e in omega arith
    by a (inr k) = absurd k

-- the record after the second scan
after_the_second : record_after 2 timer_starts_a_delay (timer_at 51 ∷ timer_at 50 ∷ []) ≡ record { branch = Then; count = 0 }
unfolding blank tabulated cleared bit number_shown setting enabled truth holds written_at stepped branch_now
after_the_second = refl

time_left : (w : Wait) → w ≡ record { branch = Then; count = 0 } → TimeLeft (actions delayed_output w.branch) w.count (Some (0, 3))
time_left w e =
    subst (λ (x : Wait). TimeLeft (actions delayed_output x.branch) x.count (Some (0, 3))) (sym e) (next_wait, omega arith)

-- ---- touching pairs

setter_and_tester : Touch flag_setter delayed_output
setter_and_tester = (Flag 1, inl (inl (inl refl), inr (inl refl)))

pub worked_examples : WorkedExamples
unfolding table_keeps blank tabulated cleared bit number_shown setting enabled truth holds written_at stepped branch_now
worked_examples = record {
  documents = documents;
  one_statement_scanned = refl;
  timer_is = refl;
  timer_is_not = refl;
  timer_greater = refl;
  joined_from_the_top = refl;
  whole_family_off = refl;
  not_in_the_first = refl;
  not_in_the_second = refl;
  not_in_the_third = refl;
  not_in_the_fourth = refl;
  in_the_fifth = refl;
  time_left = time_left _ after_the_second;
  order_refused = (only_untouching_neighbours_exchange.refused flag_setter delayed_output [] setter_and_tester refl _ _).1 (refl, refl);
}

pub telling_examples : TellingExamples
unfolding table_keeps blank tabulated cleared bit number_shown setting enabled truth holds written_at stepped branch_now
telling_examples = record {
  sees_what_was_set = refl;
  acts_on_it = refl;
  touching_by_else_kept = (only_untouching_neighbours_exchange.refused (otherwise 1 10 On) (otherwise 2 11 Off) [] (Flag 3, inl (inr (inl refl), inl (inr (inl refl)))) refl _ _).1 (refl, refl);
  touching_while_disabled_kept = (only_untouching_neighbours_exchange.refused (disabled flag_setter) (disabled delayed_output) [] setter_and_tester refl _ _).1 (refl, refl);
  seen_at_once = refl;
  seen_late = refl;
}
