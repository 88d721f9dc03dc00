-- Examples of documents, scans, tests, waits and orders, settled by evaluation of the rules.
use Rattle.std.specs.Prelude.{◌≡◌, ℕ, ◌+◌, true, false, List, [], ◌∷◌, replicate, Some, Err}
use Rattle.tables.specs.declared.place.State.TheVariants.{Off}
use Rattle.tables.specs.declared.family.Family.TheVariants.{PhaseGreen}
use Rattle.tables.specs.declared.test.Comparison.TheVariants.{Is, Greater}
use Rattle.tables.specs.declared.test.Test.TheVariants.{MemberIs}
use Rattle.tables.specs.declared.refusal.Refusal.TheVariants.{TouchingPair}
use Rattle.tables.specs.Limits.{input_cells, last_flag}
use Rattle.tables.specs.Refusals.{Told, told}
use Rattle.cells.specs.Cells.{cleared}
use Rattle.documents.specs.Examples.{its_table, DocumentsAreReadAsWritten}
use Rattle.rules.specs.declared.branch.Branch.TheVariants.{Then, Else}
use Rattle.rules.specs.Frames.{cells_shown}
use Rattle.rules.specs.Memory.{Places}
use Rattle.rules.specs.Testing.{view, truth, holds}
use Rattle.rules.specs.Reordering.{Reorders}
use Rattle.rules.specs.Calls.{fresh, StatementTimeLeft}
use Rattle.rules.specs.RunsAlike.{cells_of}
use Rattle.rules.specs.ExampleTables.{quiet_frame, phase_two_green, phase_sixteen_green, timer_at, timer, delayed_output, unplanned, timer_starts_a_delay, flag_set_below_its_test, second_tests_what_the_first_sets, touching_by_else, touching_while_disabled, one_or_two_and_three, after_scans, indices_on, output_after, record_after}

-- the cells that a frame shows, with no flag ON
abbrev pub as_shown : List ℕ → Places
as_shown frame = record { cells = cells_shown frame; flags = replicate last_flag false }

-- no cell and only flag 1 ON
abbrev pub only_flag_one : Places
only_flag_one = record { cells = cleared; flags = true ∷ replicate 63 false }

-- a refusal by 11 with the names 1 and 2
abbrev pub one_and_two_touch : Told
one_and_two_touch = told (TouchingPair (record { 0 = 1 }) (record { 0 = 2 }))

-- Twelve examples.
pub record WorkedExamples : Type 0 where
  -- the empty document is 2 at 0; a document is one statement, without its last byte 1 at 4, with 58 for 45 it is 4 at 11
  pub documents : DocumentsAreReadAsWritten
  -- its scan with only output cell 1 ON leaves output cells 1 and 160 ON, and no other cell
  pub one_statement_scanned :
      indices_on 0 (cells_of (after_scans (phase_two_green ∷ []) (fresh its_table))) ≡ (input_cells + 1) ∷ (input_cells + 160) ∷ []
  -- a ring timer at 20 tenths IS 2 seconds
  pub timer_is : truth (view (unplanned []) (timer_at 20) (as_shown (timer_at 20))) (timer Is 2) ≡ true
  -- at 21 it is not, and is greater
  pub timer_is_not : truth (view (unplanned []) (timer_at 21) (as_shown (timer_at 21))) (timer Is 2) ≡ false
  pub timer_greater : truth (view (unplanned []) (timer_at 21) (as_shown (timer_at 21))) (timer Greater 2) ≡ true
  -- with A ON and B and C OFF, A OR B AND C is OFF
  pub joined_from_the_top : holds (view (unplanned []) quiet_frame only_flag_one) one_or_two_and_three ≡ false
  -- with phase 16 alone green, phase green 0 IS OFF fails
  pub whole_family_off :
      truth (view (unplanned []) phase_sixteen_green (as_shown phase_sixteen_green)) (MemberIs (record { family = PhaseGreen; number = 0 }) Off) ≡ false
  -- the timer passes 5 seconds in the second scan; the output comes ON in the fifth, and not before
  pub not_in_the_first : output_after timer_starts_a_delay (timer_at 51 ∷ []) ≡ false
  pub not_in_the_second : output_after timer_starts_a_delay (timer_at 51 ∷ timer_at 50 ∷ []) ≡ false
  pub not_in_the_third : output_after timer_starts_a_delay (timer_at 51 ∷ timer_at 50 ∷ timer_at 49 ∷ []) ≡ false
  pub not_in_the_fourth : output_after timer_starts_a_delay (timer_at 51 ∷ timer_at 50 ∷ timer_at 49 ∷ timer_at 48 ∷ []) ≡ false
  pub in_the_fifth : output_after timer_starts_a_delay (timer_at 51 ∷ timer_at 50 ∷ timer_at 49 ∷ timer_at 48 ∷ timer_at 47 ∷ []) ≡ true
  -- after the second scan, 0 seconds and 3 tenths are left to the output
  pub time_left : StatementTimeLeft (after_scans (timer_at 51 ∷ timer_at 50 ∷ []) (fresh timer_starts_a_delay)) delayed_output (Some (0, 3))
  -- the order 2, 1 is refused by 11 with 1 and 2
  pub order_refused : Reorders (2 ∷ 1 ∷ []) timer_starts_a_delay (Err one_and_two_touch) timer_starts_a_delay

-- Examples in which a scan that went wrong, or a touching worked out from less, would show.
pub record TellingExamples : Type 0 where
  -- the frame has input cell 5 OFF; the first statement sets it ON, and the second sees that
  pub sees_what_was_set : record_after 2 second_tests_what_the_first_sets (quiet_frame ∷ []) ≡ record { branch = Then; count = 0 }
  pub acts_on_it : indices_on 0 (cells_of (after_scans (quiet_frame ∷ []) (fresh second_tests_what_the_first_sets))) ≡ 5 ∷ (input_cells + 170) ∷ []
  -- a pair that touches by ELSE actions alone, and a pair of disabled statements, keep their order
  pub touching_by_else_kept : Reorders (2 ∷ 1 ∷ []) touching_by_else (Err one_and_two_touch) touching_by_else
  pub touching_while_disabled_kept : Reorders (2 ∷ 1 ∷ []) touching_while_disabled (Err one_and_two_touch) touching_while_disabled
  -- a frame on which an exchange of two that touch shows: with the flag set below its test, the second sees it a tenth late
  pub seen_at_once : record_after 2 timer_starts_a_delay (timer_at 50 ∷ []) ≡ record { branch = Then; count = 0 }
  pub seen_late : record_after 2 flag_set_below_its_test (timer_at 50 ∷ []) ≡ record { branch = Else; count = 0 }
