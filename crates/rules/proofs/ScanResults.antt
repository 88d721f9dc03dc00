-- What a scan leaves in the wait records.
use Rattle.std.proofs.Common.{◌≡◌, ℕ, ◌-◌, ◌<◌, ◌≤◌, true, ◌≢◌, List, [], ◌∷◌, ◌++◌, length, sym, refl, ap, ◌∙◌, subst, inl, inr, arith, length-set, get_or-set_same}
use Rattle.tables.specs.Limits.{last_name}
use Rattle.tables.specs.Lists.{Among}
use Rattle.tables.specs.Rows.{StatementRow, TableRows, row_name}
use Rattle.tables.specs.Rules.{table_keeps}
use Rattle.rules.specs.Memory.{no_wait, wait_of, Memory}
use Rattle.rules.specs.Scanning.{stepped, branch_now, wait_now, turn, turns, frame_taken, scanned}
use Rattle.rules.specs.ScanResults.{RecordsFollowTheBranchesTaken}
use Rattle.rules.proofs.Lists.{among_left, among_right}
use Rattle.rules.proofs.Locality.{records_step_alone, disabled_takes_neither, stepped_to_neither}
use Rattle.rules.proofs.Orders.{OwnKeys}
use Rattle.rules.proofs.Moves.{split, here, wider, own}
use Rattle.rules.proofs.Names.{well_named}

module _ (t : TableRows) (f : List ℕ) where
  turns_join : (above below : List StatementRow) (m : Memory) → turns t f (above ++ below) m ≡ turns t f below (turns t f above m)
  turns_join [] below m = refl
  turns_join (s ∷ above) below m = turns_join above below (turn t f s m)

  -- statements of other names leave a record
  turns_leave_record : (xs : List StatementRow) (name : ℕ) → 1 ≤ name → ((s : StatementRow) → Among s xs → (1 ≤ s.name) × (name ≢ s.name)) → (m : Memory)
      → wait_of name (turns t f xs m).waits ≡ wait_of name m.waits
  turns_leave_record [] name h k m = refl
  turns_leave_record (s ∷ xs) name h k m =
      let here_too = k s (inl refl) in
      turns_leave_record xs name h (λ x i. k x (inr i)) (turn t f s m)
      ∙ records_step_alone.others s (branch_now t f s m.places) (wait_now t f s m) m name h here_too.0 here_too.1

  turns_length : (xs : List StatementRow) (m : Memory) → length (turns t f xs m).waits ≡ length m.waits
  turns_length [] m = refl
  turns_length (s ∷ xs) m = turns_length xs (turn t f s m) ∙ length-set m.waits (s.name - 1) (wait_now t f s m)

  module _ (above below : List StatementRow) (s : StatementRow) (m : Memory)
      (bounds : (x : StatementRow) → Among x (above ++ s ∷ below) → (1 ≤ x.name) × (x.name ≤ last_name))
      (keys : OwnKeys row_name (above ++ s ∷ below)) (long : length m.waits ≡ last_name) where
    abbrev left : Memory
    left = turns t f above m

    others : (x : StatementRow) → Among x (above ++ below) → (1 ≤ x.name) × (s.name ≢ x.name)
    others x k = ((bounds x (wider s x above below k)).0, λ e. own s above below keys x k (sym e))

    its_turn : wait_of s.name (turn t f s left).waits ≡ stepped (wait_of s.name m.waits) (branch_now t f s left.places)
    its_turn =
        let b = bounds s (here s above below) in
        let within : s.name - 1 < length left.waits = omega (arith, b.0, b.1, turns_length above m, long) in
        get_or-set_same left.waits (s.name - 1) (wait_now t f s left) no_wait within
        ∙ ap (λ w. stepped w (branch_now t f s left.places))
        (turns_leave_record above s.name b.0 (λ x k. others x (among_left x above below k)) m)

    pub its_record : wait_of s.name (turns t f (above ++ s ∷ below) m).waits ≡ stepped (wait_of s.name m.waits) (branch_now t f s left.places)
    its_record =
        ap (λ (n : Memory). wait_of s.name n.waits) (turns_join above (s ∷ below) m)
        ∙ turns_leave_record below s.name (bounds s (here s above below)).0 (λ x k. others x (among_right x above below k)) (turn t f s left)
        ∙ its_turn

by_those_above : (t : TableRows) (frame : List ℕ) (m : Memory) → table_keeps t ≡ true → length m.waits ≡ last_name
    → (above below : List StatementRow) (s : StatementRow) → t.statements ≡ above ++ s ∷ below
    → wait_of s.name (scanned t frame m).waits
    ≡ stepped (wait_of s.name m.waits) (branch_now t frame s (turns t frame above (frame_taken frame m)).places)
by_those_above t frame m keeps long above below s e =
    let n = well_named t keeps in
    ap (λ xs. wait_of s.name (turns t frame xs (frame_taken frame m)).waits) e
    ∙ its_record t frame above below s (frame_taken frame m)
    (λ x k. n.bounds x (subst (Among x) (sym e) k)) (subst (OwnKeys row_name) e n.own) long

pub records_follow_the_branches_taken : RecordsFollowTheBranchesTaken
records_follow_the_branches_taken = record {
  by_those_above = by_those_above;
  not_enabled = λ t frame m keeps long s k off.
      let cut = split s t.statements k in
      by_those_above t frame m keeps long cut.0 cut.1 s cut.2
      ∙ ap (stepped (wait_of s.name m.waits)) (disabled_takes_neither t frame s _ off)
      ∙ stepped_to_neither (wait_of s.name m.waits);
}
