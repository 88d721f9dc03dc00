-- Wait records, the rows that they are kept in, and the table of the hundred rows.
use Rattle.std.specs.Prelude.{ℕ, Bool, ◌==◌, if◌then◌else◌, List, map, nat_le}
use Rattle.std.specs.Ordering.{on, eq_of_both}
use Rattle.tables.specs.Limits.{max_delay}
use Rattle.rules.specs.declared.branch.Branch.{Branch}
use Rattle.rules.specs.declared.branch.Branch.TheVariants.{Neither, Then, Else}
use Rattle.rules.specs.contracts.branch.BranchPartialEq.TheImpl as branches
use Rattle.rules.specs.Memory.{Wait as Meaning, no_wait}
use Rattle.memory.specs.declared.wait.Wait.{Wait}
use Rattle.memory.specs.declared.rows.WaitRow.{WaitRow}
use Rattle.memory.specs.declared.rows.WaitTable.{WaitTable}

-- what a record means
abbrev pub wait_in : Wait → Meaning
wait_in w = record { branch = w.branch; count = w.count.0 }

-- what a branch and a count read as: a count above the longest wait, and any count beside no branch, are no record's
abbrev pub reads_as : Branch → ℕ → Meaning
reads_as Neither count = no_wait
reads_as Then count = if nat_le count max_delay then record { branch = Then; count = count } else no_wait
reads_as Else count = if nat_le count max_delay then record { branch = Else; count = count } else no_wait

-- what a row reads as
abbrev pub row_wait : WaitRow → Meaning
row_wait r = reads_as r.branch r.count.0

-- whether two records have the same branch and the same count
abbrev pub same_record : Meaning → Meaning → Bool
same_record = eq_of_both (on (λ w. w.branch) branches.ghosts.eq) (on (λ w. w.count) ◌==◌)

-- the records of a table, that of name 1 first
abbrev pub waits_in : WaitTable → List Meaning
waits_in t = map row_wait t.rows
