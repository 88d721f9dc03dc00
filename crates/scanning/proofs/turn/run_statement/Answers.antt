use Rattle.std.proofs.Common.{◌≡◌, ℕ, List, ap, ◌∙◌, ap₂}
use Rattle.tables.specs.Limits.{last_name}
use Rattle.tables.specs.Rows.{StatementRow, statement_row}
use Rattle.rules.specs.declared.branch.Branch.{Branch}
use Rattle.rules.specs.Memory.{Places, Wait, wait_of, with_wait, Memory}
use Rattle.rules.specs.Testing.{seen, holds}
use Rattle.rules.specs.Acting.{written_at, after_writes}
use Rattle.rules.specs.Scanning.{stepped, actions, branch_by, branch_now, acted}
use Rattle.documents.proofs.Pigeonhole.{counted_bounds}
use Rattle.memory.specs.Flags.{places_of}
use Rattle.memory.specs.Waits.{waits_in}
use Rattle.scanning.proofs.EnabledOnes.{name_kept}
use Rattle.scanning.proofs.turn.run_statement.Goals as goal

pub step-count-requires : goal.step-count-requires
step-count-requires g c = counted_bounds last_name _ (name_kept (statement_row c.args.statement.now) c.requires)

-- what a branch and a count lead to
at_branch : (s : StatementRow) (b : Branch) (count : ℕ) (places places' : Places) (waits waits' : List Wait)
    → places' ≡ after_writes (written_at count (actions s b)) places
    → count ≡ (stepped (wait_of s.name waits) b).count
    → waits' ≡ with_wait s.name (stepped (wait_of s.name waits) b) waits
    → ◌≡◌ {A = Memory} (record { places = places'; waits = waits' }) (acted s b (stepped (wait_of s.name waits) b) (record { places = places; waits = waits }))
at_branch s b count places places' waits waits' p q r =
    λ i. record { places = (p ∙ ap (λ n. after_writes (written_at n (actions s b)) places) q) i; waits = r i }

pub returns : goal.returns
unfolding branch_now
returns g c = λ t named own.
    let s = statement_row c.args.statement.now in
    let places = places_of (g.S.CellStore.cells c.args.store.now) c.args.flags.now in
    let waits = waits_in c.args.waits.now in
    let m : Memory = record { places = places; waits = waits } in
    let e : c.branch_now-branch.result ≡ branch_now t c.args.frame.now s places =
    c.branch_now-branch.ensures
    ∙ ap₂ branch_by own (ap (λ (on : ℕ → _). holds (seen c.args.frame.now on places) s.tests) (λ i n. named n i)) in
    at_branch s c.branch_now-branch.result c.step-count.result.0 places _ waits _ c.act_on.ensures c.step-count.ensures.count c.step-count.ensures.waits
    ∙ ap (λ (b : Branch). acted s b (stepped (wait_of s.name waits) b) m) e
