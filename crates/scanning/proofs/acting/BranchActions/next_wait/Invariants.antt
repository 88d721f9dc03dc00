use Rattle.std.proofs.Common.{◌+◌, ◌≤◌, ◌⊎◌, drop}
use Rattle.tables.specs.Limits.{max_delay}
use Rattle.tables.specs.Lists.{Among}
use Rattle.tables.specs.Rules.{delays}
use Rattle.rules.specs.Acting.{Timed, timed}
use Rattle.scanning.proofs.acting.BranchActions.next_wait.Given as goal

-- every action waits no longer or is still to be looked at, and those are actions of the branch
abbrev pub invariant-loop-action : goal.invariant-loop-action
invariant-loop-action l =
    ((a : Timed) → Among a (timed 0 l.self.actions.now) → (a.wait ≤ l.count.0) ⊎ Among a (timed l.wait.0 (drop l.action-index l.self.actions.now)))
    × ((a : Timed) → Among a (timed l.wait.0 (drop l.action-index l.self.actions.now)) → Among a (timed 0 l.self.actions.now))
    × (l.wait.0 + delays (drop l.action-index l.self.actions.now) ≤ max_delay)
