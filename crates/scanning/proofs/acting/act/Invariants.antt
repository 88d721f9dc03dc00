use Rattle.std.proofs.Common.{◌≡◌, ◌+◌, ◌≤◌, drop}
use Rattle.tables.specs.Limits.{max_delay}
use Rattle.tables.specs.Rules.{delays}
use Rattle.rules.specs.Acting.{timed, due, after_writes}
use Rattle.memory.specs.Flags.{places_of}
use Rattle.scanning.proofs.acting.act.Given as goal

-- the actions still to take lead to where all of them lead
abbrev pub invariant-loop-action : goal.invariant-loop-action
invariant-loop-action g l =
    (after_writes (due l.count.0 (timed l.wait.0 (drop l.action-index l.branch.actions.now))) (places_of (g.S.CellStore.cells l.store) l.flags)
    ≡ after_writes (due l.count.0 (timed 0 l.branch.actions.now)) (places_of (g.S.CellStore.cells l.initial.store) l.initial.flags))
    × (l.wait.0 + delays (drop l.action-index l.branch.actions.now) ≤ max_delay)
