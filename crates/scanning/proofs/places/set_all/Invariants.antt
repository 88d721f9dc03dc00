use Rattle.std.proofs.Common.{◌≡◌}
use Rattle.tables.specs.Spans.{span_cells}
use Rattle.tables.specs.States.{is_on}
use Rattle.rules.specs.Acting.{writes, after_writes}
use Rattle.memory.specs.Flags.{places_of}
use Rattle.scanning.proofs.places.set_all.Given as goal

-- the cells still to set lead to where all of them lead
abbrev pub invariant-loop-place : goal.invariant-loop-place
invariant-loop-place g l =
    after_writes (writes l.place-iterator (is_on l.state)) (places_of (g.S.CellStore.cells l.store) l.flags)
    ≡ after_writes (writes (span_cells l.fn.span) (is_on l.state)) (places_of (g.S.CellStore.cells l.initial.store) l.initial.flags)
