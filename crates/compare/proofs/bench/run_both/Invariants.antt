use Rattle.std.proofs.Common.{◌≡◌, take}
use Rattle.tables.specs.Rows.{TableRows}
use Rattle.rules.specs.Calls.{fresh}
use Rattle.processor.specs.States.{state}
use Rattle.compare.specs.Frames.{frame_of}
use Rattle.compare.specs.Sides.{state_of}
use Rattle.compare.proofs.Progress.{SoFar}
use Rattle.compare.proofs.bench.run_both.Given as goal

-- both sides have their processors, and the steps so far were made and compared
abbrev pub invariant-loop-at : goal.invariant-loop-at
invariant-loop-at g l = record {
  same_first : l.first.processor.ghost_name ≡ l.initial.first.processor.ghost_name;
  same_second : l.second.processor.ghost_name ≡ l.initial.second.processor.ghost_name;
  so_far : (t u : TableRows) → state g.P.CellStore.cells l.fn.first ≡ fresh t → state g.Q.CellStore.cells l.fn.second ≡ fresh u
      → SoFar t u (take l.at-counter l.steps) (frame_of l.first.last_frame) (frame_of l.second.last_frame)
      (state_of g.P.CellStore.cells l.first) (state_of g.Q.CellStore.cells l.second) l.found;
}
