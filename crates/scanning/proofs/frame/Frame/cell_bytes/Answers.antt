use Rattle.std.proofs.Common.{sym, arith, length-take-le}
use Rattle.scanning.proofs.frame.Frame.cell_bytes.Goals as goal

pub slice_bounds-result-end : goal.slice_bounds-result-end
slice_bounds-result-end c = sym (length-take-le 168 c.self.inside.bytes.now (omega (arith, c.self.invariant)))

pub returns-clause-size : goal.returns-clause-size
returns-clause-size c = length-take-le 168 c.self.inside.bytes.now (omega (arith, c.self.invariant))
