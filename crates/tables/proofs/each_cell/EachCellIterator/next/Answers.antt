use Rattle.std.proofs.Common.{◌≡◌, ◌<◌, ◌∷◌, length, ap, arith}
use Rattle.tables.proofs.EachCell.{cells_more}
use Rattle.tables.proofs.each_cell.EachCellIterator.next.Goals as goal

pub returns-clause-steps : goal.returns-clause-steps
returns-clause-steps c =
    let within : c.self.inside.passed < c.self.inside.span.count = omega (arith, c.count.ensures) in
    let more = cells_more c.self.inside.span c.self.inside.span.count c.self.inside.passed within in
    cc

pub returns-clause-goes : goal.returns-clause-goes
returns-clause-goes c =
    let within : c.self.inside.passed < c.self.inside.span.count = omega (arith, c.count.ensures) in
    let more = cells_more c.self.inside.span c.self.inside.span.count c.self.inside.passed within in
    let fewer : length c.args.self.now ≡ length (c.nth-place.result ∷ _) = ap length (returns-clause-steps c) in
    grind (arith, fewer)
