use Rattle.std.proofs.Common.{◌<◌, arith}
use Rattle.std.proofs.Math.Seq.{take-set-lt}
use Rattle.bounded.proofs.BoundedList.replace.Goals as goal

pub returns-then-at-filled : goal.returns-then-at-filled
returns-then-at-filled g c =
    let l = c.args.self.now in
    let within : c.args.at < l.len = omega (arith, c.filled.ensures.value) in
    take-set-lt l.len l.items c.args.at c.args.item within
