use Rattle.std.proofs.Common.{◌≡◌, refl, ◌+◌, ◌<◌, ◌≤◌, length, drop, set, sym, ◌∙◌, arith}
use Rattle.std.proofs.lemmas.List.{take_more_set, drop-set-lt, drop-drop, length-set, length-drop}
use Rattle.writing.proofs.output.Output.put_byte.Goals as goal

pub returns : goal.returns
returns c =
    let old = c.args.self.now.buffer.now in
    let at = c.args.self.now.len in
    let new = set old at c.args.byte in
    let room : 1 ≤ length (drop at old) = c.requires in
    let within : at < length old = omega (arith, room, length-drop at old) in
    let left : length (drop (at + 1) new) + 1 ≡ length (drop at old) =
    omega (arith, within, length-drop at old, length-drop (at + 1) new, length-set old at c.args.byte) in
    record {
      front = take_more_set old at c.args.byte within;
      back = drop-set-lt (at + 1) old at c.args.byte (omega arith) ∙ sym (drop-drop 1 at old);
      room = left;
      len = refl;
      same_buffer = refl;
    }
