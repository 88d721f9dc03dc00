use Rattle.std.proofs.Common.{rules, refl}
use Rattle.std.proofs.lemmas.Slice.{overwrites}
use Rattle.writing.proofs.output.Output.put.Goals as goal

pub returns : goal.returns
returns c = record { front = search (rules, overwrites); back = search (rules, overwrites); room = search (rules, overwrites); len = refl; same_buffer = refl }
