use Rattle.std.proofs.Common.{rules}
use Rattle.std.proofs.lemmas.Bool.Decides.{Decides-like}
use Rattle.std.proofs.lemmas.Iterator.{YieldsList-from_slice}
use Rattle.tables.specs.Lists.{Among}
use Rattle.touching.proofs.Searches.{any_decides}
use Rattle.touching.proofs.Named.{by_a_line, by_lines}
use Rattle.touching.proofs.sharing.some_names.Goals as goal

pub returns : goal.returns
returns g c =
    let names = g.L.NamesPlaces.named in
    let lines = c.args.lines.now in
    Decides-like _ (by_lines names c.args.place lines) (by_a_line names c.args.place lines)
    (any_decides _ _ _ (λ line. Among c.args.place (names line)) c.any.ensures.ran (YieldsList-from_slice lines cc) (λ x b q k. search rules))
