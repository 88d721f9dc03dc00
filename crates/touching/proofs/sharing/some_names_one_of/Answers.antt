use Rattle.std.proofs.Common.{rules}
use Rattle.rules.specs.Touching.{named_by}
use Rattle.tables.specs.Lists.{Among}
use Rattle.tables.specs.Spans.{span_cells}
use Rattle.touching.proofs.Searches.{any_decides, YieldsList-from_rest}
use Rattle.touching.proofs.sharing.some_names_one_of.Goals as goal

pub returns : goal.returns
returns g c =
    any_decides c.any.new.self _ _ (λ place. Among place (named_by g.L.NamesPlaces.named c.args.lines.now)) c.any.ensures.ran
    (YieldsList-from_rest (λ rest. rest) (span_cells c.args.cells) cc) (λ x b q k. search rules)
