use Rattle.std.proofs.Common.{rules, tests}
use Rattle.std.proofs.lemmas.Iterator.Search.{any_from_yields_List}
use Rattle.std.proofs.lemmas.Iterator.Consumers.{YieldsList-from_first}
use Rattle.tables.specs.Spans.{span_cells}
use Rattle.rules.specs.Memory.{place_on}
use Rattle.memory.specs.Flags.{places_of}
use Rattle.scanning.proofs.places.is_some_on.Goals as goal

pub returns : goal.returns
returns g c =
    any_from_yields_List (place_on (places_of (g.S.CellStore.cells c.args.store.now) c.args.flags.now)) _ _ _ c.any.ensures.ran
    (YieldsList-from_first (λ x. x) (λ rest. rest) (span_cells c.args.span) c.into_iter.ensures.into_iter_gives.0)
    (λ x b q k. search (rules, tests))
