use Rattle.std.proofs.Common.{◌≡◌, refl, subst, rules}
use Rattle.std.proofs.lemmas.Bool.Decides.{Decides-like}
use Rattle.tables.specs.Lists.{Among}
use Rattle.tables.specs.Spans.{span_cells}
use Rattle.touching.proofs.Searches.{any_decides, YieldsList-from_rest}
use Rattle.touching.proofs.line_places.has_cell.Goals as goal

pub returns : goal.returns
returns c =
    Decides-like _ (λ h. subst (λ p. Among p (span_cells c.args.span)) h.2 h.1) (λ m. (c.args.cell, m, refl))
    (any_decides c.any.new.self _ _ (λ place. place ≡ c.args.cell) c.any.ensures.ran (YieldsList-from_rest (λ rest. rest) (span_cells c.args.span) cc) (λ x b q k. search rules))
