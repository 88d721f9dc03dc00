-- The places that a line names, as a list.
use Rattle.std.specs.Prelude.{List, [], ◌∷◌}
use Rattle.tables.specs.declared.place.Place.{Place}
use Rattle.tables.specs.Spans.{span_cells}
use Rattle.touching.specs.declared.line_places.LinePlaces.{LinePlaces}
use Rattle.touching.specs.declared.line_places.LinePlaces.TheVariants.{Nothing, One, Cells}

-- all of them, in order
abbrev pub places_in : LinePlaces → List Place
places_in Nothing = []
places_in (One place) = place ∷ []
places_in (Cells span) = span_cells span
