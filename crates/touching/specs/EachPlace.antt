-- The places of a line, one after another.
use Rattle.std.specs.Prelude.{List}
use Rattle.tables.specs.declared.place.Place.{Place}
use Rattle.tables.specs.Lists.{listed}
use Rattle.touching.specs.declared.each_place.EachPlace.{EachPlace}
use Rattle.touching.specs.declared.each_place.EachPlace.TheVariants.{One, Cells}

-- the places still to come
abbrev pub places_left : EachPlace → List Place
places_left (One place) = listed place
places_left (Cells cells) = cells
