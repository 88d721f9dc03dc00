use Rattle.std.proofs.Common.{rules}
use Rattle.std.proofs.lemmas.Bool.Decides.{Decides-like}
use Rattle.std.proofs.lemmas.Iterator.{YieldsList-from_slice}
use Rattle.rules.specs.Touching.{named_by}
use Rattle.touching.specs.Sharing.{Share}
use Rattle.touching.proofs.Searches.{any_decides}
use Rattle.touching.proofs.Named.{share_by_a_line, share_by_lines}
use Rattle.touching.proofs.sharing.share_place.Goals as goal

pub returns : goal.returns
returns g c =
    let names = g.X.NamesPlaces.named in
    let qs = named_by g.Y.NamesPlaces.named c.args.ys.now in
    Decides-like _ (share_by_lines names c.args.xs.now qs) (share_by_a_line names c.args.xs.now qs)
    (any_decides _ _ _ (λ line. Share (names line) qs) c.any.ensures.ran (YieldsList-from_slice c.args.xs.now cc) (λ x b q k. search rules))
