use Rattle.tables.proofs.Inverse.{codes_are_inverse}
use Rattle.tables.proofs.codes.codes_are_inverse.Goals as goal

pub returns : goal.returns
returns c = codes_are_inverse
