use Rattle.rules.proofs.Exchanges.{reorders_as_accepted}
use Rattle.rules.proofs.promises.reorders_as_accepted.Goals as goal

pub returns : goal.returns
returns c = reorders_as_accepted
