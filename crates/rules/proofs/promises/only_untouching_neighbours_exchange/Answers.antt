use Rattle.rules.proofs.Exchanges.{only_untouching_neighbours_exchange}
use Rattle.rules.proofs.promises.only_untouching_neighbours_exchange.Goals as goal

pub returns : goal.returns
returns c = only_untouching_neighbours_exchange
