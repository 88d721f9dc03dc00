use Rattle.rules.proofs.Examples.{worked_examples, telling_examples}
use Rattle.rules.proofs.promises.worked_examples.Goals as goal

pub returns : goal.returns
returns c = record { twelve = worked_examples; telling = telling_examples }
