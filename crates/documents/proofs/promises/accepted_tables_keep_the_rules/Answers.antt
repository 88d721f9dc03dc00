use Rattle.documents.proofs.Accepting.{accepted_tables_keep_the_rules}
use Rattle.documents.proofs.promises.accepted_tables_keep_the_rules.Goals as goal

pub returns : goal.returns
returns c = accepted_tables_keep_the_rules
