use Rattle.rules.proofs.RunsAlike.{rearranged_tables_run_alike}
use Rattle.rules.proofs.promises.rearranged_tables_run_alike.Goals as goal

pub returns : goal.returns
returns c = rearranged_tables_run_alike
