use Rattle.rules.proofs.ScanResults.{records_follow_the_branches_taken}
use Rattle.rules.proofs.promises.records_follow_the_branches_taken.Goals as goal

pub returns : goal.returns
returns c = records_follow_the_branches_taken
