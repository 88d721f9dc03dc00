use Rattle.documents.proofs.FirstFaults.{refusals_are_of_the_first_fault}
use Rattle.documents.proofs.promises.refusals_are_of_the_first_fault.Goals as goal

pub returns : goal.returns
returns c = refusals_are_of_the_first_fault
