use Rattle.std.proofs.lemmas.Result.{MatchResult-weaker}
use Rattle.documents.proofs.FirstFaults.{refusals_are_of_the_first_fault}
use Rattle.documents.proofs.FaultPlaces.{refusals_name_where_a_field_begins}
use Rattle.documents.proofs.document.read_document.Goals as goal

pub returns-clause-first : goal.returns-clause-first
returns-clause-first c = MatchResult-weaker c.table_in.result c.table_in.ensures (λ t e. tt) (λ t e. refusals_are_of_the_first_fault _ _ e)

pub returns-clause-place : goal.returns-clause-place
returns-clause-place c = MatchResult-weaker c.table_in.result c.table_in.ensures (λ t e. tt) (λ t e. refusals_name_where_a_field_begins _ _ e)
