use Rattle.documents.proofs.FaultPlaces.{refusals_name_where_a_field_begins}
use Rattle.documents.proofs.promises.refusals_name_where_a_field_begins.Goals as goal

pub returns : goal.returns
returns c = refusals_name_where_a_field_begins
