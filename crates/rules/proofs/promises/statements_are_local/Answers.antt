use Rattle.rules.proofs.Locality.{tests_read_only_what_they_name, branches_write_only_what_they_set, records_step_alone}
use Rattle.rules.proofs.promises.statements_are_local.Goals as goal

pub returns : goal.returns
returns c = record { tests = tests_read_only_what_they_name; writes = branches_write_only_what_they_set; records = records_step_alone }
