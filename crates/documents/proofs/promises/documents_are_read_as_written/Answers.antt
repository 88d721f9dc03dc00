use Rattle.std.proofs.Common.{refl}
use Rattle.tables.specs.Lines.{test_of, action_of}
use Rattle.documents.specs.Statements.{test_in, action_in, name_rules, mark_rules, test_rules, action_rules}
use Rattle.documents.specs.Documents.{version_rules}
use Rattle.documents.proofs.promises.documents_are_read_as_written.Goals as goal

pub returns : goal.returns
unfolding test_of action_of test_in action_in name_rules mark_rules test_rules action_rules version_rules
returns c = record { empty = refl; whole = refl; truncated = refl; marked = refl }
