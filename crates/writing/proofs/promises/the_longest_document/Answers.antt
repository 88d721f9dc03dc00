use Rattle.std.proofs.Common.{refl}
use Rattle.writing.proofs.Bounds.{no_document_is_longer}
use Rattle.writing.proofs.Longest.{one_document_is_that_long}
use Rattle.writing.proofs.promises.the_longest_document.Goals as goal

pub returns : goal.returns
returns c = record { bound = no_document_is_longer; reached = one_document_is_that_long; length = refl }
