use Rattle.std.proofs.Common.{rules}
use Rattle.std.proofs.lemmas.List.{take_rest}
use Rattle.documents.proofs.Cutting.{pieces_front}
use Rattle.documents.proofs.fields.split_field.Goals as goal

pub returns : goal.returns
returns c =
    let e = c.in_ok-body.ensures.cases in
    (search rules, λ place. pieces_front place _ c.args.bytes.now _ _ _ (search rules) (take_rest c.args.bytes.now 3) (search rules) e.0 e.1 e.2)
