use Rattle.std.proofs.Common.{sym, refl, ◌∙◌, arith}
use Rattle.std.proofs.lemmas.Grind.{common_steps}
use Rattle.tables.proofs.Decoding.{decoded_has_code}
use Rattle.documents.proofs.fields.Fields.front.Goals as goal

pub returns-in_default : goal.returns-in_default
returns-in_default g c = (_, _, c.in_default.ensures c.args.self.now.place, refl, refl)

pub returns-in_default-with_code : goal.returns-in_default-with_code
returns-in_default-with_code g c =
    (_, _, c.in-Some.ensures.1 c.args.self.now.place, (sym c.with_code.ensures ∙ c.in_default-with_code.is, refl), refl)

pub returns : goal.returns
returns g c =
    let front = c.in-Some.ensures.1 c.args.self.now.place in
    let tag = (decoded_has_code g.K.Coded.coded g.K.Cases.cases c.in-Some.tag c.in-Some-with_code.kind (sym c.with_code.ensures ∙ c.in-Some-with_code.is)).0 in
    grind (arith, common_steps)
