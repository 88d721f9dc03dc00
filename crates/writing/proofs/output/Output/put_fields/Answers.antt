use Rattle.std.proofs.Common.{ℕ, List, ◌++◌, length, take, ap, ◌∙◌, arith}
use Rattle.std.specs.List.{flat_map}
use Rattle.std.proofs.lemmas.List.{take_all}
use Rattle.std.proofs.lemmas.List.Folds.{length-flat_map-take}
use Rattle.writing.specs.Bytes.{field_bytes}
use Rattle.writing.proofs.Writes.{wrote_more, wrote_same, joined_next}
use Rattle.writing.proofs.output.Output.put_fields.Goals as goal

pub put_field-requires : goal.put_field-requires
put_field-requires g c =
    let written : g.row.T.Denot → List ℕ = λ x. field_bytes (g.F.Coded.coded c.args.field) (g.T.Body.body x) in
    let room = length-flat_map-take written c.args.items.now c.loop-item.item-index c.item-item.result (omega arith) in
    let is = ap (λ x. length (written x)) c.item-item.is in
    omega arith

pub loop-item-preserved : goal.loop-item-preserved
loop-item-preserved g c =
    let written : g.row.T.Denot → List ℕ = λ x. field_bytes (g.F.Coded.coded c.args.field) (g.T.Body.body x) in
    let items = c.args.items.now in
    let i = c.loop-item.item-index in
    wrote_same
    (ap (λ x. flat_map written (take i items) ++ written x) c.item-item.is ∙ joined_next written items i c.item-item.result (omega arith))
    (wrote_more {ys = written c.item-item.result} c.loop-item.invariant c.put_field.ensures)

pub returns : goal.returns
returns g c =
    let written : g.row.T.Denot → List ℕ = λ x. field_bytes (g.F.Coded.coded c.args.field) (g.T.Body.body x) in
    wrote_same (ap (flat_map written) (take_all c.loop-item.item-index c.args.items.now (omega arith))) c.loop-item.invariant
