use Rattle.std.proofs.Common.{[], ◌∷◌, ◌++◌, map, take, sym, ap, ◌∙◌, arith}
use Rattle.std.proofs.lemmas.List.{map_more}
use Rattle.writing.proofs.Writes.{wrote_more, wrote_same}
use Rattle.writing.proofs.output.Output.put_names.Goals as goal

pub loop-item-preserved : goal.loop-item-preserved
loop-item-preserved g c =
    let items = c.args.items.now in
    let number = g.T.Named.number in
    wrote_same
    (ap (λ x. map number (take c.loop-item.item-index items) ++ number x ∷ []) c.item-item.is ∙ sym (map_more number items c.loop-item.item-index c.item-item.result (omega arith)))
    (wrote_more c.loop-item.invariant c.put_name.ensures)
