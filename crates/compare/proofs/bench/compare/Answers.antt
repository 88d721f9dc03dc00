use Rattle.std.proofs.Common.{rules, ◌≡◌, Ok}
use Rattle.tables.specs.Contents.{rows_of}
use Rattle.documents.specs.Documents.{reading}
use Rattle.compare.proofs.Progress.{alike_throughout}
use Rattle.compare.proofs.bench.compare.Goals as goal

pub returns : goal.returns
returns g c =
    let t = rows_of c.in_ok-first_table.first_table in
    let u = rows_of c.in_ok-second_table.second_table in
    let here : reading c.args.first_document.now ≡ Ok t = search rules in
    let there : reading c.args.second_document.now ≡ Ok u = search rules in
    let made = c.run_both.ensures t u c.load_table.ensures.after c.load_table-2.ensures.after in
    (t, u, here, there, (made, alike_throughout c.args.first_document.now c.args.second_document.now t u c.args.steps.now _ _ c.run_both.result here there made))
