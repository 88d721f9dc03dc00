use Rattle.std.proofs.Common.{ap, ◌∙◌, rules}
use Rattle.tables.specs.Contents.{rows_of}
use Rattle.tables.specs.Rules.{table_keeps}
use Rattle.tables.specs.Tags.{document_tag, document_fields}
use Rattle.documents.proofs.Endings.{whole_document}
use Rattle.documents.proofs.KeptTables.{clean_pieces_keep_the_rules}
use Rattle.documents.proofs.Stepping.{follows_passed, stepped}
use Rattle.documents.proofs.document.table_in.Goals as goal

pub loop-field-preserved : goal.loop-field-preserved
loop-field-preserved c =
    let inv = c.loop-field.invariant in
    let follows = follows_passed document_tag document_fields _ _ _ _ c.loop-field.field-iterator c.next.new.self inv.1 _ c.in_ok-field.field-0 c.in_ok-field.was c.in-Some.ensures.steps in
    let took = c.in_ok-take_field.ensures inv.0 inv.2 follows inv.1.clean in
    (_, stepped document_tag document_fields _ _ _ _ c.loop-field.field-iterator c.next.new.self inv.1 _ c.in_ok-field.field-0 c.in_ok-field.was c.in-Some.ensures.steps took.0, took.1)

pub finish-requires : goal.finish-requires
finish-requires c =
    let inv = c.loop-field.invariant in
    ap table_keeps inv.2 ∙ clean_pieces_keep_the_rules inv.0 inv.1.clean

pub returns : goal.returns
returns c =
    let inv = c.loop-field.invariant in
    whole_document c.args.document.now inv.0 inv.1 c.in-None.ensures.steps (rows_of c.finish.result) (c.finish.ensures ∙ inv.2) (search rules)
