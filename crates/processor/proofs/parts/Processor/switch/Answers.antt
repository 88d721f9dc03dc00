use Rattle.std.proofs.Common.{◌≡◌, Option, Some, None, Result, Ok, map, sym, ap₂, ◌∙◌, subst}
use Rattle.std.specs.Option.{ok_or}
use Rattle.bounded.specs.Held.{held}
use Rattle.tables.specs.declared.refusal.Refusal.TheVariants.{UnknownMark}
use Rattle.tables.specs.Codes.{mark_of}
use Rattle.tables.specs.Contents.{rows_of}
use Rattle.tables.specs.Rows.{plan_row}
use Rattle.rules.specs.Calls.{switched, switch_answer}
use Rattle.rules.proofs.Names.{well_named}
use Rattle.reordering.specs.Places.{StandsAt, Found}
use Rattle.scanning.specs.Memories.{memory_in}
use Rattle.scanning.proofs.Loops.{no_statement}
use Rattle.processor.proofs.Found.{marked_by_name}
use Rattle.processor.proofs.parts.Processor.switch.Goals as goal

-- the option of which an answer was made
some_from_ok : {X E : Type 0} (o : Option X) (x : X) (e : E) → ◌≡◌ {A = Result X E} (Ok x) (ok_or o e) → o ≡ Some x
some_from_ok None x e h = cc
some_from_ok (Some y) x e h = cc

pub returns : goal.returns
returns g c =
    let p = c.args.self.now in
    let t = p.table in
    let stands : StandsAt (held t.statements) c.args.name.0 c.in_ok-at.at =
    subst (λ xs. StandsAt xs c.args.name.0 c.in_ok-at.at) c.statements.ensures.value
    (subst (Found c.statements.result.now c.args.name.0) c.in_ok-at.ensures.ok_part c.find.ensures) in
    let marked : mark_of c.args.character ≡ Some c.in_ok-mark.mark = some_from_ok (mark_of c.args.character) c.in_ok-mark.mark UnknownMark c.in_ok-mark.ensures in
    let statements = c.set_mark.ensures.statements
    ∙ marked_by_name c.args.name.0 c.in_ok-mark.mark (held t.statements) c.in_ok-at.at stands.within (well_named (rows_of t) t.keeps).own (stands.named no_statement) in
    let there = sym stands.there in
    let is_mark = sym marked in (
      ap₂ switch_answer there is_mark,
      (λ i. record {
        table = record { statements = statements i; plans = map plan_row (held (c.set_mark.ensures.plans i)) };
        memory = memory_in g.S.CellStore.cells p.memory;
      })
          ∙ (λ i. record {
            table = switched c.args.name.0 (there i) (is_mark i) (rows_of t);
            memory = memory_in g.S.CellStore.cells p.memory;
          }),
    )
