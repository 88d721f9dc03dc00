use Rattle.std.proofs.Common.{◌≡◌, ℕ, ◌+◌, ◌<◌, Bool, ◌||◌, eqb, List, length, get_or, drop, sym, ap, ◌∙◌, arith}
use Rattle.std.proofs.lemmas.List.{at_drop_more, at_drop_all}
use Rattle.tables.specs.declared.statement.Statement.{Statement}
use Rattle.tables.specs.Lists.{member}
use Rattle.documents.specs.Reads.{names_of}
use Rattle.documents.proofs.parts.is_named.Goals as goal

-- what the search finds from an index on, where the test of the statement there is known
named_more : (name i : ℕ) (xs : List Statement) (d : Statement) (is : Bool) → i < length xs → eqb name (get_or xs i d).name.0 ≡ is
    → member name (names_of (drop i xs)) ≡ (is || member name (names_of (drop (i + 1) xs)))
named_more name i xs d is h e =
    at_drop_more (λ l. member name (names_of l)) xs i d h ∙ ap (λ b. b || member name (names_of (drop (i + 1) xs))) e

pub returns-then-eq : goal.returns-then-eq
returns-then-eq c =
    sym (sym c.loop-statement.invariant ∙ named_more c.args.name.0 c.loop-statement.statement-index c.args.statements.now _ _ (omega arith) (sym c.eq.ensures ∙ c.if-eq.true))

pub loop-statement-preserved : goal.loop-statement-preserved
loop-statement-preserved c =
    sym (named_more c.args.name.0 c.loop-statement.statement-index c.args.statements.now _ _ (omega arith) (sym c.eq.ensures ∙ c.if-eq.false)) ∙ c.loop-statement.invariant

pub returns : goal.returns
returns c =
    sym (sym c.loop-statement.invariant ∙ at_drop_all (λ l. member c.args.name.0 (names_of l)) c.args.statements.now c.loop-statement.statement-index (omega arith))
