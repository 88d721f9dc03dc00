-- What each refusal says.
use Rattle.std.specs.Prelude.{ℕ, List, ◌++◌, codes, decimal}
use Rattle.tables.specs.declared.refusal.Refusal.{Refusal}
use Rattle.tables.specs.declared.refusal.Refusal.TheVariants.{Truncated, NotDue, TooMany, OutOfRange, Conflicting, DelaysTooLong, NotAFrame, NoSuchStatement, UnknownMark, NotTheNames, TouchingPair, BufferTooShort}

-- which rule is broken
abbrev pub rule_text : Refusal → List ℕ
rule_text (Truncated place) = codes "a field is cut short: its header or its body passes the end of what encloses it"
rule_text (NotDue place) = codes "a field is not due here, a required one is missing, or a body has the wrong length"
rule_text (TooMany place) = codes "a statement has too many tests, or one of its branches too many actions"
rule_text (OutOfRange place) = codes "a byte, a code or an entry has a value that is not allowed"
rule_text (Conflicting place) = codes "a name is used twice, a plan or its names do not rise, or a plan lists a name that is not in the table"
rule_text (DelaysTooLong place) = codes "the DELAYs of a branch add up to too long a time"
rule_text NotAFrame = codes "the frame is not exactly 520 bytes long"
rule_text NoSuchStatement = codes "the table has no statement of that name"
rule_text UnknownMark = codes "the mark is not E, D or the full stop"
rule_text NotTheNames = codes "the list does not have each name of the table exactly once"
rule_text (TouchingPair earlier later) = codes "two statements that touch would change their order"
rule_text (BufferTooShort needed) = codes "the buffer is too short"

-- the rule with the names or the bytes that the refusal returns, and without its place
abbrev pub refusal_text : Refusal → List ℕ
refusal_text (Truncated place) = rule_text (Truncated place)
refusal_text (NotDue place) = rule_text (NotDue place)
refusal_text (TooMany place) = rule_text (TooMany place)
refusal_text (OutOfRange place) = rule_text (OutOfRange place)
refusal_text (Conflicting place) = rule_text (Conflicting place)
refusal_text (DelaysTooLong place) = rule_text (DelaysTooLong place)
refusal_text NotAFrame = rule_text NotAFrame
refusal_text NoSuchStatement = rule_text NoSuchStatement
refusal_text UnknownMark = rule_text UnknownMark
refusal_text NotTheNames = rule_text NotTheNames
refusal_text (TouchingPair earlier later) = rule_text (TouchingPair earlier later) ++ (codes ": " ++ (decimal earlier.0 ++ (codes " and " ++ decimal later.0)))
refusal_text (BufferTooShort needed) = rule_text (BufferTooShort needed) ++ (codes ": " ++ (decimal needed ++ codes " bytes are needed"))
