-- What the body of a statement's field may hold, what is wrong with it, and the statement that it says.
-- Its fields are, in this order: 16, the name; 17, the mark, which may be absent; 18, tests; 19, THEN actions; 20, ELSE actions.
-- `last` is the tag of the field before, 0 at the body's start.
use Rattle.std.specs.Prelude.{ℕ, ◌+◌, Bool, true, cond, not, ◌&&◌, List, [], ◌∷◌, ◌++◌, map, length, Some, None, Option, ◌==◌, nat_le, nat_lt}
use Rattle.tables.specs.declared.statement.Mark.{Mark}
use Rattle.tables.specs.declared.statement.Mark.TheVariants.{Disabled}
use Rattle.tables.specs.declared.test.Join.{Join}
use Rattle.tables.specs.declared.test.Test.{Test}
use Rattle.tables.specs.declared.test.JoinedTest.{JoinedTest}
use Rattle.tables.specs.declared.action.Action.{Action}
use Rattle.tables.specs.declared.codes.lines.TestCodes.{TestCodes}
use Rattle.tables.specs.declared.codes.lines.ActionCodes.{ActionCodes}
use Rattle.tables.specs.Limits.{max_tests, max_actions, last_name, max_delay, counted_to}
use Rattle.tables.specs.Lists.{both, absent, member, listed, somes}
use Rattle.tables.specs.Codes.{mark_of, join_of}
use Rattle.tables.specs.Lines.{test_of, action_of}
use Rattle.tables.specs.Rows.{StatementRow}
use Rattle.tables.specs.Rules.{alike, delays}
use Rattle.tables.specs.Refusals.{Told, refused_at}
use Rattle.documents.specs.Fields.{Piece, field, cut, pieces, place_of, bodies, latest, last_tag, byte, two_bytes}
use Rattle.documents.specs.Judging.{Rules, first, at, or_else, first_fault}

-- ---- what the fields hold

-- what an absent mark stands for
abbrev pub absent_mark : Mark
absent_mark = Disabled

-- a name: one byte
abbrev pub name_in : List ℕ → ℕ
name_in body = byte body 0

-- a mark: one byte
abbrev pub mark_in : List ℕ → Option Mark
mark_in body = mark_of (byte body 0)

-- a test's codes: after the join, a byte for the kind, two for which, one for the relation, two for the entry
abbrev pub test_codes_in : List ℕ → TestCodes
test_codes_in body = record { kind = byte body 1; which = two_bytes body 2; relation = byte body 4; entry = two_bytes body 5 }

-- a test and its join
abbrev pub joined_test : Join → Test → JoinedTest
joined_test join test = record { join = join; test = test }

-- a test: its join and its codes, seven bytes in all
unfoldable pub test_in : List ℕ → Option JoinedTest
test_in body = both joined_test (join_of (byte body 0)) (test_of (test_codes_in body))

-- an action's codes: a byte for the kind, two for which, one for the state
abbrev pub action_codes_in : List ℕ → ActionCodes
action_codes_in body = record { kind = byte body 0; which = two_bytes body 1; state = byte body 3 }

-- an action: four bytes
unfoldable pub action_in : List ℕ → Option Action
action_in body = action_of (action_codes_in body)

-- the tests in the fields of tag 18
abbrev pub tests_in : List Piece → List JoinedTest
tests_in ps = somes (map test_in (bodies 18 ps))

-- the actions in the fields with a tag
abbrev pub actions_in : ℕ → List Piece → List Action
actions_in tag ps = somes (map action_in (bodies tag ps))

-- ---- what is wrong with each kind of field

-- a name comes first, alone, and names no statement above
unfoldable pub name_rules : (used : List ℕ) (last : ℕ) → List ℕ → Rules
name_rules used last body =
    (not (last == 0), 2)
    ∷ (not (length body == 1), 2)
    ∷ (not (counted_to last_name (name_in body)), 4)
    ∷ (member (name_in body) used, 5)
    ∷ []

-- a mark comes right after the name
unfoldable pub mark_rules : (last : ℕ) → List ℕ → Rules
mark_rules last body =
    (not (last == 16), 2)
    ∷ (not (length body == 1), 2)
    ∷ (absent (mark_in body), 4)
    ∷ []

-- tests follow the name, the mark or each other, and only the first has join 0; `nth` counts those before
unfoldable pub test_rules : (last nth : ℕ) → List ℕ → Rules
test_rules last nth body =
    (not (nat_le 16 last && nat_le last 18), 2)
    ∷ (not (length body == 7), 2)
    ∷ (nat_le max_tests nth, 3)
    ∷ (absent (test_in body), 4)
    ∷ (not (alike (nth == 0) (byte body 0 == 0)), 4)
    ∷ []

-- actions of a branch follow where they are due; `before` are those of the branch above
unfoldable pub action_rules : (due : Bool) (before : List Action) → List ℕ → Rules
action_rules due before body =
    (not due, 2)
    ∷ (not (length body == 4), 2)
    ∷ (nat_le max_actions (length before), 3)
    ∷ (absent (action_in body), 4)
    ∷ (nat_lt max_delay (delays (before ++ listed (action_in body))), 6)
    ∷ []

-- THEN actions follow the tests or each other
abbrev pub then_due : ℕ → Bool
then_due last = nat_le 18 last && nat_le last 19

-- ELSE actions follow the tests, the THEN actions or each other
abbrev pub else_due : ℕ → Bool
else_due last = nat_le 18 last && nat_le last 20

-- what is wrong with a piece of a statement's body after the pieces before it, where the names `used` stand above
abbrev pub part_rules : (used : List ℕ) → List Piece → Piece → Rules
part_rules used before (cut place) = (true, 1) ∷ []
part_rules used before (field place tag body) =
    cond (tag == 16) (name_rules used (last_tag before) body)
    (cond (tag == 17) (mark_rules (last_tag before) body)
    (cond (tag == 18) (test_rules (last_tag before) (length (tests_in before)) body)
    (cond (tag == 19) (action_rules (then_due (last_tag before)) (actions_in 19 before) body)
    (cond (tag == 20) (action_rules (else_due (last_tag before)) (actions_in 20 before) body)
    ((true, 2) ∷ [])))))

-- ---- the statement

-- the fault of a piece of a statement's body
abbrev pub part_fault : (used : List ℕ) → List Piece → Piece → Option Told
part_fault used before p = at (place_of p) (first (part_rules used before p))

-- a statement needs a name and a test, so its body may end only after a test or an action
abbrev pub unfinished : (place last : ℕ) → Option Told
unfinished place last = cond (nat_le 18 last) None (Some (refused_at 2 place))

-- the fault of the statement whose field stands at `place`: the first of its pieces', then what is missing, at the field itself
abbrev pub statement_fault : (used : List ℕ) (place : ℕ) → List ℕ → Option Told
statement_fault used place body =
    or_else (first_fault (part_fault used) [] (pieces (place + 3) 0 body))
    (unfinished place (last_tag (pieces (place + 3) 0 body)))

-- the statement that the pieces of a body without fault say
abbrev pub statement_in : List Piece → StatementRow
statement_in ps = record {
  name = latest 0 (map name_in (bodies 16 ps));
  mark = latest absent_mark (somes (map mark_in (bodies 17 ps)));
  tests = tests_in ps;
  thens = actions_in 19 ps;
  elses = actions_in 20 ps;
}
