-- How long the bytes of the parts of a table are.
use Rattle.std.proofs.Common.{◌≡◌, ℕ, ◌+◌, ◌*◌, ◌≤◌, Bool, true, false, List, [], ◌∷◌, ◌++◌, length, sym, refl, suc-mul, zero-mul, arith}
use Rattle.std.specs.List.{flat_map}
use Rattle.std.proofs.lemmas.List.{length-append}
use Rattle.std.proofs.lemmas.Bool.{and_parts}
use Rattle.tables.specs.declared.statement.Mark.{Mark}
use Rattle.tables.specs.declared.statement.Mark.TheVariants.{Enabled, Disabled, Planned}
use Rattle.tables.specs.Lists.{every}
use Rattle.tables.specs.Rows.{StatementRow}
use Rattle.writing.specs.Bytes.{field_bytes, test_body, action_body, mark_bytes, statement_body, statements_bytes}

module _ {X : Type 0} (f : X → List ℕ) (n : ℕ) where
  -- lists of one length, joined
  joined_length : ((x : X) → length (f x) ≡ n) → (xs : List X) → length (flat_map f xs) ≡ length xs * n
  joined_length each [] = sym (zero-mul n)
  joined_length each (x ∷ xs) =
      let a = length-append (f x) (flat_map f xs) in
      let b = joined_length each xs in
      let c = suc-mul (length xs) n in
      let d = each x in
      omega arith

  -- lists that are each at most so long, joined
  pub joined_at_most : (passes : X → Bool) → ((x : X) → passes x ≡ true → length (f x) ≤ n) → (xs : List X) → every passes xs ≡ true → length (flat_map f xs) ≤ length xs * n
  joined_at_most passes each [] all = omega arith
  joined_at_most passes each (x ∷ xs) all =
      let two = and_parts (passes x) (every passes xs) all in
      let a = length-append (f x) (flat_map f xs) in
      let b = joined_at_most passes each xs two.1 in
      let c = suc-mul (length xs) n in
      let d = each x two.0 in
      omega arith

-- a mark is of four bytes or left out
mark_at_most : (b : Bool) (m : Mark) → length (mark_bytes b m) ≤ 4
mark_at_most true Enabled = omega arith
mark_at_most true Disabled = omega arith
mark_at_most true Planned = omega arith
mark_at_most false Enabled = omega arith
mark_at_most false Disabled = omega arith
mark_at_most false Planned = omega arith

-- a statement's body: its name, its mark, ten bytes to a test and seven to an action
statement_length : (b : Bool) (s : StatementRow) → length (statement_body b s) ≡ 4 + length (mark_bytes b s.mark) + 10 * length s.tests + 7 * (length s.thens + length s.elses)
statement_length b s =
    let mark = mark_bytes b s.mark in
    let tests = flat_map (λ t. field_bytes 18 (test_body t)) s.tests in
    let thens = flat_map (λ a. field_bytes 19 (action_body a)) s.thens in
    let elses = flat_map (λ a. field_bytes 20 (action_body a)) s.elses in
    let a = length-append mark (tests ++ (thens ++ elses)) in
    let b = length-append tests (thens ++ elses) in
    let c = length-append thens elses in
    let t = joined_length (λ t. field_bytes 18 (test_body t)) 10 (λ _. refl) s.tests in
    let u = joined_length (λ a. field_bytes 19 (action_body a)) 7 (λ _. refl) s.thens in
    let e = joined_length (λ a. field_bytes 20 (action_body a)) 7 (λ _. refl) s.elses in
    omega arith

-- and so it is at most as long as with a mark, the most tests and the most actions
pub statement_at_most : (b : Bool) (s : StatementRow) (tests actions : ℕ) → length s.tests ≤ tests → length s.thens ≤ actions → length s.elses ≤ actions → length (statement_body b s) ≤ 4 + 4 + 10 * tests + 2 * (7 * actions)
statement_at_most b s tests actions t u e =
    let n = statement_length b s in
    let m = mark_at_most b s.mark in
    omega arith

-- the fields of statements that are each at most so long
pub statements_at_most : (n : ℕ) (passes : StatementRow → Bool) → ((b : Bool) (s : StatementRow) → passes s ≡ true → length (field_bytes 2 (statement_body b s)) ≤ n) → (spelled : List Bool) (ss : List StatementRow) → every passes ss ≡ true → length (statements_bytes spelled ss) ≤ length ss * n
statements_at_most n passes each spelled [] all = omega arith
statements_at_most n passes each [] (s ∷ ss) all =
    let two = and_parts (passes s) (every passes ss) all in
    let a = length-append (field_bytes 2 (statement_body false s)) (statements_bytes [] ss) in
    let b = statements_at_most n passes each [] ss two.1 in
    let c = suc-mul (length ss) n in
    let d = each false s two.0 in
    omega arith
statements_at_most n passes each (b ∷ spelled) (s ∷ ss) all =
    let two = and_parts (passes s) (every passes ss) all in
    let a = length-append (field_bytes 2 (statement_body b s)) (statements_bytes spelled ss) in
    let r = statements_at_most n passes each spelled ss two.1 in
    let c = suc-mul (length ss) n in
    let d = each b s two.0 in
    omega arith
