-- How long the parts of a statement are.
use Rattle.std.proofs.Common.{◌≡◌, ℕ, ◌+◌, false, List, [], ◌∷◌, ◌++◌, length, Some, None, Option, MatchOption, sum_by, cond, refl, ap, subst, arith}
use Rattle.std.proofs.lemmas.List.{length-append}
use Rattle.std.proofs.lemmas.List.Sums.{sum_by-cons}
use Rattle.tables.specs.declared.statement.Mark.{Mark}
use Rattle.tables.specs.declared.statement.Mark.TheVariants.{Enabled, Disabled, Planned}
use Rattle.tables.specs.Codes.{mark_code}
use Rattle.tables.specs.Rows.{StatementRow}
use Rattle.writing.specs.Bytes.{fields_bytes, is_absent, mark_bytes, tests_bytes, actions_bytes, statement_body}

-- the fields of some items, each three bytes longer than its body
pub fields_length : {X : Type 0} (body : X → List ℕ) (tag : ℕ) (xs : List X) → sum_by (λ x. 3 + length (body x)) xs ≡ length (fields_bytes tag body xs)
fields_length body tag [] = refl
fields_length body tag (x ∷ xs) =
    let e = fields_length body tag xs in
    omega (arith, sum_by-cons (λ x. 3 + length (body x)) x xs, length-append (body x) (fields_bytes tag body xs))

-- the field of a mark: `bytes` is the mark's byte, where it is spelled out
field_of_mark : (m : Mark) (bytes : List ℕ) → MatchOption (cond (is_absent m) None (Some (mark_code m))) (bytes ≡ []) (λ b. bytes ≡ b ∷ []) → fields_bytes 17 (λ b. b ∷ []) bytes ≡ mark_bytes false m
field_of_mark Enabled bytes is = ap (fields_bytes 17 (λ b. b ∷ [])) is
field_of_mark Disabled bytes is = ap (fields_bytes 17 (λ b. b ∷ [])) is
field_of_mark Planned bytes is = ap (fields_bytes 17 (λ b. b ∷ [])) is

-- the same, where the byte is an option as a slice
pub mark_field : (m : Mark) (bytes : List ℕ) {o : Option ℕ} → o ≡ cond (is_absent m) None (Some (mark_code m)) → MatchOption o (bytes ≡ []) (λ b. bytes ≡ b ∷ []) → fields_bytes 17 (λ b. b ∷ []) bytes ≡ mark_bytes false m
mark_field m bytes spelled is =
    field_of_mark m bytes (subst (λ x. MatchOption x (bytes ≡ []) (λ b. bytes ≡ b ∷ [])) spelled is)

-- a statement's body, part by part
pub body_size : (s : StatementRow) → length (statement_body false s) ≡ 4 + (length (mark_bytes false s.mark) + (length (tests_bytes s.tests) + (length (actions_bytes 19 s.thens) + length (actions_bytes 20 s.elses))))
body_size s =
    omega (
      arith,
      length-append (mark_bytes false s.mark) (tests_bytes s.tests ++ (actions_bytes 19 s.thens ++ actions_bytes 20 s.elses)),
      length-append (tests_bytes s.tests) (actions_bytes 19 s.thens ++ actions_bytes 20 s.elses),
      length-append (actions_bytes 19 s.thens) (actions_bytes 20 s.elses),
    )
