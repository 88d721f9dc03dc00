-- What the code that reads plans needs of lists.
use Rattle.std.proofs.Common.{◌≡◌, ℕ, suc, ◌-◌, ◌<◌, List, [], ◌∷◌, map, length, get_or, Some, None, Option, MatchOption, Bor, sym, refl, ap, ◌∙◌, arith}
use Rattle.std.specs.Slice.{IsGetResult}
use Rattle.std.proofs.lemmas.List.{nil_from_length}
use Rattle.tables.specs.declared.plan.Plan.{Plan}
use Rattle.tables.specs.Rows.{plan_row, row_number}
use Rattle.documents.specs.Fields.{latest}
use Rattle.documents.specs.Documents.{newest_number}

-- the newest of some plans stands at their end
newest_at_end : (none : ℕ) (d : Plan) (xs : List Plan) → 0 < length xs → (get_or xs (length xs - 1) d).number ≡ latest none (map row_number (map plan_row xs))
newest_at_end none d [] some = absurd (omega arith)
newest_at_end none d (x ∷ []) some = refl
newest_at_end none d (x ∷ y ∷ ys) some =
    let e : suc (suc (length ys)) - 1 ≡ suc (suc (length ys) - 1) = omega arith in
    ap (λ k. (get_or (x ∷ y ∷ ys) k d).number) e ∙ newest_at_end x.number d (y ∷ ys) (omega arith)

-- the number of the last plan, or 0 where there is none
pub number_of_last : (xs : List Plan) (o : Option (Bor Plan)) (r : ℕ) → IsGetResult xs 0 (length xs - 1) o → MatchOption o (r ≡ 0) (λ p. r ≡ p.now.number) → r ≡ newest_number (map plan_row xs)
number_of_last xs None r item is = is ∙ sym (ap (λ l. newest_number (map plan_row l)) (nil_from_length xs (omega (arith, item.3))))
number_of_last xs (Some p) r item is = is ∙ ap (λ (q : Plan). q.number) item.1 ∙ newest_at_end 0 p.now xs item.3.0
