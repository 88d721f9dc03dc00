use Rattle.std.proofs.Common.{◌≡◌, ℕ, Bool, ◌&&◌, ◌||◌, eqb, List, [], ◌∷◌, map, refl, ap, ap₂, ◌∙◌, arith, rules, tests}
use Rattle.std.specs.List.{list_any}
use Rattle.std.proofs.lemmas.Iterator.{YieldsList-from_slice}
use Rattle.std.proofs.lemmas.Iterator.Search.{any_from_yields_List}
use Rattle.std.proofs.lemmas.Bool.Decides.{nat_tests}
use Rattle.bounded.specs.Held.{held}
use Rattle.tables.specs.declared.plan.Plan.{Plan}
use Rattle.tables.specs.declared.statement.Name.{Name}
use Rattle.tables.specs.Lists.{member}
use Rattle.tables.specs.Rows.{name_number, plan_row}
use Rattle.rules.specs.Enabling.{plan_lists}
use Rattle.scanning.proofs.enabling.is_planned.Goals as goal

-- names that are compared are numbers that are compared
named_member : (n : ℕ) (xs : List Name) → list_any (λ y. eqb y.0 n) xs ≡ member n (map name_number xs)
named_member n [] = refl
named_member n (x ∷ xs) =
    let same : eqb x.0 n ≡ eqb n x.0 = grind (arith, nat_tests) in
    ap₂ (λ (a b : Bool). a || b) same (named_member n xs)

by_plans : (number n : ℕ) (ps : List Plan) → list_any (λ (p : Plan). eqb p.number number && member n (map name_number (held p.names))) ps ≡ plan_lists (map plan_row ps) number n
by_plans number n [] = refl
by_plans number n (p ∷ ps) = ap (λ b. (eqb p.number number && member n (map name_number (held p.names))) || b) (by_plans number n ps)

pub returns : goal.returns
returns c =
    let lists : Plan → Bool = λ p. eqb p.number c.args.number && member c.args.name.0 (map name_number (held p.names)) in
    let found : c.any.result ≡ list_any lists c.args.plans.now =
    any_from_yields_List lists _ _ c.any.result c.any.ensures.ran (YieldsList-from_slice c.args.plans.now cc) (λ x b q k. let e = named_member c.args.name.0 (held x.now.names) in search (rules, tests)) in
    found ∙ by_plans c.args.number c.args.name.0 c.args.plans.now
