-- What `any` answers, where the closure decides a fact of each item.
use Rattle.std.proofs.Common.{◌≡◌, ℕ, zero, suc, ◌<◌, Bool, true, false, List, [], ◌∷◌, length, Decides, MatchBool, Option, sym, refl, subst, inl, inr, arith}
use Rattle.std.specs.Fn.{Called}
use Rattle.std.specs.Iterator.{AlwaysYields, YieldsFirst, ChecksAny}
use Rattle.std.specs.List.{HoldsAt, AllWithin}
use Rattle.std.proofs.lemmas.Bool.{false≢true}
use Rattle.std.proofs.lemmas.Bool.Decides.{not_from_Decides}
use Rattle.std.proofs.lemmas.Iterator.{YieldsList, cases_from_any}
use denote.Param.Members.{Mut}
use Rattle.tables.specs.Lists.{Among}

-- some element of a list is so
abbrev pub AnyOf : {X : Type 0} → (X → Type 0) → List X → Type 0
AnyOf {X} At xs = (x : X) × Among x xs × At x

module _ {X : Type 0} (At : X → Type 0) where
  -- where the element at a place is so, some element is
  at_place : (xs : List X) (k : ℕ) → k < length xs → HoldsAt At xs k → AnyOf At xs
  at_place [] k h holds = absurd (omega arith)
  at_place (x ∷ xs) zero h holds = (x, inl refl, holds x)
  at_place (x ∷ xs) (suc k) h holds = let r = at_place xs k (omega arith) holds in (r.0, inr r.1, r.2)

  -- where the element at no place is so, none is
  at_none : (xs : List X) → AllWithin (λ x. At x → ⊥) xs 0 (length xs) → (x : X) → Among x xs → At x → ⊥
  at_none [] none x m a = m
  at_none (y ∷ xs) none x (inl e) a = none 0 y (omega arith) (omega arith) (subst At (sym e) a)
  at_none (y ∷ xs) none x (inr m) a = at_none xs (λ k d low high. none (suc k) d (omega arith) (omega arith)) x m a

  -- so the answer by places decides whether some element is so
  decided : (xs : List X) (r : Bool) → MatchBool r ((k : ℕ) × (k < length xs) × HoldsAt At xs k) (AllWithin (λ x. At x → ⊥) xs 0 (length xs)) → Decides r (AnyOf At xs)
  decided xs true h = ((λ _. at_place xs h.0 h.1 h.2), λ _. refl)
  decided xs false h = ((λ e. absurd (false≢true e)), λ some. absurd (at_none xs h some.0 some.1 some.2))

-- `any` answers whether some item is so
pub any_decides : {S A B F : Type 0} {steps : S → Option A → S → Type 0} {v : A → B} {g : Mut F (A × Unit {0}) Bool} {s : S} {xs : List B} (u : S) (f : F) (r : Bool) (At : B → Type 0) → ChecksAny steps g s f r u → YieldsList steps v s xs → ((x : A) (b : Bool) (q : F) → Called g f (x, tt) b q → (q ≡ f) × Decides b (At (v x))) → Decides r (AnyOf At xs)
any_decides {xs = xs} u f r At ran yields closure =
    decided At xs r (cases_from_any u f r At (λ x. At x → ⊥) ran yields
    (λ x q k. (closure x true q k).1.0 refl)
    (λ x q k. let h = closure x false q k in (h.0, not_from_Decides false h.1 refl)))

module _ {S A : Type 0} (rest : S → List A) where
  -- an iterator that shows what is left gives that
  gives : (xs : List A) (s : S) → rest s ≡ xs → AlwaysYields (YieldsFirst rest) (λ x. x) s xs
  gives [] s e = λ x t h. cc
  gives (y ∷ ys) s e = ((λ t h. cc), λ x t h. (cc, gives ys t cc))

  pub YieldsList-from_rest : {s : S} (xs : List A) → rest s ≡ xs → YieldsList (YieldsFirst rest) (λ x. x) s xs
  YieldsList-from_rest {s} xs e = record { runs = gives xs s e }
