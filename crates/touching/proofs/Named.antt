-- What lines name, line by line.
use Rattle.std.proofs.Common.{List, [], ◌∷◌, inl, inr, ⊎_elim, refl, sym, subst}
use Rattle.tables.specs.declared.place.Place.{Place}
use Rattle.tables.specs.Lists.{Among}
use Rattle.rules.specs.Touching.{named_by}
use Rattle.rules.proofs.Lists.{among_left, among_right, among_either}
use Rattle.touching.specs.Sharing.{Share}
use Rattle.touching.proofs.Searches.{AnyOf}

module _ {L : Type 0} (names : L → List Place) where
  -- a place that lines name is named by one of them
  pub by_a_line : (p : Place) (lines : List L) → Among p (named_by names lines) → AnyOf (λ line. Among p (names line)) lines
  by_a_line p [] m = absurd m
  by_a_line p (line ∷ more) m =
      ⊎_elim (λ here. (line, inl refl, here)) (λ later. let r = by_a_line p more later in (r.0, inr r.1, r.2)) (among_either p (names line) (named_by names more) m)

  -- and the other way
  pub by_lines : (p : Place) (lines : List L) → AnyOf (λ line. Among p (names line)) lines → Among p (named_by names lines)
  by_lines p [] m = absurd m.1
  by_lines p (line ∷ more) (it, inl e, here) = among_left p (names line) (named_by names more) (subst (λ l. Among p (names l)) (sym e) here)
  by_lines p (line ∷ more) (it, inr m, here) = among_right p (names line) (named_by names more) (by_lines p more (it, m, here))

  -- lines share a place with a list where one of them does
  pub share_by_a_line : (lines : List L) (qs : List Place) → Share (named_by names lines) qs → AnyOf (λ line. Share (names line) qs) lines
  share_by_a_line lines qs h = let r = by_a_line h.0 lines h.1 in (r.0, r.1, (h.0, r.2, h.2))

  pub share_by_lines : (lines : List L) (qs : List Place) → AnyOf (λ line. Share (names line) qs) lines → Share (named_by names lines) qs
  share_by_lines lines qs h = (h.2.0, by_lines h.2.0 lines (h.0, h.1, h.2.1), h.2.2)
