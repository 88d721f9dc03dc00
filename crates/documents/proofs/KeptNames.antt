-- The name of a statement without fault is in range and not used above.
use Rattle.std.proofs.Common.{◌≡◌, ℕ, ◌≤◌, true, false, cond, eqb, List, [], ◌∷◌, ◌++◌, map, None, sym, refl, ap, ◌∙◌, subst, arith}
use Rattle.std.proofs.lemmas.Bool.{eqb-true}
use Rattle.tables.specs.Limits.{last_name, counted_to}
use Rattle.tables.specs.Lists.{member}
use Rattle.documents.specs.Fields.{Piece, field, bodies, latest, last_tag}
use Rattle.documents.specs.Judging.{first_fault}
use Rattle.documents.specs.Statements.{name_in, part_fault}
use Rattle.documents.proofs.Taking.{latest_push, same}
use Rattle.documents.proofs.Pushing.{said_more}
use Rattle.documents.proofs.Passing.{due_after}
use Rattle.documents.proofs.PartSteps.{PartSteps, parts_faultless}

-- a name in range that is not used above
abbrev pub Fresh : List ℕ → ℕ → Type 0
Fresh used n = (counted_to last_name n ≡ true) × (member n used ≡ false)

-- the name that the bodies of names say: the last of them
abbrev name_from : List (List ℕ) → ℕ
name_from bs = latest 0 (map name_in bs)

-- after a field there is a fresh name
abbrev Named : List ℕ → List Piece → Type 0
Named used ps = 16 ≤ last_tag ps → Fresh used (name_from (bodies 16 ps))

module _ (used : List ℕ) where
  -- a field that is no name leaves the name of the fields before it, of which there is one
  unnamed : (before : List Piece) (place tag : ℕ) (body : List ℕ) → cond (eqb tag 16) (body ∷ []) [] ≡ [] → 16 ≤ last_tag before → Named used before → Named used (before ++ field place tag body ∷ [])
  unnamed before place tag body isnt late so = λ _. subst (λ bs. Fresh used (name_from bs)) (sym (same place body before 16 tag isnt)) (so late)

  -- each field without fault leaves a fresh name
  named_steps : PartSteps used (Named used)
  named_steps = record {
    name = λ before place body h so.
        let is = ap (latest 0) (said_more name_in 16 place body before refl) ∙ latest_push 0 (map name_in (bodies 16 before)) (name_in body) in
        λ _. subst (Fresh used) (sym is) (h.in_range, h.unused);
    mark = λ before place body h so. let e = eqb-true (last_tag before) 16 h.due in unnamed before place 17 body refl (omega arith) so;
    test = λ before place body h so. unnamed before place 18 body refl (due_after 16 (last_tag before) 18 h.due) so;
    thens = λ before place body h so. let e = due_after 18 (last_tag before) 19 h.in_turn in unnamed before place 19 body refl (omega arith) so;
    elses = λ before place body h so. let e = due_after 18 (last_tag before) 20 h.in_turn in unnamed before place 20 body refl (omega arith) so;
  }

  -- a body without fault that has a field has a fresh name
  pub name_kept : (ps : List Piece) → first_fault (part_fault used) [] ps ≡ None → 16 ≤ last_tag ps → Fresh used (latest 0 (map name_in (bodies 16 ps)))
  name_kept ps none late = parts_faultless used (Named used) named_steps ps none (λ few. absurd (omega arith)) late
