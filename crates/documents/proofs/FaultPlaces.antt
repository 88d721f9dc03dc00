-- A refusal names where a field begins.
use Rattle.std.proofs.Common.{◌≡◌, ℕ, ◌+◌, ◌⊎◌, List, refl, inl, inr}
use Rattle.tables.specs.Refusals.{Told, at_place}
use Rattle.documents.specs.Fields.{field, place_of}
use Rattle.documents.specs.Refused.{FirstFault, own, inner, lacking, empty, Begins, BeginsInside, RefusalsNameWhereAFieldBegins}
use Rattle.documents.proofs.Places.{begins_there}
use Rattle.documents.proofs.FirstFaults.{refusals_are_of_the_first_fault}

-- the first fault is named by the place of its field
first_fault_place : (doc : List ℕ) (t : Told) → FirstFault doc t
    → (place : ℕ) × (t.values ≡ at_place place) × ((place ≡ 0) ⊎ (Begins 0 doc place ⊎ BeginsInside doc place))
first_fault_place doc _ (own before p after number split clean least) =
    (place_of p, refl, inr (inl (begins_there 0 doc before p after split)))
first_fault_place doc _ (inner before place body after split clean free above p below number parts sound least) = (
  place_of p,
  refl,
  inr (inr (record {
    before = before;
    start = place;
    body = body;
    after = after;
    split = split;
    inside = begins_there (place + 3) body above p below parts;
  })),
)
first_fault_place doc _ (lacking before place body after split clean free sound low) =
    (place, refl, inr (inl (begins_there 0 doc before (field place 2 body) after split)))
first_fault_place doc _ (empty none) = (0, refl, inl refl)

-- a refusal's place is 0, or where a field of the document or of one of its statements begins
pub refusals_name_where_a_field_begins : RefusalsNameWhereAFieldBegins
refusals_name_where_a_field_begins doc t e = first_fault_place doc t (refusals_are_of_the_first_fault doc t e)
