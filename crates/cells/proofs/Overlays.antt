-- Cells under two masks.
use Rattle.std.proofs.Common.{◌≡◌, ℕ, ◌<◌, Bool, true, false, cond, eqb, List, length, get_or, set, Some, None, Option, not, refl, inl, inr, arith, get_or-set_same}
use Rattle.std.proofs.lemmas.List.{get_or-replicate, length-replicate, get_or_past}
use Rattle.std.proofs.lemmas.Bool.{cases_lt}
use Rattle.std.specs.Option.{unwrap_or}
use Rattle.tables.specs.declared.place.State.{State}
use Rattle.tables.specs.declared.place.State.TheVariants.{Off, On}
use Rattle.cells.specs.Cells.{all_cells, cleared, is_on, state_when, at_position}
use Rattle.cells.specs.Overlays.{forced_or, forced_to, overlaid, opposite_of}
use Rattle.cells.proofs.Tables.{tabulated_from, tabulated_set, get_or_tabulated, get_or_set}
use Rattle.cells.proofs.Positions.{Inside}

-- cleared cells are OFF everywhere
pub cleared_at : (i : ℕ) → get_or cleared i false ≡ false
unfolding cleared
cleared_at i =
    elim (cases_lt i all_cells) [
      | inl h ↦ get_or-replicate all_cells i false false h
      | inr h ↦ get_or_past cleared i false (omega (arith, length-replicate all_cells false))
    ]

-- under empty masks the controller's cells are seen as they are
pub overlaid_cleared : (own : List Bool) → length own ≡ all_cells → overlaid cleared cleared own ≡ own
overlaid_cleared own l =
    tabulated_from all_cells _ own l (λ k h. rw cleared_at)

-- the same after a take, which may change nothing
pub overlaid_taken : (t : Bool) (on off own taken : List Bool) → length taken ≡ all_cells
    → overlaid (cond t cleared on) (cond t cleared off) (cond t taken own) ≡ cond t taken (overlaid on off own)
overlaid_taken true on off own taken l = overlaid_cleared taken l
overlaid_taken false on off own taken l = refl

-- a cell that is put into the mask of a state, and taken out of the other, has that state
one_mask : (t : Bool) (state : State) (on off own : Bool)
    → forced_or (forced_to (cond t (is_on state) on) (cond t (is_on (opposite_of state)) off)) own
    ≡ cond t (is_on state) (forced_or (forced_to on off) own)
one_mask true Off on off own = refl
one_mask true On on off own = refl
one_mask false state on off own = refl

pub overlaid_set : (on off own : List Bool) → length on ≡ all_cells → length off ≡ all_cells
    → (i : ℕ) → i < all_cells → (state : State)
    → overlaid (set on i (is_on state)) (set off i (is_on (opposite_of state))) own ≡ set (overlaid on off own) i (is_on state)
overlaid_set on off own l m i h state =
    tabulated_set all_cells _ _ i (is_on state) h
    (λ j k. let in_on : i < length on = omega (arith, l, h) in let in-off : i < length off = omega (arith, m, h) in
    let a = get_or_set on i j (is_on state) false in_on in
    let b = get_or_set off i j (is_on (opposite_of state)) false in-off in
    rw (a, b) (one_mask (eqb j i) state (get_or on j false) (get_or off j false) (get_or own j false)))

-- and one mask alone has it
one_of : (state : State) → is_on state ≡ not (is_on (opposite_of state))
one_of Off = refl
one_of On = refl

pub one_has : (on off : List Bool) → length on ≡ all_cells → length off ≡ all_cells
    → (i : ℕ) → i < all_cells → (state : State)
    → get_or (set on i (is_on state)) i false ≡ not (get_or (set off i (is_on (opposite_of state))) i false)
one_has on off l m i h state =
    let in_on : i < length on = omega (arith, l) in let in-off : i < length off = omega (arith, m) in
    rw (get_or-set_same on, get_or-set_same off) (one_of state)

-- the state that a cell is forced to, else its own
pub forced_state_or : (f : Option State) (own : Bool) → is_on (unwrap_or f (state_when own)) ≡ forced_or f own
forced_state_or (Some state) own = refl
forced_state_or None true = refl
forced_state_or None false = refl

pub forced_or_state : (f : Option State) (own : Bool) → unwrap_or f (state_when own) ≡ state_when (forced_or f own)
forced_or_state (Some Off) own = refl
forced_or_state (Some On) own = refl
forced_or_state None own = refl

-- which is what stands at its position under both masks
pub overlaid_at : (on off own : List Bool) (p : Option ℕ) → Inside p
    → unwrap_or (forced_to (at_position on p) (at_position off p)) (state_when (at_position own p))
    ≡ state_when (at_position (overlaid on off own) p)
overlaid_at on off own None h = refl
overlaid_at on off own (Some i) h =
    rw (get_or_tabulated all_cells) (forced_or_state (forced_to (get_or on i false) (get_or off i false)) (get_or own i false))
