-- Setting one place leaves the others, and settings of different places commute.
use Rattle.std.proofs.Common.{◌≡◌, ℕ, ◌+◌, ◌-◌, Bool, true, false, cond, ltb, ◌≢◌, List, [], ◌∷◌, Some, None, sym, refl, ap, ◌∙◌, inl, inr, arith, get_or-set_other}
use lib.Seq.{set_comm}
use Rattle.std.proofs.lemmas.Bool.{ltb-true}
use Rattle.tables.specs.declared.place.Buffer.{Buffer}
use Rattle.tables.specs.declared.place.Buffer.TheVariants.{Input, Output}
use Rattle.tables.specs.declared.place.Place.{Place}
use Rattle.tables.specs.declared.place.Place.TheVariants.{InputCell, OutputCell, Flag}
use Rattle.tables.specs.Limits.{last_flag, counted_to}
use Rattle.tables.specs.Lists.{Among}
use Rattle.documents.proofs.Pigeonhole.{counted_bounds}
use Rattle.cells.specs.Cells.{buffer_cells, first_cell}
use Rattle.rules.specs.Memory.{Places, Location, in_cells, in_flags, nowhere, cell_location, location, on_at, set_at, place_on, place_set}
use Rattle.rules.specs.Acting.{Write, after_writes}

-- ---- locations

-- two locations are not the same index of the same list
abbrev Apart : Location → Location → Type 0
Apart (in_cells i) (in_cells j) = i ≢ j
Apart (in_cells i) (in_flags j) = Unit {0}
Apart (in_cells i) nowhere = Unit {0}
Apart (in_flags i) (in_cells j) = Unit {0}
Apart (in_flags i) (in_flags j) = i ≢ j
Apart (in_flags i) nowhere = Unit {0}
Apart nowhere (in_cells j) = Unit {0}
Apart nowhere (in_flags j) = Unit {0}
Apart nowhere nowhere = Unit {0}

-- the location of a cell, by whether its buffer has the code
abbrev placed : Bool → ℕ → Location
placed within i = cell_location (cond within (Some i) None)

placed_apart : (a b : Bool) (i j : ℕ) → (a ≡ true → b ≡ true → i ≢ j) → Apart (placed a i) (placed b j)
placed_apart true true i j h = h refl refl
placed_apart true false i j h = tt
placed_apart false true i j h = tt
placed_apart false false i j h = tt

-- two cells of buffers stand apart where one index gives only one of them
cells_apart : (b d : Buffer) (c e : ℕ) → (ltb c (buffer_cells b) ≡ true → ltb e (buffer_cells d) ≡ true → (first_cell b + c) ≢ (first_cell d + e))
    → Apart (placed (ltb c (buffer_cells b)) (first_cell b + c)) (placed (ltb e (buffer_cells d)) (first_cell d + e))
cells_apart b d c e h = placed_apart (ltb c (buffer_cells b)) (ltb e (buffer_cells d)) (first_cell b + c) (first_cell d + e) h

cell_and_flag : (a b : Bool) (i j : ℕ) → Apart (placed a i) (cond b (in_flags j) nowhere)
cell_and_flag true true i j = tt
cell_and_flag true false i j = tt
cell_and_flag false true i j = tt
cell_and_flag false false i j = tt

flag_and_cell : (a b : Bool) (i j : ℕ) → Apart (cond b (in_flags j) nowhere) (placed a i)
flag_and_cell true true i j = tt
flag_and_cell true false i j = tt
flag_and_cell false true i j = tt
flag_and_cell false false i j = tt

flags_apart : (a b : Bool) (f g : ℕ) → (a ≡ true → counted_to last_flag f ≡ true) → (b ≡ true → counted_to last_flag g ≡ true)
    → (f ≡ g → ⊥) → Apart (cond a (in_flags (f - 1)) nowhere) (cond b (in_flags (g - 1)) nowhere)
flags_apart true true f g x y h =
    let p = counted_bounds last_flag f (x refl) in
    let q = counted_bounds last_flag g (y refl) in
    λ e. h (omega (arith, p.0, q.0, e))
flags_apart true false f g x y h = tt
flags_apart false true f g x y h = tt
flags_apart false false f g x y h = tt

-- different places have locations apart
locations_apart : (p q : Place) → p ≢ q → Apart (location p) (location q)
locations_apart (InputCell c) (InputCell e) d = cells_apart Input Input c e (λ p q x. d (ap InputCell (omega arith)))
locations_apart (InputCell c) (OutputCell e) d = cells_apart Input Output c e (λ p q x. let h = ltb-true c (buffer_cells Input) p in omega arith)
locations_apart (InputCell c) (Flag g) d = cell_and_flag (ltb c (buffer_cells Input)) (counted_to last_flag g) _ _
locations_apart (OutputCell c) (InputCell e) d = cells_apart Output Input c e (λ p q x. let h = ltb-true e (buffer_cells Input) q in omega arith)
locations_apart (OutputCell c) (OutputCell e) d = cells_apart Output Output c e (λ p q x. d (ap OutputCell (omega arith)))
locations_apart (OutputCell c) (Flag g) d = cell_and_flag (ltb c (buffer_cells Output)) (counted_to last_flag g) _ _
locations_apart (Flag f) (InputCell e) d = flag_and_cell (ltb e (buffer_cells Input)) (counted_to last_flag f) _ _
locations_apart (Flag f) (OutputCell e) d = flag_and_cell (ltb e (buffer_cells Output)) (counted_to last_flag f) _ _
locations_apart (Flag f) (Flag g) d = flags_apart (counted_to last_flag f) (counted_to last_flag g) f g (λ e. e) (λ e. e) (λ x. d (ap Flag x))

-- ---- one setting

on_set_other : (k l : Location) (v : Bool) (ps : Places) → Apart l k → on_at (set_at k v ps) l ≡ on_at ps l
on_set_other (in_cells i) (in_cells j) v ps d = get_or-set_other ps.cells i j v false d
on_set_other (in_cells i) (in_flags j) v ps d = refl
on_set_other (in_cells i) nowhere v ps d = refl
on_set_other (in_flags i) (in_cells j) v ps d = refl
on_set_other (in_flags i) (in_flags j) v ps d = get_or-set_other ps.flags i j v false d
on_set_other (in_flags i) nowhere v ps d = refl
on_set_other nowhere (in_cells j) v ps d = refl
on_set_other nowhere (in_flags j) v ps d = refl
on_set_other nowhere nowhere v ps d = refl

place_set_other : (p q : Place) (v : Bool) (ps : Places) → q ≢ p → place_on (place_set p v ps) q ≡ place_on ps q
place_set_other p q v ps d = on_set_other (location p) (location q) v ps (locations_apart q p d)

set_at_comm : (k l : Location) (v w : Bool) (ps : Places) → Apart k l → set_at l w (set_at k v ps) ≡ set_at k v (set_at l w ps)
set_at_comm (in_cells i) (in_cells j) v w ps d = λ x. record { cells = set_comm ps.cells i j v w d x; flags = ps.flags }
set_at_comm (in_cells i) (in_flags j) v w ps d = refl
set_at_comm (in_cells i) nowhere v w ps d = refl
set_at_comm (in_flags i) (in_cells j) v w ps d = refl
set_at_comm (in_flags i) (in_flags j) v w ps d = λ x. record { cells = ps.cells; flags = set_comm ps.flags i j v w d x }
set_at_comm (in_flags i) nowhere v w ps d = refl
set_at_comm nowhere (in_cells j) v w ps d = refl
set_at_comm nowhere (in_flags j) v w ps d = refl
set_at_comm nowhere nowhere v w ps d = refl

place_set_comm : (p q : Place) (v w : Bool) (ps : Places) → p ≢ q → place_set q w (place_set p v ps) ≡ place_set p v (place_set q w ps)
place_set_comm p q v w ps d = set_at_comm (location p) (location q) v w ps (locations_apart p q d)

-- ---- writes one after another

-- some write of the list is to that place
abbrev pub Writes : List Write → Place → Type 0
Writes ws p = (w : Write) × Among w ws × (w.place ≡ p)

later : (w : Write) (ws : List Write) (p : Place) → Writes ws p → Writes (w ∷ ws) p
later w ws p k = (k.0, inr k.1, k.2)

pub place_unwritten : (ws : List Write) (p : Place) (ps : Places) → (Writes ws p → ⊥) → place_on (after_writes ws ps) p ≡ place_on ps p
place_unwritten [] p ps n = refl
place_unwritten (w ∷ ws) p ps n =
    place_unwritten ws p (place_set w.place w.on ps) (λ k. n (later w ws p k))
    ∙ place_set_other w.place p w.on ps (λ e. n (w, inl refl, sym e))

writes_past_one : (ws : List Write) (p : Place) (v : Bool) (ps : Places) → (Writes ws p → ⊥)
    → after_writes ws (place_set p v ps) ≡ place_set p v (after_writes ws ps)
writes_past_one [] p v ps n = refl
writes_past_one (w ∷ ws) p v ps n =
    ap (after_writes ws) (place_set_comm p w.place v w.on ps (λ e. n (w, inl refl, sym e)))
    ∙ writes_past_one ws p v (place_set w.place w.on ps) (λ k. n (later w ws p k))

-- writes to different places commute
pub writes_commute : (ws vs : List Write) (ps : Places) → ((p : Place) → Writes ws p → Writes vs p → ⊥)
    → after_writes ws (after_writes vs ps) ≡ after_writes vs (after_writes ws ps)
writes_commute [] vs ps n = refl
writes_commute (w ∷ ws) vs ps n =
    ap (after_writes ws) (sym (writes_past_one vs w.place w.on ps (n w.place (w, inl refl, refl))))
    ∙ writes_commute ws vs (place_set w.place w.on ps) (λ p k. n p (later w ws p k))
