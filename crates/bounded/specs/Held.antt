-- What a bounded list holds, and what adding to one does.
use Rattle.std.specs.Prelude.{◌≡◌, ℕ, ◌<◌, ◌≤◌, List, [], ◌∷◌, ◌++◌, length, take, Result, MatchResult}
use Rattle.bounded.specs.declared.BoundedList.{BoundedList}

-- the items of a list, in order; the memory past them does not count
abbrev pub held : {T : Type 0} {N : ℕ} → BoundedList T N → List T
held l = take l.len l.items

-- an item is added at the end of a list that has room; a full list stays as it was and gives the item back
abbrev pub Pushed : {T : Type 0} → ℕ → List T → T → List T → Result (Unit {0}) T → Type 0
Pushed capacity before item after r = MatchResult r
    (λ _. (length before < capacity) × (after ≡ before ++ item ∷ []))
    (λ back. (capacity ≤ length before) × (back ≡ item) × (after ≡ before))
