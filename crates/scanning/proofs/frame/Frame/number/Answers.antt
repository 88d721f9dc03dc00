use Rattle.std.proofs.Common.{◌≡◌, ℕ, ◌+◌, ◌*◌, ◌-◌, ◌<◌, ◌≤◌, List, length, drop, get_or, ap, ◌∙◌, arith}
use Rattle.std.specs.List.{slice_range}
use Rattle.std.proofs.lemmas.List.{get_or-take, get_or-drop, get_or_past}
use Rattle.rules.specs.Frames.{number_at, number_shown}
use Rattle.scanning.proofs.frame.Frame.number.Goals as goal

-- the bytes of two of a list
of_two : (bytes : List ℕ) (at k : ℕ) → k < 2 → get_or (slice_range bytes at (at + 2)) k 0 ≡ get_or bytes (at + k) 0
of_two bytes at k h = get_or-take (at + 2 - at) (drop at bytes) k 0 (omega arith) ∙ get_or-drop at bytes k 0

-- a number past the cells, by the two bytes where it stands
two_bytes : (bytes two : List ℕ) (cells code : ℕ) → two ≡ slice_range bytes (cells + 2 * code) (cells + 2 * code + 2)
    → get_or two 0 0 * 256 + get_or two 1 0 ≡ number_at (drop cells bytes) code
two_bytes bytes two cells code e =
    let at = cells + 2 * code in
    let high = ap (λ xs. get_or xs 0 0) e ∙ of_two bytes at 0 (omega arith) in
    let low = ap (λ xs. get_or xs 1 0) e ∙ of_two bytes at 1 (omega arith) in
    let first = get_or-drop cells bytes (2 * code) 0 in
    let second = get_or-drop cells bytes (2 * code + 1) 0 in
    grind (arith, high, low, first, second)

-- a number past the end
past_end : (bytes : List ℕ) (cells code : ℕ) → length bytes ≤ cells + 2 * code → 0 ≡ number_at (drop cells bytes) code
past_end bytes cells code h =
    let first = get_or-drop cells bytes (2 * code) 0 ∙ get_or_past bytes (cells + 2 * code) 0 h in
    let second = get_or-drop cells bytes (2 * code + 1) 0 ∙ get_or_past bytes (cells + (2 * code + 1)) 0 (omega arith) in
    omega (arith, first, second)

pub returns-in-Some : goal.returns-in-Some
unfolding number_shown
returns-in-Some c =
    c.from_be_bytes.ensures ∙ two_bytes c.self.inside.bytes.now c.in-Some.bytes.now 168 c.from-2.result c.in-Some.ensures.lookup.0.2
    ∙ ap (number_at (drop 168 c.self.inside.bytes.now)) (c.from-2.ensures ∙ c.from.ensures)
    ∙ ap (λ bytes. number_shown bytes c.args.number) c.self.view_is

pub returns-in-None : goal.returns-in-None
unfolding number_shown
returns-in-None c =
    past_end c.self.inside.bytes.now 168 c.from-2.result (omega (arith, c.self.invariant, c.in-None.ensures.lookup.0))
    ∙ ap (number_at (drop 168 c.self.inside.bytes.now)) (c.from-2.ensures ∙ c.from.ensures)
    ∙ ap (λ bytes. number_shown bytes c.args.number) c.self.view_is
