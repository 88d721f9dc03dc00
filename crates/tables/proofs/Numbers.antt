-- A number's code stands for that number alone.
use Rattle.std.proofs.Common.{◌≡◌, ℕ, ◌<◌, true, leb, List, [], ◌∷◌, ◌++◌, map, Some, None, sym, refl, ap, ◌∙◌, inl, inr, arith}
use Rattle.std.specs.List.{range_with_len, flat_map}
use Rattle.std.proofs.lemmas.Bool.{and_parts, leb-true}
use Rattle.tables.specs.declared.number.Ring.{Ring}
use Rattle.tables.specs.declared.number.Ring.TheVariants.{One, Two, Three, Four}
use Rattle.tables.specs.declared.number.Timer.{Timer}
use Rattle.tables.specs.declared.number.Timer.TheVariants.{MinGreen, MaxGreen, Yellow, RedClear, Walk, PedClear}
use Rattle.tables.specs.declared.number.Number.{Number}
use Rattle.tables.specs.declared.number.Number.TheVariants.{RingTimer, CoordinationPlan, CycleLength, Offset, LocalCycleTimer, MasterCycleTimer, SplitTimer, Month, DayOfMonth, DayOfWeek, Hour, Minute, Second, Tenth, Volume, Occupancy, SplitPattern, DetectorPlan, DayPlan, ActionPlan, Controller, Sequence, TimingPlan, RecallPlan}
use Rattle.tables.specs.Limits.{last_detector, counted_to}
use Rattle.tables.specs.Lists.{Among}
use Rattle.tables.specs.Numbers.{rings, timers, numbers, number_code, numbered}
use Rattle.tables.specs.Codes.{number_of}
use Rattle.tables.proofs.Decoding.{code_decodes, decoded_has_code, decoded_past, every_at, among_left, among_right, among_map, among_joined, among_counting}

abbrev all_timers : List Number
all_timers = flat_map (λ ring. map (RingTimer ring) timers) rings

ring_among : (r : Ring) → Among r rings
ring_among One = inl refl
ring_among Two = inr (inl refl)
ring_among Three = inr (inr (inl refl))
ring_among Four = inr (inr (inr (inl refl)))

timer_among : (t : Timer) → Among t timers
timer_among MinGreen = inl refl
timer_among MaxGreen = inr (inl refl)
timer_among Yellow = inr (inr (inl refl))
timer_among RedClear = inr (inr (inr (inl refl)))
timer_among Walk = inr (inr (inr (inr (inl refl))))
timer_among PedClear = inr (inr (inr (inr (inr (inl refl)))))

-- the parts of the list of numbers, from the last on
abbrev plans_part : List Number
plans_part = SplitPattern ∷ DetectorPlan ∷ DayPlan ∷ ActionPlan ∷ Controller ∷ Sequence ∷ TimingPlan ∷ RecallPlan ∷ []

abbrev volumes : List Number
volumes = map Volume (range_with_len 1 last_detector)

abbrev occupancies : List Number
occupancies = map Occupancy (range_with_len 1 last_detector)

abbrev from_occupancies : List Number
from_occupancies = occupancies ++ plans_part

abbrev from_volumes : List Number
from_volumes = volumes ++ from_occupancies

abbrev from_clock : List Number
from_clock = Month ∷ DayOfMonth ∷ DayOfWeek ∷ Hour ∷ Minute ∷ Second ∷ Tenth ∷ from_volumes

abbrev from_splits : List Number
from_splits = map SplitTimer rings ++ from_clock

abbrev from_plan : List Number
from_plan = CoordinationPlan ∷ CycleLength ∷ Offset ∷ LocalCycleTimer ∷ MasterCycleTimer ∷ from_splits

at_plan : (n : Number) → Among n from_plan → Among n numbers
at_plan n there = among_right n all_timers from_plan there

at_clock : (n : Number) → Among n from_clock → Among n numbers
at_clock n there = at_plan n (inr (inr (inr (inr (inr (among_right n (map SplitTimer rings) from_clock there))))))

at_volumes : (n : Number) → Among n from_volumes → Among n numbers
at_volumes n there = at_clock n (inr (inr (inr (inr (inr (inr (inr there)))))))

at_end : (n : Number) → Among n plans_part → Among n numbers
at_end n there = at_volumes n (among_right n volumes from_occupancies (among_right n occupancies plans_part there))

detector_among : (d : ℕ) → counted_to last_detector d ≡ true → Among d (range_with_len 1 last_detector)
detector_among d e =
    let two = and_parts (leb 1 d) (leb d last_detector) e in
    let low = leb-true 1 d two.0 in
    let high = leb-true d last_detector two.1 in
    among_counting last_detector 1 d low (omega arith)

-- the list of numbers has every one whose detector there is
pub number_among : (n : Number) → numbered n ≡ true → Among n numbers
number_among (RingTimer r t) e = among_left (RingTimer r t) all_timers from_plan (among_joined (λ ring. map (RingTimer ring) timers) (RingTimer r t) r rings (among_map (RingTimer r) t timers (timer_among t)) (ring_among r))
number_among CoordinationPlan e = at_plan CoordinationPlan (inl refl)
number_among CycleLength e = at_plan CycleLength (inr (inl refl))
number_among Offset e = at_plan Offset (inr (inr (inl refl)))
number_among LocalCycleTimer e = at_plan LocalCycleTimer (inr (inr (inr (inl refl))))
number_among MasterCycleTimer e = at_plan MasterCycleTimer (inr (inr (inr (inr (inl refl)))))
number_among (SplitTimer r) e = at_plan (SplitTimer r) (inr (inr (inr (inr (inr (among_left (SplitTimer r) (map SplitTimer rings) from_clock (among_map SplitTimer r rings (ring_among r))))))))
number_among Month e = at_clock Month (inl refl)
number_among DayOfMonth e = at_clock DayOfMonth (inr (inl refl))
number_among DayOfWeek e = at_clock DayOfWeek (inr (inr (inl refl)))
number_among Hour e = at_clock Hour (inr (inr (inr (inl refl))))
number_among Minute e = at_clock Minute (inr (inr (inr (inr (inl refl)))))
number_among Second e = at_clock Second (inr (inr (inr (inr (inr (inl refl))))))
number_among Tenth e = at_clock Tenth (inr (inr (inr (inr (inr (inr (inl refl)))))))
number_among (Volume d) e = at_volumes (Volume d) (among_left (Volume d) volumes from_occupancies (among_map Volume d (range_with_len 1 last_detector) (detector_among d e)))
number_among (Occupancy d) e = at_volumes (Occupancy d) (among_right (Occupancy d) volumes from_occupancies (among_left (Occupancy d) occupancies plans_part (among_map Occupancy d (range_with_len 1 last_detector) (detector_among d e))))
number_among SplitPattern e = at_end SplitPattern (inl refl)
number_among DetectorPlan e = at_end DetectorPlan (inr (inl refl))
number_among DayPlan e = at_end DayPlan (inr (inr (inl refl)))
number_among ActionPlan e = at_end ActionPlan (inr (inr (inr (inl refl))))
number_among Controller e = at_end Controller (inr (inr (inr (inr (inl refl)))))
number_among Sequence e = at_end Sequence (inr (inr (inr (inr (inr (inl refl))))))
number_among TimingPlan e = at_end TimingPlan (inr (inr (inr (inr (inr (inr (inl refl)))))))
number_among RecallPlan e = at_end RecallPlan (inr (inr (inr (inr (inr (inr (inr (inl refl))))))))

pub number_decodes : (n : Number) → numbered n ≡ true → number_of (number_code n) ≡ Some n
unfolding number_of
number_decodes n e = code_decodes number_code numbers refl n (number_among n e)

-- at a code that is known by an equation
pub number_at : (n : Number) (c : ℕ) → numbered n ≡ true → number_code n ≡ c → Some n ≡ number_of c
number_at n c e is = sym (ap number_of (sym is) ∙ number_decodes n e)

pub number_has_code : (n : Number) (c : ℕ) → number_of c ≡ Some n → (number_code n ≡ c) × (numbered n ≡ true)
unfolding number_of
number_has_code n c e =
    let h = decoded_has_code number_code numbers c n e in
    (h.0, every_at numbered numbers n refl h.1)

pub number_past : (c : ℕ) → 175 < c → None ≡ number_of c
unfolding number_of
number_past c past = sym (decoded_past number_code numbers 175 c refl past)
