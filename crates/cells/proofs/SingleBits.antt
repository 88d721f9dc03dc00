-- What setting or clearing one bit of a byte does to each bit.
use Rattle.std.proofs.Common.{◌≡◌, ℕ, ◌-◌, ◌*◌, ◌%◌, ◌^◌, ◌<◌, true, false, cond, eqb, bit_and, bit_or, w8, inl, inr}
use Rattle.std.proofs.lemmas.Bool.{cases_eq, eq-eqb, ne_eqb}
use Rattle.std.proofs.lemmas.Nat.Bits.{bit_at_set_same, bit_at_set_other, bit_at_clear_same, bit_at_clear_other}
use Rattle.cells.specs.Bits.{bit}

-- an OR with one bit sets that bit, and leaves every other
pub or_sets : (byte k j : ℕ) → byte < 256 → k < 8 → j < 8
    → bit (bit_or byte ((1 * 2 ^ k) % 256)) j ≡ cond (eqb j k) true (bit byte j)
unfolding bit
or_sets byte k j hb hk hj =
    elim (cases_eq j k) [
      | inl same ↦ rw (eq-eqb j k same, same, bit_at_set_same w8 byte k hk)
      | inr other ↦ rw (ne_eqb j k other, bit_at_set_other w8 byte k hk j other)
    ]

-- an AND with all but one bit clears that bit, and leaves every other
pub and_clears : (byte k j : ℕ) → byte < 256 → k < 8 → j < 8
    → bit (bit_and byte (255 - (1 * 2 ^ k) % 256)) j ≡ cond (eqb j k) false (bit byte j)
unfolding bit
and_clears byte k j hb hk hj =
    elim (cases_eq j k) [
      | inl same ↦ rw (eq-eqb j k same, same, bit_at_clear_same w8 byte k hk)
      | inr other ↦ rw (ne_eqb j k other, bit_at_clear_other w8 byte k hk j hj other)
    ]
