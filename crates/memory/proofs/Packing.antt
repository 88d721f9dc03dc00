-- Flags packed into a byte, the first in the lowest bit.
use Rattle.std.proofs.Common.{◌≡◌, ℕ, ◌+◌, ◌*◌, ◌%◌, ◌^◌, ◌<◌, Bool, true, false, ◌&&◌, ltb, zero-mul, List, get_or, inl, inr, arith}
use Rattle.std.specs.Int.{w8, from_bool}
use Rattle.std.specs.Int.Bits.{bit_or, or_zero_r}
use Rattle.std.proofs.lemmas.Bool.{cases_eq}
use Rattle.std.proofs.lemmas.Bool.Decides.{nat_tests}
use Rattle.std.proofs.lemmas.Nat.Bits.{bit_at-zero, bit_at_set_same, bit_at_set_other}
use Rattle.cells.specs.Bits.{bit}

-- a byte's lowest k bits are the first k flags, and the bits above are 0
abbrev pub FirstBits : List Bool → (k byte : ℕ) → Type 0
FirstBits flags k byte = (j : ℕ) → bit byte j ≡ (ltb j k && get_or flags j false)

-- a byte of 0 has none
pub no_bits : (flags : List Bool) → FirstBits flags 0 0
unfolding bit
no_bits flags j = rw bit_at-zero (grind (arith, nat_tests))

-- one flag more
pub bits_more : (flags : List Bool) (k byte : ℕ) (on : Bool) → k < 8 → get_or flags k false ≡ on → FirstBits flags k byte
    → FirstBits flags (k + 1) (bit_or byte ((from_bool on * 2 ^ k) % 256))
unfolding bit
bits_more flags k byte true hk f before j =
    let b = before j in
    elim (cases_eq j k) [
      | inl e ↦ let same = bit_at_set_same w8 byte k hk in rw (e, same, f) (grind (arith, nat_tests))
      | inr ne ↦ rw (bit_at_set_other w8 byte k hk j ne, b) (grind (arith, nat_tests))
    ]
bits_more flags k byte false hk f before j =
    let b = before j in
    simp (zero-mul, or_zero_r, b) (elim (cases_eq j k) [ inl e ↦ rw (e, f) (grind (arith, nat_tests)) | inr ne ↦ grind (arith, nat_tests) ])
