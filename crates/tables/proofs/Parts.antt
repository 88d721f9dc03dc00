-- The codes of names, members, places, numbers and entries are inverse both ways.
use Rattle.std.proofs.Common.{◌≡◌, ℕ, ◌+◌, ◌*◌, ◌/◌, ◌%◌, ◌≤◌, Bool, true, false, cond, ◌&&◌, ◌||◌, ltb, leb, Some, sym, refl, ap, ◌∙◌, subst, arith}
use Rattle.std.proofs.lemmas.Bool.{and_parts, and_from, leb-true}
use Rattle.tables.specs.declared.place.Place.{Place}
use Rattle.tables.specs.declared.place.Place.TheVariants.{InputCell, OutputCell, Flag}
use Rattle.tables.specs.declared.codes.cases.Kind.{Kind}
use Rattle.tables.specs.declared.codes.cases.Kind.TheVariants.{Cib, Cob, LogicFlag, FamilyMember, LogicStatement, FrameNumber, DelayFor}
use Rattle.tables.specs.declared.family.Family.{Family}
use Rattle.tables.specs.declared.family.Member.{Member}
use Rattle.tables.specs.declared.number.Number.{Number}
use Rattle.tables.specs.declared.number.Entry.{Entry}
use Rattle.tables.specs.declared.number.Entry.TheVariants.{Timed, Plain}
use Rattle.tables.specs.Families.{families, family_code, layout_of, may_name}
use Rattle.tables.specs.Limits.{input_cells, output_cells, last_flag, last_name, counted_to}
use Rattle.tables.specs.Lists.{only}
use Rattle.tables.specs.Numbers.{number_code, numbered, entry_range, in_seconds}
use Rattle.tables.specs.Codes.{family_of, number_of, name_of, member_code, member_of, place_of, entry_value, entry_in}
use Rattle.tables.specs.Rows.{name_number}
use Rattle.tables.specs.Rules.{place_keeps, member_keeps, timed, alike, entry_keeps}
use Rattle.tables.specs.Inverse.{Inverse, name_keeps, place_codes, place_named}
use Rattle.tables.proofs.Decoding.{decoded_has_code, every_at}
use Rattle.tables.proofs.Numbers.{number_decodes, number_has_code}
use Rattle.tables.proofs.Options.{none_some, then_some, then_was, only_true, only_is}
use Rattle.tables.proofs.Cases.{families_inverse}

-- ---- names

-- the codes of names are inverse both ways
pub names_inverse : Inverse name_number name_of name_keeps
names_inverse = (
  (λ n e. only_true (name_keeps n) (Some n) e),
  (λ c n e.
      let two = only_is (counted_to last_name c) (record { 0 = c }) n e in
      (sym (ap name_number two.1), subst (λ m. name_keeps m ≡ true) two.1 two.0)),
)

-- ---- members

-- no family has more members than a byte counts
few_members : (f : Family) → (layout_of f).members ≤ 255
few_members f =
    let there = (decoded_has_code family_code families (family_code f) f (families_inverse.0 f refl)).1 in
    leb-true (layout_of f).members 255 (every_at (λ g. leb (layout_of g).members 255) families f refl there)

-- the member that a code stands for, by the family of its high byte and its low byte
member_at : (code : ℕ) (m : Member) → family_of (code / 256) ≡ Some m.family → code % 256 ≡ m.number → member_keeps m ≡ true → member_of code ≡ Some m
member_at code m high low keeps =
    then_some (family_of (code / 256)) m.family (λ family. only (may_name family (code % 256)) (Some (record { family = family; number = code % 256 }))) high
    ∙ ap (λ n. only (may_name m.family n) (Some (record { family = m.family; number = n }))) low
    ∙ only_true (member_keeps m) (Some m) keeps

-- a member that its family has is what its code stands for
member_decodes : (m : Member) → member_keeps m ≡ true → member_of (member_code m) ≡ Some m
member_decodes m keeps =
    let few = few_members m.family in
    let under = leb-true m.number (layout_of m.family).members (and_parts (leb m.number (layout_of m.family).members) (leb 1 m.number || (layout_of m.family).whole) keeps).0 in
    let high : (256 * family_code m.family + m.number) / 256 ≡ family_code m.family = omega arith in
    let low : (256 * family_code m.family + m.number) % 256 ≡ m.number = omega arith in
    member_at (member_code m) m (ap family_of high ∙ families_inverse.0 m.family refl) low keeps

-- what a code stands for has that code, and its family has it
member_has_code : (code : ℕ) (m : Member) → member_of code ≡ Some m → (member_code m ≡ code) × (member_keeps m ≡ true)
member_has_code code m e =
    let was = then_was (family_of (code / 256)) (λ family. only (may_name family (code % 256)) (Some (record { family = family; number = code % 256 }))) m e in
    let two = only_is (may_name was.0 (code % 256)) (record { family = was.0; number = code % 256 }) m was.2 in
    let high = (families_inverse.1 (code / 256) was.0 was.1).0 in
    let whole : 256 * family_code was.0 + code % 256 ≡ code = omega arith in
    (ap member_code (sym two.1) ∙ whole, subst (λ n. member_keeps n ≡ true) two.1 two.0)

-- the codes of members are inverse both ways
pub members_inverse : Inverse member_code member_of member_keeps
members_inverse = (member_decodes, member_has_code)

-- ---- places

-- each place that there is, is what its kind and code name
place_decodes : (p : Place) → place_keeps p ≡ true → place_named (place_codes p) ≡ Some p
place_decodes (InputCell code) e = only_true (ltb code input_cells) (Some (InputCell code)) e
place_decodes (OutputCell code) e = only_true (ltb code output_cells) (Some (OutputCell code)) e
place_decodes (Flag number) e = only_true (counted_to last_flag number) (Some (Flag number)) e

-- of two equal places, one has the codes of the other, and is there if the other is
named_alike : (q p : Place) → q ≡ p → place_keeps q ≡ true → (place_codes p ≡ place_codes q) × (place_keeps p ≡ true)
named_alike q p same keeps = (ap place_codes (sym same), subst (λ r. place_keeps r ≡ true) same keeps)

-- what a kind and a code name has that kind and code, and there is such a place
place_has_codes : (kind : Kind) (code : ℕ) (p : Place) → place_of kind code ≡ Some p → (place_codes p ≡ (kind, code)) × (place_keeps p ≡ true)
place_has_codes Cib code p e = let two = only_is (ltb code input_cells) (InputCell code) p e in named_alike (InputCell code) p two.1 two.0
place_has_codes Cob code p e = let two = only_is (ltb code output_cells) (OutputCell code) p e in named_alike (OutputCell code) p two.1 two.0
place_has_codes LogicFlag code p e = let two = only_is (counted_to last_flag code) (Flag code) p e in named_alike (Flag code) p two.1 two.0
place_has_codes FamilyMember code p e = none_some p e
place_has_codes LogicStatement code p e = none_some p e
place_has_codes FrameNumber code p e = none_some p e
place_has_codes DelayFor code p e = none_some p e

-- the kinds and codes of places are inverse both ways
pub places_inverse : Inverse place_codes place_named place_keeps
places_inverse = (place_decodes, (λ c p e. place_has_codes c.0 c.1 p e))

-- ---- numbers

-- the codes of numbers are inverse both ways
pub numbers_inverse : Inverse number_code number_of numbered
numbers_inverse = (number_decodes, (λ c n e. number_has_code n c e))

-- ---- entries

-- the entry made of a value: in seconds, or plain
abbrev entry_made : Bool → ℕ → Entry
entry_made seconds value = cond seconds (Timed (record { 0 = value })) (Plain value)

-- an entry of the right sort is the one made of its value
made_again : (seconds : Bool) (e : Entry) → alike seconds (timed e) ≡ true → entry_made seconds (entry_value e) ≡ e
made_again true (Timed s) e = refl
made_again true (Plain v) e = let z : ◌≡◌ {A = ℕ} 0 1 = cc in absurd (omega arith)
made_again false (Timed s) e = let z : ◌≡◌ {A = ℕ} 0 1 = cc in absurd (omega arith)
made_again false (Plain v) e = refl

-- the entry made of a value has that value, and is of the right sort
made_has : (seconds : Bool) (value : ℕ) → (entry_value (entry_made seconds value) ≡ value) × (alike seconds (timed (entry_made seconds value)) ≡ true)
made_has true value = (refl, refl)
made_has false value = (refl, refl)

-- a value is one that a number allows
abbrev allowed : Number → ℕ → Bool
allowed n value = leb (entry_range n).least value && leb value (entry_range n).greatest

-- an entry that a number allows is what its value stands for there
entry_decodes : (n : Number) (e : Entry) → entry_keeps n e ≡ true → entry_in n (entry_value e) ≡ Some e
entry_decodes n e keeps =
    let two = and_parts (alike (in_seconds n) (timed e)) (allowed n (entry_value e)) keeps in
    only_true (allowed n (entry_value e)) (Some (entry_made (in_seconds n) (entry_value e))) two.1
    ∙ ap Some (made_again (in_seconds n) e two.0)

-- what a value stands for at a number has that value, and the number allows it
entry_has_value : (n : Number) (value : ℕ) (e : Entry) → entry_in n value ≡ Some e → (entry_value e ≡ value) × (entry_keeps n e ≡ true)
entry_has_value n value e is =
    let two = only_is (allowed n value) (entry_made (in_seconds n) value) e is in
    let made = made_has (in_seconds n) value in
    let same : entry_value e ≡ value = sym (ap entry_value two.1) ∙ made.0 in (
      same,
      and_from (alike (in_seconds n) (timed e)) (allowed n (entry_value e))
          (subst (λ f. alike (in_seconds n) (timed f) ≡ true) two.1 made.1)
          (subst (λ v. allowed n v ≡ true) (sym same) two.0),
    )

-- the values of the entries of each number are inverse both ways
pub entries_inverse : (n : Number) → Inverse entry_value (entry_in n) (entry_keeps n)
entries_inverse n = (entry_decodes n, entry_has_value n)
