use Rattle.std.proofs.Common.{◌+◌, ◌-◌, ◌/◌, ◌%◌, sym, refl, arith}
use Rattle.tables.specs.Numbers.{rings, ring_code, timers, timer_code}
use Rattle.tables.proofs.Decoding.{decoded_has_code}
use Rattle.tables.proofs.codes.numbers.NumberTryFromU16.try_from.Goals as goal
use Rattle.tables.proofs.Numbers.{number_at, number_past}
use Rattle.std.proofs.lemmas.Bool.Decides.{nat_tests}

pub returns-in-24 : goal.returns-in-24
returns-in-24 c = sym (number_at _ c.args.code refl (sym c.in-24.is))

pub returns-in-25 : goal.returns-in-25
returns-in-25 c = sym (number_at _ c.args.code refl (sym c.in-25.is))

pub returns-in-26 : goal.returns-in-26
returns-in-26 c = sym (number_at _ c.args.code refl (sym c.in-26.is))

pub returns-in-27 : goal.returns-in-27
returns-in-27 c = sym (number_at _ c.args.code refl (sym c.in-27.is))

pub returns-in-28 : goal.returns-in-28
returns-in-28 c = sym (number_at _ c.args.code refl (sym c.in-28.is))

pub returns-in-33 : goal.returns-in-33
returns-in-33 c = sym (number_at _ c.args.code refl (sym c.in-33.is))

pub returns-in-34 : goal.returns-in-34
returns-in-34 c = sym (number_at _ c.args.code refl (sym c.in-34.is))

pub returns-in-35 : goal.returns-in-35
returns-in-35 c = sym (number_at _ c.args.code refl (sym c.in-35.is))

pub returns-in-36 : goal.returns-in-36
returns-in-36 c = sym (number_at _ c.args.code refl (sym c.in-36.is))

pub returns-in-37 : goal.returns-in-37
returns-in-37 c = sym (number_at _ c.args.code refl (sym c.in-37.is))

pub returns-in-38 : goal.returns-in-38
returns-in-38 c = sym (number_at _ c.args.code refl (sym c.in-38.is))

pub returns-in-39 : goal.returns-in-39
returns-in-39 c = sym (number_at _ c.args.code refl (sym c.in-39.is))

pub returns-in-168 : goal.returns-in-168
returns-in-168 c = sym (number_at _ c.args.code refl (sym c.in-168.is))

pub returns-in-169 : goal.returns-in-169
returns-in-169 c = sym (number_at _ c.args.code refl (sym c.in-169.is))

pub returns-in-170 : goal.returns-in-170
returns-in-170 c = sym (number_at _ c.args.code refl (sym c.in-170.is))

pub returns-in-171 : goal.returns-in-171
returns-in-171 c = sym (number_at _ c.args.code refl (sym c.in-171.is))

pub returns-in-172 : goal.returns-in-172
returns-in-172 c = sym (number_at _ c.args.code refl (sym c.in-172.is))

pub returns-in-173 : goal.returns-in-173
returns-in-173 c = sym (number_at _ c.args.code refl (sym c.in-173.is))

pub returns-in-174 : goal.returns-in-174
returns-in-174 c = sym (number_at _ c.args.code refl (sym c.in-174.is))

pub returns-in-175 : goal.returns-in-175
returns-in-175 c = sym (number_at _ c.args.code refl (sym c.in-175.is))

pub returns-in_ok-timer-in-0-to-23 : goal.returns-in_ok-timer-in-0-to-23
returns-in_ok-timer-in-0-to-23 c =
    let ring = (decoded_has_code ring_code rings (c.args.code / 6 + 1) c.in_ok-ring-in-0-to-23.ring c.in_ok-ring-in-0-to-23.ensures).0 in
    let timer = (decoded_has_code timer_code timers (c.args.code % 6) c.in_ok-timer-in-0-to-23.timer c.in_ok-timer-in-0-to-23.ensures).0 in
    sym (number_at _ c.args.code refl (omega (arith, ring, timer)))

pub returns-in_ok-from_code-in-29-to-32 : goal.returns-in_ok-from_code-in-29-to-32
returns-in_ok-from_code-in-29-to-32 c =
    let ring = (decoded_has_code ring_code rings (c.args.code - 28) c.in_ok-from_code-in-29-to-32.field-0 c.in_ok-from_code-in-29-to-32.ensures).0 in
    sym (number_at _ c.args.code refl (omega (arith, ring)))

pub returns-in-40-to-103 : goal.returns-in-40-to-103
returns-in-40-to-103 c = sym (number_at _ c.args.code (grind (arith, nat_tests)) (omega arith))

pub returns-in-104-to-167 : goal.returns-in-104-to-167
returns-in-104-to-167 c = sym (number_at _ c.args.code (grind (arith, nat_tests)) (omega arith))

pub returns-in_default : goal.returns-in_default
returns-in_default c = sym (number_past c.args.code (omega arith))
