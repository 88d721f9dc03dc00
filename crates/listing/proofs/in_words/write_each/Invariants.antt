use Rattle.std.proofs.Common.{take}
use Rattle.std.specs.Fmt.{IsPlainFormatter, HasWritten}
use Rattle.listing.specs.Each.{each_text}
use Rattle.listing.proofs.in_words.write_each.Given as goal

-- what is written so far are the parts before this one
abbrev pub invariant-loop-part : goal.invariant-loop-part
invariant-loop-part g l = IsPlainFormatter l.initial.f → HasWritten g.W.Write.write_str_gives l.initial.f (each_text g.T.Worded.worded l.lead (take l.part-index l.parts)) l.f
