use Rattle.rules.proofs.PlainWords.{joined_from_the_top, waits_are_sums_of_delays, time_left_is_one, touching_in_plain_words}
use Rattle.rules.proofs.promises.definitions_in_plain_words.Goals as goal

pub returns : goal.returns
returns c = record { joins = joined_from_the_top; waits = waits_are_sums_of_delays; time_left = time_left_is_one; touching = touching_in_plain_words }
