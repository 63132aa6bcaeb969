use Rattle.std.proofs.Common.{◌≡◌, take}
use Rattle.fixed.specs.Items.{items}
use Rattle.rules.specs.Closing.{tickets}
use Rattle.rules.proofs.closing.ticket_numbers.Given as goal

abbrev pub invariant-loop-candidate : goal.invariant-loop-candidate
invariant-loop-candidate l = items l.numbers ≡ tickets (take l.candidate-index l.candidates)
