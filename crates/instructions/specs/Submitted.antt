-- A submitted instruction, and the check of its numbers.
use Rattle.std.specs.Prelude.{◌≡◌, ℕ, Bool, true, cond, ◌&&◌, Some, None, Ok, Err, Option, Result, ◌==◌, nat_lt}
use Rattle.terms.specs.declared.refusal.Refusal.{Refusal}
use Rattle.terms.specs.Checks.{checked}
use Rattle.terms.specs.declared.protection.Protection.{Protection}
use Rattle.instructions.specs.declared.instruction.Opening.{Opening}
use Rattle.instructions.specs.declared.instruction.Closing.{Closing}
use Rattle.instructions.specs.declared.instruction.Placement.{Placement}
use Rattle.instructions.specs.declared.instruction.Modification.{Modification}
use Rattle.instructions.specs.declared.instruction.Instruction.{Instruction}
use Rattle.instructions.specs.declared.instruction.Instruction.TheVariants as into
use Rattle.instructions.specs.declared.submission.Submission.{Submission}
use Rattle.instructions.specs.declared.submission.SubmittedOpening.{SubmittedOpening}
use Rattle.instructions.specs.declared.submission.SubmittedClosing.{SubmittedClosing}
use Rattle.instructions.specs.declared.submission.SubmittedPlacement.{SubmittedPlacement}
use Rattle.instructions.specs.declared.submission.SubmittedModification.{SubmittedModification}
use Rattle.instructions.specs.declared.submission.Submission.TheVariants.{Open, Close, Place, Modify, Delete}
use Rattle.instructions.specs.declared.checked.CheckedInstruction.{CheckedInstruction}
use Rattle.terms.specs.Protections.{optionally}
use Rattle.instructions.specs.Inside.{inside}

-- what there is passes
abbrev pub Passing : {X : Type 0} → (X → Bool) → Result X Refusal → Type 0
Passing ok (Ok x) = ok x ≡ true
Passing ok (Err e) = Unit {0}

-- the value, if it passes, and what there is passes
abbrev pub Checks : {X : Type 0} → (X → Bool) → X → Result X Refusal → Type 0
Checks ok x r = (r ≡ checked ok x) × Passing ok r

-- 0 stands for none
abbrev pub optional : ℕ → Option ℕ
optional n = cond (n == 0) None (Some n)

abbrev pub protection_of : ℕ → ℕ → Protection
protection_of sl tp = record { stop_loss = optional sl; take_profit = optional tp }

abbrev pub opening_of : SubmittedOpening → Opening
opening_of g = record { instrument = g.instrument; side = g.side; volume = g.volume; price = g.price; deviation = g.deviation; protection = protection_of g.protection.stop_loss g.protection.take_profit }

abbrev pub closing_of : SubmittedClosing → Closing
closing_of g = record { ticket = g.ticket; volume = g.volume }

abbrev pub placement_of : SubmittedPlacement → Placement
placement_of g = record { instrument = g.instrument; order = g.order; volume = g.volume; level = g.level; protection = protection_of g.protection.stop_loss g.protection.take_profit; expiry = optional g.expiry }

abbrev pub modification_of : SubmittedModification → Modification
modification_of g = record { ticket = g.ticket; level = optional g.level; protection = protection_of g.protection.stop_loss g.protection.take_profit }

-- the instruction of the same numbers
abbrev pub as_numbers : Submission → Instruction
as_numbers (Open g) = into.Open (opening_of g)
as_numbers (Close g) = into.Close (closing_of g)
as_numbers (Place g) = into.Place (placement_of g)
as_numbers (Modify g) = into.Modify (modification_of g)
as_numbers (Delete t) = into.Delete t

-- an expiry lies after the present time
abbrev pub timely : ℕ → Instruction → Bool
timely now (into.Open o) = true
timely now (into.Close c) = true
timely now (into.Place p) = optionally (nat_lt now) p.expiry
timely now (into.Modify m) = true
timely now (into.Delete t) = true

-- the check of an instruction's numbers, at the present time
abbrev pub passes : ℕ → Instruction → Bool
passes now i = inside i && timely now i

-- what a checked instruction asks for
abbrev pub instructed : CheckedInstruction → Instruction
instructed c = c.instruction
