-- What a check of numbers answers.
use Rattle.std.specs.Prelude.{Bool, cond, Ok, Err, Result}
use Rattle.terms.specs.declared.refusal.Refusal.{Refusal}
use Rattle.terms.specs.declared.refusal.Refusal.TheVariants.{OutsideLimits}

-- the value, if it passes
abbrev pub checked : {X : Type 0} → (X → Bool) → X → Result X Refusal
checked ok x = cond (ok x) (Ok x) (Err OutsideLimits)
