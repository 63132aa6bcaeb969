-- Numbers that may be left out, and the levels that protect a position.
use Rattle.std.specs.Prelude.{ℕ, Bool, true, ◌&&◌, Some, None, Option}
use Rattle.limits.specs.Bounds.{price_ok}
use Rattle.terms.specs.declared.protection.Protection.{Protection}

-- none, or one that passes
abbrev pub optionally : (ℕ → Bool) → Option ℕ → Bool
optionally ok None = true
optionally ok (Some n) = ok n

abbrev pub protection_ok : Protection → Bool
protection_ok p = optionally price_ok p.stop_loss && optionally price_ok p.take_profit

-- neither level
abbrev pub unprotected : Protection
unprotected = record { stop_loss = None; take_profit = None }
