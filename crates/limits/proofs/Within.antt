-- The limits as tests and as facts.
use Rattle.std.proofs.Common.{◌≡◌, ℕ, ◌≤◌, true}
use Rattle.std.proofs.lemmas.Bool.{and_parts, and_from, leb-true, le-leb}
use Rattle.limits.specs.Bounds.{between}

pub between_says : (low high n : ℕ) → between low high n ≡ true → (low ≤ n) × (n ≤ high)
between_says low high n h = let p = and_parts _ _ h in (leb-true low n p.0, leb-true n high p.1)

pub between_true : (low high n : ℕ) → (low ≤ n) × (n ≤ high) → between low high n ≡ true
between_true low high n h = and_from _ _ (le-leb low n h.0) (le-leb n high h.1)
