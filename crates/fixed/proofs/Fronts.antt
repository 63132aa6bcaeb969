-- The first places of an array.
use Rattle.std.proofs.Common.{◌≡◌, ℕ, ◌<◌, ◌≤◌, List, length, take, set, length-take-le, arith}
use Rattle.std.proofs.Math.Seq.{take-set-lt}

-- an item of the first n changes
pub set_in_front : {X : Type 0} (n : ℕ) (xs : List X) (i : ℕ) (x : X) → n ≤ length xs → i < length (take n xs) → take n (set xs i x) ≡ set (take n xs) i x
set_in_front n xs i x le lt = take-set-lt n xs i x (omega (arith, length-take-le n xs le))
