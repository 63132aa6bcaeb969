use Rattle.std.proofs.Common.{◌≡◌, ◌^◌, ◌*ℤ◌, ◌∙◌, arith, w64, to_z, of_z}
use Rattle.std.proofs.lemmas.Int.{to_z-of_z, ints, fits_signed_mul}
use Rattle.kinds.proofs.amounts.point_gain.Goals as goal

pub overflow_mul-result : goal.overflow_mul-result
overflow_mul-result c =
    fits_signed_mul w64 (to_z w64 (of_z w64 c.price_change.result)) (to_z w64 (of_z w64 c.from.result)) 1000000 (2 ^ 32)
    (omega (arith, ints)) (omega (arith, ints)) (omega arith)

pub returns : goal.returns
returns c =
    let a = to_z w64 (of_z w64 c.price_change.result) in
    let b = to_z w64 (of_z w64 c.from.result) in
    let e : a ≡ c.price_change.result = omega (arith, ints) in
    let f : b ≡ c.from.result = omega (arith, ints) in
    to_z-of_z w64 (a *ℤ b) (overflow_mul-result c) ∙ cc
