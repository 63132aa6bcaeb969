-- Sums over the first positions of a list, one position on.
use Rattle.std.proofs.Common.{◌≡◌, ℕ, zero, suc, ◌+◌, ◌-◌, ◌<◌, ◌≤◌, Bool, true, false, cond, List, [], ◌∷◌, length, get_or, take, ℤ, pos, ◌+ℤ◌, sum_by, filter, sym, ap, ◌∙◌, arith}
use Rattle.std.proofs.lemmas.List.Elements.{filter_more}
use Rattle.std.proofs.lemmas.List.Sums.{fold_more, sum_by-append}
use Rattle.terms.specs.declared.side.Side.{Side}
use Rattle.positions.specs.declared.position.OpenPosition.{OpenPosition}
use Rattle.positions.specs.Margins.{is_on, side_margin, over_instruments}
use Rattle.positions.specs.Positions.{blank, floating}

abbrev margin : OpenPosition → ℕ
margin p = p.margin

-- k is a place of the list
module _ (i : ℕ) (s : Side) (ps : List OpenPosition) (k : ℕ) (l : k < length ps) where
  -- one position more adds the margins of what the filter keeps of it
  kept_more : (b : Bool) → is_on i s (get_or ps k blank) ≡ b → side_margin i s (take (k + 1) ps) ≡ side_margin i s (take k ps) + sum_by margin (cond b (get_or ps k blank ∷ []) [])
  kept_more b e =
      ap (sum_by margin) (filter_more (is_on i s) ps k blank l)
      ∙ sum_by-append margin (filter (is_on i s) (take k ps)) (cond (is_on i s (get_or ps k blank)) (get_or ps k blank ∷ []) [])
      ∙ ap (λ (t : Bool). side_margin i s (take k ps) + sum_by margin (cond t (get_or ps k blank ∷ []) [])) e

  -- a position of that instrument and side adds its margin
  pub side_margin_on : is_on i s (get_or ps k blank) ≡ true → side_margin i s (take (k + 1) ps) ≡ side_margin i s (take k ps) + (get_or ps k blank).margin
  side_margin_on e = let more = kept_more true e in omega arith

  -- any other position adds nothing
  pub side_margin_off : is_on i s (get_or ps k blank) ≡ false → side_margin i s (take (k + 1) ps) ≡ side_margin i s (take k ps)
  side_margin_off e = let more = kept_more false e in omega arith

-- one position more adds its result
pub floating_more : (ps : List OpenPosition) (k : ℕ) → k < length ps → floating (take (k + 1) ps) ≡ floating (take k ps) +ℤ (get_or ps k blank).result
floating_more ps k l = fold_more (λ (sum : ℤ) (p : OpenPosition). sum +ℤ p.result) (pos 0) ps k blank l

-- one instrument more adds what it needs
pub over_more : (f : ℕ → ℕ) (n : ℕ) → 1 ≤ n → over_instruments f (n + 1 - 1) ≡ over_instruments f (n - 1) + f n
over_more f zero h = absurd (omega arith)
over_more f (suc n) h =
    let up : suc n + 1 - 1 ≡ suc n = omega arith in
    let down : suc n - 1 ≡ n = omega arith in
    ap (over_instruments f) up ∙ ap (λ (k : ℕ). over_instruments f k + f (suc n)) (sym down)
