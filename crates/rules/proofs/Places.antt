-- The first place that ties with a least element is the first least place.
use Rattle.std.proofs.Common.{◌≡◌, ℕ, ◌<◌, Bool, true, false, List, length, get_or, refl, sym, ap, ◌∙◌, arith}
use Rattle.std.specs.declared.cmp.Ordering.TheVariants.{Less, Equal, Greater}
use Rattle.std.specs.declared.cmp.Ordering.{Ordering}
use Rattle.std.specs.Ordering.{is_lt, is_eq, ordering_reverse, eq_by_cmp}
use Rattle.std.specs.Cmp.{IsTotalOrder, Equal-is, alike_right}
use Rattle.rules.specs.Least.{FirstLeast}

turned : (r : Ordering) → is_lt r ≡ false → is_eq r ≡ false → is_lt (ordering_reverse r) ≡ true
turned Greater p q = refl
turned Less p q = sym p
turned Equal p q = sym q

module _ {X : Type 0} {R : X → X → Ordering} {E : X → X → Bool} (o : IsTotalOrder R) (ties : (x y : X) → E x y ≡ eq_by_cmp R x y) where
  tied : (x y : X) → E x y ≡ true → R x y ≡ Equal
  tied x y h = (Equal-is (R x y)).0 (sym (ties x y) ∙ h)

  -- y ties with m
  not_below : (x y m : X) → E y m ≡ true → is_lt (R x m) ≡ false → is_lt (R x y) ≡ false
  not_below x y m e h = ap is_lt (alike_right o y m x (tied y m e)) ∙ h

  above : (x y m : X) → E y m ≡ true → is_lt (R x m) ≡ false → E x m ≡ false → is_lt (R y x) ≡ true
  above x y m e h d = ap is_lt (o.congr y m x (tied y m e) ∙ o.antisymm m x) ∙ turned (R x m) h (sym (ties x m) ∙ d)

  pub first_place : (xs : List X) (m : X) (p : ℕ) → p < length xs → ((k : ℕ) (d : X) → k < length xs → is_lt (R (get_or xs k d) m) ≡ false) → ((d : X) → E (get_or xs p d) m ≡ true) → ((k : ℕ) (d : X) → k < p → E (get_or xs k d) m ≡ false) → FirstLeast (λ x y. is_lt (R x y)) xs (length xs) p
  first_place xs m p l low there before =
      record {
        within = l;
        least = λ k d h. not_below (get_or xs k d) (get_or xs p d) m (there d) (low k d h);
        first = λ k d h. above (get_or xs k d) (get_or xs p d) m (there d) (low k d (omega arith)) (before k d h);
      }
