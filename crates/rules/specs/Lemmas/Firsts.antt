-- `first_least` is the first least place, and there is only one.
use Rattle.std.specs.Prelude.{◌≡◌, ℕ, zero, suc, ◌<◌, Bool, true, false, List, [], ◌∷◌, length, slice_index_or, refl}
use Rattle.std.specs.declared.cmp.Ordering.{Ordering}
use Rattle.std.proofs.Common.{sym, ap, ◌∙◌, subst, arith}
use Rattle.std.specs.Cmp.{IsTotalOrder, IsStrictWeakOrder}
use Rattle.std.specs.Ordering.{is_lt}
use Rattle.std.proofs.lemmas.List.MinMax.{ranks_by, IsFirstBest-from_best_of}
use Rattle.rules.specs.Least.{FirstLeast, some_below, first_least}

module _ {X : Type 0} (below : X → X → Bool) where
  pub none_below : (x : X) (xs : List X) → ((k : ℕ) (d : X) → k < length xs → below (slice_index_or xs k d) x ≡ false) → some_below below x xs ≡ false
  none_below x [] h = refl
  none_below x (y ∷ ys) h =
      let here : below y x ≡ false = h 0 y (omega arith) in
      let later = none_below x ys (λ k d l. h (suc k) d (omega arith)) in rw (here, later)

  one_below : (x : X) (xs : List X) (p : ℕ) → p < length xs → below (slice_index_or xs p x) x ≡ true → some_below below x xs ≡ true
  one_below x [] p l h = absurd (omega arith)
  one_below x (y ∷ ys) zero l h = rw h
  one_below x (y ∷ ys) (suc p) l h = let later = one_below x ys p (omega arith) h in grind (arith, later)

  pub first_least_one : (xs : List X) (p : ℕ) → FirstLeast below xs (length xs) p → p ≡ first_least below xs
  first_least_one [] p f = absurd (omega (arith, f.within))
  first_least_one (x ∷ xs) zero f =
      let none = none_below x xs (λ k d l. f.least (suc k) d (omega arith)) in rw none
  first_least_one (x ∷ xs) (suc p) f =
      let l : p < length xs = omega (arith, f.within) in
      let some = one_below x xs p l (f.first 0 x (omega arith)) in
      let rest = first_least_one xs p (record { within = l; least = λ k d h. f.least (suc k) d (omega arith); first = λ k d h. f.first (suc k) d (omega arith) }) in
      rw some (ap suc rest)

  pub first_least_is : IsStrictWeakOrder below → (xs : List X) → 0 < length xs → FirstLeast below xs (length xs) (first_least below xs)
  first_least_is o [] l = absurd (omega arith)
  first_least_is o (x ∷ xs) l =
      let b = IsFirstBest-from_best_of o x xs in
      let f : FirstLeast below (x ∷ xs) (length (x ∷ xs)) b.0 = record { within = b.1.0; least = b.1.1; first = b.1.2 } in
      subst (FirstLeast below (x ∷ xs) (length (x ∷ xs))) (first_least_one (x ∷ xs) b.0 f) f

-- a place that is first and least under an order of std's is so under a test that answers as the order does
module _ {X : Type 0} {R : X → X → Ordering} (o : IsTotalOrder R) (below : X → X → Bool) (same : (x y : X) → is_lt (R x y) ≡ below x y) where
  pub ranked : IsStrictWeakOrder below
  ranked =
      let r = ranks_by o (λ (x : X). x) in
      record {
        one_way = λ x y h. sym (same y x) ∙ r.one_way x y (same x y ∙ h);
        chain = λ x y z h k. sym (same x z) ∙ r.chain x y z (same x y ∙ h) (same y z ∙ k);
      }

  pub first_least_found : (xs : List X) (p : ℕ) → FirstLeast (λ x y. is_lt (R x y)) xs (length xs) p → p ≡ first_least below xs
  first_least_found xs p f =
      first_least_one below xs p
      (record { within = f.within; least = λ k d l. sym (same (slice_index_or xs k d) (slice_index_or xs p d)) ∙ f.least k d l; first = λ k d l. sym (same (slice_index_or xs p d) (slice_index_or xs k d)) ∙ f.first k d l })
