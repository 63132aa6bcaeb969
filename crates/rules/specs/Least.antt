-- The first least element of a list.
use Rattle.std.specs.Prelude.{◌≡◌, ℕ, suc, ◌<◌, Bool, true, false, cond, ◌||◌, List, [], ◌∷◌, slice_index_or}

-- of the first n elements, place p holds one that no other is below, and every earlier one is above it
pub record FirstLeast {X : Type 0} (below : X → X → Bool) (xs : List X) (n p : ℕ) : Type 0 where
  pub within : p < n
  pub least : (k : ℕ) (d : X) → k < n → below (slice_index_or xs k d) (slice_index_or xs p d) ≡ false
  pub first : (k : ℕ) (d : X) → k < p → below (slice_index_or xs p d) (slice_index_or xs k d) ≡ true

-- some element is below x
abbrev pub some_below : {X : Type 0} → (X → X → Bool) → X → List X → Bool
some_below below x [] = false
some_below below x (y ∷ ys) = below y x || some_below below x ys

-- the place of the first element that no later one is below
abbrev pub first_least : {X : Type 0} → (X → X → Bool) → List X → ℕ
first_least below [] = 0
first_least below (x ∷ xs) = cond (some_below below x xs) (suc (first_least below xs)) 0
