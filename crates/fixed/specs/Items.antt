-- The items of a list in fixed memory.
use Rattle.std.specs.Prelude.{◌≡◌, ℕ, Bool, List, take}
use Rattle.fixed.specs.declared.FixedList.{FixedList}

-- the items, in order; what free places hold is not among them
abbrev pub items : {T : Type 0} {N : ℕ} → FixedList T N → List T
items l = take l.count l.places

-- each call of the closure answers the test, and leaves the closure as it was
abbrev pub TestsBy : {T F : Type 0} → (F → T → Bool → F → Type 0) → F → (T → Bool) → Type 0
TestsBy {T} {F} calls f test = (x : T) (b : Bool) (g : F) → calls f x b g → (b ≡ test x) × (g ≡ f)
