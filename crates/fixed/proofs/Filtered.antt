-- What a test keeps of a list that it goes over from the front.
use Rattle.std.proofs.Common.{◌≡◌, ℕ, suc, ◌+◌, ◌<◌, Bool, true, false, cond, List, ◌∷◌, length, get_or, drop, sym, ap, ◌∙◌, subst, arith}
use Rattle.std.proofs.Math.Seq.{drop-cons}
use Rattle.std.specs.List.Retain.{IsFiltered}

from_place : {X : Type 0} (xs : List X) (i : ℕ) (x : X) → i < length xs → x ≡ get_or xs i x → drop i xs ≡ x ∷ drop (i + 1) xs
from_place xs i x lt is =
    let on : suc i ≡ i + 1 = omega arith in
    subst (λ j. drop i xs ≡ x ∷ drop j xs) on (drop-cons xs i x lt ∙ ap (λ y. y ∷ drop (suc i) xs) (sym is))

module _ {X P : Type 0} (R : P → X → Bool → P → Type 0) where
  -- one call more in front
  first : (p q : P) (x : X) (b : Bool) (xs zs : List X) → R p x b q → IsFiltered R q xs zs → IsFiltered R p (x ∷ xs) (cond b (x ∷ zs) zs)
  first p q x true xs zs r h = (true ∷ h.0, h.1, ap suc h.2, (q, r, h.3), ap (λ ys. x ∷ ys) h.4)
  first p q x false xs zs r h = (false ∷ h.0, h.1, ap suc h.2, (q, r, h.3), h.4)

  pub filtered_from : (p q : P) (i : ℕ) (x : X) (b : Bool) (xs zs : List X) → i < length xs → x ≡ get_or xs i x → R p x b q → IsFiltered R q (drop (i + 1) xs) zs → IsFiltered R p (drop i xs) (cond b (x ∷ zs) zs)
  filtered_from p q i x b xs zs lt is r h =
      subst (λ ys. IsFiltered R p ys (cond b (x ∷ zs) zs)) (sym (from_place xs i x lt is)) (first p q x b (drop (i + 1) xs) zs r h)
