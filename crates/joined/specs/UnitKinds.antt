-- The kinds of the unit as one kind, and their numbers.
use Rattle.std.specs.Prelude.{◌≡◌, ℕ, true, ◌⊎◌}
use Rattle.terms.specs.declared.contract.Contract.{Contract}
use Rattle.terms.specs.declared.side.Side.{Side}
use Rattle.kinds.specs.Direct.{direct_admits, direct_pays, direct_needs}
use Rattle.kinds.specs.Indirect.{indirect_admits, indirect_pays, indirect_needs}
use Rattle.kinds.specs.Share.{share_admits, share_pays, share_needs}
use Rattle.kinds.specs.Laws.{Admits, Pays, Needs}
use Rattle.joined.specs.Routes.{joined_admits, joined_pays, joined_needs}

abbrev pub unit_admits : Admits
unit_admits = joined_admits direct_admits (joined_admits indirect_admits share_admits)

abbrev pub unit_pays : Pays
unit_pays = joined_pays direct_pays (joined_pays indirect_pays share_pays)

abbrev pub unit_needs : Needs
unit_needs = joined_needs direct_needs (joined_needs indirect_needs share_needs)

abbrev pub numbered : ℕ → Contract → Contract
numbered n c = record { number = n; size = c.size; percentage = c.percentage }

-- at number n the unit's kinds answer as one of them does at its own number 0
abbrev pub AnswersAt : ℕ → Admits → Pays → Needs → Type 0
AnswersAt n admits pays needs =
    (c : Contract) → (unit_admits (numbered n c) ≡ admits (numbered 0 c))
    × ((s : Side) (o k v : ℕ) → unit_pays (numbered n c) s o k v ≡ pays (numbered 0 c) s o k v)
    × ((l o v : ℕ) → unit_needs (numbered n c) l o v ≡ needs (numbered 0 c) l o v)

-- direct is 0, indirect 1 and share 3, and no other number is admitted
pub record Numbers : Type 0 where
  pub direct : AnswersAt 0 direct_admits direct_pays direct_needs
  pub indirect : AnswersAt 1 indirect_admits indirect_pays indirect_needs
  pub share : AnswersAt 3 share_admits share_pays share_needs
  pub others : (c : Contract) → unit_admits c ≡ true → (c.number ≡ 0) ⊎ ((c.number ≡ 1) ⊎ (c.number ≡ 3))
