-- What a fill rule is told and answers, what holds of every fill rule, and the two that are shipped.
use Rattle.std.specs.Prelude.{◌≡◌, ℕ, Bool, cond, ◌⊎◌}
use Rattle.terms.specs.declared.level.WorksAs.{WorksAs}
use Rattle.terms.specs.declared.level.WorksAs.TheVariants.{Stop, Limit}
use Rattle.limits.specs.Bounds.{Price}

-- the price that is dealt for a stop or a limit, given level, market price and gap
abbrev pub Deals : Type 0
Deals = WorksAs → ℕ → ℕ → Bool → ℕ

-- the price dealt is the level or the market price, where both are inside their limits
abbrev pub LevelOrMarket : Deals → Type 0
LevelOrMarket deals = (w : WorksAs) (level market : ℕ) (gap : Bool) → Price level → Price market → (deals w level market gap ≡ level) ⊎ (deals w level market gap ≡ market)

-- over a gap a stop takes the market price; else the level
abbrev pub terms_deals : Deals
terms_deals Stop level market gap = cond gap market level
terms_deals Limit level market gap = level

-- over a gap any order takes the market price; else the level
abbrev pub first_quote_deals : Deals
first_quote_deals w level market gap = cond gap market level
