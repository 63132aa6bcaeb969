-- Which prices make a quote, and at which of them deals are made.
use Rattle.std.specs.Prelude.{◌≡◌, ℕ, Bool, ◌&&◌, Result, nat_le}
use Rattle.std.specs.Result.{result_map_both}
use Rattle.terms.specs.declared.side.Side.{Side}
use Rattle.terms.specs.declared.side.Side.TheVariants.{Buy, Sell}
use Rattle.terms.specs.declared.quote.Prices.{Prices}
use Rattle.terms.specs.declared.quote.Quote.{Quote}
use Rattle.terms.specs.declared.refusal.Refusal.{Refusal}
use Rattle.terms.specs.Checks.{checked}
use Rattle.limits.specs.Bounds.{price_ok}

-- both prices are inside the limits, and the bid is at most the ask
abbrev pub quotable : Prices → Bool
quotable p = price_ok p.bid && (price_ok p.ask && nat_le p.bid p.ask)

-- a quote's two prices
abbrev pub prices_of : Quote → Prices
prices_of q = q.prices

-- the quote of these prices, where they make one
abbrev pub QuoteOf : Prices → Result Quote Refusal → Type 0
QuoteOf p r = result_map_both prices_of (λ (e : Refusal). e) r ≡ checked quotable p

abbrev pub opening_price : Side → Prices → ℕ
opening_price Buy p = p.ask
opening_price Sell p = p.bid

abbrev pub closing_price : Side → Prices → ℕ
closing_price Buy p = p.bid
closing_price Sell p = p.ask
