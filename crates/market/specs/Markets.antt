-- The instruments of a market, and how one is listed and priced.
use Rattle.std.specs.Prelude.{ℕ, replicate, Some, None}
use Rattle.terms.specs.declared.quote.Prices.{Prices}
use Rattle.market.specs.declared.listing.Listing.{Listing}
use Rattle.market.specs.declared.instrument.Instrument.{Instrument}
use Rattle.market.specs.declared.market.Market.{Market}
use Rattle.market.specs.Instruments.{unlisted, numbered, with_row}

-- nothing listed, time 0, no day yet
abbrev pub no_market : Market
no_market = record { instruments = replicate 8 unlisted; time = 0; day = None }

abbrev pub instrument : ℕ → Market → Instrument
instrument n m = numbered n m.instruments

-- one row is another, and everything else stays
abbrev pub with_instrument : ℕ → Instrument → Market → Market
with_instrument n row m = record { instruments = with_row n row m.instruments; time = m.time; day = m.day }

abbrev pub listed : ℕ → Listing → Market → Market
listed n l m = with_instrument n (record { listing = Some l; prices = (instrument n m).prices }) m

abbrev pub priced : ℕ → Prices → Market → Market
priced n p m = with_instrument n (record { listing = (instrument n m).listing; prices = Some p }) m
