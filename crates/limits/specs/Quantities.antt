-- Which numbers each quantity admits.
use Rattle.std.specs.Prelude.{ℕ, Bool}
use Rattle.limits.specs.Bounds.{account_ok, instrument_ok, price_ok, volume_ok, leverage_ok, percentage_ok, distance_ok, payment_ok, paid_in_ok, time_ok, day_ok, ticket_ok, kind_ok, size_ok}
use Rattle.limits.specs.declared.Quantity.{Quantity}
use Rattle.limits.specs.declared.Quantity.TheVariants.{Account, Instrument, Price, Volume, Leverage, Percentage, Distance, Payment, PaidIn, Time, Day, Ticket, Kind, Size}

abbrev pub admits : Quantity → ℕ → Bool
admits Account n = account_ok n
admits Instrument n = instrument_ok n
admits Price n = price_ok n
admits Volume n = volume_ok n
admits Leverage n = leverage_ok n
admits Percentage n = percentage_ok n
admits Distance n = distance_ok n
admits Payment n = payment_ok n
admits PaidIn n = paid_in_ok n
admits Time n = time_ok n
admits Day n = day_ok n
admits Ticket n = ticket_ok n
admits Kind n = kind_ok n
admits Size n = size_ok n
