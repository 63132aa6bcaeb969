-- The numbers of a deal and of a margin, by their tests.
use Rattle.std.proofs.Common.{◌≡◌, ℕ, true, ◌&&◌}
use Rattle.std.proofs.lemmas.Bool.{and_parts, and_from}
use Rattle.limits.specs.Bounds.{price_ok, volume_ok, leverage_ok, Price, Volume, Leverage}
use Rattle.limits.proofs.Within.{between_says, between_true}
use Rattle.kinds.specs.Ranges.{deal_ok, holding_ok}

pub deal_says : (o k v : ℕ) → deal_ok o k v ≡ true → Price o × Price k × Volume v
deal_says o k v h =
    let p = and_parts (price_ok o) (price_ok k && volume_ok v) h in
    let q = and_parts (price_ok k) (volume_ok v) p.1 in
    (between_says 1000 1000000 o p.0, between_says 1000 1000000 k q.0, between_says 1 10000 v q.1)

pub holding_says : (l o v : ℕ) → holding_ok l o v ≡ true → Leverage l × Price o × Volume v
holding_says l o v h =
    let p = and_parts (leverage_ok l) (price_ok o && volume_ok v) h in
    let q = and_parts (price_ok o) (volume_ok v) p.1 in
    (between_says 1 500 l p.0, between_says 1000 1000000 o q.0, between_says 1 10000 v q.1)

pub holding_true : (l o v : ℕ) → Leverage l → Price o → Volume v → holding_ok l o v ≡ true
holding_true l o v hl ho hv =
    and_from (leverage_ok l) (price_ok o && volume_ok v) (between_true 1 500 l hl)
    (and_from (price_ok o) (volume_ok v) (between_true 1000 1000000 o ho) (between_true 1 10000 v hv))
