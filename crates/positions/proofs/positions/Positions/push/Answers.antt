use Rattle.std.proofs.Common.{List, sym, subst}
use Rattle.terms.specs.Numbers.{Rising}
use Rattle.fixed.specs.Items.{items}
use Rattle.positions.specs.declared.position.OpenPosition.{OpenPosition}
use Rattle.positions.specs.Positions.{ticket_numbers}
use Rattle.positions.specs.Sizes.{Sized}
use Rattle.positions.proofs.Rises.{rising_push, sized_push}
use Rattle.positions.proofs.positions.Positions.push.Goals as goal

pub invariant_of-self : goal.invariant_of-self
invariant_of-self c =
    let before = c.args.self.now in
    let more = sym c.push.ensures in
    record {
      rising = subst (λ (ps : List OpenPosition). Rising (ticket_numbers ps)) more (rising_push (items before.list) c.args.position before.rising c.requires.later);
      sized = subst Sized more (sized_push (items before.list) c.args.position before.sized c.requires.sized);
    }
