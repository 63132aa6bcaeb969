use Rattle.std.proofs.Common.{◌≤◌, List, ◌++◌, length, drop}
use Rattle.std.specs.Fn.{CalledAt}
use Rattle.std.specs.List.Retain.{IsFiltered}
use Rattle.fixed.specs.Items.{items}
use Rattle.fixed.proofs.FixedList.retain.Given as goal

-- what the calls still to come keep goes behind what is kept so far
abbrev pub invariant-loop-item : goal.invariant-loop-item
invariant-loop-item g l =
    goal.F-IsAlwaysCallable g l.keep
    × (length (items l.self) ≤ l.item-index)
    × ((zs : List _) → IsFiltered (CalledAt g.F.FnMut) l.keep (drop l.item-index l.item-items) zs → IsFiltered (CalledAt g.F.FnMut) l.initial.keep l.item-items (items l.self ++ zs))
