use Rattle.std.proofs.Common.{◌≡◌, sym, List, [], ◌∷◌, length-append, append_assoc, append-nil, drop_of_length-le, refl, true, false, arith, subst, of_calls}
use Rattle.std.proofs.lemmas.Fn.{called_at, filter_same}
use Rattle.std.specs.Fn.{CalledAt}
use Rattle.std.specs.List.Retain.{IsFiltered}
use Rattle.fixed.specs.Items.{items}
use Rattle.fixed.proofs.Filtered.{filtered_from}
use Rattle.fixed.proofs.FixedList.retain.Goals.{then-keep, else-keep}
use Rattle.fixed.proofs.FixedList.retain.Goals as goal

pub loop-item-preserved : goal.loop-item-preserved
loop-item-preserved g c =
    let at = c.loop-item in
    let R = CalledAt g.F.FnMut in
    let xs = c.as_slice-item-items.result.now in
    let from = λ (b : _) (zs : List _) (e : c.keep.result ≡ b). filtered_from R at.keep c.keep.new.self at.item-index c.item-item.result b xs zs c.loop-item-test.true c.item-item.is (called_at g.F.FnMut c.keep.ensures e) in
    elim c.if-keep.branch [
      | then-keep w ↦ (
        search of_calls,
        rw (w.self-is, w.push.ensures, length-append) (omega (arith, at.invariant.1)),
        λ zs h. rw (w.self-is, w.push.ensures, append_assoc) (at.invariant.2 (c.item-item.result ∷ zs) (from true zs w.if-keep.true h)),
      )
      | else-keep w ↦ (
        search of_calls,
        rw w.self-is (omega (arith, at.invariant.1)),
        λ zs h. rw w.self-is (at.invariant.2 zs (from false zs w.if-keep.false h)),
      )
    ]

pub returns : goal.returns
returns g c =
    let at = c.loop-item in
    let R = CalledAt g.F.FnMut in
    let xs = c.as_slice-item-items.result.now in
    let kept = at.invariant.2 [] (subst (λ l. IsFiltered R at.keep l []) (sym (drop_of_length-le xs c.loop-item-test.false)) ([], at.keep, refl, refl, refl)) in
    let filtered : IsFiltered R c.args.keep (items c.args.self.now) (items at.self) = rw (← c.as_slice-item-items.ensures.value) (rw append-nil at kept) in
    record { filtered = filtered; tested = λ test h. filter_same R test c.args.keep h _ _ filtered }
