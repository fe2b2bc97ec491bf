-- `analysis::bounding::weighed::Weighed::tops` meets its contract: before each turn the tops of the places below are known. Assumes nothing.
use Prim.Native.Nat.{ℕ, max}
use mathlib.Core.Path.{◌≡◌, refl, sym, ap, ◌∙◌}
use native.Mathlib.Omega.{arith}
use lib.ListN.{get_or-replicate}
use Rattle.places.specs.Places.{most_below}
use Rattle.places.proofs.Turns.{most-more}
use Rattle.analysis.specs.Common.Backups.{everyone}
use Rattle.analysis.specs.Bounds.Within.{largest_of}
use borrow.Author.Rules.{rules}
use Rattle.analysis.proofs.bounding.weighed.Weighed.tops.Invariants.{brought}
use Rattle.analysis.proofs.bounding.weighed.Weighed.tops.Goals as goal

pub loop-place-init : goal.loop-place-init
unfolding most_below
loop-place-init c = (omega arith, refl, λ priority low. get_or-replicate 9 priority 0 0 low)

pub put_in-requires : goal.put_in-requires
put_in-requires c = record { room = c.loop-place.invariant.1 }

pub loop-place-preserved : goal.loop-place-preserved
unfolding everyone
loop-place-preserved c =
    let at = c.loop-place in
    let args = c.args in
    let each = brought args.self.now.backups.now args.self.now.choice.now in (
      search rules,
      c.put_in.ensures.room,
      λ priority low. c.put_in.ensures.raised priority low ∙ ap (λ (n : ℕ). max n (each priority at.place)) (at.invariant.2 priority low) ∙ sym (most-more (each priority) at.place),
    )

pub returns : goal.returns
unfolding largest_of
returns c priority low =
    let args = c.args in
    let all : c.loop-place.place ≡ args.self.now.count = omega arith in
    c.loop-place.invariant.2 priority low ∙ ap (most_below (brought args.self.now.backups.now args.self.now.choice.now priority)) all
