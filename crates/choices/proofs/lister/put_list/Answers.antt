-- `choices::lister::put_list` meets its contract: where there is too little room the output is as it was. Assumes nothing.
use Prim.Native.Nat.{◌*◌, ◌/◌, ◌≤◌, ◌<◌}
use mathlib.Core.Path.{refl, sym, ◌∙◌}
use mathlib.Core.List.{List}
use Prim.Native.Nat.{ℕ}
use native.Mathlib.Omega.{arith}
use borrow.Author.Tests.{leb-true, leb-false}
use lib.ListN.{length}
use Rattle.places.proofs.Answered.{ok_answered, err_answered}
use Rattle.choices.proofs.Listed.{room-short, room_fits}
use Rattle.choices.specs.Answers.{list_from, leaves_from}
use Rattle.choices.specs.Stepping.{within_of}
use Rattle.choices.proofs.lister.put_list.Goals as goal

pub fill-requires : goal.fill-requires
fill-requires c =
    let listed : List (List ℕ) = within_of c.args.within.rule c.args.within.bounds.now in
    let roomy : 4 * length listed ≤ length c.args.out.now = (
    let room = leb-true (length listed) (length c.args.out.now / 4) (sym c.fits.ensures ∙ c.if-fits.true) in
    omega (arith, room)
    ) in
    record {
      start = c.requires;
      room = roomy;
    }

pub returns-then-fits : goal.returns-then-fits
unfolding leaves_from list_from
returns-then-fits c =
    let listed : List (List ℕ) = within_of c.args.within.rule c.args.within.bounds.now in
    let roomy : 4 * length listed ≤ length c.args.out.now = (
    let room = leb-true (length listed) (length c.args.out.now / 4) (sym c.fits.ensures ∙ c.if-fits.true) in
    omega (arith, room)
    ) in
    let fine = room_fits 0 listed c.args.out.now refl roomy in
    let put = c.fill.ensures in
    record { answer = ok_answered _ _ fine (simp (fine, put.number)); content = simp fine put.content }

pub returns-else-fits : goal.returns-else-fits
unfolding leaves_from list_from
returns-else-fits c =
    let listed : List (List ℕ) = within_of c.args.within.rule c.args.within.bounds.now in
    let room = leb-false (length listed) (length c.args.out.now / 4) (sym c.fits.ensures ∙ c.if-fits.false) in
    let short : length c.args.out.now < 4 * length listed = omega (arith, room) in
    let refused = room-short 0 listed c.args.out.now refl short in
    record { answer = err_answered _ _ (sym refused); content = simp refused }
