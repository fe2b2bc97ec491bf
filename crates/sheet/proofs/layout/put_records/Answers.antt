-- `sheet::layout::put_records` meets its contract: before each turn the records below the place are put. Assumes nothing.
use Prim.Native.Nat.{ℕ, ◌+◌, ◌*◌}
use mathlib.Core.Path.{◌≡◌, sym, ap, ◌∙◌}
use native.Mathlib.Omega.{arith}
use mathlib.Core.List.{List}
use lib.ListN.{length}
use lib.Seq.{sets}
use Rattle.places.specs.Places.{joined_below}
use Rattle.places.proofs.Turns.{joined-more}
use Rattle.sheet.specs.Layout.{record_at, record_bytes}
use Rattle.sheet.proofs.Cases.{good-at}
use Rattle.sheet.proofs.Stores.{sets-after, length-records}
use borrow.Author.Rules.{rules}
use Rattle.sheet.proofs.layout.put_records.Goals as goal

pub loop-place-init : goal.loop-place-init
unfolding joined_below
loop-place-init c = search rules

pub put_record-requires : goal.put_record-requires
unfolding record_at
put_record-requires c =
    let good = good-at c.args.count (record_at c.args.records) c.requires.good c.loop-place.place c.loop-place-test.true in
    record {
      room = omega arith;
      priority = omega arith;
      fault = omega arith;
    }

pub loop-place-preserved : goal.loop-place-preserved
unfolding record_at
loop-place-preserved c =
    let at = c.loop-place in
    let bytes : ℕ → List ℕ = λ place. record_bytes (record_at c.args.records place) in
    let so_far : length (joined_below bytes at.place) ≡ 9 * at.place = length-records (record_at c.args.records) at.place in (
      search rules,
      c.put_record.auto.out ∙ at.invariant.1,
      c.put_record.ensures
          ∙ ap (λ (l : List ℕ). sets l (c.args.start + 9 * at.place) (bytes at.place)) at.invariant.2
          ∙ sets-after c.args.out.now (joined_below bytes at.place) (bytes at.place) c.args.start (c.args.start + 9 * at.place) (ap (λ (n : ℕ). c.args.start + n) (sym so_far))
          ∙ ap (sets c.args.out.now c.args.start) (sym (joined-more bytes at.place)),
    )

pub shape_of-out : goal.shape_of-out
shape_of-out c = c.loop-place.invariant.1

pub returns : goal.returns
returns c =
    let all : c.loop-place.place ≡ c.args.count = omega arith in
    c.loop-place.invariant.2 ∙ ap (λ (n : ℕ). sets c.args.out.now c.args.start (joined_below (λ place. record_bytes (record_at c.args.records place)) n)) all
