-- `mend::listing::changes_of` meets its contract: before each turn the cut and the records below the place are listed. Assumes nothing.
use Prim.Native.Nat.{ℕ, ◌+◌}
use mathlib.Core.Path.{◌≡◌, sym, ap, ◌∙◌}
use mathlib.Core.List.{List, [], ◌++◌, append-nil, append_assoc}
use native.Mathlib.Omega.{arith}
use lib.Dec.{lit<}
use Rattle.places.specs.Places.{joined_below}
use Rattle.places.proofs.Turns.{joined-more}
use Rattle.sheet.specs.Layout.{record_at}
use Rattle.mend.specs.declared.Field.TheVariants.{Length}
use Rattle.mend.specs.declared.Change.{Change}
use Rattle.mend.specs.declared.Changes.{Changes}
use Rattle.mend.specs.Changes.{listed, record_changes, held}
use Rattle.mend.specs.Steps.{noted, noted_record, table_changes}
use Rattle.mend.proofs.Noted.{held-noted, held-record, room-left}
use borrow.Author.Rules.{rules}
use Rattle.mend.proofs.listing.changes_of.Goals as goal

pub noted-changes-requires : goal.noted-changes-requires
unfolding held
noted-changes-requires c = rw c.none.ensures (lit< tt)

pub loop-place-init : goal.loop-place-init
unfolding joined_below
loop-place-init c =
    let cut : Change = record { place = 0; field = Length; old = c.args.old; new = c.args.new } in
    (search rules, c.noted-changes.ensures.noted ∙ ap (λ (changes : Changes). noted changes cut) c.none.ensures ∙ held-noted [] cut (lit< tt) ∙ ap held (sym (append-nil (listed cut))))

pub with_record-changes-requires : goal.with_record-changes-requires
unfolding held
with_record-changes-requires c =
    rw c.loop-place.invariant.1 (room-left _ (record_at c.args.table.records) c.loop-place.place c.args.table.count c.loop-place-test.true c.requires)

pub loop-place-preserved : goal.loop-place-preserved
unfolding record_at
loop-place-preserved c =
    let cut : Change = record { place = 0; field = Length; old = c.args.old; new = c.args.new } in
    let each : ℕ → List Change = λ k. record_changes (k + 1) (record_at c.args.table.records k) in (
      search rules,
      c.with_record-changes.ensures ∙ ap (λ (changes : Changes). noted_record changes (c.loop-place.place + 1) (record_at c.args.table.records c.loop-place.place)) c.loop-place.invariant.1
          ∙ held-record (listed cut ++ joined_below each c.loop-place.place) (c.loop-place.place + 1) (record_at c.args.table.records c.loop-place.place) (room-left cut (record_at c.args.table.records) c.loop-place.place c.args.table.count c.loop-place-test.true c.requires)
          ∙ ap held (append_assoc (listed cut) (joined_below each c.loop-place.place) (each c.loop-place.place) ∙ ap (λ (l : List Change). listed cut ++ l) (sym (joined-more each c.loop-place.place))),
    )

pub returns : goal.returns
unfolding table_changes
returns c =
    let at = c.loop-place in
    let cut : Change = record { place = 0; field = Length; old = c.args.old; new = c.args.new } in
    let all : at.place ≡ c.args.table.count = omega arith in
    at.invariant.1 ∙ ap (λ (n : ℕ). held (listed cut ++ joined_below (λ k. record_changes (k + 1) (record_at c.args.table.records k)) n)) all
