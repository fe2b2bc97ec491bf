-- `choices::odometer::advance` meets its contract: the choices within the bounds are those that meet. Assumes nothing.
use Rattle.std.proofs.Common.{ℕ, List, slice_get, sym, ap, ◌∙◌}
use Rattle.places.proofs.Answered.{good_of, value_of, passed_as, ok_answered, exit_err}
use Rattle.analysis.proofs.Laws.Bounds.Meeting.{bounds-refusal}
use Rattle.choices.specs.Choices.{sift}
use Rattle.choices.specs.Order.{after_of}
use Rattle.choices.proofs.Onward.{starts_in}
use Rattle.choices.proofs.Advancing.{came-to-end}
use Rattle.choices.proofs.Bounded.{bounds-none, bounding}
use Rattle.choices.proofs.odometer.advance.Goals as goal

pub returns-in_err-bounds : goal.returns-in_err-bounds
returns-in_err-bounds c = exit_err _ c.from_residual.ensures ∙ passed_as _ _ _ c.in_err-bounds.ensures (bounds-refusal _ _)

pub go_on-requires : goal.go_on-requires
go_on-requires c =
    let told = c.in_ok-bounds.ensures in
    let fine = sym (bounds-refusal c.args.rule c.args.table) ∙ good_of _ _ told in
    let known = bounding c.args.rule c.args.table fine (sym c.in-Some.is ∙ value_of _ _ told) in
    record {
      levels = known.levels;
      allowed = ap (λ (ps : List ℕ). starts_in ps c.args.choice) known.own ∙ c.requires;
    }

pub returns-in-Some : goal.returns-in-Some
returns-in-Some c =
    let told = c.in_ok-bounds.ensures in
    let fine = sym (bounds-refusal c.args.rule c.args.table) ∙ good_of _ _ told in
    let known = bounding c.args.rule c.args.table fine (sym c.in-Some.is ∙ value_of _ _ told) in
    ok_answered _ _ fine (c.go_on.ensures ∙ ap (λ (list : List (List ℕ)). slice_get (after_of c.args.choice list) 0) known.same)

pub returns-in-None : goal.returns-in-None
unfolding after_of sift
returns-in-None c =
    let told = c.in_ok-bounds.ensures in
    let fine = sym (bounds-refusal c.args.rule c.args.table) ∙ good_of _ _ told in
    ok_answered _ _ fine (came-to-end (ap (after_of c.args.choice) (bounds-none c.args.rule c.args.table fine (sym c.in-None.is ∙ value_of _ _ told))))
