-- `choices::list_by` meets its contract: refused, the output is as it was; else it starts with the list. Assumes nothing.
use Prim.Native.Nat.{ℕ}
use mathlib.Core.Path.{sym, ap, ap₂, ◌∙◌}
use mathlib.Core.List.{List}
use borrow.Author.Tests.{ne_eqb}
use Rattle.places.specs.Answered.{answered}
use Rattle.places.proofs.Answered.{good_of, value_of, broken_of, passed_as, ok_answered, exit_err}
use Rattle.analysis.specs.ByRule.{meets, rule_refusal}
use Rattle.analysis.proofs.Laws.Bounds.Meeting.{bounds-refusal}
use Rattle.choices.proofs.Bounded.{bounds-none, bounding}
use Rattle.choices.proofs.Listed.{room-refused, room-empty, start-allowed}
use Rattle.choices.specs.Choices.{chosen}
use Rattle.choices.specs.Told.{Listing}
use Rattle.choices.specs.Answers.{room_refusal, list_from, leaves_from, refusal_by, list_by, leaves_by}
use Rattle.choices.proofs.list_by.Goals as goal

pub returns-in_err-bounds : goal.returns-in_err-bounds
unfolding leaves_by leaves_from list_by list_from refusal_by
returns-in_err-bounds c =
    let rule = c.args.rule in
    let t = c.args.table in
    let told = c.in_err-bounds.ensures in
    let refused = bounds-refusal rule t in
    let same = room-refused (rule_refusal rule t) (chosen (meets rule) t) c.args.out.now (λ none. broken_of _ _ told (refused ∙ none)) in
    record {
      answer = exit_err _ c.from_residual.ensures ∙ passed_as _ _ _ told (refused ∙ sym same);
      left = simp (ne_eqb _ 0 (λ none. broken_of _ _ told (refused ∙ sym same ∙ none)));
    }

pub returns-in-None : goal.returns-in-None
unfolding leaves_by list_by refusal_by
returns-in-None c =
    let rule = c.args.rule in
    let t = c.args.table in
    let told = c.in_ok-bounds.ensures in
    let fine = sym (bounds-refusal rule t) ∙ good_of _ _ told in
    let said = room-empty (rule_refusal rule t) (chosen (meets rule) t) c.args.out.now fine (bounds-none rule t fine (sym c.in-None.is ∙ value_of _ _ told)) in
    record {
      answer = ok_answered _ _ (ap (λ (l : Listing). l.refusal) said.0) (sym (ap (λ (l : Listing). l.entries) said.0));
      left = sym said.1;
    }

pub invariant_of-within : goal.invariant_of-within
invariant_of-within c =
    let rule = c.args.rule in
    let t = c.args.table in
    let told = c.in_ok-bounds.ensures in
    let fine = sym (bounds-refusal rule t) ∙ good_of _ _ told in
    let known = bounding rule t fine (sym c.in-Some.is ∙ value_of _ _ told) in
    record { few = known.few; levels = known.levels; most = known.most; started = start-allowed c.in-Some.bounds.priorities }

pub returns-in-Some : goal.returns-in-Some
unfolding leaves_by list_by list_from refusal_by
returns-in-Some c =
    let rule = c.args.rule in
    let t = c.args.table in
    let told = c.in_ok-bounds.ensures in
    let fine = sym (bounds-refusal rule t) ∙ good_of _ _ told in
    let known = bounding rule t fine (sym c.in-Some.is ∙ value_of _ _ told) in
    let none = sym fine in
    let out : List ℕ = c.args.out.now in
    record {
      answer = c.put_list.ensures.answer ∙ ap₂ (λ (r : ℕ) (list : List (List ℕ)). answered (room_refusal r list out) (list_from (room_refusal r list out) list).entries) none known.same;
      left = c.put_list.ensures.content ∙ ap₂ (λ (r : ℕ) (list : List (List ℕ)). leaves_from (room_refusal r list out) list out) none known.same;
    }
