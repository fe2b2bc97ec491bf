-- For the bounds of a table that is not refused, staying within them is meeting the rule. Assumes nothing.
use Prim.Native.Nat.{ℕ}
use mathlib.Core.Path.{◌≡◌, refl, sym, ap, ◌∙◌}
use mathlib.Core.Bool.{Bool, true, false, cond}
use mathlib.Core.List.{List}
use native.Mathlib.Decide.{ℕ_discrete}
use borrow.Author.Tests.{eq-eqb, ne_eqb}
use lib.Dec.{eqb}
use Rattle.places.specs.Refusals.{or_else}
use Rattle.places.proofs.Refusals.{next-of}
use Rattle.sheet.specs.declared.Table.{Table}
use Rattle.sheet.specs.Rules.{outside}
use Rattle.sheet.proofs.Cases.{good-table, outside-within}
use Rattle.analysis.specs.Told.{Bounds}
use Rattle.analysis.specs.declared.Rule.{Rule}
use Rattle.analysis.specs.declared.Rule.TheVariants.{Published, Assured}
use Rattle.analysis.specs.Common.Allowed.{Within}
use Rattle.analysis.specs.Common.Tasks.{tasks_of}
use Rattle.analysis.specs.Common.Entries.{verdict_of}
use Rattle.analysis.specs.ByRule.{rule_refusal, meets}
use Rattle.analysis.specs.Bounds.Hopeless.{none_meets}
use Rattle.analysis.specs.Bounds.Found.{no_bounds, found_bounds, bounds_of}
use Rattle.analysis.specs.Bounds.Within.{within_bounds, bounds_refusal, within_answer}
use Rattle.analysis.proofs.Laws.Bounds.Passing.{within-passes}
use Rattle.analysis.proofs.Laws.Bounds.Assured.{within-assured}
use Rattle.analysis.proofs.Laws.Bounds.Hopeless.{none-fails}
use Rattle.analysis.proofs.Laws.ByRule.{rule-good}

-- bounds are refused as their table is
module _ (rule : Rule) (t : Table) where
  pub bounds-refusal : (bounds_of rule t).refusal ≡ rule_refusal rule t
  unfolding bounds_of found_bounds
  bounds-refusal = go (ℕ_discrete (rule_refusal rule t) 0) (none_meets t)
    where
      go : Dec (rule_refusal rule t ≡ 0) → (none : Bool)
          → (cond (eqb (rule_refusal rule t) 0) (cond none (no_bounds 0) (found_bounds rule t)) (no_bounds (rule_refusal rule t))).refusal ≡ rule_refusal rule t
      go (yes fine) true = simp fine
      go (yes fine) false = simp fine
      go (no broken) none = simp (ne_eqb (rule_refusal rule t) 0 broken)

  -- else there are none, or those of the table
  module _ (fine : rule_refusal rule t ≡ 0) where
    pub bounds-none : none_meets t ≡ true → bounds_of rule t ≡ no_bounds 0
    unfolding bounds_of
    bounds-none none = simp (fine, none)

    pub bounds-found : none_meets t ≡ false → bounds_of rule t ≡ found_bounds rule t
    unfolding bounds_of
    bounds-found some = simp (fine, some)

-- nothing stays within no bounds
none_within : (rule : Rule) (choice : List ℕ) → (within_answer rule (no_bounds 0) choice).yes ≡ false
unfolding within_answer verdict_of bounds_refusal or_else outside
none_within rule choice = refl

-- for the bounds of a table that is not refused, and a choice that it has, staying within them is holding by the rule
pub bounds-meet : (rule : Rule) (t : Table) → rule_refusal rule t ≡ 0 → (choice : List ℕ) → Within t choice → (within_answer rule (bounds_of rule t) choice).yes ≡ meets rule (tasks_of t t.interval choice)
unfolding meets bounds_of within_answer verdict_of bounds_refusal found_bounds
bounds-meet rule t fine choice within =
    let known = (good-table t (rule-good rule t fine)).count in
    let found : bounds_of rule t ≡ cond (none_meets t) (no_bounds 0) (found_bounds rule t) = simp (eq-eqb (rule_refusal rule t) 0 fine) in
    let few : bounds_refusal 0 t.count ≡ 0 = next-of {a = 0} (cond (outside t.count 8) 2 0) refl ∙ simp (outside-within t.count 8 known) in
    ap (λ (b : Bounds). (within_answer rule b choice).yes) found ∙ told (none_meets t) refl (simp few (stays rule fine))
  where
    told : (none : Bool) → none_meets t ≡ none → (within_answer rule (found_bounds rule t) choice).yes ≡ meets rule (tasks_of t t.interval choice)
        → (within_answer rule (cond none (no_bounds 0) (found_bounds rule t)) choice).yes ≡ meets rule (tasks_of t t.interval choice)
    told true is some = none_within rule choice ∙ sym (none-fails t choice within rule fine is)
    told false is some = some

    stays : (r : Rule) → rule_refusal r t ≡ 0 → within_bounds r (found_bounds r t) choice ≡ meets r (tasks_of t t.interval choice)
    stays Published ok = within-passes t (rule-good Published t ok) choice within
    stays Assured ok = within-assured t (rule-good Assured t ok) choice within
