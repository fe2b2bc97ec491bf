-- Where a few searches tell so, no choice meets by either rule: the lowest task is late under each, or some record misses its own backup. Assumes nothing.
use Prim.Native.Nat.{ℕ}
use mathlib.Core.Path.{◌≡◌, refl, sym, ap, ◌∙◌}
use mathlib.Core.Bool.{Bool, true, false, not, ◌&&◌, ◌||◌}
use mathlib.Core.List.{List}
use native.Mathlib.Omega.{arith}
use lib.Dec.{ltb}
use lib.ListN.{get_or}
use Rattle.places.proofs.Tells.{both_true}
use Rattle.places.proofs.Some.{some-found}
use Rattle.sheet.specs.declared.Table.{Table}
use Rattle.sheet.specs.Layout.{record_at}
use Rattle.analysis.specs.declared.Rule.{Rule}
use Rattle.analysis.specs.declared.Rule.TheVariants.{Published, Assured}
use Rattle.analysis.specs.Common.Tasks.{tasks_of, own_choice}
use Rattle.analysis.specs.Common.Allowed.{Within}
use Rattle.analysis.specs.Published.Response.{late, passes}
use Rattle.analysis.specs.Published.Lowest.{lowest_late}
use Rattle.analysis.specs.Assured.Time.{unassured, assured}
use Rattle.analysis.specs.ByRule.{meets, rule_refusal}
use Rattle.analysis.specs.Bounds.Hopeless.{hopeless, none_meets}
use Rattle.analysis.proofs.Laws.Common.Choice.{own-allowed}
use Rattle.analysis.proofs.Laws.Published.Lowest.{lowest-late-same, lowest-there, lowest-tested}
use Rattle.analysis.proofs.Laws.Assured.Asked.{raised-unassured}
use Rattle.analysis.proofs.Laws.Bounds.Passing.{hopeless-fails}
use Rattle.analysis.proofs.Laws.Bounds.Assured.{hopeless-unassured}
use Rattle.analysis.proofs.Laws.ByRule.{rule-good}

module _ (t : Table) (choice : List ℕ) (within : Within t choice) where
  late-fails : (rule : Rule) → rule_refusal rule t ≡ 0 → lowest_late t ≡ true → meets rule (tasks_of t t.interval choice) ≡ false
  unfolding meets passes assured
  late-fails Published fine is =
      let good = rule-good Published t fine in
      let at = lowest-there t good in
      let late-too = lowest-late-same t at.0 at.1 choice (own_choice t) within (own-allowed t good).each ∙ sym (lowest-tested t good at.0 at.1) ∙ is in
      ap not (some-found (late (tasks_of t t.interval choice)) at.0 t.count at.1.0 late-too)
  late-fails Assured fine is =
      let good = rule-good Assured t fine in
      let at = lowest-there t good in
      let late-too = lowest-late-same t at.0 at.1 choice (own_choice t) within (own-allowed t good).each ∙ sym (lowest-tested t good at.0 at.1) ∙ is in
      let raised : get_or choice at.0 0 ≡ (record_at t.records at.0).priority = omega (arith, within at.0 at.1.0, at.1.1) in
      ap not (some-found (unassured (tasks_of t t.interval choice)) at.0 t.count at.1.0 (raised-unassured t good choice within at.0 at.1.0 raised ∙ late-too))

  missed-fails : (rule : Rule) → rule_refusal rule t ≡ 0 → hopeless t ≡ true → meets rule (tasks_of t t.interval choice) ≡ false
  unfolding meets
  missed-fails Published fine some = hopeless-fails t (rule-good Published t fine) choice within some
  missed-fails Assured fine some = hopeless-unassured t (rule-good Assured t fine) choice within some

  pub none-fails : (rule : Rule) → rule_refusal rule t ≡ 0 → none_meets t ≡ true → meets rule (tasks_of t t.interval choice) ≡ false
  unfolding none_meets
  none-fails rule fine = either (lowest_late t) (late-fails rule fine)
    where
      either : (low : Bool) → (low ≡ true → meets rule (tasks_of t t.interval choice) ≡ false) → (low || (ltb 4 t.count && hopeless t)) ≡ true → meets rule (tasks_of t t.interval choice) ≡ false
      either true late e = late refl
      either false late e = missed-fails rule fine (both_true (ltb 4 t.count) (hopeless t) e).1

-- a late lowest task alone tells so
pub late-none : (t : Table) → lowest_late t ≡ true → none_meets t ≡ true
unfolding none_meets
late-none t is = ap (λ (b : Bool). b || (ltb 4 t.count && hopeless t)) is
