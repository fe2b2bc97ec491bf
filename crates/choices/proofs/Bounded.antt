-- What the bounds of a table tell: the choices that stay within them are those that meet the rule, and there is none where they have no record. Assumes nothing.
use Prim.Native.Nat.{ℕ, ◌≤◌}
use mathlib.Core.Path.{◌≡◌, refl, sym, ap, subst, ◌∙◌}
use mathlib.Core.Bool.{Bool, true, false, cond}
use mathlib.Core.List.{List, []}
use native.Mathlib.Decide.{ℕ_discrete}
use native.Mathlib.Omega.{arith}
use borrow.Author.Tests.{eq-eqb, ne_eqb}
use lib.ListN.{length}
use Rattle.sheet.specs.declared.Table.{Table}
use Rattle.sheet.proofs.Cases.{good-table}
use Rattle.std.specs.Prelude.{Some, None}
use Rattle.analysis.specs.declared.Bounds as limits
use Rattle.analysis.specs.Told.{Bounds, limits_told}
use Rattle.analysis.specs.declared.Rule.{Rule}
use Rattle.analysis.specs.Common.Columns.{priorities_of}
use Rattle.analysis.specs.Common.Allowed.{all_allowed, Within}
use Rattle.analysis.specs.ByRule.{meets, rule_refusal}
use Rattle.analysis.specs.Bounds.Hopeless.{none_meets}
use Rattle.analysis.specs.Bounds.Found.{no_bounds, found_bounds, bounds_of}
use Rattle.analysis.specs.Bounds.Within.{within_answer}
use Rattle.analysis.proofs.Laws.Common.Choice.{allowed-exactly, allowed-length, length-priorities}
use Rattle.analysis.proofs.Laws.ByRule.{rule-good}
use Rattle.analysis.proofs.Laws.Bounds.Meeting.{bounds-meet}
use Rattle.choices.specs.Choices.{choices_of, chosen}
use Rattle.choices.specs.Stepping.{factorial, within_of, Levels}
use Rattle.choices.proofs.Sifted.{sift-same}
use Rattle.choices.proofs.Members.{choices-sound}
use Rattle.choices.proofs.Advancing.{test_with, table-levels}
use Rattle.choices.proofs.Hopeless.{none-chosen}
use Rattle.choices.proofs.Demands.{listed-few}

-- the fields of bounds
abbrev pub fields : Bounds → limits.Bounds
fields b = record { count = b.count; priorities = b.priorities; backups = b.backups; limits = b.limits }

-- there are bounds exactly where they have a record
no-limits : (b : Bounds) → None ≡ limits_told b → b.count ≡ 0
unfolding limits_told
no-limits b none = go (ℕ_discrete b.count 0)
  where
    limits-are : (b.count ≡ 0 → ⊥) → limits_told b ≡ Some (fields b)
    limits-are some = simp (ne_eqb b.count 0 some)

    go : Dec (b.count ≡ 0) → b.count ≡ 0
    go (yes zero) = zero
    go (no some) = absurd (cc (none, limits-are some))

some-limits : (b : Bounds) {d : limits.Bounds} → Some d ≡ limits_told b → (b.count ≡ 0 → ⊥) × (d ≡ fields b)
unfolding limits_told
some-limits b {d} is = go (ℕ_discrete b.count 0)
  where
    none-are : b.count ≡ 0 → limits_told b ≡ None
    none-are zero = simp zero

    limits-are : (b.count ≡ 0 → ⊥) → limits_told b ≡ Some (fields b)
    limits-are some = simp (ne_eqb b.count 0 some)

    go : Dec (b.count ≡ 0) → (b.count ≡ 0 → ⊥) × (d ≡ fields b)
    go (yes zero) = absurd (cc (is, none-are zero))
    go (no some) = (some, cc (is, limits-are some))

module _ (rule : Rule) (t : Table) (fine : rule_refusal rule t ≡ 0) where
  bounds-told : bounds_of rule t ≡ cond (none_meets t) (no_bounds 0) (found_bounds rule t)
  unfolding bounds_of
  bounds-told = simp (eq-eqb (rule_refusal rule t) 0 fine)

  -- no bounds tell that no choice meets the rule
  pub bounds-none : None ≡ limits_told (bounds_of rule t) → chosen (meets rule) t ≡ []
  unfolding found_bounds
  bounds-none none = go (none_meets t) refl (sym (ap (λ (x : Bounds). x.count) bounds-told) ∙ no-limits _ none)
    where
      go : (is : Bool) → none_meets t ≡ is → (cond is (no_bounds 0) (found_bounds rule t)).count ≡ 0 → chosen (meets rule) t ≡ []
      go true is zero = none-chosen t rule fine is
      go false is zero = absurd (omega (arith, (good-table t (rule-good rule t fine)).count.0))

  -- else they are found
  bounds-found : ((bounds_of rule t).count ≡ 0 → ⊥) → bounds_of rule t ≡ found_bounds rule t
  bounds-found some = bounds-told ∙ go (none_meets t) (λ zero. some (ap (λ (x : Bounds). x.count) bounds-told ∙ zero))
    where
      go : (is : Bool) → ((cond is (no_bounds 0) (found_bounds rule t)).count ≡ 0 → ⊥) → cond is (no_bounds 0) (found_bounds rule t) ≡ found_bounds rule t
      go true there = absurd (there refl)
      go false there = refl

  within-choice : (choice : List ℕ) → all_allowed (priorities_of t) choice ≡ true → Within t choice
  within-choice choice allowed = ((allowed-exactly t (rule-good rule t fine) choice (allowed-length (priorities_of t) choice allowed ∙ length-priorities t)).0 allowed).each

  -- the choices that stay within them are those that meet
  chosen-within : bounds_of rule t ≡ found_bounds rule t → within_of rule (fields (found_bounds rule t)) ≡ chosen (meets rule) t
  unfolding within_of chosen found_bounds
  chosen-within found =
      sift-same _ (test_with (meets rule) t) (choices_of (priorities_of t)) (λ choice member.
      ap (λ (b : Bounds). (within_answer rule b choice).yes) (sym found) ∙ bounds-meet rule t fine choice (within-choice choice (choices-sound (priorities_of t) member)))

  -- what is known of bounds that are the table's
  pub record Bounding (b : limits.Bounds) : Type 0 where
    pub few : b.count ≤ 8
    pub levels : Levels b.priorities
    pub own : b.priorities ≡ priorities_of t
    pub same : within_of rule b ≡ chosen (meets rule) t
    pub most : length (within_of rule b) ≤ factorial b.count

  pub bounding : {b : limits.Bounds} → Some b ≡ limits_told (bounds_of rule t) → Bounding b
  unfolding found_bounds
  bounding e =
      let good = rule-good rule t fine in
      let some = some-limits _ e in
      let found = bounds-found some.0 in
      subst Bounding (sym (some.1 ∙ ap fields found))
      (record {
        few = (good-table t good).count.1;
        levels = table-levels t good;
        own = refl;
        same = chosen-within found;
        most = subst (λ (list : List (List ℕ)). length list ≤ factorial t.count) (sym (chosen-within found)) (listed-few (meets rule) t good);
      })
