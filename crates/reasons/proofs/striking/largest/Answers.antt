-- `reasons::striking::largest` meets its contract: before each turn the largest of the places below is known, and whose it is. Assumes nothing.
use Prim.Native.Nat.{ℕ}
use mathlib.Core.Path.{◌≡◌, refl, sym, ap, ◌∙◌}
use native.Mathlib.Omega.{arith}
use Rattle.std.specs.Prelude.{Some}
use Rattle.places.specs.Places.{most_below}
use Rattle.analysis.specs.Common.Entries.{own_tasks}
use Rattle.reasons.specs.declared.striking.Strike as strike
use Rattle.reasons.specs.Told.{Strike, whose_told, strike_told}
use Rattle.reasons.specs.Terms.{meant_backup, owner_below}
use Rattle.reasons.specs.Strikes.{strike_below}
use Rattle.reasons.proofs.Owners.{larger-taken, larger-kept, strike-more}
use Rattle.reasons.proofs.striking.largest.Goals.{then-strike-backup, else-strike-backup}
use Rattle.reasons.proofs.striking.largest.Goals as goal

pub loop-other-init : goal.loop-other-init
unfolding most_below owner_below whose_told
loop-other-init c = (omega arith, refl)

pub backup_of-backup-requires : goal.backup_of-backup-requires
backup_of-backup-requires c =
    record {
      good = c.requires.good;
      here = c.requires.here;
      there = c.loop-other-test.true;
    }

pub loop-other-preserved : goal.loop-other-preserved
unfolding whose_told
loop-other-preserved c =
    let at = c.loop-other in
    let args = c.args in
    let value = meant_backup args.equation (own_tasks args.table) args.place in
    let more = sym (strike-more value at.other) in
    let so-far : at.strike.backup ≡ most_below value at.other = ap (λ (s : strike.Strike). s.backup) at.invariant.1 in
    let here = c.backup_of-backup.ensures in (
      omega arith,
      elim c.if-strike-backup.branch [
        | then-strike-backup w ↦
            w.strike-is ∙ ap (λ (n : ℕ). record { backup = n; whose = Some at.other }) here
            ∙ ap (λ (s : Strike). strike_told s) (larger-taken (strike_below value at.other) (value at.other) at.other (omega (arith, w.if-strike-backup, so-far, here)) ∙ more)
        | else-strike-backup w ↦
            w.strike-is ∙ at.invariant.1
            ∙ ap (λ (s : Strike). strike_told s) (larger-kept (strike_below value at.other) (value at.other) at.other (omega (arith, w.if-strike-backup, so-far, here)) ∙ more)
      ],
    )

pub returns : goal.returns
returns c =
    let at = c.loop-other in
    let args = c.args in
    let all : at.other ≡ args.table.count = omega arith in
    at.invariant.1 ∙ ap (λ (n : ℕ). strike_told (strike_below (meant_backup args.equation (own_tasks args.table) args.place) n)) all
