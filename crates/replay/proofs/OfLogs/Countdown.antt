-- A countdown set by marks and lowered by one each tick tells whether a mark came less than its span before. Over any marks and span. Assumes nothing.
use Rattle.std.proofs.Common.{◌≡◌, ℕ, zero, suc, ◌+◌, ◌-◌, ◌<◌, Bool, true, false, cond, not, ◌&&◌, eqb, ◌↔◌, sym, refl, ap, ◌∙◌, true≢false, not-suc-le-zero, arith, eqb-true}
use native.Mathlib.Decide.{ℕ_discrete}
use borrow.Author.Tests.{eqb-false}
use Rattle.places.proofs.Tells.{Tells, holds, fails, tells-iff, and-tells, tests}
use Rattle.replay.specs.Logs.Positions.{Sooner}

module _ (marked : ℕ → Bool) (span : ℕ) where
  -- the span from a mark on, and one less with each tick
  unfoldable pub countdown : ℕ → ℕ
  countdown zero = 0
  countdown (suc time) = cond (marked time) span (countdown time) - 1

  -- an earlier mark that reaches beyond the time by more than s
  abbrev pub Reaches : ℕ → ℕ → Type 0
  Reaches time s = (earlier : ℕ) × (earlier < time) × (marked earlier ≡ true) × (time + s < earlier + span)

  pub reaches : (time s : ℕ) → (s < countdown time) ↔ Reaches time s
  unfolding countdown
  reaches zero s = (λ h. absurd (omega arith), λ w. absurd (not-suc-le-zero w.1))
  reaches (suc time) s = go (marked time) refl (reaches time (s + 1))
    where
      go : (b : Bool) → marked time ≡ b → (s + 1 < countdown time) ↔ Reaches time (s + 1) → (s < cond b span (countdown time) - 1) ↔ Reaches (suc time) s
      go true here rest = (λ h. (time, omega arith, here, omega arith), λ w. omega arith)
      go false here rest = (
        λ h. (let w = rest.0 (omega arith) in (w.0, omega (arith, w.1), w.2, omega (arith, w.3))),
        λ w. before w (ℕ_discrete w.0 time),
      )
        where
          before : (w : Reaches (suc time) s) → Dec (w.0 ≡ time) → s < countdown time - 1
          before w (yes e) = absurd (true≢false (sym w.2 ∙ ap marked e ∙ here))
          before w (no e) = let h = rest.1 (w.0, omega (arith, w.1), w.2, omega (arith, w.3)) in omega arith

  -- a mark while the countdown lasts is a mark sooner than the span after an earlier one
  pub sooner-tells : (time : ℕ) → Tells (Sooner marked span time) (marked time && not (eqb (countdown time) 0))
  sooner-tells time = and-tells (tests (marked time)) (tells-iff (λ h. reach ((reaches time 0).0 h)) (λ w. (reaches time 0).1 (w.0, w.1, w.2, omega (arith, w.3))) running)
    where
      reach : Reaches time 0 → (earlier : ℕ) × (earlier < time) × (marked earlier ≡ true) × (time < earlier + span)
      reach w = (w.0, w.1, w.2, omega (arith, w.3))

      running : Tells (0 < countdown time) (not (eqb (countdown time) 0))
      running = go (eqb (countdown time) 0) refl
        where
          go : (b : Bool) → eqb (countdown time) 0 ≡ b → Tells (0 < countdown time) (not b)
          go true e = fails (λ h. omega (arith, eqb-true (countdown time) 0 e))
          go false e = holds (let some = eqb-false (countdown time) 0 e in omega arith)
