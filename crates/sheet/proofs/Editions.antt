-- The two editions, one case for each: where something must compute, a law is split into these and nowhere else. And the edition that a table is written in.
-- Assumes nothing.
use Prim.Native.Nat.{ℕ, zero, suc, ◌≤◌, ◌<◌}
use mathlib.Core.Path.{◌≡◌, refl}
use mathlib.Core.Bool.{Bool, true, false, cond}
use native.Mathlib.Nat.{suc-ne-zero}
use native.Mathlib.Omega.{arith}
use borrow.Author.Tests.{eqb-true, eqb-false, leb-false, ne_eqb}
use lib.Dec.{eqb, leb}
use Rattle.places.proofs.Tells.{neither, both_true}
use Rattle.sheet.specs.Layout.{is_whole, edition_for}
use Rattle.sheet.specs.Rules.{wrong_share}

-- the old edition's number and the new one's
pub data Edition : ℕ → Type 0 where
  old : Edition 0
  new : Edition 1

-- a number up to 1 is one of the two
pub edition-of : (e : ℕ) → e ≤ 1 → Edition e
edition-of zero h = old
edition-of (suc zero) h = new
edition-of (suc (suc e)) h = absurd (omega arith)

module _ (round share : ℕ) where
  -- a table is written in one of the two
  pub edition-low : edition_for round share ≤ 1
  unfolding edition_for
  edition-low = go (is_whole round share)
    where
      go : (b : Bool) → cond b 0 1 ≤ 1
      go true = omega arith
      go false = omega arith

  -- in the old one exactly for the whole processor
  pub whole-old : edition_for round share ≡ 0 → (round ≡ 1) × (share ≡ 1)
  unfolding edition_for is_whole
  whole-old e =
      let tests = both_true (eqb round 1) (eqb share 1) (go (is_whole round share) e) in
      (eqb-true round 1 tests.0, eqb-true share 1 tests.1)
    where
      go : (b : Bool) → ◌≡◌ {A = ℕ} (cond b 0 1) 0 → b ≡ true
      go true z = refl
      go false z = absurd (suc-ne-zero 0 z)

  -- and in the new one for a round other than 1
  pub shared_new : (round ≡ 1 → ⊥) → edition_for round share ≡ 1
  unfolding edition_for is_whole
  shared_new more = simp (ne_eqb round 1 more)

  -- a share that is not wrong is nonzero and below the round, in the new edition
  pub right-share : {edition : ℕ} → edition ≡ 1 → wrong_share edition round share ≡ false → (1 ≤ share) × (share < round)
  unfolding wrong_share
  right-share is e =
      let tests = neither (eqb share 0) (leb round share) (rw is at e) in
      let some = eqb-false share 0 tests.0 in
      omega (arith, leb-false round share tests.1)
