-- The times and the response within a limit, out of those within a larger one. Assumes nothing.
use Prim.Native.Nat.{ℕ, ◌≤◌, max}
use mathlib.Core.Path.{◌≡◌, refl, sym, ap, ◌∙◌}
use mathlib.Core.Bool.{Bool, true, false, cond, ◌||◌}
use native.Mathlib.Decide.{ℕ_discrete, dec_le}
use native.Mathlib.Omega.{arith}
use borrow.Author.Tests.{eq-eqb, ne_eqb}
use lib.Dec.{eqb}
use Rattle.analysis.specs.Common.Tasks.{Tasks}
use Rattle.analysis.specs.Published.Equations.{struck_elsewhere, struck_itself}
use Rattle.analysis.specs.Published.Response.{time_elsewhere, time_itself, response_within}
use Rattle.analysis.specs.Common.Entries.{is_late}
use Rattle.analysis.proofs.Laws.Common.Cut.{cut, cut-kept, cut-late, cut-none, cut-past, least-cut}

module _ (limit longer : ℕ) (less : limit ≤ longer) (s : Tasks) (i : ℕ) where
  elsewhere-cut : time_elsewhere limit s i ≡ cut limit (time_elsewhere longer s i)
  unfolding time_elsewhere
  elsewhere-cut = least-cut (struck_elsewhere s i) 1 limit longer less

  itself-cut : time_itself limit s i ≡ cut limit (time_itself longer s i)
  unfolding time_itself
  itself-cut = least-cut (struck_itself s i) 1 limit longer less

  pub response-cut : response_within limit s i ≡ cut limit (response_within longer s i)
  unfolding response_within
  response-cut =
      let first = elsewhere-cut in
      let second = itself-cut in
      rw (first, second) (go (time_elsewhere longer s i) (time_itself longer s i))
    where
      go : (a b : ℕ) → cond (eqb (cut limit a) 0 || eqb (cut limit b) 0) 0 (max (cut limit a) (cut limit b)) ≡ cut limit (cond (eqb a 0 || eqb b 0) 0 (max a b))
      go a b = cases (ℕ_discrete a 0) (ℕ_discrete b 0) (dec_le a limit) (dec_le b limit)
        where
          none_left : cut limit a ≡ 0 → cond (eqb (cut limit a) 0 || eqb (cut limit b) 0) 0 (max (cut limit a) (cut limit b)) ≡ 0
          none_left z = simp (eq-eqb (cut limit a) 0 z)

          none_right : cut limit b ≡ 0 → cond (eqb (cut limit a) 0 || eqb (cut limit b) 0) 0 (max (cut limit a) (cut limit b)) ≡ 0
          none_right z = pick (eqb (cut limit a) 0)
            where
              pick : (t : Bool) → cond (t || eqb (cut limit b) 0) 0 (max (cut limit a) (cut limit b)) ≡ 0
              pick true = refl
              pick false = simp (eq-eqb (cut limit b) 0 z)

          larger : (a ≡ 0 → ⊥) → (b ≡ 0 → ⊥) → cut limit (max a b) ≡ cut limit (cond (eqb a 0 || eqb b 0) 0 (max a b))
          larger p q = simp (ne_eqb a 0 p, ne_eqb b 0 q)

          cases : Dec (a ≡ 0) → Dec (b ≡ 0) → Dec (a ≤ limit) → Dec (b ≤ limit)
              → cond (eqb (cut limit a) 0 || eqb (cut limit b) 0) 0 (max (cut limit a) (cut limit b)) ≡ cut limit (cond (eqb a 0 || eqb b 0) 0 (max a b))
          cases (yes z) q la lb = none_left (ap (cut limit) z ∙ cut-none limit) ∙ sym (cut-none limit) ∙ ap (cut limit) (simp (eq-eqb a 0 z))
          cases (no p) (yes z) la lb = none_right (ap (cut limit) z ∙ cut-none limit) ∙ sym (cut-none limit) ∙ ap (cut limit) (simp (ne_eqb a 0 p, eq-eqb b 0 z))
          cases (no p) (no q) (no la) lb = none_left (cut-past limit a (omega arith)) ∙ sym (cut-past limit (max a b) (omega arith)) ∙ larger p q
          cases (no p) (no q) (yes la) (no lb) = none_right (cut-past limit b (omega arith)) ∙ sym (cut-past limit (max a b) (omega arith)) ∙ larger p q
          cases (no p) (no q) (yes la) (yes lb) =
              simp (cut-kept limit a la, cut-kept limit b lb, ne_eqb a 0 p, ne_eqb b 0 q, cut-kept limit (max a b) (omega arith))

  -- a task that has no response time within its deadline has none within a longer limit, or one past the deadline
  pub late-cut : eqb (response_within limit s i) 0 ≡ is_late limit (response_within longer s i)
  late-cut = ap (λ (n : ℕ). eqb n 0) response-cut ∙ cut-late limit (response_within longer s i)
