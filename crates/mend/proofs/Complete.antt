-- Sheets whose header says how long they are and that have all those bytes: what is known of one, and how many bytes are kept of it. Assumes nothing.
use Prim.Native.Nat.{ℕ, ◌≤◌, ◌<◌}
use mathlib.Core.Path.{◌≡◌, refl, sym}
use mathlib.Core.Bool.{Bool, cond}
use mathlib.Core.List.{List}
use native.Mathlib.Omega.{arith}
use lib.ListN.{length}
use Rattle.places.proofs.Tells.{Tells, holds, fails, tells-iff, eqb_tells, leb_tells, and-tells}
use Rattle.sheet.specs.Layout.{count_of, edition_of, said_size}
use Rattle.sheet.specs.Rules.{size_refusal}
use Rattle.sheet.proofs.Cases.{within, outside-within, good-size, size-good}
use Rattle.mend.specs.Mended.{is_complete}
use Rattle.mend.specs.Steps.{kept_of}

-- a count from 1 to 8 and an edition that there is
abbrev pub Known : ℕ → ℕ → Type 0
Known count edition = ((1 ≤ count) × (count ≤ 8)) × (edition ≤ 1)

-- what is known of a complete sheet
pub record Complete (s : List ℕ) : Type 0 where
  pub long : 3 ≤ length s
  pub known : Known (count_of s) (edition_of s)
  pub fits : said_size s ≤ length s

pub complete-tells : (s : List ℕ) → Tells (Complete s) (is_complete s)
unfolding is_complete
complete-tells s = tells-iff here there (and-tells (eqb_tells (size_refusal s) 0) (leb_tells (said_size s) (length s)))
  where
    here : (size_refusal s ≡ 0) × (said_size s ≤ length s) → Complete s
    here h =
        let said = good-size s h.0 in
        record { long = said.long; known = (within (count_of s) 8 said.count, said.edition); fits = h.1 }

    there : Complete s → (size_refusal s ≡ 0) × (said_size s ≤ length s)
    there h = (sym (size-good s h.long (outside-within (count_of s) 8 h.known.0) h.known.1), h.fits)

-- a number that is the said size of a complete sheet and the length of any other is how many bytes are kept
kept-is : (s : List ℕ) (n : ℕ) → (Complete s → n ≡ said_size s) → ((Complete s → ⊥) → n ≡ length s) → n ≡ kept_of s
unfolding kept_of
kept-is s n if-complete if-not = go (complete-tells s)
  where
    go : {b : Bool} → Tells (Complete s) b → n ≡ cond b (said_size s) (length s)
    go (holds h) = if-complete h
    go (fails h) = if-not h

-- how many bytes are kept, as the code finds it from what the header says
module _ (s : List ℕ) where
  pub kept-unknown : (size_refusal s ≡ 0 → ⊥) → length s ≡ kept_of s
  kept-unknown broken = kept-is s (length s) (λ h. absurd (broken (sym (size-good s h.long (outside-within (count_of s) 8 h.known.0) h.known.1)))) (λ h. refl)

  pub kept-cut : size_refusal s ≡ 0 → said_size s < length s → said_size s ≡ kept_of s
  kept-cut good longer =
      let said = good-size s good in
      kept-is s (said_size s) (λ h. refl) (λ h. absurd (h (record { long = said.long; known = (within (count_of s) 8 said.count, said.edition); fits = omega arith })))

  pub kept_whole : length s ≤ said_size s → length s ≡ kept_of s
  kept_whole shorter = kept-is s (length s) (λ h. omega (arith, h.fits)) (λ h. refl)
