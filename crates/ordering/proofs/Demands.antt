-- What is asked of sorted keys, in its own words: they ascend, each is there as often as before, and no other keys do and are. Assumes nothing.
use Prim.Native.Nat.{ℕ, zero, suc, ◌+◌, ◌≤◌, ◌<◌}
use mathlib.Core.Path.{◌≡◌, refl, sym, ap, ap₂, ◌∙◌}
use mathlib.Core.Bool.{Bool, true, false}
use mathlib.Core.List.{List, [], ◌∷◌}
use native.Mathlib.Decide.{dec_lt}
use native.Mathlib.Nat.{not-suc-le-zero}
use native.Mathlib.Omega.{arith}
use borrow.Author.Tests.{leb-true, leb-false, eq-eqb, ne_eqb}
use lib.Dec.{leb, eqb}
use lib.ListN.{length, get_or}
use Rattle.places.specs.Places.{one_if}
use Rattle.ordering.specs.Sorted.{put_into, sorted}
use Rattle.ordering.specs.Order.{Ascending, times_in}

-- no key of a list is smaller than the given one
abbrev FromOn : ℕ → List ℕ → Type 0
FromOn least keys = (k : ℕ) → k < length keys → least ≤ get_or keys k 0

-- keys ascend exactly if the first is not larger than the others, and these ascend
ascending-tail : (key : ℕ) (keys : List ℕ) → Ascending (length (key ∷ keys)) (key ∷ keys) → Ascending (length keys) keys
ascending-tail key keys rises j k less low = rises (suc j) (suc k) (omega arith) (omega arith)

ascending-first : (key : ℕ) (keys : List ℕ) → Ascending (length (key ∷ keys)) (key ∷ keys) → FromOn key keys
ascending-first key keys rises k low = rises 0 (suc k) (omega arith) (omega arith)

ascending-both : (key : ℕ) (keys : List ℕ) → FromOn key keys → Ascending (length keys) keys → Ascending (length (key ∷ keys)) (key ∷ keys)
ascending-both key keys first rises zero zero less low = absurd (not-suc-le-zero less)
ascending-both key keys first rises (suc j) zero less low = absurd (not-suc-le-zero less)
ascending-both key keys first rises zero (suc k) less low = first k (omega arith)
ascending-both key keys first rises (suc j) (suc k) less low = rises j k (omega arith) (omega arith)

from-on-both : (least key : ℕ) (keys : List ℕ) → least ≤ key → FromOn least keys → FromOn least (key ∷ keys)
from-on-both least key keys first rest zero low = first
from-on-both least key keys first rest (suc k) low = rest k (omega arith)

-- a key that is put in keeps both
put-from-on : (least key : ℕ) (keys : List ℕ) → least ≤ key → FromOn least keys → FromOn least (put_into keys key)
unfolding put_into
put-from-on least key [] small rest = from-on-both least key [] small rest
put-from-on least key (next ∷ keys) small rest = go (leb key next) refl (put-from-on least key keys small (λ k low. rest (suc k) (omega arith)))
  where
    go : (low : Bool) → leb key next ≡ low → FromOn least (put_into keys key) → FromOn least (put_into (next ∷ keys) key)
    go true e further = rw e (from-on-both least key (next ∷ keys) small rest)
    go false e further = rw e (from-on-both least next (put_into keys key) (rest 0 (omega arith)) further)

put-ascends : (key : ℕ) (keys : List ℕ) → Ascending (length keys) keys → Ascending (length (put_into keys key)) (put_into keys key)
unfolding put_into
put-ascends key [] rises = ascending-both key [] (λ k low. absurd (not-suc-le-zero low)) rises
put-ascends key (next ∷ keys) rises = go (leb key next) refl (put-ascends key keys (ascending-tail next keys rises))
  where
    first : FromOn next keys
    first = ascending-first next keys rises

    go : (low : Bool) → leb key next ≡ low → Ascending (length (put_into keys key)) (put_into keys key) → Ascending (length (put_into (next ∷ keys) key)) (put_into (next ∷ keys) key)
    go true e further = rw e (ascending-both key (next ∷ keys) (from-on-both key next keys (leb-true key next e) (λ k low. omega (arith, first k low, leb-true key next e))) rises)
    go false e further = rw e (ascending-both next (put_into keys key) (put-from-on next key keys (omega (arith, leb-false key next e)) first) further)

-- "ascending"
pub sorted-ascends : (keys : List ℕ) → Ascending (length (sorted keys)) (sorted keys)
unfolding sorted
sorted-ascends [] = λ j k less low. absurd (not-suc-le-zero low)
sorted-ascends (key ∷ rest) = put-ascends key (sorted rest) (sorted-ascends rest)

put-as-often : (asked key : ℕ) (keys : List ℕ) → times_in (put_into keys key) asked ≡ one_if (eqb asked key) + times_in keys asked
unfolding put_into times_in
put-as-often asked key [] = refl
put-as-often asked key (next ∷ keys) = go (leb key next) refl (put-as-often asked key keys)
  where
    go : (low : Bool) → leb key next ≡ low → times_in (put_into keys key) asked ≡ one_if (eqb asked key) + times_in keys asked → times_in (put_into (next ∷ keys) key) asked ≡ one_if (eqb asked key) + (one_if (eqb asked next) + times_in keys asked)
    go true e further = simp e
    go false e further = rw e (omega (arith, further))

-- "each value there as often as before"
pub sorted-as-often : (keys : List ℕ) (asked : ℕ) → times_in (sorted keys) asked ≡ times_in keys asked
unfolding sorted times_in
sorted-as-often [] asked = refl
sorted-as-often (key ∷ rest) asked = put-as-often asked key (sorted rest) ∙ ap (λ (n : ℕ). one_if (eqb asked key) + n) (sorted-as-often rest asked)

-- a key is there at least once where it comes first, and not at all where all are larger
first-there : (key : ℕ) (keys : List ℕ) → times_in (key ∷ keys) key ≡ suc (times_in keys key)
unfolding times_in one_if
first-there key keys = simp (eq-eqb key key refl) (omega arith)

not_there : (key least : ℕ) (keys : List ℕ) → key < least → FromOn least keys → times_in keys key ≡ 0
unfolding times_in one_if
not_there key least [] less all = refl
not_there key least (next ∷ keys) less all = simp (ne_eqb key next (λ e. omega (arith, all 0 (omega arith))), not_there key least keys less (λ k low. all (suc k) (omega arith)))

-- ascending keys that hold the same keys as often are the same
ascending-same : (these those : List ℕ) → Ascending (length these) these → Ascending (length those) those → ((asked : ℕ) → times_in these asked ≡ times_in those asked) → these ≡ those
unfolding times_in
ascending-same [] [] up rising often = refl
ascending-same [] (y ∷ ys) up rising often = absurd (omega (arith, often y, first-there y ys))
ascending-same (x ∷ xs) [] up rising often = absurd (omega (arith, often x, first-there x xs))
ascending-same (x ∷ xs) (y ∷ ys) up rising often = ap₂ (λ (k : ℕ) (l : List ℕ). k ∷ l) first (ascending-same xs ys (ascending-tail x xs up) (ascending-tail y ys rising) further)
  where
    from : (key : ℕ) (keys : List ℕ) → Ascending (length (key ∷ keys)) (key ∷ keys) → FromOn key (key ∷ keys)
    from key keys rises = from-on-both key key keys (omega arith) (ascending-first key keys rises)

    no-smaller : Dec (x < y) → Dec (y < x) → x ≡ y
    no-smaller (yes less) w = absurd (omega (arith, often x, first-there x xs, not_there x y (y ∷ ys) less (from y ys rising)))
    no-smaller (no not-less) (yes more) = absurd (omega (arith, often y, first-there y ys, not_there y x (x ∷ xs) more (from x xs up)))
    no-smaller (no not-less) (no not_more) = omega arith

    first : x ≡ y
    first = no-smaller (dec_lt x y) (dec_lt y x)

    further : (asked : ℕ) → times_in xs asked ≡ times_in ys asked
    further asked = omega (arith, often asked, ap (λ (k : ℕ). one_if (eqb asked k)) first)

-- so whatever ascends and holds each key as often is what sorting gives
pub sorted-only : (keys other : List ℕ) → Ascending (length other) other → ((asked : ℕ) → times_in other asked ≡ times_in keys asked) → other ≡ sorted keys
sorted-only keys other rises often = ascending-same other (sorted keys) rises (sorted-ascends keys) (λ asked. often asked ∙ sym (sorted-as-often keys asked))

-- and where each key stood plays no part
pub order-no-part : (these those : List ℕ) → ((asked : ℕ) → times_in these asked ≡ times_in those asked) → sorted these ≡ sorted those
order-no-part these those often = sorted-only those (sorted these) (sorted-ascends these) (λ asked. sorted-as-often these asked ∙ often asked)
