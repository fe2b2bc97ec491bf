-- Lists joined place by place: their length, what stands at a place, and what stands in them. Assumes nothing.
use Prim.Native.Nat.{ℕ, zero, suc, ◌+◌, ◌*◌, ◌≤◌, ◌<◌}
use mathlib.Core.Path.{◌≡◌, refl, sym, ap, subst, ◌∙◌}
use mathlib.Core.Logic.{◌⊎◌, ⊎_elim}
use native.Mathlib.Nat.{eq-or-lt_of_le, le_of_suc-le-suc, not-suc-le-zero, mul-zero, mul-suc, mul-le-mul_left, le_of_eq}
use native.Mathlib.Omega.{arith}
use lib.ListN.{length, take, drop, length-append, length-drop}
use lib.Seq.{take_all, take-add, drop_at, drop-append-le, take-append-le}
use mathlib.Core.List.Memᴰ
use mathlib.Core.List.{List, [], ◌++◌, Memᴰ}
use Rattle.places.specs.Places.{joined_below}

-- so many values for each place
pub length-joined : {A : Type 0} (f : ℕ → List A) (w : ℕ) → ((k : ℕ) → length (f k) ≡ w) → (n : ℕ) → length (joined_below f n) ≡ w * n
unfolding joined_below
length-joined f w each zero = sym (mul-zero w)
length-joined f w each (suc n) =
    length-append (joined_below f n) (f n) ∙ ap (λ (k : ℕ). k + length (f n)) (length-joined f w each n) ∙ ap (λ (k : ℕ). w * n + k) (each n) ∙ sym (mul-suc w n)

-- runs of w elements of a list, one after the other, are the list's start
pub joined-runs : {A : Type 0} (w : ℕ) (l : List A) (n : ℕ) → joined_below (λ k. take w (drop (w * k) l)) n ≡ take (w * n) l
unfolding joined_below
joined-runs w l zero = ap (λ (k : ℕ). take k l) (sym (mul-zero w))
joined-runs w l (suc n) = ap (λ (r : List _). r ++ take w (drop (w * n) l)) (joined-runs w l n) ∙ sym (take-add (w * n) w l) ∙ ap (λ (k : ℕ). take k l) (sym (mul-suc w n))

-- each place of w values stands at its own run
pub run_at : {A : Type 0} (w : ℕ) (f : ℕ → List A) → ((k : ℕ) → length (f k) ≡ w) → (n k : ℕ) → k < n → take w (drop (w * k) (joined_below f n)) ≡ f k
unfolding joined_below
run_at w f each zero k h = absurd (not-suc-le-zero h)
run_at w f each (suc n) k h = go (run_at w f each n k) (eq-or-lt_of_le (le_of_suc-le-suc h))
  where
    whole : length (joined_below f n) ≡ w * n
    whole = length-joined f w each n

    last : k ≡ n → take w (drop (w * k) (joined_below f n ++ f n)) ≡ f k
    last e = rw e (ap (take w) (drop_at (joined_below f n) (f n) (w * n) whole) ∙ take_all w (f n) (le_of_eq (each n)))

    earlier : k < n → take w (drop (w * k) (joined_below f n)) ≡ f k → take w (drop (w * k) (joined_below f n ++ f n)) ≡ f k
    earlier lt before =
        let room : w * k + w ≤ length (joined_below f n) = subst (λ (m : ℕ). w * k + w ≤ m) (sym whole) (subst (λ (m : ℕ). m ≤ w * n) (mul-suc w k) (mul-le-mul_left w lt)) in
        ap (take w) (drop-append-le (w * k) (joined_below f n) (f n) (omega arith))
        ∙ take-append-le w (drop (w * k) (joined_below f n)) (f n) (simp length-drop (omega arith)) ∙ before

    go : (k < n → take w (drop (w * k) (joined_below f n)) ≡ f k) → (k ≡ n) ⊎ (k < n) → take w (drop (w * k) (joined_below f n ++ f n)) ≡ f k
    go before side = ⊎_elim last (λ lt. earlier lt (before lt)) side

-- nothing at each place is nothing
pub joined-none : {A : Type 0} (n : ℕ) → joined_below {A = A} (λ k. []) n ≡ []
unfolding joined_below
joined-none zero = refl
joined-none (suc n) = ap (λ (l : List _). l ++ []) (joined-none n)

-- what stands in lists joined place by place stands in one of them
pub joined-some : {A : Type 0} (a : A) (f : ℕ → List A) (n : ℕ) → Memᴰ a (joined_below f n) → (k : ℕ) × (k < n) × Memᴰ a (f k)
unfolding joined_below
joined-some a f zero m = absurd (Memᴰ.not-nil m)
joined-some a f (suc n) m = ⊎_elim (λ l. let s = joined-some a f n l in (s.0, omega arith, s.2)) (λ r. (n, omega arith, r)) (Memᴰ.append_cases (joined_below f n) m)

pub some-joined : {A : Type 0} (a : A) (f : ℕ → List A) (n k : ℕ) → k < n → Memᴰ a (f k) → Memᴰ a (joined_below f n)
unfolding joined_below
some-joined a f zero k below m = absurd (omega arith)
some-joined a f (suc n) k below m =
    ⊎_elim (λ same. Memᴰ.append_right (joined_below f n) (subst (λ (j : ℕ). Memᴰ a (f j)) same m)) (λ lt. Memᴰ.append_left (f n) (some-joined a f n k lt m)) (eq-or-lt_of_le (le_of_suc-le-suc below))
