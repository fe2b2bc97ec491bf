-- A list entry's four bytes spelled out, and the bytes of a list: two records in each byte, four bytes to each choice. Assumes nothing.
use Prim.Native.Nat.{ℕ, zero, suc, ◌+◌, ◌*◌, ◌<◌, ◌≤◌}
use mathlib.Core.Path.{◌≡◌, refl, sym, ap, ap₂, subst, ◌∙◌}
use mathlib.Core.List.{List, [], ◌∷◌, ◌++◌, append_assoc, append-nil}
use native.Mathlib.Nat.{zero-add, mul-zero, mul-suc, not-suc-le-zero, le_of_suc-le-suc}
use native.Mathlib.Numerals.{add-one}
use native.Mathlib.Omega.{arith}
use lib.ListN.{length, get_or, take, drop, replicate, length-append}
use lib.Seq.{sets, sets-eq, take_all, take-suc, take_at, drop_at, drop-drop}
use Rattle.sheet.specs.Packing.{regrouped}
use Rattle.sheet.proofs.Packing.{Fit, none, one, join_first}
use Rattle.sheet.proofs.Spelled.{spelled, spelled-take}
use Rattle.sheet.proofs.Stores.{length-regrouped}
use Rattle.choices.specs.Answers.{entry_bytes, bytes_of}

regrouped-none : regrouped [] [] [] ≡ []
unfolding regrouped
regrouped-none = refl

entry-fields : (f : ℕ → ℕ) → ((k : ℕ) → f k < 16)
    → regrouped (replicate 8 4) (replicate 4 8) (spelled 8 f) ≡ (f 0 * 16 + f 1) ∷ (f 2 * 16 + f 3) ∷ (f 4 * 16 + f 5) ∷ (f 6 * 16 + f 7) ∷ []
entry-fields f h =
    join_first 4 4 (f 0) (f 1) (replicate 3 8) from-2 refl
    ∙ ap (λ (r : List ℕ). (f 0 * 16 + f 1) ∷ r) (join_first 4 4 (f 2) (f 3) (replicate 2 8) from-4 refl
    ∙ ap (λ (r : List ℕ). (f 2 * 16 + f 3) ∷ r) (join_first 4 4 (f 4) (f 5) (replicate 1 8) from-6 refl
    ∙ ap (λ (r : List ℕ). (f 4 * 16 + f 5) ∷ r) (join_first 4 4 (f 6) (f 7) [] none refl
    ∙ ap (λ (r : List ℕ). (f 6 * 16 + f 7) ∷ r) regrouped-none)))
  where
    from-6 : Fit (4 ∷ 4 ∷ []) (f 6 ∷ f 7 ∷ [])
    from-6 = one (h 6) (one (h 7) none)

    from-4 : Fit (4 ∷ 4 ∷ 4 ∷ 4 ∷ []) (f 4 ∷ f 5 ∷ f 6 ∷ f 7 ∷ [])
    from-4 = one (h 4) (one (h 5) from-6)

    from-2 : Fit (4 ∷ 4 ∷ 4 ∷ 4 ∷ 4 ∷ 4 ∷ []) (f 2 ∷ f 3 ∷ f 4 ∷ f 5 ∷ f 6 ∷ f 7 ∷ [])
    from-2 = one (h 2) (one (h 3) from-4)

-- the four bytes that a choice is put as
pub entry-spelled : (choice : List ℕ) → length choice ≡ 8 → ((k : ℕ) → get_or choice k 0 < 16)
    → entry_bytes choice ≡ (get_or choice 0 0 * 16 + get_or choice 1 0) ∷ (get_or choice 2 0 * 16 + get_or choice 3 0) ∷ (get_or choice 4 0 * 16 + get_or choice 5 0) ∷ (get_or choice 6 0 * 16 + get_or choice 7 0) ∷ []
unfolding entry_bytes
entry-spelled choice e h = ap (regrouped (replicate 8 4) (replicate 4 8)) (sym (spelled-take 8 choice 0 (omega arith) ∙ take_all 8 choice (omega arith))) ∙ entry-fields (λ k. get_or choice k 0) h

-- the eight entries' bounds side by side
pub entries-small : (choice : List ℕ) → ((k : ℕ) → get_or choice k 0 < 16) → (get_or choice 0 0 < 16) × (get_or choice 1 0 < 16) × (get_or choice 2 0 < 16) × (get_or choice 3 0 < 16) × (get_or choice 4 0 < 16) × (get_or choice 5 0 < 16) × (get_or choice 6 0 < 16) × (get_or choice 7 0 < 16)
entries-small choice h = (h 0, h 1, h 2, h 3, h 4, h 5, h 6, h 7)

-- four bytes to each choice
pub length-entry : (choice : List ℕ) → length (entry_bytes choice) ≡ 4
unfolding entry_bytes
length-entry choice = length-regrouped _ (replicate 4 8) _

pub length-bytes : (l : List (List ℕ)) → length (bytes_of l) ≡ 4 * length l
unfolding bytes_of
length-bytes [] = sym (mul-zero 4)
length-bytes (choice ∷ l) =
    length-append (entry_bytes choice) (bytes_of l) ∙ ap (λ (n : ℕ). length (entry_bytes choice) + n) (length-bytes l) ∙ ap (λ (n : ℕ). n + 4 * length l) (length-entry choice) ∙ omega (arith, mul-suc 4 (length l))

-- one more choice, one more entry
pub bytes-join : (k l : List (List ℕ)) → bytes_of (k ++ l) ≡ bytes_of k ++ bytes_of l
unfolding bytes_of
bytes-join [] l = refl
bytes-join (choice ∷ k) l = ap (λ (r : List ℕ). entry_bytes choice ++ r) (bytes-join k l) ∙ sym (append_assoc (entry_bytes choice) (bytes_of k) (bytes_of l))

pub bytes-more : (l : List (List ℕ)) (n : ℕ) → n < length l → bytes_of (take (n + 1) l) ≡ bytes_of (take n l) ++ entry_bytes (get_or l n [])
unfolding bytes_of
bytes-more l n h = rw add-one (ap bytes_of (take-suc l n [] h) ∙ bytes-join (take n l) (get_or l n [] ∷ []) ∙ ap (λ (r : List ℕ). bytes_of (take n l) ++ r) (append-nil (entry_bytes (get_or l n []))))

-- the stores of all entries leave the list's bytes, and those after them as they were
pub list-stored : (l : List (List ℕ)) (out : List ℕ) → 4 * length l ≤ length out → sets out 0 (bytes_of l) ≡ bytes_of l ++ drop (4 * length l) out
list-stored l out long =
    let whole : 0 + length (bytes_of l) ≡ 4 * length l = zero-add (length (bytes_of l)) ∙ length-bytes l in
    sets-eq (bytes_of l) out 0 (subst (λ (n : ℕ). n ≤ length out) (sym whole) long) ∙ ap (λ (n : ℕ). bytes_of l ++ drop n out) whole

-- each choice's bytes stand at its own place
pub entry-at : (l : List (List ℕ)) (rest : List ℕ) (k : ℕ) → k < length l → take 4 (drop (4 * k) (bytes_of l ++ rest)) ≡ entry_bytes (get_or l k [])
unfolding bytes_of
entry-at [] rest k h = absurd (not-suc-le-zero h)
entry-at (c ∷ l) rest zero h = ap (take 4) (append_assoc (entry_bytes c) (bytes_of l) rest) ∙ take_at (entry_bytes c) (bytes_of l ++ rest) 4 (length-entry c)
entry-at (c ∷ l) rest (suc k) h =
    let further : 4 * suc k ≡ 4 + 4 * k = omega arith in
    ap (take 4)
    (ap₂ drop further (append_assoc (entry_bytes c) (bytes_of l) rest) ∙ sym (drop-drop (4 * k) 4 (entry_bytes c ++ (bytes_of l ++ rest)))
    ∙ ap (drop (4 * k)) (drop_at (entry_bytes c) (bytes_of l ++ rest) 4 (length-entry c)))
    ∙ entry-at l rest k (le_of_suc-le-suc h)
