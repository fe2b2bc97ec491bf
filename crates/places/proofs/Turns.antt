-- One more place: what each loop over the places keeps from one turn to the next, for every count, and what it knows after the last. Assumes nothing.
use Prim.Native.Nat.{ℕ, ◌+◌, ◌≤◌, max, min}
use mathlib.Core.Path.{◌≡◌, refl, sym, ap, ap₂, ◌∙◌}
use mathlib.Core.Bool.{Bool, false, cond, ◌||◌}
use mathlib.Core.List.{List, ◌++◌}
use native.Mathlib.Numerals.{add-one}
use native.Mathlib.Omega.{arith}
use lib.ListN.{set}
use Rattle.places.specs.Places.{some_below, one_if, count_below, sum_below, most_below, least_below, highest_below, joined_below, filled_below}

-- what each is with one place more
module _ (test : ℕ → Bool) where
  pub some_more : (n : ℕ) → some_below test (n + 1) ≡ (some_below test n || test n)
  unfolding some_below
  some_more n = rw add-one refl

  -- a test that holds at no place so far, and not at the next
  pub none_more : (n : ℕ) → some_below test n ≡ false → test n ≡ false → some_below test (n + 1) ≡ false
  none_more n before here = some_more n ∙ ap₂ ◌||◌ before here

  pub count-more : (n : ℕ) → count_below test (n + 1) ≡ count_below test n + one_if (test n)
  unfolding count_below
  count-more n = rw add-one refl

  pub highest-more : (n : ℕ) → highest_below test (n + 1) ≡ cond (test n) (n + 1) (highest_below test n)
  unfolding highest_below
  highest-more n = ap (highest_below test) (add-one n)

pub sum_more : (f : ℕ → ℕ) (n : ℕ) → sum_below f (n + 1) ≡ sum_below f n + f n
unfolding sum_below
sum_more f n = rw add-one refl

pub most-more : (f : ℕ → ℕ) (n : ℕ) → most_below f (n + 1) ≡ max (most_below f n) (f n)
unfolding most_below
most-more f n = rw add-one refl

pub joined-more : {A : Type 0} (lists : ℕ → List A) (n : ℕ) → joined_below lists (n + 1) ≡ joined_below lists n ++ lists n
unfolding joined_below
joined-more lists n = rw add-one refl

-- a list is filled one place further by one store
pub fill_more : {A : Type 0} (value : ℕ → A) (n : ℕ) (room : List A) → filled_below value (n + 1) room ≡ set (filled_below value n room) n (value n)
unfolding filled_below
fill_more value n room = rw add-one refl

-- a loop's turn: what is known so far and what the place has are what is known of one place more
module _ (test : ℕ → Bool) {place : ℕ} where
  -- looking for some
  pub some_turn : {found here : Bool} → found ≡ some_below test place → here ≡ test place → (found || here) ≡ some_below test (place + 1)
  some_turn before now = ap₂ ◌||◌ before now ∙ sym (some_more test place)

  -- counting
  pub count_turn : {count one : ℕ} {here : Bool} → count ≡ count_below test place → here ≡ test place → one ≡ one_if here → count + one ≡ count_below test (place + 1)
  count_turn before now value = ap₂ ◌+◌ before (value ∙ ap one_if now) ∙ sym (count-more test place)

  -- looking for the highest
  pub highest-turn : {highest : ℕ} {here : Bool} → highest ≡ highest_below test place → here ≡ test place → cond here (place + 1) highest ≡ highest_below test (place + 1)
  highest-turn before now = ap₂ (λ (b : Bool) (n : ℕ). cond b (place + 1) n) now before ∙ sym (highest-more test place)

  -- looking for the least
  pub least-turn : (none : ℕ) (f : ℕ → ℕ) {near here : ℕ} {counts : Bool} → near ≡ least_below none test f place → counts ≡ test place → here ≡ f place → cond counts (min here near) near ≡ least_below none test f (place + 1)
  unfolding least_below
  least-turn none f {here = here} before now value =
      rw add-one
      (ap₂ (λ (b : Bool) (n : ℕ). cond b (min here n) n) now before
      ∙ ap (λ (v : ℕ). cond (test place) (min v (least_below none test f place)) (least_below none test f place)) value)

-- summing
pub sum-turn : (f : ℕ → ℕ) {sum here place : ℕ} → sum ≡ sum_below f place → here ≡ f place → sum + here ≡ sum_below f (place + 1)
sum-turn f {place = place} before now = ap₂ ◌+◌ before now ∙ sym (sum_more f place)

-- filling
pub fill-turn : {A : Type 0} (value : ℕ → A) (room : List A) {filled : List A} {here : A} {place : ℕ} → filled ≡ filled_below value place room → here ≡ value place → set filled place here ≡ filled_below value (place + 1) room
fill-turn {A} value room {place = place} before now = ap₂ (λ (l : List A) (x : A). set l place x) before now ∙ sym (fill_more value place room)

-- after the last turn what is known of the place reached is known of the count
pub last_turn : {A : Type 0} (value : ℕ → A) {known : A} {place count : ℕ} → known ≡ value place → place ≤ count → count ≤ place → known ≡ value count
last_turn value e low high = e ∙ ap value (omega arith)
