-- The demands on a text's lines in the request's words. Assumes nothing.
use Prim.Native.Nat.{ℕ, zero, suc, ◌-◌}
use mathlib.Core.Path.{◌≡◌, refl, sym, ap, ◌∙◌}
use mathlib.Core.Bool.{Bool, true, false, cond, ◌||◌}
use mathlib.Core.List.{List, [], ◌∷◌, ◌++◌}
use native.Mathlib.Omega.{arith}
use borrow.Author.Tests.{eqb-true, eqb-false}
use lib.Dec.{eqb, ltb}
use lib.ListN.{set}
use lib.Seq.{set_comm}
use Rattle.places.specs.Places.{joined_below}
use Rattle.places.proofs.Tells.{neither}
use Rattle.cells.specs.Numbers.{number_of}
use Rattle.cells.specs.Names.{name_of}
use Rattle.lines.specs.declared.Task.{Task}
use Rattle.lines.specs.Tasks.{numbered}
use Rattle.lines.specs.Told.{told, told_below, fields_below, Reordered, same, swapped, under, onward}

-- two numbers of different columns
numbered-swap : (task : Task) (a b x y : ℕ) → (a ≡ b → ⊥) → numbered (numbered task a x) b y ≡ numbered (numbered task b y) a x
unfolding numbered
numbered-swap task a b x y apart = go (eqb a 0 || ltb 6 a) refl (eqb b 0 || ltb 6 b) refl
  where
    with-number : Task → ℕ → ℕ → Task
    with-number t column value = record { line = t.line; numbers = set t.numbers (column - 1) value; name = t.name }

    different : (a ≡ 0 → ⊥) → (b ≡ 0 → ⊥) → a - 1 ≡ b - 1 → ⊥
    different some other is = apart (omega arith)

    go : (p : Bool) → (eqb a 0 || ltb 6 a) ≡ p → (q : Bool) → (eqb b 0 || ltb 6 b) ≡ q
        → cond q (cond p task (with-number task a x)) (with-number (cond p task (with-number task a x)) b y) ≡ cond p (cond q task (with-number task b y)) (with-number (cond q task (with-number task b y)) a x)
    go true e true f = refl
    go true e false f = refl
    go false e true f = refl
    go false e false f =
        let some = eqb-false a 0 (neither (eqb a 0) (ltb 6 a) e).0 in
        let other = eqb-false b 0 (neither (eqb b 0) (ltb 6 b) f).0 in
        ap (λ (l : List ℕ). record { line = task.line; numbers = l; name = task.name }) (set_comm task.numbers (a - 1) (b - 1) x y (λ is. different some other is))

-- a task with another name
with_name : Task → List ℕ → Task
with_name task cell = record { line = task.line; numbers = task.numbers; name = (name_of cell).name }

named-swap : (task : Task) (cell : List ℕ) (column value : ℕ) → numbered (with_name task cell) column value ≡ with_name (numbered task column value) cell
unfolding numbered with_name
named-swap task cell column value = go (eqb column 0 || ltb 6 column)
  where
    go : (b : Bool)
        → cond b (with_name task cell) (record { line = task.line; numbers = set task.numbers (column - 1) value; name = (name_of cell).name })
        ≡ with_name (cond b task (record { line = task.line; numbers = set task.numbers (column - 1) value; name = task.name })) cell
    go true = refl
    go false = refl

-- two cells of different columns
told-swap : (task : Task) (a b : ℕ) (v w : List ℕ) → (a ≡ b → ⊥) → told (told task a v) b w ≡ told (told task b w) a v
unfolding told with_name
told-swap task a b v w apart = go (eqb a 7) refl (eqb b 7) refl
  where
    go : (p : Bool) → eqb a 7 ≡ p → (q : Bool) → eqb b 7 ≡ q
        → cond q (with_name (cond p (with_name task v) (numbered task a (number_of v).value)) w) (numbered (cond p (with_name task v) (numbered task a (number_of v).value)) b (number_of w).value)
        ≡ cond p (with_name (cond q (with_name task w) (numbered task b (number_of w).value)) v) (numbered (cond q (with_name task w) (numbered task b (number_of w).value)) a (number_of v).value)
    go true e true f = absurd (apart (eqb-true a 7 e ∙ sym (eqb-true b 7 f)))
    go true e false f = named-swap task v b (number_of w).value
    go false e true f = sym (named-swap task w a (number_of v).value)
    go false e false f = numbered-swap task a b (number_of v).value (number_of w).value apart

-- the task that a line's fields tell, one after the other
told_all : Task → List (ℕ × List ℕ) → Task
told_all task [] = task
told_all task (field ∷ fields) = told_all (told task field.0 field.1) fields

all-joined : (task : Task) (a b : List (ℕ × List ℕ)) → told_all task (a ++ b) ≡ told_all (told_all task a) b
unfolding told_all
all-joined task [] b = refl
all-joined task (field ∷ a) b = all-joined (told task field.0 field.1) a b

all-below : (task : Task) (column : ℕ → ℕ) (cell : ℕ → List ℕ) (n : ℕ) → told_below task column cell n ≡ told_all task (fields_below column cell n)
unfolding told_below told_all fields_below joined_below
all-below task column cell zero = refl
all-below task column cell (suc n) = ap (λ (t : Task). told t (column n) (cell n)) (all-below task column cell n) ∙ sym (all-joined task (joined_below (λ place. (column place, cell place) ∷ []) n) ((column n, cell n) ∷ []))

all-reordered : {a b : List (ℕ × List ℕ)} → Reordered a b → (task : Task) → told_all task a ≡ told_all task b
unfolding told_all
all-reordered (same fields) task = refl
all-reordered (swapped a b fields apart) task = ap (λ (t : Task). told_all t fields) (told-swap task a.0 b.0 a.1 b.1 apart)
all-reordered (under field r) task = all-reordered r (told task field.0 field.1)
all-reordered (onward r s) task = all-reordered r task ∙ all-reordered s task

-- "a header only reorders": cells that stand in another order under columns in that order tell the same task
pub columns-permuted : (task : Task) (column moved : ℕ → ℕ) (cell other : ℕ → List ℕ) (n m : ℕ) → Reordered (fields_below column cell n) (fields_below moved other m) → told_below task column cell n ≡ told_below task moved other m
columns-permuted task column moved cell other n m r = all-below task column cell n ∙ all-reordered r task ∙ sym (all-below task moved other m)
