-- What `show_named` answers: refused by the table, without room, or shown. Assumes nothing.
use Prim.Native.Nat.{ℕ, ◌≤◌, ◌<◌}
use mathlib.Core.Path.{◌≡◌, sym, ◌∙◌}
use mathlib.Core.List.{List, ◌++◌}
use native.Mathlib.Omega.{arith}
use borrow.Author.Tests.{lt-ltb, le-ltb, ne_eqb}
use lib.ListN.{length, drop}
use Rattle.places.proofs.Refusals.{next-of, first_of}
use Rattle.cells.specs.declared.Name.{Name}
use Rattle.sheet.specs.declared.Table.{Table}
use Rattle.sheet.specs.Rules.{table_refusal}
use Rattle.text.specs.declared.Shown.{Shown}
use Rattle.text.specs.Named.{named_text, named_size, named_refusal, named_answer, named_leaves}

module _ (t : Table) (names : List Name) (out : List ℕ) where
  -- an answer beside what it leaves
  abbrev pub Answers : Shown → List ℕ → Type 0
  Answers shown left = (shown ≡ named_answer t out) × (left ≡ named_leaves t names out)

  answers-refused : (refusal : ℕ) → named_refusal t out ≡ refusal → (refusal ≡ 0 → ⊥) → Answers (record { refusal = refusal; size = 0 }) out
  unfolding named_answer named_leaves
  answers-refused refusal is broken = (simp (is, ne_eqb refusal 0 broken), simp (is, ne_eqb refusal 0 broken))

  -- the table's refusal
  pub named-refused : (refusal : ℕ) → refusal ≡ table_refusal t → (refusal ≡ 0 → ⊥) → Answers (record { refusal = refusal; size = 0 }) out
  unfolding named_refusal
  named-refused refusal e broken = answers-refused refusal (first_of _ _ (λ z. broken (e ∙ z)) ∙ sym e) broken

  module _ (good : table_refusal t ≡ 0) where
    -- 11
    pub named-short : length out < named_size t → Answers (record { refusal = 11; size = 0 }) out
    unfolding named_refusal
    named-short short = answers-refused 11 (next-of _ good ∙ simp (lt-ltb (length out) (named_size t) short)) (λ z. omega arith)

    -- the text
    pub named-fits : named_size t ≤ length out → Answers (record { refusal = 0; size = named_size t }) (named_text t names ++ drop (named_size t) out)
    unfolding named_answer named_leaves named_refusal
    named-fits fits =
        let is : named_refusal t out ≡ 0 = next-of _ good ∙ simp (le-ltb (length out) (named_size t) fits) in
        (simp is, simp is)
