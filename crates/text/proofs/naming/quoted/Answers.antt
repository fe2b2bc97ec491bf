-- `text::naming::quoted` meets its contract: a fold over the name's first bytes. Assumes nothing.
use Rattle.std.proofs.Common.{rules, arith, ◌≡◌, ◌∙◌, min, take}
use Rattle.std.proofs.lemmas.Iterator.{YieldsList-from_slice}
use Rattle.std.proofs.lemmas.Iterator.Consumers.{fold_from_yields_List}
use Rattle.text.specs.Named.{with_letter, letters_below, quoted_name}
use Rattle.text.proofs.Inked.{letters_fold}
use Rattle.text.proofs.naming.quoted.Goals as goal

pub returns : goal.returns
unfolding quoted_name
returns c =
    let name = c.args.name in
    let count : c.min-count.result ≡ min name.length 32 = grind arith in
    let letters : c.fold-letters.result ≡ letters_below c.with_ink-open.result name.bytes c.min-count.result =
    fold_from_yields_List _ with_letter _ _ c.fold-letters.ensures.ran (YieldsList-from_slice (take c.min-count.result name.bytes) cc) (λ a x b q k. search rules) ∙ letters_fold c.with_ink-open.result name.bytes c.min-count.result (omega arith) in
    simp (← count, ← c.with_ink-open.ensures, ← letters) c.with_ink.ensures
