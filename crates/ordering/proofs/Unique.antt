-- The public call's contract leaves one content of the lent keys: any two that its own reading admits are equal. Assumes nothing.
use mathlib.Core.Path.{◌≡◌, sym, ◌∙◌}
use contract.Lifetimes.{Lfts}
use Rattle.ordering.proofs.sort.Reads as sorted-keys

pub sort-unique : (κs : Lfts 1) (args a b s u : _) → sorted-keys.Learnt κs args a s → sorted-keys.Learnt κs args b u → s.0.now ≡ u.0.now
sort-unique κs args a b s u one other = one ∙ sym other
