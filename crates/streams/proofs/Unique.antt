-- Each promise of streams, as its contract is read, leaves one answer: any two that it admits are equal. Assumes nothing.
use Prim.Native.Nat.{ℕ, zero, suc}
use mathlib.Core.Path.{◌≡◌, refl, sym, ap, ◌∙◌}
use mathlib.Core.Bool.{Bool}
use contract.Lifetimes.{Lfts}
use Rattle.streams.specs.declared.words.Asked.{Asked}
use Rattle.streams.specs.declared.endings.Ending.{Ending}
use Rattle.streams.specs.declared.endings.Ending.TheVariants.{Holds, Fails, Trouble, Unread}
use Rattle.streams.specs.Endings.{status_of}
use Rattle.streams.proofs.input.is_standard.Reads as standard
use Rattle.streams.proofs.parts.part.Reads as part
use Rattle.streams.proofs.endings.first.Reads as first
use Rattle.streams.proofs.endings.of.Reads as ended
use Rattle.streams.proofs.words.at.Reads as word

pub is-standard-unique : (κs : Lfts 1) (args : _) (a b : Bool) (s u : _) → standard.Learnt κs args a s → standard.Learnt κs args b u → a ≡ b
is-standard-unique κs args a b s u p q = p ∙ sym q

pub part-unique : (κs : Lfts 1) (args : _) (a b : ℕ) (s u : _) → part.Learnt κs args a s → part.Learnt κs args b u → a ≡ b
part-unique κs args a b s u p q = p.1 ∙ sym q.1

pub first-unique : (word a b : ℕ) → first.Learnt tt (word, tt) a (word, tt) → first.Learnt tt (word, tt) b (word, tt) → a ≡ b
first-unique word a b p q = p ∙ sym q

-- the ending of a status
ending_of : ℕ → Ending
ending_of zero = Holds
ending_of (suc zero) = Fails
ending_of (suc (suc zero)) = Trouble
ending_of (suc (suc (suc rest))) = Unread

told_back : (a : Ending) → ending_of (status_of a) ≡ a
unfolding ending_of
told_back Holds = refl
told_back Fails = refl
told_back Trouble = refl
told_back Unread = refl

pub of-unique : (holds : Bool) (a b : Ending) → ended.Learnt tt (holds, tt) a (holds, tt) → ended.Learnt tt (holds, tt) b (holds, tt) → a ≡ b
of-unique holds a b p q = sym (told_back a) ∙ ap ending_of (p ∙ sym q) ∙ told_back b

pub at-unique : (asked : Asked) (which a b : ℕ) → word.Learnt tt (asked, (which, tt)) a (asked, (which, tt)) → word.Learnt tt (asked, (which, tt)) b (asked, (which, tt)) → a ≡ b
at-unique asked which a b p q = p ∙ sym q
