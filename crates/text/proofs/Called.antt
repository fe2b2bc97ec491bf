-- A name in quotes: what is put, and what is read again from it. Assumes nothing.
use Prim.Native.Nat.{ℕ, zero, suc, ◌+◌, ◌-◌, ◌*◌, ◌≤◌, ◌<◌, min}
use mathlib.Core.Path.{◌≡◌, refl, sym, ap, ap₂, ◌∙◌, subst}
use mathlib.Core.Bool.{Bool, true, false, cond}
use mathlib.Core.List.{List, [], ◌∷◌, ◌++◌, append_assoc, append-nil}
use native.Mathlib.Nat.{suc-ne-zero}
use native.Mathlib.Decide.{dec_lt}
use native.Mathlib.Omega.{arith}
use borrow.Author.Tests.{lt-ltb, le-ltb, ne_eqb, eqb-true}
use lib.Dec.{eqb}
use lib.ListN.{length, get_or, take, set, replicate, length-append, length-replicate}
use lib.Seq.{set_at, get_or_at, take_at, take-suc, length-take-le}
use Rattle.cells.specs.declared.Name.{Name}
use Rattle.cells.specs.declared.Spelling.{Spelling}
use Rattle.cells.specs.Kinds.{is_control}
use Rattle.cells.specs.Numbers.{paired, is_quoted, between, is_closed, quotes_refusal, content_of}
use Rattle.cells.specs.Names.{no_name, no_spelling, misspelt, spelled_with, spelled_quote, spelled_after, spelled_from, named_by, name_of}
use Rattle.cells.proofs.Words.{All, none, one, all-joined}
use Rattle.text.specs.declared.Quote.{Quote}
use Rattle.text.specs.Named.{no_quote, with_ink, with_letter, letters_below, quoted_name}

-- each quote twice
unfoldable pub doubled : List ℕ → List ℕ
doubled [] = []
doubled (byte ∷ bytes) = cond (eqb byte 34) (34 ∷ 34 ∷ doubled bytes) (byte ∷ doubled bytes)

-- what is put so far, and blanks after it
record Inked (quote : Quote) (put : List ℕ) : Type 0 where
  at : quote.at ≡ length put
  bytes : quote.bytes ≡ put ++ replicate (66 - length put) 32

inked-more : (quote : Quote) (put : List ℕ) (byte : ℕ) → Inked quote put → length put < 66 → Inked (with_ink quote byte) (put ++ (byte ∷ []))
unfolding with_ink
inked-more quote put byte inked room =
    let left : 66 - length put ≡ suc (66 - (length put + 1)) = omega arith in
    let long : length (put ++ (byte ∷ [])) ≡ length put + 1 = length-append put (byte ∷ []) in
    simp (lt-ltb quote.at 66 (omega (arith, inked.at)))
    (record {
      at = ap (λ (n : ℕ). n + 1) inked.at ∙ sym long;
      bytes =
          ap₂ (λ (l : List ℕ) (n : ℕ). set l n byte) (inked.bytes ∙ ap (λ (n : ℕ). put ++ replicate n 32) left) inked.at
          ∙ set_at put 32 (replicate (66 - (length put + 1)) 32) byte (length put) refl
          ∙ sym (append_assoc put (byte ∷ []) (replicate (66 - length (put ++ (byte ∷ []))) 32) ∙ ap (λ (n : ℕ). put ++ (byte ∷ replicate (66 - n) 32)) long);
    })

length-doubled : (bytes : List ℕ) → length (doubled bytes) ≤ 2 * length bytes
unfolding doubled
length-doubled [] = omega arith
length-doubled (byte ∷ bytes) = go (eqb byte 34) (length-doubled bytes)
  where
    go : (is : Bool) → length (doubled bytes) ≤ 2 * length bytes → length (cond is (34 ∷ 34 ∷ doubled bytes) (byte ∷ doubled bytes)) ≤ 2 * suc (length bytes)
    go true h = omega arith
    go false h = omega arith

doubled-joined : (a b : List ℕ) → doubled (a ++ b) ≡ doubled a ++ doubled b
unfolding doubled
doubled-joined [] b = refl
doubled-joined (byte ∷ a) b = ap (λ (l : List ℕ). cond (eqb byte 34) (34 ∷ 34 ∷ l) (byte ∷ l)) (doubled-joined a b) ∙ go (eqb byte 34)
  where
    go : (is : Bool) → cond is (34 ∷ 34 ∷ (doubled a ++ doubled b)) (byte ∷ (doubled a ++ doubled b)) ≡ cond is (34 ∷ 34 ∷ doubled a) (byte ∷ doubled a) ++ doubled b
    go true = refl
    go false = refl

letter-inked : (quote : Quote) (put : List ℕ) (byte : ℕ) → Inked quote put → length put + 2 ≤ 66 → Inked (with_letter quote byte) (put ++ doubled (byte ∷ []))
unfolding with_letter doubled
letter-inked quote put byte inked room = go (eqb byte 34) refl
  where
    go : (is : Bool) → eqb byte 34 ≡ is → Inked (cond is (with_ink (with_ink quote 34) 34) (with_ink quote byte)) (put ++ cond is (34 ∷ 34 ∷ []) (byte ∷ []))
    go true e =
        subst (Inked (with_ink (with_ink quote 34) 34)) (append_assoc put (34 ∷ []) (34 ∷ []))
        (inked-more (with_ink quote 34) (put ++ (34 ∷ [])) 34 (inked-more quote put 34 inked (omega arith)) (omega (arith, length-append put (34 ∷ []))))
    go false e = inked-more quote put byte inked (omega arith)

letters-inked : (bytes : List ℕ) (n : ℕ) → n ≤ 32 → n ≤ length bytes → Inked (letters_below (with_ink no_quote 34) bytes n) (34 ∷ doubled (take n bytes))
unfolding letters_below doubled
letters-inked bytes zero most fits = inked-more no_quote [] 34 (record { at = refl; bytes = refl }) (omega arith)
letters-inked bytes (suc n) most fits =
    let before = letters-inked bytes n (omega arith) (omega arith) in
    let so_far = take n bytes in
    let here = get_or bytes n 0 in
    let long = length-doubled so_far in
    subst (Inked (with_letter (letters_below (with_ink no_quote 34) bytes n) here))
    (ap (λ (l : List ℕ). 34 ∷ l) (sym (doubled-joined so_far (here ∷ [])) ∙ ap doubled (sym (take-suc bytes n 0 (omega arith)))))
    (letter-inked (letters_below (with_ink no_quote 34) bytes n) (34 ∷ doubled so_far) here before (omega (arith, long, length-take-le n bytes (omega arith))))

-- a name is put in quotes, each of its own quotes twice, and blanks follow
pub name-put : (name : Name) → name.length ≤ 32 → length name.bytes ≡ 32
    → let word = 34 ∷ doubled (take name.length name.bytes) ++ (34 ∷ []) in (quoted_name name).bytes ≡ word ++ replicate (66 - length word) 32
unfolding quoted_name
name-put name few long =
    let count : min name.length 32 ≡ name.length = omega arith in
    let letters = take name.length name.bytes in
    let before = letters-inked name.bytes name.length few (omega arith) in
    rw count (inked-more (letters_below (with_ink no_quote 34) name.bytes name.length) (34 ∷ doubled letters) 34 before (omega (arith, length-doubled letters, length-take-le name.length name.bytes (omega arith)))).bytes

-- what stands between the quotes has each of its quotes twice
doubled-paired : (bytes : List ℕ) → paired false (doubled bytes) ≡ true
unfolding paired doubled
doubled-paired [] = refl
doubled-paired (byte ∷ bytes) = go (eqb byte 34) refl (doubled-paired bytes)
  where
    go : (is : Bool) → eqb byte 34 ≡ is → paired false (doubled bytes) ≡ true → paired false (cond is (34 ∷ 34 ∷ doubled bytes) (byte ∷ doubled bytes)) ≡ true
    go true e rest = rest
    go false e rest = simp e rest

-- a word in quotes
module _ (inside : List ℕ) where
  abbrev in_quotes : List ℕ
  in_quotes = 34 ∷ inside ++ (34 ∷ [])

  quotes-long : length in_quotes ≡ length inside + 2
  quotes-long = omega (arith, length-append inside (34 ∷ []))

  quotes-between : between in_quotes ≡ inside
  unfolding between
  quotes-between =
      let size : length in_quotes - 1 - 1 ≡ length inside = omega (arith, quotes-long) in
      rw size (take_at inside (34 ∷ []) (length inside) refl)

  quotes-last : get_or in_quotes (length in_quotes - 1) 0 ≡ 34
  quotes-last =
      let last : length in_quotes - 1 ≡ suc (length inside) = omega (arith, quotes-long) in
      rw last (get_or_at inside 34 [] 0 (length inside) refl)

  quotes-closed : paired false inside ≡ true → quotes_refusal in_quotes ≡ 0
  unfolding quotes_refusal is_quoted is_closed
  quotes-closed fine = simp (le-ltb (length in_quotes) 2 (omega (arith, quotes-long)), quotes-last, quotes-between, fine)

  quotes-content : content_of in_quotes ≡ inside
  unfolding content_of is_quoted
  quotes-content = simp (le-ltb (length in_quotes) 2 (omega (arith, quotes-long))) quotes-between

-- the name of some bytes
abbrev name_from : List ℕ → Name
name_from bytes = record { length = length bytes; bytes = bytes ++ replicate (32 - length bytes) 0 }

abbrev spelling_of : Bool → List ℕ → Spelling
spelling_of odd bytes = record { refusal = 0; odd = odd; name = name_from bytes }

-- one byte more
spelled-more : (odd next : Bool) (bytes : List ℕ) (byte : ℕ) → length bytes < 32 → spelled_with (spelling_of odd bytes) next byte ≡ spelling_of next (bytes ++ (byte ∷ []))
unfolding spelled_with
spelled-more odd next bytes byte room =
    let left : 32 - length bytes ≡ suc (32 - (length bytes + 1)) = omega arith in
    let long : length (bytes ++ (byte ∷ [])) ≡ length bytes + 1 = length-append bytes (byte ∷ []) in
    simp (lt-ltb (length bytes) 32 room)
    (ap₂ (λ (n : ℕ) (l : List ℕ). record { refusal = 0; odd = next; name = record { length = n; bytes = l } }) (sym long)
    (ap (λ (n : ℕ). set (bytes ++ replicate n 0) (length bytes) byte) left ∙ set_at bytes 0 (replicate (32 - (length bytes + 1)) 0) byte (length bytes) refl
    ∙ sym (append_assoc bytes (byte ∷ []) (replicate (32 - length (bytes ++ (byte ∷ []))) 0) ∙ ap (λ (n : ℕ). bytes ++ (byte ∷ replicate (32 - n) 0)) long)))

quote-spelled : (bytes rest : List ℕ) → length bytes < 32 → spelled_from true (spelling_of false bytes) (34 ∷ 34 ∷ rest) ≡ spelled_from true (spelling_of false (bytes ++ (34 ∷ []))) rest
unfolding spelled_from spelled_after spelled_quote
quote-spelled bytes rest room = ap (λ (s : Spelling). spelled_from true (spelled_after true s 34) rest) (spelled-more false true bytes 34 room)

byte-spelled : (bytes rest : List ℕ) (byte : ℕ) → eqb byte 34 ≡ false → is_control byte ≡ false → length bytes < 32 → spelled_from true (spelling_of false bytes) (byte ∷ rest) ≡ spelled_from true (spelling_of false (bytes ++ (byte ∷ []))) rest
unfolding spelled_from spelled_after
byte-spelled bytes rest byte e plain room = simp (e, plain) (ap (λ (s : Spelling). spelled_from true s rest) (spelled-more false false bytes byte room))

-- all of them, each quote twice
doubled-spelled : {bytes : List ℕ} → All (λ byte. is_control byte ≡ false) bytes → (before : List ℕ) → length before + length bytes ≤ 32 → spelled_from true (spelling_of false before) (doubled bytes) ≡ spelling_of false (before ++ bytes)
unfolding spelled_from doubled
doubled-spelled none before fits = ap (spelling_of false) (sym (append-nil before))
doubled-spelled (one {byte = byte} {bytes = bytes} plain rest) before fits = go (eqb byte 34) refl (doubled-spelled rest (before ++ (byte ∷ [])) (omega (arith, length-append before (byte ∷ []))))
  where
    go : (is : Bool) → eqb byte 34 ≡ is → spelled_from true (spelling_of false (before ++ (byte ∷ []))) (doubled bytes) ≡ spelling_of false ((before ++ (byte ∷ [])) ++ bytes)
        → spelled_from true (spelling_of false before) (cond is (34 ∷ 34 ∷ doubled bytes) (byte ∷ doubled bytes)) ≡ spelling_of false (before ++ (byte ∷ bytes))
    go true e after =
        quote-spelled before (doubled bytes) (omega arith) ∙ ap (λ (b : ℕ). spelled_from true (spelling_of false (before ++ (b ∷ []))) (doubled bytes)) (sym (eqb-true byte 34 e)) ∙ after
        ∙ ap (spelling_of false) (append_assoc before (byte ∷ []) bytes)
    go false e after = byte-spelled before (doubled bytes) byte e plain (omega arith) ∙ after ∙ ap (spelling_of false) (append_assoc before (byte ∷ []) bytes)

-- a name as it is read: at most 32 bytes, none of them a control character, zeros after them
pub record Proper (name : Name) : Type 0 where
  pub few : name.length ≤ 32
  pub long : length name.bytes ≡ 32
  pub plain : All (λ byte. is_control byte ≡ false) (take name.length name.bytes)
  pub zeros : name.bytes ≡ take name.length name.bytes ++ replicate (32 - name.length) 0

-- the names that `name_of` gives are such names
from-proper : {bytes : List ℕ} → length bytes ≤ 32 → All (λ byte. is_control byte ≡ false) bytes → Proper (name_from bytes)
from-proper {bytes} few plain =
    let letters : take (length bytes) (bytes ++ replicate (32 - length bytes) 0) ≡ bytes = take_at bytes (replicate (32 - length bytes) 0) (length bytes) refl in
    record {
      few = few;
      long = length-append bytes (replicate (32 - length bytes) 0) ∙ ap (λ (n : ℕ). length bytes + n) (length-replicate (32 - length bytes) 0) ∙ omega arith;
      plain = subst (All (λ byte. is_control byte ≡ false)) (sym letters) plain;
      zeros = ap (λ (l : List ℕ). l ++ replicate (32 - length bytes) 0) (sym letters);
    }

data Spelled : Spelling → Type 0 where
  good : (odd : Bool) (bytes : List ℕ) → length bytes ≤ 32 → All (λ byte. is_control byte ≡ false) bytes → Spelled (spelling_of odd bytes)
  bad : (spelling : Spelling) → (spelling.refusal ≡ 0 → ⊥) → Spelled spelling

with-spelled : (odd next : Bool) (bytes : List ℕ) (byte : ℕ) → length bytes ≤ 32 → All (λ byte. is_control byte ≡ false) bytes → is_control byte ≡ false → Spelled (spelled_with (spelling_of odd bytes) next byte)
unfolding spelled_with misspelt
with-spelled odd next bytes byte few all plain = go (dec_lt (length bytes) 32)
  where
    go : Dec (length bytes < 32) → Spelled (spelled_with (spelling_of odd bytes) next byte)
    go (yes room) = subst Spelled (sym (spelled-more odd next bytes byte room)) (good next (bytes ++ (byte ∷ [])) (omega (arith, length-append bytes (byte ∷ []))) (all-joined all (one plain none)))
    go (no full) = simp (le-ltb (length bytes) 32 (omega arith)) (bad (record { refusal = 41; odd = false; name = no_name }) (suc-ne-zero 40))

after-spelled : (quoted : Bool) (byte : ℕ) {spelling : Spelling} → Spelled spelling → Spelled (spelled_after quoted spelling byte)
unfolding spelled_after spelled_quote misspelt is_control
after-spelled quoted byte (bad spelling broken) = simp (ne_eqb spelling.refusal 0 broken) (bad spelling broken)
after-spelled quoted byte (good odd bytes few all) = go (eqb byte 34) (is_control byte) refl
  where
    quote : (quoted odd : Bool) → Spelled (spelled_quote quoted (spelling_of odd bytes))
    quote true true = good false bytes few all
    quote true false = with-spelled false true bytes 34 few all refl
    quote false odd = bad (record { refusal = 42; odd = false; name = no_name }) (suc-ne-zero 41)

    go : (is control : Bool) → is_control byte ≡ control → Spelled (cond is (spelled_quote quoted (spelling_of odd bytes)) (cond control (misspelt 30) (spelled_with (spelling_of odd bytes) false byte)))
    go true control e = quote quoted odd
    go false true e = bad (record { refusal = 30; odd = false; name = no_name }) (suc-ne-zero 29)
    go false false e = with-spelled odd false bytes byte few all e

from-spelled : (quoted : Bool) (bytes : List ℕ) {spelling : Spelling} → Spelled spelling → Spelled (spelled_from quoted spelling bytes)
unfolding spelled_from
from-spelled quoted [] spelled = spelled
from-spelled quoted (byte ∷ bytes) spelled = from-spelled quoted bytes (after-spelled quoted byte spelled)

spelled-proper : {spelling : Spelling} → Spelled spelling → spelling.refusal ≡ 0 → Proper spelling.name
spelled-proper (good odd bytes few all) fine = from-proper few all
spelled-proper (bad spelling broken) fine = absurd (broken fine)

pub name-proper : (cell : List ℕ) → (name_of cell).refusal ≡ 0 → Proper (name_of cell).name
unfolding name_of named_by misspelt
name-proper cell = go (eqb (quotes_refusal cell) 0)
  where
    go : (closed : Bool) → (cond closed (named_by (spelled_from (is_quoted cell) no_spelling (content_of cell))) (named_by (misspelt 42))).refusal ≡ 0
        → Proper (cond closed (named_by (spelled_from (is_quoted cell) no_spelling (content_of cell))) (named_by (misspelt 42))).name
    go true fine = spelled-proper (from-spelled (is_quoted cell) (content_of cell) (good false [] (omega arith) none)) fine
    go false fine = absurd (suc-ne-zero 41 fine)

-- "names read back": the word that is put for a name is read as that name
pub name_back : (name : Name) → Proper name → name_of (34 ∷ doubled (take name.length name.bytes) ++ (34 ∷ [])) ≡ record { refusal = 0; name = name }
unfolding name_of named_by is_quoted
name_back name proper =
    let letters = take name.length name.bytes in
    let long : length letters ≡ name.length = length-take-le name.length name.bytes (omega (arith, proper.few, proper.long)) in
    simp (quotes-closed (doubled letters) (doubled-paired letters), quotes-content (doubled letters), doubled-spelled proper.plain [] (omega (arith, proper.few)))
    (ap₂ (λ (n : ℕ) (l : List ℕ). record { refusal = 0; name = record { length = n; bytes = l } }) long (ap (λ (n : ℕ). letters ++ replicate (32 - n) 0) long ∙ sym proper.zeros))
