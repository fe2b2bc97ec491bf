-- A text gathered byte by byte is its lines read one after the other. Assumes nothing.
use Prim.Native.Nat.{ℕ, suc, ◌+◌, ◌-◌, ◌≤◌, ◌<◌, min}
use mathlib.Core.Path.{◌≡◌, refl, sym, ap, ap₂, ◌∙◌, subst}
use mathlib.Core.Bool.{Bool, true, false, cond, not, ◌&&◌, ◌||◌}
use mathlib.Core.List.{List, [], ◌∷◌, ◌++◌, append_assoc, append-nil}
use native.Mathlib.Numerals.{add-one}
use native.Mathlib.Omega.{arith}
use borrow.Author.Tests.{lt-ltb, le-ltb, ltb-true, ltb-false, eqb-true, not-true}
use lib.Dec.{eqb, ltb}
use lib.ListN.{length, take, set, replicate, length-append, length-set}
use lib.Seq.{length-take-le, take_all, take-append-le, take-suc-set}
use Rattle.places.proofs.Tells.{neither, both_true}
use Rattle.cells.specs.Cells.{part_of, turned}
use Rattle.lines.specs.declared.Reading.{Reading}
use Rattle.lines.specs.declared.Understood.{Understood}
use Rattle.lines.specs.Troubles.{after, no_reading}
use Rattle.lines.specs.Answers.{line_taken, answer_at}
use Rattle.text.specs.declared.Scan.{Scan}
use Rattle.text.specs.Texts.{scan_start, held_line, reading_of, line_ended, commented, holding, gathered, step, scanned}
use Rattle.text.specs.Lines.{with_first, lines_of, said, held_of, is_long, read_with, answer_of}
use Rattle.text.specs.Answers.{understood, read_answer}

-- a scan as it comes about: 512 bytes of room, of which so many are held, all of them before a line is too long
record Fine (s : Scan) : Type 0 where
  room : length s.bytes ≡ 512
  most : s.held ≤ 512

-- what a line comes to that goes on so
content : Scan → List ℕ → List ℕ
content s rest = take s.held s.bytes ++ cond (s.comment || s.over) [] (said s.quoted rest)

longer : Scan → List ℕ → Bool
longer s rest = s.over || ltb 512 (length (content s rest))

-- a scan with a byte more, and one without room for it
abbrev more : Scan → ℕ → Scan
more s byte = record { reading = s.reading; line = s.line; held = s.held + 1; quoted = turned s.quoted byte; comment = s.comment; over = s.over; bytes = set s.bytes s.held byte }

abbrev full : Scan → Scan
full s = record { reading = s.reading; line = s.line; held = s.held; quoted = s.quoted; comment = s.comment; over = true; bytes = s.bytes }

-- two scans with rests of a line that come to the same
record Alike (s u : Scan) (rest other : List ℕ) : Type 0 where
  held : take 512 (content s rest) ≡ take 512 (content u other)
  long : longer s rest ≡ longer u other
  reading : s.reading ≡ u.reading
  line : s.line ≡ u.line

-- a part from the start
pub part-first : (bytes : List ℕ) (held : ℕ) → held ≤ length bytes → part_of bytes 0 held ≡ take held bytes
unfolding part_of
part-first bytes held fits =
    let stop : min held (length bytes) ≡ held = omega arith in
    let start : min 0 held ≡ 0 = omega arith in
    let all : held - 0 ≡ held = omega arith in
    rw (stop, start, all) refl

nothing : (stops quoted : Bool) → cond stops [] (said quoted []) ≡ []
unfolding said
nothing true quoted = refl
nothing false quoted = refl

content-end : (s : Scan) → content s [] ≡ take s.held s.bytes
unfolding content
content-end s = ap (λ (l : List ℕ). take s.held s.bytes ++ l) (nothing (s.comment || s.over) s.quoted) ∙ append-nil (take s.held s.bytes)

module _ (s : Scan) (fine : Fine s) where
  held-long : length (take s.held s.bytes) ≡ s.held
  held-long = length-take-le s.held s.bytes (omega (arith, fine.room, fine.most))

  -- what is held of a line is the line so far, and it is too long where it was
  held-end : held_line s.bytes s.held ≡ take 512 (content s [])
  unfolding held_line
  held-end =
      part-first s.bytes s.held (omega (arith, fine.room, fine.most))
      ∙ sym (ap (take 512) (content-end s) ∙ take_all 512 (take s.held s.bytes) (omega (arith, held-long, fine.most)))

  long-end : s.over ≡ longer s []
  unfolding longer
  long-end = sym (ap (λ (n : ℕ). s.over || ltb 512 n) (ap length (content-end s) ∙ held-long) ∙ ap (λ (b : Bool). s.over || b) (le-ltb 512 s.held fine.most) ∙ or-false s.over)
    where
      or-false : (b : Bool) → (b || false) ≡ b
      or-false true = refl
      or-false false = refl

  -- one byte more: nothing where the line is in a comment or too long,
  still_alike : (byte : ℕ) (rest : List ℕ) → (s.comment || s.over) ≡ true → Alike s s rest (byte ∷ rest)
  unfolding content longer
  still_alike byte rest e = record { held = simp e; long = simp e; reading = refl; line = refl }

  -- a comment that begins,
  comment-alike : (rest : List ℕ) → (s.comment || s.over) ≡ false → s.quoted ≡ false → Alike (commented s) s rest (35 ∷ rest)
  unfolding content longer commented said
  comment-alike rest e plain = record { held = simp (e, plain); long = simp (e, plain); reading = refl; line = refl }

  module _ (byte : ℕ) (rest : List ℕ) (e : (s.comment || s.over) ≡ false) (other : (eqb byte 35 && not s.quoted) ≡ false) where
    -- a byte that is held,
    content-more : s.held < 512 → content (more s byte) rest ≡ content s (byte ∷ rest)
    unfolding content said
    content-more below =
        let begun : take (suc s.held) (set s.bytes s.held byte) ≡ take s.held s.bytes ++ (byte ∷ []) = take-suc-set s.bytes s.held byte (omega (arith, fine.room)) in
        simp (e, other, add-one, begun, append_assoc)

    held-alike : s.held < 512 → Alike (holding s byte) s rest (byte ∷ rest)
    unfolding holding longer
    held-alike below =
        let is : holding s byte ≡ more s byte = simp (lt-ltb s.held 512 below) in
        subst (λ (u : Scan). Alike u s rest (byte ∷ rest)) (sym is)
        (record { held = ap (take 512) (content-more below); long = ap (λ (l : List ℕ). s.over || ltb 512 (length l)) (content-more below); reading = refl; line = refl })

    -- and one for which there is no room
    over-alike : 512 ≤ s.held → Alike (holding s byte) s rest (byte ∷ rest)
    unfolding content longer holding said
    over-alike none =
        let is : holding s byte ≡ full s = simp (le-ltb s.held 512 none) in
        let held = take s.held s.bytes in
        let on = byte ∷ said (turned s.quoted byte) rest in
        let here : content s (byte ∷ rest) ≡ held ++ on = simp (e, other) in
        let begun : (l : List ℕ) → take 512 (held ++ l) ≡ take 512 held = λ l. take-append-le 512 held l (omega (arith, held-long)) in
        subst (λ (u : Scan). Alike u s rest (byte ∷ rest)) (sym is)
        (record {
          held = begun _ ∙ sym (begun _);
          long = sym (ap₂ ◌||◌ (neither s.comment s.over e).1 (lt-ltb 512 (length (content s (byte ∷ rest))) (omega (arith, ap length here, length-append held on, held-long))));
          reading = refl;
          line = refl;
        })

-- one byte more that does not end the line
gathered-alike : (s : Scan) → Fine s → (byte : ℕ) (rest : List ℕ) → Alike (gathered s byte) s rest (byte ∷ rest)
unfolding gathered
gathered-alike s fine byte rest = go (s.comment || s.over) refl (eqb byte 35 && not s.quoted) refl (ltb s.held 512) refl
  where
    go : (stops : Bool) → (s.comment || s.over) ≡ stops → (begins : Bool) → (eqb byte 35 && not s.quoted) ≡ begins → (room : Bool) → ltb s.held 512 ≡ room
        → Alike (cond stops s (cond begins (commented s) (holding s byte))) s rest (byte ∷ rest)
    go true e begins f room g = still_alike s fine byte rest e
    go false e true f room g =
        let both = both_true (eqb byte 35) (not s.quoted) f in
        subst (λ (b : ℕ). Alike (commented s) s rest (b ∷ rest)) (sym (eqb-true byte 35 both.0)) (comment-alike s fine rest e (not-true s.quoted both.1))
    go false e false f true g = held-alike s fine byte rest e f (ltb-true s.held 512 g)
    go false e false f false g = over-alike s fine byte rest e f (ltb-false s.held 512 g)

gathered-fine : (s : Scan) → Fine s → (byte : ℕ) → Fine (gathered s byte)
unfolding gathered commented holding
gathered-fine s fine byte = go (s.comment || s.over) (eqb byte 35 && not s.quoted) (ltb s.held 512) refl
  where
    go : (stops begins room : Bool) → ltb s.held 512 ≡ room → Fine (cond stops s (cond begins (commented s) (cond room (more s byte) (full s))))
    go true begins room g = fine
    go false true room g = record { room = fine.room; most = fine.most }
    go false false true g =
        let below = ltb-true s.held 512 g in
        record { room = length-set s.bytes s.held byte ∙ fine.room; most = omega arith }
    go false false false g = record { room = fine.room; most = fine.most }

-- what is read with a line that goes on so, and what it is understood as with the lines after it
told : Scan → List ℕ → Reading
told s rest = line_taken s.reading s.line (take 512 (content s rest)) (longer s rest)

answer_rest : Scan → List (List ℕ) → Understood
answer_rest s [] = understood s
answer_rest s (rest ∷ []) = answer_at (told s rest) s.line (take 512 (content s rest))
answer_rest s (rest ∷ next ∷ lines) = answer_of (told s rest) (after s.line) (next ∷ lines)

told-alike : {s u : Scan} {rest other : List ℕ} → Alike s u rest other → told s rest ≡ told u other
unfolding told
told-alike alike = cc

rest-alike : {s u : Scan} {rest other : List ℕ} → Alike s u rest other → (lines : List (List ℕ)) → answer_rest s (rest ∷ lines) ≡ answer_rest u (other ∷ lines)
unfolding answer_rest
rest-alike alike [] = cc (told-alike alike)
rest-alike alike (next ∷ lines) = cc (told-alike alike)

-- a text has a line
pub data Some : List (List ℕ) → Type 0 where
  some : (line : List ℕ) (lines : List (List ℕ)) → Some (line ∷ lines)

pub lines-some : (bytes : List ℕ) → Some (lines_of bytes)
unfolding lines_of with_first
lines-some [] = some [] []
lines-some (byte ∷ bytes) = go (eqb byte 10) (lines-some bytes)
  where
    go : {ls : List (List ℕ)} (ends : Bool) → Some ls → Some (cond ends ([] ∷ ls) (with_first byte ls))
    go true (some line lines) = some [] (line ∷ lines)
    go false (some line lines) = some (byte ∷ line) lines

-- a line of which nothing is read yet
abbrev fresh : Reading → ℕ → List ℕ → Scan
fresh r number bytes = record { reading = r; line = number; held = 0; quoted = false; comment = false; over = false; bytes = bytes }

fresh-rest : (r : Reading) (number : ℕ) (bytes : List ℕ) {lines : List (List ℕ)} → Some lines → answer_rest (fresh r number bytes) lines ≡ answer_of r number lines
unfolding answer_rest answer_of told content longer read_with held_of is_long
fresh-rest r number bytes (some line []) = refl
fresh-rest r number bytes (some line (next ∷ lines)) = refl

fresh-fine : (r : Reading) (number : ℕ) (bytes : List ℕ) → length bytes ≡ 512 → Fine (fresh r number bytes)
fresh-fine r number bytes room = record { room = room; most = omega arith }

read-end : (s : Scan) → Fine s → reading_of s ≡ told s []
unfolding reading_of told
read-end s fine = ap₂ (line_taken s.reading s.line) (held-end s fine) (long-end s fine)

scanned-rest : (bytes : List ℕ) (s : Scan) → Fine s → understood (scanned s bytes) ≡ answer_rest s (lines_of bytes)
unfolding scanned understood lines_of with_first answer_rest step line_ended
scanned-rest [] s fine = ap₂ (λ (r : Reading) (l : List ℕ). answer_at r s.line l) (read-end s fine) (held-end s fine)
scanned-rest (byte ∷ bytes) s fine =
    go (eqb byte 10) (lines-some bytes) (scanned-rest bytes (line_ended s) (fresh-fine (reading_of s) (after s.line) s.bytes fine.room)) (scanned-rest bytes (gathered s byte) (gathered-fine s fine byte))
  where
    go : {lines : List (List ℕ)} (ends : Bool) → Some lines → understood (scanned (line_ended s) bytes) ≡ answer_rest (line_ended s) lines
        → understood (scanned (gathered s byte) bytes) ≡ answer_rest (gathered s byte) lines
        → understood (scanned (cond ends (line_ended s) (gathered s byte)) bytes) ≡ answer_rest s (cond ends ([] ∷ lines) (with_first byte lines))
    go true (some line lines) p q =
        p ∙ fresh-rest (reading_of s) (after s.line) s.bytes (some line lines) ∙ ap (λ (r : Reading). answer_of r (after s.line) (line ∷ lines)) (read-end s fine)
    go false (some line lines) p q = q ∙ rest-alike (gathered-alike s fine byte line) lines

-- "each line is read for itself": what a text is understood as is what its lines are
pub by_lines : (text : List ℕ) → read_answer text ≡ answer_of no_reading 1 (lines_of text)
unfolding read_answer
by_lines text = scanned-rest text scan_start (fresh-fine no_reading 1 (replicate 512 0) refl) ∙ fresh-rest no_reading 1 (replicate 512 0) (lines-some text)
