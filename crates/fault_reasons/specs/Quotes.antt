-- A line of a text, and how it is shown to a person.
use Rattle.std.specs.Prelude.{◌≡◌, ◌-◌, ◌+◌, ◌++◌, ◌∷◌, [], ◌==◌, ◌&&◌, ◌/◌, ◌%◌, if◌then◌else◌, ℕ, zero, suc, List, take, length, codes, decimal, flat_map, nat_le}

-- the text up to its first line end, and the text behind it
abbrev pub first_line : List ℕ → List ℕ
first_line [] = []
first_line (b ∷ text) = if b == 10 then [] else b ∷ first_line text

abbrev pub after_line : List ℕ → List ℕ
after_line [] = []
after_line (b ∷ text) = if b == 10 then text else after_line text

-- the text behind its first lines
abbrev pub skip_lines : ℕ → List ℕ → List ℕ
skip_lines zero text = text
skip_lines (suc n) text = skip_lines n (after_line text)

-- a byte as it is shown: itself where it prints, or two hexadecimal digits behind a backslash
abbrev pub digit : ℕ → ℕ
digit n = if nat_le n 9 then 48 + n else 87 + n

abbrev pub shown : ℕ → List ℕ
shown byte = if nat_le 32 byte && nat_le byte 126 then byte ∷ [] else 92 ∷ 120 ∷ digit (byte / 16) ∷ digit (byte % 16) ∷ []

-- a line as it is quoted: cut behind 80 bytes, with two dots where it is cut
abbrev pub quoted : List ℕ → List ℕ
quoted line = if nat_le (length line) 80 then flat_map shown line else flat_map shown (take 80 line) ++ codes " .."

-- the line with this number, from 1, and the number in front of it
abbrev pub head : List ℕ → ℕ → List ℕ
head text line = codes "line " ++ decimal line ++ codes ": " ++ quoted (first_line (skip_lines (line - 1) text)) ++ 10 ∷ []

-- a text that begins with these bytes
abbrev pub Begins : List ℕ → List ℕ → Type 0
Begins text bytes = (rest : List ℕ) × (text ≡ bytes ++ rest)
