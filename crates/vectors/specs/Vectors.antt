-- Document 01 §6, row by row and in its order: its texts, and what each does, by document 01 and on the panel's processor of document 03.
-- Texts G and Z, the bodies and the helpers are the document's, byte for byte. Ours are the frame `fn main() { .. }`, the texts that the document only describes ("no
-- main"), and the arrays' contents at the start (the doors' 0 0, a's 0 0 0 and 5 5).
use Rattle.std.specs.Prelude.{List, [], ◌∷◌, ◌++◌, ◌≡◌, ℕ, zero, suc, ◌-◌, ◌^◌, length}
use Prim.Native.String.{String}
use Rattle.language.specs.Tokens.{bytes}
use Rattle.language.specs.Text.{Unreadable, Broken}
use Rattle.language.specs.Meaning.{trapped, out_of_fuel, Outcome, finished, stopped}
use Rattle.vectors.specs.Does.{Does, NeverStops}

-- "one line per line, each ending in a line feed"
unfoldable pub lines : List String → List ℕ
lines [] = []
lines (s ∷ ss) = bytes s ++ (bytes "\n" ++ lines ss)

abbrev pub G : List ℕ
G =
    lines
    ("fn gcd(a: int, b: int): int {"
    ∷ "  while b != 0 { let t: int = a % b; a = b; b = t; }"
    ∷ "  return a;"
    ∷ "}"
    ∷ "fn main() { emit gcd(12, 18); emit gcd(-12, 18); emit gcd(5, 0); }"
    ∷ [])

abbrev pub Z : List ℕ
Z =
    lines
    ("var smoke: int[4];"
    ∷ "var door: int[2];"
    ∷ "fn alarm(z: int): bool { return smoke[z] >= 70 || smoke[z] < 0; }"
    ∷ "fn main() {"
    ∷ "  let n: int = 0;"
    ∷ "  let z: int = 0;"
    ∷ "  while z < 4 {"
    ∷ "    if alarm(z) { n = n + 1; emit z; }"
    ∷ "    z = z + 1;"
    ∷ "  }"
    ∷ "  if n >= 2 { door[0] = 1; door[1] = 1; emit 100; }"
    ∷ "  else { if n == 1 { door[0] = 1; } }"
    ∷ "}"
    ∷ [])

-- the int -n, as a word
abbrev pub minus : ℕ → ℕ
minus n = 2 ^ 32 - n

-- a text with this body of main; and with helpers, on a line before it: body and helpers are the document's, what stands around them is ours
abbrev pub within : List ℕ → List ℕ
within body = bytes "fn main() { " ++ (body ++ bytes " }")

abbrev pub main : String → List ℕ
main body = within (bytes body)

abbrev pub with : String → String → List ℕ
with helpers body = lines (helpers ∷ []) ++ main body

unfoldable pub times : ℕ → List ℕ → List ℕ
times zero piece = []
times (suc n) piece = piece ++ times n piece

-- n nested parentheses in main
abbrev pub nested : ℕ → List ℕ
nested n = within (bytes "emit " ++ (times n (bytes "(") ++ (bytes "1" ++ (times n (bytes ")") ++ bytes ";"))))

abbrev pub trap : ℕ → Outcome
trap t = stopped (trapped t)

-- A text, and its arrays; then the outcome, the log, the arrays, and the fuel used. The fuel given is that of the table's last row, and the log has room for 10.
abbrev pub Runs : List ℕ → List ℕ → Outcome → List ℕ → List ℕ → ℕ → Type 0
Runs text arrays outcome log after used = Does arrays 1000 10 (record { outcome = outcome; log = log; arrays = after; used = used }) text

pub record Vectors : Type 0 where
  -- "Text G (one line per line, each ending in a line feed, 164 bytes)" "finishes with log 6, 6, 5; fuel 97."
  pub g_bytes : length G ≡ 164
  pub g_runs : Runs G [] finished (6 ∷ 6 ∷ 5 ∷ []) [] 97
  -- "Text Z", "| smoke | log | door | fuel |": "| 10 20 30 69 | empty | 0 0 | 96 |"
  pub z_quiet : Runs Z (10 ∷ 20 ∷ 30 ∷ 69 ∷ 0 ∷ 0 ∷ []) finished [] (10 ∷ 20 ∷ 30 ∷ 69 ∷ 0 ∷ 0 ∷ []) 96
  -- "| 10 70 30 5 | 1 | 1 0 | 101 |"
  pub z_one : Runs Z (10 ∷ 70 ∷ 30 ∷ 5 ∷ 0 ∷ 0 ∷ []) finished (1 ∷ []) (10 ∷ 70 ∷ 30 ∷ 5 ∷ 1 ∷ 0 ∷ []) 101
  -- "| 99 20 -1 5 | 0, 2, 100 | 1 1 | 108 |": the panel's processor, too, exits with log 0, 2, 100 and 1 at both doors
  pub z_two : Runs Z (99 ∷ 20 ∷ minus 1 ∷ 5 ∷ 0 ∷ 0 ∷ []) finished (0 ∷ 2 ∷ 100 ∷ []) (99 ∷ 20 ∷ minus 1 ∷ 5 ∷ 1 ∷ 1 ∷ []) 108
  -- "| body of main (helpers in brackets) | outcome | log | fuel |": "| nothing | finished | | 0 |"
  pub row_nothing : Runs (main "") [] finished [] [] 0
  pub row_emit : Runs (main "emit 1;") [] finished (1 ∷ []) [] 2
  pub row_trap_1 : Runs (main "emit 1; emit 7 / (3 - 3); emit 2;") [] (trap 1) (1 ∷ []) [] 8
  -- "-2147483648, 0, -3, -1, -3, 1, -2147483648"
  pub row_division : Runs (main "let m: int = -2147483647 - 1; emit m / -1; emit m % -1; emit -7 / 2; emit -7 % 2; emit 7 / -2; emit 7 % -2; emit -m;") []
      finished (minus 2147483648 ∷ 0 ∷ minus 3 ∷ minus 1 ∷ minus 3 ∷ 1 ∷ minus 2147483648 ∷ []) [] 38
  pub row_wraps : Runs (main "emit 2147483647 + 1; emit 65536 * 65536; emit 65537 * 65537;") [] finished (minus 2147483648 ∷ 0 ∷ 131073 ∷ []) [] 12
  pub row_trap_2 : Runs (with "var a: int[3];" "a[2] = 5; emit a[2]; emit a[3];") (0 ∷ 0 ∷ 0 ∷ []) (trap 2) (5 ∷ []) (0 ∷ 0 ∷ 5 ∷ []) 9
  pub row_order : Runs (with "fn f(x: int): int { emit x; return x; }" "emit f(1) + f(2) * f(3);") [] finished (1 ∷ 2 ∷ 3 ∷ 7 ∷ []) [] 21
  pub row_index_last : Runs (with "fn f(x: int): int { emit x; return x; } var a: int[2];" "a[f(1)] = f(0); a[f(2)] = f(9) / 0;") (5 ∷ 5 ∷ [])
      (trap 1) (1 ∷ 0 ∷ 2 ∷ 9 ∷ []) (5 ∷ 0 ∷ []) 28
  pub row_62 : Runs (with "fn f(n: int): int { if n == 0 { return 0; } else { return 1 + f(n - 1); } }" "emit f(62);") [] finished (62 ∷ []) [] 691
  pub row_63 : Runs (with "fn f(n: int): int { if n == 0 { return 0; } else { return 1 + f(n - 1); } }" "emit f(63);") [] (trap 3) [] [] 696
  -- "`while true { }` with fuel 1,000"
  pub row_endless : Runs (main "while true { }") [] (stopped out_of_fuel) [] [] 1000
  -- and on the panel's processor it never stops: `GoesOn` bounds the steps from below only past 65,536 units of fuel
  pub row_endless_panel : NeverStops (main "while true { }")
  -- "Answer 1: `emit 2147483648;`, `emit 01;`, `emit 12a;`, a 33-character name, `if 1 < 2 < 3 { }`, 32 nested parentheses in main (31 are fine), `fn Main() { }`."
  pub too_large : Unreadable (main "emit 2147483648;")
  pub padded : Unreadable (main "emit 01;")
  pub letter_after_number : Unreadable (main "emit 12a;")
  pub name_of_33 : Unreadable (main "emit a23456789_123456789_123456789_123;")
  pub compared_twice : Unreadable (main "if 1 < 2 < 3 { }")
  pub parentheses_32 : Unreadable (nested 32)
  pub parentheses_31 : Runs (nested 31) [] finished (1 ∷ []) [] 2
  pub upper_case : Unreadable (bytes "fn Main() { }")
  -- "Answer 2: no main; a let that hides a visible one; `let a: int = a;`; `true < false`; an array used without index; `fn f(): int { while true { return 1; } }`;
  -- `fn f(): int { if true { return 1; } }`.", each with its place in the text
  pub no_main : Broken (bytes "fn f() { }") 10
  pub hiding : Broken (main "let a: int = 0; let a: int = 0;") 32
  pub let_of_itself : Broken (main "let a: int = a;") 25
  pub ordered_truths : Broken (main "if true < false { }") 20
  pub no_index : Broken (with "var a: int[2];" "emit a;") 32
  pub falls_off : Broken (with "fn f(): int { while true { return 1; } }" "") 3
  pub falls_through : Broken (with "fn f(): int { if true { return 1; } }" "") 3
  -- "Answer 0: `true == false` as a condition; `emit --5;` (logs 5)."
  pub equal_truths : Runs (main "if true == false { }") [] finished [] [] 4
  pub minus_minus : Runs (main "emit --5;") [] finished (5 ∷ []) [] 4
