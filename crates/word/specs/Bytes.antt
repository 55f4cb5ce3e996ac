-- A word as four bytes, lowest byte first (document 03 §1).
use Rattle.std.specs.Prelude.{ℕ, ◌+◌, ◌*◌, ◌/◌, ◌%◌, List, [], ◌∷◌, ◌++◌}

-- the word of four bytes
unfoldable pub word_of : ℕ → ℕ → ℕ → ℕ → ℕ
word_of b₀ b₁ b₂ b₃ = b₀ + b₁ * 256 + b₂ * 65536 + b₃ * 16777216

-- the four bytes of a word
abbrev pub byte₀ : ℕ → ℕ
byte₀ w = w % 256

abbrev pub byte₁ : ℕ → ℕ
byte₁ w = w / 256 % 256

abbrev pub byte₂ : ℕ → ℕ
byte₂ w = w / 256 / 256 % 256

abbrev pub byte₃ : ℕ → ℕ
byte₃ w = w / 256 / 256 / 256 % 256

unfoldable pub bytes_of : ℕ → List ℕ
bytes_of w = byte₀ w ∷ byte₁ w ∷ byte₂ w ∷ byte₃ w ∷ []

-- words as bytes, and whole words of bytes; what is left of the bytes after the last whole word makes none
unfoldable pub bytes_of_words : List ℕ → List ℕ
bytes_of_words [] = []
bytes_of_words (w ∷ ws) = bytes_of w ++ bytes_of_words ws

unfoldable pub words_of_bytes : List ℕ → List ℕ
words_of_bytes [] = []
words_of_bytes (b₀ ∷ []) = []
words_of_bytes (b₀ ∷ b₁ ∷ []) = []
words_of_bytes (b₀ ∷ b₁ ∷ b₂ ∷ []) = []
words_of_bytes (b₀ ∷ b₁ ∷ b₂ ∷ b₃ ∷ bs) = word_of b₀ b₁ b₂ b₃ ∷ words_of_bytes bs
