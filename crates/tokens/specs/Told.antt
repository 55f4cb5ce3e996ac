-- What `tokens` promises. The answer and what stands in the working room are determined by the text and the room's length.
use Rattle.std.specs.Prelude.{◌≡◌, List, ℕ, ◌≤◌, ◌<◌, length, Result}
use Rattle.std.proofs.lemmas.List.Edits.{sets}
use Rattle.language.specs.Tokens.{Placed, Readable, Answer.good, Answer.refused, tokens_of}
use Rattle.tokens.specs.Kinds.{flat, token_room}
use Rattle.tokens.specs.declared.Unread.{Unread}
use Rattle.tokens.specs.declared.Unread.TheVariants as unread

-- n tokens: those that the text reads as stand at the room's start, and the rest of the room is as it was
pub record ReadWell (text before : List ℕ) (n : ℕ) (after : List ℕ) : Type 0 where
  pub enough : token_room ≤ length before
  pub tokens : List Placed
  pub reads : Readable text tokens
  pub says : tokens_of text ≡ good tokens
  pub count : n ≡ length tokens
  pub room : after ≡ sets before 0 (flat tokens)

-- no tokens: the text reads as none, and its fault is at p
pub record Unreadable (text before : List ℕ) (p : ℕ) : Type 0 where
  pub enough : token_room ≤ length before
  pub says : tokens_of text ≡ refused p
  pub never : (ts : List Placed) → Readable text ts → ⊥

abbrev Case : List ℕ → List ℕ → Result ℕ Unread → List ℕ → Type 0
Case text before (Result.Ok n) after = ReadWell text before n after
Case text before (Result.Err (unread.Unreadable p)) after = Unreadable text before p
Case text before (Result.Err unread.NoRoom) after = (length before < token_room) × (after ≡ before)

pub record Told (text before : List ℕ) (r : Result ℕ Unread) (after : List ℕ) : Type 0 where
  pub by : Case text before r after
