-- Words become bytes one after the other.
use Prim.Native.Nat.{ℕ, suc, ◌+◌, ◌*◌, ◌≤◌, ◌<◌}
use native.Mathlib.Omega.{arith}
use mathlib.Core.Path.{◌≡◌, refl, sym, ap, ◌∙◌}
use mathlib.Core.List.{List, [], ◌∷◌, ◌++◌, append_assoc}
use lib.ListN.{length, take, drop, get_or, length-append, length-drop, take-append-drop}
use borrow.Rule.Slice.PartMut.{put_mid}
use Rattle.std.proofs.lemmas.Slice.{take-put_mid, drop-put_mid}
use lib.Seq.{sets, sets-eq, take-suc, take_at, drop-drop, length-take-le, drop-append-add}
use Rattle.word.specs.Bytes.{bytes_of, bytes_of_words}
use Rattle.symbolic.specs.Symbolic.{Instruction}
use Rattle.symbolic.specs.Real.{words_from, image_of}
use Rattle.emission.specs.Tape.{Emits}
use Rattle.emission.proofs.Laws.{laid}

bytes_four : (w : ℕ) → length (bytes_of w) ≡ 4
unfolding bytes_of
bytes_four w = refl

bytes_length : (ws : List ℕ) → length (bytes_of_words ws) ≡ 4 * length ws
unfolding bytes_of_words
bytes_length [] = refl
bytes_length (w ∷ ws) = omega (arith, length-append (bytes_of w) (bytes_of_words ws), bytes_four w, bytes_length ws)

bytes_append : (ws : List ℕ) (w : ℕ) → bytes_of_words (ws ++ (w ∷ [])) ≡ bytes_of_words ws ++ bytes_of w
unfolding bytes_of_words bytes_of
bytes_append [] w = refl
bytes_append (v ∷ ws) w = ap (λ (l : List ℕ). bytes_of v ++ l) (bytes_append ws w) ∙ sym (append_assoc (bytes_of v) (bytes_of_words ws) (bytes_of w))

-- one word's bytes, put in place of four others
pub four : (image bytes : List ℕ) (at k w : ℕ) → k ≡ 4 → at + 4 ≤ length image → bytes ≡ bytes_of w → put_mid at k image bytes ≡ sets image at (bytes_of w)
four image bytes at k w e h f =
    let long : length bytes ≡ 4 = ap length f ∙ bytes_four w in
    sym (take-append-drop (at + 4) (put_mid at k image bytes))
    ∙ ap (λ (l : List ℕ). l ++ drop (at + 4) (put_mid at k image bytes)) (take-put_mid at k image bytes (at + 4) (omega arith) (omega arith))
    ∙ ap (λ (l : List ℕ). (take at image ++ bytes) ++ l) (drop-put_mid at k image bytes (at + 4) (omega arith) (omega arith) (omega arith))
    ∙ ap (λ (l : List ℕ). (take at image ++ l) ++ drop (at + 4) image) f
    ∙ ap (λ (n : ℕ). (take at image ++ bytes_of w) ++ drop (at + n) image) (sym (bytes_four w)) ∙ sym (sets-eq (bytes_of w) image at (omega (arith, bytes_four w)))

-- an image's bytes, once its code stands from the first word on

words_length : (k : ℕ) (c : List Instruction) → length (words_from k c) ≡ length c
unfolding words_from
words_length k [] = refl
words_length k (i ∷ c) = ap suc (words_length (suc k) c)

pub imaged : {c : List Instruction} {at r : ℕ} {ws ws' : List ℕ} → Emits c at ws ws' r → at ≡ length c → at ≤ length ws → bytes_of_words (take at ws') ≡ image_of c
unfolding image_of
imaged {c} {at} {r} {ws} {ws'} e h l =
    ap (λ (m : List ℕ). bytes_of_words (take at m)) (laid 0 e (omega arith) l) ∙ ap bytes_of_words (take_at (words_from 0 c) (drop at ws) at (words_length 0 c ∙ sym h))

-- so far the first i words, then what was there
pub bytes_none : (ws image : List ℕ) → image ≡ bytes_of_words (take 0 ws) ++ drop (4 * 0) image
unfolding bytes_of_words
bytes_none ws image = refl

so_far_length : (ws : List ℕ) (i : ℕ) → i ≤ length ws → length (bytes_of_words (take i ws)) ≡ 4 * i
so_far_length ws i h = bytes_length (take i ws) ∙ ap (λ (n : ℕ). 4 * n) (length-take-le i ws h)

-- bytes put behind others
behind : (a b v : List ℕ) (n m : ℕ) → length a ≡ n → length v ≡ m → m ≤ length b → sets (a ++ b) n v ≡ (a ++ v) ++ drop m b
behind a b v n m e f h =
    sets-eq v (a ++ b) n (omega (arith, length-append a b))
    ∙ ap (λ (l : List ℕ). l ++ v ++ drop (n + length v) (a ++ b)) (take_at a b n e)
    ∙ ap (λ (l : List ℕ). a ++ v ++ l) (ap (λ (k : ℕ). drop k (a ++ b)) (let z : n + length v ≡ length a + m = omega arith in z) ∙ drop-append-add a b m)

module _ (ws image : List ℕ) (i : ℕ) (here : i < length ws) (room : 4 * i + 4 ≤ length image) where
  words_more : bytes_of_words (take i ws) ++ bytes_of (get_or ws i 0) ≡ bytes_of_words (take (suc i) ws)
  words_more = sym (bytes_append (take i ws) (get_or ws i 0)) ∙ ap bytes_of_words (sym (take-suc ws i 0 here))

  rest_more : drop 4 (drop (4 * i) image) ≡ drop (4 * suc i) image
  rest_more = drop-drop 4 (4 * i) image ∙ ap (λ (n : ℕ). drop n image) (let z : 4 * i + 4 ≡ 4 * suc i = omega arith in z)

  pub bytes_more : (n : ℕ) → n ≡ suc i →
      sets (bytes_of_words (take i ws) ++ drop (4 * i) image) (4 * i) (bytes_of (get_or ws i 0)) ≡ bytes_of_words (take n ws) ++ drop (4 * n) image
  bytes_more n e =
      behind (bytes_of_words (take i ws)) (drop (4 * i) image) (bytes_of (get_or ws i 0)) (4 * i) 4 (so_far_length ws i (omega arith)) (bytes_four (get_or ws i 0))
      (omega (arith, length-drop (4 * i) image))
      ∙ ap (λ (l : List ℕ). l ++ drop 4 (drop (4 * i) image)) words_more ∙ ap (λ (l : List ℕ). bytes_of_words (take (suc i) ws) ++ l) rest_more
      ∙ ap (λ (k : ℕ). bytes_of_words (take k ws) ++ drop (4 * k) image) (sym e)
