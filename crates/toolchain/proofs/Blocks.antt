-- A block's words put one after the other into a buffer: the first i of them, and then what was there.
use Prim.Native.Nat.{ℕ, suc, ◌+◌, ◌*◌, ◌<◌}
use mathlib.Core.Path.{◌≡◌, sym, ap, ◌∙◌}
use mathlib.Core.List.{List, ◌++◌, append-nil}
use native.Mathlib.Omega.{arith}
use lib.ListN.{length, get_or, set, take, drop}
use lib.Seq.{paste-suc, take-length, drop-length}
use Rattle.word.specs.Bytes.{word_of, words_of_bytes}
use Rattle.word.proofs.WordBytes.{words_of_bytes_length, words_of_bytes_at}

abbrev pub so_far : List ℕ → List ℕ → ℕ → List ℕ
so_far bs l i = take i (words_of_bytes bs) ++ drop i l

pub one_more : (bs l : List ℕ) (i : ℕ) → length bs ≡ 4 * length l → i < length l →
    set (so_far bs l i) i (word_of (get_or bs (4 * i) 0) (get_or bs (4 * i + 1) 0) (get_or bs (4 * i + 2) 0) (get_or bs (4 * i + 3) 0)) ≡ so_far bs l (suc i)
one_more bs l i e h =
    ap (set (so_far bs l i) i) (sym (words_of_bytes_at bs i (omega (arith, e))))
    ∙ (ap (λ (k : ℕ). set (take i (words_of_bytes bs) ++ drop k l) k (get_or (words_of_bytes bs) i 0)) here
    ∙ (paste-suc l 0 (words_of_bytes bs) i 0 (omega arith) (let n = words_of_bytes_length bs in omega (arith, n, e)) ∙ ap (λ (k : ℕ). take (suc i) (words_of_bytes bs) ++ drop k l) there))
  where
    here : i ≡ 0 + i
    here = omega arith

    there : 0 + suc i ≡ suc i
    there = omega arith

pub all_of_them : (bs l : List ℕ) (i : ℕ) → length bs ≡ 4 * length l → i ≡ length l → so_far bs l i ≡ words_of_bytes bs
all_of_them bs l i e h =
    ap (λ (k : ℕ). take i (words_of_bytes bs) ++ drop k l) h
    ∙ (ap (λ (r : List ℕ). take i (words_of_bytes bs) ++ r) (drop-length l)
    ∙ (append-nil (take i (words_of_bytes bs)) ∙ (ap (λ (k : ℕ). take k (words_of_bytes bs)) (h ∙ size) ∙ take-length (words_of_bytes bs))))
  where
    size : length l ≡ length (words_of_bytes bs)
    size = let n = words_of_bytes_length bs in omega (arith, n, e)
