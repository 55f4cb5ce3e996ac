-- Lists as the code compares them: a beginning is the same first words, and a part of a buffer is within it.
use mathlib.Core.Path.{◌≡◌, refl, ap, sym, ◌∙◌}
use mathlib.Core.List.{List, [], ◌∷◌}
use mathlib.Core.Bool.{Bool, true, false}
use Prim.Native.Nat.{ℕ, ◌-◌, min}
use native.Mathlib.Omega.{arith}
use lib.Dec.{eqb, leb}
use lib.ListN.{length, take, drop, length-drop, drop_of_length-le}
use lib.Pointwise.{pointwise}
use lib.Seq.{take_all, take-length, drop-length}
use borrow.Author.Tests.{leb-true, leb-false}
use Rattle.word.specs.Bytes.{words_of_bytes}
use Rattle.word.specs.Choice.{both}
use Rattle.language.specs.Tokens.{same, begins}
use Rattle.language.specs.Meaning.{Outcome}
use Rattle.processor.specs.declared.Status.{Status}
use Rattle.agreement.specs.Agreement.{agrees_of}

pub starts_begins : (w v : List ℕ) → pointwise eqb v (take (length v) w) ≡ begins v w
unfolding begins
starts_begins w [] = refl
starts_begins [] (a ∷ v) = refl
starts_begins (b ∷ w) (a ∷ v) = ap (both (eqb a b)) (starts_begins w v)

pub pointwise_same : (v w : List ℕ) → pointwise eqb v w ≡ same v w
unfolding same
pointwise_same [] [] = refl
pointwise_same [] (b ∷ w) = refl
pointwise_same (a ∷ v) [] = refl
pointwise_same (a ∷ v) (b ∷ w) = ap (both (eqb a b)) (pointwise_same v w)

-- Parts of a buffer: what is asked for, or all that there is.

pub take_min : (n : ℕ) (xs : List ℕ) → take (min n (length xs)) xs ≡ take n xs
take_min n xs = go (leb n (length xs)) refl
  where
    go : (t : Bool) → leb n (length xs) ≡ t → take (min n (length xs)) xs ≡ take n xs
    go true e = let m : min n (length xs) ≡ n = omega (arith, leb-true n (length xs) e) in ap (λ (k : ℕ). take k xs) m
    go false e =
        let m : min n (length xs) ≡ length xs = omega (arith, leb-false n (length xs) e) in
        ap (λ (k : ℕ). take k xs) m ∙ (take-length xs ∙ sym (take_all n xs (omega (arith, leb-false n (length xs) e))))

drop_min : (n : ℕ) (xs : List ℕ) → drop (min n (length xs)) xs ≡ drop n xs
drop_min n xs = go (leb n (length xs)) refl
  where
    go : (t : Bool) → leb n (length xs) ≡ t → drop (min n (length xs)) xs ≡ drop n xs
    go true e = let m : min n (length xs) ≡ n = omega (arith, leb-true n (length xs) e) in ap (λ (k : ℕ). drop k xs) m
    go false e =
        let m : min n (length xs) ≡ length xs = omega (arith, leb-false n (length xs) e) in
        ap (λ (k : ℕ). drop k xs) m ∙ (drop-length xs ∙ sym (drop_of_length-le xs {i = n} (omega (arith, leb-false n (length xs) e))))

pub part_min : (start size from : ℕ) (xs : List ℕ) → from ≡ min start (length xs) → take (min size (length xs - from)) (drop from xs) ≡ take size (drop start xs)
part_min start size from xs e =
    ap (λ (k : ℕ). take (min size k) (drop from xs)) (sym (length-drop from xs))
    ∙ (take_min size (drop from xs) ∙ ap (take size) (ap (λ (k : ℕ). drop k xs) e ∙ drop_min start xs))

-- the test is the same for the parts that are asked for
module _ (log arrays logged memory : List ℕ) (start size from : ℕ) where
  pub parts : (o : Outcome) (s : Status) (l' a' k' b : ℕ) {l a k : ℕ} → l ≡ min l' (length log) → a ≡ min a' (length arrays) → k ≡ min k' (length logged) →
      from ≡ min start (length memory) → b ≡ min size (length memory - from) →
      agrees_of o (take l log) (take a arrays) s (take k logged) (words_of_bytes (take b (drop from memory))) ≡
      agrees_of o (take l' log) (take a' arrays) s (take k' logged) (words_of_bytes (take size (drop start memory)))
  parts o s l' a' k' b el ea ek ef eb = rw (el, ea, ek, eb, take_min l' log, take_min a' arrays, take_min k' logged, part_min start size from memory ef)
