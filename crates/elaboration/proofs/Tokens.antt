-- A text has no more tokens than bytes, and its numbers are those of document 01 §2.
use mathlib.Core.Path.{◌≡◌, refl, sym, subst}
use mathlib.Core.Bool.{Bool, true, false}
use mathlib.Core.List.{List, [], ◌∷◌}
use mathlib.Core.Option.{Option, none, some, map}
use Prim.Native.Nat.{ℕ, zero, suc, ◌≤◌, ◌<◌}
use Prim.Native.String.{String}
use native.Mathlib.Omega.{arith}
use lib.Dec.{ltb}
use lib.ListN.{length, length-append}
use borrow.Author.Tests.{ltb-true}
use Rattle.word.specs.Choice.{both}
use Rattle.language.specs.Tree.{Place}
use Rattle.language.specs.Tokens.{Token, Placed, In, Spells, Reads, Readable, words, signs, bytes, starts, largest_number}
use Rattle.language.specs.Grammar.{Has, nth}
use Rattle.elaboration.proofs.All.{Each}

-- Each token has a byte at least: names and numbers have a first, and so have the words and signs of the tables.

abbrev True : Bool → Type 0
True true = Unit {0}
True false = ⊥

begun : (P : ℕ → Bool) (w : List ℕ) → starts P w ≡ true → 0 < length w
unfolding starts
begun P [] e = absurd (subst True (sym e) tt)
begun P (b ∷ w) e = omega arith

abbrev spelt : {A : Type 0} → List (A × String) → Bool
spelt [] = true
spelt (r ∷ rs) = both (ltb 0 (length (bytes r.1))) (spelt rs)

is_true : (b : Bool) → True b → b ≡ true
is_true true t = refl
is_true false t = absurd t

halves : (a b : Bool) → True (both a b) → True a × True b
halves true b t = (tt, t)
halves false b t = absurd t

row_spelt : {A : Type 0} {r : A × String} {rs : List (A × String)} → True (spelt rs) → In r rs → 0 < length (bytes r.1)
row_spelt t (In.here {x = q} {xs = rs} e) = rw e (ltb-true _ _ (is_true _ (halves (ltb 0 (length (bytes q.1))) (spelt rs) t).0))
row_spelt t (In.there {x = q} {xs = rs} i) = row_spelt (halves (ltb 0 (length (bytes q.1))) (spelt rs) t).1 i

words_spelt : True (spelt words)
unfolding words bytes
words_spelt = tt

signs_spelt : True (spelt signs)
unfolding signs bytes
signs_spelt = tt

spells_some : {w rest : List ℕ} {t : Token} → Spells w rest t → 0 < length w
spells_some {w} (Spells.name h _ _ _ _) = begun _ w h
spells_some (Spells.word _ i e) = rw e (row_spelt words_spelt i)
spells_some {w} (Spells.number h _ _ _ _ _) = begun _ w h
spells_some (Spells.sign i e _) = rw e (row_spelt signs_spelt i)

-- so there are no more tokens than bytes

pub tokens_few : {i : Place} {text : List ℕ} {ts : List Placed} → Reads i text ts → length ts ≤ length text
tokens_few Reads.end = omega arith
tokens_few (Reads.blank e r) = let h = tokens_few r in omega (arith, h)
tokens_few (Reads.comment {w = w} {rest = rest} c e _ r) = let h = tokens_few r in rw (e, length-append w rest) (omega (arith, h))
tokens_few (Reads.token {w = w} {rest = rest} s e _ r) =
    let h = tokens_few r in
    let l = spells_some s in
    rw (e, length-append w rest) (omega (arith, h, l))

-- numbers are no larger than they may be

abbrev Small : Token → Type 0
Small (Token.name x) = Unit {0}
Small (Token.word x) = Unit {0}
Small (Token.number n) = n ≤ largest_number
Small (Token.sign x) = Unit {0}

spells_small : {w rest : List ℕ} {t : Token} → Spells w rest t → Small t
spells_small (Spells.name _ _ _ _ _) = tt
spells_small (Spells.word _ _ _) = tt
spells_small (Spells.number _ _ _ _ _ l) = l
spells_small (Spells.sign _ _ _) = tt

tokens_small : {i : Place} {text : List ℕ} {ts : List Placed} → Reads i text ts → Each (λ q. Small q.token) ts
tokens_small Reads.end = Each.none
tokens_small (Reads.blank e r) = tokens_small r
tokens_small (Reads.comment c e _ r) = tokens_small r
tokens_small (Reads.token s e _ r) = Each.more (spells_small s) (tokens_small r)

abbrev token_of_here : Option Placed → Option Token
token_of_here o = map (λ (q : Placed). q.token) o

abbrev SmallIn : Option Token → Type 0
SmallIn none = Unit {0}
SmallIn (some t) = Small t

nth_small : {ts : List Placed} → Each (λ q. Small q.token) ts → (i : ℕ) (t : Token) → token_of_here (nth ts i) ≡ some t → Small t
unfolding nth
nth_small Each.none i t e = subst SmallIn e tt
nth_small (Each.more h hs) zero t e = subst SmallIn e h
nth_small (Each.more h hs) (suc i) t e = nth_small hs i t e

abbrev Absent : Option Token → Type 0
Absent none = Unit {0}
Absent (some t) = ⊥

-- the number at token i of a text
pub number_small : {text : List ℕ} {ts : List Placed} → Readable text ts → (i n : ℕ) → Has (nth ts) i (Token.number n) → n ≤ largest_number
number_small r i n e = nth_small (tokens_small r.reads) i (Token.number n) e

-- token i is one of them
pub token_inside : (ts : List Placed) (i : ℕ) (t : Token) → Has (nth ts) i t → i < length ts
unfolding nth
token_inside [] i t e = absurd (subst Absent e tt)
token_inside (q ∷ ts) zero t e = omega arith
token_inside (q ∷ ts) (suc i) t e = let h = token_inside ts i t e in omega (arith, h)
