-- What a reader of the room finds there: the three words of token i, and a name's bytes in the text.
use mathlib.Core.Path.{◌≡◌, refl, sym, ap, ◌∙◌}
use mathlib.Core.List.{List, [], ◌∷◌, ◌++◌}
use mathlib.Core.Option.{some}
use Prim.Native.Nat.{ℕ, zero, suc, ◌+◌, ◌*◌, ◌≤◌, ◌<◌}
use native.Mathlib.Omega.{arith}
use lib.ListN.{length, length-append, get_or, take, drop}
use lib.Seq.{sets, sets-eq, drop-append_seam, take-append_seam, drop-drop}
use Rattle.language.specs.Tree.{Place, Name}
use Rattle.language.specs.Tokens.{Token, Placed, placed, Spells, Reads, Readable}
use Rattle.language.specs.Grammar.{nth}
use Rattle.tokens.specs.Kinds.{kind_of, value_of, flat}
use Rattle.tokens.proofs.Complete.{spells_first}
use Rattle.tokens.proofs.Going.{flat_length}

-- a text has at least as many bytes as tokens
reads_few : {i : Place} {text : List ℕ} {ts : List Placed} → Reads i text ts → length ts ≤ length text
reads_few Reads.end = omega arith
reads_few (Reads.blank e r) = omega (arith, reads_few r)
reads_few {text = text} (Reads.comment {w = w} {rest = rest} c q j r) = omega (arith, reads_few r, ap length q ∙ length-append w rest)
reads_few {text = text} (Reads.token {w = w} {rest = rest} s q j r) = omega (arith, reads_few r, ap length q ∙ length-append w rest, ap length (spells_first s).spelt)

pub tokens_few : {text : List ℕ} {ts : List Placed} → Readable text ts → length ts ≤ length text
tokens_few r = reads_few r.reads

-- The words of token i.

get_d_left : (a b : List ℕ) (n : ℕ) → n < length a → get_or (a ++ b) n 0 ≡ get_or a n 0
get_d_left [] b n h = absurd (omega arith)
get_d_left (x ∷ a) b zero h = refl
get_d_left (x ∷ a) b (suc n) h = get_d_left a b n (omega arith)

room_left : (before ws : List ℕ) (n : ℕ) → n < length ws → length ws ≤ length before → get_or (sets before 0 ws) n 0 ≡ get_or ws n 0
room_left before ws n h l = ap (λ (x : List ℕ). get_or x n 0) (sets-eq ws before 0 (omega arith)) ∙ get_d_left ws (drop (0 + length ws) before) n h

abbrev word : Placed → ℕ → ℕ
word t k = get_or (kind_of t.token ∷ t.place ∷ value_of t.token ∷ []) k 0

head_word : (x : Placed) (ts : List Placed) (k : ℕ) → k < 3 → get_or (flat (x ∷ ts)) k 0 ≡ word x k
unfolding flat
head_word x ts zero h = refl
head_word x ts (suc zero) h = refl
head_word x ts (suc (suc zero)) h = refl
head_word x ts (suc (suc (suc k))) h = absurd (omega arith)

flat_word : (ts : List Placed) (i k : ℕ) (t : Placed) (n : ℕ) → nth ts i ≡ some t → k < 3 → n ≡ 3 * i + k → (get_or (flat ts) n 0 ≡ word t k) × (i < length ts)
unfolding nth flat
flat_word [] i k t n e h q = absurd (let z : ◌≡◌ {A = ℕ} 0 1 = cc in omega arith)
flat_word (x ∷ ts) zero k t n e h q =
    let p : x ≡ t = cc in
    let m : n ≡ k = omega arith in
    (ap (λ (j : ℕ). get_or (flat (x ∷ ts)) j 0) m ∙ head_word x ts k h ∙ ap (λ (y : Placed). word y k) p, omega arith)
flat_word (x ∷ ts) (suc i) k t zero e h q = absurd (omega arith)
flat_word (x ∷ ts) (suc i) k t (suc zero) e h q = absurd (omega arith)
flat_word (x ∷ ts) (suc i) k t (suc (suc zero)) e h q = absurd (omega arith)
flat_word (x ∷ ts) (suc i) k t (suc (suc (suc n))) e h q = let r : (get_or (flat ts) n 0 ≡ word t k) × (i < length ts) = flat_word ts i k t n e h (omega arith) in (r.0, omega (arith, r.1))

module _ (before : List ℕ) (ts : List Placed) (i : ℕ) (t : Placed) (e : nth ts i ≡ some t) (h : 3 * length ts ≤ length before) where
  at : (k : ℕ) → k < 3 → get_or (sets before 0 (flat ts)) (3 * i + k) 0 ≡ word t k
  at k l =
      let r : (get_or (flat ts) (3 * i + k) 0 ≡ word t k) × (i < length ts) = flat_word ts i k t (3 * i + k) e l refl in
      room_left before (flat ts) (3 * i + k) (omega (arith, r.1, flat_length ts)) (omega (arith, flat_length ts)) ∙ r.0

  pub kind_at : get_or (sets before 0 (flat ts)) (3 * i) 0 ≡ kind_of t.token
  kind_at = ap (λ (n : ℕ). get_or (sets before 0 (flat ts)) n 0) (let z : 3 * i ≡ 3 * i + 0 = omega arith in z) ∙ at 0 (omega arith)

  pub place_at : get_or (sets before 0 (flat ts)) (3 * i + 1) 0 ≡ t.place
  place_at = at 1 (omega arith)

  pub value_at_lem : get_or (sets before 0 (flat ts)) (3 * i + 2) 0 ≡ value_of t.token
  value_at_lem = at 2 (omega arith)

-- A name's bytes stand in the text at its place.

spelt_name : {w rest : List ℕ} {t : Token} → Spells w rest t → (x : Name) → t ≡ Token.name x → w ≡ x
spelt_name (Spells.name s a e l h) x q = cc
spelt_name (Spells.word e i q) x p = absurd (let z : ◌≡◌ {A = ℕ} 0 1 = cc in omega arith)
spelt_name (Spells.number s a e u n l) x p = absurd (let z : ◌≡◌ {A = ℕ} 0 1 = cc in omega arith)
spelt_name (Spells.sign i q h) x p = absurd (let z : ◌≡◌ {A = ℕ} 0 1 = cc in omega arith)

module _ (whole : List ℕ) where
  -- after the bytes w at place i the rest stands at place i + length w
  onward : (i : Place) (w rest text : List ℕ) → text ≡ drop i whole → text ≡ w ++ rest → rest ≡ drop (i + length w) whole
  onward i w rest text p q = sym (drop-append_seam w rest) ∙ ap (drop (length w)) (sym q ∙ p) ∙ drop-drop (length w) i whole

  first_name : (i : Place) (w rest text : List ℕ) (t : Token) → Spells w rest t → text ≡ drop i whole → text ≡ w ++ rest → (x : Name) (p : Place) → placed t i ≡ placed (Token.name x) p → take (length x) (drop p whole) ≡ x
  first_name i w rest text t s h q x p e =
      let a : t ≡ Token.name x = ap (λ (y : Placed). y.token) e in
      let b : i ≡ p = ap (λ (y : Placed). y.place) e in
      let c : w ≡ x = spelt_name s x a in
      ap (λ (j : ℕ). take (length x) (drop j whole)) (sym b) ∙ ap (take (length x)) (sym h ∙ q) ∙ ap (λ (y : List ℕ). take (length y) (w ++ rest)) (sym c) ∙ take-append_seam w rest ∙ c

  reads_name : {i : Place} {text : List ℕ} {ts : List Placed} → Reads i text ts → text ≡ drop i whole → (k : ℕ) (x : Name) (p : Place) → nth ts k ≡ some (placed (Token.name x) p) → take (length x) (drop p whole) ≡ x
  unfolding nth
  reads_name Reads.end h k x p e = absurd (let z : ◌≡◌ {A = ℕ} 0 1 = cc in omega arith)
  reads_name {i} (Reads.blank {b = b} {rest = rest} c r) h k x p e = reads_name r (onward i (b ∷ []) rest (b ∷ rest) h refl) k x p e
  reads_name {i} {text} (Reads.comment {w = w} {rest = rest} c q j r) h k x p e = reads_name r (onward i w rest text h q ∙ ap (λ (n : ℕ). drop n whole) (sym j)) k x p e
  reads_name {i} {text} (Reads.token {w = w} {rest = rest} {t = t} s q j r) h zero x p e = first_name i w rest text t s h q x p (cc)
  reads_name {i} {text} (Reads.token {w = w} {rest = rest} s q j r) h (suc k) x p e = reads_name r (onward i w rest text h q ∙ ap (λ (n : ℕ). drop n whole) (sym j)) k x p e

pub name_bytes : {text : List ℕ} {ts : List Placed} → Readable text ts → (k : ℕ) (x : Name) (p : Place) → nth ts k ≡ some (placed (Token.name x) p) → take (length x) (drop p text) ≡ x
name_bytes {text} r k x p e = reads_name text r.reads refl k x p e
