-- Operands in two rows, and words that are written one after the other.
use mathlib.Core.Path.{◌≡◌, refl, sym, ap, ◌∙◌}
use mathlib.Core.List.{List, [], ◌∷◌, ◌++◌}
use Prim.Native.Nat.{ℕ, zero, suc, ◌+◌, ◌-◌, ◌≤◌, ◌<◌}
use native.Mathlib.Numerals.{add-one}
use native.Mathlib.Nat.{add-suc, suc-add, add-zero}
use native.Mathlib.Omega.{arith}
use lib.ListN.{length, get_or, drop, set, get_or-eq_default, length-set}
use lib.Seq.{get_or-set_same, get_or-set_other, set_out, sets, length-sets, set_comm, set-set}
use Rattle.word.specs.Word.{add_w}
use Rattle.rules.specs.Tables.{word, type_of}
use Rattle.rules.specs.Scan.{Operand, no_operand, charged}
use Rattle.grammar.specs.declared.tree.ValueType.{ValueType}
use Rattle.grammar.specs.declared.tree.ValueType.TheVariants as V
use Rattle.rules.specs.Values.{meant}
use Rattle.rules.specs.Post.{operands_in, Tops, Pushes, Charges}

length_operands : (ts ss : List ℕ) (h : ℕ) → length (operands_in ts ss h) ≡ h
unfolding operands_in
length_operands ts ss zero = refl
length_operands ts ss (suc h) = ap suc (length_operands ts ss h)

pub top_none : (ts ss : List ℕ) (h j : ℕ) → h ≤ j → Tops ts ss h j (record { ty = V.Int; start = 0 })
top_none ts ss h j l = record { is = get_or-eq_default (operands_in ts ss h) no_operand (omega (arith, l, length_operands ts ss h)) }

abbrev operand : List ℕ → List ℕ → ℕ → Operand
operand ts ss i = record { type = type_of (word ts i); start = word ss i }

at_depth : (ts ss : List ℕ) (h j : ℕ) → j < h → get_or (operands_in ts ss h) j no_operand ≡ operand ts ss (h - j - 1)
unfolding operands_in
at_depth ts ss zero j l = absurd (omega (arith, l))
at_depth ts ss (suc h) zero l = ap (operand ts ss) {x = h} {y = suc h - 0 - 1} (omega arith)
at_depth ts ss (suc h) (suc j) l = at_depth ts ss h j (omega (arith, l)) ∙ ap (operand ts ss) {x = h - j - 1} {y = suc h - suc j - 1} (omega (arith, l))

pub top_some : (ts ss : List ℕ) (h j : ℕ) {ty : ValueType} {start : ℕ} → (j < h) → meant ty ≡ type_of (word ts (h - j - 1)) → start ≡ word ss (h - j - 1) → Tops ts ss h j (record { ty = ty; start = start })
top_some ts ss h j l e f = record { is = rw (e, f) (at_depth ts ss h j l) }

drop_operands : (ts ss : List ℕ) (h n : ℕ) → drop n (operands_in ts ss h) ≡ operands_in ts ss (h - n)
unfolding operands_in
drop_operands ts ss h zero = ap (operands_in ts ss) {x = h} {y = h - 0} (omega arith)
drop_operands ts ss zero (suc n) = ap (operands_in ts ss) {x = 0} {y = 0 - suc n} (omega arith)
drop_operands ts ss (suc h) (suc n) = drop_operands ts ss h n ∙ ap (operands_in ts ss) {x = h - n} {y = suc h - suc n} (omega arith)

same_below : (ts ss us vs : List ℕ) (h : ℕ) → ((i : ℕ) → i < h → get_or us i 0 ≡ get_or ts i 0) → ((i : ℕ) → i < h → get_or vs i 0 ≡ get_or ss i 0) → operands_in us vs h ≡ operands_in ts ss h
unfolding operands_in
same_below ts ss us vs zero e f = refl
same_below ts ss us vs (suc h) e f = rw (e h (omega arith), f h (omega arith), same_below ts ss us vs h (λ i l. e i (omega (arith, l))) (λ i l. f i (omega (arith, l)))) refl

pub pushed : {ts ss : List ℕ} (h n at ty : ℕ) (o : Operand) → type_of ty ≡ o.type → at ≡ h - n → h < length ts → h < length ss → Pushes ts ss h n o (at + 1) (set ts at ty) (set ss at o.start)
unfolding operands_in
pushed {ts} {ss} h n at ty o t e k l =
    record {
      is = rw (
        add-one at,
        get_or-set_same ts at ty 0 (omega (arith, e, k)),
        get_or-set_same ss at o.start 0 (omega (arith, e, l)),
        t,
        same_below ts ss (set ts at ty) (set ss at o.start) at (λ i m. get_or-set_other ts at i ty 0 (λ (q : i ≡ at). omega (arith, q, m))) (λ i m. get_or-set_other ss at i o.start 0 (λ (q : i ≡ at). omega (arith, q, m))),
        drop_operands ts ss h n,
        e,
      ) refl;
      most = omega (arith, e);
    }

-- Runs of stores

pub sets_append : (l : List ℕ) (i : ℕ) (a b : List ℕ) → sets (sets l i a) (i + length a) b ≡ sets l i (a ++ b)
sets_append l i [] b = ap (λ (k : ℕ). sets l k b) (add-zero i)
sets_append l i (x ∷ a) b = ap (λ (k : ℕ). sets (sets l i (x ∷ a)) k b) (add-suc i (length a) ∙ sym (suc-add i (length a))) ∙ sets_append (set l i x) (suc i) a b

-- a store before a run of stores, and one inside it
pub set_before : (l : List ℕ) (p q v : ℕ) (c : List ℕ) → q < p → set (sets l p c) q v ≡ sets (set l q v) p c
set_before l p q v [] h = refl
set_before l p q v (x ∷ c) h = set_before (set l p x) (suc p) q v c (omega (arith, h)) ∙ ap (λ (w : List ℕ). sets w (suc p) c) (set_comm l p q x v (λ (e : p ≡ q). omega (arith, e, h)))

set_inside : (l : List ℕ) (q i j v : ℕ) (c : List ℕ) → i ≡ q + j → j < length c → set (sets l q c) i v ≡ sets l q (set c j v)
set_inside l q i j v [] e h = absurd (omega (arith, h))
set_inside l q i zero v (x ∷ c) e h =
    ap (λ (k : ℕ). set (sets (set l q x) (suc q) c) k v) {x = i} {y = q} (omega (arith, e)) ∙ (set_before (set l q x) (suc q) q v c (omega arith) ∙ ap (λ (w : List ℕ). sets w (suc q) c) (set-set l q x v))
set_inside l q i (suc j) v (x ∷ c) e h = set_inside (set l q x) (suc q) i j v c (omega (arith, e)) (omega (arith, h))

pub get_before : (l : List ℕ) (p q : ℕ) (c : List ℕ) → q < p → get_or (sets l p c) q 0 ≡ get_or l q 0
get_before l p q [] h = refl
get_before l p q (x ∷ c) h = get_before (set l p x) (suc p) q c (omega (arith, h)) ∙ get_or-set_other l p q x 0 (λ (e : q ≡ p). omega (arith, e, h))

pub get_inside : (l : List ℕ) (q i j : ℕ) (c : List ℕ) → i ≡ q + j → j < length c → q + length c ≤ length l → get_or (sets l q c) i 0 ≡ get_or c j 0
get_inside l q i j [] e h m = absurd (omega (arith, h))
get_inside l q i zero (x ∷ c) e h m =
    ap (λ (k : ℕ). get_or (sets (set l q x) (suc q) c) k 0) {x = i} {y = q} (omega (arith, e)) ∙ (get_before (set l q x) (suc q) q c (omega arith) ∙ get_or-set_same l q x 0 (omega (arith, m)))
get_inside l q i (suc j) (x ∷ c) e h m = get_inside (set l q x) (suc q) i j c (omega (arith, e)) (omega (arith, h)) (rw (length-set l q x) (omega (arith, m)))

-- A charge

inside : (core core₀ ws : List ℕ) (q size start n c v : ℕ) → q + size ≤ length core → start + 1 < size → c ≡ get_or core (q + start + 1) 0 → v ≡ add_w c n → core ≡ sets core₀ q ws → length ws ≡ size →
    set core (q + start + 1) v ≡ sets core₀ q (charged n start ws)
unfolding charged
inside core core₀ ws q size start n c v m l ec ev e k =
    ap (λ (u : ℕ). set core (q + start + 1) u) (ev ∙ ap (λ (u : ℕ). add_w u n) (ec ∙ (ap (λ (w : List ℕ). get_or w (q + start + 1) 0) e ∙
    get_inside core₀ q (q + start + 1) (start + 1) ws (omega arith) (omega (arith, k, l)) (omega (arith, k, m, ap length e, length-sets core₀ q ws)))))
    ∙ (ap (λ (w : List ℕ). set w (q + start + 1) (add_w (get_or ws (start + 1) 0) n)) e ∙ set_inside core₀ q (q + start + 1) (start + 1) _ ws (omega arith) (omega (arith, k, l)))

pub charged_inside : {core : List ℕ} (q size start n : ℕ) {c v : ℕ} → q + size ≤ length core → start + 1 < size → c ≡ get_or core (q + start + 1) 0 → v ≡ add_w c n → Charges core q size start n (set core (q + start + 1) v)
charged_inside {core} q size start n {c} {v} m l ec ev = record { is = λ core₀ ws e k. inside core core₀ ws q size start n c v m l ec ev e k }

outside : (core core₀ ws : List ℕ) (q size start n : ℕ) → size ≤ start + 1 → core ≡ sets core₀ q ws → length ws ≡ size → core ≡ sets core₀ q (charged n start ws)
unfolding charged
outside core core₀ ws q size start n l e k = e ∙ ap (sets core₀ q) (sym (set_out ws (start + 1) (add_w (get_or ws (start + 1) 0) n) (omega (arith, k, l))))

pub charged_outside : {core : List ℕ} (q size start n : ℕ) → size ≤ start + 1 → Charges core q size start n core
charged_outside {core} q size start n l = record { is = λ core₀ ws e k. outside core core₀ ws q size start n l e k }
