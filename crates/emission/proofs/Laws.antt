-- What is laid piece by piece is laid as a whole.
use Prim.Native.Nat.{ℕ, zero, suc, ◌+◌, ◌-◌, ◌≤◌, ◌<◌}
use native.Mathlib.Omega.{arith}
use native.Mathlib.Decide.{dec_lt}
use mathlib.Core.Path.{◌≡◌, refl, sym, ap, ◌∙◌, subst}
use mathlib.Core.List.{List, [], ◌∷◌, ◌++◌}
use lib.ListN.{set, take, drop, length, get_or, length-append, take-append-drop}
use lib.Seq.{set_comm, set_at, take-suc, append_snoc, length-take-le}
use Rattle.processor.specs.declared.Instr.{Instr}
use Rattle.processor.specs.Instructions.{encode_of}
use Rattle.symbolic.specs.Symbolic.{Instruction}
use Rattle.symbolic.specs.Real.{real, words_from}
use Rattle.emission.specs.Tape.{Tape, tape, putting, laying, Puts, Emits}

-- One instruction

putting_some : (i : Instr) (ws : List ℕ) (at k : ℕ) → at ≡ suc k → putting i ws at ≡ tape (set ws k (encode_of i)) k
unfolding putting
putting_some i ws at k e = ap (λ (a : ℕ). putting i ws a) e

putting_none : (i : Instr) (ws : List ℕ) (at : ℕ) → at ≡ 0 → putting i ws at ≡ tape ws 0
unfolding putting
putting_none i ws at e = ap (λ (a : ℕ). putting i ws a) e

putting_at : (i : Instr) (ws : List ℕ) (at : ℕ) → (putting i ws at).at ≡ at - 1
unfolding putting
putting_at i ws zero = refl
putting_at i ws (suc k) = omega arith

pub put_none : {i : Instr} {ws : List ℕ} {at : ℕ} → at ≡ 0 → Puts i at ws ws 0
put_none {i} {ws} {at} e = record { same = putting_none i ws at e }

-- the word that was written is the instruction's; where there is no such word nothing is written
pub put_one : {i : Instr} {ws ws' : List ℕ} {at k : ℕ} → at ≡ suc k → ws' ≡ set ws k (encode_of i) → Puts i at ws ws' k
put_one {i} {ws} {ws'} {at} {k} e s = record { same = putting_some i ws at k e ∙ ap (λ (l : List ℕ). tape l k) (sym s) }

pub put_at : {i : Instr} {at r : ℕ} {ws ws' : List ℕ} → Puts i at ws ws' r → r ≡ at - 1
put_at {i} {at} {r} {ws} p = sym (ap (λ (t : Tape). t.at) p.same) ∙ putting_at i ws at

-- Code

pub none : {ws : List ℕ} {at : ℕ} → Emits [] at ws ws at
unfolding laying
none = record { position = omega arith; words = λ _. refl }

laying_one : (i : Instruction) (c : List Instruction) (ws : List ℕ) (at : ℕ) (t : Tape) → laying c ws at ≡ t →
    laying (i ∷ c) ws at ≡ putting (real (t.at - 1) i) t.words t.at
unfolding laying
laying_one i c ws at t e = ap (λ (u : Tape). putting (real (u.at - 1) i) u.words u.at) e

-- an instruction before code; which one it is counts only where there is room for it
pub one_if : {i : Instruction} {j : Instr} {c : List Instruction} {at r₁ r₂ : ℕ} {ws ws₁ ws₂ : List ℕ} → Emits c at ws ws₁ r₁ →
    (length c < at → real (r₁ - 1) i ≡ j) → Puts j r₁ ws₁ ws₂ r₂ → Emits (i ∷ c) at ws ws₂ r₂
one_if {i} {j} {c} {at} {r₁} {r₂} {ws} {ws₁} {ws₂} e s p = record {
  position = omega (arith, e.position, put_at p);
  words = λ (h : length (i ∷ c) ≤ at).
      laying_one i c ws at (tape ws₁ r₁) (e.words (omega arith)) ∙ ap (λ (x : Instr). putting x ws₁ r₁) (s (omega arith)) ∙ p.same;
}

pub one : {i : Instruction} {j : Instr} {c : List Instruction} {at r₁ r₂ : ℕ} {ws ws₁ ws₂ : List ℕ} → Emits c at ws ws₁ r₁ → real (r₁ - 1) i ≡ j →
    Puts j r₁ ws₁ ws₂ r₂ → Emits (i ∷ c) at ws ws₂ r₂
one e s p = one_if e (λ _. s) p

-- the last instruction of all
pub last_if : {i : Instruction} {j : Instr} {at r : ℕ} {ws ws' : List ℕ} → (0 < at → real (at - 1) i ≡ j) → Puts j at ws ws' r → Emits (i ∷ []) at ws ws' r
last_if s p = one_if none s p

pub last : {i : Instruction} {j : Instr} {at r : ℕ} {ws ws' : List ℕ} → real (at - 1) i ≡ j → Puts j at ws ws' r → Emits (i ∷ []) at ws ws' r
last s p = one none s p

laying_after : (a b : List Instruction) (ws : List ℕ) (at : ℕ) → laying (a ++ b) ws at ≡ laying a (laying b ws at).words (laying b ws at).at
unfolding laying
laying_after [] b ws at = refl
laying_after (i ∷ a) b ws at = ap (λ (t : Tape). putting (real (t.at - 1) i) t.words t.at) (laying_after a b ws at)

laying_then : (a : List Instruction) (s t : Tape) → s ≡ t → laying a s.words s.at ≡ laying a t.words t.at
laying_then a s t e = ap (λ (u : Tape). laying a u.words u.at) e

-- code before code; what the first is counts only where there is room for the second
behind : (a b : List Instruction) {at r₁ r₂ : ℕ} {ws₁ ws₂ : List ℕ} → r₁ ≡ at - length b → r₂ ≤ r₁ → (length b ≤ at → Emits a r₁ ws₁ ws₂ r₂) → Dec (at < length b) →
    r₂ ≡ at - length (a ++ b)
behind a b e l f (yes h) = omega (arith, length-append a b)
behind a b e l f (no h) = omega (arith, length-append a b, (f (omega arith)).position)

pub after_if : {a b : List Instruction} {at r₁ r₂ : ℕ} {ws ws₁ ws₂ : List ℕ} → Emits b at ws ws₁ r₁ → r₂ ≤ r₁ → (length b ≤ at → Emits a r₁ ws₁ ws₂ r₂) →
    Emits (a ++ b) at ws ws₂ r₂
after_if {a} {b} {at} {r₁} {r₂} {ws} {ws₁} {ws₂} e l f = record {
  position = behind a b e.position l f (dec_lt at (length b));
  words = λ (h : length (a ++ b) ≤ at).
      laying_after a b ws at ∙ laying_then a (laying b ws at) (tape ws₁ r₁) (e.words (omega (arith, length-append a b)))
      ∙ (f (omega (arith, length-append a b))).words (omega (arith, length-append a b, e.position));
}

pub after : {a b : List Instruction} {at r₁ r₂ : ℕ} {ws ws₁ ws₂ : List ℕ} → Emits b at ws ws₁ r₁ → Emits a r₁ ws₁ ws₂ r₂ → Emits (a ++ b) at ws ws₂ r₂
after e f = after_if e (omega (arith, f.position)) (λ _. f)

-- A word that was left free behind the code, and is filled once the code is there

putting_set : (i : Instr) (ws : List ℕ) (at k v : ℕ) → at ≤ k → putting i (set ws k v) at ≡ tape (set (putting i ws at).words k v) (putting i ws at).at
unfolding putting
putting_set i ws zero k v h = refl
putting_set i ws (suc n) k v h = ap (λ (l : List ℕ). tape l n) (set_comm ws k n v (encode_of i) (λ e. omega arith))

laying_at : (c : List Instruction) (ws : List ℕ) (at : ℕ) → (laying c ws at).at ≤ at
unfolding laying
laying_at [] ws at = omega arith
laying_at (i ∷ c) ws at =
    omega (arith, putting_at (real ((laying c ws at).at - 1) i) (laying c ws at).words (laying c ws at).at, laying_at c ws at)

pub laying_set : (c : List Instruction) (ws : List ℕ) (at k v : ℕ) → at ≤ k → laying c (set ws k v) at ≡ tape (set (laying c ws at).words k v) (laying c ws at).at
unfolding laying
laying_set [] ws at k v h = refl
laying_set (i ∷ c) ws at k v h =
    ap (λ (t : Tape). putting (real (t.at - 1) i) t.words t.at) (laying_set c ws at k v h)
    ∙ putting_set (real ((laying c ws at).at - 1) i) (laying c ws at).words (laying c ws at).at k v (omega (arith, laying_at c ws at))

-- the code once the word behind it is the instruction's
laid_before : (c : List Instruction) (ws : List ℕ) (n v : ℕ) (t : Tape) → laying c ws n ≡ t → laying c (set ws n v) n ≡ tape (set t.words n v) t.at
laid_before c ws n v t e = laying_set c ws n n v (omega arith) ∙ ap (λ (u : Tape). tape (set u.words n v) u.at) e

laying_last : (c : List Instruction) (i : Instruction) (ws : List ℕ) (n : ℕ) → laying (c ++ (i ∷ [])) ws (suc n) ≡ laying c (set ws n (encode_of (real n i))) n
unfolding laying putting
laying_last c i ws n = laying_after c (i ∷ []) ws (suc n) ∙ ap (λ (m : ℕ). laying c (set ws n (encode_of (real m i))) n) (let e : suc n - 1 ≡ n = omega arith in e)

module _ (c : List Instruction) (i : Instruction) (j : Instr) where
  filled_more : (n r : ℕ) (ws ws₁ ws₂ : List ℕ) → laying c ws n ≡ tape ws₁ r → real n i ≡ j → putting j ws₁ (suc n) ≡ tape ws₂ n →
      laying (c ++ (i ∷ [])) ws (suc n) ≡ tape ws₂ r
  unfolding putting
  filled_more n r ws ws₁ ws₂ e s p =
      laying_last c i ws n ∙ ap (λ (x : Instr). laying c (set ws n (encode_of x)) n) s ∙ laid_before c ws n (encode_of j) (tape ws₁ r) e
      ∙ ap (λ (t : Tape). tape t.words r) p

  filled_by : (at r : ℕ) (ws ws₁ ws₂ : List ℕ) → 0 < at → laying c ws (at - 1) ≡ tape ws₁ r → real (at - 1) i ≡ j → putting j ws₁ at ≡ tape ws₂ (at - 1) →
      laying (c ++ (i ∷ [])) ws at ≡ tape ws₂ r
  filled_by zero r ws ws₁ ws₂ h e s p = absurd (omega arith)
  filled_by (suc n) r ws ws₁ ws₂ h e s p =
      let m : suc n - 1 ≡ n = omega arith in
      filled_more n r ws ws₁ ws₂ (subst (λ (k : ℕ). laying c ws k ≡ tape ws₁ r) m e) (subst (λ (k : ℕ). real k i ≡ j) m s)
      (subst (λ (k : ℕ). putting j ws₁ (suc n) ≡ tape ws₂ k) m p)

  -- the instruction is put last of all, at the end of what was emitted before it
  pub filled : {at r : ℕ} {ws ws₁ ws₂ : List ℕ} → Emits c (at - 1) ws ws₁ r → real (at - 1) i ≡ j → Puts j at ws₁ ws₂ (at - 1) →
      Emits (c ++ (i ∷ [])) at ws ws₂ r
  filled {at} {r} {ws} {ws₁} {ws₂} e s p = record {
    position = omega (arith, length-append c (i ∷ []), e.position);
    words = λ (h : length (c ++ (i ∷ [])) ≤ at).
        filled_by at r ws ws₁ ws₂ (omega (arith, length-append c (i ∷ []))) (e.words (omega (arith, length-append c (i ∷ [])))) s p.same;
  }

-- Where there is room, the code's words stand from its position on

set_seam : (ws : List ℕ) (k v : ℕ) (rest : List ℕ) → k < length ws → set (take (suc k) ws ++ rest) k v ≡ take k ws ++ (v ∷ rest)
set_seam ws k v rest h =
    ap (λ (l : List ℕ). set (l ++ rest) k v) (take-suc ws k 0 h) ∙ ap (λ (l : List ℕ). set l k v) (append_snoc (take k ws) (get_or ws k 0) rest)
    ∙ set_at (take k ws) (get_or ws k 0) rest v k (length-take-le k ws (omega arith))

put_seam : (i : Instruction) (ws : List ℕ) (k : ℕ) (rest : List ℕ) → k < length ws →
    putting (real (suc k - 1) i) (take (suc k) ws ++ rest) (suc k) ≡ tape (take k ws ++ (encode_of (real k i) ∷ rest)) k
unfolding putting
put_seam i ws k rest h =
    ap (λ (m : ℕ). tape (set (take (suc k) ws ++ rest) k (encode_of (real m i))) k) (let e : suc k - 1 ≡ k = omega arith in e)
    ∙ ap (λ (l : List ℕ). tape l k) (set_seam ws k (encode_of (real k i)) rest h)

laid_none : (ws : List ℕ) (k at : ℕ) → at ≡ k → tape ws at ≡ tape (take k ws ++ drop at ws) k
laid_none ws k at e =
    ap (λ (m : ℕ). tape ws m) e ∙ ap (λ (l : List ℕ). tape l k) (sym (take-append-drop k ws)) ∙ ap (λ (m : ℕ). tape (take k ws ++ drop m ws) k) (sym e)

laid_by : (c : List Instruction) (ws : List ℕ) (k at : ℕ) → at ≡ k + length c → at ≤ length ws →
    laying c ws at ≡ tape (take k ws ++ (words_from k c ++ drop at ws)) k
unfolding laying words_from
laid_by [] ws k at e h = laid_none ws k at (omega arith)
laid_by (i ∷ c) ws k at e h =
    ap (λ (t : Tape). putting (real (t.at - 1) i) t.words t.at) (laid_by c ws (suc k) at (omega arith) h)
    ∙ put_seam i ws k (words_from (suc k) c ++ drop at ws) (omega arith)

-- the words after code was emitted: those before it, its own, those behind it
pub laid : (k : ℕ) {c : List Instruction} {at r : ℕ} {ws ws' : List ℕ} → Emits c at ws ws' r → at ≡ k + length c → at ≤ length ws →
    ws' ≡ take k ws ++ (words_from k c ++ drop at ws)
laid k {c} {at} {r} {ws} {ws'} e h l = ap (λ (t : Tape). t.words) (sym (e.words (omega arith)) ∙ laid_by c ws k at h l)
