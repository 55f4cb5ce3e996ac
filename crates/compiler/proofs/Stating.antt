-- The code of statements, kind by kind, and of blocks by halves.
use Prim.Native.Nat.{ℕ, zero, suc, ◌+◌, ◌-◌, ◌*◌, ◌≤◌, ◌<◌}
use native.Mathlib.Omega.{arith}
use mathlib.Core.Path.{◌≡◌, refl, sym, ap, ◌∙◌, subst, subst⁻¹}
use mathlib.Core.Bool.{Bool, false}
use mathlib.Core.List.{List, [], ◌∷◌, ◌++◌, append_assoc, append-nil}
use lib.ListN.{length, length-append}
use Rattle.processor.specs.declared.Alu.TheVariants.{Add}
use Rattle.processor.specs.declared.Instr.TheVariants.{Jal}
use Rattle.language.specs.Core.{Array, Expr, Args, Stmt, Block}
use Rattle.language.specs.Core as C
use Rattle.flat.specs.Words.{word}
use Rattle.symbolic.specs.Symbolic.{Instruction, x0, sp, answer, opi, sw, jump, jump_back, ecall}
use Rattle.symbolic.specs.Real.{real, distance}
use Rattle.codegen.specs.Places.{Place, above, local_word, source, fetch, bring}
use Rattle.codegen.specs.Operators.{writing}
use Rattle.codegen.specs.Expressions.{place_of, places_of, code, codes, condition, calling}
use Rattle.codegen.specs.Statements.{leaving, over, otherwise, brought, answering, statement, block}
use Rattle.emission.specs.Tape.{Puts, Emits}
use Rattle.emission.specs.Macros.{array}
use Rattle.emission.proofs.Laws.{none, after, after_if, filled}
use Rattle.compiler.specs.Lies.{Lies}
use Rattle.compiler.specs.Lies as L
use Rattle.compiler.specs.Standing.{first_end, second_end, behind, second_block, Standing, put, store, choose, while, leave, give, emit, run, Stand, end, then}
use Rattle.compiler.specs.Post.{PlaceAt, entry_in, Values, Conditions, Calls}
use Rattle.compiler.specs.Blocks.{Answers, Statements, Blocks, rest, without, Skips, PassesOver}
use Rattle.compiler.proofs.Views.{CallAt, is_call, ends, starts, array_is}
use Rattle.compiler.proofs.Arguments.{weight_at, weight_small}

-- an expression that ends where it is said to
upto : {ws : List ℕ} {e : Expr} {i j k : ℕ} → k ≡ j → Lies ws e i j → Lies ws e i k
upto {ws} {e} {i} h l = subst⁻¹ (λ (m : ℕ). Lies ws e i m) h l

-- Results

module _ {ws es : List ℕ} {near : Bool} {j at : ℕ} {us us₁ : List ℕ} {r₁ : ℕ} where
  pub answer_call : word ws (j - 4) ≡ 3 → Calls ws es near j 0 at us us₁ r₁ → Answers ws es near j at us us₁ r₁
  unfolding answering
  answer_call h c = record { each = λ (x : Expr) (i : ℕ) (l : Lies ws x i j). by (is_call l h) }
    where
      by : {x : Expr} {i : ℕ} → CallAt ws i j x → Emits (answering (entry_in es) near x) at us us₁ r₁
      by {i = i} v = subst⁻¹ (λ (x : Expr). Emits (answering (entry_in es) near x) at us us₁ r₁) v.is (c.each v.xs i v.arguments v.many (omega arith))

  pub answer_value : {r₂ : ℕ} {us₂ : List ℕ} {p : Place} → (word ws (j - 4) ≡ 3 → ⊥) → PlaceAt ws j 0 p → Emits (bring p) at us us₁ r₁ → Values ws es near j 0 r₁ us₁ us₂ r₂ → Answers ws es near j at us us₂ r₂
  unfolding answering
  answer_value {r₂} {us₂} {p} h pl s v =
      record { each = λ (x : Expr) (i : ℕ) (l : Lies ws x i j). by l (after (subst (λ (q : Place). Emits (bring q) at us us₁ r₁) (pl.each x i l) s) (v.each x i l (omega arith))) }
    where
      by : {x : Expr} {i : ℕ} → Lies ws x i j → Emits (brought (entry_in es) near x) at us us₂ r₂ → Emits (answering (entry_in es) near x) at us us₂ r₂
      by (L.number k p q) f = f
      by (L.local k p q) f = f
      by (L.element k p q l) f = f
      by (L.call k p q l) f = absurd (h k.kind)
      by (L.unary k p l) f = f
      by (L.strict k p l r) f = f
      by (L.and k l p r) f = f
      by (L.or k l p r) f = f

-- Statements with no block

module _ {ws es : List ℕ} {near : Bool} {p at : ℕ} {us us₁ : List ℕ} {r₁ : ℕ} where
  pub statement_put : {x j r₂ : ℕ} {us₂ : List ℕ} {q : Place} → word ws p ≡ 0 → j ≡ first_end ws p → x ≡ word ws (p + 1) → PlaceAt ws j 0 q → Emits (fetch q 0 ++ (sw (source q 0) sp (4 * local_word x) ∷ [])) at us us₁ r₁ →
      Values ws es near j 0 r₁ us₁ us₂ r₂ → Statements ws es near p at us us₂ r₂
  unfolding statement
  statement_put {x} {j} {r₂} {us₂} {q} kind ej ex pl s v = record { each = λ (s : Stmt) (t : Standing ws s p). by t }
    where
      assigned : (e : Expr) (y : ℕ) → x ≡ y → Lies ws e (p + 8) j → Emits (code (entry_in es) near e 0 ++ (fetch (place_of e 0) 0 ++ (sw (source (place_of e 0) 0) sp (4 * local_word y) ∷ []))) at us us₂ r₂
      assigned e y h l =
          after (subst (λ (z : Place). Emits (fetch z 0 ++ (sw (source z 0) sp (4 * local_word y) ∷ [])) at us us₁ r₁) (pl.each e (p + 8) l)
          (subst (λ (z : ℕ). Emits (fetch q 0 ++ (sw (source q 0) sp (4 * local_word z) ∷ [])) at us us₁ r₁) h s)) (v.each e (p + 8) l (omega arith))

      by : {s : Stmt} → Standing ws s p → Emits (statement (entry_in es) near s) at us us₂ r₂
      by (put {x = y} {e = e} k hx b l) = assigned e y (ex ∙ hx) (upto ej l)
      by (store k x y b l m) = absurd (omega arith)
      by (choose k b l s t) = absurd (omega arith)
      by (while k b l s) = absurd (omega arith)
      by (leave k) = absurd (omega arith)
      by (give k b l) = absurd (omega arith)
      by (emit k b l) = absurd (omega arith)
      by (run k b l) = absurd (omega arith)

  pub statement_leave : word ws p ≡ 4 → Emits (opi Add answer x0 0 ∷ leaving) at us us₁ r₁ → Statements ws es near p at us us₁ r₁
  unfolding statement
  statement_leave kind s = record { each = λ (s : Stmt) (t : Standing ws s p). by t }
    where
      by : {s : Stmt} → Standing ws s p → Emits (statement (entry_in es) near s) at us us₁ r₁
      by (put k x b l) = absurd (omega arith)
      by (store k x y b l m) = absurd (omega arith)
      by (choose k b l s t) = absurd (omega arith)
      by (while k b l s) = absurd (omega arith)
      by (leave k) = s
      by (give k b l) = absurd (omega arith)
      by (emit k b l) = absurd (omega arith)
      by (run k b l) = absurd (omega arith)

  pub statement_give : {j r₂ : ℕ} {us₂ : List ℕ} → word ws p ≡ 5 → j ≡ first_end ws p → Emits leaving at us us₁ r₁ → Answers ws es near j r₁ us₁ us₂ r₂ → Statements ws es near p at us us₂ r₂
  unfolding statement
  statement_give {j} {r₂} {us₂} kind ej s a = record { each = λ (s : Stmt) (t : Standing ws s p). by t }
    where
      by : {s : Stmt} → Standing ws s p → Emits (statement (entry_in es) near s) at us us₂ r₂
      by (put k x b l) = absurd (omega arith)
      by (store k x y b l m) = absurd (omega arith)
      by (choose k b l s t) = absurd (omega arith)
      by (while k b l s) = absurd (omega arith)
      by (leave k) = absurd (omega arith)
      by (give {e} k b l) = after s (a.each e (p + 8) (upto ej l))
      by (emit k b l) = absurd (omega arith)
      by (run k b l) = absurd (omega arith)

  pub statement_emit : {j r₂ : ℕ} {us₂ : List ℕ} → word ws p ≡ 6 → j ≡ first_end ws p → Emits (ecall ∷ []) at us us₁ r₁ → Answers ws es near j r₁ us₁ us₂ r₂ → Statements ws es near p at us us₂ r₂
  unfolding statement
  statement_emit {j} {r₂} {us₂} kind ej s a = record { each = λ (s : Stmt) (t : Standing ws s p). by t }
    where
      by : {s : Stmt} → Standing ws s p → Emits (statement (entry_in es) near s) at us us₂ r₂
      by (put k x b l) = absurd (omega arith)
      by (store k x y b l m) = absurd (omega arith)
      by (choose k b l s t) = absurd (omega arith)
      by (while k b l s) = absurd (omega arith)
      by (leave k) = absurd (omega arith)
      by (give k b l) = absurd (omega arith)
      by (emit {e} k b l) = after s (a.each e (p + 8) (upto ej l))
      by (run k b l) = absurd (omega arith)

  pub statement_run : {j : ℕ} → word ws p ≡ 7 → j ≡ first_end ws p → Calls ws es near j 0 at us us₁ r₁ → Statements ws es near p at us us₁ r₁
  unfolding statement
  statement_run {j} kind ej c = record { each = λ (s : Stmt) (t : Standing ws s p). by t }
    where
      called : (f : ℕ) (xs : Args) → Lies ws (C.call f xs) (p + 8) j → Emits (codes (entry_in es) near xs 0 ++ calling (entry_in es f) (places_of xs 0) 0) at us us₁ r₁
      called f xs (L.call k h n l) = subst (λ (g : ℕ). Emits (codes (entry_in es) near xs 0 ++ calling (entry_in es g) (places_of xs 0) 0) at us us₁ r₁) h (c.each xs (p + 8) l n (omega arith))

      by : {s : Stmt} → Standing ws s p → Emits (statement (entry_in es) near s) at us us₁ r₁
      by (put k x b l) = absurd (omega arith)
      by (store k x y b l m) = absurd (omega arith)
      by (choose k b l s t) = absurd (omega arith)
      by (while k b l s) = absurd (omega arith)
      by (leave k) = absurd (omega arith)
      by (give k b l) = absurd (omega arith)
      by (emit k b l) = absurd (omega arith)
      by (run {f} {xs} k b l) = called f xs (upto ej l)

  pub statement_store : {x y j k next r₂ r₃ : ℕ} {us₂ us₃ : List ℕ} {q v : Place} → word ws p ≡ 1 → j ≡ first_end ws p → k ≡ second_end ws p → x ≡ word ws (p + 1) → y ≡ word ws (p + 2) → PlaceAt ws j 0 q →
      (0 < 4294967295 → next ≡ above q 0) → PlaceAt ws k next v → Emits (writing (array x y) q v) at us us₁ r₁ → Values ws es near k next r₁ us₁ us₂ r₂ → Values ws es near j 0 r₂ us₂ us₃ r₃ → Statements ws es near p at us us₃ r₃
  unfolding statement
  statement_store {x} {y} {j} {k} {next} {r₂} {r₃} {us₂} {us₃} {q} {v} kind ej ek ex ey pl n pv s b a = record { each = λ (s : Stmt) (t : Standing ws s p). by t }
    where
      stored : (x' : Array) → x ≡ x'.offset → y ≡ x'.size → (i e : Expr) → Lies ws i (p + 8) j → Lies ws e j k →
          Emits (code (entry_in es) near i 0 ++ (code (entry_in es) near e (above (place_of i 0) 0) ++ writing x' (place_of i 0) (place_of e (above (place_of i 0) 0)))) at us us₃ r₃
      stored x' hx hy i e l m =
          let f : q ≡ place_of i 0 = pl.each i (p + 8) l in
          let g : next ≡ above (place_of i 0) 0 = n (omega arith) ∙ ap (λ (z : Place). above z 0) f in
          subst (λ (d : ℕ). Emits (code (entry_in es) near i 0 ++ (code (entry_in es) near e d ++ writing x' (place_of i 0) (place_of e d))) at us us₃ r₃) g
          (after (after (subst⁻¹ (λ (z : Array). Emits (writing z (place_of i 0) (place_of e next)) at us us₁ r₁) (array_is x' hx hy)
          (subst (λ (z : Place). Emits (writing (array x y) z (place_of e next)) at us us₁ r₁) f
          (subst (λ (z : Place). Emits (writing (array x y) q z) at us us₁ r₁) (pv.each e j m) s)))
          (b.each e j m (omega (arith, g, weight_at i 0, weight_small i, starts l)))) (a.each i (p + 8) l (omega arith)))

      by : {s : Stmt} → Standing ws s p → Emits (statement (entry_in es) near s) at us us₃ r₃
      by (put k x b l) = absurd (omega arith)
      by (store {a = x'} {i = i} {e = e} k₁ hx hy bd l m) = stored x' (ex ∙ hx) (ey ∙ hy) i e (upto ej l) (subst⁻¹ (λ (h : ℕ). Lies ws e h k) ej (upto ek m))
      by (choose k b l s t) = absurd (omega arith)
      by (while k b l s) = absurd (omega arith)
      by (leave k) = absurd (omega arith)
      by (give k b l) = absurd (omega arith)
      by (emit k b l) = absurd (omega arith)
      by (run k b l) = absurd (omega arith)

module _ {ws es : List ℕ} {near : Bool} {p at : ℕ} {us : List ℕ} where
  -- no statement stands there
  pub statement_none : 7 < word ws p → Statements ws es near p at us us at
  statement_none h = record { each = λ (s : Stmt) (t : Standing ws s p). by t }
    where
      by : {s : Stmt} → Standing ws s p → Emits (statement (entry_in es) near s) at us us at
      by (put k x b l) = absurd (omega arith)
      by (store k x y b l m) = absurd (omega arith)
      by (choose k b l s t) = absurd (omega arith)
      by (while k b l s) = absurd (omega arith)
      by (leave k) = absurd (omega arith)
      by (give k b l) = absurd (omega arith)
      by (emit k b l) = absurd (omega arith)
      by (run k b l) = absurd (omega arith)

  pub statement_far : {j : ℕ} → (word ws p ≡ 4 → ⊥) → j ≡ first_end ws p → 1073741824 < j → Statements ws es near p at us us at
  statement_far h ej far = record { each = λ (s : Stmt) (t : Standing ws s p). by t }
    where
      by : {s : Stmt} → Standing ws s p → Emits (statement (entry_in es) near s) at us us at
      by (put k x b l) = absurd (omega (arith, b))
      by (store k x y b l m) = absurd (omega (arith, b))
      by (choose k b l s t) = absurd (omega (arith, b))
      by (while k b l s) = absurd (omega (arith, b))
      by (leave k) = absurd (h k)
      by (give k b l) = absurd (omega (arith, b))
      by (emit k b l) = absurd (omega (arith, b))
      by (run k b l) = absurd (omega (arith, b))

-- The choice

module _ (entry : ℕ → ℕ) (near : Bool) (e : Expr) (a b : Block) where
  otherwise_long : (b : Block) → length (otherwise b (block entry near b)) ≡ over b + length (block entry near b)
  unfolding block
  otherwise_long C.end = refl
  otherwise_long (C.then s b) = omega arith

  chooses : {at r₁ r₂ r₃ r₄ : ℕ} {us us₁ us₂ us₃ us₄ : List ℕ} → Emits (block entry near b) at us us₁ r₁ → Emits (otherwise b (block entry near b)) at us us₂ r₂ →
      Emits (block entry near a) r₂ us₂ us₃ r₃ → Emits (condition entry near e false 0 (r₁ - r₃)) r₃ us₃ us₄ r₄ → Emits (statement entry near (C.choose e a b)) at us us₄ r₄
  unfolding statement
  chooses {at} {r₁} {r₂} {r₃} {r₄} {us} {us₁} {us₂} {us₃} {us₄} sb so sa sc =
      after_if (after so sa) (omega (arith, sc.position)) (λ (h : length (block entry near a ++ otherwise b (block entry near b)) ≤ at).
      subst (λ (n : ℕ). Emits (condition entry near e false 0 n) r₃ us₃ us₄ r₄) {x = r₁ - r₃} {y = length (block entry near a) + over b}
      (omega (arith, sb.position, so.position, sa.position, otherwise_long b, length-append (block entry near a) (otherwise b (block entry near b)))) sc)

no_statements : {ws : List ℕ} {b : Block} {p n : ℕ} → n ≡ 0 → Stand ws b p n → b ≡ C.end
no_statements z (end h) = refl
no_statements z (then h l s t) = absurd (omega arith)

-- a jump over a second block that isn't empty
passed : (entry : ℕ → ℕ) (near : Bool) {ws : List ℕ} {b : Block} {p n at r₁ r₂ : ℕ} {us us₁ us₂ : List ℕ} → Stand ws b p n → Emits (block entry near b) at us us₁ r₁ →
    PassesOver n at r₁ us₁ us₂ r₂ → Emits (otherwise b (block entry near b)) at us us₂ r₂
unfolding block
passed entry near {at = at} {r₁ = r₁} {r₂ = r₂} {us = us} {us₁ = us₁} {us₂ = us₂} (end h) s o =
    subst⁻¹ (λ (l : List ℕ). Emits [] at us l r₂) (o.words h) (subst⁻¹ (λ (k : ℕ). Emits [] at us us₁ k) (o.stays h) s)
passed entry near {at = at} {r₁ = r₁} {r₂ = r₂} {us = us} {us₁ = us₁} {us₂ = us₂} (then {s = x} {b = b} h l t ts) s o =
    after_if s (omega (arith, (o.jumps (λ (z : _ ≡ 0). absurd (omega arith))).position)) (λ (g : length (block entry near (C.then x b)) ≤ at).
    subst (λ (k : ℕ). Emits (jump (suc k) ∷ []) r₁ us₁ us₂ r₂) {x = at - r₁} {y = length (block entry near (C.then x b))} (omega (arith, s.position)) (o.jumps (λ (z : _ ≡ 0). absurd (omega arith))))

module _ {ws es : List ℕ} {near : Bool} {p at : ℕ} {us us₁ us₂ us₃ us₄ : List ℕ} {r₁ r₂ r₃ r₄ : ℕ} where
  pub statement_choose : {j q n m : ℕ} → word ws p ≡ 2 → j ≡ first_end ws p → q ≡ second_block ws p → n ≡ word ws (p + 5) → m ≡ word ws (p + 6) → Blocks ws es near q m at us us₁ r₁ →
      PassesOver m at r₁ us₁ us₂ r₂ → Blocks ws es near j n r₂ us₂ us₃ r₃ → Conditions ws es near false j 0 r₃ r₁ us₃ us₄ r₄ → Statements ws es near p at us us₄ r₄
  statement_choose {j} {q} {n} {m} kind ej eq en em sb so sa sc = record { each = λ (s : Stmt) (t : Standing ws s p). by t }
    where
      chosen : (e : Expr) (a b : Block) → Lies ws e (p + 8) j → Stand ws a j n → Stand ws b q m → Emits (statement (entry_in es) near (C.choose e a b)) at us us₄ r₄
      chosen e a b l ta tb =
          chooses (entry_in es) near e a b (sb.each b tb) (passed (entry_in es) near tb (sb.each b tb) so) (sa.each a ta) (sc.each e (p + 8) l (omega arith))

      placed : {b : Block} {x y n m : ℕ} → x ≡ y → n ≡ m → Stand ws b y m → Stand ws b x n
      placed {b} {x} {y} {n} {m} e f t = subst⁻¹ (λ (k : ℕ). Stand ws b k n) e (subst⁻¹ (λ (k : ℕ). Stand ws b y k) f t)

      by : {s : Stmt} → Standing ws s p → Emits (statement (entry_in es) near s) at us us₄ r₄
      by (put k x b l) = absurd (omega arith)
      by (store k x y b l m) = absurd (omega arith)
      by (choose {e} {a} {b} k f l s t) = chosen e a b (upto ej l) (placed ej en s) (placed eq em t)
      by (while k b l s) = absurd (omega arith)
      by (leave k) = absurd (omega arith)
      by (give k b l) = absurd (omega arith)
      by (emit k b l) = absurd (omega arith)
      by (run k b l) = absurd (omega arith)

module _ {ws es : List ℕ} {near : Bool} {p at : ℕ} {us : List ℕ} where
  pub choose_far : {q : ℕ} → word ws p ≡ 2 → q ≡ second_block ws p → 1073741824 < q → Statements ws es near p at us us at
  choose_far kind eq far = record { each = λ (s : Stmt) (t : Standing ws s p). by t }
    where
      by : {s : Stmt} → Standing ws s p → Emits (statement (entry_in es) near s) at us us at
      by (put k x b l) = absurd (omega arith)
      by (store k x y b l m) = absurd (omega arith)
      by (choose k f l s t) = absurd (omega (arith, f))
      by (while k b l s) = absurd (omega arith)
      by (leave k) = absurd (omega arith)
      by (give k b l) = absurd (omega arith)
      by (emit k b l) = absurd (omega arith)
      by (run k b l) = absurd (omega arith)

-- The loop

module _ (entry : ℕ → ℕ) (near : Bool) (e : Expr) (b : Block) where
  abbrev tested : List Instruction
  tested = condition entry near e false 0 (suc (length (block entry near b)))

  abbrev back : Instruction
  back = jump_back (length tested + length (block entry near b))

  turns : {at r₁ r₂ : ℕ} {us us₁ us₂ us₃ : List ℕ} → 0 < at → Emits (block entry near b) (at - 1) us us₁ r₁ → Emits (condition entry near e false 0 (at - r₁)) r₁ us₁ us₂ r₂ →
      Puts (Jal 0 (distance (at - 1) r₂)) at us₂ us₃ (at - 1) → Emits (statement entry near (C.while e b)) at us us₃ r₂
  unfolding statement
  turns {at} {r₁} {r₂} {us} {us₁} {us₂} {us₃} h sb sc sj =
      subst (λ (c : List Instruction). Emits c at us us₃ r₂) (append_assoc tested (block entry near b) (back ∷ [])) (filled (tested ++ block entry near b) back (Jal 0 (distance (at - 1) r₂)) body reached sj)
    where
      body : Emits (tested ++ block entry near b) (at - 1) us us₂ r₂
      body = after_if sb (omega (arith, sc.position)) (λ (g : length (block entry near b) ≤ at - 1).
          subst (λ (n : ℕ). Emits (condition entry near e false 0 n) r₁ us₁ us₂ r₂) {x = at - r₁} {y = suc (length (block entry near b))} (omega (arith, sb.position)) sc)

      reached : real (at - 1) back ≡ Jal 0 (distance (at - 1) r₂)
      reached = ap (λ (n : ℕ). Jal 0 (distance (at - 1) n)) {x = at - 1 - (length tested + length (block entry near b))} {y = r₂} (omega (arith, body.position, length-append tested (block entry near b)))

  no_turns : {us : List ℕ} → Emits (statement entry near (C.while e b)) 0 us us 0
  unfolding statement
  no_turns {us} = record {
    position = omega arith;
    words = λ (h : length (tested ++ (block entry near b ++ (back ∷ []))) ≤ 0).
        absurd (omega (arith, h, length-append tested (block entry near b ++ (back ∷ [])), length-append (block entry near b) (back ∷ [])));
  }

module _ {ws es : List ℕ} {near : Bool} {p at : ℕ} {us us₁ us₂ us₃ : List ℕ} {r₁ r₂ : ℕ} where
  pub statement_while : {j n : ℕ} → word ws p ≡ 3 → 0 < at → j ≡ first_end ws p → n ≡ word ws (p + 5) → Blocks ws es near j n (at - 1) us us₁ r₁ →
      Conditions ws es near false j 0 r₁ at us₁ us₂ r₂ → Puts (Jal 0 (distance (at - 1) r₂)) at us₂ us₃ (at - 1) → Statements ws es near p at us us₃ r₂
  statement_while {j} {n} kind pos ej en sb sc sj = record { each = λ (s : Stmt) (t : Standing ws s p). by t }
    where
      turned : (e : Expr) (b : Block) → Lies ws e (p + 8) j → Stand ws b j n → Emits (statement (entry_in es) near (C.while e b)) at us us₃ r₂
      turned e b l t = turns (entry_in es) near e b pos (sb.each b t) (sc.each e (p + 8) l (omega arith)) sj

      by : {s : Stmt} → Standing ws s p → Emits (statement (entry_in es) near s) at us us₃ r₂
      by (put k x b l) = absurd (omega arith)
      by (store k x y b l m) = absurd (omega arith)
      by (choose k b l s t) = absurd (omega arith)
      by (while {e} {b} k f l s) = turned e b (upto ej l) (subst⁻¹ (λ (k : ℕ). Stand ws b k n) ej (subst⁻¹ (λ (k : ℕ). Stand ws b (first_end ws p) k) en s))
      by (leave k) = absurd (omega arith)
      by (give k b l) = absurd (omega arith)
      by (emit k b l) = absurd (omega arith)
      by (run k b l) = absurd (omega arith)

module _ {ws es : List ℕ} {near : Bool} {p at : ℕ} {us : List ℕ} where
  pub while_nowhere : word ws p ≡ 3 → at ≡ 0 → Statements ws es near p at us us 0
  while_nowhere kind z = record { each = λ (s : Stmt) (t : Standing ws s p). subst⁻¹ (λ (k : ℕ). Emits (statement (entry_in es) near s) k us us 0) z (by t) }
    where
      by : {s : Stmt} → Standing ws s p → Emits (statement (entry_in es) near s) 0 us us 0
      by (put k x b l) = absurd (omega arith)
      by (store k x y b l m) = absurd (omega arith)
      by (choose k b l s t) = absurd (omega arith)
      by (while {e} {b} k f l s) = no_turns (entry_in es) near e b
      by (leave k) = absurd (omega arith)
      by (give k b l) = absurd (omega arith)
      by (emit k b l) = absurd (omega arith)
      by (run k b l) = absurd (omega arith)

-- Blocks

abbrev firsts : ℕ → Block → Block
firsts zero b = C.end
firsts (suc m) C.end = C.end
firsts (suc m) (C.then s b) = C.then s (firsts m b)

without_next : (m : ℕ) (s : Stmt) (b : Block) → without (suc m) (C.then s b) ≡ without m b
unfolding without rest
without_next zero s b = refl
without_next (suc m) s b = ap rest (without_next m s b)

without_end : (m : ℕ) → without m C.end ≡ C.end
unfolding without rest
without_end zero = refl
without_end (suc m) = ap rest (without_end m)

halves : (entry : ℕ → ℕ) (near : Bool) (m : ℕ) (b : Block) → block entry near b ≡ block entry near (firsts m b) ++ block entry near (without m b)
unfolding block without
halves entry near zero b = refl
halves entry near (suc m) C.end = ap (block entry near) (sym (without_end (suc m)))
halves entry near (suc m) (C.then s b) =
    ap (λ (c : List Instruction). statement entry near s ++ c) (halves entry near m b ∙ ap (λ (x : Block). block entry near (firsts m b) ++ block entry near x) (sym (without_next m s b)))
    ∙ sym (append_assoc (statement entry near s) (block entry near (firsts m b)) (block entry near (without (suc m) (C.then s b))))

firsts_stand : {ws : List ℕ} (m : ℕ) {b : Block} {p n : ℕ} → m ≤ n → Stand ws b p n → Stand ws (firsts m b) p m
firsts_stand zero h t = end refl
firsts_stand (suc m) h (end e) = absurd (omega arith)
firsts_stand (suc m) h (then e l s t) = then refl l s (firsts_stand m (omega arith) t)

module _ {ws es : List ℕ} {near : Bool} {p n at : ℕ} {us : List ℕ} where
  pub blocks_none : n ≡ 0 → Blocks ws es near p n at us us at
  unfolding block
  blocks_none z = record { each = λ (b : Block) (t : Stand ws b p n). subst⁻¹ (λ (x : Block). Emits (block (entry_in es) near x) at us us at) (no_statements z t) none }

  pub blocks_one : {us₁ : List ℕ} {r₁ : ℕ} → n ≡ 1 → Statements ws es near p at us us₁ r₁ → Blocks ws es near p n at us us₁ r₁
  unfolding block
  blocks_one {us₁} {r₁} z s = record { each = λ (b : Block) (t : Stand ws b p n). by t }
    where
      alone : (x : Stmt) (b : Block) → b ≡ C.end → Emits (statement (entry_in es) near x) at us us₁ r₁ → Emits (block (entry_in es) near (C.then x b)) at us us₁ r₁
      alone x b e f = subst⁻¹ (λ (y : Block). Emits (block (entry_in es) near (C.then x y)) at us us₁ r₁) e (subst⁻¹ (λ (c : List Instruction). Emits c at us us₁ r₁) (append-nil (statement (entry_in es) near x)) f)

      by : {b : Block} → Stand ws b p n → Emits (block (entry_in es) near b) at us us₁ r₁
      by (end h) = absurd (omega arith)
      by (then {s = x} {b = b} h l t ts) = alone x b (no_statements (omega arith) ts) (s.each x t)

  pub blocks_halves : {m q r₁ r₂ : ℕ} {us₁ us₂ : List ℕ} → m ≤ n → Skips ws p m q → Blocks ws es near q (n - m) at us us₁ r₁ → Blocks ws es near p m r₁ us₁ us₂ r₂ → Blocks ws es near p n at us us₂ r₂
  blocks_halves {m} {q} {r₁} {r₂} {us₁} {us₂} h k s f = record {
    each = λ (b : Block) (t : Stand ws b p n).
        subst⁻¹ (λ (c : List Instruction). Emits c at us us₂ r₂) (halves (entry_in es) near m b) (after (s.each (without m b) (k.each b n t h)) (f.each (firsts m b) (firsts_stand m h t)));
  }

inside : {ws : List ℕ} {b : Block} {p n : ℕ} → (n ≡ 0 → ⊥) → Stand ws b p n → p ≤ 1073741824
inside z (end h) = absurd (z h)
inside z (then h l s t) = l

without_more : (i : ℕ) (b : Block) → without (i + 1) b ≡ rest (without i b)
unfolding without
without_more i b = ap (λ (m : ℕ). without m b) {x = i + 1} {y = suc i} (omega arith)

further : {ws : List ℕ} {b : Block} {q k : ℕ} → Stand ws b q k → (k ≡ 0 → ⊥) → Stand ws (rest b) (behind ws q) (k - 1)
unfolding rest
further (end h) z = absurd (z h)
further {ws} {q = q} {k = k} (then {b = b} {m = m} h l t ts) z = subst (λ (i : ℕ). Stand ws b (behind ws q) i) {x = m} {y = k - 1} (omega arith) ts

module _ {ws : List ℕ} {p : ℕ} where
  pub blocks_far : {es : List ℕ} {near : Bool} {n at m q : ℕ} {us : List ℕ} → m < n → Skips ws p m q → 1073741824 < q → Blocks ws es near p n at us us at
  blocks_far {n = n} {m = m} h k far = record { each = λ (b : Block) (t : Stand ws b p n). absurd (omega (arith, inside (λ (z : n - m ≡ 0). omega arith) (k.each b n t (omega arith)))) }

  pub skips_start : Skips ws p 0 p
  unfolding without
  skips_start = record { each = λ (b : Block) (n : ℕ) (t : Stand ws b p n) (h : 0 ≤ n). subst (λ (k : ℕ). Stand ws b p k) {x = n} {y = n - 0} (omega arith) t }

  next : {i q : ℕ} → Skips ws p i q → Skips ws p (i + 1) (behind ws q)
  next {i} {q} k = record { each = λ (b : Block) (n : ℕ) (t : Stand ws b p n) (h : i + 1 ≤ n). by b n t h }
    where
      by : (b : Block) (n : ℕ) → Stand ws b p n → i + 1 ≤ n → Stand ws (without (i + 1) b) (behind ws q) (n - (i + 1))
      by b n t h =
          subst⁻¹ (λ (x : Block). Stand ws x (behind ws q) (n - (i + 1))) (without_more i b)
          (subst (λ (m : ℕ). Stand ws (rest (without i b)) (behind ws q) m) {x = n - i - 1} {y = n - (i + 1)} (omega arith) (further (k.each b n t (omega arith)) (λ (z : n - i ≡ 0). omega arith)))

  pub skips_far : {i m q : ℕ} → Skips ws p i q → i < m → 1073741824 < q → Skips ws p m q
  skips_far {i} {m} {q} k h far = record {
    each = λ (b : Block) (n : ℕ) (t : Stand ws b p n) (l : m ≤ n). absurd (omega (arith, inside (λ (z : n - i ≡ 0). omega arith) (k.each b n t (omega arith))));
  }

  pub skips_next : {i q w : ℕ} → Skips ws p i q → w ≡ word ws (q + 7) → Skips ws p (i + 1) (q + 8 + w)
  skips_next {i} {q} k e = subst⁻¹ (λ (n : ℕ). Skips ws p (i + 1) (q + 8 + n)) e (next k)

  pub skips_end : {i m q : ℕ} → Skips ws p i q → i ≡ m → Skips ws p m q
  skips_end {q = q} k e = subst (λ (n : ℕ). Skips ws p n q) e k

-- The jump over a second block

pub over_none : {m at low : ℕ} {us : List ℕ} → m ≡ 0 → PassesOver m at low us us low
over_none z = record { stays = λ _. refl; words = λ _. refl; jumps = λ h. absurd (h z) }

pub over_jump : {m at low r : ℕ} {us us' : List ℕ} → (m ≡ 0 → ⊥) → Emits (jump (suc (at - low)) ∷ []) low us us' r → PassesOver m at low us us' r
over_jump h s = record { stays = λ z. absurd (h z); words = λ z. absurd (h z); jumps = λ _. s }

-- No expression, and no statement, is so short or so far

pub answer_nowhere : {ws es : List ℕ} {near : Bool} {j at : ℕ} {us : List ℕ} → j < 4 → Answers ws es near j at us us at
answer_nowhere {ws} {j = j} h = record { each = λ (x : Expr) (i : ℕ) (l : Lies ws x i j). absurd (omega (arith, ends l)) }

pub store_far : {ws es : List ℕ} {near : Bool} {p at k : ℕ} {us : List ℕ} → word ws p ≡ 1 → k ≡ second_end ws p → 1073741824 < k → Statements ws es near p at us us at
store_far {ws} {es} {near} {p} {at} {k} {us} kind e far = record { each = λ (s : Stmt) (t : Standing ws s p). by t }
  where
    by : {s : Stmt} → Standing ws s p → Emits (statement (entry_in es) near s) at us us at
    by (put k x b l) = absurd (omega arith)
    by (store k x y b l m) = absurd (omega (arith, b))
    by (choose k b l s t) = absurd (omega arith)
    by (while k b l s) = absurd (omega arith)
    by (leave k) = absurd (omega arith)
    by (give k b l) = absurd (omega arith)
    by (emit k b l) = absurd (omega arith)
    by (run k b l) = absurd (omega arith)
