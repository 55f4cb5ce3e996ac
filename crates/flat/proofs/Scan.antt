-- The scan of an expression's items is its evaluation, to the unit of fuel: by induction on the expression, with what follows it left open.
use mathlib.Core.Path.{◌≡◌, refl, sym, ap, ◌∙◌}
use mathlib.Core.List.{List, [], ◌∷◌, ◌++◌}
use Prim.Native.Nat.{ℕ, zero, suc, ◌+◌, ◌≤◌, ◌<◌}
use native.Mathlib.Omega.{arith}
use lib.ListN.{length, drop, length-append}
use borrow.Author.Tests.{lt-ltb, le-ltb}
use Rattle.language.specs.Core.{Expr, Args}
use Rattle.language.specs.Core as C
use Rattle.language.specs.Rules.{most_locals}
use Rattle.language.specs.Meaning.{World, Result, Act, bind, value, branch, apply, operate, read, fetch, eval, evals}
use Rattle.flat.specs.Items.{and, or, join, Item, item, size, sizes, code, codes, most_operands, begins, popped, Onward, push, step, scan}
use Rattle.flat.specs.Fits.{operands, operands_all, arguments, locals, locals_all}
use Rattle.flat.proofs.Bind.{bind_assoc, bind_ext, begins_more}

-- operands that came last to first, put back before vs
unfoldable pub onto : List ℕ → List ℕ → List ℕ
onto [] vs = vs
onto (w ∷ ws) vs = onto ws (w ∷ vs)

length_onto : (ws vs : List ℕ) → length (onto ws vs) ≡ length ws + length vs
unfolding onto
length_onto [] vs = omega arith
length_onto (w ∷ ws) vs = length_onto ws (w ∷ vs) ∙ omega arith

popped_all : (ws vs more : List ℕ) → popped (length ws) (ws ++ vs) more ≡ onto ws more
unfolding popped onto
popped_all [] vs more = refl
popped_all (w ∷ ws) vs more = popped_all ws vs (w ∷ more)

drop_all : (ws vs : List ℕ) → drop (length ws) (ws ++ vs) ≡ vs
drop_all [] vs = refl
drop_all (w ∷ ws) vs = drop_all ws vs

-- an expression has at least one operand, its value
some_operand : (e : Expr) → 1 ≤ operands e
unfolding operands
some_operand (C.number x) = omega arith
some_operand (C.local x) = omega arith
some_operand (C.element a i) = some_operand i
some_operand (C.call f xs) = omega arith
some_operand (C.unary o a) = some_operand a
some_operand (C.strict o a b) = omega (arith, some_operand a)
some_operand (C.and a b) = omega (arith, some_operand a)
some_operand (C.or a b) = omega (arith, some_operand a)

push_in : (vs : List ℕ) (k : Onward) (v : ℕ) (ls : List ℕ) (w : World) → length vs < most_operands → push vs k v ls w ≡ k 0 (v ∷ vs) ls w
unfolding push
push_in vs k v ls w h = rw (lt-ltb _ _ h)

push_out : (r : Result ℕ) (vs : List ℕ) (k : Onward) → length vs < most_operands → bind r (push vs k) ≡ bind r (λ v. k 0 (v ∷ vs))
push_out r vs k h = bind_ext r (λ v ls w. push_in vs k v ls w h)

-- Skipping goes over all items of an expression.
module _ (invoke : ℕ → List ℕ → Act ℕ) where
  skip_one : (i : Item) (is : List Item) (m n : ℕ) (vs ls : List ℕ) (w : World) → n ≡ 1 + m → scan invoke (i ∷ is) n vs ls w ≡ scan invoke is m vs ls w
  unfolding scan
  skip_one i is m zero vs ls w h = absurd (omega arith)
  skip_one i is m (suc n) vs ls w h = ap (λ (j : ℕ). scan invoke is j vs ls w) (omega arith)

  mutual
    unfolding size code

    skip_code : (e : Expr) (k : ℕ) (is : List Item) (m n : ℕ) (vs ls : List ℕ) (w : World) → n ≡ size e + m → scan invoke (code e k is) n vs ls w ≡ scan invoke is m vs ls w
    skip_code (C.number x) k is m n vs ls w h = skip_one _ is m n vs ls w h
    skip_code (C.local x) k is m n vs ls w h = skip_one _ is m n vs ls w h
    skip_code (C.element a i) k is m n vs ls w h = skip_code i _ _ (1 + m) n vs ls w (omega arith) ∙ skip_one _ is m _ vs ls w refl
    skip_code (C.call f xs) k is m n vs ls w h = skip_codes xs f _ _ is m n vs ls w h
    skip_code (C.unary o a) k is m n vs ls w h = skip_code a _ _ (1 + m) n vs ls w (omega arith) ∙ skip_one _ is m _ vs ls w refl
    skip_code (C.strict o a b) k is m n vs ls w h =
        skip_code a _ _ (size b + (1 + m)) n vs ls w (omega arith) ∙ (skip_code b _ _ (1 + m) _ vs ls w refl ∙ skip_one _ is m _ vs ls w refl)
    skip_code (C.and a b) k is m n vs ls w h =
        skip_code a _ _ (1 + (size b + (1 + m))) n vs ls w (omega arith) ∙
        (skip_one _ _ (size b + (1 + m)) _ vs ls w refl ∙ (skip_code b _ _ (1 + m) _ vs ls w refl ∙ skip_one _ is m _ vs ls w refl))
    skip_code (C.or a b) k is m n vs ls w h =
        skip_code a _ _ (1 + (size b + (1 + m))) n vs ls w (omega arith) ∙
        (skip_one _ _ (size b + (1 + m)) _ vs ls w refl ∙ (skip_code b _ _ (1 + m) _ vs ls w refl ∙ skip_one _ is m _ vs ls w refl))

    skip_codes : (xs : Args) (f j k : ℕ) (is : List Item) (m n : ℕ) (vs ls : List ℕ) (w : World) → n ≡ sizes xs + m → scan invoke (codes xs f j k is) n vs ls w ≡ scan invoke is m vs ls w
    skip_codes C.none f j k is m n vs ls w h = skip_one _ is m n vs ls w h
    skip_codes (C.more e xs) f j k is m n vs ls w h = skip_code e _ _ (sizes xs + m) n vs ls w (omega arith) ∙ skip_codes xs f _ _ is m _ vs ls w refl

-- What a call does for the scan and for the evaluation: the same, where the locals find room. Function f has `lets f` locals besides its arguments.
pub record Agree (lets : ℕ → ℕ) (invoke call_fn : ℕ → List ℕ → Act ℕ) : Type 0 where
  pub same : (f : ℕ) (vs ls : List ℕ) (w : World) → length vs + lets f ≤ most_locals → invoke f vs ls w ≡ call_fn f vs ls w

module _ (room : ℕ) (lets : ℕ → ℕ) (invoke call_fn : ℕ → List ℕ → Act ℕ) (agree : Agree lets invoke call_fn) where
  abbrev ev : Expr → Act ℕ
  ev e = eval room call_fn e

  abbrev evs : Args → Act (List ℕ)
  evs xs = evals room call_fn xs

  abbrev sc : List Item → Onward
  sc is = scan invoke is

  -- the right side's items are scanned, or skipped
  module _ (b : Expr) (is : List Item) (vs : List ℕ) (h : length vs < most_operands)
      (ih : (ls : List ℕ) (w : World) → sc (code b 0 (item 0 join ∷ is)) 0 vs ls w ≡ bind (ev b ls w) (λ v. sc (item 0 join ∷ is) 0 (v ∷ vs))) where
    joined : (v : ℕ) (ls : List ℕ) (w : World) → sc (item 0 join ∷ is) 0 (v ∷ vs) ls w ≡ sc is 0 (v ∷ vs) ls w
    unfolding scan step begins bind
    joined v ls w = refl

    right : (ls : List ℕ) (w : World) → sc (code b 0 (item 0 join ∷ is)) 0 vs ls w ≡ bind (ev b ls w) (λ v. sc is 0 (v ∷ vs))
    right ls w = ih ls w ∙ bind_ext (ev b ls w) joined

    skipped : (v : ℕ) (ls : List ℕ) (w : World) → push vs (λ _. sc (code b 0 (item 0 join ∷ is)) (size b)) v ls w ≡ sc is 0 (v ∷ vs) ls w
    skipped v ls w = push_in vs _ v ls w h ∙ (skip_code invoke b 0 _ 0 (size b) (v ∷ vs) ls w (omega arith) ∙ joined v ls w)

    and_way : (x : ℕ) (ls : List ℕ) (w : World) → step invoke (and (size b)) (x ∷ vs) (sc (code b 0 (item 0 join ∷ is))) ls w ≡ bind (branch x (ev b) (value 0) ls w) (λ v. sc is 0 (v ∷ vs))
    unfolding step bind
    and_way zero ls w = skipped 0 ls w
    and_way (suc x) ls w = right ls w

    or_way : (x : ℕ) (ls : List ℕ) (w : World) → step invoke (or (size b)) (x ∷ vs) (sc (code b 0 (item 0 join ∷ is))) ls w ≡ bind (branch x (value 1) (ev b) ls w) (λ v. sc is 0 (v ∷ vs))
    unfolding step bind
    or_way zero ls w = right ls w
    or_way (suc x) ls w = skipped 1 ls w

  mutual
    unfolding code eval scan step begins bind operands arguments locals onto

    -- k nodes begin, the expression is evaluated, and the scan goes on with its value
    pub scan_code : (e : Expr) (k : ℕ) (is : List Item) (vs ls : List ℕ) (w : World) → length vs + operands e ≤ most_operands → locals lets e ≤ most_locals →
        sc (code e k is) 0 vs ls w ≡ bind (begins k ls w) (λ _ ls' w'. bind (ev e ls' w') (λ v. sc is 0 (v ∷ vs)))
    scan_code (C.number x) k is vs ls w h g = bind_ext (begins (suc k) ls w) (λ _ ls' w'. push_in vs _ x ls' w' (omega arith)) ∙ begins_more k (value x) _ ls w
    scan_code (C.local x) k is vs ls w h g = bind_ext (begins (suc k) ls w) (λ _ ls' w'. push_out (fetch x ls' w') vs _ (omega arith)) ∙ begins_more k (fetch x) _ ls w
    scan_code (C.element a i) k is vs ls w h g =
        scan_code i (suc k) _ vs ls w h g ∙
        (bind_ext (begins (suc k) ls w)
        (λ _ ls' w'. bind_ext (ev i ls' w') (λ x l u. push_out (read a x l u) vs _ (omega (arith, some_operand i))) ∙ sym (bind_assoc (ev i ls' w') _ _)) ∙
        begins_more k (λ ls' w'. bind (ev i ls' w') (λ x. read a x)) _ ls w)
    scan_code (C.call f xs) k is vs ls w h g =
        scan_codes xs f (suc k) is [] vs ls w (omega arith) (omega arith) (omega arith) (omega arith) ∙
        (bind_ext (begins (suc k) ls w) (λ _ ls' w'. sym (bind_assoc (evs xs ls' w') _ _)) ∙ begins_more k (λ ls' w'. bind (evs xs ls' w') (λ us. call_fn f us)) _ ls w)
    scan_code (C.unary o a) k is vs ls w h g =
        scan_code a (suc k) _ vs ls w h g ∙
        (bind_ext (begins (suc k) ls w)
        (λ _ ls' w'. bind_ext (ev a ls' w') (λ x l u. push_in vs _ _ l u (omega (arith, some_operand a))) ∙ sym (bind_assoc (ev a ls' w') _ _)) ∙
        begins_more k (λ ls' w'. bind (ev a ls' w') (λ x. value (apply o x))) _ ls w)
    scan_code (C.strict o a b) k is vs ls w h g =
        scan_code a (suc k) _ vs ls w (omega arith) (omega arith) ∙
        (bind_ext (begins (suc k) ls w)
        (λ _ ls' w'. bind_ext (ev a ls' w')
        (λ x l u. scan_code b 0 _ (x ∷ vs) l u (omega arith) (omega arith) ∙
        (bind_ext (ev b l u) (λ y l' u'. push_out (operate o x y l' u') vs _ (omega (arith, some_operand a))) ∙ sym (bind_assoc (ev b l u) _ _))) ∙
        sym (bind_assoc (ev a ls' w') _ _)) ∙
        begins_more k (λ ls' w'. bind (ev a ls' w') (λ x l u. bind (ev b l u) (λ y. operate o x y))) _ ls w)
    scan_code (C.and a b) k is vs ls w h g =
        scan_code a (suc k) _ vs ls w (omega arith) (omega arith) ∙
        (bind_ext (begins (suc k) ls w)
        (λ _ ls' w'. bind_ext (ev a ls' w') (λ x l u. and_way b is vs (omega (arith, some_operand a)) (λ l' u'. scan_code b 0 _ vs l' u' (omega arith) (omega arith)) x l u) ∙
        sym (bind_assoc (ev a ls' w') _ _)) ∙
        begins_more k (λ ls' w'. bind (ev a ls' w') (λ x. branch x (ev b) (value 0))) _ ls w)
    scan_code (C.or a b) k is vs ls w h g =
        scan_code a (suc k) _ vs ls w (omega arith) (omega arith) ∙
        (bind_ext (begins (suc k) ls w)
        (λ _ ls' w'. bind_ext (ev a ls' w') (λ x l u. or_way b is vs (omega (arith, some_operand a)) (λ l' u'. scan_code b 0 _ vs l' u' (omega arith) (omega arith)) x l u) ∙
        sym (bind_assoc (ev a ls' w') _ _)) ∙
        begins_more k (λ ls' w'. bind (ev a ls' w') (λ x. branch x (value 1) (ev b))) _ ls w)

    -- the same of arguments and their call, after the arguments ws
    pub scan_codes : (xs : Args) (f k : ℕ) (is : List Item) (ws vs ls : List ℕ) (w : World) → length vs < most_operands → length (ws ++ vs) + operands_all xs ≤ most_operands →
        locals_all lets xs ≤ most_locals → length ws + arguments xs + lets f ≤ most_locals →
        sc (codes xs f (length ws) k is) 0 (ws ++ vs) ls w ≡
        bind (begins k ls w) (λ _ ls' w'. bind (evs xs ls' w') (λ us l u. bind (call_fn f (onto ws us) l u) (λ v. sc is 0 (v ∷ vs))))
    scan_codes C.none f k is ws vs ls w h g q z =
        bind_ext (begins k ls w)
        (λ _ ls' w'. rw (le-ltb (length (ws ++ vs)) (length ws) (omega (arith, length-append ws vs)), popped_all ws vs [], drop_all ws vs, agree.same f (onto ws []) ls' w' (omega (arith, length_onto ws [])))
        (push_out (call_fn f (onto ws []) ls' w') vs _ h))
    scan_codes (C.more e xs) f k is ws vs ls w h g q z =
        scan_code e k _ (ws ++ vs) ls w (omega arith) (omega arith) ∙
        bind_ext (begins k ls w)
        (λ _ ls' w'. bind_ext (ev e ls' w') (λ v l u. scan_codes xs f 0 is (v ∷ ws) vs l u h (omega arith) (omega arith) (omega arith) ∙ sym (bind_assoc (evs xs l u) _ _)) ∙
        sym (bind_assoc (ev e ls' w') _ _))
