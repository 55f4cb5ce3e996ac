-- Flat statements, blocks and calls mean what those of the core mean, to the unit of fuel.
use mathlib.Core.Path.{◌≡◌, refl, sym, ap, ◌∙◌, fun_ext}
use mathlib.Core.List.{List, [], ◌++◌}
use Prim.Native.Nat.{ℕ, zero, suc, ◌+◌, ◌≤◌}
use native.Mathlib.Omega.{arith}
use lib.ListN.{length, replicate}
use borrow.Author.Tests.{le-leb}
use Rattle.language.specs.Core.{Expr, Args}
use Rattle.language.specs.Core as C
use Rattle.language.specs.Rules.{most_locals}
use Rattle.language.specs.Meaning.{World, Act, bind, value, begin, Flow, next, rounds, back, eval, evals, exec, block, call_at}
use Rattle.flat.specs.Items.{code, codes, most_operands, begins, scan, evaluate}
use Rattle.flat.specs.Statements.{Function, flat, flats, flatten, fexec, fblock, fcall_at}
use Rattle.flat.specs.Fits.{operands, locals, most, most_all, function_at, lets_of, body_of, block_operands, block_locals}
use Rattle.flat.proofs.Bind.{bind_assoc, bind_ext, bind_goes}
use Rattle.flat.proofs.Scan.{onto, Agree, scan_code, scan_codes}

module _ (room : ℕ) (lets : ℕ → ℕ) (invoke call_fn : ℕ → List ℕ → Act ℕ) (agree : Agree lets invoke call_fn) where
  pub evaluate_code : (e : Expr) → operands e ≤ most_operands → locals lets e ≤ most_locals → evaluate invoke (code e 0 []) ≡ eval room call_fn e
  unfolding evaluate begins bind scan
  evaluate_code e h g = fun_ext (λ ls. fun_ext (λ w. scan_code room lets invoke call_fn agree e 0 [] [] ls w (omega arith) g ∙ bind_goes (eval room call_fn e ls w)))

  pub evaluate_codes : (f : ℕ) (xs : Args) → operands (C.call f xs) ≤ most_operands → locals lets (C.call f xs) ≤ most_locals →
      evaluate invoke (codes xs f 0 0 []) ≡ (λ ls w. bind (evals room call_fn xs ls w) (call_fn f))
  unfolding evaluate begins bind scan onto operands locals
  evaluate_codes f xs h g =
      fun_ext (λ ls. fun_ext (λ w. scan_codes room lets invoke call_fn agree xs f 0 [] [] [] ls w (omega arith) (omega arith) (omega arith) (omega arith) ∙
      bind_ext (evals room call_fn xs ls w) (λ vs l u. bind_goes (call_fn f vs l u))))

  abbrev most_operands_of : C.Stmt → ℕ
  most_operands_of s = most operands (λ f xs. operands (C.call f xs)) s

  abbrev most_locals_of : C.Stmt → ℕ
  most_locals_of s = most (locals lets) (λ f xs. locals lets (C.call f xs)) s

  abbrev all_operands : C.Block → ℕ
  all_operands b = most_all operands (λ f xs. operands (C.call f xs)) b

  abbrev all_locals : C.Block → ℕ
  all_locals b = most_all (locals lets) (λ f xs. locals lets (C.call f xs)) b

  mutual
    unfolding flat exec fexec most

    stmt_same : (s : C.Stmt) → most_operands_of s ≤ most_operands → most_locals_of s ≤ most_locals → (ls : List ℕ) (w : World) →
        exec room call_fn s ls w ≡ bind (begin ls w) (λ _. fexec room invoke (flat s))
    stmt_same (C.put x e) h g ls w = rw (evaluate_code e h g)
    stmt_same (C.store a i e) h g ls w = rw (evaluate_code i (omega arith) (omega arith), evaluate_code e (omega arith) (omega arith))
    stmt_same (C.choose e a b) h g ls w =
        rw (
          evaluate_code e (omega arith) (omega arith),
          fun_ext (λ l. fun_ext (λ u. block_same a (omega arith) (omega arith) l u)),
          fun_ext (λ l. fun_ext (λ u. block_same b (omega arith) (omega arith) l u)),
        )
    stmt_same (C.while e b) h g ls w =
        bind_ext (begin ls w)
        (λ _ l u. ap (λ (m : Act ℕ). rounds u.fuel m (block room call_fn b) l u) (sym (evaluate_code e (omega arith) (omega arith))) ∙
        ap (λ (m : Act Flow). rounds u.fuel (evaluate invoke (code e 0 [])) m l u) (sym (fun_ext (λ l'. fun_ext (λ u'. block_same b (omega arith) (omega arith) l' u')))))
    stmt_same C.leave h g ls w = refl
    stmt_same (C.give e) h g ls w = rw (evaluate_code e h g)
    stmt_same (C.emit e) h g ls w = rw (evaluate_code e h g)
    stmt_same (C.run f xs) h g ls w = rw (evaluate_codes f xs h g) (bind_ext (begin ls w) (λ _ l u. sym (bind_assoc (evals room call_fn xs l u) (call_fn f) (λ _. value next))))

    pub block_same : (b : C.Block) → all_operands b ≤ most_operands → all_locals b ≤ most_locals → (ls : List ℕ) (w : World) →
        fblock room invoke (flats b) ls w ≡ block room call_fn b ls w
    block_same C.end h g ls w = refl
    block_same (C.then s b) h g ls w =
        rw (stmt_same s (omega arith) (omega arith) ls w)
        (bind_ext (begin ls w)
        (λ _ l u. bind_ext (fexec room invoke (flat s) l u) (λ f l' u'. rw (fun_ext (λ l''. fun_ext (λ u''. block_same b (omega arith) (omega arith) l'' u''))))) ∙
        sym (bind_assoc (begin ls w) _ _))

-- calls, by the activations that are left
module _ (room : ℕ) (fs : List C.Function) (gs : ℕ → Function) (decoded : (f : ℕ) → gs f ≡ flatten (function_at fs f))
    (h : (f : ℕ) → block_operands (body_of fs f) ≤ most_operands) (g : (f : ℕ) → block_locals (lets_of fs) (body_of fs f) ≤ most_locals) where
  in_call : (left f : ℕ) (vs ls : List ℕ) (w : World) → length vs + lets_of fs f ≤ most_locals → Agree (lets_of fs) (fcall_at room gs left) (call_at room fs left) →
      fcall_at room gs (suc left) f vs ls w ≡ call_at room fs (suc left) f vs ls w
  unfolding fcall_at call_at function_at flatten block_operands block_locals
  in_call left f vs ls w l ih =
      rw (decoded f, le-leb _ _ l) (ap (back room ls) (block_same room (lets_of fs) (fcall_at room gs left) (call_at room fs left) ih (body_of fs f) (h f) (g f) (vs ++ replicate (lets_of fs f) 0) w))

  pub calls_same : (left : ℕ) → Agree (lets_of fs) (fcall_at room gs left) (call_at room fs left)
  unfolding fcall_at call_at
  calls_same zero = record { same = λ f vs ls w l. refl }
  calls_same (suc left) = record { same = λ f vs ls w l. in_call left f vs ls w l (calls_same left) }
