-- Calls: a function that is known is called with as many arguments as it has parameters.
use mathlib.Core.Path.{◌≡◌, refl, sym, ap, ◌∙◌}
use mathlib.Core.List.{List, [], ◌∷◌}
use Prim.Native.Nat.{ℕ, zero, suc}
use lib.ListN.{length, get_or}
use Rattle.language.specs.Tree.{Place, Ty}
use Rattle.language.specs.Core.{Function}
use Rattle.language.specs.Core as C
use Rattle.language.specs.Rules.{Global, Signature, Typed, fit}
use Rattle.codegen.specs.Owed.{count, Callable, nothing}
use Rattle.elaboration.proofs.All.{All, kept, broken, then}
use Rattle.elaboration.proofs.Declarations.{Callee}
use Rattle.elaboration.proofs.Wanted.{wanted}

-- how many parameters each function has
unfoldable pub parameters_of : List Function → List ℕ
parameters_of [] = []
parameters_of (g ∷ fs) = g.parameters ∷ parameters_of fs

pub parameters_length : (fs : List Function) → length (parameters_of fs) ≡ length fs
unfolding parameters_of
parameters_length [] = refl
parameters_length (g ∷ fs) = ap suc (parameters_length fs)

pub parameters_at : (fs : List Function) (f : ℕ) → get_or (parameters_of fs) f 0 ≡ (get_or fs f nothing).parameters
unfolding parameters_of
parameters_at [] f = refl
parameters_at (g ∷ fs) zero = refl
parameters_at (g ∷ fs) (suc f) = parameters_at fs f

-- the arguments of a call, without their types
unfoldable pub args_of : List Typed → C.Args
args_of [] = C.none
args_of (e ∷ es) = C.more e.expr (args_of es)

pub fitted : (P : C.Args → Type 0) (globals : List Global) (at : Place) (es : List Typed) (ts : List Ty) → (count (args_of es) ≡ length ts → P (args_of es)) → All P (fit globals at es ts)
unfolding fit args_of
fitted P globals at [] [] h = kept (h refl)
fitted P globals at [] (t ∷ ts) h = broken
fitted P globals at (e ∷ es) [] h = broken
fitted P globals at (e ∷ es) (t ∷ ts) h =
    then (wanted (λ v. v ≡ e.expr) t at e refl) λ v p.
    then (fitted (λ vs. P (C.more v vs)) globals at es ts (λ q. rw p (h (ap suc q)))) λ vs k.
    kept k

module _ (functions : List Function) (elements : ℕ) where
  -- the call of a known function with the right number of arguments
  pub callable : {s : Signature} {xs : C.Args} → Callee (parameters_of functions) s → count xs ≡ length s.parameters → Callable functions elements s.number xs
  callable {s} c e = record { known = rw (← parameters_length functions) c.known; arity = e ∙ (sym c.right ∙ parameters_at functions s.number) }
