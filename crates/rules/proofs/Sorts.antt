-- Kinds of statements and their numbers.
use mathlib.Core.Path.{◌≡◌, refl, sym, ap, ◌∙◌}
use mathlib.Core.Bool.{true, false}
use mathlib.Core.List.{List}
use mathlib.Core.Logic.{◌⊎◌, inl, inr}
use Prim.Native.Nat.{ℕ, zero, suc, ◌≤◌, ◌<◌}
use native.Mathlib.Omega.{arith}
use borrow.Author.Tests.{ne_eqb}
use denote.Enum.Declared.{tag_of}
use Rattle.language.specs.Tree.{Ty, int, bool}
use Rattle.language.specs.Tree as T
use Rattle.grammar.specs.Flat as G
use Rattle.std.specs.Prelude.{Result, Ok, Err}
use Rattle.std.specs.Result.{result_ok}
use Rattle.flat.specs.declared.UnknownNumber.{UnknownNumber}
use Rattle.grammar.specs.Numbers.{number_of_statement, ReadsStatement}
use Rattle.grammar.specs.declared.tree.Statement.{Statement}
use Rattle.grammar.specs.declared.tree.Statement.TheVariants as V
use Rattle.flat.specs.Numbers.{statement_number}
use Rattle.flat.specs.contracts.statement.Kind.{the_type}
use Rattle.flat.specs.declared.statement.Kind as K
use Rattle.flat.specs.declared.statement.Kind.TheVariants as KV
use Rattle.rules.specs.Tables.{word}
use Rattle.rules.specs.Statements.{KindCase, declared_type, holds_blocks}

-- the number of a core statement's kind
pub statement_is : (k : K.Kind) → tag_of the_type k ≡ statement_number k
statement_is KV.Put = refl
statement_is KV.Store = refl
statement_is KV.Choose = refl
statement_is KV.While = refl
statement_is KV.Leave = refl
statement_is KV.Give = refl
statement_is KV.Emit = refl
statement_is KV.Run = refl

-- the kind that a number stands for
abbrev pub kind_of : ℕ → Statement
kind_of zero = V.Assign
kind_of (suc zero) = V.Store
kind_of (suc (suc zero)) = V.Choose
kind_of (suc (suc (suc zero))) = V.While
kind_of (suc (suc (suc (suc zero)))) = V.Leave
kind_of (suc (suc (suc (suc (suc zero))))) = V.Give
kind_of (suc (suc (suc (suc (suc (suc zero)))))) = V.Emit
kind_of (suc (suc (suc (suc (suc (suc (suc zero))))))) = V.Run
kind_of (suc (suc (suc (suc (suc (suc (suc (suc zero)))))))) = V.When
kind_of (suc (suc (suc (suc (suc (suc (suc (suc (suc zero))))))))) = V.DeclareInt
kind_of (suc (suc (suc (suc (suc (suc (suc (suc (suc (suc i)))))))))) = V.DeclareBool

back : (k : Statement) → kind_of (number_of_statement k) ≡ k
back V.Assign = refl
back V.Store = refl
back V.Choose = refl
back V.While = refl
back V.Leave = refl
back V.Give = refl
back V.Emit = refl
back V.Run = refl
back V.When = refl
back V.DeclareInt = refl
back V.DeclareBool = refl

pub apart : (k : Statement) (i : ℕ) → (k ≡ kind_of i → ⊥) → number_of_statement k ≡ i → ⊥
apart k i h e = h (sym (back k) ∙ ap kind_of e)

-- a number's kind, if it is some kind's
pub kind_read : (n : ℕ) (r : Result Statement UnknownNumber) → ReadsStatement n r → KindCase n (result_ok r)
kind_read n (Ok k) h = h
kind_read n (Err e) h = h.1

-- whether a statement of this kind has blocks

pub holds_none : (k : Statement) → (k ≡ V.Choose → ⊥) → (k ≡ V.While → ⊥) → (k ≡ V.When → ⊥) → false ≡ holds_blocks (number_of_statement k)
unfolding holds_blocks
holds_none V.Assign a b c = refl
holds_none V.Store a b c = refl
holds_none V.Choose a b c = absurd (a refl)
holds_none V.While a b c = absurd (b refl)
holds_none V.Leave a b c = refl
holds_none V.Give a b c = refl
holds_none V.Emit a b c = refl
holds_none V.Run a b c = refl
holds_none V.When a b c = absurd (c refl)
holds_none V.DeclareInt a b c = refl
holds_none V.DeclareBool a b c = refl

pub holds_some : (k : Statement) → (k ≡ V.Choose) ⊎ ((k ≡ V.While) ⊎ (k ≡ V.When)) → true ≡ holds_blocks (number_of_statement k)
unfolding holds_blocks
holds_some k (inl e) = rw e refl
holds_some k (inr (inl e)) = rw e refl
holds_some k (inr (inr e)) = rw e refl

pub holds_rest : (k : Statement) → (k ≡ V.Assign → ⊥) → (k ≡ V.Store → ⊥) → (k ≡ V.Leave → ⊥) → (k ≡ V.Give → ⊥) → (k ≡ V.Emit → ⊥) → (k ≡ V.Run → ⊥) → (k ≡ V.DeclareInt → ⊥) → (k ≡ V.DeclareBool → ⊥) → holds_blocks (number_of_statement k) ≡ true
unfolding holds_blocks
holds_rest V.Assign a b c d e f g h = absurd (a refl)
holds_rest V.Store a b c d e f g h = absurd (b refl)
holds_rest V.Choose a b c d e f g h = refl
holds_rest V.While a b c d e f g h = refl
holds_rest V.Leave a b c d e f g h = absurd (c refl)
holds_rest V.Give a b c d e f g h = absurd (d refl)
holds_rest V.Emit a b c d e f g h = absurd (e refl)
holds_rest V.Run a b c d e f g h = absurd (f refl)
holds_rest V.When a b c d e f g h = refl
holds_rest V.DeclareInt a b c d e f g h = absurd (g refl)
holds_rest V.DeclareBool a b c d e f g h = absurd (h refl)

pub declares_int : (k : Statement) → (k ≡ V.DeclareBool → ⊥) → int ≡ declared_type (number_of_statement k)
unfolding declared_type
declares_int V.Assign h = refl
declares_int V.Store h = refl
declares_int V.Choose h = refl
declares_int V.While h = refl
declares_int V.Leave h = refl
declares_int V.Give h = refl
declares_int V.Emit h = refl
declares_int V.Run h = refl
declares_int V.When h = refl
declares_int V.DeclareInt h = refl
declares_int V.DeclareBool h = absurd (h refl)

pub declares_bool : {n : ℕ} → 10 ≡ n → bool ≡ declared_type n
unfolding declared_type
declares_bool e = rw (← e) refl

pub declares_nothing : {n : ℕ} → 10 < n → int ≡ declared_type n
unfolding declared_type
declares_nothing {n} h = rw (ne_eqb n 10 (λ e. omega (arith, e, h))) refl

-- no statement has another kind
pub kind_few : (s : T.Stmt) (more : List ℕ) → word (G.stmt_words s more) 0 ≤ 10
unfolding G.stmt_words G.declare_kind
kind_few (T.declare p x Ty.int e) more = omega arith
kind_few (T.declare p x Ty.bool e) more = omega arith
kind_few (T.assign p x e) more = omega arith
kind_few (T.store p x i e) more = omega arith
kind_few (T.when p e a) more = omega arith
kind_few (T.choose p e a b) more = omega arith
kind_few (T.while p e a) more = omega arith
kind_few (T.leave p) more = omega arith
kind_few (T.give p e) more = omega arith
kind_few (T.emit p e) more = omega arith
kind_few (T.run p x xs) more = omega arith
