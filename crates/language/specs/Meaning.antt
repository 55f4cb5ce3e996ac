-- Document 01 §5: what a run of a program does.
use Rattle.std.specs.Prelude.{not, List, [], ◌∷◌, ◌++◌, ℕ, zero, suc, ◌+◌, ltb, eqb, length, get_or, set, replicate}
use Rattle.word.specs.Choice.{pick}
use Rattle.word.specs.Word.{add_w, sub_w, mul_w, neg_w, quot_s, rem_s, lt_s, bit_of}
use Rattle.language.specs.Tree.{Unary, negate, Strict, eq, ne, lt, le, gt, ge, add, sub, mul, div, rem}
use Rattle.language.specs.Tree as T
use Rattle.language.specs.Core.{Array, Expr, Args, Stmt, Block, Function, Program}
use Rattle.language.specs.Core as C

infixl 20 ◌>>=◌
infixl 20 ◌>>◌
-- What a run changes: the fuel that is left, the log, and the elements of all arrays in order of declaration.
pub record World : Type 0 where
  pub fuel : ℕ
  pub log : List ℕ
  pub arrays : List ℕ

-- How a run stops before its end.
pub data Stop : Type 0 where
  trapped : ℕ → Stop
  out_of_fuel : Stop

-- | trap | when |
abbrev pub division_by_zero : ℕ
division_by_zero = 1

abbrev pub index_outside : ℕ
index_outside = 2

abbrev pub too_many_activations : ℕ
too_many_activations = 3

abbrev pub log_full : ℕ
log_full = 4

-- "more than 64 activations at once, main included"
abbrev pub most_activations : ℕ
most_activations = 64

-- An action goes on with a value, the locals and the world, or stops with the world as it is then.
pub data Result (A : Type 0) : Type 0 where
  goes : A → List ℕ → World → Result A
  stops : Stop → World → Result A

abbrev pub Act : Type 0 → Type 0
Act A = List ℕ → World → Result A

unfoldable pub bind : {A B : Type 0} → Result A → (A → Act B) → Result B
bind (goes a ls w) f = f a ls w
bind (stops o w) f = stops o w

abbrev pub ◌>>=◌ : {A B : Type 0} → Act A → (A → Act B) → Act B
◌>>=◌ m f = λ ls w. bind (m ls w) f

abbrev pub ◌>>◌ : {A B : Type 0} → Act A → Act B → Act B
◌>>◌ m n = λ ls w. bind (m ls w) (λ _. n)

abbrev pub value : {A : Type 0} → A → Act A
value a = λ ls w. goes a ls w

abbrev pub trap : {A : Type 0} → ℕ → Act A
trap n = λ ls w. stops (trapped n) w

abbrev pub begin_on : ℕ → Act (Unit {0})
begin_on zero ls w = stops out_of_fuel w
begin_on (suc f) ls w = goes tt ls (record { fuel = f; log = w.log; arrays = w.arrays })

-- "each statement and each node of an expression costs 1 when it begins"; "If something is to begin and none is left, the run is out of fuel."
unfoldable pub begin : Act (Unit {0})
begin ls w = begin_on w.fuel ls w

-- a bool's two ways
abbrev pub branch : {A : Type 0} → ℕ → A → A → A
branch zero a b = b
branch (suc n) a b = a

-- "`+`, `-`, `*` and unary `-` wrap"
unfoldable pub apply : Unary → ℕ → ℕ
apply negate a = neg_w a
apply T.not a = bit_of (eqb a 0)

-- "Division by zero is a trap."
abbrev pub divided : ℕ → ℕ → Act ℕ
divided b q = pick (eqb b 0) (trap division_by_zero) (value q)

-- "`/` rounds toward zero and `%` has the sign of its left side"
unfoldable pub operate : Strict → ℕ → ℕ → Act ℕ
operate add a b = value (add_w a b)
operate sub a b = value (sub_w a b)
operate mul a b = value (mul_w a b)
operate div a b = divided b (quot_s a b)
operate rem a b = divided b (rem_s a b)
operate eq a b = value (bit_of (eqb a b))
operate ne a b = value (bit_of (not (eqb a b)))
operate lt a b = value (bit_of (lt_s a b))
operate le a b = value (bit_of (not (lt_s b a)))
operate gt a b = value (bit_of (lt_s b a))
operate ge a b = value (bit_of (not (lt_s a b)))

-- "index below 0 or not below the array's size": an index below 0 is a word of 2 ^ 31 or more, and no size is
abbrev pub tested : {A : Type 0} → Array → ℕ → Act A → Act A
tested a i m = pick (ltb i a.size) m (trap index_outside)

unfoldable pub read : Array → ℕ → Act ℕ
read a i = tested a i (λ ls w. goes (get_or w.arrays (a.offset + i) 0) ls w)

unfoldable pub write : Array → ℕ → ℕ → Act (Unit {0})
write a i v = tested a i (λ ls w. goes tt ls (record { fuel = w.fuel; log = w.log; arrays = set w.arrays (a.offset + i) v }))

unfoldable pub fetch : ℕ → Act ℕ
fetch x = λ ls w. goes (get_or ls x 0) ls w

unfoldable pub assign : ℕ → ℕ → Act (Unit {0})
assign x v = λ ls w. goes tt (set ls x v) w

-- After a statement the run goes on with the next one, or the function has returned; without a result, 0 stands for it and nothing reads it.
pub data Flow : Type 0 where
  next : Flow
  returned : ℕ → Flow

abbrev pub followed : Flow → Act Flow → Act Flow
followed next m = m
followed (returned v) m = value (returned v)

-- "a `while` costs 1 once, and its condition costs each time": so there are no more rounds than there is fuel
unfoldable pub rounds : ℕ → Act ℕ → Act Flow → Act Flow
rounds zero test body = λ ls w. stops out_of_fuel w
rounds (suc n) test body = do
  v ← test
  branch v (do
    f ← body
    followed f (rounds n test body)) (value next)

-- "The log's room is given with the run."
module _ (room : ℕ) where
  -- "`emit` appends to the log"; trap 4: "`emit` when the log is full"
  unfoldable pub append : ℕ → Act (Unit {0})
  append v =
      λ ls w. pick (ltb (length w.log) room) (goes tt ls (record { fuel = w.fuel; log = w.log ++ (v ∷ []); arrays = w.arrays }))
      (stops (trapped log_full) w)

  -- `call f vs` is a call of function f with the values vs
  module _ (call : ℕ → List ℕ → Act ℕ) where
    -- "Evaluation goes left to right"
    unfoldable mutual
      pub eval : Expr → Act ℕ
      eval (C.number n) = do
        begin
        value n
      eval (C.local x) = do
        begin
        fetch x
      eval (C.element a i) = do
        begin
        k ← eval i
        read a k
      eval (C.call f xs) = do
        begin
        vs ← evals xs
        call f vs
      eval (C.unary o a) = do
        begin
        x ← eval a
        value (apply o x)
      eval (C.strict o a b) = do
        begin
        x ← eval a
        y ← eval b
        operate o x y
      -- "`&&` and `||` evaluate their right side only if needed"
      eval (C.and a b) = do
        begin
        x ← eval a
        branch x (eval b) (value 0)
      eval (C.or a b) = do
        begin
        x ← eval a
        branch x (value 1) (eval b)

      -- "Arguments left to right."
      pub evals : Args → Act (List ℕ)
      evals C.none = value []
      evals (C.more e xs) = do
        v ← eval e
        vs ← evals xs
        value (v ∷ vs)

    unfoldable mutual
      pub exec : Stmt → Act Flow
      exec (C.put x e) = do
        begin
        v ← eval e
        assign x v
        value next
      -- "In `a[i] = e` first i, then e, then the index is tested."
      exec (C.store a i e) = do
        begin
        k ← eval i
        v ← eval e
        write a k v
        value next
      exec (C.choose e a b) = do
        begin
        v ← eval e
        branch v (block a) (block b)
      exec (C.while e b) = do
        begin
        λ ls w. rounds w.fuel (eval e) (block b) ls w
      exec C.leave = do
        begin
        value (returned 0)
      exec (C.give e) = do
        begin
        v ← eval e
        value (returned v)
      exec (C.emit e) = do
        begin
        v ← eval e
        append v
        value next
      -- "a call statement is a statement and its arguments, with no node for the call"
      exec (C.run f xs) = do
        begin
        vs ← evals xs
        call f vs
        value next

      pub block : Block → Act Flow
      block C.end = value next
      block (C.then s b) = do
        f ← exec s
        followed f (block b)

  abbrev pub result : Flow → ℕ
  result next = 0
  result (returned v) = v

  -- the caller's locals are back
  unfoldable pub back : List ℕ → Result Flow → Result ℕ
  back ls (goes f ls' w) = goes (result f) ls w
  back ls (stops o w) = stops o w

  abbrev pub nothing : Function
  nothing = record { parameters = 0; lets = 0; body = C.end }

  -- A call where so many more activations may be made: the locals are the arguments, then the lets, which start at 0.
  unfoldable pub call_at : List Function → ℕ → ℕ → List ℕ → Act ℕ
  call_at fs zero f vs ls w = stops (trapped too_many_activations) w
  call_at fs (suc left) f vs ls w =
      let g : Function = get_or fs f nothing in
      back ls (block (call_at fs left) g.body (vs ++ replicate g.lets 0) w)

-- Outcomes, "always with log and arrays as they are then"
pub data Outcome : Type 0 where
  finished : Outcome
  stopped : Stop → Outcome

pub record Run : Type 0 where
  pub outcome : Outcome
  pub world : World

abbrev pub ended : Result ℕ → Run
ended (goes v ls w) = record { outcome = finished; world = w }
ended (stops o w) = record { outcome = stopped o; world = w }

-- "A run takes the initial contents of all arrays, in order of declaration, and a fuel figure; it calls main."
unfoldable pub run_of : Program → List ℕ → ℕ → ℕ → Run
run_of p arrays fuel room =
    ended (call_at room p.functions most_activations p.main [] [] (record { fuel = fuel; log = []; arrays = arrays }))
