-- Flat statements, blocks and functions: those of the core, with flat expressions, and what they mean. The meaning is that of document 01 §5 in the
-- same steps; it is total, and stops as malformed where no core program gets to.
use Rattle.std.specs.Prelude.{List, [], ◌++◌, ℕ, zero, suc, ◌+◌, leb, length, replicate}
use Rattle.word.specs.Choice.{pick}
use Rattle.language.specs.Core.{Array}
use Rattle.language.specs.Core as C
use Rattle.language.specs.Rules.{most_locals}
use Rattle.language.specs.Meaning.{Act, ◌>>=◌, ◌>>◌, value, trap, stops, trapped, too_many_activations, begin, branch, write, assign, append, Flow, next, returned, followed, rounds, back}
use Rattle.flat.specs.Items.{Item, code, codes, malformed, evaluate}

mutual
  pub data Stmt : Type 0 where
    put : ℕ → List Item → Stmt
    store : Array → List Item → List Item → Stmt
    choose : List Item → Block → Block → Stmt
    while : List Item → Block → Stmt
    leave : Stmt
    give : List Item → Stmt
    emit : List Item → Stmt
    -- the arguments and the call
    run : List Item → Stmt
    -- what no program has
    unknown : Stmt

  pub data Block : Type 0 where
    end : Block
    then : Stmt → Block → Block

pub record Function : Type 0 where
  pub parameters : ℕ
  pub lets : ℕ
  pub body : Block

-- The flat form of the core

unfoldable mutual
  pub flat : C.Stmt → Stmt
  flat (C.put x e) = put x (code e 0 [])
  flat (C.store a i e) = store a (code i 0 []) (code e 0 [])
  flat (C.choose e a b) = choose (code e 0 []) (flats a) (flats b)
  flat (C.while e b) = while (code e 0 []) (flats b)
  flat C.leave = leave
  flat (C.give e) = give (code e 0 [])
  flat (C.emit e) = emit (code e 0 [])
  -- no node is charged for the call itself
  flat (C.run f xs) = run (codes xs f 0 0 [])

  pub flats : C.Block → Block
  flats C.end = end
  flats (C.then s b) = then (flat s) (flats b)

unfoldable pub flatten : C.Function → Function
flatten f = record { parameters = f.parameters; lets = f.lets; body = flats f.body }

-- Its meaning: log's room, and what a call does

module _ (room : ℕ) where
  module _ (invoke : ℕ → List ℕ → Act ℕ) where
    unfoldable mutual
      pub fexec : Stmt → Act Flow
      fexec (put x is) = do
        v ← evaluate invoke is
        assign x v
        value next
      fexec (store a is js) = do
        k ← evaluate invoke is
        v ← evaluate invoke js
        write a k v
        value next
      fexec (choose is a b) = do
        v ← evaluate invoke is
        branch v (fblock a) (fblock b)
      fexec (while is b) = λ ls w. rounds w.fuel (evaluate invoke is) (fblock b) ls w
      fexec leave = value (returned 0)
      fexec (give is) = do
        v ← evaluate invoke is
        value (returned v)
      fexec (emit is) = do
        v ← evaluate invoke is
        append room v
        value next
      fexec (run is) = do
        evaluate invoke is
        value next
      fexec unknown = trap malformed

      -- each statement is charged when it begins
      pub fblock : Block → Act Flow
      fblock end = value next
      fblock (then s b) = do
        begin
        f ← fexec s
        followed f (fblock b)

  -- A call where so many more activations may be made.
  unfoldable pub fcall_at : (ℕ → Function) → ℕ → ℕ → List ℕ → Act ℕ
  fcall_at fs zero f vs ls w = stops (trapped too_many_activations) w
  fcall_at fs (suc left) f vs ls w =
      pick (leb (length vs + (fs f).lets) most_locals) (back room ls (fblock (fcall_at fs left) (fs f).body (vs ++ replicate (fs f).lets 0) w))
      (stops (trapped malformed) w)
