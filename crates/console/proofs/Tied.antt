-- The two forms of the arguments agree: a word's place is that of what it is, and a command takes at an option's place what it takes by the option.
use mathlib.Core.Path.{◌≡◌, refl, sym, ap, ◌∙◌}
use mathlib.Core.List.{List}
use mathlib.Core.Bool.{Bool, true, false, not}
use Prim.Native.Nat.{ℕ, ◌≤◌}
use native.Mathlib.Omega.{arith}
use lib.Dec.{eqb}
use borrow.Author.Tests.{ne_eqb, ltb-false}
use Rattle.std.specs.Prelude.{Option, Some}
use Rattle.word.specs.Choice.{pick}
use Rattle.language.specs.Tokens.{bytes, same, starts, is}
use Rattle.console.specs.declared.arguments.Command.{Command}
use Rattle.console.specs.declared.arguments.Command.TheVariants.{Help, Check, Run, Build, Exec, Compare}
use Rattle.console.specs.declared.arguments.Setting.{Setting}
use Rattle.console.specs.declared.arguments.Setting.TheVariants.{Input, Block, Fuel, Limit, Room, Memory}
use Rattle.console.specs.declared.arguments.Word.{Word}
use Rattle.console.specs.declared.arguments.Word.TheVariants.{Name, Unknown, Other}
use Rattle.console.specs.Arguments as A
use Rattle.console.specs.Table.{unknown, input, block, fuel, limit, room, memory, first, place_of, option_place, is_option, run_takes, exec_takes, takes_of}

unfoldable pub word_place : Word → ℕ
word_place (Name s) = option_place s
word_place Unknown = unknown
word_place Other = first

pub place_of_word : (w : List ℕ) → word_place (A.word_of w) ≡ place_of w
unfolding word_place option_place A.word_of place_of
place_of_word w = go (same w (bytes "--input")) (same w (bytes "--block")) (same w (bytes "--fuel")) (same w (bytes "--limit")) (same w (bytes "--room")) (same w (bytes "--memory")) (starts (is "-") w)
  where
    go : (a b c d e f g : Bool) → word_place (pick a (Name Input) (pick b (Name Block) (pick c (Name Fuel) (pick d (Name Limit) (pick e (Name Room) (pick f (Name Memory) (pick g Unknown Other))))))) ≡ pick a input (pick b block (pick c fuel (pick d limit (pick e room (pick f memory (pick g unknown first))))))
    go true b c d e f g = refl
    go false true c d e f g = refl
    go false false true d e f g = refl
    go false false false true e f g = refl
    go false false false false true f g = refl
    go false false false false false true g = refl
    go false false false false false false true = refl
    go false false false false false false false = refl

pub place_is : {r : Word} (w : List ℕ) (v : Word) → r ≡ A.word_of w → r ≡ v → word_place v ≡ place_of w
place_is w v e f = ap word_place (sym f ∙ e) ∙ place_of_word w

pub place_named : {r : Word} {t : Setting} (w : List ℕ) (s : Setting) → r ≡ A.word_of w → r ≡ Name t → t ≡ s → option_place s ≡ place_of w
unfolding word_place
place_named w s e f g = place_is w (Name s) e (f ∙ ap Name g)

run_tied : (s : Setting) → A.run_takes s ≡ run_takes (option_place s)
unfolding A.run_takes run_takes option_place
run_tied Input = refl
run_tied Block = refl
run_tied Fuel = refl
run_tied Limit = refl
run_tied Room = refl
run_tied Memory = refl

exec_tied : (s : Setting) → A.exec_takes s ≡ exec_takes (option_place s)
unfolding A.exec_takes exec_takes option_place
exec_tied Input = refl
exec_tied Block = refl
exec_tied Fuel = refl
exec_tied Limit = refl
exec_tied Room = refl
exec_tied Memory = refl

tied : (c : Command) (s : Setting) → A.takes_of c s ≡ takes_of (Some c) (option_place s)
unfolding A.takes_of takes_of
tied Help s = refl
tied Check s = refl
tied Run s = run_tied s
tied Build s = refl
tied Exec s = exec_tied s
tied Compare s = run_tied s

pub takes_option : (o : Option Command) (c : Command) (s : Setting) (p : ℕ) → o ≡ Some c → option_place s ≡ p → A.takes_of c s ≡ takes_of o p
takes_option o c s p e f = rw (e, sym f) (tied c s)

-- a place past those of the options is taken as --input is
past : (p : ℕ) → is_option p ≡ false → (p ≡ 0 → ⊥) → 7 ≤ p
unfolding is_option
past p e n = ltb-false p 7 (rw (ne_eqb p 0 n) at e)

run_past : (p : ℕ) → 7 ≤ p → true ≡ run_takes p
unfolding run_takes
run_past p h = rw (ne_eqb p 0 (omega arith), ne_eqb p 4 (omega arith), ne_eqb p 6 (omega arith))

exec_past : (p : ℕ) → 7 ≤ p → true ≡ exec_takes p
unfolding exec_takes
exec_past p h = rw (ne_eqb p 0 (omega arith), ne_eqb p 3 (omega arith))

taken_past : (c : Command) (p : ℕ) → 7 ≤ p → A.takes_of c Input ≡ takes_of (Some c) p
unfolding A.takes_of A.run_takes A.exec_takes takes_of
taken_past Help p h = refl
taken_past Check p h = refl
taken_past Run p h = run_past p h
taken_past Build p h = refl
taken_past Exec p h = exec_past p h
taken_past Compare p h = run_past p h

pub takes_past : (o : Option Command) (c : Command) (p : ℕ) → o ≡ Some c → false ≡ is_option p → (p ≡ 0 → ⊥) → A.takes_of c Input ≡ takes_of o p
takes_past o c p e f n = rw e (taken_past c p (past p (sym f) n))

pub takes_unknown : (o : Option Command) (c : Command) (p : ℕ) → o ≡ Some c → p ≡ 0 → not (eqb p 0) ≡ takes_of o p
unfolding takes_of run_takes exec_takes
takes_unknown o c p e f = rw (e, f) (go c)
  where
    go : (c : Command) → false ≡ takes_of (Some c) 0
    go Help = refl
    go Check = refl
    go Run = refl
    go Build = refl
    go Exec = refl
    go Compare = refl
