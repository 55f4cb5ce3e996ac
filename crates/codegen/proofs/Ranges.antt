-- Every instruction has a word: registers of their banks, immediates of 12 bits, branches that reach. First the short pieces of code.
use mathlib.Core.Path.{◌≡◌, refl, subst}
use mathlib.Core.Bool.{Bool, true, false}
use mathlib.Core.List.{List, [], ◌∷◌, ◌++◌}
use mathlib.Core.Option.{Option, none, some}
use Prim.Native.Nat.{ℕ, zero, suc, ◌+◌, ◌-◌, ◌*◌, ◌^◌, ◌≤◌, ◌<◌}
use native.Mathlib.Omega.{arith}
use lib.Dec.{ltb, leb}
use lib.ListN.{length, length-append}
use borrow.Author.Tests.{ltb-true, leb-true}
use Rattle.word.specs.Choice.{pick, either}
use Rattle.word.specs.Word.{neg_w, sign_extend}
use Rattle.processor.specs.declared.Alu.{Alu}
use Rattle.processor.specs.declared.Alu.TheVariants.{Add, Slt}
use Rattle.processor.specs.declared.Cond.{Cond}
use Rattle.processor.specs.declared.Cond.TheVariants.{Ne}
use Rattle.processor.specs.Instructions.{Extended, Upper, Among, alu_key, immediates}
use Rattle.language.specs.Tree.{Unary, negate, Strict, eq, ne, lt, le, gt, ge, add, sub, mul, div, rem}
use Rattle.language.specs.Tree as T
use Rattle.language.specs.Core.{Array}
use Rattle.symbolic.specs.Symbolic.{Bank, Scratch, Argument, Temporary, Reg, x0, reg, sp, answer, scratch, Instruction, opi, mv, lw, sw}
use Rattle.symbolic.specs.Fine.{Valid, Fine, AllFine, most_instructions}
use Rattle.symbolic.proofs.AllFine.{fine_append}
use Rattle.symbolic.proofs.Immediates.{small12, minus12}
use Rattle.codegen.specs.Places.{Place, constant, local, temporary, in_register, local_word, temporary_word, short, upper_of, lower_of, constant_by, constant_to, source, fetch, target, keep, move, bring, frame_bytes, most_temporaries, in_registers}
use Rattle.codegen.specs.Operators.{skip, Work, plain, divided, tested, work, left, right, working, operating_by, operating, alone, applying, sense, comparing, testing, always, inside, locate_by, locate, reading, writing}
use Rattle.codegen.specs.Expressions.{passes, saves, loads, registers_of, calling, deciding_by}
use Rattle.codegen.proofs.Frame.{There}
use Rattle.language.specs.Rules.{most_parameters}

-- so far does a function reach: branches where they are near, else jumps
abbrev pub Within : Bool → ℕ → Type 0
Within true n = n < 1024
Within false n = n ≤ most_instructions

pub within_less : (near : Bool) {m n : ℕ} → m ≤ n → Within near n → Within near m
within_less true h w = omega arith
within_less false h w = omega arith

pub within_far : (near : Bool) {n : ℕ} → Within near n → n ≤ most_instructions
within_far true w = omega arith
within_far false w = w

-- Immediates.

short_fits : (n : ℕ) → n < 2 ^ 32 → short n ≡ true → Extended 12 n
unfolding short
short_fits n h e = go (ltb n 2048) refl e
  where
    go : (t : Bool) → ltb n 2048 ≡ t → either t (leb (2 ^ 32 - 2048) n) ≡ true → Extended 12 n
    go true k e = small12 n (let y : n < 2048 = ltb-true n 2048 k in y)
    go false k e =
        let y : 2 ^ 32 - 2048 ≤ n = leb-true (2 ^ 32 - 2048) n e in
        subst (λ (w : ℕ). Extended 12 w) (let z : 2 ^ 32 - (2 ^ 32 - n) ≡ n = omega arith in z) (minus12 (2 ^ 32 - n) (omega arith) (omega arith))

lower_fits : (n : ℕ) → Extended 12 (lower_of n)
unfolding lower_of sign_extend
lower_fits n = omega arith

upper_fits : (n : ℕ) → Upper (upper_of n)
unfolding upper_of
upper_fits n = (omega arith, omega arith)

pub small : (n : ℕ) → n < 2048 → Extended 12 n
small n h = small12 n h

-- Registers.

pub valid_source : (p : Place) (w : ℕ) → w < 6 → Valid (source p w)
valid_source (constant zero) w h = tt
valid_source (constant (suc n)) w h = h
valid_source (local y) w h = h
valid_source (temporary d) w h = go (in_register d) refl
  where
    go : (t : Bool) → in_register d ≡ t → Valid (pick t (reg Temporary d) (scratch w))
    go true e = ltb-true d 7 e
    go false e = h

pub valid_target : (d : ℕ) → Valid (target d)
valid_target d = go (in_register d) refl
  where
    go : (t : Bool) → in_register d ≡ t → Valid (pick t (reg Temporary d) (scratch 0))
    go true e = ltb-true d 7 e
    go false e = omega arith

valid_side : (t : Bool) (r s : Reg) → Valid r → Valid s → Valid (pick t s r)
valid_side true r s hr hs = hs
valid_side false r s hr hs = hr

-- Pieces of code.

pub fine_constant : (b : Bank) (m n : ℕ) → Valid (reg b m) → n < 2 ^ 32 → AllFine (constant_to (reg b m) n)
unfolding Fine
fine_constant b m n v h = go (short n) refl
  where
    go : (t : Bool) → short n ≡ t → AllFine (constant_by t (reg b m) n)
    go true e = ((refl, v, tt, short_fits n h e), tt)
    go false e = ((v, upper_fits n), ((refl, v, v, lower_fits n), tt))

pub fine_fetch : (p : Place) (w : ℕ) → w < 6 → There p → AllFine (fetch p w)
unfolding Fine
fine_fetch (constant zero) w h t = tt
fine_fetch (constant (suc n)) w h t = fine_constant Scratch w (suc n) h t
fine_fetch (local y) w h t = ((h, (omega arith), small (4 * local_word y) (omega arith)), tt)
fine_fetch (temporary d) w h t = go (in_register d)
  where
    go : (b : Bool) → AllFine (pick b [] (lw (scratch w) sp (4 * temporary_word d) ∷ []))
    go true = tt
    go false = ((h, (omega arith), small (4 * temporary_word d) (omega arith)), tt)

pub fine_keep : (d : ℕ) → d < most_temporaries → AllFine (keep d)
unfolding Fine
fine_keep d h = go (in_register d)
  where
    go : (b : Bool) → AllFine (pick b [] (sw (scratch 0) sp (4 * temporary_word d) ∷ []))
    go true = tt
    go false = ((omega arith, (omega arith), small (4 * temporary_word d) (omega arith)), tt)

copy : (p : Place) (d : ℕ) → There p → d < most_temporaries → AllFine (fetch p 0 ++ (mv (target d) (source p 0) ∷ keep d))
unfolding Fine
copy p d t h = fine_append (fetch p 0) _ (fine_fetch p 0 (omega arith) t) ((valid_target d, valid_source p 0 (omega arith)), fine_keep d h)

pub fine_move : (p : Place) (d : ℕ) → There p → d < most_temporaries → AllFine (move p d)
fine_move (constant n) d t h = copy (constant n) d t h
fine_move (local y) d t h = copy (local y) d t h
fine_move (temporary j) d t h = tt

pub fine_bring : (p : Place) → There p → AllFine (bring p)
unfolding Fine
fine_bring (constant n) t = fine_constant Argument 0 n (omega arith) t
fine_bring (local y) t = ((omega arith, omega arith, small (4 * local_word y) (omega arith)), tt)
fine_bring (temporary d) t = go (in_register d) refl
  where
    go : (b : Bool) → in_register d ≡ b → AllFine (pick b (mv answer (reg Temporary d) ∷ []) (lw answer sp (4 * temporary_word d) ∷ []))
    go true e = ((omega arith, ltb-true d 7 e), tt)
    go false e = ((omega arith, omega arith, small (4 * temporary_word d) (omega arith)), tt)

pub fine_skip : (near : Bool) (c : Cond) (r s : Reg) (k : ℕ) → Valid r → Valid s → Within near (k + length (skip near c r s k)) → AllFine (skip near c r s k)
unfolding Fine
fine_skip true c r s k hr hs w = ((hr, hs, omega arith), tt)
fine_skip false c r s k hr hs w = ((hr, hs, omega arith), (omega arith, tt))

fine_working : (k : Work) (r s : Reg) (d : ℕ) → Valid r → Valid s → d < most_temporaries → AllFine (working k r s d)
unfolding Fine
fine_working (plain o t) r s d hr hs h = ((valid_target d, valid_side t r s hr hs, valid_side t s r hs hr), fine_keep d h)
fine_working (divided o) r s d hr hs h = ((hs, tt, omega arith), (omega arith, ((valid_target d, hr, hs), fine_keep d h)))
fine_working (tested c t) r s d hr hs h =
    ((valid_side t r s hr hs, valid_side t s r hs hr, omega arith), ((refl, valid_target d, tt, small 0 (omega arith)), (omega arith, ((refl, valid_target d, tt, small 1 (omega arith)), fine_keep d h))))

general : (o : Strict) (p q : Place) (d : ℕ) → There p → There q → d < most_temporaries → AllFine (operating_by none o p q d)
general o p q d tp tq h =
    fine_append (fetch p 0) _ (fine_fetch p 0 (omega arith) tp) (fine_append (fetch q 1) _ (fine_fetch q 1 (omega arith) tq)
    (fine_working (work o) (source p 0) (source q 1) d (valid_source p 0 (omega arith)) (valid_source q 1 (omega arith)) h))

direct : (k : Alu) (m : ℕ) (p : Place) (d : ℕ) → Among alu_key immediates k → Extended 12 m → There p → d < most_temporaries → AllFine (fetch p 0 ++ (opi k (target d) (source p 0) m ∷ keep d))
unfolding Fine
direct k m p d a e t h = fine_append (fetch p 0) _ (fine_fetch p 0 (omega arith) t) ((a, valid_target d, valid_source p 0 (omega arith), e), fine_keep d h)

minus_lt : (n : ℕ) → neg_w n < 2 ^ 32
unfolding neg_w
minus_lt n = omega arith

pub fine_operating : (o : Strict) (p q : Place) (d : ℕ) → There p → There q → d < most_temporaries → AllFine (operating o p q d)
fine_operating o p (local y) d tp tq h = general o p (local y) d tp tq h
fine_operating o p (temporary j) d tp tq h = general o p (temporary j) d tp tq h
fine_operating add p (constant n) d tp tq h = go (short n) refl
  where
    go : (t : Bool) → short n ≡ t → AllFine (operating_by (pick t (some (Add, n)) none) add p (constant n) d)
    go true e = direct Add n p d refl (short_fits n tq e) tp h
    go false e = general add p (constant n) d tp tq h
fine_operating sub p (constant n) d tp tq h = go (short (neg_w n)) refl
  where
    go : (t : Bool) → short (neg_w n) ≡ t → AllFine (operating_by (pick t (some (Add, neg_w n)) none) sub p (constant n) d)
    go true e = direct Add (neg_w n) p d refl (short_fits (neg_w n) (minus_lt n) e) tp h
    go false e = general sub p (constant n) d tp tq h
fine_operating lt p (constant n) d tp tq h = go (short n) refl
  where
    go : (t : Bool) → short n ≡ t → AllFine (operating_by (pick t (some (Slt, n)) none) lt p (constant n) d)
    go true e = direct Slt n p d refl (short_fits n tq e) tp h
    go false e = general lt p (constant n) d tp tq h
fine_operating mul p (constant n) d tp tq h = general mul p (constant n) d tp tq h
fine_operating div p (constant n) d tp tq h = general div p (constant n) d tp tq h
fine_operating rem p (constant n) d tp tq h = general rem p (constant n) d tp tq h
fine_operating eq p (constant n) d tp tq h = general eq p (constant n) d tp tq h
fine_operating ne p (constant n) d tp tq h = general ne p (constant n) d tp tq h
fine_operating gt p (constant n) d tp tq h = general gt p (constant n) d tp tq h
fine_operating ge p (constant n) d tp tq h = general ge p (constant n) d tp tq h
fine_operating le p (constant n) d tp tq h = general le p (constant n) d tp tq h

fine_alone : (o : Unary) (r s : Reg) → Valid r → Valid s → Fine (alone o r s)
unfolding Fine
fine_alone negate r s hr hs = (hr, tt, hs)
fine_alone T.not r s hr hs = (refl, hr, hs, small 1 (omega arith))

one_alone : (o : Unary) (p : Place) (d : ℕ) → There p → d < most_temporaries → AllFine (fetch p 0 ++ (alone o (target d) (source p 0) ∷ keep d))
one_alone o p d t h = fine_append (fetch p 0) _ (fine_fetch p 0 (omega arith) t) (fine_alone o (target d) (source p 0) (valid_target d) (valid_source p 0 (omega arith)), fine_keep d h)

pub fine_applying : (o : Unary) (p : Place) (d : ℕ) → There p → d < most_temporaries → AllFine (applying o p d)
fine_applying o (constant n) d t h = tt
fine_applying o (local y) d t h = one_alone o (local y) d t h
fine_applying o (temporary j) d t h = one_alone o (temporary j) d t h

-- a piece's end may be skipped over: what is left of the reach
tail_within : (near : Bool) (k : ℕ) (a b : List Instruction) → Within near (k + length (a ++ b)) → Within near (k + length b)
tail_within near k a b w = within_less near (let e = length-append a b in omega (arith, e)) w

pub fine_testing : (near t : Bool) (p : Place) (k : ℕ) → There p → Within near (k + length (testing near t p k)) → AllFine (testing near t p k)
fine_testing near t p k tp w =
    fine_append (fetch p 0) _ (fine_fetch p 0 (omega arith) tp)
    (fine_skip near (sense t Ne) (source p 0) x0 k (valid_source p 0 (omega arith)) tt (tail_within near k (fetch p 0) (skip near (sense t Ne) (source p 0) x0 k) w))

pub fine_comparing : (near t : Bool) (c : Cond) (turned : Bool) (p q : Place) (k : ℕ) → There p → There q → Within near (k + length (comparing near t c turned p q k))
    → AllFine (comparing near t c turned p q k)
fine_comparing near t c turned p q k tp tq w =
    let last = skip near (sense t c) (left turned (source p 0) (source q 1)) (right turned (source p 0) (source q 1)) k in
    fine_append (fetch p 0) _ (fine_fetch p 0 (omega arith) tp) (fine_append (fetch q 1) _ (fine_fetch q 1 (omega arith) tq)
    (fine_skip near (sense t c) (left turned (source p 0) (source q 1)) (right turned (source p 0) (source q 1)) k
    (valid_side turned (source p 0) (source q 1) (valid_source p 0 (omega arith)) (valid_source q 1 (omega arith)))
    (valid_side turned (source q 1) (source p 0) (valid_source q 1 (omega arith)) (valid_source p 0 (omega arith)))
    (tail_within near k (fetch q 1) last (tail_within near k (fetch p 0) (fetch q 1 ++ last) w))))

pub fine_always : (near t : Bool) (n k : ℕ) → Within near (k + length (always t n k)) → AllFine (always t n k)
unfolding Fine
fine_always near true zero k w = tt
fine_always near true (suc n) k w = ((let y = within_far near w in omega (arith, y)), tt)
fine_always near false zero k w = ((let y = within_far near w in omega (arith, y)), tt)
fine_always near false (suc n) k w = tt

pub fine_locate : (a : Array) (p : Place) → There p → a.size < 2 ^ 32 → AllFine (locate a p)
unfolding Fine
fine_locate a p t h = go (inside a p)
  where
    go : (b : Bool) → AllFine (locate_by b a p)
    go true = ((omega arith, upper_fits _), tt)
    go false =
        fine_append (fetch p 0) _ (fine_fetch p 0 (omega arith) t) (fine_append (constant_to (scratch 1) a.size) _ (fine_constant Scratch 1 a.size (omega arith) h) (
          (valid_source p 0 (omega arith), omega arith, omega arith),
          (
            omega arith,
            (
              (refl, omega arith, valid_source p 0 (omega arith), omega arith),
              ((omega arith, upper_fits _), ((omega arith, omega arith, omega arith), tt)),
            ),
          ),
        ))

pub fine_reading : (a : Array) (p : Place) (d : ℕ) → There p → a.size < 2 ^ 32 → d < most_temporaries → AllFine (reading a p d)
unfolding Fine
fine_reading a p d t h hd = fine_append (locate a p) _ (fine_locate a p t h) ((valid_target d, omega arith, lower_fits _), fine_keep d hd)

pub fine_writing : (a : Array) (p v : Place) → There p → There v → a.size < 2 ^ 32 → AllFine (writing a p v)
unfolding Fine
fine_writing a p v t tv h =
    fine_append (locate a p) _ (fine_locate a p t h) (fine_append (fetch v 1) _ (fine_fetch v 1 (omega arith) tv) ((valid_source v 1 (omega arith), omega arith, lower_fits _), tt))

-- Calls.

abbrev pub AllThere : List Place → Type 0
AllThere [] = Unit {0}
AllThere (p ∷ ps) = There p × AllThere ps

fine_passes : (ps : List Place) (i : ℕ) → AllThere ps → i + length ps ≤ most_parameters → AllFine (passes ps i)
unfolding Fine passes
fine_passes [] i t h = tt
fine_passes (p ∷ ps) i t h =
    fine_append (fetch p 0) _ (fine_fetch p 0 (omega arith) t.0)
    ((valid_source p 0 (omega arith), omega arith, small (frame_bytes + 4 * local_word i) (omega arith)), fine_passes ps (suc i) t.1 (omega arith))

fine_saves : (n : ℕ) → n ≤ in_registers → AllFine (saves n)
unfolding Fine saves
fine_saves zero h = tt
fine_saves (suc n) h = fine_append (saves n) _ (fine_saves n (omega arith)) ((omega arith, omega arith, small (4 * temporary_word n) (omega arith)), tt)

fine_loads : (n : ℕ) → n ≤ in_registers → AllFine (loads n)
unfolding Fine loads
fine_loads zero h = tt
fine_loads (suc n) h = fine_append (loads n) _ (fine_loads n (omega arith)) ((omega arith, omega arith, small (4 * temporary_word n) (omega arith)), tt)

pub registers_few : (d : ℕ) → registers_of d ≤ in_registers
registers_few d = go (in_register d) refl
  where
    go : (t : Bool) → in_register d ≡ t → pick t d 7 ≤ in_registers
    go true e = let h : d < 7 = ltb-true d 7 e in omega arith
    go false e = omega arith

pub fine_calling : (target : ℕ) (ps : List Place) (d : ℕ) → target ≤ most_instructions → AllThere ps → length ps ≤ most_parameters → AllFine (calling target ps d)
unfolding Fine
fine_calling target ps d ht tp h =
    fine_append (passes ps 0) _ (fine_passes ps 0 tp (omega arith)) (fine_append (saves (registers_of d)) _ (fine_saves (registers_of d) (registers_few d)) (
      (refl, omega arith, omega arith, small frame_bytes (omega arith)),
      (
        ht,
        (
          (refl, omega arith, omega arith, minus12 frame_bytes (omega arith) (omega arith)),
          fine_loads (registers_of d) (registers_few d),
        ),
      ),
    ))

pub fine_deciding : (entry : ℕ → ℕ) (near : Bool) (s : Option (Cond × Bool)) (t : Bool) (o : Strict) (p q : Place) (d k : ℕ) → There p → There q → d < most_temporaries
    → Within near (k + length (deciding_by entry near s t o p q d k)) → AllFine (deciding_by entry near s t o p q d k)
fine_deciding entry near none t o p q d k tp tq h w =
    fine_append (operating o p q d) _ (fine_operating o p q d tp tq h) (fine_testing near t (temporary d) k h (tail_within near k (operating o p q d) (testing near t (temporary d) k) w))
fine_deciding entry near (some (c, turned)) t o p q d k tp tq h w = fine_comparing near t c turned p q k tp tq w
