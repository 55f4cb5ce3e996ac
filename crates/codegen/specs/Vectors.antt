-- What the compiler makes of the vectors of document 01, run: steps, and how the run stops.
use Rattle.std.specs.Prelude.{Bool, true, false, List, [], ◌∷◌, ◌≡◌, refl, ℕ, zero, suc, ◌-◌, ◌/◌, length, get_or}
use Rattle.word.specs.Choice.{pick}
use Rattle.word.specs.Word.{add_w, sub_w, mul_w, neg_w, negative, magnitude, lt_s, lt_u, quot_s, rem_s, bit_of, shl_w, sign_extend}
use Rattle.processor.specs.declared.Status.{Status}
use Rattle.processor.specs.declared.Status.TheVariants.{Going, Exit, Trap, Fault, Limit}
use Rattle.processor.specs.Execute.{alu_of, cond_of, reaches}
use Rattle.language.specs.Tree.{negate, ne, rem, ge, lt, add, eq, sub}
use Rattle.language.specs.Core.{Program, Array}
use Rattle.language.specs.Core as C
use Rattle.language.specs.Meaning.{apply}
use Rattle.processor.specs.Formats.{r_word, i_word, s_word, b_word, u_word, j_word}
use Rattle.processor.specs.Instructions.{encode_of}
use Rattle.symbolic.specs.Real.{distance, words_from}
use Rattle.symbolic.specs.Symbolic.{State, state, Instruction, step, run, ecall_of}
use Rattle.codegen.specs.Places.{short, upper_of, lower_of}
use Rattle.codegen.specs.Expressions.{place_of, places_of, passes, saves, loads, code, codes, condition}
use Rattle.codegen.specs.Statements.{answering, statement, block, clears, function_by, near_in, function}
use Rattle.codegen.specs.Image.{entry_from, functions_from, instructions_of}

abbrev G : Program
G = record {
  functions =
      record {
        parameters = 2;
        lets = 1;
        body =
            C.then (C.while (C.strict ne (C.local 1) (C.number 0))
            (C.then (C.put 2 (C.strict rem (C.local 0) (C.local 1)))
            (C.then (C.put 0 (C.local 1)) (C.then (C.put 1 (C.local 2)) C.end))))
            (C.then (C.give (C.local 0)) C.end);
      }
      ∷ record {
        parameters = 0;
        lets = 0;
        body =
            C.then (C.emit (C.call 0 (C.more (C.number 12) (C.more (C.number 18) C.none))))
            (C.then (C.emit (C.call 0 (C.more (C.unary negate (C.number 12)) (C.more (C.number 18) C.none))))
            (C.then (C.emit (C.call 0 (C.more (C.number 5) (C.more (C.number 0) C.none)))) C.end));
      }
      ∷ [];
  main = 1;
  elements = 0;
}

abbrev smoke : Array
smoke = record { offset = 0; size = 4 }

abbrev door : Array
door = record { offset = 4; size = 2 }

abbrev smokes : C.Expr
smokes = C.element smoke (C.local 0)

abbrev Z : Program
Z = record {
  functions =
      record {
        parameters = 1;
        lets = 0;
        body = C.then (C.give (C.or (C.strict ge smokes (C.number 70)) (C.strict lt smokes (C.number 0)))) C.end;
      }
      ∷ record {
        parameters = 0;
        lets = 2;
        body =
            C.then (C.put 0 (C.number 0))
            (C.then (C.put 1 (C.number 0))
            (C.then (C.while (C.strict lt (C.local 1) (C.number 4))
            (C.then (C.choose (C.call 0 (C.more (C.local 1) C.none))
            (C.then (C.put 0 (C.strict add (C.local 0) (C.number 1))) (C.then (C.emit (C.local 1)) C.end)) C.end)
            (C.then (C.put 1 (C.strict add (C.local 1) (C.number 1))) C.end)))
            (C.then (C.choose (C.strict ge (C.local 0) (C.number 2))
            (C.then (C.store door (C.number 0) (C.number 1))
            (C.then (C.store door (C.number 1) (C.number 1)) (C.then (C.emit (C.number 100)) C.end)))
            (C.then (C.choose (C.strict eq (C.local 0) (C.number 1)) (C.then (C.store door (C.number 0) (C.number 1)) C.end) C.end) C.end)) C.end)));
      }
      ∷ [];
  main = 1;
  elements = 6;
}

-- f(62), f(63)
abbrev down : ℕ → Program
down n = record {
  functions =
      record {
        parameters = 1;
        lets = 0;
        body =
            C.then (C.choose (C.strict eq (C.local 0) (C.number 0)) (C.then (C.give (C.number 0)) C.end)
            (C.then (C.give (C.strict add (C.number 1) (C.call 0 (C.more (C.strict sub (C.local 0) (C.number 1)) C.none)))) C.end)) C.end;
      }
      ∷ record { parameters = 0; lets = 0; body = C.then (C.emit (C.call 0 (C.more (C.number n) C.none))) C.end }
      ∷ [];
  main = 1;
  elements = 0;
}

-- each argument says itself: the first is evaluated first
abbrev order : Program
order = record {
  functions =
      record { parameters = 1; lets = 0; body = C.then (C.emit (C.local 0)) (C.then (C.give (C.local 0)) C.end) }
      ∷ record { parameters = 2; lets = 0; body = C.then (C.give (C.strict sub (C.local 0) (C.local 1))) C.end }
      ∷ record {
        parameters = 0;
        lets = 0;
        body =
            C.then (C.emit (C.call 1 (C.more (C.call 0 (C.more (C.number 5) C.none)) (C.more (C.call 0 (C.more (C.number 3) C.none)) C.none)))) C.end;
      }
      ∷ [];
  main = 2;
  elements = 0;
}

-- constants of two instructions, the lower part of which is negative where bit 11 is set
abbrev constants : Program
constants = record {
  functions =
      record {
        parameters = 0;
        lets = 0;
        body = C.then (C.emit (C.number 4095)) (C.then (C.emit (C.number 4096)) (C.then (C.emit (C.number 2147483647)) C.end));
      }
      ∷ [];
  main = 0;
  elements = 0;
}

-- memory in which the arrays hold these words
abbrev holding : List ℕ → ℕ → ℕ
holding ws a = get_or ws ((a - 0x100000) / 4) 0

pub record Ran : Type 0 where
  pub status : Status
  pub log : List ℕ
  pub steps : ℕ

abbrev is_going : Status → Bool
is_going Going = true
is_going Exit = false
is_going (Trap t) = false
is_going (Fault n) = false
is_going Limit = false

unfoldable pub counts : List Instruction → ℕ → ℕ → State → Ran
counts c zero k σ = record { status = Limit; log = σ.log; steps = k }
counts c (suc n) k σ = pick (is_going σ.status) (counts c n (suc k) (step 10 c σ)) (record { status = σ.status; log = σ.log; steps = k })

abbrev starts : (ℕ → ℕ) → State
starts memory = state Going 0 (λ _ _. 0) memory []

abbrev ends : Program → List ℕ → Ran
ends p ws = counts (instructions_of p) 2000 0 (starts (holding ws))

abbrev gives : Status → List ℕ → ℕ → Ran
gives s l n = record { status = s; log = l; steps = n }

-- Steps and words. The plain stack machine of document 03 §5 takes 305 steps for G, 370 to 400 for Z, 3,160 for f(62).
pub record Vectors : Type 0 where
  pub G-runs : ends G [] ≡ gives Exit (6 ∷ 6 ∷ 5 ∷ []) 130
  pub G-words : length (instructions_of G) ≡ 67
  pub Z-quiet : ends Z (10 ∷ 20 ∷ 30 ∷ 69 ∷ []) ≡ gives Exit [] 168
  pub Z-one : ends Z (10 ∷ 70 ∷ 30 ∷ 5 ∷ []) ≡ gives Exit (1 ∷ []) 168
  pub Z-two : ends Z (99 ∷ 20 ∷ 4294967295 ∷ 5 ∷ []) ≡ gives Exit (0 ∷ 2 ∷ 100 ∷ []) 176
  pub Z-words : length (instructions_of Z) ≡ 91
  pub f_62 : ends (down 62) [] ≡ gives Exit (62 ∷ []) 1016
  pub f_63 : ends (down 63) [] ≡ gives (Trap 3) [] 582
  pub f_words : length (instructions_of (down 62)) ≡ 51
  pub order_runs : ends order [] ≡ gives Exit (5 ∷ 3 ∷ 2 ∷ []) 53
  pub constants_run : ends constants [] ≡ gives Exit (4095 ∷ 4096 ∷ 2147483647 ∷ []) 20

pub vectors : Vectors
unfolding answering instructions_of counts entry_from functions_from function function_by near_in clears statement block code codes condition place_of places_of passes saves loads short upper_of lower_of run step ecall_of alu_of cond_of reaches apply add_w sub_w mul_w neg_w negative magnitude lt_s lt_u quot_s rem_s bit_of shl_w sign_extend
vectors = record { G-runs = refl; G-words = refl; Z-quiet = refl; Z-one = refl; Z-two = refl; Z-words = refl; f_62 = refl; f_63 = refl; f_words = refl; order_runs = refl; constants_run = refl }

-- The words of two images. Document 03's test program runs them too, from their bytes.

abbrev G-words : List ℕ
G-words =
    0x00110137 ∷ 0x0012f1b7 ∷ 0x00100893 ∷ 0x08c000ef ∷ 0x00000893 ∷ 0x00000073 ∷ 0x00100513 ∷ 0x00200893 ∷ 0x00000073 ∷ 0x00200513 ∷
    0x00200893 ∷ 0x00000073 ∷ 0x00300513 ∷ 0x00200893 ∷ 0x00000073 ∷ 0x00311463 ∷ 0xff1ff0ef ∷ 0x00112023 ∷ 0x00012623 ∷ 0x00812203 ∷
    0x02020863 ∷ 0x00412203 ∷ 0x00812283 ∷ 0x00029463 ∷ 0xfb9ff0ef ∷ 0x02526cb3 ∷ 0x01912623 ∷ 0x00812203 ∷ 0x00412223 ∷ 0x00c12203 ∷
    0x00412423 ∷ 0xfd1ff06f ∷ 0x00412503 ∷ 0x00012083 ∷ 0x00008067 ∷ 0x00000513 ∷ 0x00012083 ∷ 0x00008067 ∷ 0x00311463 ∷ 0xf95ff0ef ∷
    0x00112023 ∷ 0x00c00213 ∷ 0x7c412223 ∷ 0x01200213 ∷ 0x7c412423 ∷ 0x7c010113 ∷ 0xf85ff0ef ∷ 0x84010113 ∷ 0x00000073 ∷ 0xff400213 ∷
    0x7c412223 ∷ 0x01200213 ∷ 0x7c412423 ∷ 0x7c010113 ∷ 0xf65ff0ef ∷ 0x84010113 ∷ 0x00000073 ∷ 0x00500213 ∷ 0x7c412223 ∷ 0x7c012423 ∷
    0x7c010113 ∷ 0xf49ff0ef ∷ 0x84010113 ∷ 0x00000073 ∷ 0x00000513 ∷ 0x00012083 ∷ 0x00008067 ∷
    []

abbrev f_words : List ℕ
f_words =
    0x00110137 ∷ 0x0012f1b7 ∷ 0x00100893 ∷ 0x090000ef ∷ 0x00000893 ∷ 0x00000073 ∷ 0x00100513 ∷ 0x00200893 ∷ 0x00000073 ∷ 0x00200513 ∷
    0x00200893 ∷ 0x00000073 ∷ 0x00300513 ∷ 0x00200893 ∷ 0x00000073 ∷ 0x00311463 ∷ 0xff1ff0ef ∷ 0x00112023 ∷ 0x00412203 ∷ 0x00021a63 ∷
    0x00000513 ∷ 0x00012083 ∷ 0x00008067 ∷ 0x0340006f ∷ 0x00412203 ∷ 0xfff20c93 ∷ 0x7d912223 ∷ 0x7c010113 ∷ 0xfcdff0ef ∷ 0x84010113 ∷
    0x00050c93 ∷ 0x00100213 ∷ 0x01920cb3 ∷ 0x000c8513 ∷ 0x00012083 ∷ 0x00008067 ∷ 0x00000513 ∷ 0x00012083 ∷ 0x00008067 ∷ 0x00311463 ∷
    0xf91ff0ef ∷ 0x00112023 ∷ 0x03e00213 ∷ 0x7c412223 ∷ 0x7c010113 ∷ 0xf89ff0ef ∷ 0x84010113 ∷ 0x00000073 ∷ 0x00000513 ∷ 0x00012083 ∷
    0x00008067 ∷
    []

pub record Images : Type 0 where
  pub G-image : words_from 0 (instructions_of G) ≡ G-words
  pub f_image : words_from 0 (instructions_of (down 62)) ≡ f_words

pub images : Images
unfolding words_from distance encode_of r_word i_word s_word b_word u_word j_word answering instructions_of entry_from functions_from function function_by near_in clears statement block code codes condition place_of places_of passes saves loads short upper_of lower_of apply neg_w sign_extend
images = record { G-image = refl; f_image = refl }
