-- The front page: what words of a program decode to, and that their run is the program's.
--   decoded         : function f of the words is the flat form of the program's function f
--   flat-run        : the words run as the program does, with the same outcome, fuel, log and arrays
--   flat-run-before : and so they do where other words follow
use mathlib.Core.Path.{◌≡◌, refl, sym, ap, ◌∙◌}
use mathlib.Core.List.{List, [], ◌∷◌, ◌++◌}
use mathlib.Core.Bool.{Bool, true, false}
use Prim.Native.Nat.{ℕ, zero, suc, ◌+◌, ◌*◌, ◌≤◌, ◌<◌}
use native.Mathlib.Omega.{arith}
use lib.Dec.{ltb}
use lib.ListN.{length, drop, get_or-eq_default}
use lib.Seq.{get_or-drop}
use borrow.Author.Tests.{lt-ltb, le-ltb, ltb-true, ltb-false}
use Rattle.language.specs.Core as C
use Rattle.language.specs.Meaning.{ended, most_activations, run_of}
use Rattle.flat.specs.Statements.{flats, flatten}
use Rattle.flat.specs.Words.{word, most_nesting, program_words, function_words, entry, function_of, flat_run, count, block_length, block_words, entries, bodies, words_then, words_of}
use Rattle.flat.specs.Fits.{nests_all, function_at, body_of, Fits}
use Rattle.flat.proofs.Same.{calls_same}
use Rattle.flat.proofs.Writing.{words_then_lem}
use Rattle.flat.proofs.Decode.{Past, onward, past_block, block_back}

-- how many words the bodies before f have
before : List C.Function → ℕ → ℕ
before [] f = 0
before (g ∷ fs) zero = 0
before (g ∷ fs) (suc f) = block_length (flats g.body) + before fs f

-- the words of function g, whose body has this place
record Entry (ws : List ℕ) (place : ℕ) (g : C.Function) : Type 0 where
  places : word ws 0 ≡ place
  statements : word ws 1 ≡ count (flats g.body)
  parameters : word ws 2 ≡ g.parameters
  lets : word ws 3 ≡ g.lets

past_entry : (m p c n l : ℕ) (ws : List ℕ) → drop (function_words * suc m) (p ∷ c ∷ n ∷ l ∷ ws) ≡ drop (function_words * m) ws
past_entry m p c n l ws = ap (λ (j : ℕ). drop j (p ∷ c ∷ n ∷ l ∷ ws)) {x = function_words * suc m} {y = suc (suc (suc (suc (function_words * m))))} (omega arith)

pub past_entries : (fs : List C.Function) (place : ℕ) (more : List ℕ) → Past (function_words * length fs) (entries fs place more) more
unfolding entries
past_entries [] place more = record { is = refl }
past_entries (f ∷ fs) place more = record { is = past_entry (length fs) _ _ _ _ _ ∙ (past_entries fs (place + block_length (flats f.body)) more).is }

-- how many words the entries are
pub entries_long : (fs : List C.Function) (place : ℕ) (more : List ℕ) → length (entries fs place more) ≡ function_words * length fs + length more
unfolding entries
entries_long [] place more = omega arith
entries_long (f ∷ fs) place more = omega (arith, entries_long fs (place + block_length (flats f.body)) more)

entry_at : (fs : List C.Function) (f place : ℕ) (more : List ℕ) → f < length fs → Entry (drop (function_words * f) (entries fs place more)) (place + before fs f) (function_at fs f)
unfolding entries before function_at
entry_at [] f place more l = absurd (omega arith)
entry_at (g ∷ fs) zero place more l = record { places = omega arith; statements = refl; parameters = refl; lets = refl }
entry_at (g ∷ fs) (suc f) place more l =
    let e : Entry (drop (function_words * f) (entries fs (place + block_length (flats g.body)) more)) (place + block_length (flats g.body) + before fs f) (function_at fs f) =
    entry_at fs f (place + block_length (flats g.body)) more (omega arith) in
    rw (past_entry f place (count (flats g.body)) g.parameters g.lets (entries fs (place + block_length (flats g.body)) more))
    (record { places = e.places ∙ omega arith; statements = e.statements; parameters = e.parameters; lets = e.lets })

-- where function f's body is among the bodies
record Body (fs : List C.Function) (f : ℕ) (more : List ℕ) : Type 0 where
  rest : List ℕ
  past : Past (before fs f) (bodies fs more) (block_words (flats (body_of fs f)) rest)

body_at : (fs : List C.Function) (f : ℕ) (more : List ℕ) → f < length fs → Body fs f more
unfolding bodies before function_at
body_at [] f more l = absurd (omega arith)
body_at (g ∷ fs) zero more l = record { rest = bodies fs more; past = record { is = refl } }
body_at (g ∷ fs) (suc f) more l =
    let b = body_at fs f more (omega arith) in
    record { rest = b.rest; past = onward (past_block (flats g.body) (bodies fs more)) b.past }

module _ (p : C.Program) (more : List ℕ) where
  abbrev words : List ℕ
  words = words_then p more

  abbrev fs : List C.Function
  fs = p.functions

  abbrev table : List ℕ
  table = entries fs (entry (length fs)) (bodies fs more)

  how_many : word words 0 ≡ length fs
  unfolding words_then
  how_many = refl

  past_start : Past program_words words table
  unfolding words_then
  past_start = record { is = refl }

  -- the words of function f, where the entries begin
  in_table : (f j i : ℕ) → i ≡ entry f + j → word words i ≡ word (drop (function_words * f) table) j
  in_table f j i e =
      ap (word words) e ∙ (sym (get_or-drop (entry f) words j 0) ∙
      ap (λ (ws : List ℕ). word ws j) (onward {m = function_words * f} past_start (record { is = refl })).is)

  decoded_in : (f : ℕ) → f < length fs → nests_all (body_of fs f) ≤ most_nesting → function_of words f ≡ flatten (function_at fs f)
  unfolding function_of flatten
  decoded_in f l h =
      let e = entry_at fs f (entry (length fs)) (bodies fs more) l in
      let b = body_at fs f more l in
      let q : Past (entry (length fs) + before fs f) words (block_words (flats (body_of fs f)) b.rest) =
      onward (onward past_start (past_entries fs (entry (length fs)) (bodies fs more))) b.past in
      rw (
        how_many,
        lt-ltb f (length fs) l,
        in_table f 2 (entry f + 2) refl ∙ e.parameters,
        in_table f 3 (entry f + 3) refl ∙ e.lets,
        in_table f 1 (entry f + 1) refl ∙ e.statements,
        in_table f 0 (entry f) (omega arith) ∙ e.places,
        q.is,
        block_back (body_of fs f) most_nesting b.rest h,
      )

  decoded_out : (f : ℕ) → length fs ≤ f → function_of words f ≡ flatten (function_at fs f)
  unfolding function_of flatten function_at flats
  decoded_out f l = rw (how_many, le-ltb f (length fs) l, get_or-eq_default fs (record { parameters = 0; lets = 0; body = C.end }) l)

  pub decoded : Fits p → (f : ℕ) → function_of words f ≡ flatten (function_at fs f)
  decoded fits f = go (ltb f (length fs)) refl
    where
      go : (b : Bool) → ltb f (length fs) ≡ b → function_of words f ≡ flatten (function_at fs f)
      go true e = decoded_in f (ltb-true f (length fs) e) (fits.nesting f)
      go false e = decoded_out f (ltb-false f (length fs) e)

  main_number : word words 1 ≡ p.main
  unfolding words_then
  main_number = refl

  run_then : Fits p → (arrays : List ℕ) (fuel room : ℕ) → flat_run words arrays fuel room ≡ run_of p arrays fuel room
  unfolding flat_run run_of
  run_then fits arrays fuel room =
      rw main_number
      (ap
      ended
      ((calls_same room fs (function_of words) (decoded fits) fits.operands fits.locals most_activations
      ).same
      p.main
      []
      []
      (record { fuel = fuel; log = []; arrays = arrays })
      (omega (arith, fits.main))))

module _ (p : C.Program) (fits : Fits p) (arrays : List ℕ) (fuel room : ℕ) where
  pub flat_run_lem : flat_run (words_of p) arrays fuel room ≡ run_of p arrays fuel room
  unfolding words_of
  flat_run_lem = run_then p [] fits arrays fuel room

  -- the same where other words follow
  pub flat_run_before : (more : List ℕ) → flat_run (words_of p ++ more) arrays fuel room ≡ run_of p arrays fuel room
  flat_run_before more = rw (← words_then_lem p more) (run_then p more fits arrays fuel room)
