-- The words of a program hold it.
use Prim.Native.Nat.{ℕ, zero, suc, ◌+◌, ◌*◌, ◌≤◌, ◌<◌}
use native.Mathlib.Omega.{arith}
use mathlib.Core.Path.{◌≡◌, refl, ap, subst, subst⁻¹}
use mathlib.Core.List.{List, [], ◌∷◌}
use lib.ListN.{length, get_or, drop, length-drop}
use Rattle.language.specs.Core.{Function, Program}
use Rattle.flat.specs.Statements.{flats}
use Rattle.flat.specs.Words.{word, count, block_length, entry, entries, bodies, words_then}
use Rattle.flat.proofs.Decode.{Past, onward, past_block}
use Rattle.flat.proofs.Run.{past_entries, entries_long}
use Rattle.codegen.specs.Owed.{nothing, Owed}
use Rattle.std.specs.Prelude.{Result}
use Rattle.compiler.specs.declared.TooLong.{TooLong}
use Rattle.compiler.specs.Standing.{Stand}
use Rattle.compiler.specs.Functions.{FunctionAt}
use Rattle.compiler.specs.Programs.{ProgramAt, Pictures, Compiles}
use Rattle.compiler.proofs.Written.{at}
use Rattle.compiler.proofs.Bodies.{block_long, stand}

-- where the body of function f is written, when the first of these is written at `place`
unfoldable body_place : List Function → ℕ → ℕ → ℕ
body_place [] place f = place
body_place (g ∷ gs) place zero = place
body_place (g ∷ gs) place (suc f) = body_place gs (place + block_length (flats g.body)) f

-- the four words of a function
record Row (ws : List ℕ) (base place : ℕ) (g : Function) : Type 0 where
  at_place : word ws base ≡ place
  statements : word ws (base + 1) ≡ count (flats g.body)
  parameters : word ws (base + 2) ≡ g.parameters
  lets : word ws (base + 3) ≡ g.lets

rows : (gs : List Function) (place : ℕ) (more : List ℕ) {ws : List ℕ} (base : ℕ) → Past base ws (entries gs place more) → (f : ℕ) → f < length gs →
    Row ws (base + 4 * f) (body_place gs place f) (get_or gs f nothing)
unfolding entries body_place
rows [] place more base h f l = absurd (omega arith)
rows (g ∷ gs) place more {ws} base h zero l =
    let us : List ℕ = place ∷ count (flats g.body) ∷ g.parameters ∷ g.lets ∷ entries gs (place + block_length (flats g.body)) more in
    record {
      at_place = at ws us base 0 (base + 4 * 0) h (omega arith);
      statements = at ws us base 1 (base + 4 * 0 + 1) h (omega arith);
      parameters = at ws us base 2 (base + 4 * 0 + 2) h (omega arith);
      lets = at ws us base 3 (base + 4 * 0 + 3) h (omega arith);
    }
rows (g ∷ gs) place more {ws} base h (suc f) l =
    let e : base + 4 + 4 * f ≡ base + 4 * suc f = omega arith in
    subst (λ (b : ℕ). Row ws b (body_place gs (place + block_length (flats g.body)) f) (get_or gs f nothing)) e
    (rows gs (place + block_length (flats g.body)) more (base + 4) (onward h (record { is = refl })) f (omega arith))

-- a function's body stands there
record Body (ws : List ℕ) (place : ℕ) (g : Function) : Type 0 where
  inside : place ≤ 1073741824
  body : Stand ws g.body place (count (flats g.body))

bodies_stand : (gs : List Function) (place : ℕ) (more : List ℕ) {ws : List ℕ} → length ws ≤ 1073741824 → place ≤ length ws → Past place ws (bodies gs more) → (f : ℕ) → f < length gs →
    Body ws (body_place gs place f) (get_or gs f nothing)
unfolding bodies body_place
bodies_stand [] place more l k h f b = absurd (omega arith)
bodies_stand (g ∷ gs) place more l k h zero b = record { inside = omega arith; body = stand g.body (bodies gs more) l h }
bodies_stand (g ∷ gs) place more {ws} l k h (suc f) b =
    bodies_stand gs (place + block_length (flats g.body)) more l (omega (arith, length-drop place ws, ap length h.is, block_long (flats g.body) (bodies gs more)))
    (onward h (past_block (flats g.body) (bodies gs more))) f (omega arith)

-- the places come from the four words, and the limits from what every program owes
function_at_lem : {ws : List ℕ} {base place : ℕ} {g : Function} → Row ws base place g → Body ws place g → g.parameters ≤ 64 → g.lets ≤ 64 → FunctionAt ws base g
function_at_lem {ws} {base} {place} {g} r b few small = record {
  inside = omega (arith, r.at_place, b.inside);
  body = subst⁻¹ (λ (k : ℕ). Stand ws g.body k (word ws (base + 1))) r.at_place (subst⁻¹ (λ (k : ℕ). Stand ws g.body place k) r.statements b.body);
  parameters = r.parameters;
  lets = r.lets;
  few = few;
  small = small;
}

pub holds : (p : Program) (more ws : List ℕ) → ws ≡ words_then p more → length ws ≤ 1073741824 → Owed p → ProgramAt ws p
unfolding words_then
holds p more ws e l o = record {
  count = ap (λ (us : List ℕ). word us 0) e;
  main = ap (λ (us : List ℕ). word us 1) e;
  functions = record { each = λ (f : ℕ) (b : f < length p.functions). function_at_lem (row f b) (body f b) (omega (arith, (o.each f b).locals)) (omega (arith, (o.each f b).locals)) };
}
  where
    table : Past 3 ws (entries p.functions (entry (length p.functions)) (bodies p.functions more))
    table = record { is = ap (drop 3) e }

    row : (f : ℕ) → f < length p.functions → Row ws (3 + 4 * f) (body_place p.functions (entry (length p.functions)) f) (get_or p.functions f nothing)
    row f b = rows p.functions (entry (length p.functions)) (bodies p.functions more) 3 table f b

    behind : Past (3 + 4 * length p.functions) ws (bodies p.functions more)
    behind = onward table (past_entries p.functions (entry (length p.functions)) (bodies p.functions more))

    enough : entry (length p.functions) ≤ length ws
    enough = omega (arith, ap length e, entries_long p.functions (entry (length p.functions)) (bodies p.functions more))

    body : (f : ℕ) → f < length p.functions → Body ws (body_place p.functions (entry (length p.functions)) f) (get_or p.functions f nothing)
    body f b = bodies_stand p.functions (entry (length p.functions)) more l enough behind f b

pub for_words : {ws bytes bytes' : List ℕ} {c : Result ℕ TooLong} → length ws ≤ 1073741824 → Pictures ws bytes c bytes' → Compiles ws bytes c bytes'
for_words {ws} l s = record { each = λ (p : Program) (more : List ℕ) (e : ws ≡ words_then p more) (o : Owed p). s.each p (holds p more ws e l o) }
