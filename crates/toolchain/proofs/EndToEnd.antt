-- The end-to-end theorem: an image that `compile` made, run by `emulate` on a block of one word for each element, does what `interpret` says of the text.
-- The idea: a text has one program, so that all three entries speak of the same one; each contract says that its buffers hold a run of the definitions, and between
-- those runs `Keeps` stands.
use Prim.Native.Nat.{ℕ, zero, suc, ◌+◌, ◌-◌, ◌*◌, ◌^◌, ◌≤◌, ◌<◌}
use mathlib.Core.Logic.{◌⊎◌}
use mathlib.Core.Option.{some}
use mathlib.Core.Path.{◌≡◌, sym, ap, ◌∙◌, subst}
use mathlib.Core.List.{List, [], ◌∷◌, ◌++◌}
use native.Mathlib.Omega.{arith}
use lib.ListN.{length, get_or, take, drop, length-drop}
use lib.Seq.{take-append-le, drop-append-le, length-take-le}
use Rattle.word.specs.Bytes.{bytes_of_words, words_of_bytes}
use Rattle.word.proofs.WordBytes.{word_of_lt, bytes_words_bytes, words_of_bytes_length}
use Rattle.language.specs.Tree.{Item}
use Rattle.language.specs.Rules.{Ruled, keeps, elaborate}
use Rattle.language.specs.Core.{Program}
use Rattle.language.specs.Meaning.{run_of}
use Rattle.language.specs.Text.{Accepted}
use Rattle.grammar.proofs.Main.{tree_one}
use Rattle.processor.specs.declared.Status.{Status}
use Rattle.processor.specs.declared.Status.TheVariants.{Exit, Trap, Fault, Limit}
use Rattle.processor.specs.Machine.{data_start, memory_bytes, start_of}
use Rattle.processor.specs.Run as M
use Rattle.processor.specs.Image.{run_image, arrays_of, longest_code, longest_input}
use Rattle.processor.proofs.Kept.{After}
use Rattle.processor.proofs.Laws.{run_keeps}
use Rattle.processor.proofs.Start.{start_length}
use Rattle.interpreter.specs.declared.Outcome.TheVariants.{OutOfFuel}
use Rattle.interpreter.specs.Post.{outcome_of}
use Rattle.claims.specs.Keeps.{stop_for, Begins, Below, Input, machine, used}
use Rattle.claims.specs.Keeps as C
use Rattle.codegen.specs.Image.{image}
use Rattle.codegen.specs.Costs.{costs}
use Rattle.elaboration.proofs.Accepted.{accepted}
use Rattle.toolchain.specs.Emulation.{Buffers, Emulates}
use Rattle.toolchain.specs.Emulation as E
use Rattle.toolchain.specs.Interpretation.{Lent, IsBlock, Interprets}
use Rattle.toolchain.specs.Interpretation as T
use Rattle.toolchain.specs.Compilation.{Compiles, Makes}
use Rattle.toolchain.specs.EndToEnd.{Compiling, made, Interpreting, Emulating, source_log, source_arrays, fuel_used, EndedAs, machine_log, machine_arrays, Alike, EndToEnd}
use Rattle.toolchain.proofs.OneRun.{front}

-- a text has one program at most
pub accepted_one : (text : List ℕ) (p q : Program) → Accepted text p → Accepted text q → p ≡ q
accepted_one text p q a b =
    let same : a.items ≡ b.items = tree_one text a.items b.items a.parses b.parses in
    let e : ◌≡◌ {A = Ruled Program} (keeps p) (keeps q) = sym a.ruled ∙ (ap (λ (is : List Item). elaborate is (length text)) same ∙ b.ruled) in
    cc

-- a block's words are words

bytes_at : (bs : List ℕ) → Below 256 bs → (i : ℕ) → get_or bs i 0 < 256
bytes_at [] h i = omega arith
bytes_at (b ∷ bs) h zero = h.0
bytes_at (b ∷ bs) h (suc i) = bytes_at bs h.1 i

words_below : (bs : List ℕ) → Below 256 bs → Below (2 ^ 32) (words_of_bytes bs)
unfolding words_of_bytes
words_below [] h = tt
words_below (b₀ ∷ []) h = tt
words_below (b₀ ∷ b₁ ∷ []) h = tt
words_below (b₀ ∷ b₁ ∷ b₂ ∷ []) h = tt
words_below (b₀ ∷ b₁ ∷ b₂ ∷ b₃ ∷ bs) h = (word_of_lt b₀ b₁ b₂ b₃ h.0 h.1.0 h.1.1.0 h.1.1.1.0, words_below bs h.1.1.1.1)

input_of : (p : Program) (input : List ℕ) → Below 256 input → IsBlock p input → Input p (words_of_bytes input)
input_of p input h e = record { one_each = (let n = words_of_bytes_length input in omega (arith, n, e)); words = words_below input h }

-- Part of a list's front, as words; s is a variable here, so that nothing counts up to it.

part : (s k : ℕ) (xs ys : List ℕ) → s + k ≤ length xs → take k (drop s (xs ++ ys)) ≡ take k (drop s xs)
part s k xs ys h = ap (take k) (drop-append-le s xs ys (omega arith)) ∙ take-append-le k (drop s xs) ys (let n = length-drop s xs in omega (arith, n))

words_part : (s k n : ℕ) (zs xs ys : List ℕ) → zs ≡ xs ++ ys → s + k ≤ length xs → k ≡ n → words_of_bytes (take k (drop s zs)) ≡ words_of_bytes (take n (drop s xs))
words_part s k n zs xs ys e h f =
    ap (λ (bs : List ℕ). words_of_bytes (take k (drop s bs))) e ∙ ap words_of_bytes (part s k xs ys h) ∙ ap (λ (i : ℕ). words_of_bytes (take i (drop s xs))) f

words_size : (s k : ℕ) (xs : List ℕ) → s + 4 * k ≤ length xs → length (words_of_bytes (take (4 * k) (drop s xs))) ≡ k
words_size s k xs h =
    let a = words_of_bytes_length (take (4 * k) (drop s xs)) in
    let b = length-take-le (4 * k) (drop s xs) (let n = length-drop s xs in omega (arith, n)) in
    omega (arith, a, b)

-- The three entries, for one text, one block and one room.
module _ (text input : List ℕ) (room : ℕ) (bytes : Below 256 input) (p : Program) (program : Accepted text p) (block : IsBlock p input)
    (short : length (image p) ≤ longest_code) where
  abbrev arrays : List ℕ
  arrays = words_of_bytes input

  whole : bytes_of_words arrays ≡ input
  whole = bytes_words_bytes input (omega (arith, block)) (bytes_at input bytes)

  fine : Input p arrays
  fine = input_of p input bytes block

  -- the source
  module _ {fuel : ℕ} (i : Interpreting text input room fuel) where
    source : T.Holds (run_of p arrays fuel room) p.elements i.before i.after i.ran
    unfolding Interprets
    source =
        subst (λ (q : Program). T.Holds (run_of q arrays fuel room) q.elements i.before i.after i.ran)
        (accepted_one text i.says.program p i.says.accepted program) i.says.holds

    source_log_lem : source_log i ≡ (run_of p arrays fuel room).world.log
    source_log_lem = front i.ran.logged i.after.log (run_of p arrays fuel room).world.log _ (sym source.logged) source.log

    source_used : fuel_used i ≡ used costs p (image p) arrays fuel room
    source_used = ap (λ (n : ℕ). fuel - n) source.fuel

    source_arrays_lem : length (run_of p arrays fuel room).world.arrays ≡ length arrays → source_arrays i ≡ (run_of p arrays fuel room).world.arrays
    source_arrays_lem e = front (length arrays) i.after.arrays (run_of p arrays fuel room).world.arrays _ e source.arrays

    source_ends : (stop : Status) → EndedAs i stop → stop_for (run_of p arrays fuel room).outcome ≡ some stop
    source_ends stop e = ap stop_for (sym source.outcome) ∙ e

  -- the machine
  module _ {limit : ℕ} (m : Emulating (image p) input room limit) where
    abbrev ran : M.Run
    ran = machine costs p (image p) arrays limit room

    machined : E.Holds ran m.before m.after m.ended
    unfolding Emulates
    machined = subst (λ (bs : List ℕ). E.Holds (run_image (image p) bs room limit) m.before m.after m.ended) (sym whole) m.says.1

    machine_log_lem : machine_log m ≡ ran.machine.log
    machine_log_lem = front m.ended.logged m.after.log ran.machine.log _ (sym machined.logged) machined.log

    -- memory is as long as document 03 has it
    memory_size : length ran.machine.memory ≡ memory_bytes
    unfolding run_image start_of
    memory_size =
        let kept : After _ ran.machine = run_keeps (length (image p)) room limit _ 0 in
        kept.memory_length ∙ start_length (image p) (bytes_of_words arrays) short (few (accepted text p program).0.few_elements)
      where
        few : p.elements ≤ 16384 → length (bytes_of_words arrays) ≤ longest_input
        few h = subst (λ (bs : List ℕ). length bs ≤ longest_input) (sym whole) (omega (arith, block))

    inside : data_start + length input ≤ length ran.machine.memory
    inside = few (accepted text p program).0.few_elements
      where
        few : p.elements ≤ 16384 → data_start + length input ≤ length ran.machine.memory
        few h = omega (arith, block, memory_size)

    machine_arrays_lem : machine_arrays m ≡ arrays_of (4 * p.elements) ran.machine
    unfolding arrays_of
    machine_arrays_lem =
        words_part data_start (length input) (4 * p.elements) m.after.memory ran.machine.memory (drop memory_bytes m.before.memory) machined.memory inside block

    arrays_size : length (arrays_of (4 * p.elements) ran.machine) ≡ length arrays
    unfolding arrays_of
    arrays_size = words_size data_start p.elements ran.machine.memory (omega (arith, inside, block)) ∙ sym fine.one_each

  -- both are alike where the definitions' runs are
  alike : (fuel limit : ℕ) (i : Interpreting text input room fuel) (m : Emulating (image p) input room limit) (stop : Status) →
      C.Alike costs p (image p) stop (run_of p arrays fuel room) (machine costs p (image p) arrays limit room) → Alike stop i m
  alike fuel limit i m stop a = record {
    stops = (machined m).status ∙ a.stops;
    log = machine_log_lem m ∙ (a.log ∙ sym (source_log_lem i));
    arrays = machine_arrays_lem m ∙ (a.arrays ∙ sym (source_arrays_lem i (ap length (sym a.arrays) ∙ arrays_size m)));
  }

  module _ (k : C.Keeps costs p (image p)) where
    ends : (fuel limit : ℕ) (i : Interpreting text input room fuel) (m : Emulating (image p) input room limit) (stop : Status) → EndedAs i stop →
        costs.K * fuel_used i + costs.K0 ≤ limit → Alike stop i m × (m.ended.steps ≤ costs.K * fuel_used i + costs.K0)
    ends fuel limit i m stop e h =
        let r = k.ends arrays fuel room fine stop (source_ends i stop e) limit (subst (λ (n : ℕ). costs.K * n + costs.K0 ≤ limit) (source_used i) h) in (
          alike fuel limit i m stop r.0,
          subst (λ (n : ℕ). n ≤ costs.K * fuel_used i + costs.K0) (sym (machined m).steps)
              (subst (λ (n : ℕ). (machine costs p (image p) arrays limit room).steps ≤ costs.K * n + costs.K0) (sym (source_used i)) r.1),
        )

    goes_on : (fuel : ℕ) (i : Interpreting text input room fuel) → i.ran.outcome ≡ OutOfFuel →
        (limit : ℕ) × (fuel ≤ costs.C * limit + costs.C0) × (limit ≤ costs.K * fuel + costs.K0) ×
        ((m : Emulating (image p) input room limit) → Alike Limit i m)
    goes_on fuel i e =
        let r = k.goes_on arrays fuel room fine (sym (source i).outcome ∙ ap outcome_of e) in
        (r.0, r.1, r.2, λ m. alike fuel r.0 i m Limit r.3)

    ends_back : (limit : ℕ) (m : Emulating (image p) input room limit) (stop : Status) → (stop ≡ Exit) ⊎ ((t : ℕ) × (stop ≡ Trap t)) → m.ended.status ≡ stop →
        (fuel : ℕ) × (fuel ≤ costs.C * limit + costs.C0) × ((i : Interpreting text input room fuel) → EndedAs i stop × Alike stop i m)
    ends_back limit m stop h e =
        let r = k.ends_back arrays limit room fine stop h (sym (machined m).status ∙ e) in
        (r.0, r.1, λ i. (ap stop_for (source i).outcome ∙ r.2, alike r.0 limit i m stop r.3))

    never_faults : (limit : ℕ) (m : Emulating (image p) input room limit) (n : ℕ) → m.ended.status ≡ Fault n → ⊥
    never_faults limit m n e = k.never_faults arrays limit room fine n (sym (machined m).status ∙ e)

    source_first : (fuel : ℕ) (i : Interpreting text input room fuel) → (limit : ℕ) × (limit ≤ costs.K * fuel + costs.K0) × ((m : Emulating (image p) input room limit) → Begins (source_log i) (machine_log m))
    source_first fuel i =
        let r = (k.same_forever arrays room fine).0 fuel in
        (r.0, r.1, λ m. (r.2.0, ap (λ (l : List ℕ). l ++ r.2.0) (source_log_lem i) ∙ (r.2.1 ∙ sym (machine_log_lem m))))

    machine_first : (limit : ℕ) (m : Emulating (image p) input room limit) → (fuel : ℕ) × (fuel ≤ costs.C * limit + costs.C0) × ((i : Interpreting text input room fuel) → Begins (machine_log m) (source_log i))
    machine_first limit m =
        let r = (k.same_forever arrays room fine).1 limit in
        (r.0, r.1, λ i. (r.2.0, ap (λ (l : List ℕ). l ++ r.2.0) (machine_log_lem m) ∙ (r.2.1 ∙ sym (source_log_lem i))))

    all : EndToEnd text (image p) input room
    all = record { ends = ends; goes_on = goes_on; ends_back = ends_back; never_faults = never_faults; same_forever = (source_first, machine_first) }

-- What `compile` made of a text, run by `emulate` on any block of one word for each element, does what `interpret` says of that text, with any room for the log.
pub end_to_end : (text input : List ℕ) (room : ℕ) (c : Compiling text) → Below 256 input → ((p : Program) → Accepted text p → IsBlock p input) →
    EndToEnd text (made c) input room
unfolding Compiles
end_to_end text input room c bytes block =
    let m : Makes text c.work c.before c.size c.after = c.says in
    subst (λ (bs : List ℕ). EndToEnd text bs input room) (sym (front c.size c.after (image m.program) (drop c.size c.before) (sym m.size) m.there))
    (all text input room bytes m.program m.accepted (block m.program m.accepted) m.short m.keeps)
