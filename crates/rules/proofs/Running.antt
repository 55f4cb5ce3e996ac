-- A call as a statement: what the scan of its arguments gives, then its own rules, then its item and its header.
use mathlib.Core.Path.{◌≡◌, refl, sym, ap, subst, ◌∙◌}
use mathlib.Core.Bool.{Bool, true, false}
use mathlib.Core.List.{List, [], ◌∷◌, ◌++◌, append-nil}
use mathlib.Core.Option.{Option, none, some}
use Prim.Native.Nat.{ℕ, ◌+◌, ◌-◌, ◌*◌, ◌≤◌, ◌<◌, ◌^◌}
use native.Mathlib.Omega.{arith}
use lib.ListN.{length, get_or, drop}
use lib.Seq.{sets, get_or-drop, drop-drop, drop_at}
use borrow.Author.Tests.{le-leb}
use Rattle.language.specs.Tree.{Place, Ty, int}
use Rattle.language.specs.Tree as T
use Rattle.language.specs.Core as C
use Rattle.language.specs.Rules.{Ruled, keeps, breaks, ◌>>=◌, found, Global, Thing, an_array, a_function, Local, Scope, Signature, Typed, global_of, is_function, and_then, function_of, fit, exprs, stmt}
use Rattle.grammar.specs.Flat as G
use Rattle.grammar.proofs.FlatLaws.{args_linear}
use Rattle.flat.specs.Items.{codes}
use Rattle.flat.specs.Statements.{flat}
use Rattle.flat.specs.Words.{items_words, stmt_words, rest_length}
use Rattle.rules.specs.Tables.{part, same_types, locals_in}
use Rattle.rules.specs.Scan.{Operand, Node, Scanned, sole, uppermost, first_start, call_node, scan, function_named}
use Rattle.rules.specs.Named.{NamedArgs}
use Rattle.std.specs.Prelude.{Some, None, Result, Ok, Err}
use Rattle.rules.specs.declared.nodes.Made.{Made}
use Rattle.rules.specs.declared.Broken.{Broken}
use Rattle.rules.specs.declared.Scope as S
use Rattle.rules.specs.Values.{made, node_in, broken_at, scope_at}
use Rattle.rules.specs.Post.{operands_in, nothing_scanned, Wrote, ScanCase, Scans, scope_of, Stated, StmtCase}
use Rattle.rules.specs.Statements.{dropped_node, Runs}
use Rattle.rules.proofs.Sizes.{args_of, types_of, sized_all}
use Rattle.rules.proofs.Lengths.{codes_length}
use Rattle.rules.proofs.Lengths as N
use Rattle.rules.proofs.Expressions.{afters, afters_words, afters_length, afters_types, args_words_lem, fit_is, scan_args}
use Rattle.rules.proofs.Elaborating.{Held, held, unheld}
use Rattle.rules.proofs.Making.{named_none, named_some}
use Rattle.rules.proofs.Stating.{went, stopped}
use Rattle.rules.proofs.Storing.{Found, two_rows}

-- A call whose result is dropped, in words

module _ (text : List ℕ) (gs : List Global) (p a : ℕ) (n : ℕ) (os : List Operand) where
  pub no_function : function_named text gs p a ≡ none → none ≡ dropped_node text gs p a n os
  unfolding dropped_node
  no_function f = named_none text gs p a f (λ s. call_node s n 0 0 int os)

  pub drops : {s : Signature} {o : Option Node} → function_named text gs p a ≡ some s → o ≡ call_node s n 0 0 int os → o ≡ dropped_node text gs p a n os
  unfolding dropped_node
  drops f e = e ∙ named_some text gs p a f (λ s. call_node s n 0 0 int os)

-- Its own rules

abbrev given : Node → Option Node → Node
given d none = d
given d (some n) = n

module _ (text : List ℕ) (gs : List Global) (at size : ℕ) {S : Type 0} (s : S) (us : List Typed) (m : ℕ) (em : length us ≡ m) where
  abbrev own : Ruled (C.Stmt × S)
  own = function_of gs at (part text at size) >>= λ f. fit gs at us f.parameters >>= λ vs. keeps (C.run f.number vs, s)

  abbrev node : Signature → Node
  node f = record { takes = m; type = int; start = first_start m 0 (afters us nothing_scanned).operands; begins = 0; kind = 3; a = f.number; b = m }

  arguments_fit : (f : Signature) → call_node f m 0 0 int (afters us nothing_scanned).operands ≡ sole (same_types (types_of us) f.parameters) (node f)
  unfolding call_node uppermost
  arguments_fit f = rw (← em, le-leb _ _ (afters_length us nothing_scanned), afters_types us nothing_scanned (length us) 0 [] (omega arith), append-nil (types_of us)) refl

  own_wrong : dropped_node text gs at size m (afters us nothing_scanned).operands ≡ none → own ≡ breaks at
  unfolding dropped_node function_of found sole ◌>>=◌
  own_wrong = go (global_of gs (part text at size))
    where
      fits : (f : Signature) (b : Bool) → sole b (node f) ≡ none → ◌≡◌ {A = Ruled (C.Stmt × S)} (found (sole b (args_of us)) at >>= λ vs. keeps (C.run f.number vs, s)) (breaks at)
      fits f true h = absurd (subst Found h tt)
      fits f false h = refl

      thing : (o : Thing) → and_then (is_function o) (λ f. call_node f m 0 0 int (afters us nothing_scanned).operands) ≡ none →
          ◌≡◌ {A = Ruled (C.Stmt × S)} (found (is_function o) at >>= λ f. fit gs at us f.parameters >>= λ vs. keeps (C.run f.number vs, s)) (breaks at)
      thing (an_array a) h = refl
      thing (a_function f) h = rw (fit_is gs at us f.parameters) (fits f (same_types (types_of us) f.parameters) (sym (arguments_fit f) ∙ h))

      go : (o : Option Global) → and_then o (λ g. and_then (is_function g.thing) (λ f. call_node f m 0 0 int (afters us nothing_scanned).operands)) ≡ none →
          ◌≡◌ {A = Ruled (C.Stmt × S)} (found (and_then o (λ g. is_function g.thing)) at >>= λ f. fit gs at us f.parameters >>= λ vs. keeps (C.run f.number vs, s)) (breaks at)
      go none h = refl
      go (some g) h = thing g.thing h

  -- what is given by what is found
  abbrev Gives : Node → Ruled (C.Stmt × S) → Type 0
  Gives n r = (r ≡ keeps (C.run n.a (args_of us), s)) × (n.kind ≡ 3) × (n.b ≡ m)

  own_fine : (n : Node) → dropped_node text gs at size m (afters us nothing_scanned).operands ≡ some n → Gives n own
  unfolding dropped_node function_of found sole ◌>>=◌
  own_fine n = go (global_of gs (part text at size))
    where
      fits : (f : Signature) (b : Bool) → sole b (node f) ≡ some n → Gives n (found (sole b (args_of us)) at >>= λ vs. keeps (C.run f.number vs, s))
      fits f true h = (ap (λ (o : Option Node). keeps (C.run (given n o).a (args_of us), s)) h, sym (ap (λ (o : Option Node). (given n o).kind) h), sym (ap (λ (o : Option Node). (given n o).b) h))
      fits f false h = absurd (subst Found (sym h) tt)

      thing : (o : Thing) → and_then (is_function o) (λ f. call_node f m 0 0 int (afters us nothing_scanned).operands) ≡ some n →
          Gives n (found (is_function o) at >>= λ f. fit gs at us f.parameters >>= λ vs. keeps (C.run f.number vs, s))
      thing (an_array a) h = absurd (subst Found (sym h) tt)
      thing (a_function f) h = rw (fit_is gs at us f.parameters) (fits f (same_types (types_of us) f.parameters) (sym (arguments_fit f) ∙ h))

      go : (o : Option Global) → and_then o (λ g. and_then (is_function g.thing) (λ f. call_node f m 0 0 int (afters us nothing_scanned).operands)) ≡ some n →
          Gives n (found (and_then o (λ g. is_function g.thing)) at >>= λ f. fit gs at us f.parameters >>= λ vs. keeps (C.run f.number vs, s))
      go none h = absurd (subst Found (sym h) tt)
      go (some g) h = thing g.thing h

-- The whole

past_args : (xs : T.Args) (n : ℕ) (more : List ℕ) → n ≡ 4 * G.sizes xs → drop n (G.args_words xs more) ≡ more
past_args xs n more h = ap (drop n) (args_linear xs more) ∙ drop_at (G.args_words xs []) more n (omega (arith, N.args_words_lem xs [], h))

run_extent : (at : Place) (x : T.Name) (xs : T.Args) → length (G.run_words at x xs []) ≡ 4 * G.sizes xs + 4
unfolding G.run_words
run_extent at x xs = N.args_words_lem xs _ ∙ omega arith

pub run_empty : {text : List ℕ} {gs : List Global} {locals : List ℕ} {l count : ℕ} {result : Option Ty} {at : ℕ} {x : T.Name} {n rest : ℕ} {ws : List ℕ} {q : ℕ} {core core' : List ℕ} → n ≡ 0 →
    Runs text gs locals l count result at x n rest ws q core (Err (broken_at 0)) locals core'
run_empty h = record { by = λ xs more ew en er nm. absurd (omega (arith, h, en)) }

pub run_short : {text : List ℕ} {gs : List Global} {locals : List ℕ} {l count : ℕ} {result : Option Ty} {at : ℕ} {x : T.Name} {n rest : ℕ} {ws : List ℕ} {q : ℕ} {core core' : List ℕ} → rest < 4 * (n - 1) + 4 →
    Runs text gs locals l count result at x n rest ws q core (Err (broken_at 0)) locals core'
run_short {at = at} {x} h = record { by = λ xs more ew en er nm. absurd (omega (arith, h, en, er, run_extent at x xs)) }

module _ (text : List ℕ) (gs : List Global) (locals : List ℕ) (l count : ℕ) (result : Option Ty) (at size n rest : ℕ) (ws : List ℕ) (q : ℕ) (core : List ℕ) {r : Result ℕ Broken} {ts ss core₁ : List ℕ}
    (x : Scans text gs (locals_in text locals l) (n - 1) ws (q + 8) core r ts ss core₁) (few : n < 2 ^ 32) where
  abbrev stmt_of_here : T.Args → Ruled (C.Stmt × Scope gs)
  stmt_of_here xs = stmt gs result (T.run at (part text at size) xs) (scope_of gs text locals l count)

  abbrev args_of_here : T.Args → Ruled (List Typed)
  args_of_here xs = exprs gs (locals_in text locals l) xs

  abbrev Said : Result S.Scope Broken → List ℕ → Type 0
  Said r core' = Runs text gs locals l count result at (part text at size) n rest ws q core r locals core'

  scanned : (xs : T.Args) (more : List ℕ) → ws ≡ G.run_words at (part text at size) xs more → n ≡ G.sizes xs + 1 → NamedArgs text xs → scan text gs (locals_in text locals l) (n - 1) ws nothing_scanned ≡ args_of_here xs >>= λ us. keeps (afters us nothing_scanned)
  unfolding scan G.run_words
  scanned xs more ew en nm = ap (λ (us : List ℕ). scan text gs (locals_in text locals l) (n - 1) us nothing_scanned) ew ∙ scan_args text gs (locals_in text locals l) xs (n - 1) 0 _ nothing_scanned nm (omega (arith, en)) (omega (arith, en, few))

  stop_at : {b : Place} (xs : T.Args) → args_of_here xs ≡ breaks b → stmt_of_here xs ≡ breaks b
  unfolding stmt
  stop_at xs f = stopped _ f

  pub args_fault : {b : Broken} {core' : List ℕ} → r ≡ Err b → Said (Err b) core'
  args_fault {b} d = record {
    by = λ xs more ew en er nm. stop_at xs (unheld (args_of_here xs) (λ us. afters us nothing_scanned) b.0 (sym (scanned xs more ew en nm) ∙ subst (λ (o : Result ℕ Broken). ScanCase text gs (locals_in text locals l) (n - 1) ws (q + 8) core o ts ss core₁) d x.by));
  }

  module _ {h : ℕ} (d : r ≡ Ok h) where
    wrote : Wrote text gs (locals_in text locals l) (n - 1) ws (q + 8) core h ts ss core₁
    wrote = subst (λ (o : Result ℕ Broken). ScanCase text gs (locals_in text locals l) (n - 1) ws (q + 8) core o ts ss core₁) d x.by

    abbrev ArgsHeld : T.Args → Type 0
    ArgsHeld xs = Held (args_of_here xs) (λ us. afters us nothing_scanned) (record { operands = operands_in ts ss h; words = wrote.words })

    -- how many there are stands in the call's item
    module _ (many : ℕ) (em : many ≡ get_or (drop (4 * (n - 1)) ws) 3 0) where
      the_many : (xs : T.Args) (more : List ℕ) → ws ≡ G.run_words at (part text at size) xs more → n ≡ G.sizes xs + 1 → many ≡ G.arg_count xs
      unfolding G.run_words
      the_many xs more ew en = em ∙ (ap (λ (us : List ℕ). get_or (drop (4 * (n - 1)) us) 3 0) ew ∙ ap (λ (us : List ℕ). get_or us 3 0) (past_args xs (4 * (n - 1)) _ (omega (arith, en))))

      decided : {r : Result S.Scope Broken} {core' : List ℕ} →
          ((xs : T.Args) (a : ArgsHeld xs) → length a.value ≡ many → n ≡ G.sizes xs + 1 → rest ≡ 4 * G.sizes xs + 4 → StmtCase gs text (stmt_of_here xs) q core r locals core') → Said r core'
      decided {r} {core'} k = record {
        by = λ xs more ew en er nm.
            go xs more ew en er (held (args_of_here xs) (λ us. afters us nothing_scanned) _ (sym (scanned xs more ew en nm) ∙ wrote.is));
      }
        where
          go : (xs : T.Args) (more : List ℕ) → ws ≡ G.run_words at (part text at size) xs more → n ≡ G.sizes xs + 1 → rest ≡ length (G.run_words at (part text at size) xs []) → ArgsHeld xs → StmtCase gs text (stmt_of_here xs) q core r locals core'
          go xs more ew en er a = k xs a (((sized_all gs (locals_in text locals l) xs).holds a.value a.is).count ∙ sym (the_many xs more ew en)) en (er ∙ run_extent at (part text at size) xs)

      the_node : {o : Option Node} (xs : T.Args) (a : ArgsHeld xs) → o ≡ dropped_node text gs at size many (operands_in ts ss h) → dropped_node text gs at size many (afters a.value nothing_scanned).operands ≡ o
      the_node xs a z = ap (λ (c : Scanned). dropped_node text gs at size many c.operands) a.gives ∙ sym z

      wrong_at : (xs : T.Args) (a : ArgsHeld xs) → length a.value ≡ many → made None ≡ dropped_node text gs at size many (operands_in ts ss h) → stmt_of_here xs ≡ breaks at
      unfolding stmt
      wrong_at xs a c z = went _ a.is (own_wrong text gs at size _ a.value many c (the_node xs a z))

      pub run_wrong : {core' : List ℕ} → made None ≡ dropped_node text gs at size many (operands_in ts ss h) → Said (Err (broken_at at)) core'
      run_wrong z = decided (λ xs a c en er. wrong_at xs a c z)

      module _ (nd : Made) (z : made (Some nd) ≡ dropped_node text gs at size many (operands_in ts ss h)) where
        the_call : (xs : T.Args) (a : ArgsHeld xs) (c : length a.value ≡ many) → Gives text gs at size (scope_of gs text locals l count) a.value many c (node_in nd) (own text gs at size (scope_of gs text locals l count) a.value many c)
        the_call xs a c = own_fine text gs at size (scope_of gs text locals l count) a.value many c _ (the_node xs a z)

        fine_at : (xs : T.Args) (a : ArgsHeld xs) (c : length a.value ≡ many) {core' : List ℕ} → core' ≡ sets core q (7 ∷ 0 ∷ 0 ∷ n ∷ 0 ∷ 0 ∷ 0 ∷ rest ∷ items_words (codes (args_of a.value) nd.a 0 0 []) []) →
            n ≡ length (codes (args_of a.value) nd.a 0 0 []) → rest ≡ 4 * length (codes (args_of a.value) nd.a 0 0 []) → Stated gs text (stmt_of_here xs) q core l count locals core'
        unfolding stmt flat stmt_words rest_length
        fine_at xs a c e en er = record { value = C.run nd.a (args_of a.value); is = went _ a.is (the_call xs a c).0; there = e ∙ same n rest en er }
          where
            same : (y w : ℕ) → y ≡ length (codes (args_of a.value) nd.a 0 0 []) → w ≡ 4 * length (codes (args_of a.value) nd.a 0 0 []) →
                sets core q (7 ∷ 0 ∷ 0 ∷ y ∷ 0 ∷ 0 ∷ 0 ∷ w ∷ items_words (codes (args_of a.value) nd.a 0 0 []) []) ≡
                sets core q (7 ∷ 0 ∷ 0 ∷ length (codes (args_of a.value) nd.a 0 0 []) ∷ 0 ∷ 0 ∷ 0 ∷ (4 * length (codes (args_of a.value) nd.a 0 0 [])) ∷ items_words (codes (args_of a.value) nd.a 0 0 []) [])
            same y w e f = rw (e, f) refl

        items : (xs : T.Args) (a : ArgsHeld xs) → n ≡ G.sizes xs + 1 → n ≡ length (codes (args_of a.value) nd.a 0 0 [])
        items xs a en = en ∙ (sym ((sized_all gs (locals_in text locals l) xs).holds a.value a.is).same ∙ sym (codes_length (args_of a.value) nd.a 0 0 [] ∙ omega arith))

        the_words : (xs : T.Args) (a : ArgsHeld xs) → length a.value ≡ many → wrote.words ++ (3 ∷ 0 ∷ nd.a ∷ many ∷ []) ≡ items_words (codes (args_of a.value) nd.a 0 0 []) []
        the_words xs a c = ap (λ (w : List ℕ). w ++ (3 ∷ 0 ∷ nd.a ∷ many ∷ [])) (sym (ap (λ (y : Scanned). y.words) a.gives) ∙ afters_words a.value nothing_scanned) ∙ sym (args_words_lem a.value nd.a 0 many (omega (arith, c)))

        there_at : (xs : T.Args) (a : ArgsHeld xs) (c : length a.value ≡ many) {core₂ core₃ : List ℕ} → core₂ ≡ sets core₁ (q + 8 + 4 * (n - 1)) (nd.kind ∷ 0 ∷ nd.a ∷ nd.b ∷ []) → core₃ ≡ sets core₂ q (7 ∷ 0 ∷ 0 ∷ n ∷ 0 ∷ 0 ∷ 0 ∷ rest ∷ []) →
            core₃ ≡ sets core q (7 ∷ 0 ∷ 0 ∷ n ∷ 0 ∷ 0 ∷ 0 ∷ rest ∷ items_words (codes (args_of a.value) nd.a 0 0 []) [])
        there_at xs a c e₂ e₃ =
            two_rows core q (4 * (n - 1)) (7 ∷ 0 ∷ 0 ∷ n ∷ 0 ∷ 0 ∷ 0 ∷ rest ∷ []) wrote.words (3 ∷ 0 ∷ nd.a ∷ many ∷ []) wrote.there
            (e₂ ∙ at_kind nd.kind nd.b (the_call xs a c).1 (the_call xs a c).2) e₃ wrote.size ∙ ap (λ (w : List ℕ). sets core q (7 ∷ 0 ∷ 0 ∷ n ∷ 0 ∷ 0 ∷ 0 ∷ rest ∷ w)) (the_words xs a c)
          where
            at_kind : (k w : ℕ) → k ≡ 3 → w ≡ many → sets core₁ (q + 8 + 4 * (n - 1)) (k ∷ 0 ∷ nd.a ∷ w ∷ []) ≡ sets core₁ (q + 8 + 4 * (n - 1)) (3 ∷ 0 ∷ nd.a ∷ many ∷ [])
            at_kind k w e f = rw (e, f) refl

        pub run_next : {core₂ core₃ : List ℕ} → core₂ ≡ sets core₁ (q + 8 + 4 * (n - 1)) (nd.kind ∷ 0 ∷ nd.a ∷ nd.b ∷ []) → core₃ ≡ sets core₂ q (7 ∷ 0 ∷ 0 ∷ n ∷ 0 ∷ 0 ∷ 0 ∷ rest ∷ []) → Said (Ok (scope_at l count)) core₃
        run_next e₂ e₃ = decided (λ xs a c en er. fine_at xs a c (there_at xs a c e₂ e₃) (items xs a en) (omega (arith, er, en, items xs a en)))

-- the last word of the call's item
pub last_word : (tree : List ℕ) (p k : ℕ) → get_or tree (p + 8 + k + 3) 0 ≡ get_or (drop k (drop (p + 8) tree)) 3 0
last_word tree p k = sym (ap (λ (us : List ℕ). get_or us 3 0) (drop-drop k (p + 8) tree) ∙ get_or-drop (p + 8 + k) tree 3 0)

pub few_left : {text : List ℕ} {gs : List Global} {ls : List Local} {n : ℕ} {ws : List ℕ} {q : ℕ} {core : List ℕ} {r : Result ℕ Broken} {h : ℕ} {ts ss core' : List ℕ} → Scans text gs ls n ws q core r ts ss core' → r ≡ Ok h → h ≤ n
few_left {text} {gs} {ls} {n} {ws} {q} {core} {r} {h} {ts} {ss} {core'} x d = (subst (λ (o : Result ℕ Broken). ScanCase text gs ls n ws q core o ts ss core') d x.by).few
