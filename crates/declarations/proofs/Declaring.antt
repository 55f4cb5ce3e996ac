-- One item is declared: the rules of its declaration together, and its entry in the table; then all items, one after the other.
use mathlib.Core.Path.{◌≡◌, refl, sym, ap, subst, ◌∙◌}
use mathlib.Core.Bool.{Bool, true, false, not}
use mathlib.Core.List.{List, [], ◌∷◌}
use mathlib.Core.Option.{Option}
use Prim.Native.Nat.{ℕ, zero, suc, ◌+◌, ◌*◌, ◌≤◌, ◌<◌}
use native.Mathlib.Numerals.{add-one}
use native.Mathlib.Omega.{arith}
use lib.Dec.{ltb, leb}
use lib.ListN.{length, get_or}
use lib.Seq.{sets}
use borrow.Author.Tests.{leb-true, ltb-true, le-leb, lt-leb, lt-ltb, le-ltb}
use Rattle.word.specs.Choice.{pick, both}
use Rattle.language.specs.Tree.{Place, Name, Ty, Param, Item, array, function}
use Rattle.language.specs.Tree as T
use Rattle.language.specs.Rules.{Ruled, keeps, breaks, ◌>>=◌, ◌>>◌, need, absent, Thing, an_array, a_function, Global, global_of, Declared, nothing_declared, types, declare, declare_all, most_elements, most_arrays, most_elements_in_all, most_functions, most_parameters}
use Rattle.grammar.specs.Flat as G
use Rattle.rules.specs.Tables.{word, part, types_from, thing_at, global_from, global_at, globals_in}
use Rattle.rules.proofs.Stacks.{get_before, get_inside}
use Rattle.rules.proofs.Stating.{went, stopped}
use Rattle.std.specs.Prelude.{Some, None, Result, Ok, Err, ⊤}
use Rattle.std.specs.Prelude as P
use Rattle.std.specs.Prelude.{is_some}
use Rattle.rules.specs.declared.program.Global as H
use Rattle.rules.specs.declared.program.Program.{Program}
use Rattle.rules.specs.declared.Broken.{Broken}
use Rattle.rules.specs.Values.{broken_at, globals_of, global_if, FindsGlobal}
use Rattle.declarations.specs.declared.Tally.{Tally}
use Rattle.declarations.specs.Post.{Standing, next_of, name_at, is_new, array_fits, function_fits, Adds, declared_in, Few, Declares, DeclaresAll}
use Rattle.declarations.proofs.Standing as S

-- The table

same_globals : (text tree ws us : List ℕ) (g : ℕ) → ((i : ℕ) → i < 2 * g → get_or us i 0 ≡ get_or ws i 0) → globals_in text tree us g ≡ globals_in text tree ws g
unfolding globals_in global_at
same_globals text tree ws us zero h = refl
same_globals text tree ws us (suc g) h = rw (h (2 * g) (omega arith), h (2 * g + 1) (omega arith), same_globals text tree ws us g (λ i k. h i (omega (arith, k)))) refl

added_at : (text tree ws : List ℕ) (g h v : ℕ) → 2 * g + 2 ≤ length ws → globals_in text tree (sets ws (2 * g) (h ∷ v ∷ [])) (g + 1) ≡ global_from text tree h v ∷ globals_in text tree ws g
unfolding globals_in global_at
added_at text tree ws g h v l =
    rw (
      add-one g,
      get_inside ws (2 * g) (2 * g) 0 (h ∷ v ∷ []) (omega arith) (omega arith) (omega (arith, l)),
      get_inside ws (2 * g) (2 * g + 1) 1 (h ∷ v ∷ []) refl (omega arith) (omega (arith, l)),
      same_globals text tree ws (sets ws (2 * g) (h ∷ v ∷ [])) g (λ i k. get_before ws (2 * g) i (h ∷ v ∷ []) k),
    ) refl

pub added : {ws ws' : List ℕ} (g h v : ℕ) → 2 * g + 2 ≤ length ws → ws' ≡ sets ws (2 * g) (h ∷ v ∷ []) → Adds ws g h v ws'
added {ws} g h v l e = record { is = λ text tree. ap (λ (w : List ℕ). globals_in text tree w (g + 1)) e ∙ added_at text tree ws g h v l }

pub new_name : (q : Program) (p : ℕ) {a n : ℕ} {o : P.Option H.Global} {b : Bool} → a ≡ word q.tree.now (p + 1) → n ≡ word q.tree.now (p + 2) → FindsGlobal q (part q.text.now a n) o → is_some o ≡ not b → b ≡ is_new q.text.now q.tree.now q.globals.now q.count p
unfolding is_new
new_name q p {a} {n} {o} {b} ea en f h =
    let same : part q.text.now a n ≡ name_at q.text.now q.tree.now p = rw (ea, en) refl in
    go o b h ∙ (ap absent (sym f.is) ∙ ap (λ (y : Name). absent (global_of (globals_of q) y)) same)
  where
    go : (o : P.Option H.Global) (b : Bool) → is_some o ≡ not b → b ≡ absent (global_if q o)
    go None true h = refl
    go None false h = cc
    go (Some g) true h = cc
    go (Some g) false h = refl

-- The rules of a declaration, all reported at the name

array_rules : (b c d e : Bool) (at : Place) (v : Declared) → (do need b at; need c at; need d at; need e at; keeps v) ≡ pick (both b (both c (both d e))) (keeps v) (breaks at)
unfolding need ◌>>=◌
array_rules false c d e at v = refl
array_rules true false d e at v = refl
array_rules true true false e at v = refl
array_rules true true true false at v = refl
array_rules true true true true at v = refl

function_rules : (b c d : Bool) (at : Place) (v : Declared) → (do need b at; need c at; need d at; keeps v) ≡ pick (both b (both c d)) (keeps v) (breaks at)
unfolding need ◌>>=◌
function_rules false c d at v = refl
function_rules true false d at v = refl
function_rules true true false at v = refl
function_rules true true true at v = refl

abbrev entry_of : Place → Name → Thing → Global
entry_of at x t = record { place = at; name = x; thing = t }

array_declared : (at : Place) (x : Name) (n : ℕ) (d : Declared) (t : Bool) → both (absent (global_of d.globals x)) (array_fits d.arrays d.elements n) ≡ t → declare (array at x n) d ≡
    pick t
    (keeps (record { globals = entry_of at x (an_array (record { offset = d.elements; size = n })) ∷ d.globals; arrays = suc d.arrays; elements = d.elements + n; functions = d.functions }))
    (breaks at)
unfolding declare array_fits
array_declared at x n d t e = array_rules _ _ _ _ at _ ∙ rw e refl

function_declared : (at : Place) (x : Name) (ps : List Param) (r : Option Ty) (c : T.Block) (d : Declared) (t : Bool) → both (absent (global_of d.globals x)) (function_fits d.functions (length ps)) ≡ t → declare (function at x ps r c) d ≡
    pick t
    (keeps (record { globals = entry_of at x (a_function (record { number = d.functions; parameters = types ps; result = r })) ∷ d.globals; arrays = d.arrays; elements = d.elements; functions = suc d.functions }))
    (breaks at)
unfolding declare function_fits
function_declared at x ps r c d t e = function_rules _ _ _ at _ ∙ rw e refl

not_both : (new : Bool) {fits : Bool} → fits ≡ false → both new fits ≡ false
not_both true f = f
not_both false f = refl

same_declared : {gs hs : List Global} {a b e f g : ℕ} → gs ≡ hs → a ≡ b → f ≡ g → ◌≡◌ {A = Ruled Declared} (keeps (record { globals = gs; arrays = a; elements = e; functions = f })) (keeps (record { globals = hs; arrays = b; elements = e; functions = g }))
same_declared p q r = rw (p, q, r) refl

both_true : (b : Bool) {c : Bool} → both b c ≡ true → (b ≡ true) × (c ≡ true)
both_true true e = (refl, e)
both_true false e = absurd (let z : ◌≡◌ {A = ℕ} 0 1 = cc in omega arith)

-- The tests, one by one

module _ (a e n : ℕ) where
  pub too_small : n < 1 → false ≡ array_fits a e n
  unfolding array_fits
  too_small h = rw (lt-leb 1 n h) refl

  pub too_large : most_elements < n → false ≡ array_fits a e n
  unfolding array_fits
  too_large h = rw (lt-leb n most_elements h) (go (leb 1 n) (both (ltb a most_arrays) (leb (e + n) most_elements_in_all)))
    where
      go : (b c : Bool) → false ≡ both (both b false) c
      go true c = refl
      go false c = refl

  pub too_many_arrays : most_arrays ≤ a → false ≡ array_fits a e n
  unfolding array_fits
  too_many_arrays h = rw (le-ltb a most_arrays h) (go (both (leb 1 n) (leb n most_elements)))
    where
      go : (b : Bool) → false ≡ both b false
      go true = refl
      go false = refl

  pub in_all : {b : Bool} → 1 ≤ n → n ≤ most_elements → a < most_arrays → b ≡ leb (e + n) most_elements_in_all → b ≡ array_fits a e n
  unfolding array_fits
  in_all h k l q = rw (le-leb 1 n h, le-leb n most_elements k, lt-ltb a most_arrays l) q

  pub array_below : {t : Bool} → t ≡ array_fits a e n → t ≡ true → (a < most_arrays) × (e + n ≤ most_elements_in_all)
  unfolding array_fits
  array_below h q =
      let b = both_true (ltb a most_arrays) (both_true (both (leb 1 n) (leb n most_elements)) (sym h ∙ q)).1 in
      (ltb-true a most_arrays b.0, leb-true (e + n) most_elements_in_all b.1)

pub too_many_functions : (f n : ℕ) → most_functions ≤ f → false ≡ function_fits f n
unfolding function_fits
too_many_functions f n h = rw (le-ltb f most_functions h) refl

pub few_parameters : (f n : ℕ) {b : Bool} → f < most_functions → b ≡ leb n most_parameters → b ≡ function_fits f n
unfolding function_fits
few_parameters f n h q = rw (lt-ltb f most_functions h) q

pub function_below : (f n : ℕ) {t : Bool} → t ≡ function_fits f n → t ≡ true → f < most_functions
unfolding function_fits
function_below f n h q = ltb-true f most_functions (both_true (ltb f most_functions) (sym h ∙ q)).0

array_few : {a e f : ℕ} (n : ℕ) → Few a e f → array_fits a e n ≡ true → Few (a + 1) (e + n) f
unfolding array_fits
array_few {a} {e} {f} n w t = let b = array_below a e n refl t in record { arrays = omega (arith, b.0); elements = b.1; functions = w.functions }

function_few : {a e f : ℕ} (n : ℕ) → Few a e f → function_fits f n ≡ true → Few a e (f + 1)
unfolding function_fits
function_few {a} {e} {f} n w t = record { arrays = w.arrays; elements = w.elements; functions = omega (arith, function_below f n refl t) }

-- One item

module _ (text tree ws : List ℕ) (p a e f : ℕ) (few : Few a e f) {at k n : ℕ} (place : at ≡ word tree (p + 1)) (kind : k ≡ word tree p) (size : n ≡ word tree (p + 3)) where
  abbrev before : Declared
  before = declared_in text tree ws a e f

  array_name : {words : ℕ} {b : Place} {x : Name} {m : ℕ} {is : List Item} → S.Array text tree words p b x m is → is_new text tree ws (a + f) p ≡ absent (global_of (globals_in text tree ws (a + f)) x)
  unfolding is_new
  array_name s = ap (λ (y : Name). absent (global_of (globals_in text tree ws (a + f)) y)) (rw (s.place, s.length_is) s.stands)

  function_name : {words : ℕ} {b : Place} {x : Name} {ps : List Param} {r : Option Ty} {c : T.Block} {is : List Item} → S.Function text tree words p b x ps r c is → is_new text tree ws (a + f) p ≡ absent (global_of (globals_in text tree ws (a + f)) x)
  unfolding is_new
  function_name s = ap (λ (y : Name). absent (global_of (globals_in text tree ws (a + f)) y)) (rw (s.place, s.length_is) s.stands)

  -- an item with a name that is taken
  taken_item : is_new text tree ws (a + f) p ≡ false → (words : ℕ) (i : Item) (is : List Item) → Standing text tree words p (i ∷ is) → declare i before ≡ breaks at
  taken_item h words (array b x m) is s =
      let y = S.array_at s in
      array_declared b x m before false (rw (← (array_name y), h) refl) ∙ ap breaks (sym (place ∙ y.place))
  taken_item h words (function b x ps r c) is s =
      let y = S.function_at_lem s in
      function_declared b x ps r c before false (rw (← (function_name y), h) refl) ∙ ap breaks (sym (place ∙ y.place))

  pub declare_taken : {b : Bool} {ws' : List ℕ} → b ≡ is_new text tree ws (a + f) p → b ≡ false → Declares text tree p ws a e f (Err (broken_at at)) ws'
  declare_taken h q = record { by = taken_item (sym h ∙ q); few = tt }

  -- an array
  array_off : k ≡ 0 → array_fits a e n ≡ false → (words : ℕ) (i : Item) (is : List Item) → Standing text tree words p (i ∷ is) → declare i before ≡ breaks at
  array_off z h words (array b x m) is s =
      let y = S.array_at s in
      array_declared b x m before false (not_both (absent (global_of (globals_in text tree ws (a + f)) x)) {fits = array_fits a e m} (rw (← y.size, ← size) h)) ∙ ap breaks (sym (place ∙ y.place))
  array_off z h words (function b x ps r c) is s = absurd (let y = S.function_at_lem s in omega (arith, z, kind, y.kind))

  pub declare_array_off : {t : Bool} {ws' : List ℕ} → k ≡ 0 → t ≡ array_fits a e n → t ≡ false → Declares text tree p ws a e f (Err (broken_at at)) ws'
  declare_array_off z h q = record { by = array_off z (sym h ∙ q); few = tt }

  array_on : {ws' : List ℕ} → is_new text tree ws (a + f) p ≡ true → k ≡ 0 → array_fits a e n ≡ true → Adds ws (a + f) p e ws' → (words : ℕ) (i : Item) (is : List Item) → Standing text tree words p (i ∷ is) →
      declare i before ≡ keeps (declared_in text tree ws' (a + 1) (e + n) f)
  unfolding thing_at
  array_on {ws'} new z h add words (array b x m) is s =
      let y = S.array_at s in
      array_declared b x m before true (rw (← (array_name y), new, ← y.size, ← size) h) ∙
      rw (size ∙ y.size) (same_declared (sym (ap (globals_in text tree ws') {x = a + 1 + f} {y = a + f + 1} (omega arith) ∙ (add.is text tree ∙ rw (y.kind, y.place, y.length_is, y.size, y.stands) refl))) (sym (add-one a)) refl)
  array_on new z h add words (function b x ps r c) is s = absurd (let y = S.function_at_lem s in omega (arith, z, kind, y.kind))

  pub declare_array_on : {t u : Bool} {ws' : List ℕ} → u ≡ is_new text tree ws (a + f) p → u ≡ true → k ≡ 0 → t ≡ array_fits a e n → t ≡ true → Adds ws (a + f) p e ws' → Declares text tree p ws a e f (Ok (record { arrays = a + 1; elements = e + n; functions = f })) ws'
  declare_array_on v new z h q add = record { by = array_on (sym v ∙ new) z (sym h ∙ q) add; few = array_few n few (sym h ∙ q) }

  -- a function
  function_off : (k ≡ 0 → ⊥) → function_fits f n ≡ false → (words : ℕ) (i : Item) (is : List Item) → Standing text tree words p (i ∷ is) → declare i before ≡ breaks at
  function_off z h words (array b x m) is s = absurd (z (kind ∙ (S.array_at s).kind))
  function_off z h words (function b x ps r c) is s =
      let y = S.function_at_lem s in
      function_declared b x ps r c before false (not_both (absent (global_of (globals_in text tree ws (a + f)) x)) {fits = function_fits f (length ps)} (rw (← y.arity, ← size) h)) ∙ ap breaks (sym (place ∙ y.place))

  pub declare_function_off : {t : Bool} {ws' : List ℕ} → (k ≡ 0 → ⊥) → t ≡ function_fits f n → t ≡ false → Declares text tree p ws a e f (Err (broken_at at)) ws'
  declare_function_off z h q = record { by = function_off z (sym h ∙ q); few = tt }

  function_on : {ws' : List ℕ} → is_new text tree ws (a + f) p ≡ true → (k ≡ 0 → ⊥) → function_fits f n ≡ true → Adds ws (a + f) p f ws' → (words : ℕ) (i : Item) (is : List Item) → Standing text tree words p (i ∷ is) →
      declare i before ≡ keeps (declared_in text tree ws' a e (f + 1))
  unfolding thing_at
  function_on new z h add words (array b x m) is s = absurd (z (kind ∙ (S.array_at s).kind))
  function_on {ws'} new z h add words (function b x ps r c) is s =
      let y = S.function_at_lem s in
      let ts : types_from tree 3 (p + 10) (length ps) ≡ types ps = S.params_types tree p ps _ y.params_at in
      function_declared b x ps r c before true (rw (← (function_name y), new, ← y.arity, ← size) h) ∙
      same_declared (sym (ap (globals_in text tree ws') {x = a + (f + 1)} {y = a + f + 1} (omega arith) ∙ (add.is text tree ∙ rw (y.kind, y.place, y.length_is, y.arity, y.result, y.stands, ts, S.result_number_lem r) refl))) refl (sym (add-one f))

  pub declare_function_on : {t u : Bool} {ws' : List ℕ} → u ≡ is_new text tree ws (a + f) p → u ≡ true → (k ≡ 0 → ⊥) → t ≡ function_fits f n → t ≡ true → Adds ws (a + f) p f ws' → Declares text tree p ws a e f (Ok (record { arrays = a; elements = e; functions = f + 1 })) ws'
  declare_function_on v new z h q add = record { by = function_on (sym v ∙ new) z (sym h ∙ q) add; few = function_few n few (sym h ∙ q) }

-- All items: after those before p, what is left declares the rest

pub record Reached (text tree : List ℕ) (words p : ℕ) (ws : List ℕ) (a e f : ℕ) (m : Ruled Declared) : Type 0 where
  pub rest : List Item
  pub stands : Standing text tree words p rest
  pub is : m ≡ declare_all rest (declared_in text tree ws a e f)

pub record Declaring (text tree : List ℕ) (words p : ℕ) (ws : List ℕ) (a e f : ℕ) : Type 0 where
  pub by : (is : List Item) → Standing text tree words 0 is → Reached text tree words p ws a e f (declare_all is nothing_declared)
  pub few : Few a e f

pub declaring_start : (text tree : List ℕ) (words : ℕ) (ws : List ℕ) → Declaring text tree words 0 ws 0 0 0
unfolding globals_in
declaring_start text tree words ws = record { by = λ is s. record { rest = is; stands = s; is = refl }; few = record { arrays = omega arith; elements = omega arith; functions = omega arith } }

pub no_more : {text tree : List ℕ} {words p : ℕ} → Standing text tree words p [] → p < words → ⊥
unfolding G.items_words
no_more s l = omega (arith, s.size, l)

pub some_more : {text tree : List ℕ} {words p : ℕ} (i : Item) (is : List Item) → Standing text tree words p (i ∷ is) → words ≤ p → ⊥
unfolding G.items_words G.item_words
some_more (array at x n) is s l = omega (arith, s.size, l)
some_more (function at x ps r b) is s l = omega (arith, s.size, l)

module _ {text tree : List ℕ} {words p : ℕ} {ws : List ℕ} {a e f : ℕ} {m : Ruled Declared} where
  reach_next : {ws' : List ℕ} {a' e' f' : ℕ} → p < words → Declares text tree p ws a e f (Ok (record { arrays = a'; elements = e'; functions = f' })) ws' →
      (is : List Item) → Standing text tree words p is → m ≡ declare_all is (declared_in text tree ws a e f) → Reached text tree words (next_of tree p) ws' a' e' f' m
  unfolding declare_all
  reach_next l x [] s q = absurd (no_more s l)
  reach_next l x (i ∷ is) s q = record { rest = is; stands = S.standing_next i is s; is = q ∙ went _ (x.by words i is s) refl }

  reach_fault : {ws' : List ℕ} {at : Broken} → p < words → Declares text tree p ws a e f (Err at) ws' → (is : List Item) → Standing text tree words p is → m ≡ declare_all is (declared_in text tree ws a e f) → m ≡ breaks at.0
  unfolding declare_all
  reach_fault l x [] s q = absurd (no_more s l)
  reach_fault l x (i ∷ is) s q = q ∙ stopped _ (x.by words i is s)

reach_end : {text tree : List ℕ} {words p : ℕ} (ws : List ℕ) (a e f : ℕ) {m : Ruled Declared} → words ≤ p → (is : List Item) → Standing text tree words p is → m ≡ declare_all is (declared_in text tree ws a e f) → m ≡ keeps (declared_in text tree ws a e f)
unfolding declare_all
reach_end ws a e f l [] s q = q
reach_end ws a e f l (i ∷ is) s q = absurd (some_more i is s l)

module _ {text tree : List ℕ} {words p : ℕ} {ws : List ℕ} {a e f : ℕ} (d : Declaring text tree words p ws a e f) where
  next_at : {ws' : List ℕ} {a' e' f' : ℕ} → p < words → Declares text tree p ws a e f (Ok (record { arrays = a'; elements = e'; functions = f' })) ws' → Declaring text tree words (next_of tree p) ws' a' e' f'
  next_at l x = record { by = λ is s. let h = d.by is s in reach_next l x h.rest h.stands h.is; few = x.few }

  fault_at_lem : {ws' : List ℕ} {at : Broken} → p < words → Declares text tree p ws a e f (Err at) ws' → DeclaresAll text tree words (Err at) ws'
  fault_at_lem l x = record { by = λ is s. let h = d.by is s in reach_fault l x h.rest h.stands h.is; few = tt }

  pub declaring_next : {r : Result Tally Broken} {ws' : List ℕ} {u : Tally} {q : ℕ} → p < words → r ≡ Ok u → Declares text tree p ws a e f r ws' → q ≡ next_of tree p → Declaring text tree words q ws' u.arrays u.elements u.functions
  declaring_next {ws' = ws'} l k x z = rw z (next_at l (subst (λ (t : Result Tally Broken). Declares text tree p ws a e f t ws') k x))

  pub declaring_fault : {r : Result Tally Broken} {ws' : List ℕ} {at : Broken} → p < words → r ≡ Err at → Declares text tree p ws a e f r ws' → DeclaresAll text tree words (Err at) ws'
  declaring_fault {ws' = ws'} l k x = fault_at_lem l (subst (λ (t : Result Tally Broken). Declares text tree p ws a e f t ws') k x)

  pub declaring_end : words ≤ p → DeclaresAll text tree words (Ok (record { arrays = a; elements = e; functions = f })) ws
  declaring_end l = record { by = λ is s. let h = d.by is s in reach_end ws a e f l h.rest h.stands h.is; few = d.few }
