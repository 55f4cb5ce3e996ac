-- A function: its parameters, its body, whether that ends in return, and its words.
use mathlib.Core.Path.{◌≡◌, refl, sym, ap, subst, ◌∙◌}
use mathlib.Core.Bool.{Bool, true, false}
use mathlib.Core.List.{List, [], ◌∷◌}
use mathlib.Core.Option.{Option, none, some}
use Prim.Native.Nat.{ℕ, ◌+◌, ◌-◌, ◌*◌, ◌<◌}
use native.Mathlib.Omega.{arith}
use lib.ListN.{length, drop}
use lib.Seq.{sets}
use Rattle.language.specs.Tree.{Place, Name, Ty, Param, Item}
use Rattle.language.specs.Tree as T
use Rattle.language.specs.Core as C
use Rattle.language.specs.Rules.{Ruled, breaks, ◌>>=◌, need, Global, block, must_end, parameters, function_from, most_parameters}
use Rattle.grammar.specs.Flat as G
use Rattle.flat.specs.Statements.{flats}
use Rattle.flat.specs.Words.{block_words}
use Rattle.rules.specs.Tables.{word, result_of}
use Rattle.rules.specs.Post.{scope_of}
use Rattle.rules.proofs.Stating.{went, stopped}
use Rattle.rules.specs.Statements.{Blocked, BlockCase, Blocks, Ends}
use Rattle.std.specs.Prelude.{Result, Ok, Err, ⊤}
use Rattle.rules.specs.declared.Broken.{Broken}
use Rattle.rules.specs.Values.{broken_at}
use Rattle.declarations.specs.Post.{no_locals, TakeCase, Takes, MustEnd, finished, Made, MakeCase, Finishes, Makes}
use Rattle.declarations.proofs.Standing as S

-- Whether it must end in return

pub need_not_end : (n : ℕ) (ws : List ℕ) {o : Option Ty} → none ≡ o → MustEnd n ws o true
need_not_end n ws e = record { by = λ b more q c. rw (← e) refl }

pub must_end_lem : {n : ℕ} {ws : List ℕ} {r : Bool} {o : Option Ty} {t : Ty} → some t ≡ o → Ends n ws r → MustEnd n ws o r
must_end_lem e x = record { by = λ b more q c. rw (← e) (x.by b more q c) }

-- The body

module _ (text tree : List ℕ) (gs : List Global) (locals : List ℕ) (p q e n : ℕ) {first statements : ℕ} {result : Option Ty} (core : List ℕ) {c : Result ℕ Broken} {locals₁ core₁ : List ℕ}
    (ef : first ≡ p + 8 + 3 * n) (er : result ≡ result_of (word tree (p + 4))) (es : statements ≡ word tree (p + 5))
    (bs : Blocks text gs locals n n result statements (drop first tree) q core c locals₁ core₁) where
  module _ (words : ℕ) (x : Name) (ps : List Param) (t : Option Ty) (b : T.Block) (is : List Item) {place : Place} (f : S.Function text tree words p place x ps t b is) (en : n ≡ length ps) where
    abbrev ruled : Ruled (C.Block × ℕ)
    ruled = block gs t b (scope_of gs text locals n n)

    result_is : result ≡ t
    result_is = er ∙ (ap result_of f.result ∙ S.result_number_lem t)

    body_words : drop first tree ≡ G.block_words b (G.items_words is f.more)
    body_words = ap (λ (i : ℕ). drop i tree) (ef ∙ ap (λ (k : ℕ). p + 8 + 3 * k) en) ∙ f.body_at

    body_is : BlockCase b ruled q core c core₁
    body_is = subst (λ (u : Option Ty). BlockCase b (block gs u b (scope_of gs text locals n n)) q core c core₁) result_is (bs.by b _ body_words (es ∙ f.count) f.body_named)

    body_fault : {d : Broken} → c ≡ Err d → finished gs place n t b (scope_of gs text locals n n) ≡ breaks d.0
    unfolding finished
    body_fault k = stopped _ (subst (λ (u : Result ℕ Broken). BlockCase b ruled q core u core₁) k body_is)

    module _ {d : ℕ} (k : c ≡ Ok d) {r : Bool} (m : MustEnd statements (drop first tree) result r) where
      blocked : Blocked b ruled q core d core₁
      blocked = subst (λ (u : Result ℕ Broken). BlockCase b ruled q core u core₁) k body_is

      ends_is : r ≡ must_end t b
      ends_is = m.by b _ body_words (es ∙ f.count) ∙ ap (λ (u : Option Ty). must_end u b) result_is

      body_open : {at : Place} → at ≡ word tree (p + 1) → r ≡ false → finished gs place n t b (scope_of gs text locals n n) ≡ breaks at
      unfolding finished need
      body_open ea g = went _ blocked.is (stopped _ (ap (λ (u : Bool). need u place) (sym ends_is ∙ g) ∙ ap breaks (sym (ea ∙ f.place))))

      body_made : {core₂ : List ℕ} → r ≡ true → core₂ ≡ sets core₁ e (q ∷ statements ∷ n ∷ (d - n) ∷ []) → Made b (finished gs place n t b (scope_of gs text locals n n)) q e core core₂
      unfolding finished need
      body_made {core₂} g w = record {
        value = record { parameters = n; lets = d - n; body = blocked.value };
        is = went _ blocked.is (went _ (ap (λ (u : Bool). need u place) (sym ends_is ∙ g)) refl);
        there = w ∙ (ap (λ (v : List ℕ). sets v e (q ∷ statements ∷ n ∷ (d - n) ∷ [])) blocked.there ∙ ap (λ (j : ℕ). sets (sets core q (block_words (flats blocked.value) [])) e (q ∷ j ∷ n ∷ (d - n) ∷ [])) (es ∙ (f.count ∙ sym blocked.statements)));
        size = blocked.size;
      }

  pub finish_fault : {d : Broken} {core₂ : List ℕ} → c ≡ Err d → Finishes text tree gs locals p q e n core (Err d) core₂
  finish_fault k = record { by = λ words place x ps t b is s en. body_fault words x ps t b is (S.function_at_lem s) en k }

  pub finish_open : {d at : ℕ} {r : Bool} {core₂ : List ℕ} → c ≡ Ok d → MustEnd statements (drop first tree) result r → at ≡ word tree (p + 1) → r ≡ false → Finishes text tree gs locals p q e n core (Err (broken_at at)) core₂
  finish_open k m ea g = record { by = λ words place x ps t b is s en. body_open words x ps t b is (S.function_at_lem s) en k m ea g }

  pub finish_made : {d : ℕ} {r : Bool} {core₂ : List ℕ} → c ≡ Ok d → MustEnd statements (drop first tree) result r → r ≡ true → core₂ ≡ sets core₁ e (q ∷ statements ∷ n ∷ (d - n) ∷ []) → Finishes text tree gs locals p q e n core (Ok tt) core₂
  finish_made k m g w = record { by = λ words place x ps t b is s en. body_made words x ps t b is (S.function_at_lem s) en k m g w }

-- The whole function

function_is : (gs : List Global) (at : Place) (ps : List Param) (t : Option Ty) (b : T.Block) → function_from gs at ps t b ≡ parameters gs ps (no_locals gs) >>= finished gs at (length ps) t b
unfolding function_from finished
function_is gs at ps t b = refl

module _ (text tree : List ℕ) (gs : List Global) (p q e : ℕ) {n : ℕ} (core : List ℕ) (en : n ≡ word tree (p + 3)) where
  pub make_many : {core₂ : List ℕ} → most_parameters < n → Makes text tree gs p q e core (Err (broken_at 0)) core₂
  make_many l = record { by = λ words at x ps t b is s few. absurd (let f = S.function_at_lem s in omega (arith, l, en, f.arity, few)) }

  module _ {r : Result ⊤ Broken} {locals : List ℕ} (ts : Takes text gs n (drop (p + 8) tree) r locals) where
    taken_by : (words : ℕ) (at : Place) (x : Name) (ps : List Param) (t : Option Ty) (b : T.Block) (is : List Item) → S.Function text tree words p at x ps t b is → {u : Result ⊤ Broken} → r ≡ u → TakeCase text gs (parameters gs ps (no_locals gs)) n u locals
    taken_by words at x ps t b is f k = subst (λ (v : Result ⊤ Broken). TakeCase text gs (parameters gs ps (no_locals gs)) n v locals) k (ts.by ps _ f.params_at (en ∙ f.arity) f.params_named)

    pub make_fault : {d : Broken} {core₂ : List ℕ} → r ≡ Err d → Makes text tree gs p q e core (Err d) core₂
    make_fault k = record { by = λ words at x ps t b is s few. function_is gs at ps t b ∙ stopped _ (taken_by words at x ps t b is (S.function_at_lem s) k) }

    function_on : (words : ℕ) (at : Place) (x : Name) (ps : List Param) (t : Option Ty) (b : T.Block) (is : List Item) → S.Function text tree words p at x ps t b is → r ≡ (Ok tt) →
        finished gs at n t b (scope_of gs text locals n n) ≡ function_from gs at ps t b
    function_on words at x ps t b is f k =
        sym (function_is gs at ps t b ∙ went _ (taken_by words at x ps t b is f k) (ap (λ (j : ℕ). finished gs at j t b (scope_of gs text locals n n)) (sym (en ∙ f.arity))))

    pub make_on : {u : Result ⊤ Broken} {core₂ : List ℕ} → r ≡ (Ok tt) → Finishes text tree gs locals p q e n core u core₂ → Makes text tree gs p q e core u core₂
    make_on {u} {core₂} k fs = record {
      by = λ words at x ps t b is s few.
          subst (λ (m : Ruled C.Function). MakeCase b m q e core u core₂) (function_on words at x ps t b is (S.function_at_lem s) k) (fs.by words at x ps t b is s (en ∙ (S.function_at_lem s).arity));
    }
