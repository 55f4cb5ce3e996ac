-- A block, statement by statement: what the rest gives is what the whole gives.
use mathlib.Core.Path.{◌≡◌, refl, sym, ap, subst, ◌∙◌}
use mathlib.Core.List.{List, []}
use mathlib.Core.Option.{Option}
use Prim.Native.Nat.{ℕ, ◌+◌, ◌*◌, ◌≤◌, ◌<◌}
use native.Mathlib.Omega.{arith}
use lib.ListN.{length, drop}
use lib.Seq.{sets}
use Rattle.language.specs.Tree.{Place, Ty}
use Rattle.language.specs.Tree as T
use Rattle.language.specs.Core as C
use Rattle.language.specs.Rules.{Ruled, keeps, breaks, Global, Scope, stmt, block, most_locals}
use Rattle.grammar.specs.Flat as G
use Rattle.flat.specs.Statements.{flat, flats}
use Rattle.flat.specs.Words as F
use Rattle.flat.specs.Words.{rest_length}
use Rattle.flat.proofs.Writing.{stmt_then}
use Rattle.rules.specs.Tables.{word}
use Rattle.rules.specs.Named.{NamedStmt, NamedBlock}
use Rattle.std.specs.Prelude.{Some, None, Result, Ok, Err, ⊤}
use Rattle.std.specs.Prelude as P
use Rattle.rules.specs.declared.Broken.{Broken}
use Rattle.rules.specs.declared.Scope as S
use Rattle.grammar.specs.declared.tree.ValueType.{ValueType}
use Rattle.rules.specs.Values.{result_in, broken_at, scope_at}
use Rattle.rules.specs.Post.{scope_of, Stated, StmtCase}
use Rattle.rules.specs.Bounds.{most_places, most_words}
use Rattle.rules.specs.Statements.{Heads, Moves, StepCase, Within, BlockRoom, StmtRoom, Statement, Blocked, Blocks}
use Rattle.rules.proofs.Sorts.{kind_few}
use Rattle.rules.proofs.Stacks.{sets_append}
use Rattle.rules.proofs.Stating.{went, stopped}
use Rattle.rules.proofs.Extents.{flat_stmt, stmt_same, block_same}
use Rattle.rules.proofs.Walking.{Left, Next, next, ended, there, following, onward}

-- a block of the core, written from q on
pub record Written (m : Ruled (C.Block × ℕ)) (q : ℕ) (core : List ℕ) (count : ℕ) (core' : List ℕ) : Type 0 where
  pub value : C.Block
  pub is : m ≡ keeps (value, count)
  pub there : core' ≡ sets core q (F.block_words (flats value) [])

abbrev pub WriteCase : Ruled (C.Block × ℕ) → ℕ → List ℕ → Result ℕ Broken → List ℕ → Type 0
WriteCase m q core (Ok count) core' = Written m q core count core'
WriteCase m q core (Err at) core' = m ≡ breaks at.0

-- what is left, with its names, goes on to what the whole gives
pub record Rest (text : List ℕ) (gs : List Global) (result : Option Ty) (locals₀ : List ℕ) (l₀ count₀ q : ℕ) (core₀ : List ℕ) (b : T.Block) (to l count : ℕ) (locals core : List ℕ) (rest : T.Block) : Type 0 where
  pub named : NamedBlock text rest
  pub goes_on : (r : Result ℕ Broken) (core' : List ℕ) → WriteCase (block gs result rest (scope_of gs text locals l count)) to core r core' → WriteCase (block gs result b (scope_of gs text locals₀ l₀ count₀)) q core₀ r core'

pub record Blocking (text : List ℕ) (gs : List Global) (result : Option Ty) (tree : List ℕ) (n p q : ℕ) (locals₀ : List ℕ) (l₀ count₀ : ℕ) (types₀ starts₀ core₀ : List ℕ) (i at to l count : ℕ) (locals types starts core : List ℕ) : Type 0 where
  pub left : (b : T.Block) (more : List ℕ) → drop p tree ≡ G.block_words b more → n ≡ G.count b → NamedBlock text b → Left tree n more i at (Rest text gs result locals₀ l₀ count₀ q core₀ b to l count locals core)
  pub kept : (j : ℕ) → j < 4 * l₀ → word locals j ≡ word locals₀ j
  pub far : p ≤ at
  pub apart : at + q ≡ to + p
  pub near : at ≤ most_places
  pub seen : l₀ ≤ l
  pub visible : l ≤ count
  pub counted : count₀ ≤ count
  pub few : count ≤ most_locals
  pub for_locals : length locals ≡ length locals₀
  pub for_types : length types ≡ length types₀
  pub for_starts : length starts ≡ length starts₀
  pub for_core : length core ≡ length core₀

pub block_starts : (text : List ℕ) (gs : List Global) (result : Option Ty) (tree : List ℕ) (n p q : ℕ) (locals : List ℕ) (l count : ℕ) (types starts core : List ℕ) → BlockRoom tree locals l count types starts core p q →
    Blocking text gs result tree n p q locals l count types starts core 0 p q l count locals types starts core
block_starts text gs result tree n p q locals l count types starts core h = record {
  left = λ b more ew en nm. record { rest = b; words = ew; many = en ∙ omega arith; holds = record { named = nm; goes_on = λ r core' x. x } };
  kept = λ j h. refl;
  far = omega arith;
  apart = omega arith;
  near = h.room.place;
  seen = omega arith;
  visible = h.visible;
  counted = omega arith;
  few = h.few;
  for_locals = refl;
  for_types = refl;
  for_starts = refl;
  for_core = refl;
}

named_then : (text : List ℕ) (s : T.Stmt) (b : T.Block) → NamedBlock text (T.then s b) → NamedStmt text s × NamedBlock text b
unfolding NamedStmt
named_then text s b h = h

-- each statement has the block's result
pub in_scope : {text : List ℕ} (gs : List Global) {locals : List ℕ} {l count : ℕ} {result result' : P.Option ValueType} {us : List ℕ} {q : ℕ} {core : List ℕ} {r : Result S.Scope Broken} {locals' core' : List ℕ} → result' ≡ result →
    Statement text gs locals l count (result_in result') us q core r locals' core' → Statement text gs locals l count (result_in result) us q core r locals' core'
in_scope {text} gs {locals} {l} {count} {us = us} {q} {core} {r} {locals'} {core'} f x = subst (λ (i : P.Option ValueType). Statement text gs locals l count (result_in i) us q core r locals' core') f x

-- a statement, and then the rest
module _ (text : List ℕ) (gs : List Global) (result : Option Ty) (s : T.Stmt) (b : T.Block) (σ : Scope gs) where
  then_stops : {at : Place} → stmt gs result s σ ≡ breaks at → block gs result (T.then s b) σ ≡ breaks at
  unfolding stmt
  then_stops e = stopped _ e

  then_broken : {v : C.Stmt × Scope gs} {at : Place} → stmt gs result s σ ≡ keeps v → block gs result b v.1 ≡ breaks at → block gs result (T.then s b) σ ≡ breaks at
  unfolding stmt
  then_broken e f = went _ e (stopped _ f)

  then_goes : {v : C.Stmt × Scope gs} {w : C.Block × ℕ} → stmt gs result s σ ≡ keeps v → block gs result b v.1 ≡ keeps w → block gs result (T.then s b) σ ≡ keeps (C.then v.0 w.0, w.1)
  unfolding stmt
  then_goes e f = went _ e (went _ f refl)

  then_case : (core : List ℕ) {core₁ : List ℕ} (to to' : ℕ) (v : C.Stmt) (τ : Scope gs) → stmt gs result s σ ≡ keeps (v, τ) → core₁ ≡ sets core to (F.stmt_words (flat v) (rest_length (flat v)) []) → to' ≡ to + length (G.stmt_words s []) →
      (r : Result ℕ Broken) (core' : List ℕ) → WriteCase (block gs result b τ) to' core₁ r core' → WriteCase (block gs result (T.then s b) σ) to core r core'
  unfolding flats F.block_words
  then_case core to to' v τ e f h (Err at) core' x = then_broken e x
  then_case core to to' v τ e f h (Ok c) core' x = record {
    value = C.then v x.value;
    is = then_goes e x.is;
    there =
        x.there ∙ (ap (λ (w : List ℕ). sets w to' (F.block_words (flats x.value) [])) f ∙
        (ap (λ (k : ℕ). sets (sets core to (F.stmt_words (flat v) (rest_length (flat v)) [])) k (F.block_words (flats x.value) [])) long ∙
        (sets_append core to (F.stmt_words (flat v) (rest_length (flat v)) []) (F.block_words (flats x.value) []) ∙
        ap (sets core to) (sym (stmt_then (flat v) (rest_length (flat v)) [] (F.block_words (flats x.value) []))))));
  }
    where
      long : to' ≡ to + length (F.stmt_words (flat v) (rest_length (flat v)) [])
      long = omega (arith, h, flat_stmt (flat v) (rest_length (flat v)) [], ((stmt_same gs result s σ).holds (v, τ) e).same)

module _ {text : List ℕ} {gs : List Global} {result : Option Ty} {tree : List ℕ} {n p q : ℕ} {locals₀ : List ℕ} {l₀ count₀ : ℕ} {types₀ starts₀ core₀ : List ℕ} {i at to l count : ℕ} {locals types starts core : List ℕ}
    (c : Blocking text gs result tree n p q locals₀ l₀ count₀ types₀ starts₀ core₀ i at to l count locals types starts core) where
  abbrev Whole : Result ℕ Broken → List ℕ → List ℕ → Type 0
  Whole r locals' core' = Blocks text gs locals₀ l₀ count₀ result n (drop p tree) q core₀ r locals' core'

  abbrev NowLeft : T.Block → T.Block → Type 0
  NowLeft b = Rest text gs result locals₀ l₀ count₀ q core₀ b to l count locals core

  pub block_ends : n ≤ i → Whole (Ok count) locals core
  unfolding stmt flats F.block_words
  block_ends h = record { by = λ b more ew en nm. sized b ((ended h (c.left b more ew en nm)).goes_on (Ok count) core (record { value = C.end; is = refl; there = refl })); kept = c.kept; bounded = (c.counted, c.few) }
    where
      sized : (b : T.Block) → Written (block gs result b (scope_of gs text locals₀ l₀ count₀)) q core₀ count core → Blocked b (block gs result b (scope_of gs text locals₀ l₀ count₀)) q core₀ count core
      sized b w = record { value = w.value; is = w.is; there = w.there; size = ((block_same gs result b _).holds _ w.is).same; statements = ((block_same gs result b _).holds _ w.is).many }

  module _ (h : i < n) where
    abbrev Stands : T.Block → List ℕ → Type 0
    Stands b more = Next tree n more i at (NowLeft b)

    stands : (b : T.Block) (more : List ℕ) → drop p tree ≡ G.block_words b more → n ≡ G.count b → NamedBlock text b → Stands b more
    stands b more ew en nm = next h (c.left b more ew en nm)

    -- words that end before the statement does are no block's
    pub block_short : {core' : List ℕ} → length tree < at + 8 → Whole (Err (broken_at 0)) locals core'
    block_short e = record { by = λ b more ew en nm. absurd (omega (arith, e, there (stands b more ew en nm))); kept = c.kept; bounded = tt }

    -- nor where another kind stands than a statement's
    pub block_odd : {core' : List ℕ} → 10 < word (drop at tree) 0 → Whole (Err (broken_at 0)) locals core'
    block_odd e = record {
      by = λ b more ew en nm. let a = stands b more ew en nm in absurd (omega (arith, e, kind_few a.first (G.block_words a.rest more), ap (λ (w : List ℕ). word w 0) a.words));
      kept = c.kept;
      bounded = tt;
    }

    module _ {kind place size items more_items statements more_statements rest : ℕ} (hd : Heads (drop at tree) kind place size items more_items statements more_statements rest) where
      pub block_cut : {core' : List ℕ} → length tree < at + (8 + rest) → Whole (Err (broken_at 0)) locals core'
      block_cut e = record { by = λ b more ew en nm. absurd (omega (arith, e, hd.is_rest, there (stands b more ew en nm))); kept = c.kept; bounded = tt }

      module _ {r : Result S.Scope Broken} {locals₁ core₁ : List ℕ} (x : Statement text gs locals l count result (drop at tree) to core r locals₁ core₁) (m : Moves l count locals r locals₁) where
        stated : (b : T.Block) (more : List ℕ) (a : Stands b more) → StmtCase gs text (stmt gs result a.first (scope_of gs text locals l count)) to core r locals₁ core₁
        stated b more a = x.by a.first (G.block_words a.rest more) a.words (named_then text a.first a.rest a.holds.named).0

        still : (j : ℕ) → j < 4 * l₀ → word locals₁ j ≡ word locals₀ j
        still j e = m.kept j (omega (arith, e, c.seen)) ∙ c.kept j e

        pub block_stops : {b : Broken} {core' : List ℕ} → r ≡ Err b → Whole (Err b) locals₁ core'
        block_stops {b} {core'} d = record { by = λ t more ew en nm. go t more (stands t more ew en nm); kept = still; bounded = tt }
          where
            go : (t : T.Block) (more : List ℕ) → Stands t more → block gs result t (scope_of gs text locals₀ l₀ count₀) ≡ breaks b.0
            go t more a = a.holds.goes_on (Err b) core' (then_stops text gs result a.first a.rest _ (subst (λ (o : Result S.Scope Broken). StmtCase gs text (stmt gs result a.first (scope_of gs text locals l count)) to core o locals₁ core₁) d (stated t more a)))

        module _ {l₁ count₁ : ℕ} (d : r ≡ Ok (scope_at l₁ count₁)) where
          done : (b : T.Block) (more : List ℕ) (a : Stands b more) → Stated gs text (stmt gs result a.first (scope_of gs text locals l count)) to core l₁ count₁ locals₁ core₁
          done b more a = subst (λ (o : Result S.Scope Broken). StmtCase gs text (stmt gs result a.first (scope_of gs text locals l count)) to core o locals₁ core₁) d (stated b more a)

          moved : Within l count l₁ count₁
          moved = subst (StepCase l count) d m.within

          on : (b : T.Block) (more : List ℕ) → Stands b more → Left tree n more (i + 1) (at + (8 + rest)) (Rest text gs result locals₀ l₀ count₀ q core₀ b (to + (8 + rest)) l₁ count₁ locals₁ core₁)
          on b more a = onward a rest hd.is_rest (record {
            named = (named_then text a.first a.rest a.holds.named).1;
            goes_on = λ o core' y. a.holds.goes_on o core'
                (then_case text gs result a.first a.rest _ core to (to + (8 + rest)) (done b more a).value _ (done b more a).is (done b more a).there (omega (arith, following a hd.is_rest)) o core' y);
          })

          pub block_again : {types₁ starts₁ : List ℕ} → length tree ≤ most_words → at + (8 + rest) ≤ length tree → length locals₁ ≡ length locals → length types₁ ≡ length types → length starts₁ ≡ length starts → length core₁ ≡ length core →
              Blocking text gs result tree n p q locals₀ l₀ count₀ types₀ starts₀ core₀ (i + 1) (at + (8 + rest)) (to + (8 + rest)) l₁ count₁ locals₁ types₁ starts₁ core₁
          block_again e f el et es ec = record {
            left = λ b more ew en nm. on b more (stands b more ew en nm);
            kept = still;
            far = omega (arith, c.far);
            apart = omega (arith, c.apart);
            near = omega (arith, e, f);
            seen = omega (arith, c.seen, moved.visible);
            visible = moved.among c.visible;
            counted = omega (arith, c.counted, moved.counted);
            few = moved.few c.few;
            for_locals = el ∙ c.for_locals;
            for_types = et ∙ c.for_types;
            for_starts = es ∙ c.for_starts;
            for_core = ec ∙ c.for_core;
          }

  pub stmt_room : (rest : ℕ) → BlockRoom tree locals₀ l₀ count₀ types₀ starts₀ core₀ p q → at + (8 + rest) ≤ length tree → StmtRoom tree locals l count types starts core at to rest
  stmt_room rest h e = record {
    all = record {
      room = record {
        locals = omega (arith, c.visible, c.few);
        words = h.room.words;
        place = c.near;
        for_types = omega (arith, h.room.for_types, c.for_types);
        for_starts = omega (arith, h.room.for_starts, c.for_starts);
        for_core = omega (arith, h.room.for_core, c.for_core, c.apart);
        core_place = omega (arith, h.core_far, c.apart, e);
      };
      for_locals = omega (arith, h.for_locals, c.for_locals);
      visible = c.visible;
      few = c.few;
      core_far = omega (arith, h.core_far, c.apart);
    };
    whole = omega (arith, e);
  }
