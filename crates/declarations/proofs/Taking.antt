-- Parameters, one after the other: what is left of them enters the rest.
use mathlib.Core.Path.{◌≡◌, refl, ap, ◌∙◌}
use mathlib.Core.Bool.{Bool, true, false}
use mathlib.Core.List.{List, [], ◌∷◌}
use Prim.Native.Nat.{ℕ, ◌+◌, ◌*◌, ◌≤◌, ◌<◌}
use native.Mathlib.Numerals.{add-one}
use native.Mathlib.Omega.{arith}
use lib.ListN.{length, drop}
use Rattle.language.specs.Tree.{Param}
use Rattle.language.specs.Rules.{Ruled, keeps, breaks, need, Global, Scope, fresh, parameters}
use Rattle.grammar.specs.Flat as G
use Rattle.rules.specs.Tables.{word, part, type_of, locals_in}
use Rattle.rules.specs.Named.{NamedParams}
use Rattle.rules.specs.Post.{scope_of, Freshly}
use Rattle.grammar.specs.declared.tree.ValueType.{ValueType}
use Rattle.rules.proofs.Stating.{went, stopped}
use Rattle.std.specs.Prelude.{Ok, Err}
use Rattle.rules.specs.Values.{broken_at, meant, Enters}
use Rattle.declarations.specs.Post.{no_locals, Takes}
use Rattle.declarations.proofs.Standing as S

pub record Left (text tree : List ℕ) (gs : List Global) (p n k : ℕ) (locals : List ℕ) (m : Ruled (Scope gs)) (more : List ℕ) : Type 0 where
  pub rest : List Param
  pub stands : drop (p + 3 * k) tree ≡ G.params_words rest more
  pub count : n ≡ k + length rest
  pub named : NamedParams text rest
  pub is : m ≡ parameters gs rest (scope_of gs text locals k k)

pub record Taking (text tree : List ℕ) (gs : List Global) (p n k : ℕ) (locals : List ℕ) : Type 0 where
  pub by : (ps : List Param) (more : List ℕ) → drop p tree ≡ G.params_words ps more → n ≡ length ps → NamedParams text ps → Left text tree gs p n k locals (parameters gs ps (no_locals gs)) more
  pub below : k ≤ n

pub taking_start : (text tree : List ℕ) (gs : List Global) (p n : ℕ) (locals : List ℕ) → Taking text tree gs p n 0 locals
unfolding locals_in
taking_start text tree gs p n locals = record {
  by = λ ps more e c h. record { rest = ps; stands = ap (λ (i : ℕ). drop i tree) {x = p + 3 * 0} {y = p} (omega arith) ∙ e; count = omega (arith, c); named = h; is = refl };
  below = omega arith;
}

module _ (text tree : List ℕ) (gs : List Global) (p n k : ℕ) (locals : List ℕ) {at size : ℕ} (ty : ValueType) {b : Bool}
    (ea : at ≡ word tree (p + 3 * k)) (es : size ≡ word tree (p + 3 * k + 1)) (et : meant ty ≡ type_of (word tree (p + 3 * k + 2))) (fr : Freshly text gs locals k at size b) where
  record Parameter (x : Param) (xs : List Param) (more : List ℕ) : Type 0 where
    place : at ≡ x.place
    name : part text at size ≡ x.name
    type : meant ty ≡ x.type
    rest : drop (p + 3 * (k + 1)) tree ≡ G.params_words xs more
    named : NamedParams text xs
    new : fresh gs (locals_in text locals k) x.place x.name ≡ need b at

  parameter_at : (x : Param) (xs : List Param) (more : List ℕ) → drop (p + 3 * k) tree ≡ G.params_words (x ∷ xs) more → NamedParams text (x ∷ xs) → Parameter x xs more
  unfolding G.params_words NamedParams
  parameter_at x xs more e h =
      let place : at ≡ x.place = ea ∙ S.word_first tree (p + 3 * k) e in
      let name : part text at size ≡ x.name = rw (place, es ∙ S.word_in tree (p + 3 * k) 1 e) h.0 in
      record {
        place = place;
        name = name;
        type = et ∙ (ap type_of (S.word_in tree (p + 3 * k) 2 e) ∙ S.type_number_lem x.type);
        rest = ap (λ (i : ℕ). drop i tree) {x = p + 3 * (k + 1)} {y = p + 3 * k + 3} (omega arith) ∙ S.drop_in tree (p + 3 * k) 3 e;
        named = h.1;
        new = rw (← place, ← name) fr.is;
      }

  known_parameter : b ≡ false → k < n → {m : Ruled (Scope gs)} (more : List ℕ) (xs : List Param) → drop (p + 3 * k) tree ≡ G.params_words xs more → n ≡ k + length xs → NamedParams text xs → m ≡ parameters gs xs (scope_of gs text locals k k) → m ≡ breaks at
  unfolding parameters need
  known_parameter f l more [] e c h q = absurd (omega (arith, l, c))
  known_parameter f l more (x ∷ xs) e c h q = let y = parameter_at x xs more e h in q ∙ stopped _ (y.new ∙ ap (λ (t : Bool). need t at) f)

  new_parameter : {locals' : List ℕ} → b ≡ true → k < n → Enters locals k (record { name = record { place = at; length = size }; ty = ty; slot = k }) locals' → {m : Ruled (Scope gs)} {more : List ℕ} (xs : List Param) → drop (p + 3 * k) tree ≡ G.params_words xs more → n ≡ k + length xs → NamedParams text xs →
      m ≡ parameters gs xs (scope_of gs text locals k k) → Left text tree gs p n (k + 1) locals' m more
  unfolding parameters need
  new_parameter f l en [] e c h q = absurd (omega (arith, l, c))
  new_parameter {locals'} f l en {m = m} {more = more} (x ∷ xs) e c h q =
      let y = parameter_at x xs more e h in
      record {
        rest = xs;
        stands = y.rest;
        count = omega (arith, c);
        named = y.named;
        is = q ∙ went _ (y.new ∙ ap (λ (t : Bool). need t at) f) (rw (en.is text, y.name, y.type, add-one k) refl);
      }

  pub taking_known : {locals' : List ℕ} → Taking text tree gs p n k locals → k < n → b ≡ false → Takes text gs n (drop p tree) (Err (broken_at at)) locals'
  taking_known t l f = record { by = λ ps more e c h. let d = t.by ps more e c h in known_parameter f l more d.rest d.stands d.count d.named d.is }

  pub taking_next : {locals' : List ℕ} → Taking text tree gs p n k locals → k < n → b ≡ true → Enters locals k (record { name = record { place = at; length = size }; ty = ty; slot = k }) locals' → Taking text tree gs p n (k + 1) locals'
  taking_next t l f en = record { by = λ ps more e c h. let d = t.by ps more e c h in new_parameter f l en d.rest d.stands d.count d.named d.is; below = omega (arith, l) }

all_taken : (text : List ℕ) (gs : List Global) (n k : ℕ) (locals : List ℕ) {m : Ruled (Scope gs)} → n ≤ k → (xs : List Param) → n ≡ k + length xs → m ≡ parameters gs xs (scope_of gs text locals k k) → m ≡ keeps (scope_of gs text locals n n)
unfolding parameters
all_taken text gs n k locals l [] c q = q ∙ ap (λ (i : ℕ). keeps (scope_of gs text locals i i)) {x = k} {y = n} (omega (arith, c))
all_taken text gs n k locals l (x ∷ xs) c q = absurd (omega (arith, l, c))

pub taking_end : {text tree : List ℕ} {gs : List Global} {p n k : ℕ} {locals : List ℕ} → Taking text tree gs p n k locals → n ≤ k → Takes text gs n (drop p tree) (Ok tt) locals
taking_end {text} {gs = gs} {n = n} {k = k} {locals = locals} t l = record { by = λ ps more e c h. let d = t.by ps more e c h in all_taken text gs n k locals l d.rest d.count d.is }
