-- Each way through the functions of arrays and functions is a clause of the parser.
use mathlib.Core.Path.{◌≡◌, refl, sym, ap, subst, ◌∙◌}
use mathlib.Core.Bool.{Bool}
use mathlib.Core.List.{List, [], ◌∷◌}
use mathlib.Core.Option.{Option}
use Prim.Native.Nat.{ℕ, zero, suc, ◌+◌, ◌-◌, ◌≤◌, ◌<◌}
use native.Mathlib.Omega.{arith}
use lib.Dec.{eqb}
use lib.ListN.{length}
use lib.Seq.{sets}
use borrow.Author.Tests.{eq-eqb, ne_eqb}
use Rattle.word.specs.Choice.{pick}
use Rattle.language.specs.Tree.{Param, Item}
use Rattle.tokens.specs.Kinds.{sign_kind, word_kind}
use Rattle.grammar.specs.Parse.{Out, Out.ok, Out.bad, next, map, place_in, name_in, number_in, kind, type_of, typed_of, block_of, param_of, param_list_of, params_of, result_of, size_of, array_of, body_of, function_of, item_of, items_of}
use Rattle.grammar.specs.Flat.{block_words, result_number, params_words, item_words, items_words}
use Rattle.grammar.specs.Told.{Row, field_of, Holds, Form, Says, Found, Told, Room, type_form, result_form, size_form, param_form, params_form, block_form, item_form, items_form}
use Rattle.grammar.proofs.FlatLaws.{params_linear, item_linear}
use Rattle.grammar.proofs.Steps.{Got, Done, Fault, fault, same, leaf, close, recast, front_two, Going, goes_done, goes_fault, goes_on, kind_is, kind_not, kind_eq, name_length, number_is, place_is}
use Rattle.grammar.proofs.StmtLaws.{typed_name}

-- room after a function's parameters
pub room_gap3 : {A : Type 0} {F : Form A} {f : Row → Out A} {ts : List ℕ} {n i at b j e c : ℕ} {xs ys : List ℕ} → Room n xs i at → b ≡ at + 8 → Found F f ts n xs (i + 3) b j e c ys → length ys ≡ length xs → (k : ℕ) → j ≤ k → k ≤ n → Room n ys k e
room_gap3 r z f q k l l' = record { begins = l'; free = omega (arith, r.free, f.small) }

-- `parameter`
module _ (i : ℕ) {ts : List ℕ} {n at : ℕ} {xs : List ℕ} where
  pub param_bad : {p : ℕ} {ys : List ℕ} → ((tok : Row) → Holds tok ts n → typed_of tok i ≡ bad p) → Told param_form (λ tok. param_of tok i) ts n xs i at (Fault p) ys
  unfolding param_of
  param_bad b = fault (λ tok H. rw (b tok H))

  pub param_done : {j e t p v f : ℕ} {ys : List ℕ} → Found type_form (λ tok. typed_of tok i) ts n [] (i + 1) 0 j e t [] → p ≡ field_of ts n i 1 → v ≡ field_of ts n i 2 → ys ≡ sets xs at (p ∷ v ∷ t ∷ []) → f ≡ at + 3
      → Told param_form (λ tok. param_of tok i) ts n xs i at (Done j f 1) ys
  unfolding param_of params_words
  param_done {j} {e} {t} {p} {v} {f} a r s y z =
      record {
        by = record {
          within = a.within;
          small = omega (arith, a.small);
          onward = omega (arith, z);
          fits = omega arith;
          says = λ tok H.
              let w : Says type_form (typed_of tok i) [] 0 j e t [] = a.says tok H in
              record {
                value = record { place = place_in (tok i); name = name_in (tok i); type = w.value };
                is = rw w.is;
                told = refl;
                end = z;
                buffer = rw (place_is H i r, name_length H i refl (H.kind i ∙ typed_name tok i w.is) s, sym w.told) y;
              };
        };
      }

-- `list` of parameters
module _ (m i : ℕ) where
  params_step : (tok : Row) → 0 < m → param_list_of tok m i ≡ next (param_of tok i) (λ x j. pick (eqb (kind tok j) 26) (map (λ xs. x ∷ xs) (param_list_of tok (m - 1) (j + 1))) (ok (x ∷ []) j))
  unfolding param_list_of sign_kind
  params_step tok = go m
    where
      go : (m : ℕ) → 0 < m → param_list_of tok m i ≡ next (param_of tok i) (λ x j. pick (eqb (kind tok j) 26) (map (λ xs. x ∷ xs) (param_list_of tok (m - 1) (j + 1))) (ok (x ∷ []) j))
      go zero z = absurd (omega arith)
      go (suc m) z = let q : m ≡ suc m - 1 = omega arith in ap (λ (m : ℕ). next (param_of tok i) (λ x j. pick (eqb (kind tok j) 26) (map (λ xs. x ∷ xs) (param_list_of tok m (j + 1))) (ok (x ∷ []) j))) q

  params_next : (tok : Row) {j : ℕ} {x : Param} → 0 < m → param_of tok i ≡ ok x j → param_list_of tok m i ≡ pick (eqb (kind tok j) 26) (map (λ xs. x ∷ xs) (param_list_of tok (m - 1) (j + 1))) (ok (x ∷ []) j)
  params_next tok z o = params_step tok z ∙ ap (λ (o : Out Param). next o (λ x j. pick (eqb (kind tok j) 26) (map (λ xs. x ∷ xs) (param_list_of tok (m - 1) (j + 1))) (ok (x ∷ []) j))) o

  module _ {ts : List ℕ} {n : ℕ} {f : Row → Out (List Param)} {s start at c : ℕ} {xs ys : List ℕ} (a : Going params_form f (λ tok. param_list_of tok m i) ts n xs s start i at c ys) where
    pub params_out : m ≤ 0 → Told params_form f ts n xs s start (Fault i) ys
    unfolding param_list_of
    params_out z = let q : m ≡ 0 = omega arith in goes_fault a (λ tok H. ap (λ (m : ℕ). param_list_of tok m i) q)

    pub params_bad : {p : ℕ} {zs : List ℕ} → 0 < m → ((tok : Row) → Holds tok ts n → param_of tok i ≡ bad p) → Told params_form f ts n xs s start (Fault p) zs
    params_bad z b = goes_fault a (λ tok H. params_step tok z ∙ ap (λ (o : Out Param). next o (λ x j. pick (eqb (kind tok j) 26) (map (λ xs. x ∷ xs) (param_list_of tok (m - 1) (j + 1))) (ok (x ∷ []) j))) (b tok H))

    pub params_last : {j e x k : ℕ} {zs : List ℕ} → 0 < m → c + m ≤ 65536 → Found param_form (λ tok. param_of tok i) ts n ys i at j e x zs → k ≡ field_of ts n j 0 → (k ≡ 26 → ⊥) → Told params_form f ts n xs s start (Done j e (c + 1)) zs
    unfolding params_words
    params_last {j} {e} {x} {k} {zs} z l b q r =
        let o : Told params_form (λ tok. param_list_of tok m i) ts n ys i at (Done j e 1) zs =
        close (λ tok a. a ∷ []) [] b refl (omega arith) b.within b.small (omega arith)
        (λ tok H a o _. (params_next tok z o ∙ ap (λ (t : Bool). pick t (map (λ xs. a ∷ xs) (param_list_of tok (m - 1) (j + 1))) (ok (a ∷ []) j)) (kind_not H j 26 q r), refl, refl)) in
        goes_done a o refl (omega arith)

    pub params_again : {j e x k m' : ℕ} {zs : List ℕ} → m - 1 ≡ m' → 0 < m → Found param_form (λ tok. param_of tok i) ts n ys i at j e x zs → k ≡ field_of ts n j 0 → k ≡ 26 → j < n → Going params_form f (λ tok. param_list_of tok m' (j + 1)) ts n xs s start (j + 1) e (c + 1) zs
    unfolding params_words
    params_again {j} {e} {x} {k} {m'} {zs} w z b q r l =
        subst (λ (m : ℕ). Going params_form f (λ tok. param_list_of tok m (j + 1)) ts n xs s start (j + 1) e (c + 1) zs) w
        (goes_on (λ tok b es. b ∷ es) 1 a b (omega arith) (omega arith) refl
        (λ tok H b o. params_next tok z o ∙ ap (λ (t : Bool). pick t (map (λ xs. b ∷ xs) (param_list_of tok (m - 1) (j + 1))) (ok (b ∷ []) j)) (kind_is H j 26 q r))
        (λ tok b es. (refl, omega arith)))

-- `parameters`
module _ (i : ℕ) {ts : List ℕ} {n at k : ℕ} {xs : List ℕ} (q : k ≡ field_of ts n i 0) where
  pub parameters_none : k ≡ 19 → i ≤ n → Told params_form (λ tok. params_of tok i) ts n xs i at (Done i at 0) xs
  unfolding params_of sign_kind params_words
  parameters_none e l = leaf (λ tok. []) [] refl (omega arith) l (omega arith) (omega arith) (λ tok H. (rw (kind_eq H i 19 q e), refl, refl))

  pub parameters_some : {r : Got} {ys : List ℕ} → (k ≡ 19 → ⊥) → Told params_form (λ tok. param_list_of tok 65536 i) ts n xs i at r ys → Told params_form (λ tok. params_of tok i) ts n xs i at r ys
  unfolding params_of sign_kind
  parameters_some e t = same (λ tok H. ap (λ (b : Bool). pick b (ok [] i) (param_list_of tok 65536 i)) (kind_not H i 19 q e)) t

-- `result`
module _ (i : ℕ) {ts : List ℕ} {n k : ℕ} (q : k ≡ field_of ts n i 0) where
  pub result_none : (k ≡ 24 → ⊥) → i ≤ n → Told result_form (λ tok. result_of tok i) ts n [] i 0 (Done i 0 0) []
  unfolding result_of sign_kind result_number
  result_none e l = leaf (λ tok. Option.none) [] refl refl l (omega arith) (omega arith) (λ tok H. (rw (kind_not H i 24 q e), refl, refl))

  pub result_some : {r : Got} → k ≡ 24 → Told type_form (λ tok. type_of tok (i + 1)) ts n [] (i + 1) 0 r [] → Told result_form (λ tok. result_of tok i) ts n [] i 0 r []
  unfolding result_of sign_kind result_number
  result_some e t = recast (λ tok H t. Option.some t) (omega arith) t (λ tok H. rw (kind_eq H i 24 q e)) (λ tok H t. (refl, refl))

-- `size`
module _ (i : ℕ) {ts : List ℕ} {n k₀ : ℕ} (q₀ : k₀ ≡ field_of ts n i 0) where
  pub size_unopened : (k₀ ≡ 22 → ⊥) → Told size_form (λ tok. size_of tok i) ts n [] i 0 (Fault i) []
  unfolding size_of sign_kind
  size_unopened e = fault (λ tok H. rw (kind_not H i 22 q₀ e))

  module _ {k₁ : ℕ} (e₀ : k₀ ≡ 22) (q₁ : k₁ ≡ field_of ts n (i + 1) 0) where
    pub size_unnumbered : (k₁ ≡ 2 → ⊥) → Told size_form (λ tok. size_of tok i) ts n [] i 0 (Fault (i + 1)) []
    unfolding size_of sign_kind
    size_unnumbered e = fault (λ tok H. rw (kind_eq H i 22 q₀ e₀, kind_not H (i + 1) 2 q₁ e))

    module _ {k₂ : ℕ} (e₁ : k₁ ≡ 2) (q₂ : k₂ ≡ field_of ts n (i + 2) 0) where
      pub size_unclosed : (k₂ ≡ 23 → ⊥) → Told size_form (λ tok. size_of tok i) ts n [] i 0 (Fault (i + 2)) []
      unfolding size_of sign_kind
      size_unclosed e = fault (λ tok H. rw (kind_eq H i 22 q₀ e₀, kind_eq H (i + 1) 2 q₁ e₁, kind_not H (i + 2) 23 q₂ e))

      module _ {k₃ : ℕ} (e₂ : k₂ ≡ 23) (q₃ : k₃ ≡ field_of ts n (i + 3) 0) where
        pub size_unended : (k₃ ≡ 25 → ⊥) → Told size_form (λ tok. size_of tok i) ts n [] i 0 (Fault (i + 3)) []
        unfolding size_of sign_kind
        size_unended e = fault (λ tok H. rw (kind_eq H i 22 q₀ e₀, kind_eq H (i + 1) 2 q₁ e₁, kind_eq H (i + 2) 23 q₂ e₂, kind_not H (i + 3) 25 q₃ e))

        pub size_done : {v : ℕ} → k₃ ≡ 25 → i + 3 < n → v ≡ field_of ts n (i + 1) 2 → v < 4294967296 → Told size_form (λ tok. size_of tok i) ts n [] i 0 (Done (i + 4) 0 v) []
        unfolding size_of sign_kind
        size_done {v} e l r f =
            leaf (λ tok. number_in (tok (i + 1))) [] refl refl (omega arith) (omega arith) f
            (λ tok H. (rw (kind_eq H i 22 q₀ e₀, kind_eq H (i + 1) 2 q₁ e₁, kind_eq H (i + 2) 23 q₂ e₂, kind_eq H (i + 3) 25 q₃ e), refl, sym (number_is H (i + 1) q₁ e₁ r)))

-- `array`
module _ (i : ℕ) {ts : List ℕ} {n at k₁ : ℕ} {xs : List ℕ} (q₁ : k₁ ≡ field_of ts n (i + 1) 0) where
  pub array_unnamed : {ys : List ℕ} → (k₁ ≡ 1 → ⊥) → Told item_form (λ tok. array_of tok i) ts n xs i at (Fault (i + 1)) ys
  unfolding array_of
  array_unnamed e = fault (λ tok H. rw (kind_not H (i + 1) 1 q₁ e))

  module _ {k₂ : ℕ} (e₁ : k₁ ≡ 1) (q₂ : k₂ ≡ field_of ts n (i + 2) 0) where
    pub array_bare : {ys : List ℕ} → (k₂ ≡ 24 → ⊥) → Told item_form (λ tok. array_of tok i) ts n xs i at (Fault (i + 2)) ys
    unfolding array_of sign_kind
    array_bare e = fault (λ tok H. rw (kind_eq H (i + 1) 1 q₁ e₁, kind_not H (i + 2) 24 q₂ e))

    module _ {k₃ : ℕ} (e₂ : k₂ ≡ 24) (q₃ : k₃ ≡ field_of ts n (i + 3) 0) where
      pub array_untyped : {ys : List ℕ} → (k₃ ≡ 35 → ⊥) → Told item_form (λ tok. array_of tok i) ts n xs i at (Fault (i + 3)) ys
      unfolding array_of sign_kind word_kind
      array_untyped e = fault (λ tok H. rw (kind_eq H (i + 1) 1 q₁ e₁, kind_eq H (i + 2) 24 q₂ e₂, kind_not H (i + 3) 35 q₃ e))

      pub array_bad : {p : ℕ} {ys : List ℕ} → k₃ ≡ 35 → ((tok : Row) → Holds tok ts n → size_of tok (i + 4) ≡ bad p) → Told item_form (λ tok. array_of tok i) ts n xs i at (Fault p) ys
      unfolding array_of sign_kind word_kind
      array_bad e b = fault (λ tok H. rw (kind_eq H (i + 1) 1 q₁ e₁, kind_eq H (i + 2) 24 q₂ e₂, kind_eq H (i + 3) 35 q₃ e, b tok H))

      pub array_done : {j e c p v f : ℕ} {ys : List ℕ} → k₃ ≡ 35 → Found size_form (λ tok. size_of tok (i + 4)) ts n [] (i + 4) 0 j e c [] → p ≡ field_of ts n (i + 1) 1 → v ≡ field_of ts n (i + 1) 2
          → ys ≡ sets xs at (0 ∷ p ∷ v ∷ c ∷ 0 ∷ 0 ∷ 0 ∷ 0 ∷ []) → f ≡ at + 8 → Told item_form (λ tok. array_of tok i) ts n xs i at (Done j f 1) ys
      unfolding array_of sign_kind word_kind item_words
      array_done {j} {e} {c} {p} {v} {f} e₃ a r s y z =
          record {
            by = record {
              within = a.within;
              small = omega (arith, a.small);
              onward = omega (arith, z);
              fits = omega arith;
              says = λ tok H.
                  let w : Says size_form (size_of tok (i + 4)) [] 0 j e c [] = a.says tok H in
                  record {
                    value = Item.array (place_in (tok (i + 1))) (name_in (tok (i + 1))) w.value;
                    is = rw (kind_eq H (i + 1) 1 q₁ e₁, kind_eq H (i + 2) 24 q₂ e₂, kind_eq H (i + 3) 35 q₃ e₃, w.is);
                    told = refl;
                    end = z;
                    buffer = rw (place_is H (i + 1) r, name_length H (i + 1) q₁ e₁ s, sym w.told) y;
                  };
            };
          }

-- `function`
module _ (i : ℕ) {ts : List ℕ} {n at k₁ : ℕ} {xs : List ℕ} (q₁ : k₁ ≡ field_of ts n (i + 1) 0) where
  pub function_unnamed : {ys : List ℕ} → (k₁ ≡ 1 → ⊥) → Told item_form (λ tok. function_of tok i) ts n xs i at (Fault (i + 1)) ys
  unfolding function_of
  function_unnamed e = fault (λ tok H. rw (kind_not H (i + 1) 1 q₁ e))

  module _ {k₂ : ℕ} (e₁ : k₁ ≡ 1) (q₂ : k₂ ≡ field_of ts n (i + 2) 0) where
    pub function_unopened : {ys : List ℕ} → (k₂ ≡ 18 → ⊥) → Told item_form (λ tok. function_of tok i) ts n xs i at (Fault (i + 2)) ys
    unfolding function_of sign_kind
    function_unopened e = fault (λ tok H. rw (kind_eq H (i + 1) 1 q₁ e₁, kind_not H (i + 2) 18 q₂ e))

    module _ (e₂ : k₂ ≡ 18) where
      pub function_params_bad : {p : ℕ} {ys : List ℕ} → ((tok : Row) → Holds tok ts n → params_of tok (i + 3) ≡ bad p) → Told item_form (λ tok. function_of tok i) ts n xs i at (Fault p) ys
      unfolding function_of sign_kind
      function_params_bad b = fault (λ tok H. rw (kind_eq H (i + 1) 1 q₁ e₁, kind_eq H (i + 2) 18 q₂ e₂, b tok H))

      module _ {b j e c k : ℕ} {ys : List ℕ} (a : Found params_form (λ tok. params_of tok (i + 3)) ts n xs (i + 3) b j e c ys) (q : k ≡ field_of ts n j 0) where
        pub function_unclosed : {zs : List ℕ} → (k ≡ 19 → ⊥) → Told item_form (λ tok. function_of tok i) ts n xs i at (Fault j) zs
        unfolding function_of sign_kind
        function_unclosed z = fault (λ tok H. rw (kind_eq H (i + 1) 1 q₁ e₁, kind_eq H (i + 2) 18 q₂ e₂, (a.says tok H).is, kind_not H j 19 q z))

        pub function_result_bad : {p : ℕ} {zs : List ℕ} → k ≡ 19 → ((tok : Row) → Holds tok ts n → result_of tok (j + 1) ≡ bad p) → Told item_form (λ tok. function_of tok i) ts n xs i at (Fault p) zs
        unfolding function_of body_of sign_kind
        function_result_bad z h = fault (λ tok H. rw (kind_eq H (i + 1) 1 q₁ e₁, kind_eq H (i + 2) 18 q₂ e₂, (a.says tok H).is, kind_eq H j 19 q z, h tok H))

        module _ {m x t : ℕ} (z : k ≡ 19) (r : Found result_form (λ tok. result_of tok (j + 1)) ts n [] (j + 1) 0 m x t []) where
          pub function_body_bad : {p : ℕ} {zs : List ℕ} → ((tok : Row) → Holds tok ts n → block_of tok 33 0 m ≡ bad p) → Told item_form (λ tok. function_of tok i) ts n xs i at (Fault p) zs
          unfolding function_of body_of sign_kind
          function_body_bad h = fault (λ tok H. rw (kind_eq H (i + 1) 1 q₁ e₁, kind_eq H (i + 2) 18 q₂ e₂, (a.says tok H).is, kind_eq H j 19 q z, (r.says tok H).is, h tok H))

          pub function_done : {l f c' p v w₂ w : ℕ} {zs us : List ℕ} → b ≡ at + 8 → Found block_form (λ tok. block_of tok 33 0 m) ts n ys m e l f c' zs → p ≡ field_of ts n (i + 1) 1 → v ≡ field_of ts n (i + 1) 2 → w₂ ≡ f - e → w ≡ f - b
              → us ≡ sets zs at (1 ∷ p ∷ v ∷ c ∷ t ∷ c' ∷ w₂ ∷ w ∷ []) → Told item_form (λ tok. function_of tok i) ts n xs i at (Done l f 1) us
          unfolding function_of body_of sign_kind item_words
          function_done {l} {f} {c'} {p} {v} {w₂} {w} g h r₁ r₂ t₂ t₃ y =
              front_two (λ tok H xs b. Item.function (place_in (tok (i + 1))) (name_in (tok (i + 1))) xs (r.says tok H).value b) (1 ∷ p ∷ v ∷ c ∷ t ∷ c' ∷ w₂ ∷ w ∷ []) g a h y h.within (omega (arith, a.small, h.small, r.small)) (omega arith)
              (λ tok H ps s o o' v₁ v₂ u u'.
              let u₂ : w₂ ≡ length (block_words s []) = omega (arith, t₂, u') in
              let u₃ : w ≡ length (params_words ps []) + length (block_words s []) = omega (arith, t₃, u, u') in
              (rw (kind_eq H (i + 1) 1 q₁ e₁, kind_eq H (i + 2) 18 q₂ e₂, o, kind_eq H j 19 q z, (r.says tok H).is, o'), rw (place_is H (i + 1) r₁, name_length H (i + 1) q₁ e₁ r₂, sym v₁, sym (r.says tok H).told, sym v₂, sym u₃, sym u₂) (ap (λ (m : List ℕ). 1 ∷ p ∷ v ∷ c ∷ t ∷ c' ∷ w₂ ∷ w ∷ m) (params_linear ps (block_words s []))), refl))

-- `item_at`
module _ (i : ℕ) {ts : List ℕ} {n at k : ℕ} {xs : List ℕ} (q : k ≡ field_of ts n i 0) where
  pub item_array : {r : Got} {ys : List ℕ} → k ≡ 27 → Told item_form (λ tok. array_of tok i) ts n xs i at r ys → Told item_form (λ tok. item_of tok i) ts n xs i at r ys
  unfolding item_of word_kind
  item_array e t = same (λ tok H. rw (kind_eq H i 27 q e)) t

  pub item_function : {r : Got} {ys : List ℕ} → k ≡ 28 → Told item_form (λ tok. function_of tok i) ts n xs i at r ys → Told item_form (λ tok. item_of tok i) ts n xs i at r ys
  unfolding item_of word_kind
  item_function e t = same (λ tok H. rw (kind_eq H i 28 q e)) t

  pub item_none : {ys : List ℕ} → (k ≡ 27 → ⊥) → (k ≡ 28 → ⊥) → Told item_form (λ tok. item_of tok i) ts n xs i at (Fault i) ys
  unfolding item_of word_kind
  item_none a b = fault (λ tok H. rw (kind_not H i 27 q a, kind_not H i 28 q b))

-- `items`
module _ (count m i : ℕ) where
  items_step : (tok : Row) → 0 < m → items_of tok count m i ≡ pick (eqb i count) (ok [] i) (next (item_of tok i) (λ x j. map (λ xs. x ∷ xs) (items_of tok count (m - 1) j)))
  unfolding items_of
  items_step tok = go m
    where
      go : (m : ℕ) → 0 < m → items_of tok count m i ≡ pick (eqb i count) (ok [] i) (next (item_of tok i) (λ x j. map (λ xs. x ∷ xs) (items_of tok count (m - 1) j)))
      go zero z = absurd (omega arith)
      go (suc m) z = let q : m ≡ suc m - 1 = omega arith in ap (λ (m : ℕ). pick (eqb i count) (ok [] i) (next (item_of tok i) (λ x j. map (λ xs. x ∷ xs) (items_of tok count m j)))) q

  items_on : (tok : Row) → 0 < m → (i ≡ count → ⊥) → items_of tok count m i ≡ next (item_of tok i) (λ x j. map (λ xs. x ∷ xs) (items_of tok count (m - 1) j))
  items_on tok z e = items_step tok z ∙ ap (λ (b : Bool). pick b (ok [] i) (next (item_of tok i) (λ x j. map (λ xs. x ∷ xs) (items_of tok count (m - 1) j)))) (ne_eqb i count e)

  module _ {ts : List ℕ} {n : ℕ} {f : Row → Out (List Item)} {s start at c : ℕ} {xs ys : List ℕ} (a : Going items_form f (λ tok. items_of tok count m i) ts n xs s start i at c ys) where
    pub items_out : m ≤ 0 → Told items_form f ts n xs s start (Fault i) ys
    unfolding items_of
    items_out z = let q : m ≡ 0 = omega arith in goes_fault a (λ tok H. ap (λ (m : ℕ). items_of tok count m i) q)

    pub items_end : 0 < m → c + m ≤ 65537 → i ≡ count → Told items_form f ts n xs s start (Done i at c) ys
    unfolding items_words
    items_end z l e =
        goes_done a (leaf (λ tok. []) [] refl (omega arith) a.within (omega arith) (omega arith)
        (λ tok H. (items_step tok z ∙ ap (λ (b : Bool). pick b (ok [] i) (next (item_of tok i) (λ x j. map (λ xs. x ∷ xs) (items_of tok count (m - 1) j)))) (eq-eqb i count e), refl, refl))) (omega arith) (omega arith)

    pub items_bad : {p : ℕ} {zs : List ℕ} → 0 < m → (i ≡ count → ⊥) → ((tok : Row) → Holds tok ts n → item_of tok i ≡ bad p) → Told items_form f ts n xs s start (Fault p) zs
    items_bad z e b = goes_fault a (λ tok H. items_on tok z e ∙ ap (λ (o : Out Item). next o (λ x j. map (λ xs. x ∷ xs) (items_of tok count (m - 1) j))) (b tok H))

    pub items_again : {j e x m' : ℕ} {zs : List ℕ} → m - 1 ≡ m' → 0 < m → (i ≡ count → ⊥) → Found item_form (λ tok. item_of tok i) ts n ys i at j e x zs → Going items_form f (λ tok. items_of tok count m' j) ts n xs s start j e (c + 1) zs
    unfolding items_words
    items_again {j} {e} {x} {m'} {zs} w z ne b =
        subst (λ (m : ℕ). Going items_form f (λ tok. items_of tok count m j) ts n xs s start j e (c + 1) zs) w
        (goes_on (λ tok x xs. x ∷ xs) 1 a b (omega arith) b.within refl
        (λ tok H x o. items_on tok z ne ∙ ap (λ (o : Out Item). next o (λ x j. map (λ xs. x ∷ xs) (items_of tok count (m - 1) j))) o)
        (λ tok x xs. (item_linear x (items_words xs []), omega arith)))
