-- Laws of the promises: what a part gives, and how parts make a whole.
use mathlib.Core.Path.{◌≡◌, refl, sym, ap, subst, ◌∙◌}
use mathlib.Core.Bool.{Bool, true, false}
use mathlib.Core.Logic.{◌↔◌}
use Rattle.std.specs.Bool.{IsTrue}
use mathlib.Core.List.{List, [], ◌++◌, append_assoc}
use mathlib.Core.Option.{Option}
use Prim.Native.Nat.{ℕ, ◌+◌, ◌*◌, ◌≤◌, ◌<◌}
use native.Mathlib.Omega.{arith}
use lib.Dec.{eqb}
use lib.ListN.{length, length-append}
use lib.Seq.{sets}
use borrow.Author.Tests.{eq-eqb, ne_eqb}
use Rattle.language.specs.Tokens.{Placed}
use Rattle.tokens.specs.Kinds.{value_of}
use Rattle.grammar.specs.Parse.{Out, Out.ok, Out.bad, next, map, kind_in, place_in, name_in, name_of, number_in, number_of, kind}
use Rattle.grammar.specs.Told.{Row, field_of, value_in, Holds, Form, Says, Found, Told, Room}
use Rattle.std.specs.Prelude.{Result, Option as Perhaps}
use Rattle.std.specs.Result.{IsErrAnd}
use Rattle.std.proofs.lemmas.Result.{err_from_is_err_and}
use Rattle.grammar.specs.Types.{told_type, told_result}
use Rattle.grammar.specs.declared.types.TypeRead.{TypeRead}
use Rattle.grammar.specs.declared.tree.ValueType.{ValueType}
use Rattle.grammar.specs.declared.input.Read.{Read}
use Rattle.grammar.specs.declared.input.Fault as input
use Rattle.grammar.proofs.TokenKinds.{name_at_lem, number_at_lem}
use Rattle.grammar.proofs.Writes.{sets_append, sets_before}

-- what reading gives: how far it went, or the token at fault
abbrev pub Got : Type 0
Got = Result Read input.Fault

abbrev pub Done : ℕ → ℕ → ℕ → Got
Done j e c = Result.Ok (record { next = j; end = e; told = c })

abbrev pub Fault : ℕ → Got
Fault p = Result.Err (record { 0 = p })

-- what is said of a fault is said of the answer that hands it on
exits_at : {T : Type 0} (P : Result T input.Fault → Type 0) {r : Result T input.Fault} {q : input.Fault} {p : ℕ} → IsErrAnd r (λ e. e ≡ q) → q.0 ≡ p → P (Result.Err (record { 0 = p })) → P r
exits_at P {r} {q} {p} h e t =
    let w = err_from_is_err_and r h in
    subst P (sym (w.1 ∙ ap (λ (x : input.Fault). Result.Err x) w.2)) (subst (λ (k : ℕ). P (Result.Err (record { 0 = k }))) (sym e) t)

module _ {A : Type 0} {F : Form A} {f : Row → Out A} {ts : List ℕ} {n i at : ℕ} {xs : List ℕ} where
  pub exits : {r : Got} {q : input.Fault} {p : ℕ} {ys : List ℕ} → IsErrAnd r (λ e. e ≡ q) → q.0 ≡ p → Told F f ts n xs i at (Fault p) ys → Told F f ts n xs i at r ys
  exits {ys = ys} h e t = exits_at (λ g. Told F f ts n xs i at g ys) h e t

  pub exits_typed : (r : Result (TypeRead ValueType) input.Fault) {q : input.Fault} {p : ℕ} {ys : List ℕ} → IsErrAnd r (λ e. e ≡ q) → q.0 ≡ p → Told F f ts n xs i at (Fault p) ys → Told F f ts n xs i at (told_type r) ys
  exits_typed r {ys = ys} h e t = exits_at (λ g. Told F f ts n xs i at (told_type g) ys) h e t

  pub exits_given : (r : Result (TypeRead (Perhaps ValueType)) input.Fault) {q : input.Fault} {p : ℕ} {ys : List ℕ} → IsErrAnd r (λ e. e ≡ q) → q.0 ≡ p → Told F f ts n xs i at (Fault p) ys → Told F f ts n xs i at (told_result r) ys
  exits_given r {ys = ys} h e t = exits_at (λ g. Told F f ts n xs i at (told_result g) ys) h e t

  pub found : {j e c : ℕ} {ys : List ℕ} → Found F f ts n xs i at j e c ys → Told F f ts n xs i at (Done j e c) ys
  found h = record { by = h }

  pub fault : {p : ℕ} {ys : List ℕ} → ((tok : Row) → Holds tok ts n → f tok ≡ bad p) → Told F f ts n xs i at (Fault p) ys
  fault h = record { by = h }

  -- the same by another way
  pub same : {k : Row → Out A} {r : Got} {ys : List ℕ} → ((tok : Row) → Holds tok ts n → k tok ≡ f tok) → Told F f ts n xs i at r ys → Told F k ts n xs i at r ys
  same {k} {r} {ys} q h = go r h
    where
      go : (r : Got) → Told F f ts n xs i at r ys → Told F k ts n xs i at r ys
      go (Result.Ok r) h =
          record {
            by = record {
              within = h.by.within;
              small = h.by.small;
              onward = h.by.onward;
              fits = h.by.fits;
              says = λ tok H. let s : Says F (f tok) xs at r.next r.end r.told ys = h.by.says tok H in record { value = s.value; is = q tok H ∙ s.is; told = s.told; end = s.end; buffer = s.buffer };
            };
          }
      go (Result.Err p) h = record { by = λ tok H. q tok H ∙ h.by tok H }

-- words that are known, for tokens that were passed
pub leaf : {A : Type 0} {F : Form A} {k : Row → Out A} {ts : List ℕ} {n i at j e m : ℕ} {xs ys : List ℕ} (v : Row → A) (c : List ℕ) → ys ≡ sets xs at c → e ≡ at + length c → j ≤ n → e + 8 * i ≤ at + 8 * j → m < 4294967296
    → ((tok : Row) → Holds tok ts n → (k tok ≡ ok (v tok) j) × (F.words (v tok) ≡ c) × (m ≡ F.tells (v tok))) → Told F k ts n xs i at (Done j e m) ys
leaf {F = F} {at = at} {xs = xs} v c b q w s fit f =
    record {
      by = record {
        within = w;
        small = s;
        onward = omega (arith, q);
        fits = fit;
        says = λ tok H. record { value = v tok; is = (f tok H).0; told = (f tok H).2; end = q ∙ ap (λ (l : List ℕ). at + length l) (sym (f tok H).1); buffer = b ∙ ap (sets xs at) (sym (f tok H).1) };
      };
    }

module _ {A B : Type 0} {F : Form A} {K : Form B} {f : Row → Out A} {k : Row → Out B} {ts : List ℕ} {n i i' at j e c : ℕ} {xs ys : List ℕ} where
  -- a part, and words after it
  pub close : {j' e' m : ℕ} {zs : List ℕ} (φ : Row → A → B) (w : List ℕ) → Found F f ts n xs i' at j e c ys → zs ≡ sets ys e w → e' ≡ e + length w → j' ≤ n → e' + 8 * i ≤ at + 8 * j' → m < 4294967296
      → ((tok : Row) → Holds tok ts n → (a : A) → f tok ≡ ok a j → c ≡ F.tells a → (k tok ≡ ok (φ tok a) j') × (K.words (φ tok a) ≡ F.words a ++ w) × (m ≡ K.tells (φ tok a))) → Told K k ts n xs i at (Done j' e' m) zs
  close {j'} {e'} {m} {zs} φ w h b q l s fit g =
      record {
        by = record {
          within = l;
          small = s;
          onward = omega (arith, q, h.onward);
          fits = fit;
          says = λ tok H.
              let a : Says F (f tok) xs at j e c ys = h.says tok H in
              let r : (k tok ≡ ok (φ tok a.value) j') × (K.words (φ tok a.value) ≡ F.words a.value ++ w) × (m ≡ K.tells (φ tok a.value)) = g tok H a.value a.is a.told in
              record {
                value = φ tok a.value;
                is = r.0;
                told = r.2;
                end = rw r.1 (simp length-append (omega (arith, q, a.end)));
                buffer = rw r.1 (b ∙ ap (λ (v : List ℕ). sets v e w) a.buffer ∙ ap (λ (k : ℕ). sets (sets xs at (F.words a.value)) k w) a.end ∙ sets_append xs at (F.words a.value) w);
              };
        };
      }

  -- words before a part, written after it
  pub front : {b j' m : ℕ} {zs : List ℕ} (φ : Row → A → B) (w : List ℕ) → b ≡ at + length w → Found F f ts n xs i' b j e c ys → zs ≡ sets ys at w → j' ≤ n → e + 8 * i ≤ at + 8 * j' → m < 4294967296
      → ((tok : Row) → Holds tok ts n → (a : A) → f tok ≡ ok a j → c ≡ F.tells a → e ≡ b + length (F.words a) → (k tok ≡ ok (φ tok a) j') × (K.words (φ tok a) ≡ w ++ F.words a) × (m ≡ K.tells (φ tok a))) → Told K k ts n xs i at (Done j' e m) zs
  front {b} {j'} {m} {zs} φ w q h z l s fit g =
      record {
        by = record {
          within = l;
          small = s;
          onward = omega (arith, q, h.onward);
          fits = fit;
          says = λ tok H.
              let a : Says F (f tok) xs b j e c ys = h.says tok H in
              let r : (k tok ≡ ok (φ tok a.value) j') × (K.words (φ tok a.value) ≡ w ++ F.words a.value) × (m ≡ K.tells (φ tok a.value)) = g tok H a.value a.is a.told a.end in
              record {
                value = φ tok a.value;
                is = r.0;
                told = r.2;
                end = rw r.1 (simp length-append (omega (arith, q, a.end)));
                buffer = rw r.1 (z ∙ ap (λ (v : List ℕ). sets v at w) (a.buffer ∙ ap (λ (k : ℕ). sets xs k (F.words a.value)) q) ∙ sets_before xs at w (F.words a.value));
              };
        };
      }

-- the same words under another name, counted from an earlier token
pub recast : {A B : Type 0} {F : Form A} {K : Form B} {f : Row → Out A} {k : Row → Out B} {ts : List ℕ} {n i i' at : ℕ} {r : Got} {xs ys : List ℕ} (φ : (tok : Row) → Holds tok ts n → A → B) → i ≤ i' → Told F f ts n xs i' at r ys
    → ((tok : Row) (H : Holds tok ts n) → k tok ≡ map (φ tok H) (f tok)) → ((tok : Row) (H : Holds tok ts n) (a : A) → (K.words (φ tok H a) ≡ F.words a) × (F.tells a ≡ K.tells (φ tok H a))) → Told K k ts n xs i at r ys
recast {F = F} {K = K} {f = f} {k = k} {ts = ts} {n = n} {i = i} {i' = i'} {at = at} {r = r} {xs = xs} {ys = ys} φ l h q w = go r h
  where
    go : (r : Got) → Told F f ts n xs i' at r ys → Told K k ts n xs i at r ys
    go (Result.Ok r) h =
        record {
          by = record {
            within = h.by.within;
            small = omega (arith, h.by.small);
            onward = h.by.onward;
            fits = h.by.fits;
            says = λ tok H.
                let s : Says F (f tok) xs at r.next r.end r.told ys = h.by.says tok H in
                let v = w tok H s.value in
                record { value = φ tok H s.value; is = q tok H ∙ ap (map (φ tok H)) s.is; told = s.told ∙ v.1; end = rw v.0 s.end; buffer = rw v.0 s.buffer };
          };
        }
    go (Result.Err p) h = record { by = λ tok H. q tok H ∙ ap (map (φ tok H)) (h.by tok H) }

-- one run of stores after another
pub after : {ys zs : List ℕ} {e : ℕ} (xs : List ℕ) (at : ℕ) (u v : List ℕ) → ys ≡ sets xs at u → e ≡ at + length u → zs ≡ sets ys e v → zs ≡ sets xs at (u ++ v)
after {ys} {zs} {e} xs at u v p q r = r ∙ ap (λ (w : List ℕ). sets w e v) p ∙ ap (λ (k : ℕ). sets (sets xs at u) k v) q ∙ sets_append xs at u v

-- words before two parts, written after them
pub front_two : {A B C : Type 0} {F : Form A} {G : Form B} {K : Form C} {f : Row → Out A} {g : Row → Out B} {k : Row → Out C} {ts : List ℕ} {n i i' at b j j' e c j'' e'' c'' x m : ℕ} {xs ys zs us : List ℕ} (φ : (tok : Row) → Holds tok ts n → A → B → C) (w : List ℕ)
    → b ≡ at + length w → Found F f ts n xs i' b j e c ys → Found G g ts n ys j' e j'' e'' c'' zs → us ≡ sets zs at w → x ≤ n → e'' + 8 * i ≤ at + 8 * x → m < 4294967296
    → ((tok : Row) (H : Holds tok ts n) (a : A) (a' : B) → f tok ≡ ok a j → g tok ≡ ok a' j'' → c ≡ F.tells a → c'' ≡ G.tells a' → e ≡ b + length (F.words a) → e'' ≡ e + length (G.words a')
    → (k tok ≡ ok (φ tok H a a') x) × (K.words (φ tok H a a') ≡ w ++ (F.words a ++ G.words a')) × (m ≡ K.tells (φ tok H a a'))) → Told K k ts n xs i at (Done x e'' m) us
front_two {F = F} {G = G} {K = K} {f = f} {g = g} {k = k} {at = at} {b = b} {j = j} {e = e} {c = c} {j'' = j''} {e'' = e''} {c'' = c''} {x = x} {m = m} {xs = xs} {ys = ys} {zs = zs} φ w q h h' z l s fit y =
    record {
      by = record {
        within = l;
        small = s;
        onward = omega (arith, q, h.onward, h'.onward);
        fits = fit;
        says = λ tok H.
            let a : Says F (f tok) xs b j e c ys = h.says tok H in
            let a' : Says G (g tok) ys e j'' e'' c'' zs = h'.says tok H in
            let r : (k tok ≡ ok (φ tok H a.value a'.value) x) × (K.words (φ tok H a.value a'.value) ≡ w ++ (F.words a.value ++ G.words a'.value)) × (m ≡ K.tells (φ tok H a.value a'.value)) = y tok H a.value a'.value a.is a'.is a.told a'.told a.end a'.end in
            record {
              value = φ tok H a.value a'.value;
              is = r.0;
              told = r.2;
              end = rw r.1 (simp length-append (omega (arith, q, a.end, a'.end)));
              buffer = rw r.1 (z ∙ ap (λ (v : List ℕ). sets v at w) (after xs b (F.words a.value) (G.words a'.value) a.buffer a.end a'.buffer ∙ ap (λ (k : ℕ). sets xs k (F.words a.value ++ G.words a'.value)) q) ∙ sets_before xs at w (F.words a.value ++ G.words a'.value));
            };
      };
    }

-- words before three parts, written after them
pub front_three : {A B C D : Type 0} {F : Form A} {G : Form B} {L : Form D} {K : Form C} {f : Row → Out A} {g : Row → Out B} {l : Row → Out D} {k : Row → Out C} {ts : List ℕ} {n i i' at b j j' e c j'' e'' c'' i₃ j₃ e₃ c₃ x m : ℕ} {xs ys zs vs us : List ℕ} (φ : Row → A → B → D → C) (w : List ℕ)
    → b ≡ at + length w → Found F f ts n xs i' b j e c ys → Found G g ts n ys j' e j'' e'' c'' zs → Found L l ts n zs i₃ e'' j₃ e₃ c₃ vs → us ≡ sets vs at w → x ≤ n → e₃ + 8 * i ≤ at + 8 * x → m < 4294967296
    → ((tok : Row) → Holds tok ts n → (a : A) (a' : B) (a₃ : D) → f tok ≡ ok a j → g tok ≡ ok a' j'' → l tok ≡ ok a₃ j₃ → c ≡ F.tells a → c'' ≡ G.tells a' → c₃ ≡ L.tells a₃ → e ≡ b + length (F.words a) → e'' ≡ e + length (G.words a') → e₃ ≡ e'' + length (L.words a₃)
    → (k tok ≡ ok (φ tok a a' a₃) x) × (K.words (φ tok a a' a₃) ≡ w ++ (F.words a ++ (G.words a' ++ L.words a₃))) × (m ≡ K.tells (φ tok a a' a₃))) → Told K k ts n xs i at (Done x e₃ m) us
front_three {F = F} {G = G} {L = L} {K = K} {f = f} {g = g} {l = lf} {k = k} {at = at} {b = b} {j = j} {e = e} {c = c} {j'' = j''} {e'' = e''} {c'' = c''} {j₃ = j₃} {e₃ = e₃} {c₃ = c₃} {x = x} {m = m} {xs = xs} {ys = ys} {zs = zs} {vs = vs} φ w q h h' h₃ z l s fit y =
    record {
      by = record {
        within = l;
        small = s;
        onward = omega (arith, q, h.onward, h'.onward, h₃.onward);
        fits = fit;
        says = λ tok H.
            let a : Says F (f tok) xs b j e c ys = h.says tok H in
            let a' : Says G (g tok) ys e j'' e'' c'' zs = h'.says tok H in
            let a₃ : Says L (lf tok) zs e'' j₃ e₃ c₃ vs = h₃.says tok H in
            let r : (k tok ≡ ok (φ tok a.value a'.value a₃.value) x) × (K.words (φ tok a.value a'.value a₃.value) ≡ w ++ (F.words a.value ++ (G.words a'.value ++ L.words a₃.value))) × (m ≡ K.tells (φ tok a.value a'.value a₃.value)) =
            y tok H a.value a'.value a₃.value a.is a'.is a₃.is a.told a'.told a₃.told a.end a'.end a₃.end in
            let two : vs ≡ sets ys e (G.words a'.value ++ L.words a₃.value) = after ys e (G.words a'.value) (L.words a₃.value) a'.buffer a'.end a₃.buffer in
            record {
              value = φ tok a.value a'.value a₃.value;
              is = r.0;
              told = r.2;
              end = rw r.1 (simp length-append (omega (arith, q, a.end, a'.end, a₃.end)));
              buffer = rw r.1 (z ∙ ap (λ (v : List ℕ). sets v at w) (after xs b (F.words a.value) (G.words a'.value ++ L.words a₃.value) a.buffer a.end two ∙ ap (λ (k : ℕ). sets xs k (F.words a.value ++ (G.words a'.value ++ L.words a₃.value))) q) ∙ sets_before xs at w (F.words a.value ++ (G.words a'.value ++ L.words a₃.value)));
            };
      };
    }

-- a part, and what goes on from it
pub seq : {A B C : Type 0} {F : Form A} {G : Form B} {K : Form C} {f : Row → Out A} {k : Row → Out C} {ts : List ℕ} {n i at j e c : ℕ} {xs ys zs : List ℕ} {r : Got} (g : Row → ℕ → Out B) (φ : Row → A → B → C)
    → Found F f ts n xs i at j e c ys → Told G (λ tok. g tok j) ts n ys j e r zs
    → ((tok : Row) → Holds tok ts n → k tok ≡ next (f tok) (λ a m. map (φ tok a) (g tok m)))
    → ((tok : Row) (a : A) (b : B) → (K.words (φ tok a b) ≡ F.words a ++ G.words b) × (G.tells b ≡ K.tells (φ tok a b))) → Told K k ts n xs i at r zs
seq {F = F} {G = G} {K = K} {f = f} {k = k} {ts = ts} {n = n} {i = i} {at = at} {j = j} {e = e} {c = c} {xs = xs} {ys = ys} {zs = zs} {r = r} g φ a b q w = go r b
  where
    go : (r : Got) → Told G (λ tok. g tok j) ts n ys j e r zs → Told K k ts n xs i at r zs
    go (Result.Ok r) b =
        record {
          by = record {
            within = b.by.within;
            small = omega (arith, a.small, b.by.small);
            onward = omega (arith, a.onward, b.by.onward);
            fits = b.by.fits;
            says = λ tok H.
                let x : Says F (f tok) xs at j e c ys = a.says tok H in
                let y : Says G (g tok j) ys e r.next r.end r.told zs = b.by.says tok H in
                let v = w tok x.value y.value in
                record {
                  value = φ tok x.value y.value;
                  is = q tok H ∙ ap (λ (o : Out _). next o (λ a m. map (φ tok a) (g tok m))) x.is ∙ ap (map (φ tok x.value)) y.is;
                  told = y.told ∙ v.1;
                  end = rw v.0 (simp length-append (omega (arith, x.end, y.end)));
                  buffer = rw v.0 (y.buffer ∙ ap (λ (v : List ℕ). sets v e (G.words y.value)) x.buffer ∙ ap (λ (k : ℕ). sets (sets xs at (F.words x.value)) k (G.words y.value)) x.end ∙ sets_append xs at (F.words x.value) (G.words y.value));
                };
          };
        }
    go (Result.Err p) b =
        record { by = λ tok H. let x : Says F (f tok) xs at j e c ys = a.says tok H in q tok H ∙ ap (λ (o : Out _). next o (λ a m. map (φ tok a) (g tok m))) x.is ∙ ap (map (φ tok x.value)) (b.by tok H) }

-- Loops: f is what was read since, and then f'.

pub record Gone {A : Type 0} (F : Form A) (o o' : Out A) (xs : List ℕ) (at e c : ℕ) (ys : List ℕ) : Type 0 where
  pub code : List ℕ
  pub fn : A → A
  pub is : o ≡ map fn o'
  pub words : (a : A) → F.words (fn a) ≡ code ++ F.words a
  pub tells : (a : A) → F.tells (fn a) ≡ c + F.tells a
  pub end : e ≡ at + length code
  pub buffer : ys ≡ sets xs at code

pub record Going {A : Type 0} (F : Form A) (f f' : Row → Out A) (ts : List ℕ) (n : ℕ) (xs : List ℕ) (i at j e c : ℕ) (ys : List ℕ) : Type 0 where
  pub within : j ≤ n
  pub small : e + 8 * i ≤ at + 8 * j
  pub onward : at ≤ e
  pub goes : (tok : Row) → Holds tok ts n → Gone F (f tok) (f' tok) xs at e c ys

pub map_id : {A : Type 0} (o : Out A) → o ≡ map (λ a. a) o
map_id (ok a j) = refl
map_id (bad p) = refl

map_map : {A B C : Type 0} (f : B → C) (g : A → B) (o : Out A) → map f (map g o) ≡ map (λ a. f (g a)) o
map_map f g (ok a j) = refl
map_map f g (bad p) = refl

pub begun : {A : Type 0} {F : Form A} {f : Row → Out A} {ts : List ℕ} {n i at : ℕ} {xs : List ℕ} → i ≤ n → Going F f f ts n xs i at i at 0 xs
begun {F = F} {f = f} h =
    record {
      within = h;
      small = omega arith;
      onward = omega arith;
      goes = λ tok H. record { code = []; fn = λ a. a; is = map_id (f tok); words = λ a. refl; tells = λ a. omega arith; end = omega arith; buffer = refl };
    }

module _ {A : Type 0} {F : Form A} {f f' : Row → Out A} {ts : List ℕ} {n i at j e c : ℕ} {xs ys : List ℕ} where
  pub room_on : Room n xs i at → Going F f f' ts n xs i at j e c ys → length ys ≡ length xs → Room n ys j e
  room_on r g q = record { begins = g.within; free = omega (arith, r.free, g.small) }

  -- the last part
  pub goes_done : {j' e' c' m : ℕ} {zs : List ℕ} → Going F f f' ts n xs i at j e c ys → Told F f' ts n ys j e (Done j' e' c') zs → m ≡ c + c' → m < 4294967296 → Told F f ts n xs i at (Done j' e' m) zs
  goes_done {j'} {e'} {c'} {m} {zs} a b q fit =
      record {
        by = record {
          within = b.by.within;
          small = omega (arith, a.small, b.by.small);
          onward = omega (arith, a.onward, b.by.onward);
          fits = fit;
          says = λ tok H.
              let x : Gone F (f tok) (f' tok) xs at e c ys = a.goes tok H in
              let y : Says F (f' tok) ys e j' e' c' zs = b.by.says tok H in
              record {
                value = x.fn y.value;
                is = x.is ∙ ap (map x.fn) y.is;
                told = omega (arith, q, y.told, x.tells y.value);
                end = rw (x.words y.value) (simp length-append (omega (arith, x.end, y.end)));
                buffer = rw (x.words y.value) (y.buffer ∙ ap (λ (v : List ℕ). sets v e (F.words y.value)) x.buffer ∙ ap (λ (k : ℕ). sets (sets xs at x.code) k (F.words y.value)) x.end ∙ sets_append xs at x.code (F.words y.value));
              };
        };
      }

  pub goes_fault : {p : ℕ} {zs : List ℕ} → Going F f f' ts n xs i at j e c ys → ((tok : Row) → Holds tok ts n → f' tok ≡ bad p) → Told F f ts n xs i at (Fault p) zs
  goes_fault a b = record { by = λ tok H. (a.goes tok H).is ∙ ap (map (a.goes tok H).fn) (b tok H) }

  -- a part of the list
  pub goes_on : {B : Type 0} {G : Form B} {g : Row → Out B} {f'' : Row → Out A} {j' e' c' k m : ℕ} {zs : List ℕ} (φ : Row → B → A → A) (t : ℕ) → Going F f f' ts n xs i at j e c ys → Found G g ts n ys j e j' e' c' zs → j' ≤ k → k ≤ n → m ≡ c + t
      → ((tok : Row) → Holds tok ts n → (b : B) → g tok ≡ ok b j' → f' tok ≡ map (φ tok b) (f'' tok))
      → ((tok : Row) (b : B) (a : A) → (F.words (φ tok b a) ≡ G.words b ++ F.words a) × (F.tells (φ tok b a) ≡ t + F.tells a)) → Going F f f'' ts n xs i at k e' m zs
  goes_on {B} {G} {g} {f''} {j'} {e'} {c'} {k} {m} {zs} φ t a b l l' q s w =
      record {
        within = l';
        small = omega (arith, a.small, b.small);
        onward = omega (arith, a.onward, b.onward);
        goes = λ tok H.
            let x : Gone F (f tok) (f' tok) xs at e c ys = a.goes tok H in
            let y : Says G (g tok) ys e j' e' c' zs = b.says tok H in
            record {
              code = x.code ++ G.words y.value;
              fn = λ v. x.fn (φ tok y.value v);
              is = x.is ∙ ap (map x.fn) (s tok H y.value y.is) ∙ map_map x.fn (φ tok y.value) (f'' tok);
              words = λ v. x.words (φ tok y.value v) ∙ ap (λ (u : List ℕ). x.code ++ u) (w tok y.value v).0 ∙ sym (append_assoc x.code (G.words y.value) (F.words v));
              tells = λ v. omega (arith, x.tells (φ tok y.value v), (w tok y.value v).1, q);
              end = simp length-append (omega (arith, x.end, y.end));
              buffer = y.buffer ∙ ap (λ (v : List ℕ). sets v e (G.words y.value)) x.buffer ∙ ap (λ (k : ℕ). sets (sets xs at x.code) k (G.words y.value)) x.end ∙ sets_append xs at x.code (G.words y.value);
            };
      }

-- Tests of tokens.

pub yes : {P : Type 0} → (IsTrue true ↔ P) → P
yes h = h.0 refl

pub no : {P : Type 0} → (IsTrue false ↔ P) → P → ⊥
no h p = let z : ◌≡◌ {A = Bool} false true = h.1 p in cc

module _ {tok : Row} {ts : List ℕ} {n : ℕ} (H : Holds tok ts n) where
  pub kind_is : {k : ℕ} (i v : ℕ) → k ≡ field_of ts n i 0 → k ≡ v → eqb (kind tok i) v ≡ true
  kind_is i v q e = eq-eqb (kind tok i) v (sym (H.kind i) ∙ sym q ∙ e)

  pub kind_not : {k : ℕ} (i v : ℕ) → k ≡ field_of ts n i 0 → (k ≡ v → ⊥) → eqb (kind tok i) v ≡ false
  kind_not i v q e = ne_eqb (kind tok i) v (λ w. e (q ∙ H.kind i ∙ w))

  pub kind_eq : {k : ℕ} (i v : ℕ) → k ≡ field_of ts n i 0 → k ≡ v → kind tok i ≡ v
  kind_eq i v q e = sym (H.kind i) ∙ sym q ∙ e

name_value : (o : Option Placed) → kind_in o ≡ 1 → value_in o ≡ length (name_in o)
unfolding value_in value_of name_in name_of
name_value o e = ap value_in (name_at_lem o e)

number_value : (o : Option Placed) → kind_in o ≡ 2 → value_in o ≡ number_in o
unfolding value_in value_of number_in number_of
number_value o e = ap value_in (number_at_lem o e)

module _ {tok : Row} {ts : List ℕ} {n : ℕ} (H : Holds tok ts n) where
  -- a name's length and a number's number
  pub name_length : {k v : ℕ} (i : ℕ) → k ≡ field_of ts n i 0 → k ≡ 1 → v ≡ field_of ts n i 2 → length (name_in (tok i)) ≡ v
  name_length i q e r = sym (r ∙ H.value i ∙ name_value (tok i) (kind_eq H i 1 q e))

  pub number_is : {k v : ℕ} (i : ℕ) → k ≡ field_of ts n i 0 → k ≡ 2 → v ≡ field_of ts n i 2 → number_in (tok i) ≡ v
  number_is i q e r = sym (r ∙ H.value i ∙ number_value (tok i) (kind_eq H i 2 q e))

  pub place_is : {p : ℕ} (i : ℕ) → p ≡ field_of ts n i 1 → place_in (tok i) ≡ p
  place_is i r = sym (r ∙ H.place i)

-- Room.

pub room : {A : Type 0} {F : Form A} {f : Row → Out A} {ts : List ℕ} {n i at j e c : ℕ} {xs ys : List ℕ} → Room n xs i at → Found F f ts n xs i at j e c ys → length ys ≡ length xs → Room n ys j e
room r f q = record { begins = f.within; free = omega (arith, r.free, f.small) }

pub room_at : {n i at : ℕ} {xs : List ℕ} (j e : ℕ) → Room n xs i at → j ≤ n → e + 8 * i ≤ at + 8 * j → Room n xs j e
room_at j e r l s = record { begins = l; free = omega (arith, r.free) }

-- an item after a part, and one in the gap before it
pub room_put : {A : Type 0} {F : Form A} {f : Row → Out A} {ts : List ℕ} {n i at j e c : ℕ} {xs ys : List ℕ} → Room n xs i at → Found F f ts n xs (i + 1) at j e c ys → length ys ≡ length xs → e + 4 ≤ length ys
room_put r f q = omega (arith, r.free, f.small, f.within)

pub room_gap : {A : Type 0} {F : Form A} {f : Row → Out A} {ts : List ℕ} {n i at b j e c : ℕ} {xs ys : List ℕ} → Room n xs i at → b ≡ at + 4 → Found F f ts n xs (i + 1) b j e c ys → length ys ≡ length xs → e + 4 ≤ length ys
room_gap r z f q = omega (arith, r.free, f.small, f.within)
