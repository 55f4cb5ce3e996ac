-- The words of an expression's flat form lie where they are written.
use Prim.Native.Nat.{ℕ, suc, ◌+◌, ◌-◌, ◌*◌}
use native.Mathlib.Omega.{arith}
use mathlib.Core.Path.{◌≡◌, refl, sym, ap, ◌∙◌, subst}
use mathlib.Core.List.{List, ◌∷◌}
use lib.Seq.{get_or-drop}
use Rattle.language.specs.Tree.{Unary, Strict}
use Rattle.language.specs.Core.{Array, Expr, Args}
use Rattle.language.specs.Core as C
use Rattle.flat.specs.Items.{Item, item, element, unary, strict, and, or, join, code, codes, size, sizes}
use Rattle.flat.specs.Words.{word, unary_number, strict_number, kind_words, items_words}
use Rattle.flat.proofs.Decode.{Past, onward}
use Rattle.codegen.specs.Owed.{count}
use Rattle.compiler.specs.Lies.{Ends, first, second, Lies, LieAll}
use Rattle.compiler.specs.Lies as L

-- an item's words, by the position behind it
record Holds (ws us : List ℕ) (i a c d : ℕ) : Type 0 where
  ends : Ends ws (i + 4) a
  one : first ws (i + 4) ≡ c
  two : second ws (i + 4) ≡ d
  rest : Past (i + 4) ws us

pub at : (ws us : List ℕ) (i n k : ℕ) → Past i ws us → k ≡ i + n → word ws k ≡ word us n
at ws us i n k p e = ap (word ws) e ∙ sym (get_or-drop i ws n 0) ∙ ap (λ (vs : List ℕ). word vs n) p.is

holds : {ws us : List ℕ} {i a b c d : ℕ} → Past i ws (a ∷ b ∷ c ∷ d ∷ us) → Holds ws us i a c d
holds {ws} {us} {i} {a} {b} {c} {d} p = record {
  ends = record { enough = omega arith; kind = at ws (a ∷ b ∷ c ∷ d ∷ us) i 0 (i + 4 - 4) p (omega arith) };
  one = at ws (a ∷ b ∷ c ∷ d ∷ us) i 2 (i + 4 - 2) p (omega arith);
  two = at ws (a ∷ b ∷ c ∷ d ∷ us) i 3 (i + 4 - 1) p (omega arith);
  rest = onward p (record { is = refl });
}

until : {ws : List ℕ} {e : Expr} {i j k : ℕ} → Lies ws e i j → j ≡ k → Lies ws e i k
until {ws} {e} {i} l h = subst (λ (m : ℕ). Lies ws e i m) h l

until_all : {ws : List ℕ} {xs : Args} {i j k : ℕ} → LieAll ws xs i j → j ≡ k → LieAll ws xs i k
until_all {ws} {xs} {i} l h = subst (λ (m : ℕ). LieAll ws xs i m) h l

-- an expression that is written from i on lies there, and behind it stands the rest
pub record Stands (ws us : List ℕ) (e : Expr) (i : ℕ) : Type 0 where
  pub end : ℕ
  pub span : end ≡ i + 4 * size e
  pub lies : Lies ws e i end
  pub rest : Past end ws us

-- arguments, of which n came before, and the call behind them
pub record StandAll (ws us : List ℕ) (xs : Args) (f n i : ℕ) : Type 0 where
  pub end : ℕ
  pub span : end + 4 ≡ i + 4 * sizes xs
  pub lies : LieAll ws xs i end
  pub call : Ends ws (end + 4) 3
  pub callee : first ws (end + 4) ≡ f
  pub many : second ws (end + 4) ≡ n + count xs
  pub rest : Past (end + 4) ws us

module _ {ws us : List ℕ} {i : ℕ} where
  number_stands : {n d : ℕ} → Holds ws us i 0 n d → Stands ws us (C.number n) i
  unfolding size
  number_stands h = record { end = i + 4; span = omega arith; lies = L.number {i = i} h.ends h.one (omega arith); rest = h.rest }

  local_stands : {x d : ℕ} → Holds ws us i 1 x d → Stands ws us (C.local x) i
  unfolding size
  local_stands h = record { end = i + 4; span = omega arith; lies = L.local {i = i} h.ends h.one (omega arith); rest = h.rest }

  element_stands : {a : Array} {e : Expr} {b : ℕ} → Stands ws (2 ∷ b ∷ a.offset ∷ a.size ∷ us) e i → Stands ws us (C.element a e) i
  unfolding size
  element_stands {a} {e} {b} s = by (holds s.rest)
    where
      by : Holds ws us s.end 2 a.offset a.size → Stands ws us (C.element a e) i
      by h = record { end = s.end + 4; span = omega (arith, s.span); lies = L.element h.ends h.one h.two (until s.lies (omega arith)); rest = h.rest }

  unary_stands : {o : Unary} {e : Expr} {b d : ℕ} → Stands ws (4 ∷ b ∷ unary_number o ∷ d ∷ us) e i → Stands ws us (C.unary o e) i
  unfolding size
  unary_stands {o} {e} {b} {d} s = by (holds s.rest)
    where
      by : Holds ws us s.end 4 (unary_number o) d → Stands ws us (C.unary o e) i
      by h = record { end = s.end + 4; span = omega (arith, s.span); lies = L.unary h.ends h.one (until s.lies (omega arith)); rest = h.rest }

  strict_stands : {o : Strict} {x y : Expr} {b d : ℕ} {vs : List ℕ} (s : Stands ws vs x i) → Stands ws (5 ∷ b ∷ strict_number o ∷ d ∷ us) y s.end → Stands ws us (C.strict o x y) i
  unfolding size
  strict_stands {o} {x} {y} {b} {d} s t = by (holds t.rest)
    where
      by : Holds ws us t.end 5 (strict_number o) d → Stands ws us (C.strict o x y) i
      by h = record {
        end = t.end + 4;
        span = omega (arith, s.span, t.span);
        lies = L.strict h.ends h.one s.lies (until t.lies (omega arith));
        rest = h.rest;
      }

  and_stands : {x y : Expr} {b c d : ℕ} {vs : List ℕ} (s : Stands ws vs x i) → Ends ws (s.end + 4) 6 → Stands ws (8 ∷ b ∷ c ∷ d ∷ us) y (s.end + 4) → Stands ws us (C.and x y) i
  unfolding size
  and_stands {x} {y} {b} {c} {d} s k t = by (holds t.rest)
    where
      by : Holds ws us t.end 8 c d → Stands ws us (C.and x y) i
      by h = record {
        end = t.end + 4;
        span = omega (arith, s.span, t.span);
        lies = L.and {m = s.end + 4} h.ends (until s.lies (omega arith)) k (until t.lies (omega arith));
        rest = h.rest;
      }

  or_stands : {x y : Expr} {b c d : ℕ} {vs : List ℕ} (s : Stands ws vs x i) → Ends ws (s.end + 4) 7 → Stands ws (8 ∷ b ∷ c ∷ d ∷ us) y (s.end + 4) → Stands ws us (C.or x y) i
  unfolding size
  or_stands {x} {y} {b} {c} {d} s k t = by (holds t.rest)
    where
      by : Holds ws us t.end 8 c d → Stands ws us (C.or x y) i
      by h = record {
        end = t.end + 4;
        span = omega (arith, s.span, t.span);
        lies = L.or {m = s.end + 4} h.ends (until s.lies (omega arith)) k (until t.lies (omega arith));
        rest = h.rest;
      }

  pub call_stands : {f : ℕ} {xs : Args} → StandAll ws us xs f 0 i → Stands ws us (C.call f xs) i
  unfolding size
  call_stands {f} {xs} s = record {
    end = s.end + 4;
    span = s.span;
    lies = L.call {xs = xs} s.call s.callee (omega (arith, s.many)) (until_all s.lies (omega arith));
    rest = s.rest;
  }

  none_stand : {f n : ℕ} → Holds ws us i 3 f n → StandAll ws us C.none f n i
  unfolding sizes
  none_stand h = record {
    end = i;
    span = omega arith;
    lies = L.none refl;
    call = h.ends;
    callee = h.one;
    many = omega (arith, h.two);
    rest = h.rest;
  }

  more_stand : {e : Expr} {xs : Args} {f n : ℕ} {vs : List ℕ} (s : Stands ws vs e i) → StandAll ws us xs f (suc n) s.end → StandAll ws us (C.more e xs) f n i
  unfolding sizes
  more_stand s t = record {
    end = t.end;
    span = omega (arith, s.span, t.span);
    lies = L.more s.lies t.lies;
    call = t.call;
    callee = t.callee;
    many = omega (arith, t.many);
    rest = t.rest;
  }

mutual
  unfolding code codes items_words kind_words

  pub stands : (e : Expr) (k : ℕ) (is : List Item) (more : List ℕ) {ws : List ℕ} {i : ℕ} → Past i ws (items_words (code e k is) more) → Stands ws (items_words is more) e i
  stands (C.number n) k is more p = number_stands (holds p)
  stands (C.local x) k is more p = local_stands (holds p)
  stands (C.element a e) k is more p = element_stands (stands e (suc k) (item 0 (element a) ∷ is) more p)
  stands (C.call f xs) k is more p = call_stands (stand_all xs f 0 (suc k) is more p)
  stands (C.unary o e) k is more p = unary_stands (stands e (suc k) (item 0 (unary o) ∷ is) more p)
  stands (C.strict o a b) k is more {ws} {i} p =
      let s : Stands ws (items_words (code b 0 (item 0 (strict o) ∷ is)) more) a i = stands a (suc k) (code b 0 (item 0 (strict o) ∷ is)) more p in
      strict_stands s (stands b 0 (item 0 (strict o) ∷ is) more s.rest)
  stands (C.and a b) k is more {ws} {i} p =
      let s : Stands ws (items_words (item 0 (and (size b)) ∷ code b 0 (item 0 join ∷ is)) more) a i = stands a (suc k) (item 0 (and (size b)) ∷ code b 0 (item 0 join ∷ is)) more p in
      and_stands s (holds s.rest).ends (stands b 0 (item 0 join ∷ is) more (holds s.rest).rest)
  stands (C.or a b) k is more {ws} {i} p =
      let s : Stands ws (items_words (item 0 (or (size b)) ∷ code b 0 (item 0 join ∷ is)) more) a i = stands a (suc k) (item 0 (or (size b)) ∷ code b 0 (item 0 join ∷ is)) more p in
      or_stands s (holds s.rest).ends (stands b 0 (item 0 join ∷ is) more (holds s.rest).rest)

  pub stand_all : (xs : Args) (f n k : ℕ) (is : List Item) (more : List ℕ) {ws : List ℕ} {i : ℕ} → Past i ws (items_words (codes xs f n k is) more) →
      StandAll ws (items_words is more) xs f n i
  stand_all C.none f n k is more p = none_stand (holds p)
  stand_all (C.more e xs) f n k is more {ws} {i} p =
      let s : Stands ws (items_words (codes xs f (suc n) 0 is) more) e i = stands e k (codes xs f (suc n) 0 is) more p in
      more_stand s (stand_all xs f (suc n) 0 is more s.rest)
