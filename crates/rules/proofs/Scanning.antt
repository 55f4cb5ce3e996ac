-- The loop over an expression's items: what was written so far, and what is left says the rest.
use mathlib.Core.Path.{◌≡◌, refl, sym, ap, ◌∙◌}
use mathlib.Core.List.{List, [], ◌∷◌, ◌++◌}
use Prim.Native.Nat.{ℕ, zero, suc, ◌+◌, ◌-◌, ◌*◌, ◌≤◌, ◌<◌}
use native.Mathlib.Omega.{arith}
use lib.ListN.{length, get_or, drop, length-append, length-set}
use lib.Seq.{drop-cons, length-sets, sets}
use Rattle.language.specs.Rules.{keeps, breaks, ◌>>=◌, found, Global, Local}
use Rattle.rules.specs.Scan.{Scanned, node_of, charged, added, scan}
use Rattle.std.specs.Prelude.{Some, None, Ok, Err}
use Rattle.rules.specs.declared.nodes.Made.{Made}
use Rattle.rules.specs.Values.{meant, held, made, broken_at}
use Rattle.rules.specs.Post.{operands_in, Pushes, Charges, Reads, nothing_scanned, Scans}
use Rattle.rules.proofs.Stacks.{sets_append}

-- four words of a list, and those after them
pub four : (ws : List ℕ) (j : ℕ) → j + 4 ≤ length ws → drop j ws ≡ get_or ws j 0 ∷ get_or ws (j + 1) 0 ∷ get_or ws (j + 2) 0 ∷ get_or ws (j + 3) 0 ∷ drop (j + 4) ws
four ws j h =
    drop-cons ws j 0 (omega (arith, h)) ∙ ap (λ (us : List ℕ). get_or ws j 0 ∷ us)
    (rest (suc j) (j + 1) (omega arith) (omega (arith, h)) ∙ ap (λ (us : List ℕ). get_or ws (j + 1) 0 ∷ us)
    (rest (suc (j + 1)) (j + 2) (omega arith) (omega (arith, h)) ∙ ap (λ (us : List ℕ). get_or ws (j + 2) 0 ∷ us)
    (rest (suc (j + 2)) (j + 3) (omega arith) (omega (arith, h)) ∙ ap (λ (i : ℕ). get_or ws (j + 3) 0 ∷ drop i ws) {x = suc (j + 3)} {y = j + 4} (omega arith))))
  where
    rest : (i k : ℕ) → i ≡ k → k < length ws → drop i ws ≡ get_or ws k 0 ∷ drop (suc k) ws
    rest i k e l = ap (λ (m : ℕ). drop m ws) e ∙ drop-cons ws k 0 l

too_short : (text : List ℕ) (gs : List Global) (ls : List Local) (n : ℕ) (ws : List ℕ) (s : Scanned) → 0 < n → length ws < 4 → scan text gs ls n ws s ≡ breaks 0
unfolding scan
too_short text gs ls zero ws s l h = absurd (omega (arith, l))
too_short text gs ls (suc n) [] s l h = refl
too_short text gs ls (suc n) (k ∷ []) s l h = refl
too_short text gs ls (suc n) (k ∷ p ∷ []) s l h = refl
too_short text gs ls (suc n) (k ∷ p ∷ a ∷ []) s l h = refl
too_short text gs ls (suc n) (k ∷ p ∷ a ∷ b ∷ ws) s l h = absurd (omega (arith, h))

one_item : (text : List ℕ) (gs : List Global) (ls : List Local) (n m k p a b : ℕ) (ws : List ℕ) (s : Scanned) → n ≡ suc m →
    scan text gs ls n (k ∷ p ∷ a ∷ b ∷ ws) s ≡ found (node_of text gs ls k p a b (length s.words) s.operands) p >>= λ v. scan text gs ls m ws (added v s)
unfolding scan
one_item text gs ls n m k p a b ws s e = rw e refl

pub record Scanning (text : List ℕ) (gs : List Global) (ls : List Local) (n : ℕ) (tree : List ℕ) (p q : ℕ) (ts₀ ss₀ core₀ : List ℕ) (i h : ℕ) (ts ss core : List ℕ) : Type 0 where
  pub words : List ℕ
  pub rest : scan text gs ls n (drop p tree) nothing_scanned ≡ scan text gs ls (n - i) (drop (p + 4 * i) tree) (record { operands = operands_in ts ss h; words = words })
  pub there : core ≡ sets core₀ q words
  pub size : length words ≡ 4 * i
  pub few : h ≤ i
  pub below : i ≤ n
  pub types : length ts ≡ length ts₀
  pub starts : length ss ≡ length ss₀

pub scan_starts : (text : List ℕ) (gs : List Global) (ls : List Local) (n : ℕ) (tree : List ℕ) (p q : ℕ) (ts ss core : List ℕ) → Scanning text gs ls n tree p q ts ss core 0 0 ts ss core
unfolding operands_in
scan_starts text gs ls n tree p q ts ss core =
    record { words = []; rest = at (n - 0) (p + 4 * 0) (omega arith) (omega arith); there = refl; size = refl; few = omega arith; below = omega arith; types = refl; starts = refl }
  where
    at : (m j : ℕ) → m ≡ n → j ≡ p → scan text gs ls n (drop p tree) nothing_scanned ≡ scan text gs ls m (drop j tree) nothing_scanned
    at m j e f = rw (e, f) refl

module _ {text : List ℕ} {gs : List Global} {ls : List Local} {n : ℕ} {tree : List ℕ} {p q : ℕ} {ts₀ ss₀ core₀ : List ℕ} {i h : ℕ} {ts ss core : List ℕ}
    (c : Scanning text gs ls n tree p q ts₀ ss₀ core₀ i h ts ss core) where
  pub scan_ends : n ≤ i → Scans text gs ls n (drop p tree) q core₀ (Ok h) ts ss core
  unfolding scan
  scan_ends l = record { by = record { words = c.words; is = c.rest ∙ at (n - i) (omega (arith, l)); there = c.there; size = omega (arith, c.size, c.below, l); few = omega (arith, c.few, c.below) } }
    where
      at : (m : ℕ) → m ≡ 0 → scan text gs ls m (drop (p + 4 * i) tree) (record { operands = operands_in ts ss h; words = c.words }) ≡ keeps (record { operands = operands_in ts ss h; words = c.words })
      at m e = rw e refl

  pub core_kept : length core ≡ length core₀
  core_kept = ap length c.there ∙ length-sets core₀ q c.words

  module _ (l : i < n) where
    pub words_end : {ts' ss' core' : List ℕ} → length tree < p + 4 * i + 4 → Scans text gs ls n (drop p tree) q core₀ (Err (broken_at 0)) ts' ss' core'
    words_end s = record { by = c.rest ∙ too_short text gs ls (n - i) (drop (p + 4 * i) tree) _ (omega (arith, l)) (short tree (p + 4 * i) s) }
      where
        short : (ws : List ℕ) (j : ℕ) → length ws < j + 4 → length (drop j ws) < 4
        short ws zero s = omega (arith, s)
        short [] (suc j) s = omega arith
        short (x ∷ ws) (suc j) s = short ws j (omega (arith, s))

    module _ {k place a b to : ℕ} (m : p + 4 * i + 4 ≤ length tree) (four_words : Reads tree (p + 4 * i) k place a b) (et : to ≡ 4 * i) where
      here : scan text gs ls n (drop p tree) nothing_scanned ≡
          found (node_of text gs ls k place a b to (operands_in ts ss h)) place >>= λ v. scan text gs ls (n - (i + 1)) (drop (p + 4 * (i + 1)) tree) (added v (record { operands = operands_in ts ss h; words = c.words }))
      here =
          c.rest ∙ (rw (four tree (p + 4 * i) m, ← four_words.is_kind, ← four_words.is_place, ← four_words.is_a, ← four_words.is_b) (one_item text gs ls (n - i) (n - (i + 1)) k place a b (drop (p + 4 * i + 4) tree) _ (omega (arith, l))) ∙
          at (length c.words) (p + 4 * i + 4) (c.size ∙ sym et) (omega arith))
        where
          at : (x y : ℕ) → x ≡ to → y ≡ p + 4 * (i + 1) →
              (found (node_of text gs ls k place a b x (operands_in ts ss h)) place >>= λ v. scan text gs ls (n - (i + 1)) (drop y tree) (added v (record { operands = operands_in ts ss h; words = c.words }))) ≡
              (found (node_of text gs ls k place a b to (operands_in ts ss h)) place >>= λ v. scan text gs ls (n - (i + 1)) (drop (p + 4 * (i + 1)) tree) (added v (record { operands = operands_in ts ss h; words = c.words })))
          at x y e f = rw (e, f) refl

      pub rule_broken : {ts' ss' core' : List ℕ} → made None ≡ node_of text gs ls k place a b to (operands_in ts ss h) →
          Scans text gs ls n (drop p tree) q core₀ (Err (broken_at place)) ts' ss' core'
      unfolding found ◌>>=◌
      rule_broken e = record { by = here ∙ rw (← e) refl }

      module _ (w : Made) {ts' ss' core₁ core₂ : List ℕ} {h' : ℕ} (e : made (Some w) ≡ node_of text gs ls k place a b to (operands_in ts ss h))
          (x : Pushes ts ss h w.takes (held meant w.gives) h' ts' ss') (y : core₁ ≡ sets core (q + 4 * i) (w.kind ∷ 0 ∷ w.a ∷ w.b ∷ [])) (z : Charges core₁ q (4 * i + 4) w.gives.start w.begins core₂) (kt : length ts' ≡ length ts) (ks : length ss' ≡ length ss) where
        item_there : core₁ ≡ sets core₀ q (c.words ++ (w.kind ∷ 0 ∷ w.a ∷ w.b ∷ []))
        item_there = y ∙ (ap (λ (us : List ℕ). sets us (q + 4 * i) (w.kind ∷ 0 ∷ w.a ∷ w.b ∷ [])) c.there ∙ (ap (λ (j : ℕ). sets (sets core₀ q c.words) (q + j) (w.kind ∷ 0 ∷ w.a ∷ w.b ∷ [])) (sym c.size) ∙ sets_append core₀ q c.words (w.kind ∷ 0 ∷ w.a ∷ w.b ∷ [])))

        item_size : length (c.words ++ (w.kind ∷ 0 ∷ w.a ∷ w.b ∷ [])) ≡ 4 * i + 4
        item_size = length-append c.words (w.kind ∷ 0 ∷ w.a ∷ w.b ∷ []) ∙ ap (λ (j : ℕ). j + 4) c.size

        pub item_done : Scanning text gs ls n tree p q ts₀ ss₀ core₀ (i + 1) h' ts' ss' core₂
        unfolding found ◌>>=◌ added charged
        item_done =
            record {
              words = charged w.begins w.gives.start (c.words ++ (w.kind ∷ 0 ∷ w.a ∷ w.b ∷ []));
              rest = here ∙ rw (← e, x.is) refl;
              there = z.is core₀ (c.words ++ (w.kind ∷ 0 ∷ w.a ∷ w.b ∷ [])) item_there item_size;
              size = length-set (c.words ++ (w.kind ∷ 0 ∷ w.a ∷ w.b ∷ [])) _ _ ∙ (item_size ∙ omega arith);
              few = omega (arith, x.most, c.few);
              below = omega (arith, l);
              types = kt ∙ c.types;
              starts = ks ∙ c.starts;
            }
