-- Expressions, statements, blocks and calls over words: what each function of the cycle owes, from what its callees ensure.
use mathlib.Core.Path.{◌≡◌, refl, sym, ap, ◌∙◌}
use mathlib.Core.List.{List, [], ◌∷◌, ◌++◌, append_assoc, append-nil}
use mathlib.Core.Bool.{Bool, true, false}
use Prim.Native.Nat.{ℕ, zero, suc, ◌+◌, ◌-◌, ◌*◌, ◌≤◌, ◌<◌}
use native.Mathlib.Omega.{arith}
use lib.Dec.{ltb}
use lib.ListN.{length, get_or, take, drop, set, replicate, length-drop, get_or-eq_default}
use lib.Seq.{drop-drop, take-suc, get_or-drop, take_all, length-take-le, get_or-take, take-take, take_at}
use borrow.Author.Tests.{lt-ltb, le-ltb, le-leb, lt-leb, ltb-true, ltb-false}
use Rattle.std.specs.Prelude.{Option, Some, None, Ok, Err, IsErrAnd, unwrap_or}
use Rattle.std.specs.Prelude as P
use Rattle.language.specs.Rules.{most_locals}
use Rattle.language.specs.Meaning.{World, Result, goes, stops, out_of_fuel, Act, bind, value, begin, begin_on, branch, write, assign, Flow, next, followed, rounds, back}
use Rattle.flat.specs.Items.{Kind, call, number, local, element, and, or, join, unknown, item, most_operands, begins, top, popped, Onward, step, scan, evaluate}
use Rattle.flat.specs.Statements.{Stmt, fexec, fblock, fcall_at}
use Rattle.flat.specs.Words.{word, words_per_item, unaries, stricts, kind_of, item_of, items_of, header_words, first, second, statements, statement_of, sequence_of, block_of, most_nesting}
use Rattle.flat.specs.Statements as S
use Rattle.flat.specs.Numbers.{kind_number, statement_number}
use Rattle.flat.proofs.Tables.{no_kind}
use Rattle.flat.specs.declared.item.Kind as IK
use Rattle.flat.specs.declared.item.Kind.TheVariants as I
use Rattle.flat.specs.declared.statement.Kind as SK
use Rattle.flat.specs.declared.statement.Kind.TheVariants as V
use Rattle.flat.specs.declared.trap.Trap.TheVariants.{Malformed, IndexOutside, TooManyActivations}
use Rattle.interpreter.specs.declared.Stop.{Stop}
use Rattle.interpreter.specs.declared.Stop.TheVariants.{Trapped, OutOfFuel}
use Rattle.interpreter.specs.declared.Span.{Span}
use Rattle.interpreter.specs.declared.items.Move.{Move}
use Rattle.interpreter.specs.declared.walk.Step.{Step}
use Rattle.interpreter.specs.Post.{world, operands_at, value_of, onwards, Pushes, Moves, invoke_of, flows, Steps, Acts, Calls, Scans, Blocks, Execs, first_block, second_block, Stores, Emits, Heads, Roomy, Frame}
use Rattle.interpreter.proofs.Moving.{refused, moved, moved_on, moved_fits, drop_operands, length_operands, operands_same}
use Rattle.interpreter.proofs.Operate.{numbered}

pos_of : (n m : ℕ) → (n ≡ 0 → ⊥) → m ≡ n - 1 → n ≡ suc m
pos_of zero m h e = absurd (h refl)
pos_of (suc n) m h e = omega arith

zero_of : (n : ℕ) → n ≤ 0 → n ≡ 0
zero_of n h = omega arith

-- Items

abbrev wd : ℕ → List ℕ → List ℕ → World
wd f l xs = record { fuel = f; log = l; arrays = xs }

items_one : (n : ℕ) (ws : List ℕ) → 0 < n → items_of n ws ≡ item_of ws ∷ items_of (n - 1) (drop words_per_item ws)
unfolding items_of
items_one zero ws h = absurd (omega arith)
items_one (suc n) ws h = ap (λ (j : ℕ). item_of ws ∷ items_of j (drop words_per_item ws)) {x = n} {y = suc n - 1} (omega arith)

skip_items : (i : ℕ → List ℕ → Act ℕ) (n m : ℕ) (ws vs ls : List ℕ) (w : World) → scan i (items_of n ws) m vs ls w ≡ scan i (items_of (n - m) (drop (words_per_item * m) ws)) 0 vs ls w
unfolding items_of scan
skip_items i zero zero ws vs ls w = refl
skip_items i zero (suc m) ws vs ls w = ap (λ (j : ℕ). scan i (items_of j (drop (words_per_item * suc m) ws)) 0 vs ls w) {x = 0} {y = 0 - suc m} (omega arith)
skip_items i (suc n) zero ws vs ls w = ap (λ (j : ℕ). scan i (items_of j ws) 0 vs ls w) {x = suc n} {y = suc n - 0} (omega arith)
skip_items i (suc n) (suc m) ws vs ls w =
    skip_items i n m (drop words_per_item ws) vs ls w ∙
    (ap (λ (us : List ℕ). scan i (items_of (n - m) us) 0 vs ls w) (drop-drop (words_per_item * m) words_per_item ws ∙ ap (λ (j : ℕ). drop j ws) {x = words_per_item + words_per_item * m} {y = words_per_item * suc m} (omega arith)) ∙
    ap (λ (j : ℕ). scan i (items_of j (drop (words_per_item * suc m) ws)) 0 vs ls w) {x = n - m} {y = suc n - suc m} (omega arith))

-- c nodes begin, if there is fuel

pay : (c f : ℕ) (ls l xs : List ℕ) → c ≤ f → begins c ls (wd f l xs) ≡ goes tt ls (wd (f - c) l xs)
unfolding begins bind begin
pay zero f ls l xs h = ap (λ (j : ℕ). goes tt ls (wd j l xs)) {x = f} {y = f - 0} (omega arith)
pay (suc c) f ls l xs h = rw (pay c f ls l xs (omega arith)) (last (f - c) (f - suc c) (omega arith))
  where
    last : (a b : ℕ) → a ≡ suc b → begin_on a ls (wd a l xs) ≡ goes tt ls (wd b l xs)
    last a b e = rw e

dry_last : (c f : ℕ) (ls l xs : List ℕ) → f ≤ c → (f < c → begins c ls (wd f l xs) ≡ stops out_of_fuel (wd 0 l xs)) → bind (begins c ls (wd f l xs)) (λ _. begin) ≡ stops out_of_fuel (wd 0 l xs)
unfolding bind begin
dry_last c f ls l xs k ih = go (ltb f c) refl
  where
    zero_left : (a : ℕ) → a ≡ 0 → begin_on a ls (wd a l xs) ≡ stops out_of_fuel (wd 0 l xs)
    zero_left a e = rw e

    go : (b : Bool) → ltb f c ≡ b → bind (begins c ls (wd f l xs)) (λ _. begin) ≡ stops out_of_fuel (wd 0 l xs)
    go true e = rw (ih (ltb-true f c e))
    go false e = rw (pay c f ls l xs (ltb-false f c e)) (zero_left (f - c) (omega (arith, ltb-false f c e)))

dry : (c f : ℕ) (ls l xs : List ℕ) → f < c → begins c ls (wd f l xs) ≡ stops out_of_fuel (wd 0 l xs)
unfolding begins
dry zero f ls l xs h = absurd (omega arith)
dry (suc c) f ls l xs h = dry_last c f ls l xs (omega arith) (λ q. dry c f ls l xs q)

pub item_is : (ws : List ℕ) {k c a b : ℕ} → k ≡ word ws 0 → c ≡ word ws 1 → a ≡ word ws 2 → b ≡ word ws 3 → item_of ws ≡ item c (kind_of k a b)
unfolding item_of
item_is ws x y z u = rw (x, y, z, u)

onwards_as : {A : Type 0} (o : P.Result A Stop) (w : World) {f g : A → Result ℕ} → ((a : A) → f a ≡ g a) → onwards o w f ≡ onwards o w g
onwards_as (Ok a) w e = e a
onwards_as (Err s) w e = refl

-- what an item that calls nothing does, it does in an activation
pub acts : (t : List ℕ) (room left f n : ℕ) (log : List ℕ) {xs : List ℕ} {i : Kind} {c h : ℕ} {work work' : List ℕ} {o : P.Result Move Stop} →
    Moves work c h xs i o work' → Acts t room left i c h work (world f n log xs) o work' (world f n log xs)
acts t room left f n log m = record { same = λ k. m.same (invoke_of t room left) k f (take n log); fits = m.fits }

-- an item by its kind's number
module _ {t : List ℕ} {room left n c h : ℕ} {work : List ℕ} {w : World} {o : P.Result Move Stop} {work' : List ℕ} {w' : World} (a b : ℕ) where
  module _ {k : IK.Kind} (e : kind_number k ≡ n) where
    by_kind : (j : IK.Kind) {i : Kind} → k ≡ j → kind_of (kind_number j) a b ≡ i → Acts t room left i c h work w o work' w' → Acts t room left (kind_of n a b) c h work w o work' w'
    by_kind j z g x = rw (numbered kind_number e z, g) x

    pub is_number : k ≡ I.Number → Acts t room left (number a) c h work w o work' w' → Acts t room left (kind_of n a b) c h work w o work' w'
    unfolding kind_of
    is_number z x = by_kind I.Number z refl x

    pub is_local : k ≡ I.Local → Acts t room left (local a) c h work w o work' w' → Acts t room left (kind_of n a b) c h work w o work' w'
    unfolding kind_of
    is_local z x = by_kind I.Local z refl x

    pub is_element : k ≡ I.Element → Acts t room left (element (record { offset = a; size = b })) c h work w o work' w' → Acts t room left (kind_of n a b) c h work w o work' w'
    unfolding kind_of
    is_element z x = by_kind I.Element z refl x

    pub is_call : k ≡ I.Call → Acts t room left (call a b) c h work w o work' w' → Acts t room left (kind_of n a b) c h work w o work' w'
    unfolding kind_of
    is_call z x = by_kind I.Call z refl x

    pub is_unary : k ≡ I.Unary → Acts t room left (get_or unaries a unknown) c h work w o work' w' → Acts t room left (kind_of n a b) c h work w o work' w'
    unfolding kind_of
    is_unary z x = by_kind I.Unary z refl x

    pub is_strict : k ≡ I.Strict → Acts t room left (get_or stricts a unknown) c h work w o work' w' → Acts t room left (kind_of n a b) c h work w o work' w'
    unfolding kind_of
    is_strict z x = by_kind I.Strict z refl x

    pub is_and : k ≡ I.And → Acts t room left (and a) c h work w o work' w' → Acts t room left (kind_of n a b) c h work w o work' w'
    unfolding kind_of
    is_and z x = by_kind I.And z refl x

    pub is_or : k ≡ I.Or → Acts t room left (or a) c h work w o work' w' → Acts t room left (kind_of n a b) c h work w o work' w'
    unfolding kind_of
    is_or z x = by_kind I.Or z refl x

    pub is_join : k ≡ I.Join → Acts t room left join c h work w o work' w' → Acts t room left (kind_of n a b) c h work w o work' w'
    unfolding kind_of
    is_join z x = by_kind I.Join z refl x

  pub is_unknown : {s : Stop} → 8 < n → IsErrAnd o (λ e. e ≡ s) → Acts t room left unknown c h work w (Err s) work' w' → Acts t room left (kind_of n a b) c h work w o work' w'
  is_unknown l g x = rw (no_kind n a b l, refused o g) x

pub act_err : {t : List ℕ} {room left c h : ℕ} {work : List ℕ} {w : World} {work' : List ℕ} {w' : World} {i : Kind} {s : Stop} (o : P.Result Move Stop) →
    IsErrAnd o (λ e. e ≡ s) → Acts t room left i c h work w (Err s) work' w' → Acts t room left i c h work w o work' w'
act_err o g x = rw (refused o g) x

-- one item of a scan, from what its words are
module _ (t : List ℕ) (room left n : ℕ) (ws : List ℕ) (c h : ℕ) (work : List ℕ) (f : ℕ) (l xs : List ℕ) (pos : 0 < n) (k ch a b : ℕ) (ei : item_of ws ≡ item ch (kind_of k a b)) where
  abbrev on : Onward
  on = scan (invoke_of t room left) (items_of (n - 1) (drop words_per_item ws))

  whole : (r : Result ℕ) → bind (begins ch (take c work) (wd f l xs)) (λ _. step (invoke_of t room left) (kind_of k a b) (operands_at work c h) on) ≡ r →
      scan (invoke_of t room left) (items_of n ws) 0 (operands_at work c h) (take c work) (wd f l xs) ≡ r
  unfolding scan
  whole r q = rw (items_one n ws pos, ei) q

  paid : (r : Result ℕ) → ch ≤ f → step (invoke_of t room left) (kind_of k a b) (operands_at work c h) on (take c work) (wd (f - ch) l xs) ≡ r →
      scan (invoke_of t room left) (items_of n ws) 0 (operands_at work c h) (take c work) (wd f l xs) ≡ r
  unfolding bind
  paid r q z = whole r (rw (pay ch f (take c work) l xs q) z)

  pub one_dry : (r : P.Result Step Stop) {s : Stop} {f' : ℕ} {l' : List ℕ} → IsErrAnd r (λ e. e ≡ s) → s ≡ OutOfFuel → f < ch → f' ≡ 0 → l' ≡ l → Steps t room left n ws c h work (wd f l xs) r work (wd f' l' xs)
  unfolding bind
  one_dry r g z q d e = rw (refused r g, z, d, e) (record { same = whole _ (rw (dry ch f (take c work) l xs q)); fits = tt; fewer = tt })

  module _ {f' : ℕ} {l' : List ℕ} (q : ch ≤ f) (d : f' ≡ f - ch) (e : l' ≡ l) where
    pub one_stops : (r : P.Result Step Stop) {s : Stop} {work' : List ℕ} {w' : World} → IsErrAnd r (λ e. e ≡ s) → Acts t room left (kind_of k a b) c h work (wd f' l' xs) (Err s) work' w' → Steps t room left n ws c h work (wd f l xs) r work' w'
    one_stops r g x = rw (refused r g) (record { same = paid _ q (rw (← d, ← e) (x.same on)); fits = tt; fewer = tt })

    pub one_acts : {m : Move} {at : Span} {work' : List ℕ} {w' : World} → Acts t room left (kind_of k a b) c h work (wd f' l' xs) (Ok m) work' w' → at.n ≡ n - 1 - m.skip → drop at.p t ≡ drop (words_per_item + words_per_item * m.skip) ws →
        Steps t room left n ws c h work (wd f l xs) (Ok (record { at = at; h = m.h })) work' w'
    one_acts {m} {at} {work'} {w'} x y z =
        record {
          same = paid _ q (rw (← d, ← e) (x.same on) ∙ (skip_items (invoke_of t room left) (n - 1) m.skip (drop words_per_item ws) (operands_at work' c m.h) (take c work') w' ∙
              (ap (λ (us : List ℕ). scan (invoke_of t room left) (items_of (n - 1 - m.skip) us) 0 (operands_at work' c m.h) (take c work') w') (drop-drop (words_per_item * m.skip) words_per_item ws ∙ sym z) ∙
              ap (λ (j : ℕ). scan (invoke_of t room left) (items_of j (drop at.p t)) 0 (operands_at work' c m.h) (take c work') w') (sym y))));
          fits = x.fits;
          fewer = omega (arith, y);
        }

-- The loop over items

pub record Scanning (t : List ℕ) (room left n₀ : ℕ) (ws₀ ls₀ : List ℕ) (w₀ : World) (c m : ℕ) (ws : List ℕ) (h : ℕ) (work : List ℕ) (w : World) : Type 0 where
  pub rest : evaluate (invoke_of t room left) (items_of n₀ ws₀) ls₀ w₀ ≡ scan (invoke_of t room left) (items_of m ws) 0 (operands_at work c h) (take c work) w
  pub fits : h ≤ most_operands

pub scanning_start : (t : List ℕ) (room left n : ℕ) (ws : List ℕ) (c : ℕ) (work : List ℕ) (w : World) → Scanning t room left n ws (take c work) w c n ws 0 work w
unfolding evaluate operands_at
scanning_start t room left n ws c work w = record { rest = refl; fits = omega arith }

module _ {t : List ℕ} {room left n₀ : ℕ} {ws₀ ls₀ : List ℕ} {w₀ : World} {c m : ℕ} {ws : List ℕ} {h : ℕ} {work : List ℕ} {w : World} (i : Scanning t room left n₀ ws₀ ls₀ w₀ c m ws h work w) where
  pub scanning_next : {s : Step} {work' : List ℕ} {w' : World} → Steps t room left m ws c h work w (Ok s) work' w' → Scanning t room left n₀ ws₀ ls₀ w₀ c s.at.n (drop s.at.p t) s.h work' w'
  scanning_next x = record { rest = i.rest ∙ x.same; fits = x.fits }

  pub scanning_stop : (r : P.Result ℕ Stop) (ls' : List ℕ) {s : Stop} {work' : List ℕ} {w' : World} → IsErrAnd r (λ e. e ≡ s) → Steps t room left m ws c h work w (Err s) work' w' → Scans t room left n₀ ws₀ ls₀ w₀ r ls' w'
  scanning_stop r ls' g x = rw (refused r g) (record { same = i.rest ∙ x.same })

  pub scanning_end : {v : ℕ} → m ≤ 0 → v ≡ top (operands_at work c h) → Scans t room left n₀ ws₀ ls₀ w₀ (Ok v) (take c work) w
  unfolding items_of scan
  scanning_end {v} z d =
      record { same = i.rest ∙ (ap (λ (j : ℕ). scan (invoke_of t room left) (items_of j ws) 0 (operands_at work c h) (take c work) w) (zero_of m z) ∙ ap (λ (j : ℕ). goes j (take c work) w) (sym d)) }

-- Calls

back_flows : (room : ℕ) (r : Option ℕ) (ls ls' : List ℕ) (w : World) → back room ls (flows (Ok r) ls' w) ≡ value_of (Ok (unwrap_or r 0)) ls w
unfolding back
back_flows room None ls ls' w = refl
back_flows room (Some v) ls ls' w = refl

module _ (t : List ℕ) (room left f : ℕ) (vs : List ℕ) (w : World) where
  pub call_deep : left ≡ 0 → Calls t room left f vs w (Err (Trapped TooManyActivations)) w
  unfolding fcall_at
  call_deep z = record { same = λ ls. rw z }

  module _ (left' : ℕ) {n c place statements lets : ℕ} (nz : left ≡ 0 → ⊥) (el : left' ≡ left - 1) (x : Heads t f place statements lets) (ev : length vs ≡ n) (ec : c ≡ n + lets) where
    pub call_malformed : most_locals < c → Calls t room left f vs w (Err (Trapped Malformed)) w
    unfolding fcall_at
    call_malformed l = record { same = λ ls. rw (pos_of left left' nz el, x.locals, ev, lt-leb (n + lets) most_locals (omega arith)) }

    module _ (l : c ≤ most_locals) {ls : List ℕ} (e : ls ≡ vs ++ replicate (c - n) 0) where
      called : (us : List ℕ) {o : P.Result (Option ℕ) Stop} {ls' : List ℕ} {w' : World} → Blocks t room left' most_nesting statements (drop place t) ls w o ls' w' → invoke_of t room left f vs us w ≡ back room us (flows o ls' w')
      unfolding fcall_at
      called us y =
          let q : c - n ≡ lets = omega arith in
          let e' : vs ++ replicate lets 0 ≡ ls = ap (λ (j : ℕ). vs ++ replicate j 0) (sym q) ∙ sym e in
          rw (pos_of left left' nz el, x.locals, ev, le-leb (n + lets) most_locals (omega arith), x.body, e', y.same)

      pub call_body : {r : Option ℕ} {v : ℕ} {ls' : List ℕ} {w' : World} → Blocks t room left' most_nesting statements (drop place t) ls w (Ok r) ls' w' → v ≡ unwrap_or r 0 → Calls t room left f vs w (Ok v) w'
      call_body {r} {ls' = ls'} {w' = w'} y g = record { same = λ us. called us y ∙ (back_flows room r us ls' w' ∙ ap (λ (j : ℕ). goes j us w') (sym g)) }

      pub call_stops : (r : P.Result ℕ Stop) {s : Stop} {ls' : List ℕ} {w' : World} → IsErrAnd r (λ e. e ≡ s) → Blocks t room left' most_nesting statements (drop place t) ls w (Err s) ls' w' → Calls t room left f vs w r w'
      unfolding back
      call_stops r g y = rw (refused r g) (record { same = λ us. called us y })

take_snoc : (work : List ℕ) (b n : ℕ) (more : List ℕ) → b + n < length work → take (suc n) (drop b work) ++ more ≡ take n (drop b work) ++ (get_or work (b + n) 0 ∷ more)
take_snoc work b n more l = rw (take-suc (drop b work) n 0 (omega (arith, length-drop b work)), get_or-drop b work n 0, append_assoc)

-- the arguments are the uppermost operands
popped_are : (work : List ℕ) (c n h : ℕ) (more : List ℕ) → n ≤ h → c + h ≤ length work → popped n (operands_at work c h) more ≡ take n (drop (c + (h - n)) work) ++ more
unfolding popped operands_at
popped_are work c zero h more l k = refl
popped_are work c (suc n) zero more l k = absurd (omega arith)
popped_are work c (suc n) (suc h) more l k =
    popped_are work c n h (get_or work (c + h) 0 ∷ more) (omega arith) (omega arith) ∙
    (ap (λ (j : ℕ). take n (drop (c + (h - n)) work) ++ (get_or work j 0 ∷ more)) {x = c + h} {y = c + (h - n) + n} (omega arith) ∙
    (sym (take_snoc work (c + (h - n)) n more (omega arith)) ∙ ap (λ (j : ℕ). take (suc n) (drop j work) ++ more) {x = c + (h - n)} {y = c + (suc h - suc n)} (omega arith)))

-- the callee's room begins with them
pub arguments_are : (work : List ℕ) (c n h : ℕ) → n ≤ h → c + h ≤ length work → popped n (operands_at work c h) [] ≡ take n (take (length work - (c + (h - n))) (drop (c + (h - n)) work))
arguments_are work c n h l k =
    popped_are work c n h [] l k ∙ (append-nil (take n (drop (c + (h - n)) work)) ∙
    ap (take n) (sym (take_all (length work - (c + (h - n))) (drop (c + (h - n)) work) (omega (arith, length-drop (c + (h - n)) work)))))

-- a room that another has kept below a
pub record Below (a : ℕ) (work us : List ℕ) : Type 0 where
  pub same : take a us ≡ take a work

pub part_below : (a : ℕ) (work more : List ℕ) → a ≤ length work → Below a work (take a work ++ more)
part_below a work more l = record { same = take_at (take a work) more a (length-take-le a work l) }

pub part_length : (work : List ℕ) (a : ℕ) → length (take (length work - a) (drop a work)) ≡ length work - a
part_length work a = length-take-le (length work - a) (drop a work) (omega (arith, length-drop a work))

below_at : {a : ℕ} {work us : List ℕ} → Below a work us → (i : ℕ) → i < a → get_or us i 0 ≡ get_or work i 0
below_at {a} {work} {us} x i l = sym (get_or-take a us i 0 l) ∙ (ap (λ (zs : List ℕ). get_or zs i 0) x.same ∙ get_or-take a work i 0 l)

below_take : {a : ℕ} {work us : List ℕ} → Below a work us → (c : ℕ) → c ≤ a → take c us ≡ take c work
below_take {a} {work} {us} x c l = sym (take-take c a us l) ∙ (ap (take c) x.same ∙ take-take c a work l)

module _ (t : List ℕ) (room left f n c h : ℕ) (work : List ℕ) (w : World) where
  pub enter_few : h < n → Acts t room left (call f n) c h work w (Err (Trapped Malformed)) work w
  unfolding step
  enter_few l = record { same = λ k. rw (length_operands work c h, lt-ltb h n l); fits = tt }

  module _ {vs : List ℕ} (l : n ≤ h) (q : h ≤ most_operands) (ev : popped n (operands_at work c h) [] ≡ vs) where
    pub enter_stop : (r : P.Result Move Stop) (work' : List ℕ) {s : Stop} {w' : World} → IsErrAnd r (λ e. e ≡ s) → Calls t room left f vs w (Err s) w' → Acts t room left (call f n) c h work w r work' w'
    unfolding step bind
    enter_stop r work' g x = rw (refused r g) (record { same = λ k. rw (length_operands work c h, le-ltb h n l, ev, x.same (take c work)); fits = tt })

    pub enter_back : {v : ℕ} {w' : World} {us work' : List ℕ} {o : P.Result ℕ Stop} → Calls t room left f vs w (Ok v) w' → Below (c + (h - n)) work us → Pushes us c (h - n) v o work' → Acts t room left (call f n) c h work w (moved 0 o) work' w'
    unfolding step bind
    enter_back {v} {w'} {us} {work'} {o} x b p =
        let e : operands_at work c (h - n) ≡ operands_at us c (h - n) = sym (operands_same work us c (h - n) (below_at b)) in
        let g : take c work' ≡ take c work = p.locals ∙ below_take b c (omega arith) in
        record {
          same = λ k. rw (length_operands work c h, le-ltb h n l, ev, x.same (take c work), drop_operands work c h n, e) (p.same k (take c work) w' ∙ moved_on 0 o k c work' w' g);
          fits = moved_fits 0 o p.fits;
        }

-- Statements

-- what is done with a choice is chosen alike
branch_on : (v : ℕ) (f : S.Block → Act Flow) (p q : S.Block) (ls : List ℕ) (w : World) → branch v (f p) (f q) ls w ≡ f (branch v p q) ls w
branch_on zero f p q ls w = refl
branch_on (suc v) f p q ls w = refl

module _ (t : List ℕ) (room left depth : ℕ) (ws : List ℕ) where
  abbrev run : ℕ → Act Flow
  run k = fexec room (invoke_of t room left) (statement_of (block_of depth) k ws)

  abbrev val : Act ℕ
  val = evaluate (invoke_of t room left) (first ws)

  is_kind : (k : ℕ) {o : P.Result (Option ℕ) Stop} {ls ls' : List ℕ} {w w' : World} → word ws 0 ≡ k → run k ls w ≡ flows o ls' w' → Execs t room left depth ws ls w o ls' w'
  is_kind k {ls = ls} {w = w} e q = record { same = ap (λ (j : ℕ). run j ls w) e ∙ q }

  scanned : {m : ℕ} {es ls ls' : List ℕ} {w w' : World} {o : P.Result ℕ Stop} → items_of m es ≡ first ws → Scans t room left m es ls w o ls' w' → val ls w ≡ value_of o ls' w'
  scanned ee x = rw (← ee) x.same

  -- the number n of kind k that the statement's first word is
  module _ {n : ℕ} {k : SK.Kind} (en : n ≡ word ws 0) (e : statement_number k ≡ n) where
    by_name : (j : SK.Kind) {o : P.Result (Option ℕ) Stop} {ls ls' : List ℕ} {w w' : World} → k ≡ j → run (statement_number j) ls w ≡ flows o ls' w' → Execs t room left depth ws ls w o ls' w'
    by_name j z q = is_kind (statement_number j) (sym en ∙ numbered statement_number e z) q

    pub stmt_leave : (ls : List ℕ) (w : World) → k ≡ V.Leave → Execs t room left depth ws ls w (Ok (Some 0)) ls w
    unfolding fexec statement_of
    stmt_leave ls w z = by_name V.Leave z refl

    pub stmt_while : k ≡ V.While → word ws 0 ≡ 3
    stmt_while z = sym en ∙ numbered statement_number e z

    module _ {m : ℕ} {es ls ls' : List ℕ} {w w' : World} (ee : items_of m es ≡ first ws) where
      module _ {s : Stop} (x : Scans t room left m es ls w (Err s) ls' w') where
        stopped : (j : SK.Kind) (q : ℕ → Act Flow) (r : P.Result (Option ℕ) Stop) (us : List ℕ) → k ≡ j → run (statement_number j) ls w ≡ bind (val ls w) q → IsErrAnd r (λ e. e ≡ s) → Execs t room left depth ws ls w r us w'
        unfolding bind
        stopped j q r us z y g = rw (refused r g) (by_name j z (y ∙ ap (λ (o : Result ℕ). bind o q) (scanned ee x)))

        pub put_stops : (r : P.Result (Option ℕ) Stop) (us : List ℕ) → k ≡ V.Put → IsErrAnd r (λ e. e ≡ s) → Execs t room left depth ws ls w r us w'
        unfolding fexec statement_of
        put_stops r us z g = stopped V.Put _ r us z refl g

        pub store_stops : (r : P.Result (Option ℕ) Stop) (us : List ℕ) → k ≡ V.Store → IsErrAnd r (λ e. e ≡ s) → Execs t room left depth ws ls w r us w'
        unfolding fexec statement_of
        store_stops r us z g = stopped V.Store _ r us z refl g

        pub choose_stops : (r : P.Result (Option ℕ) Stop) (us : List ℕ) → k ≡ V.Choose → IsErrAnd r (λ e. e ≡ s) → Execs t room left depth ws ls w r us w'
        unfolding fexec statement_of
        choose_stops r us z g = stopped V.Choose _ r us z refl g

        pub give_stops : (r : P.Result (Option ℕ) Stop) (us : List ℕ) → k ≡ V.Give → IsErrAnd r (λ e. e ≡ s) → Execs t room left depth ws ls w r us w'
        unfolding fexec statement_of
        give_stops r us z g = stopped V.Give _ r us z refl g

        pub emit_stops : (r : P.Result (Option ℕ) Stop) (us : List ℕ) → k ≡ V.Emit → IsErrAnd r (λ e. e ≡ s) → Execs t room left depth ws ls w r us w'
        unfolding fexec statement_of
        emit_stops r us z g = stopped V.Emit _ r us z refl g

        pub run_stops : (r : P.Result (Option ℕ) Stop) (us : List ℕ) → k ≡ V.Run → IsErrAnd r (λ e. e ≡ s) → Execs t room left depth ws ls w r us w'
        unfolding fexec statement_of
        run_stops r us z g = stopped V.Run _ r us z refl g

      module _ {v : ℕ} (x : Scans t room left m es ls w (Ok v) ls' w') where
        valued : (j : SK.Kind) (q : ℕ → Act Flow) {o : P.Result (Option ℕ) Stop} {us : List ℕ} {w'' : World} → k ≡ j → run (statement_number j) ls w ≡ bind (val ls w) q → q v ls' w' ≡ flows o us w'' → Execs t room left depth ws ls w o us w''
        unfolding bind
        valued j q z y g = by_name j z (y ∙ (ap (λ (o : Result ℕ). bind o q) (scanned ee x) ∙ g))

        pub put_done : {a : ℕ} {us : List ℕ} → k ≡ V.Put → a ≡ word ws 1 → us ≡ set ls' a v → Execs t room left depth ws ls w (Ok None) us w'
        unfolding fexec statement_of assign bind
        put_done z ea h = valued V.Put _ z refl (rw (← ea, h))

        pub store_done : {o : P.Result (Option ℕ) Stop} {us : List ℕ} {w'' : World} → k ≡ V.Store → Stores t room left ws v ls' w' o us w'' → Execs t room left depth ws ls w o us w''
        unfolding fexec statement_of
        store_done z y = valued V.Store _ z refl y.same

        pub choose_done : {n : ℕ} {qs : List ℕ} {o : P.Result (Option ℕ) Stop} {us : List ℕ} {w'' : World} → k ≡ V.Choose → block_of depth n qs ≡ branch v (first_block depth ws) (second_block depth ws) →
            Blocks t room left depth n qs ls' w' o us w'' → Execs t room left depth ws ls w o us w''
        unfolding fexec statement_of
        choose_done z g y =
            valued V.Choose _ z refl (branch_on v (fblock room (invoke_of t room left)) (first_block depth ws) (second_block depth ws) ls' w' ∙
            (ap (λ (q : S.Block). fblock room (invoke_of t room left) q ls' w') (sym g) ∙ y.same))

        pub give_done : k ≡ V.Give → Execs t room left depth ws ls w (Ok (Some v)) ls' w'
        unfolding fexec statement_of
        give_done z = valued V.Give _ z refl refl

        pub run_done : k ≡ V.Run → Execs t room left depth ws ls w (Ok None) ls' w'
        unfolding fexec statement_of
        run_done z = valued V.Run _ z refl refl

        pub emit_done : {A : Type 0} {a : A} {w'' : World} → k ≡ V.Emit → Emits room v w' (Ok a) w'' → Execs t room left depth ws ls w (Ok None) ls' w''
        unfolding fexec statement_of
        emit_done z y = valued V.Emit _ z refl (y.same ls')

        pub log_full : {A : Type 0} (r : P.Result (Option ℕ) Stop) {s : Stop} {w'' : World} → k ≡ V.Emit → Emits {A = A} room v w' (Err s) w'' → IsErrAnd r (λ e. e ≡ s) → Execs t room left depth ws ls w r ls' w''
        unfolding fexec statement_of
        log_full r z y g = rw (refused r g) (valued V.Emit _ z refl (y.same ls'))

  pub stmt_unknown : {n : ℕ} (r : P.Result (Option ℕ) Stop) (ls : List ℕ) (w : World) → n ≡ word ws 0 → 7 < n → IsErrAnd r (λ e. e ≡ Trapped Malformed) → Execs t room left depth ws ls w r ls w
  unfolding fexec statement_of
  stmt_unknown {n} r ls w en l g = rw (refused r g) (is_kind n (sym en) (rw (get_or-eq_default (statements (block_of depth) ws) S.unknown l)))

  -- the second expression of a store
  module _ {m : ℕ} {es ls ls' : List ℕ} {w : World} {f : ℕ} {l xs : List ℕ} (ee : items_of m es ≡ second ws) where
    pub value_stops : (r : P.Result (Option ℕ) Stop) (us : List ℕ) {i : ℕ} {s : Stop} → IsErrAnd r (λ e. e ≡ s) → Scans t room left m es ls w (Err s) ls' (wd f l xs) → Stores t room left ws i ls w r us (wd f l xs)
    unfolding bind
    value_stops r us g x = rw (refused r g) (record { same = rw (← ee, x.same) })

    module _ {v : ℕ} (x : Scans t room left m es ls w (Ok v) ls' (wd f l xs)) where
      pub store_there : {i a s : ℕ} {xs' : List ℕ} → a ≡ word ws 1 → s ≡ word ws 2 → i < s → xs' ≡ set xs (a + i) v → Stores t room left ws i ls w (Ok None) ls' (wd f l xs')
      unfolding bind write
      store_there {i} {s = s} ea es k r = record { same = rw (← ee, x.same, ← ea, ← es, lt-ltb i s k, r) }

      pub store_outside : {i s : ℕ} → s ≡ word ws 2 → s ≤ i → Stores t room left ws i ls w (Err (Trapped IndexOutside)) ls' (wd f l xs)
      unfolding bind write
      store_outside {i} {s = s} es k = record { same = rw (← ee, x.same, ← es, le-ltb i s k) }

-- The rounds of `while`

rounds_step : (g : ℕ) (T : Act ℕ) (B : Act Flow) (ls : List ℕ) (w : World) → 0 < g →
    rounds g T B ls w ≡ bind (T ls w) (λ v. branch v (λ ls₁ w₁. bind (B ls₁ w₁) (λ fl. followed fl (rounds (g - 1) T B))) (value next))
unfolding rounds
rounds_step zero T B ls w h = absurd (omega arith)
rounds_step (suc g) T B ls w h =
    ap (λ (j : ℕ). bind (T ls w) (λ v. branch v (λ ls₁ w₁. bind (B ls₁ w₁) (λ fl. followed fl (rounds j T B))) (value next))) {x = g} {y = suc g - 1} (omega arith)

pub record Rounding (t : List ℕ) (room left depth n : ℕ) (es : List ℕ) (s : ℕ) (qs ls₀ : List ℕ) (w₀ : World) (g : ℕ) (ls : List ℕ) (w : World) : Type 0 where
  pub rest : rounds w₀.fuel (evaluate (invoke_of t room left) (items_of n es)) (fblock room (invoke_of t room left) (block_of depth s qs)) ls₀ w₀ ≡
      rounds g (evaluate (invoke_of t room left) (items_of n es)) (fblock room (invoke_of t room left) (block_of depth s qs)) ls w

pub rounding_start : (t : List ℕ) (room left depth n : ℕ) (es : List ℕ) (s : ℕ) (qs ls : List ℕ) (w : World) {g : ℕ} → g ≡ w.fuel → Rounding t room left depth n es s qs ls w g ls w
rounding_start t room left depth n es s qs ls w e = record { rest = rw e }

module _ (ws : List ℕ) {t : List ℕ} {room left depth n : ℕ} {es : List ℕ} {s : ℕ} {qs ls₀ : List ℕ} {w₀ : World} {g : ℕ} {ls : List ℕ} {w : World}
    (z : word ws 0 ≡ 3) (ee : items_of n es ≡ first ws) (eb : block_of depth s qs ≡ first_block depth ws) (i : Rounding t room left depth n es s qs ls₀ w₀ g ls w) where
  abbrev T : Act ℕ
  T = evaluate (invoke_of t room left) (items_of n es)

  abbrev B : Act Flow
  B = fblock room (invoke_of t room left) (block_of depth s qs)

  whole_loop : {o : P.Result (Option ℕ) Stop} {ls' : List ℕ} {w' : World} → rounds g T B ls w ≡ flows o ls' w' → Execs t room left depth ws ls₀ w₀ o ls' w'
  unfolding fexec statement_of
  whole_loop r = is_kind t room left depth ws 3 z (rw (← ee, ← eb) (i.rest ∙ r))

  pub loop_dry : (us : List ℕ) → g ≤ 0 → Execs t room left depth ws ls₀ w₀ (Err OutOfFuel) us w
  unfolding rounds
  loop_dry us k = whole_loop (rw (zero_of g k))

  module _ (nz : 0 < g) {ls₁ : List ℕ} {w₁ : World} where
    one_round : {o : P.Result ℕ Stop} → Scans t room left n es ls w o ls₁ w₁ → rounds g T B ls w ≡ bind (value_of o ls₁ w₁) (λ v. branch v (λ ls₂ w₂. bind (B ls₂ w₂) (λ fl. followed fl (rounds (g - 1) T B))) (value next))
    one_round x = rounds_step g T B ls w nz ∙ ap (λ (r : Result ℕ). bind r (λ v. branch v (λ ls₂ w₂. bind (B ls₂ w₂) (λ fl. followed fl (rounds (g - 1) T B))) (value next))) x.same

    pub loop_stops : (r : P.Result (Option ℕ) Stop) (us : List ℕ) {s : Stop} → IsErrAnd r (λ e. e ≡ s) → Scans t room left n es ls w (Err s) ls₁ w₁ → Execs t room left depth ws ls₀ w₀ r us w₁
    unfolding bind
    loop_stops r us q x = rw (refused r q) (whole_loop (one_round x))

    module _ {v : ℕ} (x : Scans t room left n es ls w (Ok v) ls₁ w₁) where
      pub loop_end : v ≡ 0 → Execs t room left depth ws ls₀ w₀ (Ok None) ls₁ w₁
      unfolding bind
      loop_end k = whole_loop (one_round x ∙ rw k)

      module _ (k : v ≡ 0 → ⊥) {ls₂ : List ℕ} {w₂ : World} where
        body_done : {o : P.Result (Option ℕ) Stop} → Blocks t room left depth s qs ls₁ w₁ o ls₂ w₂ → rounds g T B ls w ≡ bind (flows o ls₂ w₂) (λ fl'. followed fl' (rounds (g - 1) T B))
        unfolding bind
        body_done r = one_round x ∙ rw (pos_of v (v - 1) k refl, r.same)

        pub body_stops : (o : P.Result (Option ℕ) Stop) (us : List ℕ) {e : Stop} → IsErrAnd o (λ d. d ≡ e) → Blocks t room left depth s qs ls₁ w₁ (Err e) ls₂ w₂ → Execs t room left depth ws ls₀ w₀ o us w₂
        unfolding bind
        body_stops o us q r = rw (refused o q) (whole_loop (body_done r))

        pub body_returns : {o : Option ℕ} {u : ℕ} → Blocks t room left depth s qs ls₁ w₁ (Ok o) ls₂ w₂ → o ≡ Some u → Execs t room left depth ws ls₀ w₀ (Ok (Some u)) ls₂ w₂
        unfolding bind
        body_returns r y = whole_loop (body_done r ∙ rw y)

        pub loop_again : {o : Option ℕ} {g' : ℕ} → Blocks t room left depth s qs ls₁ w₁ (Ok o) ls₂ w₂ → o ≡ None → g' ≡ g - 1 → Rounding t room left depth n es s qs ls₀ w₀ g' ls₂ w₂
        unfolding bind
        loop_again r y e = record { rest = i.rest ∙ (body_done r ∙ rw (y, e)) }

-- Blocks

abbrev stmt_at : ℕ → List ℕ → Stmt
stmt_at depth us = statement_of (block_of depth) (word us 0) us

sequence_step : (m : ℕ) (S : List ℕ → Stmt) (ws : List ℕ) (room : ℕ) (inv : ℕ → List ℕ → Act ℕ) (ls : List ℕ) (w : World) → 0 < m → fblock room inv (sequence_of S m ws) ls w ≡
    bind (begin_on w.fuel ls w) (λ _ ls₁ w₁. bind (fexec room inv (S ws) ls₁ w₁) (λ fl. followed fl (fblock room inv (sequence_of S (m - 1) (drop (header_words + word ws 7) ws)))))
unfolding sequence_of fblock begin
sequence_step zero S ws room inv ls w h = absurd (omega arith)
sequence_step (suc m) S ws room inv ls w h =
    ap (λ (j : ℕ). bind (begin_on w.fuel ls w) (λ _ ls₁ w₁. bind (fexec room inv (S ws) ls₁ w₁) (λ fl. followed fl (fblock room inv (sequence_of S j (drop (header_words + word ws 7) ws)))))) {x = m} {y = suc m - 1} (omega arith)

open_block : (depth n : ℕ) (ws : List ℕ) → (depth ≡ 0 → ⊥) → block_of depth n ws ≡ sequence_of (stmt_at (depth - 1)) n ws
unfolding block_of
open_block zero n ws z = absurd (z refl)
open_block (suc depth) n ws z = ap (λ (j : ℕ). sequence_of (stmt_at j) n ws) {x = depth} {y = suc depth - 1} (omega arith)

pub record Blocking (t : List ℕ) (room left depth n : ℕ) (ws₀ ls₀ : List ℕ) (w₀ : World) (m : ℕ) (ws ls : List ℕ) (w : World) : Type 0 where
  pub rest : fblock room (invoke_of t room left) (block_of depth n ws₀) ls₀ w₀ ≡ fblock room (invoke_of t room left) (sequence_of (stmt_at (depth - 1)) m ws) ls w

pub block_none : (t : List ℕ) (room left depth n : ℕ) (ws ls : List ℕ) (w : World) → depth ≡ 0 → Blocks t room left depth n ws ls w (Ok None) ls w
unfolding block_of fblock
block_none t room left depth n ws ls w z = record { same = rw z }

pub blocking_start : (t : List ℕ) (room left depth n : ℕ) (ws ls : List ℕ) (w : World) {m : ℕ} → (depth ≡ 0 → ⊥) → m ≡ n → Blocking t room left depth n ws ls w m ws ls w
blocking_start t room left depth n ws ls w z e = record { rest = rw e (ap (λ (b : S.Block). fblock room (invoke_of t room left) b ls w) (open_block depth n ws z)) }

module _ {t : List ℕ} {room left depth n : ℕ} {ws₀ ls₀ : List ℕ} {w₀ : World} {m : ℕ} {ws ls : List ℕ} {f : ℕ} {l xs : List ℕ} (i : Blocking t room left depth n ws₀ ls₀ w₀ m ws ls (wd f l xs)) where
  abbrev after : Flow → Act Flow
  after fl = followed fl (fblock room (invoke_of t room left) (sequence_of (stmt_at (depth - 1)) (m - 1) (drop (header_words + word ws 7) ws)))

  pub block_end : m ≤ 0 → Blocks t room left depth n ws₀ ls₀ w₀ (Ok None) ls (wd f l xs)
  unfolding sequence_of fblock
  block_end z = record { same = i.rest ∙ rw (zero_of m z) }

  pub block_dry : (r : P.Result (Option ℕ) Stop) (us : List ℕ) {s : Stop} {f' : ℕ} {l' : List ℕ} → 0 < m → IsErrAnd r (λ e. e ≡ s) → s ≡ OutOfFuel → f < 1 → f' ≡ 0 → l' ≡ l → Blocks t room left depth n ws₀ ls₀ w₀ r us (wd f' l' xs)
  unfolding bind
  block_dry r us z g k q d e = rw (refused r g, k, d, e) (record { same = i.rest ∙ (sequence_step m (stmt_at (depth - 1)) ws room (invoke_of t room left) ls (wd f l xs) z ∙ rw (zero_of f (omega arith))) })

  module _ {f' : ℕ} {l' : List ℕ} (z : 0 < m) (q : 1 ≤ f) (d : f' ≡ f - 1) (e : l' ≡ l) {ls' : List ℕ} {w' : World} where
    stmt_done : {o : P.Result (Option ℕ) Stop} → Execs t room left (depth - 1) ws ls (wd f' l' xs) o ls' w' → fblock room (invoke_of t room left) (sequence_of (stmt_at (depth - 1)) m ws) ls (wd f l xs) ≡ bind (flows o ls' w') after
    unfolding bind
    stmt_done x =
        sequence_step m (stmt_at (depth - 1)) ws room (invoke_of t room left) ls (wd f l xs) z ∙
        (ap (λ (j : ℕ). bind (begin_on j ls (wd j l xs)) (λ _ ls₁ w₁. bind (fexec room (invoke_of t room left) (stmt_at (depth - 1) ws) ls₁ w₁) after)) (pos_of f f' (λ (y : f ≡ 0). omega arith) d) ∙
        (ap (λ (us : List ℕ). bind (fexec room (invoke_of t room left) (stmt_at (depth - 1) ws) ls (wd f' us xs)) after) (sym e) ∙
        ap (λ (r : Result Flow). bind r after) x.same))

    pub block_stops : (r : P.Result (Option ℕ) Stop) (us : List ℕ) {s : Stop} → IsErrAnd r (λ e. e ≡ s) → Execs t room left (depth - 1) ws ls (wd f' l' xs) (Err s) ls' w' → Blocks t room left depth n ws₀ ls₀ w₀ r us w'
    unfolding bind
    block_stops r us g x = rw (refused r g) (record { same = i.rest ∙ stmt_done x })

    pub block_returns : {r : Option ℕ} {v : ℕ} → Execs t room left (depth - 1) ws ls (wd f' l' xs) (Ok r) ls' w' → r ≡ Some v → Blocks t room left depth n ws₀ ls₀ w₀ (Ok (Some v)) ls' w'
    unfolding bind
    block_returns x y = record { same = i.rest ∙ (stmt_done x ∙ rw y) }

    pub block_next : {r : Option ℕ} {m' : ℕ} {ws' : List ℕ} → Execs t room left (depth - 1) ws ls (wd f' l' xs) (Ok r) ls' w' → r ≡ None → m' ≡ m - 1 → ws' ≡ drop (header_words + word ws 7) ws → Blocking t room left depth n ws₀ ls₀ w₀ m' ws' ls' w'
    unfolding bind
    block_next x z em y = record { rest = i.rest ∙ (stmt_done x ∙ rw (z, em, y)) }

-- the room of an activation is that of its locals and operands
pub frame : {c h left room : ℕ} {work log : List ℕ} → Roomy c left room work log → h ≤ most_operands → Frame c h work
frame r l = record { locals = r.locals; operands = l; room = omega (arith, r.frames) }
