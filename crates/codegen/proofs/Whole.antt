-- The theorem: the image of a program that is what elaboration gives, and that fits, keeps the meaning.
use mathlib.Core.Path.{◌≡◌, refl, sym, ap, ◌∙◌, subst}
use mathlib.Core.List.{List, [], ◌∷◌, ◌++◌, append-nil}
use mathlib.Core.Option.{Option, none, some}
use mathlib.Core.Logic.{◌⊎◌, ⊎_elim}
use Prim.Native.Nat.{ℕ, zero, suc, ◌+◌, ◌-◌, ◌*◌, ◌^◌, ◌≤◌, ◌<◌}
use native.Mathlib.Omega.{arith}
use lib.ListN.{length, get_or}
use Rattle.word.specs.Bytes.{bytes_of, bytes_of_words}
use Rattle.processor.specs.declared.Status.{Status}
use Rattle.processor.specs.declared.Status.TheVariants.{Exit, Trap, Limit}
use Rattle.processor.specs.Run as M
use Rattle.processor.specs.Image.{run_image, arrays_of}
use Rattle.language.specs.Core.{Program}
use Rattle.language.specs.Meaning.{trapped, out_of_fuel, Outcome, finished, stopped, Run, run_of}
use Rattle.claims.specs.Keeps.{stop_for, Begins, Below, Input, Alike, Keeps}
use Rattle.symbolic.specs.Symbolic.{State, initial}
use Rattle.symbolic.specs.Real.{words_from, image_of}
use Rattle.symbolic.proofs.Runs.{Stopped, run_add, log_grows, count_most}
use Rattle.symbolic.proofs.Shown.{shown, shown_exit, shown_trap}
use Rattle.symbolic.proofs.Follows.{Loads, Seen, runnable, follows, follows_stop, never_faults}
use Rattle.codegen.specs.Image.{instructions_of, image}
use Rattle.codegen.specs.Owed.{Owed}
use Rattle.codegen.specs.Costs.{K, K0, C, C0, costs}
use Rattle.codegen.proofs.Simulation.{seen, source, after, Agree, forward, matched, enough, at_least, same_then, no_fault}
use Rattle.codegen.proofs.Encodes.{fine}
use Rattle.symbolic.specs.Fine.{most_instructions}

word_of : (ws : List ℕ) → Below (2 ^ 32) ws → (i : ℕ) → get_or ws i 0 < 2 ^ 32
word_of [] w i = omega arith
word_of (x ∷ ws) w zero = w.0
word_of (x ∷ ws) w (suc i) = word_of ws w.1 i

-- an image is bytes
bytes_below : (ws : List ℕ) → Below 256 (bytes_of_words ws)
unfolding bytes_of_words bytes_of
bytes_below [] = tt
bytes_below (w ∷ ws) = (omega arith, (omega arith, (omega arith, (omega arith, bytes_below ws))))

-- a stop of the source, as it is seen of the machine
stop_seen : (o : Outcome) (s : Status) → stop_for o ≡ some s → seen o ≡ s
stop_seen finished s e = cc
stop_seen (stopped (trapped t)) s e = cc
stop_seen (stopped out_of_fuel) s e = cc

stop_ends : (o : Outcome) (s : Status) → stop_for o ≡ some s → o ≡ stopped out_of_fuel → ⊥
stop_ends o s e k = let z : ◌≡◌ {A = Option Status} none (some s) = sym (ap stop_for k) ∙ e in differ z
  where
    differ : ◌≡◌ {A = Option Status} none (some s) → ⊥
    differ z = let y : ◌≡◌ {A = ℕ} 0 1 = cc in omega arith

stop_stopped : (o : Outcome) (s : Status) → stop_for o ≡ some s → Stopped s
stop_stopped finished s e = subst Stopped (stop_seen finished s e) tt
stop_stopped (stopped (trapped t)) s e = subst Stopped (stop_seen (stopped (trapped t)) s e) tt
stop_stopped (stopped out_of_fuel) s e = absurd (stop_ends (stopped out_of_fuel) s e refl)

-- and back: what the machine shows at a stop is the source's outcome
seen_exit : (o : Outcome) → seen o ≡ Exit → stop_for o ≡ some Exit
seen_exit finished e = refl
seen_exit (stopped (trapped t)) e = cc
seen_exit (stopped out_of_fuel) e = cc

seen_trap : (o : Outcome) (t : ℕ) → seen o ≡ Trap t → stop_for o ≡ some (Trap t)
seen_trap finished t e = cc
seen_trap (stopped (trapped x)) t e = ap (λ (s : Status). some s) e
seen_trap (stopped out_of_fuel) t e = cc

module _ (p : Program) (O : Owed p) (fits : length (instructions_of p) ≤ most_instructions) where
  module _ (arrays : List ℕ) (room : ℕ) (I : Input p arrays) where
    loads : Loads (instructions_of p) arrays
    loads = record { short = fits; fine = fine p O fits; few = (let a = I.one_each in let b = O.few_elements in omega (arith, a, b)); words = word_of arrays I.words }

    abbrev src : ℕ → Run
    src n = source p O arrays room I.one_each n

    abbrev aft : ℕ → State
    aft m = after p O arrays room I.one_each m

    abbrev Agrees : Run → State → Type 0
    Agrees r σ = Agree p O arrays room I.one_each r σ

    is_source : (n : ℕ) → run_of p arrays n room ≡ src n
    unfolding run_of
    is_source n = refl

    -- the arrays of a state that agrees
    block_is : {status : Status} {steps : ℕ} {m : M.Run} (r : Run) (σ : State) → Seen room (instructions_of p) arrays loads status σ steps m → Agrees r σ
        → arrays_of (4 * p.elements) m.machine ≡ r.world.arrays
    block_is {m = m} r σ s a =
        ap (λ (n : ℕ). arrays_of (4 * n) m.machine) (sym I.one_each)
        ∙ s.blocks r.world.arrays (a.blocks.all ∙ sym I.one_each) (record { cell = λ i k. a.blocks.cell i (let e = a.blocks.all in omega (arith, e)) })

    -- A machine stopped as the source says.
    alike_stop : (fuel limit : ℕ) (stop : Status) → stop_for (src fuel).outcome ≡ some stop → (forward p O arrays room I.one_each fuel).m ≤ limit
        → Alike costs p (image_of (instructions_of p)) stop (src fuel) (run_image (image_of (instructions_of p)) (bytes_of_words arrays) room limit)
        × ((run_image (image_of (instructions_of p)) (bytes_of_words arrays) room limit).steps ≤ (forward p O arrays room I.one_each fuel).m)
    alike_stop fuel limit stop e h =
        let g = forward p O arrays room I.one_each fuel in
        let q : (aft g.m).status ≡ stop = g.agree.same ∙ stop_seen (src fuel).outcome stop e in
        let s = follows_stop room (instructions_of p) arrays loads g.m limit h (no_fault p O arrays room I.one_each g.m) (subst Stopped (sym q) (stop_stopped (src fuel).outcome stop e)) in (
          record { stops = s.stops ∙ q; log = s.log ∙ g.agree.log; arrays = block_is (src fuel) (aft g.m) s g.agree },
          (let k = count_most room (instructions_of p) g.m (initial arrays) in let c = s.counts in omega (arith, k, c)),
        )

    ends_at : (fuel : ℕ) (stop : Status) → stop_for (src fuel).outcome ≡ some stop → (limit : ℕ) → K * (fuel - (src fuel).world.fuel) + K0 ≤ limit
        → Alike costs p (image_of (instructions_of p)) stop (src fuel) (run_image (image_of (instructions_of p)) (bytes_of_words arrays) room limit)
        × ((run_image (image_of (instructions_of p)) (bytes_of_words arrays) room limit).steps ≤ K * (fuel - (src fuel).world.fuel) + K0)
    ends_at fuel stop e limit h =
        let f = (forward p O arrays room I.one_each fuel).fast in
        let t = alike_stop fuel limit stop e (omega (arith, f)) in
        (t.0, (let k = t.1 in omega (arith, f, k)))

    goes_on_at : (fuel : ℕ) → (src fuel).outcome ≡ stopped out_of_fuel
        → (limit : ℕ) × (fuel ≤ C * limit + C0) × (limit ≤ K * fuel + K0)
        × Alike costs p (image_of (instructions_of p)) Limit (src fuel) (run_image (image_of (instructions_of p)) (bytes_of_words arrays) room limit)
    goes_on_at fuel e =
        let g = forward p O arrays room I.one_each fuel in
        let d = g.dry e in
        let s = follows room (instructions_of p) arrays loads g.m (no_fault p O arrays room I.one_each g.m) in (
          g.m,
          (let a = g.slow in omega (arith, a, d)),
          (let a = g.fast in omega (arith, a)),
          record { stops = s.stops ∙ ap shown (g.agree.same ∙ ap seen e); log = s.log ∙ g.agree.log; arrays = block_is (src fuel) (aft g.m) s g.agree },
        )

    -- what the machine shows at a stop, the source shows with fuel enough
    back_at : (limit : ℕ) (stop : Status) → (aft limit).status ≡ stop → Stopped stop → ((o : Outcome) → seen o ≡ stop → stop_for o ≡ some stop)
        → (fuel : ℕ) × (fuel ≤ C * limit + C0) × (stop_for (src fuel).outcome ≡ some stop)
        × Alike costs p (image_of (instructions_of p)) stop (src fuel) (run_image (image_of (instructions_of p)) (bytes_of_words arrays) room limit)
    back_at limit stop e hs hb =
        let n = enough p O arrays room I.one_each limit in
        let g = matched p O arrays room I.one_each n in
        let t = same_then p O arrays room I.one_each limit (subst Stopped (sym e) hs) in
        let o = hb (src n).outcome (sym g.agree.same ∙ ap (λ (σ : State). σ.status) t ∙ e) in
        let s = follows_stop room (instructions_of p) arrays loads limit limit (omega arith) (no_fault p O arrays room I.one_each limit) (subst Stopped (sym e) hs) in
        let a : Agrees (src n) (aft limit) = subst (λ (σ : State). Agrees (src n) σ) t g.agree in
        (n, omega arith, o, record { stops = s.stops ∙ e; log = s.log ∙ a.log; arrays = block_is (src n) (aft limit) s a })

    ends_back_at : (limit : ℕ) (stop : Status) → (stop ≡ Exit) ⊎ ((t : ℕ) × (stop ≡ Trap t))
        → (run_image (image_of (instructions_of p)) (bytes_of_words arrays) room limit).machine.status ≡ stop
        → (fuel : ℕ) × (fuel ≤ C * limit + C0) × (stop_for (src fuel).outcome ≡ some stop)
        × Alike costs p (image_of (instructions_of p)) stop (src fuel) (run_image (image_of (instructions_of p)) (bytes_of_words arrays) room limit)
    ends_back_at limit stop k e =
        let s = follows room (instructions_of p) arrays loads limit (no_fault p O arrays room I.one_each limit) in
        ⊎_elim (λ (x : stop ≡ Exit).
        back_at limit stop (shown_exit (aft limit).status (sym s.stops ∙ e ∙ x) ∙ sym x) (subst Stopped (sym x) tt)
        (λ o y. seen_exit o (y ∙ x) ∙ ap (λ (z : Status). some z) (sym x)))
        (λ (x : (t : ℕ) × (stop ≡ Trap t)).
        back_at limit stop (shown_trap (aft limit).status x.0 (sym s.stops ∙ e ∙ x.1) ∙ sym x.1) (subst Stopped (sym x.1) tt)
        (λ o y. seen_trap o x.0 (y ∙ x.1) ∙ ap (λ (z : Status). some z) (sym x.1))) k

    forever_there : (fuel : ℕ) → (limit : ℕ) × (limit ≤ K * fuel + K0) × Begins (src fuel).world.log (run_image (image_of (instructions_of p)) (bytes_of_words arrays) room limit).machine.log
    forever_there fuel =
        let g = forward p O arrays room I.one_each fuel in
        let s = follows room (instructions_of p) arrays loads g.m (no_fault p O arrays room I.one_each g.m) in
        (g.m, (let f = g.fast in omega (arith, f)), ([], append-nil _ ∙ sym (s.log ∙ g.agree.log)))

    forever_back : (limit : ℕ) → (fuel : ℕ) × (fuel ≤ C * limit + C0) × Begins (run_image (image_of (instructions_of p)) (bytes_of_words arrays) room limit).machine.log (src fuel).world.log
    forever_back limit =
        let n = enough p O arrays room I.one_each limit in
        let g = matched p O arrays room I.one_each n in
        let s = follows room (instructions_of p) arrays loads limit (no_fault p O arrays room I.one_each limit) in
        let k = grows limit g.m (at_least p O arrays room I.one_each limit) in
        (n, omega arith, (k.0, ap (λ (l : List ℕ). l ++ k.0) s.log ∙ k.1 ∙ g.agree.log))
      where
        grows : (m n : ℕ) → m ≤ n → Begins (aft m).log (aft n).log
        grows m n h =
            let e : n ≡ m + (n - m) = omega arith in
            let k = log_grows room (instructions_of p) (n - m) (aft m) in
            (k.0, k.1 ∙ ap (λ (σ : State). σ.log) (sym (run_add room (instructions_of p) m (n - m) (initial arrays))) ∙ ap (λ (i : ℕ). (aft i).log) (sym e))

  image_bytes : Below 256 (image_of (instructions_of p))
  unfolding image_of
  image_bytes = bytes_below (words_from 0 (instructions_of p))

  -- Claim 3.
  pub keeps : Keeps costs p (image p)
  unfolding image run_of
  keeps = record {
    bytes = image_bytes;
    runnable = runnable (instructions_of p) fits;
    ends = λ arrays fuel room I stop e limit h. ends_at arrays room I fuel stop e limit h;
    goes_on = λ arrays fuel room I e. goes_on_at arrays room I fuel e;
    ends_back = λ arrays limit room I stop k e. ends_back_at arrays room I limit stop k e;
    never_faults = λ arrays limit room I n e. never_faults room (instructions_of p) arrays (loads arrays room I) limit (no_fault p O arrays room I.one_each limit) n e;
    same_forever = λ arrays room I. (λ fuel. forever_there arrays room I fuel, λ limit. forever_back arrays room I limit);
  }
