-- With an image that claim 3 holds of, and a limit that is large enough, the answer of `agree` to what the two runs left is yes.
-- Large enough is K steps for each unit of fuel that the text's run used, and K0 besides. Where that run finishes or traps, the image's has ended by then
-- with the same log and arrays; where it is out of fuel, it used all, the image's had its log under a limit that is no greater, and a log only grows.
use mathlib.Core.Path.{◌≡◌, sym, ap, ◌∙◌}
use mathlib.Core.Bool.{true}
use mathlib.Core.List.{List, ◌++◌}
use Prim.Native.Nat.{ℕ, ◌+◌, ◌*◌, ◌≤◌}
use native.Mathlib.Omega.{arith}
use Rattle.word.specs.Bytes.{bytes_of_words}
use Rattle.language.specs.Core.{Program}
use Rattle.language.specs.Meaning.{stopped, out_of_fuel}
use Rattle.claims.specs.Keeps.{Costs, Begins, Input, source, used, machine, Keeps}
use Rattle.agreement.specs.Agreement.{agreed}
use Rattle.agreement.proofs.Decides.{decided}
use Rattle.agreement.proofs.Growing.{image_grows}
use Rattle.agreement.proofs.Spent.{spent}

module _ (costs : Costs) (p : Program) (image : List ℕ) (keeps : Keeps costs p image) (arrays : List ℕ) (fuel room limit : ℕ) (given : Input p arrays)
    (enough : costs.K * used costs p image arrays fuel room + costs.K0 ≤ limit) where
  begins : (source costs p image arrays fuel room).outcome ≡ stopped out_of_fuel →
      Begins (source costs p image arrays fuel room).world.log (machine costs p image arrays limit room).machine.log
  begins e = go (keeps.goes_on arrays fuel room given e).0 (keeps.goes_on arrays fuel room given e).2 (keeps.goes_on arrays fuel room given e).3.log
    where
      all : used costs p image arrays fuel room ≡ fuel
      all = omega (arith, spent p arrays fuel room e)

      go : (n : ℕ) → n ≤ costs.K * fuel + costs.K0 → (machine costs p image arrays n room).machine.log ≡ (source costs p image arrays fuel room).world.log →
          Begins (source costs p image arrays fuel room).world.log (machine costs p image arrays limit room).machine.log
      go n most same =
          let g = image_grows image (bytes_of_words arrays) room n limit (omega (arith, enough, most, ap (λ (u : ℕ). costs.K * u) all)) in
          (g.0, ap (λ (l : List ℕ). l ++ g.0) (sym same) ∙ g.1)

  pub always : agreed p (source costs p image arrays fuel room) (machine costs p image arrays limit room) ≡ true
  always = decided costs p image _ _ (record {
    ends = λ stop e. (keeps.ends arrays fuel room given stop e limit enough).0;
    goes_on = λ e. (keeps.never_faults arrays limit room given, begins e);
  })
