-- Memory as a map of words is memory of bytes from 0x100000 on, with the code's words below, and stays so after a store.
use Prim.Native.Nat.{ℕ, ◌+◌, ◌%◌, ◌^◌, ◌≤◌, ◌<◌}
use mathlib.Core.Path.{◌≡◌, refl, ap, ◌∙◌}
use mathlib.Core.Bool.{Bool, true, false}
use mathlib.Core.List.{List}
use native.Mathlib.Omega.{arith}
use lib.Dec.{eqb}
use lib.ListN.{length, get_or}
use borrow.Author.Tests.{eqb-true, eqb-false, le-leb, eq-eqb}
use Rattle.word.specs.Choice.{pick}
use Rattle.processor.specs.declared.Width.TheVariants.{Word}
use Rattle.processor.specs.Instructions.{encode_of}
use Rattle.processor.specs.Machine.{word_at, memory_bytes, data_start}
use Rattle.processor.specs.Execute.{reaches, write_at}
use Rattle.processor.proofs.Kept.{reached}
use Rattle.processor.proofs.Memory.{write_length}
use Rattle.symbolic.specs.Symbolic.{Instruction, bad, updated, pos}
use Rattle.symbolic.specs.Real.{real}
use Rattle.symbolic.specs.Fine.{most_instructions}
use Rattle.symbolic.proofs.Words.{word_other, word_same}

-- Where words are loaded and stored.

pub in_reach : (a : ℕ) → a % 4 ≡ 0 → a + 4 ≤ memory_bytes → data_start ≤ a → reaches Word a ≡ true
unfolding reaches
in_reach a e h k = rw (eq-eqb (a % 4) 0 e, le-leb (a + 4) memory_bytes h, le-leb data_start a k) refl

pub record SameMemory (code : List Instruction) (f : ℕ → ℕ) (m : List ℕ) : Type 0 where
  pub reads : (a : ℕ) → reaches Word a ≡ true → word_at m a ≡ f a
  pub words : (a : ℕ) → reaches Word a ≡ true → f a < 2 ^ 32
  pub size : length m ≡ memory_bytes
  pub code_in : (k : ℕ) → k < length code → word_at m (pos k) ≡ encode_of (real k (get_or code k bad))

pub stored : {code : List Instruction} {f : ℕ → ℕ} {m : List ℕ} (a v : ℕ) → length code ≤ most_instructions → SameMemory code f m → reaches Word a ≡ true → v < 2 ^ 32
    → SameMemory code (updated f a v) (write_at Word m a v)
stored {code} {f} {m} a v short s ha hv =
    let A = reached Word a ha in
    record {
      reads = λ b hb. reads b hb (eqb b a) refl;
      words = λ b hb. words b hb (eqb b a);
      size = write_length Word m a v ∙ s.size;
      code_in = λ k hk. word_other m a v (pos k) A.aligned (omega arith) (λ e. omega arith) ∙ s.code_in k hk;
    }
  where
    reads : (b : ℕ) → reaches Word b ≡ true → (t : Bool) → eqb b a ≡ t → word_at (write_at Word m a v) b ≡ pick t v (f b)
    reads b hb true e =
        let A = reached Word a ha in
        let l = s.size in
        ap (λ (w : ℕ). word_at (write_at Word m a v) w) (eqb-true _ _ e) ∙ word_same m a v (omega arith) hv
    reads b hb false e = word_other m a v b (reached Word a ha).aligned (reached Word b hb).aligned (eqb-false _ _ e) ∙ s.reads b hb

    words : (b : ℕ) → reaches Word b ≡ true → (t : Bool) → pick t v (f b) < 2 ^ 32
    words b hb true = hv
    words b hb false = s.words b hb
