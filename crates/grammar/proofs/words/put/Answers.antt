-- A part of the buffer is overwritten, which is a run of stores.
use mathlib.Core.Path.{◌≡◌, sym, ◌∙◌}
use mathlib.Core.List.{List, append_assoc}
use Prim.Native.Nat.{ℕ, ◌+◌, ◌≤◌}
use lib.ListN.{length, take, drop}
use native.Mathlib.Omega.{arith}
use Rattle.std.proofs.Common.{rules, drop-drop}
use borrow.Rule.Slice.PartMut.{put_mid}
use Rattle.std.proofs.lemmas.List.Edits.{sets, sets-eq}
use Rattle.grammar.proofs.words.put.Goals as goal

mid : (xs ws vs : List ℕ) (at n : ℕ) → vs ≡ ws → n ≡ length ws → at + length ws ≤ length xs → put_mid at n xs vs ≡ sets xs at ws
mid xs ws vs at n p q h = rw (p, q, drop-drop) (sym (append_assoc (take at xs) ws (drop (at + length ws) xs)) ∙ sym (sets-eq ws xs at h))

pub returns-clause-written : goal.returns-clause-written
returns-clause-written c = mid _ _ _ _ _ (search rules) (omega arith) c.requires
