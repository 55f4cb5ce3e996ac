-- The rooms that are lent suffice for each part.
use mathlib.Core.Path.{◌≡◌, subst}
use mathlib.Core.List.{List}
use Prim.Native.Nat.{ℕ, ◌+◌, ◌*◌, ◌≤◌, ◌<◌}
use native.Mathlib.Omega.{arith}
use lib.ListN.{length}
use Rattle.language.specs.Rules.{most_functions, most_parameters}
use Rattle.grammar.specs.Flat.{tree_room}
use Rattle.flat.specs.Words.{entry}
use Rattle.rules.specs.Statements.{BlockRoom, CountCase}
use Rattle.std.specs.Prelude.{Result, Ok}
use Rattle.rules.specs.declared.Broken.{Broken}
use Rattle.declarations.specs.declared.Tally.{Tally}
use Rattle.declarations.specs.Post.{Rooms, Placed, Lent, Few, FewIn}

pub rooms_on : {tree : List ℕ} {locals types starts core locals' types' starts' core' : List ℕ} → Rooms tree locals types starts core →
    length locals' ≡ length locals → length types' ≡ length types → length starts' ≡ length starts → length core' ≡ length core → Rooms tree locals' types' starts' core'
rooms_on r a b c d = record {
  words = r.words;
  for_locals = omega (arith, r.for_locals, a);
  for_types = omega (arith, r.for_types, b);
  for_starts = omega (arith, r.for_starts, c);
  for_core = omega (arith, r.for_core, d);
}

pub block_room : {tree : List ℕ} {n p q e : ℕ} {locals types starts core : List ℕ} → Rooms tree locals types starts core → Placed p q e → n ≤ most_parameters → BlockRoom tree locals n n types starts core (p + 8 + 3 * n) q
block_room r s l = record {
  room = record {
    locals = omega (arith, l);
    words = omega (arith, r.words);
    place = omega (arith, s.item, l);
    for_types = omega (arith, r.words, r.for_types);
    for_starts = omega (arith, r.words, r.for_starts);
    for_core = omega (arith, r.words, r.for_core, s.body);
    core_place = omega (arith, s.item, s.body);
  };
  for_locals = r.for_locals;
  visible = omega arith;
  few = omega (arith, l);
  core_far = omega (arith, r.words, s.body);
}

pub counted_more : {count c : ℕ} {r : Result ℕ Broken} → CountCase count r → r ≡ Ok c → count ≤ c
counted_more {count} h e = (subst (CountCase count) e h).0

pub placed_at : {words p q : ℕ} (total f : ℕ) → p < words → words ≤ tree_room → total ≤ most_functions → q ≤ p + entry total → 8 * f ≤ p → Placed p q (entry f)
placed_at total f l u v w x = record { item = omega (arith, l, u); body = omega (arith, v, w); entry = omega (arith, x) }

pub rooms_from : {tree : List ℕ} {words : ℕ} {globals locals types starts core : List ℕ} → Lent tree words globals locals types starts core → Rooms tree locals types starts core
rooms_from l = record {
  words = l.whole_tree;
  for_locals = l.for_locals;
  for_types = l.for_types;
  for_starts = l.for_starts;
  for_core = l.for_core;
}

pub few_in : {t : Tally} {r : Result Tally Broken} → FewIn r → r ≡ Ok t → Few t.arrays t.elements t.functions
few_in h e = subst FewIn e h
