-- A text's verdict, which the checker computes, and what follows from it.
use mathlib.Core.Bool.{Bool, true, false}
use mathlib.Core.List.{List, [], ◌∷◌}
use mathlib.Core.Option.{some}
use mathlib.Core.Path.{◌≡◌, refl, ap, subst}
use Prim.Native.Nat.{ℕ, ◌^◌}
use borrow.Author.Tests.{eqb-true, ltb-true, leb-true}
use lib.Dec.{ltb, leb, eqb}
use lib.ListN.{length}
use Rattle.word.specs.Choice.{pick, both}
use Rattle.word.specs.Word as W
use Rattle.language.specs.Tree.{Place, Item}
use Rattle.language.specs.Tokens.{Answer, Answer.good, Answer.refused}
use Rattle.language.specs.Tokens as T
use Rattle.language.specs.Grammar.{Parses}
use Rattle.language.specs.Grammar as G
use Rattle.language.specs.Core.{Program}
use Rattle.language.specs.Rules.{Ruled, Ruled.keeps, Ruled.breaks, elaborate}
use Rattle.language.specs.Rules as R
use Rattle.language.specs.Text.{Accepted, Unreadable, Broken}
use Rattle.language.specs.Meaning.{trapped, out_of_fuel, Outcome, finished, stopped, run_of}
use Rattle.language.specs.Meaning as M
use Rattle.tokens.specs.Kinds as K
use Rattle.tokens.proofs.Lists.{both_true}
use Rattle.grammar.specs.Parse.{tree_of}
use Rattle.grammar.specs.Parse as P
use Rattle.grammar.proofs.Main.{tree_sound, refused_none}
use Rattle.processor.specs.declared.Status.{Status}
use Rattle.processor.specs.declared.Status.TheVariants.{Exit, Trap}
use Rattle.claims.specs.Keeps.{stop_for, Below, Input, machine, Alike, Keeps}
use Rattle.codegen.specs.Image.{image}
use Rattle.codegen.specs.Costs.{costs}
use Rattle.elaboration.proofs.Kept.{surely_short, kept_short}
use Rattle.vectors.specs.Does.{Row, row_of, Shows, Stops, Panel, Does}

pub data Verdict : Type 0 where
  unread : Verdict
  broke : Place → Verdict
  ran : Row → Verdict
  -- the text is too long for the claim, or the arrays aren't the program's
  unfit : Verdict

-- each is a word
abbrev words : List ℕ → Bool
words [] = true
words (w ∷ ws) = both (ltb w (2 ^ 32)) (words ws)

words_below : (ws : List ℕ) → words ws ≡ true → Below (2 ^ 32) ws
words_below [] h = tt
words_below (w ∷ ws) h = let b = both_true (ltb w (2 ^ 32)) (words ws) h in (ltb-true w (2 ^ 32) b.0, words_below ws b.1)

module _ (text arrays : List ℕ) (fuel room : ℕ) where
  abbrev fit : Program → Bool
  fit p = both (leb (length text) surely_short) (both (eqb (length arrays) p.elements) (words arrays))

  abbrev row_for : Program → Row
  row_for p = row_of fuel (run_of p arrays fuel room)

  abbrev of_program : Ruled Program → Verdict
  of_program (keeps p) = pick (fit p) (ran (row_for p)) unfit
  of_program (breaks at) = broke at

  abbrev of_tree : Answer (List Item) → Verdict
  of_tree (good items) = of_program (elaborate items (length text))
  of_tree (refused p) = unread

  unfoldable pub judge : Verdict
  unfolding T.tokens_of T.read_from T.also T.and_then T.token_at T.as_sign T.number_at T.name_at T.or_name T.find T.span T.decimal T.unpadded T.begins T.same T.starts T.all T.in_name T.is_digit T.is_letter T.in_comment T.is_blank T.allowed T.signs T.words T.bytes G.operators G.nth K.sign_kind K.word_kind K.kind_of P.kind_in P.place_in P.name_of P.name_in P.number_of P.number_in P.level_in P.means_in P.level_of P.means_of P.most P.grow P.rest_of P.exprs_of P.args_of P.arguments_of P.enclosed_of P.named_of P.unary_of P.primary_of P.levelled P.expr_of P.index_of P.call_of P.ended_of P.type_of P.typed_of P.declare_of P.assign_of P.store_of P.run_of P.change_of P.return_of P.emit_of P.while_of P.else_of P.if_of P.stmt_of P.stmts_of P.block_of P.param_of P.param_list_of P.params_of P.result_of P.size_of P.array_of P.body_of P.function_of P.item_of P.items_of P.program_of P.fault_at P.answer_of P.tree_in P.tree_of R.◌>>=◌ R.need R.found R.global_of R.local_of R.array_of R.function_of R.declare R.declare_all R.main_of R.want R.changed R.joined R.combined R.indexed R.fit R.called R.known R.expr R.exprs R.fresh R.leaves R.gives R.stmt R.block R.parameters R.is_return R.ends_in_return R.function_from R.functions_from R.elaborate M.run_of M.bind M.begin M.apply M.operate M.read M.write M.fetch M.assign M.rounds M.append M.eval M.evals M.exec M.block M.back M.call_at W.add_w W.sub_w W.mul_w W.neg_w W.negative W.magnitude W.lt_s W.quot_s W.rem_s W.bit_of
  judge = of_tree (tree_of text)

  abbrev Means : Verdict → Type 0
  Means unread = Unreadable text
  Means (broke at) = Broken text at
  Means (ran row) = Does arrays fuel room row text
  Means unfit = Unit {0}

  -- the panel's run is the row's, by claim 3
  module _ (p : Program) (k : Keeps costs p (image p)) (i : Input p arrays) where
    alike : {stop : Status} {limit : ℕ} → Alike costs p (image p) stop (run_of p arrays fuel room) (machine costs p (image p) arrays limit room) → Shows p arrays fuel room (row_for p) stop limit
    alike a = record { stops = a.stops; log = a.log; arrays = a.arrays }

    stops : (stop : Status) → stop_for (row_for p).outcome ≡ some stop → Stops p arrays fuel room (row_for p) stop
    stops stop e limit h = let a = k.ends arrays fuel room i stop e limit h in (alike a.0, a.1)

    shows : (o : Outcome) → (row_for p).outcome ≡ o → Panel p arrays fuel room (row_for p) o
    shows finished e = stops Exit (ap stop_for e)
    shows (stopped (trapped t)) e = stops (Trap t) (ap stop_for e)
    shows (stopped out_of_fuel) e = let a = k.goes_on arrays fuel room i e in (a.0, a.1, a.2, alike a.3)

  fits : (p : Program) → Accepted text p → (b : Bool) → fit p ≡ b → Means (pick b (ran (row_for p)) unfit)
  fits p a false h = tt
  fits p a true h =
      let s = both_true (leb (length text) surely_short) (both (eqb (length arrays) p.elements) (words arrays)) h in
      let i = both_true (eqb (length arrays) p.elements) (words arrays) s.1 in
      let k : Keeps costs p (image p) = kept_short text p a (leb-true _ _ s.0) in
      record { program = p; accepted = a; runs = refl; keeps = k; shows = shows p k (record { one_each = eqb-true _ _ i.0; words = words_below arrays i.1 }) (row_for p).outcome refl }

  program_means : (items : List Item) → Parses text items → (r : Ruled Program) → elaborate items (length text) ≡ r → Means (of_program r)
  program_means items h (keeps p) e = fits p (record { items = items; parses = h; ruled = e }) (fit p) refl
  program_means items h (breaks at) e = record { items = items; parses = h; ruled = e }

  tree_means : (a : Answer (List Item)) → tree_of text ≡ a → Means (of_tree a)
  tree_means (good items) e = program_means items (tree_sound text items e) (elaborate items (length text)) refl
  tree_means (refused p) e = refused_none text p e

  means : Means judge
  unfolding judge
  means = tree_means (tree_of text) refl

pub unreadable : {text : List ℕ} → judge text [] 0 0 ≡ unread → Unreadable text
unreadable {text} e = subst (Means text [] 0 0) e (means text [] 0 0)

pub broken : {text : List ℕ} {at : Place} → judge text [] 0 0 ≡ broke at → Broken text at
broken {text} e = subst (Means text [] 0 0) e (means text [] 0 0)

pub does : {text arrays : List ℕ} {fuel room : ℕ} {row : Row} → judge text arrays fuel room ≡ ran row → Does arrays fuel room row text
does {text} {arrays} {fuel} {room} e = subst (Means text arrays fuel room) e (means text arrays fuel room)
