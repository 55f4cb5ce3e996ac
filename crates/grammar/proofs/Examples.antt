-- Document 01 §6's texts of answer 1 are unreadable, and with what is wrong mended each has a tree; so have things open 32 deep, and no deeper. The parser computes it.
use mathlib.Core.Path.{◌≡◌, refl}
use mathlib.Core.Bool.{Bool, true, false}
use mathlib.Core.List.{List, [], ◌++◌}
use Prim.Native.Nat.{ℕ, zero, suc}
use Prim.Native.String.{String}
use native.Mathlib.Omega.{arith}
use Rattle.language.specs.Tree.{Item}
use Rattle.language.specs.Text.{Unreadable}
use Rattle.language.specs.Tokens.{Answer, Answer.good, Answer.refused, bytes, tokens_of, read_from, also, and_then, token_at, as_sign, number_at, name_at, or_name, find, span, decimal, unpadded, begins, same, starts, all, in_name, is_digit, is_letter, in_comment, is_blank, allowed, signs, words}
use Rattle.language.specs.Grammar.{operators, nth, Parses}
use Rattle.tokens.specs.Kinds.{sign_kind, word_kind, kind_of}
use Rattle.grammar.specs.Parse.{kind_in, place_in, name_of, name_in, number_of, number_in, level_in, means_in, level_of, means_of, most, grow, rest_of, exprs_of, args_of, arguments_of, enclosed_of, named_of, unary_of, primary_of, levelled, expr_of, index_of, call_of, ended_of, type_of, typed_of, declare_of, assign_of, store_of, run_of, change_of, return_of, emit_of, while_of, else_of, if_of, stmt_of, stmts_of, block_of, param_of, param_list_of, params_of, result_of, size_of, array_of, body_of, function_of, item_of, items_of, program_of, fault_at, answer_of, tree_in, tree_of}
use Rattle.grammar.proofs.Main.{tree_sound, refused_none}

pub record HasTree (text : List ℕ) : Type 0 where
  pub items : List Item
  pub parses : Parses text items

abbrev is_good : Answer (List Item) → Bool
is_good (good items) = true
is_good (refused p) = false

-- whether the parser gives a tree, computed
unfoldable gives : List ℕ → Bool
unfolding tokens_of read_from also and_then token_at as_sign number_at name_at or_name find span decimal unpadded begins same starts all in_name is_digit is_letter in_comment is_blank allowed signs words bytes operators nth sign_kind word_kind kind_of kind_in place_in name_of name_in number_of number_in level_in means_in level_of means_of most grow rest_of exprs_of args_of arguments_of enclosed_of named_of unary_of primary_of levelled expr_of index_of call_of ended_of type_of typed_of declare_of assign_of store_of run_of change_of return_of emit_of while_of else_of if_of stmt_of stmts_of block_of param_of param_list_of params_of result_of size_of array_of body_of function_of item_of items_of program_of fault_at answer_of tree_in tree_of
gives text = is_good (tree_of text)

tree_of_lem : (text : List ℕ) (a : Answer (List Item)) → tree_of text ≡ a → is_good a ≡ true → HasTree text
tree_of_lem text (good items) e h = record { items = items; parses = tree_sound text items e }
tree_of_lem text (refused p) e h = absurd (let z : ◌≡◌ {A = ℕ} 0 1 = cc in omega arith)

none_of : (text : List ℕ) (a : Answer (List Item)) → tree_of text ≡ a → is_good a ≡ false → Unreadable text
none_of text (good items) e h = absurd (let z : ◌≡◌ {A = ℕ} 0 1 = cc in omega arith)
none_of text (refused p) e h = refused_none text p e

fine : {text : List ℕ} → gives text ≡ true → HasTree text
unfolding gives
fine {text} h = tree_of_lem text (tree_of text) refl h

wrong : {text : List ℕ} → gives text ≡ false → Unreadable text
unfolding gives
wrong {text} h = none_of text (tree_of text) refl h

-- a text with these statements in main
abbrev within : List ℕ → List ℕ
within body = bytes "fn main() { " ++ (body ++ bytes " }")

abbrev main : String → List ℕ
main body = within (bytes body)

unfoldable pub times : ℕ → List ℕ → List ℕ
times zero piece = []
times (suc n) piece = piece ++ times n piece

-- n of the things that these two open and close, one in another
abbrev nested : ℕ → String → String → String → String → String → List ℕ
nested n before opened inside closed after = within (bytes before ++ (times n (bytes opened) ++ (bytes inside ++ (times n (bytes closed) ++ bytes after))))

pub record Vectors : Type 0 where
  -- "`emit 2147483648;`, `emit 01;`, `emit 12a;`, a 33-character name, `if 1 < 2 < 3 { }`, 32 nested parentheses in main (31 are fine), `fn Main() { }`"
  pub too_large : Unreadable (main "emit 2147483648;")
  pub largest : HasTree (main "emit 2147483647;")
  pub padded : Unreadable (main "emit 01;")
  pub unpadded : HasTree (main "emit 1;")
  pub letter_after_number : Unreadable (main "emit 12a;")
  pub name_of_33 : Unreadable (main "emit a23456789_123456789_123456789_123;")
  pub name_of_32 : HasTree (main "emit a23456789_123456789_123456789_12;")
  pub compared_twice : Unreadable (main "if 1 < 2 < 3 { }")
  pub compared_once : HasTree (main "if 1 < 2 { }")
  pub parentheses_32 : Unreadable (nested 32 "emit " "(" "1" ")" ";")
  pub parentheses_31 : HasTree (nested 31 "emit " "(" "1" ")" ";")
  pub upper_case : Unreadable (bytes "fn Main() { }")
  pub lower_case : HasTree (bytes "fn main() { }")
  -- the other things of which 32 may be open, main's block among them
  pub blocks_32 : Unreadable (nested 32 "" "while a {" "" "}" "")
  pub blocks_31 : HasTree (nested 31 "" "while a {" "" "}" "")
  pub arguments_32 : Unreadable (nested 32 "emit " "f(" "" ")" ";")
  pub arguments_31 : HasTree (nested 31 "emit " "f(" "" ")" ";")
  pub run_32 : Unreadable (nested 32 "" "f(" "" ")" ";")
  pub run_31 : HasTree (nested 31 "" "f(" "" ")" ";")
  pub indices_32 : Unreadable (nested 32 "emit " "a[" "1" "]" ";")
  pub indices_31 : HasTree (nested 31 "emit " "a[" "1" "]" ";")
  pub store_32 : Unreadable (nested 32 "" "a[" "1" "]" " = 1;")
  pub store_31 : HasTree (nested 31 "" "a[" "1" "]" " = 1;")
  pub unary_32 : Unreadable (nested 32 "emit " "-" "1" "" ";")
  pub unary_31 : HasTree (nested 31 "emit " "-" "1" "" ";")

pub vectors : Vectors
unfolding gives times
vectors =
    record { too_large = wrong refl; largest = fine refl; padded = wrong refl; unpadded = fine refl; letter_after_number = wrong refl; name_of_33 = wrong refl; name_of_32 = fine refl; compared_twice = wrong refl; compared_once = fine refl; parentheses_32 = wrong refl; parentheses_31 = fine refl; upper_case = wrong refl; lower_case = fine refl; blocks_32 = wrong refl; blocks_31 = fine refl; arguments_32 = wrong refl; arguments_31 = fine refl; run_32 = wrong refl; run_31 = fine refl; indices_32 = wrong refl; indices_31 = fine refl; store_32 = wrong refl; store_31 = fine refl; unary_32 = wrong refl; unary_31 = fine refl }
