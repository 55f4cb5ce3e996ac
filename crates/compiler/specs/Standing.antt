-- Where statements and blocks stand among the words of a flat program: a statement from the position of its header on, a block as so many statements.
use Rattle.std.specs.Prelude.{ℕ, suc, ◌+◌, ◌*◌, ◌≤◌, ◌≡◌, List}
use Rattle.language.specs.Core.{Array, Expr, Args, Stmt, Block}
use Rattle.language.specs.Core as C
use Rattle.flat.specs.Words.{word}
use Rattle.compiler.specs.Lies.{Lies}

-- no program has more words
abbrev pub most_words : ℕ
most_words = 1073741824

-- of the statement at p: where its first and its second expression end, and where the next statement begins
abbrev pub first_end : List ℕ → ℕ → ℕ
first_end ws p = p + 8 + 4 * word ws (p + 3)

abbrev pub second_end : List ℕ → ℕ → ℕ
second_end ws p = first_end ws p + 4 * word ws (p + 4)

abbrev pub behind : List ℕ → ℕ → ℕ
behind ws p = p + 8 + word ws (p + 7)

-- where the second block begins
abbrev pub second_block : List ℕ → ℕ → ℕ
second_block ws p = first_end ws p + word ws (p + 1)

mutual
  pub data Standing (ws : List ℕ) : Stmt → ℕ → Type 0 where
    put : {x p : ℕ} {e : Expr} → word ws p ≡ 0 → word ws (p + 1) ≡ x → first_end ws p ≤ most_words → Lies ws e (p + 8) (first_end ws p) → Standing ws (C.put x e) p
    store : {a : Array} {i e : Expr} {p : ℕ} → word ws p ≡ 1 → word ws (p + 1) ≡ a.offset → word ws (p + 2) ≡ a.size → second_end ws p ≤ most_words →
        Lies ws i (p + 8) (first_end ws p) → Lies ws e (first_end ws p) (second_end ws p) → Standing ws (C.store a i e) p
    choose : {e : Expr} {a b : Block} {p : ℕ} → word ws p ≡ 2 → second_block ws p ≤ most_words → Lies ws e (p + 8) (first_end ws p) → Stand ws a (first_end ws p) (word ws (p + 5)) →
        Stand ws b (second_block ws p) (word ws (p + 6)) → Standing ws (C.choose e a b) p
    while : {e : Expr} {b : Block} {p : ℕ} → word ws p ≡ 3 → first_end ws p ≤ most_words → Lies ws e (p + 8) (first_end ws p) → Stand ws b (first_end ws p) (word ws (p + 5)) →
        Standing ws (C.while e b) p
    leave : {p : ℕ} → word ws p ≡ 4 → Standing ws C.leave p
    give : {e : Expr} {p : ℕ} → word ws p ≡ 5 → first_end ws p ≤ most_words → Lies ws e (p + 8) (first_end ws p) → Standing ws (C.give e) p
    emit : {e : Expr} {p : ℕ} → word ws p ≡ 6 → first_end ws p ≤ most_words → Lies ws e (p + 8) (first_end ws p) → Standing ws (C.emit e) p
    run : {f : ℕ} {xs : Args} {p : ℕ} → word ws p ≡ 7 → first_end ws p ≤ most_words → Lies ws (C.call f xs) (p + 8) (first_end ws p) → Standing ws (C.run f xs) p

  -- a block of n statements
  pub data Stand (ws : List ℕ) : Block → ℕ → ℕ → Type 0 where
    end : {p n : ℕ} → n ≡ 0 → Stand ws C.end p n
    then : {s : Stmt} {b : Block} {p m n : ℕ} → n ≡ suc m → p ≤ most_words → Standing ws s p → Stand ws b (behind ws p) m → Stand ws (C.then s b) p n
