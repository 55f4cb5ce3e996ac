-- What the arguments of the program mean by the numbers of their places, and which argument is given for what, in a table that is there already.
use Rattle.std.specs.Prelude.{ℕ, suc, ◌+◌, Bool, false, not, List, [], ◌∷◌, Option, None, Some, is_some, eqb, ltb, get_or, set}
use Rattle.word.specs.Choice.{pick, both}
use Rattle.language.specs.Tokens.{bytes, same, starts, is}
use Rattle.console.specs.declared.arguments.Command.{Command}
use Rattle.console.specs.declared.arguments.Command.TheVariants.{Help, Check, Run, Build, Exec, Compare}
use Rattle.console.specs.declared.arguments.Setting.{Setting}
use Rattle.console.specs.declared.arguments.Setting.TheVariants.{Input, Block, Fuel, Limit, Room, Memory}
use Rattle.console.specs.declared.arguments.Problem.{Problem}
use Rattle.console.specs.declared.arguments.Problem.TheVariants.{NotTaken, Twice, NoValue, TooManyFiles, NoFile, InputAndBlock}
use Rattle.console.specs.declared.table.Seen.{Seen}
use Rattle.console.specs.Arguments as A

-- A place for each option, and for each of two files. A word that is no option's name is a file's, unless it begins with a dash: then it is unknown.
abbrev pub unknown : ℕ
unknown = 0

abbrev pub input : ℕ
input = 1

abbrev pub block : ℕ
block = 2

abbrev pub fuel : ℕ
fuel = 3

abbrev pub limit : ℕ
limit = 4

abbrev pub room : ℕ
room = 5

abbrev pub memory : ℕ
memory = 6

abbrev pub first : ℕ
first = 7

unfoldable pub place_of : List ℕ → ℕ
place_of w =
    pick
    (same w (bytes "--input"))
    input
    (pick
    (same w (bytes "--block"))
    block
    (pick
    (same w (bytes "--fuel"))
    fuel
    (pick
    (same w (bytes "--limit"))
    limit
    (pick (same w (bytes "--room")) room (pick (same w (bytes "--memory")) memory (pick (starts (is "-") w) unknown first))))))

-- the place of an option
unfoldable pub option_place : Setting → ℕ
option_place Input = input
option_place Block = block
option_place Fuel = fuel
option_place Limit = limit
option_place Room = room
option_place Memory = memory

-- the options that a run of a text takes, and a run of an image
unfoldable pub run_takes : ℕ → Bool
run_takes p = both (not (eqb p unknown)) (both (not (eqb p limit)) (not (eqb p memory)))

unfoldable pub exec_takes : ℕ → Bool
exec_takes p = both (not (eqb p unknown)) (not (eqb p fuel))

-- the options that a command takes, and how many files; no command takes any
unfoldable pub takes_of : Option Command → ℕ → Bool
takes_of None p = false
takes_of (Some Help) p = false
takes_of (Some Check) p = false
takes_of (Some Run) p = run_takes p
takes_of (Some Build) p = false
takes_of (Some Exec) p = exec_takes p
takes_of (Some Compare) p = run_takes p

unfoldable pub files_of : Option Command → ℕ
files_of None = 0
files_of (Some c) = A.files_of c

-- the number of what is wrong
unfoldable pub number_of : Option Problem → ℕ
number_of None = 0
number_of (Some NotTaken) = 1
number_of (Some Twice) = 2
number_of (Some NoValue) = 3
number_of (Some TooManyFiles) = 4
number_of (Some NoFile) = 5
number_of (Some InputAndBlock) = 6

-- The arguments so far: what was seen of them, and for each place the argument that was given for it, 0 for none.
pub record Line : Type 0 where
  pub seen : Seen
  pub given : List ℕ

abbrev pub line : Seen → List ℕ → Line
line s g = record { seen = s; given = g }

-- nothing yet
abbrev pub fresh : Seen
fresh = record { problem = None; at = 0; expected = unknown; files = 0 }

-- something wrong at argument i
abbrev pub wrong : Problem → ℕ → Seen → Seen
wrong p i s = record { problem = Some p; at = i; expected = s.expected; files = s.files }

-- whether a word of this place is an option's name
unfoldable pub is_option : ℕ → Bool
is_option p = both (not (eqb p unknown)) (ltb p first)

-- the value that was expected
unfoldable pub valued : ℕ → Line → Line
valued i l =
    line
    (record { problem = None; at = l.seen.at; expected = unknown; files = l.seen.files })
    (set l.given l.seen.expected i)

-- a file more
unfoldable pub filed : Option Command → ℕ → Line → Line
filed c i l =
    pick
    (ltb l.seen.files (files_of c))
    (line
    (record { problem = None; at = l.seen.at; expected = l.seen.expected; files = l.seen.files + 1 })
    (set l.given (first + l.seen.files) i))
    (line (wrong TooManyFiles i l.seen) l.given)

-- an option, whose value is to come
unfoldable pub named : Option Command → ℕ → ℕ → Seen → List ℕ → Seen
named c p i s g =
    pick
    (takes_of c p)
    (pick (eqb (get_or g p 0) 0) (record { problem = None; at = i; expected = p; files = s.files }) (wrong Twice i s))
    (wrong NotTaken i s)

-- Argument i, which is of place p by its name. An option's name is no value: the option before it has none.
unfoldable pub see_of : Option Command → ℕ → ℕ → Line → Line
see_of c p i l =
    pick
    (is_some l.seen.problem)
    l
    (pick
    (eqb l.seen.expected unknown)
    (pick (eqb p first) (filed c i l) (line (named c p i l.seen l.given) l.given))
    (pick (is_option p) (line (wrong NoValue l.seen.at l.seen) l.given) (valued i l)))

-- All of them, from argument i on.
unfoldable pub see_all : Option Command → List ℕ → ℕ → Line → Line
see_all c [] i l = l
see_all c (p ∷ ps) i l = see_all c ps (suc i) (see_of c p i l)

-- What is still missing at the end, or too much.
unfoldable pub ended : Option Command → Seen → List ℕ → Seen
ended c s g =
    pick
    (is_some s.problem)
    s
    (pick
    (eqb s.expected unknown)
    (pick
    (ltb s.files (files_of c))
    (wrong NoFile s.at s)
    (pick (eqb (get_or g input 0) 0) s (pick (eqb (get_or g block 0) 0) s (wrong InputAndBlock (get_or g block 0) s))))
    (wrong NoValue s.at s))

-- What the arguments say, of these places by their names; the first of them is argument 2.
unfoldable pub said : Option Command → List ℕ → List ℕ → Line
said c ps g =
    let l : Line = see_all c ps 2 (line fresh g) in
    line (ended c l.seen l.given) l.given
