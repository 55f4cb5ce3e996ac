-- What the arguments of the program mean: the command, the options after it, and which argument was given for what.
use Rattle.std.specs.Prelude.{ℕ, suc, ◌+◌, Bool, true, false, List, [], ◌∷◌, Option, None, Some, Result, Ok, Err, eqb, ltb}
use Rattle.word.specs.Choice.{pick}
use Rattle.language.specs.Tokens.{bytes, same, starts, is}
use Rattle.console.specs.declared.arguments.Command.{Command}
use Rattle.console.specs.declared.arguments.Command.TheVariants.{Help, Check, Run, Build, Exec, Compare}
use Rattle.console.specs.declared.arguments.Setting.{Setting}
use Rattle.console.specs.declared.arguments.Setting.TheVariants.{Input, Block, Fuel, Limit, Room, Memory}
use Rattle.console.specs.declared.arguments.Word.{Word}
use Rattle.console.specs.declared.arguments.Word.TheVariants.{Name, Unknown, Other}
use Rattle.console.specs.declared.arguments.Problem.{Problem}
use Rattle.console.specs.declared.arguments.Problem.TheVariants.{NotTaken, Twice, NoValue, TooManyFiles, NoFile, InputAndBlock}
use Rattle.console.specs.declared.arguments.Wrong.{Wrong}
use Rattle.console.specs.declared.arguments.Given.{Given}
use Rattle.console.specs.declared.arguments.Seen.{Seen}

unfoldable pub command_of : List ℕ → Option Command
command_of w =
    pick
    (same w (bytes "help"))
    (Some Help)
    (pick
    (same w (bytes "check"))
    (Some Check)
    (pick
    (same w (bytes "run"))
    (Some Run)
    (pick
    (same w (bytes "build"))
    (Some Build)
    (pick (same w (bytes "exec")) (Some Exec) (pick (same w (bytes "compare")) (Some Compare) None)))))

-- A word that is no option's name is a file's, or a value, unless it begins with a dash: then it is unknown.
unfoldable pub word_of : List ℕ → Word
word_of w =
    pick
    (same w (bytes "--input"))
    (Name Input)
    (pick
    (same w (bytes "--block"))
    (Name Block)
    (pick
    (same w (bytes "--fuel"))
    (Name Fuel)
    (pick
    (same w (bytes "--limit"))
    (Name Limit)
    (pick (same w (bytes "--room")) (Name Room) (pick (same w (bytes "--memory")) (Name Memory) (pick (starts (is "-") w) Unknown Other))))))

-- the options that a run of a text takes, and a run of an image
unfoldable pub run_takes : Setting → Bool
run_takes Input = true
run_takes Block = true
run_takes Fuel = true
run_takes Limit = false
run_takes Room = true
run_takes Memory = false

unfoldable pub exec_takes : Setting → Bool
exec_takes Input = true
exec_takes Block = true
exec_takes Fuel = false
exec_takes Limit = true
exec_takes Room = true
exec_takes Memory = true

-- the options that a command takes, and how many files
unfoldable pub takes_of : Command → Setting → Bool
takes_of Help p = false
takes_of Check p = false
takes_of Run p = run_takes p
takes_of Build p = false
takes_of Exec p = exec_takes p
takes_of Compare p = run_takes p

unfoldable pub files_of : Command → ℕ
files_of Help = 0
files_of Check = 1
files_of Run = 1
files_of Build = 2
files_of Exec = 1
files_of Compare = 1

-- What is given: the argument for each option, and for each of two files.

unfoldable pub given_for : Setting → Given → Option ℕ
given_for Input g = g.input
given_for Block g = g.block
given_for Fuel g = g.fuel
given_for Limit g = g.limit
given_for Room g = g.room
given_for Memory g = g.memory

unfoldable pub with_given : Setting → ℕ → Given → Given
with_given Input i g = record { input = Some i; block = g.block; fuel = g.fuel; limit = g.limit; room = g.room; memory = g.memory; first = g.first; second = g.second }
with_given Block i g = record { input = g.input; block = Some i; fuel = g.fuel; limit = g.limit; room = g.room; memory = g.memory; first = g.first; second = g.second }
with_given Fuel i g = record { input = g.input; block = g.block; fuel = Some i; limit = g.limit; room = g.room; memory = g.memory; first = g.first; second = g.second }
with_given Limit i g = record { input = g.input; block = g.block; fuel = g.fuel; limit = Some i; room = g.room; memory = g.memory; first = g.first; second = g.second }
with_given Room i g = record { input = g.input; block = g.block; fuel = g.fuel; limit = g.limit; room = Some i; memory = g.memory; first = g.first; second = g.second }
with_given Memory i g = record { input = g.input; block = g.block; fuel = g.fuel; limit = g.limit; room = g.room; memory = Some i; first = g.first; second = g.second }

-- argument i as the file after so many
unfoldable pub with_file : ℕ → ℕ → Given → Given
with_file n i g = pick (eqb n 0) (record { input = g.input; block = g.block; fuel = g.fuel; limit = g.limit; room = g.room; memory = g.memory; first = Some i; second = g.second }) (record { input = g.input; block = g.block; fuel = g.fuel; limit = g.limit; room = g.room; memory = g.memory; first = g.first; second = Some i })

-- nothing yet
abbrev pub fresh : Seen
fresh = record { given = record { input = None; block = None; fuel = None; limit = None; room = None; memory = None; first = None; second = None }; expected = None; at = 0; files = 0 }

-- something wrong at argument i
abbrev pub wrong : {A : Type 0} → Problem → ℕ → Result A Wrong
wrong p i = Err (record { problem = p; at = i })

-- the value that was expected: an option's name is none
unfoldable pub valued : Setting → Word → ℕ → Seen → Result Seen Wrong
valued p (Name q) i s = wrong NoValue s.at
valued p Unknown i s = Ok (record { given = with_given p i s.given; expected = None; at = s.at; files = s.files })
valued p Other i s = Ok (record { given = with_given p i s.given; expected = None; at = s.at; files = s.files })

-- a file more
unfoldable pub filed : Command → ℕ → Seen → Result Seen Wrong
filed c i s =
    pick
    (ltb s.files (files_of c))
    (Ok (record { given = with_file s.files i s.given; expected = s.expected; at = s.at; files = s.files + 1 }))
    (wrong TooManyFiles i)

-- an option, whose value is to come, unless it is given already
unfoldable pub named_new : Setting → ℕ → Seen → Option ℕ → Result Seen Wrong
named_new p i s None = Ok (record { given = s.given; expected = Some p; at = i; files = s.files })
named_new p i s (Some j) = wrong Twice i

unfoldable pub named : Command → Setting → ℕ → Seen → Result Seen Wrong
named c p i s = pick (takes_of c p) (named_new p i s (given_for p s.given)) (wrong NotTaken i)

-- Argument i, where no value is expected, or that of an option.
unfoldable pub new_of : Command → Word → ℕ → Seen → Result Seen Wrong
new_of c (Name p) i s = named c p i s
new_of c Unknown i s = wrong NotTaken i
new_of c Other i s = filed c i s

unfoldable pub see_with : Option Setting → Command → Word → ℕ → Seen → Result Seen Wrong
see_with None c w i s = new_of c w i s
see_with (Some p) c w i s = valued p w i s

unfoldable pub see_of : Command → Word → ℕ → Seen → Result Seen Wrong
see_of c w i s = see_with s.expected c w i s

-- One step after another, as far as nothing is wrong.
unfoldable pub then : {A B : Type 0} → Result A Wrong → (A → Result B Wrong) → Result B Wrong
then (Ok a) f = f a
then (Err e) f = Err e

-- All of them, from argument i on.
unfoldable pub see_all : Command → List Word → ℕ → Seen → Result Seen Wrong
see_all c [] i s = Ok s
see_all c (w ∷ ws) i s = then (see_of c w i s) (see_all c ws (suc i))

-- What is given, if nothing is missing at the end, or too much.
unfoldable pub sources : Option ℕ → Option ℕ → Given → Result Given Wrong
sources None b g = Ok g
sources (Some a) None g = Ok g
sources (Some a) (Some b) g = wrong InputAndBlock b

unfoldable pub ended_with : Option Setting → Command → Seen → Result Given Wrong
ended_with (Some p) c s = wrong NoValue s.at
ended_with None c s = pick (ltb s.files (files_of c)) (wrong NoFile s.at) (sources s.given.input s.given.block s.given)

unfoldable pub ended : Command → Seen → Result Given Wrong
ended c s = ended_with s.expected c s

-- What the arguments say; the first of them is argument 2.
unfoldable pub said : Command → List Word → Result Given Wrong
said c ws = then (see_all c ws 2 fresh) (ended c)
