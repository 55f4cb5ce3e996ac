-- `place_of` meets its contract: each arm is the place of what the word is.
use Rattle.console.specs.declared.arguments.Setting.TheVariants.{Input, Block, Fuel, Limit, Room, Memory}
use Rattle.console.specs.declared.arguments.Word.TheVariants.{Unknown, Other}
use Rattle.console.specs.Table.{option_place}
use Rattle.console.proofs.Tied.{word_place, place_is, place_named}
use Rattle.console.proofs.table.place_of.Goals as goal

pub returns-in-Name-Input : goal.returns-in-Name-Input
unfolding option_place
returns-in-Name-Input c = place_named _ Input c.word_of.ensures c.in-Name-Input.is c.in-Name-Input.field-0-is

pub returns-in-Name-Block : goal.returns-in-Name-Block
unfolding option_place
returns-in-Name-Block c = place_named _ Block c.word_of.ensures c.in-Name-Block.is c.in-Name-Block.field-0-is

pub returns-in-Name-Fuel : goal.returns-in-Name-Fuel
unfolding option_place
returns-in-Name-Fuel c = place_named _ Fuel c.word_of.ensures c.in-Name-Fuel.is c.in-Name-Fuel.field-0-is

pub returns-in-Name-Limit : goal.returns-in-Name-Limit
unfolding option_place
returns-in-Name-Limit c = place_named _ Limit c.word_of.ensures c.in-Name-Limit.is c.in-Name-Limit.field-0-is

pub returns-in-Name-Room : goal.returns-in-Name-Room
unfolding option_place
returns-in-Name-Room c = place_named _ Room c.word_of.ensures c.in-Name-Room.is c.in-Name-Room.field-0-is

pub returns-in-Name-Memory : goal.returns-in-Name-Memory
unfolding option_place
returns-in-Name-Memory c = place_named _ Memory c.word_of.ensures c.in-Name-Memory.is c.in-Name-Memory.field-0-is

pub returns-in-Unknown : goal.returns-in-Unknown
unfolding word_place
returns-in-Unknown c = place_is _ Unknown c.word_of.ensures c.in-Unknown.is

pub returns-in-Other : goal.returns-in-Other
unfolding word_place
returns-in-Other c = place_is _ Other c.word_of.ensures c.in-Other.is
