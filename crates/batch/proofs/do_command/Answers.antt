-- A refused command tells its refusal; any other does what its act does, and the definition says the same.
use Rattle.std.proofs.Common.{refl}
use Rattle.batch.proofs.Doing.{told, acted, stopped, whole}
use Rattle.batch.proofs.do_command.Goals as goal

pub returns-in-Err : goal.returns-in-Err
returns-in-Err c =
    stopped c.args.book.now c.args.book.now c.args.out.now _ c.args.behind.now _ c.args.read c.in-Err.refused _ c.in-Err.is c.from.ensures c.requires.passing c.put_bare.ensures

pub add-requires-clause-term : goal.add-requires-clause-term
add-requires-clause-term c = whole c.args.behind.now c.args.read c.in-Ok.command _ c.requires.read c.in-Ok.is c.in-Add.is refl

pub ask-requires-clause-term : goal.ask-requires-clause-term
ask-requires-clause-term c = whole c.args.behind.now c.args.read c.in-Ok.command _ c.requires.read c.in-Ok.is c.in-Ask.is refl

pub returns-in-Add : goal.returns-in-Add
returns-in-Add c = acted _ _ _ _ _ _ _ c.in-Ok.command _ c.in-Ok.is c.in-Add.is c.add.ensures

pub returns-in-Remove : goal.returns-in-Remove
returns-in-Remove c = acted _ _ _ _ _ _ _ c.in-Ok.command _ c.in-Ok.is c.in-Remove.is c.remove.ensures

pub returns-in-Ask : goal.returns-in-Ask
returns-in-Ask c = acted _ _ _ _ _ _ _ c.in-Ok.command _ c.in-Ok.is c.in-Ask.is (told _ _ _ _ _ c.requires.passing c.ask.ensures)

pub returns-in-Show : goal.returns-in-Show
returns-in-Show c = acted _ _ _ _ _ _ _ c.in-Ok.command _ c.in-Ok.is c.in-Show.is (told _ _ _ _ _ c.requires.passing c.show.ensures)

pub returns-in-Room : goal.returns-in-Room
returns-in-Room c = acted _ _ _ _ _ _ _ c.in-Ok.command _ c.in-Ok.is c.in-Room.is (told _ _ _ _ _ c.requires.passing c.room.ensures)
