-- The number of each refusal. Assumes nothing.
use Rattle.std.specs.Prelude.{ℕ, List, ◌++◌, codes}
use Rattle.std.specs.Fmt.{decimal}
use Rattle.machine.specs.declared.refusals.Refusal.{Refusal}
use Rattle.machine.specs.declared.refusals.Refusal.TheVariants.{ListFull, NoSuchRegister, NoSuchLocalSlot, NotUsable, WrongCells, NotBare, TooManyArguments, CallsAtLimit, OwnStepsAtLimit, NoRoom, UnknownCommand, CutShort, OutOfRange, OutOfTurn, TooLong}

abbrev pub number : Refusal → ℕ
number ListFull = 11
number NoSuchRegister = 12
number NoSuchLocalSlot = 13
number NotUsable = 14
number WrongCells = 21
number NotBare = 22
number TooManyArguments = 23
number CallsAtLimit = 31
number OwnStepsAtLimit = 32
number NoRoom = 33
number UnknownCommand = 41
number CutShort = 42
number OutOfRange = 43
number OutOfTurn = 44
number TooLong = 45

-- what a refusal prints
abbrev pub refusal_text : Refusal → List ℕ
refusal_text f = codes "refused: " ++ decimal (number f)
