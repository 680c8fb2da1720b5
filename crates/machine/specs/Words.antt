-- Words and starts. Assumes nothing.
use Rattle.std.specs.Prelude.{ℕ, List, codes}
use Rattle.std.specs.Fmt.{decimal}
use Rattle.machine.specs.declared.words.Word.{Word}
use Rattle.machine.specs.declared.words.Word.TheVariants.{Unknown, Number}

-- a word for every register and every local slot; a state is unknown past the last of them
pub record Start : Type 0 where
  pub register : ℕ → Word
  pub local : ℕ → Word

-- what a word prints
abbrev pub word_text : Word → List ℕ
word_text Unknown = codes "?"
word_text (Number k) = decimal k
