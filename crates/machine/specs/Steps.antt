-- What a step prints: its name, then its operands in the order in which a tape has them; a call's lost set is left out. Assumes nothing.
use Rattle.std.specs.Prelude.{ℕ, List, ◌++◌, codes}
use Rattle.std.specs.Fmt.{decimal}
use Rattle.machine.specs.declared.steps.Step.{Step}
use Rattle.machine.specs.declared.steps.Step.TheVariants.{Copy, Set, Fetch, Back, Store, Keep, Reserve, Call, Pop}

-- two operands, a blank between them
abbrev pub two_operands : ℕ → ℕ → List ℕ
two_operands a b = decimal a ++ codes " " ++ decimal b

abbrev pub step_text : Step → List ℕ
step_text (Copy d s) = codes "copy " ++ two_operands d.0 s.0
step_text (Set d k) = codes "set " ++ two_operands d.0 k
step_text (Fetch d n) = codes "fetch " ++ two_operands d.0 n.0
step_text (Back d o) = codes "back " ++ two_operands d.0 o.0
step_text (Store o s) = codes "store " ++ two_operands o.0 s.0
step_text (Keep n s) = codes "keep " ++ two_operands n.0 s.0
step_text (Reserve b) = codes "reserve " ++ decimal b
step_text (Call r m) = codes "call " ++ decimal r
step_text (Pop b) = codes "pop " ++ decimal b
