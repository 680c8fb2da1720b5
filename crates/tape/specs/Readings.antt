-- What bytes read as: the commands one after another, up to the first that is refused. Assumes nothing.
use Rattle.std.specs.Prelude.{ℕ, zero, suc, Bool, true, ◌&&◌, List, [], ◌∷◌, take, Some, None, Ok, Err, Option}
use Rattle.machine.specs.Turns.{moved}
use Rattle.machine.specs.declared.refusals.Refusal.{Refusal}
use Rattle.machine.specs.declared.steps.Step.{Step}
use Rattle.machine.specs.declared.turns.Turn.{Turn}
use Rattle.machine.specs.declared.turns.Turn.TheVariants.{Bare}
use Rattle.tape.specs.Opcodes.{operand_bytes}
use Rattle.tape.specs.Commands.{command_of, first_step, fits}

pub record Reading : Type 0 where
  -- the steps read
  pub steps : List Step
  -- the turn after them
  pub turn : Turn
  -- the bytes from the refused command on
  pub left : List ℕ
  -- why it is refused
  pub stop : Option Refusal

-- nothing more to read
abbrev pub ended : Turn → Reading
ended t = record { steps = []; turn = t; left = []; stop = None }

abbrev pub stopped : Turn → List ℕ → Refusal → Reading
stopped t bs f = record { steps = []; turn = t; left = bs; stop = Some f }

-- one step more in front
abbrev pub before : Step → Reading → Reading
before p r = record { steps = p ∷ r.steps; turn = r.turn; left = r.left; stop = r.stop }

-- bytes read at a turn, after k bytes that still belong to the latest command
unfoldable pub read : ℕ → Turn → List ℕ → Reading
read k t [] = ended t
read (suc k) t (b ∷ bs) = read k t bs
read zero t (b ∷ bs) =
    elim (first_step (b ∷ bs)) [
      | Ok p ↦
          elim (moved p t) [
            | Ok u ↦ before p (read (operand_bytes (command_of p).opcode) u bs)
            | Err f ↦ stopped t (b ∷ bs) f
          ]
      | Err f ↦ stopped t (b ∷ bs) f
    ]

-- a tape begins bare
abbrev pub reading : List ℕ → Reading
reading bs = read 0 Bare bs

-- the operands of every step are numbers of their widths
abbrev pub all_fit : List Step → Bool
all_fit [] = true
all_fit (p ∷ ps) = fits (command_of p) && all_fit ps

-- the steps on a tape of which so many bytes are used
abbrev pub steps_on : ℕ → List ℕ → List Step
steps_on used bs = (reading (take used bs)).steps
