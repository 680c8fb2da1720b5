-- The order of moves. Assumes nothing.
use Rattle.std.specs.Prelude.{ℕ, ◌*◌, Bool, false, cond, not, ◌&&◌, List, [], ◌∷◌, ◌++◌, is_some, Some, None, Option, ◌==◌}
use Rattle.machine.specs.Limits.{registers, outgoing_slots}
use Rattle.machine.specs.declared.steps.Step.{Step}
use Rattle.machine.specs.declared.steps.Step.TheVariants.{Copy, Set, Fetch, Store}
use Rattle.conventions.specs.declared.arguments.Argument.{Argument}
use Rattle.conventions.specs.declared.arguments.Source.{Source}
use Rattle.conventions.specs.declared.arguments.Source.TheVariants.{Number, Register as Held, Local}
use Rattle.least.specs.Counts.{is_value}
use Rattle.order.specs.Indices.{each}
use Rattle.order.specs.Tables.{opening_table, settle, spills}
use Rattle.order.specs.Wants.{Wants, is_source, lowest_register, lowest_slot, wants}

-- the step that brings a source to a register
abbrev pub bring : ℕ → Source → Step
bring d (Number k) = Set (record { 0 = d }) k
bring d (Held s) = Copy (record { 0 = d }) s
bring d (Local n) = Fetch (record { 0 = d }) n

abbrev pub store : ℕ → ℕ → Step
store o r = Store (record { 0 = o }) (record { 0 = r })

-- an outgoing slot with a register source is stored
abbrev pub store_held : ℕ → Option Source → List Step
store_held o None = []
store_held o (Some s) = elim s [ Number k ↦ [] | Held r ↦ store o r.0 ∷ [] | Local n ↦ [] ]

abbrev pub is_index : Option ℕ → ℕ → Bool
is_index None i = false
is_index (Some j) i = j == i

-- outgoing slot o is the lowest of a number or local slot that no register wants
abbrev pub spreads : Wants → ℕ → Source → Bool
spreads w o s = is_value s && (not (is_some (lowest_register w s)) && is_index (lowest_slot w s) o)

-- the scratch is stored to slot o if the slot wants s
abbrev pub store_scratch : Wants → ℕ → Source → ℕ → List Step
store_scratch w scratch s o = cond (is_source (w.outgoing o) s) (store o scratch ∷ []) []

-- such a source is brought to the scratch at its lowest slot, and stored to each of its slots
abbrev pub spread : Wants → ℕ → ℕ → Option Source → List Step
spread w scratch o None = []
spread w scratch o (Some s) = cond (spreads w o s) (bring scratch s ∷ each (store_scratch w scratch s) outgoing_slots) []

-- the sources so spread
abbrev pub spread_value : Wants → ℕ → Option Source → List Source
spread_value w o None = []
spread_value w o (Some s) = cond (spreads w o s) (s ∷ []) []

-- a register with a number or local slot as its source takes it
abbrev pub load : ℕ → Option Source → List Step
load r None = []
load r (Some s) = cond (is_value s) (bring r s ∷ []) []

abbrev pub store_from : ℕ → Option ℕ → List Step
store_from o None = []
store_from o (Some r) = store o r ∷ []

-- an outgoing slot with a number or local slot that a register wants too is stored from the lowest such register
abbrev pub store_loaded : Wants → ℕ → Option Source → List Step
store_loaded w o None = []
store_loaded w o (Some s) = cond (is_value s) (store_from o (lowest_register w s)) []

-- choices enough for every table: each register takes once, and each ring is opened once
abbrev pub choices : ℕ
choices = 2 * registers

-- the five parts
abbrev pub stored_registers : Wants → List Step
stored_registers w = each (λ o. store_held o (w.outgoing o)) outgoing_slots

abbrev pub spread_values : Wants → ℕ → List Step
spread_values w scratch = each (λ o. spread w scratch o (w.outgoing o)) outgoing_slots

abbrev pub settled : Wants → ℕ → List Step
settled w scratch = settle w scratch choices (opening_table w)

abbrev pub loaded_registers : Wants → List Step
loaded_registers w = each (λ r. load r (w.register r)) registers

abbrev pub stored_values : Wants → List Step
stored_values w = each (λ o. store_loaded w o (w.outgoing o)) outgoing_slots

abbrev pub order_of : Wants → ℕ → List Step
order_of w scratch = stored_registers w ++ (spread_values w scratch ++ (settled w scratch ++ (loaded_registers w ++ stored_values w)))

-- the moves of a call with these arguments
abbrev pub order : List Argument → ℕ → List Step
order xs scratch = order_of (wants xs) scratch

-- the rings opened through the scratch, by the register that each was opened at
abbrev pub opened : Wants → ℕ → List ℕ
opened w scratch = spills w scratch choices (opening_table w)

-- the sources brought to the scratch
abbrev pub values_spread : Wants → List Source
values_spread w = each (λ o. spread_value w o (w.outgoing o)) outgoing_slots
