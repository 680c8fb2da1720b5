-- What an origin stands for in a start, and moves on words against moves on origins. Assumes nothing.
use Rattle.std.proofs.Common.{◌≡◌, ℕ, Bool, true, false, cond, eqb, ltb, List, [], ◌∷◌, refl, ap, arith}
use Rattle.std.proofs.lemmas.Bool.Decides.{nat_tests}
use Rattle.machine.specs.Limits.{registers, local_slots}
use Rattle.machine.specs.Words.{Start}
use Rattle.machine.specs.States.{State, begin, blank, put}
use Rattle.machine.specs.Effects.{effect, run}
use Rattle.machine.specs.declared.steps.Step.{Step}
use Rattle.machine.specs.declared.steps.Step.TheVariants.{Copy, Set, Fetch, Back, Store, Keep, Reserve, Call, Pop}
use Rattle.machine.specs.declared.words.Word.{Word}
use Rattle.machine.specs.declared.words.Word.TheVariants.{Unknown, Number}
use Rattle.least.specs.Assignments.{reserved}
use Rattle.least.specs.Rivals.{Ordinary, Storable, is_move}
use Rattle.least.proofs.Origins.{Cell, register, local, outgoing, Origin, of_register, of_local, number, unknown, Map, Moves, after, after_all, own}

-- the word that an origin stands for
abbrev pub stands : Start → Origin → Word
stands s (of_register r) = s.register r
stands s (of_local n) = s.local n
stands s (number k) = Number k
stands s unknown = Unknown

-- the word in a cell
abbrev pub word : State → Cell → Word
word σ (register r) = σ.register r
word σ (local n) = σ.local n
word σ (outgoing o) = σ.outgoing o

-- each cell's word is what its origin stands for
abbrev pub Agrees : Start → Map → State → Type 0
Agrees s f σ = (c : Cell) → word σ c ≡ stands s (f c)

stands_cond : (s : Start) (t : Bool) (w u : Word) (o q : Origin) → w ≡ stands s o → u ≡ stands s q → cond t w u ≡ stands s (cond t o q)
stands_cond s true w u o q h k = h
stands_cond s false w u o q h k = k

agrees_after : (s : Start) (p : Step) (f : Map) (σ : State) → is_move p ≡ true → Agrees s f σ → Agrees s (after p f) (effect p σ)
agrees_after s (Copy d x) f σ m h (register r) = stands_cond s (eqb r d.0) _ _ _ _ (h (register x.0)) (h (register r))
agrees_after s (Copy d x) f σ m h (local n) = h (local n)
agrees_after s (Copy d x) f σ m h (outgoing o) = h (outgoing o)
agrees_after s (Set d k) f σ m h (register r) = stands_cond s (eqb r d.0) _ _ (number k) _ refl (h (register r))
agrees_after s (Set d k) f σ m h (local n) = h (local n)
agrees_after s (Set d k) f σ m h (outgoing o) = h (outgoing o)
agrees_after s (Fetch d x) f σ m h (register r) = stands_cond s (eqb r d.0) _ _ _ _ (h (local x.0)) (h (register r))
agrees_after s (Fetch d x) f σ m h (local n) = h (local n)
agrees_after s (Fetch d x) f σ m h (outgoing o) = h (outgoing o)
agrees_after s (Back d x) f σ m h (register r) = stands_cond s (eqb r d.0) _ _ _ _ (h (outgoing x.0)) (h (register r))
agrees_after s (Back d x) f σ m h (local n) = h (local n)
agrees_after s (Back d x) f σ m h (outgoing o) = h (outgoing o)
agrees_after s (Store d x) f σ m h (register r) = h (register r)
agrees_after s (Store d x) f σ m h (local n) = h (local n)
agrees_after s (Store d x) f σ m h (outgoing o) = stands_cond s (eqb o d.0) _ _ _ _ (h (register x.0)) (h (outgoing o))
agrees_after s (Keep d x) f σ m h (register r) = h (register r)
agrees_after s (Keep d x) f σ m h (local n) = stands_cond s (eqb n d.0) _ _ _ _ (h (register x.0)) (h (local n))
agrees_after s (Keep d x) f σ m h (outgoing o) = h (outgoing o)
agrees_after s (Reserve b) f σ m h c = absurd (grind (arith, m))
agrees_after s (Call r l) f σ m h c = absurd (grind (arith, m))
agrees_after s (Pop b) f σ m h c = absurd (grind (arith, m))

agrees_run : (s : Start) (ps : List Step) (f : Map) (σ : State) → Moves ps → Agrees s f σ → Agrees s (after_all ps f) (run ps σ)
agrees_run s [] f σ ms h = h
agrees_run s (p ∷ ps) f σ ms h = agrees_run s ps (after p f) (effect p σ) ms.1 (agrees_after s p f σ ms.0 h)

agrees_begin : (s : Start) → Agrees s own (begin s)
agrees_begin s (register r) = stands_cond s (ltb r registers) _ _ (of_register r) unknown refl refl
agrees_begin s (local n) = stands_cond s (ltb n local_slots) _ _ (of_local n) unknown refl refl
agrees_begin s (outgoing o) = refl

agrees_cond : (s : Start) (b : ℕ) (t : Bool) → Agrees s own (cond t (begin s) (effect (Reserve b) (begin s)))
agrees_cond s b true c = agrees_begin s c
agrees_cond s b false (register r) = agrees_begin s (register r)
agrees_cond s b false (local n) = agrees_begin s (local n)
agrees_cond s b false (outgoing o) = refl

-- after the reservation and the moves each cell's word is what its origin stands for
pub agrees : (s : Start) (b : ℕ) (ps : List Step) → Moves ps → Agrees s (after_all ps own) (run ps (reserved b (begin s)))
agrees s b ps ms = agrees_run s ps own (reserved b (begin s)) ms (agrees_cond s b (eqb b 0))

-- the start with 0 in one register, and that with 0 in one local slot; the rest unknown
abbrev register_only : ℕ → Start
register_only a = record { register = put a (Number 0) blank; local = blank }

abbrev local_only : ℕ → Start
local_only a = record { register = blank; local = put a (Number 0) blank }

abbrev nothing : Start
nothing = record { register = blank; local = blank }

storable_put : (t : Bool) → Storable (cond t (Number 0) Unknown)
storable_put true = omega arith
storable_put false = tt

ordinary_register : (a : ℕ) → Ordinary (register_only a)
ordinary_register a = record { register = λ r. storable_put (eqb r a); local = λ _. tt }

ordinary_local : (a : ℕ) → Ordinary (local_only a)
ordinary_local a = record { register = λ _. tt; local = λ n. storable_put (eqb n a) }

ordinary_nothing : Ordinary nothing
ordinary_nothing = record { register = λ _. tt; local = λ _. tt }

-- origins that stand for the same words in these starts are the same
told : (o q : Origin) → stands nothing o ≡ stands nothing q → ((a : ℕ) → stands (register_only a) o ≡ stands (register_only a) q) → ((a : ℕ) → stands (local_only a) o ≡ stands (local_only a) q) → o ≡ q
told (of_register a) (of_register b) e r l = ap of_register (grind (arith, nat_tests, r a))
told (of_register a) (of_local b) e r l = absurd (grind (arith, nat_tests, r a))
told (of_register a) (number b) e r l = absurd (grind (arith, nat_tests, e))
told (of_register a) unknown e r l = absurd (grind (arith, nat_tests, r a))
told (of_local a) (of_register b) e r l = absurd (grind (arith, nat_tests, l a))
told (of_local a) (of_local b) e r l = ap of_local (grind (arith, nat_tests, l a))
told (of_local a) (number b) e r l = absurd (grind (arith, nat_tests, e))
told (of_local a) unknown e r l = absurd (grind (arith, nat_tests, l a))
told (number a) (of_register b) e r l = absurd (grind (arith, nat_tests, e))
told (number a) (of_local b) e r l = absurd (grind (arith, nat_tests, e))
told (number a) (number b) e r l = ap number (cc)
told (number a) unknown e r l = absurd (grind (arith, nat_tests, e))
told unknown (of_register b) e r l = absurd (grind (arith, nat_tests, r b))
told unknown (of_local b) e r l = absurd (grind (arith, nat_tests, l b))
told unknown (number b) e r l = absurd (grind (arith, nat_tests, e))
told unknown unknown e r l = refl

-- origins that stand for the same word in every start of 64-bit words are the same
pub told_apart : (o q : Origin) → ((s : Start) → Ordinary s → stands s o ≡ stands s q) → o ≡ q
told_apart o q h = told o q (h nothing ordinary_nothing) (λ a. h (register_only a) (ordinary_register a)) (λ a. h (local_only a) (ordinary_local a))
