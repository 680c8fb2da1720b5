-- The state of a bench whose words were rewritten. Assumes nothing.
use Rattle.std.proofs.Common.{◌≡◌, ℕ, ◌+◌, ◌-◌, ◌<◌, ◌≤◌, ap, ◌∙◌, inl, inr, arith}
use Rattle.machine.specs.Effects.{effect, lose}
use Rattle.machine.specs.Limits.{local_slots, outgoing_slots, registers}
use Rattle.machine.specs.States.{State, blank, put}
use Rattle.machine.specs.Turns.{turn_called}
use Rattle.machine.specs.declared.places.RegisterSet.{RegisterSet}
use Rattle.machine.specs.declared.steps.Step.TheVariants.{Call, Reserve}
use Rattle.machine.specs.declared.turns.Turn.{Turn}
use Rattle.machine.specs.declared.turns.Turn.TheVariants.{Bare, Reserved}
use Rattle.machine.specs.declared.words.Word.{Word}
use Rattle.bench.specs.Cells.{area, call_words, cell_count, copied, first_local, first_outgoing, first_seen_outgoing, first_seen_register, loaded, state_of, wiped}
use Rattle.bench.proofs.Areas.{area_copied, area_lose, area_put, area_wiped, copied_elsewhere, lose_elsewhere, put_elsewhere, wiped_elsewhere}

module _ (w : ℕ → Word) (t : Turn) (calls routine : ℕ) where
  pub put_register : (d : ℕ) (x : Word) → d < registers → let σ : State = state_of w t calls routine in state_of (put d x w) t calls routine ≡ record { register = put d x σ.register; local = σ.local; outgoing = σ.outgoing; turn = t; calls = calls; seen = σ.seen }
  put_register d x h = λ i. record {
    register = area_put w 0 registers x d d (omega arith) h i;
    local = put_elsewhere w first_local local_slots x d (inl (omega arith)) i;
    outgoing = put_elsewhere w first_outgoing outgoing_slots x d (inl (omega arith)) i;
    turn = t;
    calls = calls;
    seen = record {
      routine = routine;
      register = put_elsewhere w first_seen_register registers x d (inl (omega arith)) i;
      outgoing = put_elsewhere w first_seen_outgoing outgoing_slots x d (inl (omega arith)) i;
    };
  }

  pub put_local : (n : ℕ) (x : Word) → n < local_slots → let σ : State = state_of w t calls routine in state_of (put (first_local + n) x w) t calls routine ≡ record { register = σ.register; local = put n x σ.local; outgoing = σ.outgoing; turn = t; calls = calls; seen = σ.seen }
  put_local n x h = λ i. record {
    register = put_elsewhere w 0 registers x (first_local + n) (inr (omega arith)) i;
    local = area_put w first_local local_slots x (first_local + n) n (omega arith) h i;
    outgoing = put_elsewhere w first_outgoing outgoing_slots x (first_local + n) (inl (omega arith)) i;
    turn = t;
    calls = calls;
    seen = record {
      routine = routine;
      register = put_elsewhere w first_seen_register registers x (first_local + n) (inl (omega arith)) i;
      outgoing = put_elsewhere w first_seen_outgoing outgoing_slots x (first_local + n) (inl (omega arith)) i;
    };
  }

  pub put_outgoing : (o : ℕ) (x : Word) → o < outgoing_slots → let σ : State = state_of w t calls routine in state_of (put (first_outgoing + o) x w) t calls routine ≡ record { register = σ.register; local = σ.local; outgoing = put o x σ.outgoing; turn = t; calls = calls; seen = σ.seen }
  put_outgoing o x h = λ i. record {
    register = put_elsewhere w 0 registers x (first_outgoing + o) (inr (omega arith)) i;
    local = put_elsewhere w first_local local_slots x (first_outgoing + o) (inr (omega arith)) i;
    outgoing = area_put w first_outgoing outgoing_slots x (first_outgoing + o) o (omega arith) h i;
    turn = t;
    calls = calls;
    seen = record {
      routine = routine;
      register = put_elsewhere w first_seen_register registers x (first_outgoing + o) (inl (omega arith)) i;
      outgoing = put_elsewhere w first_seen_outgoing outgoing_slots x (first_outgoing + o) (inl (omega arith)) i;
    };
  }

  pub reserved : (b : ℕ) → state_of (wiped first_outgoing outgoing_slots w) (Reserved b) calls routine ≡ effect (Reserve b) (state_of w t calls routine)
  reserved b = λ i. record {
    register = wiped_elsewhere w 0 registers first_outgoing outgoing_slots (inr (omega arith)) i;
    local = wiped_elsewhere w first_local local_slots first_outgoing outgoing_slots (inr (omega arith)) i;
    outgoing = area_wiped w first_outgoing outgoing_slots first_outgoing outgoing_slots (omega arith) (omega arith) i;
    turn = Reserved b;
    calls = calls;
    seen = record {
      routine = routine;
      register = wiped_elsewhere w first_seen_register registers first_outgoing outgoing_slots (inl (omega arith)) i;
      outgoing = wiped_elsewhere w first_seen_outgoing outgoing_slots first_outgoing outgoing_slots (inl (omega arith)) i;
    };
  }

  pub called : (r : ℕ) (m : RegisterSet) → state_of (call_words m.0 w) (turn_called t) (calls + 1) r ≡ effect (Call r m) (state_of w t calls routine)
  called r m =
      let v : ℕ → Word = copied 0 first_seen_register registers w in
      let u : ℕ → Word = copied first_outgoing first_seen_outgoing outgoing_slots v in
      let z : ℕ → Word = wiped first_outgoing outgoing_slots u in
      let front : (first n : ℕ) → first + n ≤ first_outgoing → area z first n ≡ area w first n =
      λ first n h. wiped_elsewhere u first n first_outgoing outgoing_slots (inr h) ∙ copied_elsewhere v first n first_outgoing first_seen_outgoing outgoing_slots (inr (omega arith)) ∙ copied_elsewhere w first n 0 first_seen_register registers (inr (omega arith)) in
      λ i. record {
        register = (area_lose z m.0 ∙ ap (lose m.0) (front 0 registers (omega arith))) i;
        local = (lose_elsewhere z first_local local_slots m.0 (omega arith) ∙ front first_local local_slots (omega arith)) i;
        outgoing = (lose_elsewhere z first_outgoing outgoing_slots m.0 (omega arith) ∙ area_wiped u first_outgoing outgoing_slots first_outgoing outgoing_slots (omega arith) (omega arith)) i;
        turn = turn_called t;
        calls = calls + 1;
        seen = record {
          routine = r;
          register = (lose_elsewhere z first_seen_register registers m.0 (omega arith) ∙ wiped_elsewhere u first_seen_register registers first_outgoing outgoing_slots (inl (omega arith)) ∙ copied_elsewhere v first_seen_register registers first_outgoing first_seen_outgoing outgoing_slots (inr (omega arith)) ∙ area_copied w first_seen_register registers 0) i;
          outgoing = (lose_elsewhere z first_seen_outgoing outgoing_slots m.0 (omega arith) ∙ wiped_elsewhere u first_seen_outgoing outgoing_slots first_outgoing outgoing_slots (inl (omega arith)) ∙ area_copied v first_seen_outgoing outgoing_slots first_outgoing ∙ copied_elsewhere w first_outgoing outgoing_slots 0 first_seen_register registers (inr (omega arith))) i;
        };
      }

-- a new bench: all cells from the first outgoing slot on were wiped
pub opened : (w : ℕ → Word) → state_of (wiped first_outgoing (cell_count - first_outgoing) w) Bare 0 0 ≡ loaded w
opened w =
    let blanks : (first n : ℕ) → first_outgoing ≤ first → first + n ≤ cell_count → area (wiped first_outgoing (cell_count - first_outgoing) w) first n ≡ blank =
    λ first n from to. area_wiped w first n first_outgoing (cell_count - first_outgoing) from (omega arith) in
    λ i. record {
      register = wiped_elsewhere w 0 registers first_outgoing (cell_count - first_outgoing) (inr (omega arith)) i;
      local = wiped_elsewhere w first_local local_slots first_outgoing (cell_count - first_outgoing) (inr (omega arith)) i;
      outgoing = blanks first_outgoing outgoing_slots (omega arith) (omega arith) i;
      turn = Bare;
      calls = 0;
      seen = record {
        routine = 0;
        register = blanks first_seen_register registers (omega arith) (omega arith) i;
        outgoing = blanks first_seen_outgoing outgoing_slots (omega arith) (omega arith) i;
      };
    }
