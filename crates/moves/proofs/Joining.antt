-- The five parts of the order, written one after the other. Assumes nothing.
use Rattle.std.proofs.Common.{◌≡◌, ℕ, ◌+◌, List, [], ◌++◌, length, ap, ◌∙◌, append_assoc, arith, length-append}
use Rattle.machine.specs.declared.steps.Step.{Step}
use Rattle.order.specs.Order.{loaded_registers, order_of, settled, spread_values, stored_registers, stored_values}
use Rattle.order.specs.Wants.{Wants}

-- how long a list is to which steps were added
pub added_length : (ps before after : List Step) → after ≡ before ++ ps → length after ≡ length before + length ps
added_length ps before after added = ap length added ∙ length-append before ps

module _ (w : Wants) (scratch : ℕ) where
  pub order_length : length (order_of w scratch) ≡ length (stored_registers w) + (length (spread_values w scratch) + (length (settled w scratch) + (length (loaded_registers w) + length (stored_values w))))
  order_length =
      let one = length-append (stored_registers w) (spread_values w scratch ++ (settled w scratch ++ (loaded_registers w ++ stored_values w))) in
      let two = length-append (spread_values w scratch) (settled w scratch ++ (loaded_registers w ++ stored_values w)) in
      let three = length-append (settled w scratch) (loaded_registers w ++ stored_values w) in
      let four = length-append (loaded_registers w) (stored_values w) in
      omega arith

  -- the moves before the first part, and after each
  pub order_joined : (a b c d e : List Step) → a ≡ [] → b ≡ a ++ stored_registers w → c ≡ b ++ spread_values w scratch → d ≡ c ++ (settled w scratch ++ loaded_registers w) → e ≡ d ++ stored_values w → e ≡ order_of w scratch
  order_joined a b c d e none first second third fourth =
      let p = stored_registers w in
      let q = spread_values w scratch in
      let r = settled w scratch in
      let s = loaded_registers w in
      let t = stored_values w in
      fourth ∙ ap (λ x. x ++ t) (third ∙ ap (λ x. x ++ (r ++ s)) (second ∙ ap (λ x. x ++ q) (first ∙ ap (λ x. x ++ p) none)))
      ∙ append_assoc (p ++ q) (r ++ s) t ∙ ap (λ x. (p ++ q) ++ x) (append_assoc r s t) ∙ append_assoc p q (r ++ (s ++ t))
