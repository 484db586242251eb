-- The items of a list are turned one by one, in their order. Assumes nothing.
use Rattle.std.proofs.Common.{◌≡◌, ℕ, ◌+◌, ◌<◌, ◌≤◌, List, length, get_or, set, sym, ◌∙◌, subst, arith, get_or-set_other, get_or-set_same, below_more}
use Rattle.std.proofs.lemmas.List.{get_or_default}

-- at each number the item `old` may become `new`
module _ {T : Type 0} (Becomes : (old : T) (k : ℕ) (new : T) → Type 0) where
  -- those below k are turned, the others are as they were, and the next one is turned; b is any other default
  pub sweep_more : (entry cells : List T) (k : ℕ) (new b d : T) → k < length cells
      → ((j : ℕ) → j < k → Becomes (get_or entry j d) j (get_or cells j d))
      → ((j : ℕ) → k ≤ j → get_or cells j d ≡ get_or entry j d)
      → Becomes (get_or cells k b) k new
      → (j : ℕ) → j < k + 1 → Becomes (get_or entry j d) j (get_or (set cells k new) j d)
  sweep_more entry cells k new b d inside turned rest here =
      below_more _ k (λ j l. subst (Becomes (get_or entry j d) j) (sym (get_or-set_other cells k j new d (λ e. omega arith))) (turned j l))
      (subst (Becomes (get_or entry k d) k) (sym (get_or-set_same cells k new d inside)) (subst (λ old. Becomes old k new) (get_or_default cells k b d inside ∙ rest k (omega arith)) here))
