-- An operation that has made a step: its numbers, and what is kept of every operation: for all phases.
use Rattle.std.proofs.{Common.{◌≡◌, ℕ, zero, suc, ◌+◌, ◌<◌, ◌≤◌, ◌⊎◌, inl, inr, cond, eqb, Option, IsSome, refl, ap, ◌∙◌, arith, false}, lemmas.Bool.ne_eqb}
use Rattle.mt_rows.specs.Accounts.{account_of}
use Rattle.mt_operation.specs.{declared.walk.Walk.Walk, declared.outcome.Outcome.Outcome, declared.prepared.Prepared.Prepared, declared.splits.Splits.Splits}
use Rattle.mt_operation.specs.{declared.operation.Operation.Operation, Operations.{view_of, moved, no_removal}, Phases.{MayFollow, IsOfKind}}
use Rattle.mt_operation.specs.{declared.removal.Removal.Removal, Tasks.ask}
use Rattle.mt_state.specs.{Views.Core, Steps.HasMoved, KeptOperations.IsOpenOperation}
use Rattle.mt_remove.specs.Writes.{is_remove}

-- the number of an operation's first step, once it has made one
pub first_is : (n step : ℕ) → ((n ≡ 0) × (cond (eqb n 0) step n ≡ step)) ⊎ ((0 < n) × (cond (eqb n 0) step n ≡ n))
first_is zero step = inl (refl, refl)
first_is (suc n) step = inr (omega arith, ap (λ b. cond b step (suc n)) (ne_eqb (suc n) 0 (λ e. absurd (cc))))

-- an operation that has walked on by the step of this number, with an outcome or none, and with or without what it has made ready
abbrev pub went : Operation → ℕ → Walk → Option Outcome → Option Prepared → Operation
went op step w told prepared = record (moved op step w) { outcome = told; prepared = prepared }

-- and with these splits
abbrev pub went_with : Operation → ℕ → Walk → Option Outcome → Option Prepared → Splits → Operation
went_with op step w told prepared s = record (moved op step w) { outcome = told; prepared = prepared; splits = s }

-- and with this of its removal
abbrev pub went_on : Operation → ℕ → Walk → Option Outcome → Option Prepared → Splits → Removal → Operation
went_on op step w told prepared s r = record (moved op step w) { outcome = told; prepared = prepared; splits = s; removal = r }

module _ (c : Core) (op : Operation) (k : IsOpenOperation c op) (w : Walk) where
  -- an operation that made this step has a first one
  pub first_begun : 0 < (moved op (c.steps + 1) w).walk.first
  first_begun = elim (first_is op.walk.first (c.steps + 1)) [
    | inl (none, is) ↦ omega (arith, is)
    | inr (some, is) ↦ omega (arith, is)
  ]

  -- which is this one or an earlier one
  pub first_upto : (moved op (c.steps + 1) w).walk.first ≤ c.steps + 1
  first_upto = elim (first_is op.walk.first (c.steps + 1)) [
    | inl (none, is) ↦ omega (arith, is)
    | inr (some, is) ↦ omega (arith, is, k.order, k.made)
  ]

  -- and stays the one that it was
  pub first_same : 0 < op.walk.first → (moved op (c.steps + 1) w).walk.first ≡ op.walk.first
  first_same begun = elim (first_is op.walk.first (c.steps + 1)) [
    | inl (none, is) ↦ absurd (omega (arith, none, begun))
    | inr (some, is) ↦ is
  ]

  -- what is kept of every operation
  pub open_moved_on : (new : Core) (told : Option Outcome) (prepared : Option Prepared) (s : Splits) (r : Removal)
      → (is_remove (ask op.task) ≡ false → r ≡ no_removal) → new.steps ≡ c.steps + 1
      → new.tape.floor ≡ c.tape.floor → ((t : ℕ) → IsSome (account_of c.accounts t) → IsSome (account_of new.accounts t)) → c.tape.floor ≤ c.steps
      → w.aim ≡ op.walk.aim → IsOfKind w.phase w.aim → IsOpenOperation new (went_on op (c.steps + 1) w told prepared s r)
  open_moved_on new told prepared s r light steps floor accounts upto aim kind = record {
    stored = k.stored;
    tenant_is = k.tenant_is;
    owner = k.owner;
    columns = k.columns;
    tenant = accounts op.task.tenant k.tenant;
    aim = aim ∙ k.aim;
    kind = kind;
    order = first_upto;
    made = omega (arith, steps);
    born = omega (arith, steps, k.born);
    birth = λ begun. elim (first_is op.walk.first (c.steps + 1)) [
      | inl (none, is) ↦ omega (arith, is, k.born)
      | inr (some, is) ↦ omega (arith, is, k.birth some)
    ];
    floor = λ begun. elim (first_is op.walk.first (c.steps + 1)) [
      | inl (none, is) ↦ omega (arith, is, floor, upto)
      | inr (some, is) ↦ omega (arith, is, floor, k.floor some)
    ];
    begun = λ other. first_begun;
    short = k.short;
    counts = k.counts;
    light = light;
  }

  pub open_moved_with : (new : Core) (told : Option Outcome) (prepared : Option Prepared) (s : Splits) → new.steps ≡ c.steps + 1
      → new.tape.floor ≡ c.tape.floor → ((t : ℕ) → IsSome (account_of c.accounts t) → IsSome (account_of new.accounts t)) → c.tape.floor ≤ c.steps
      → w.aim ≡ op.walk.aim → IsOfKind w.phase w.aim → IsOpenOperation new (went_with op (c.steps + 1) w told prepared s)
  open_moved_with new told prepared s = open_moved_on new told prepared s op.removal k.light

  pub open_moved : (new : Core) (told : Option Outcome) (prepared : Option Prepared) → new.steps ≡ c.steps + 1 → new.tape.floor ≡ c.tape.floor
      → ((t : ℕ) → IsSome (account_of c.accounts t) → IsSome (account_of new.accounts t)) → c.tape.floor ≤ c.steps
      → w.aim ≡ op.walk.aim → IsOfKind w.phase w.aim → IsOpenOperation new (went op (c.steps + 1) w told prepared)
  open_moved new told prepared = open_moved_with new told prepared op.splits

  -- what is shown of it
  pub has_moved_on : (told : Option Outcome) (prepared : Option Prepared) (s : Splits) (r : Removal) → MayFollow op.walk.phase w.phase
      → HasMoved (view_of op) (view_of (went_on op (c.steps + 1) w told prepared s r)) (c.steps + 1)
  has_moved_on told prepared s r follows = record {
    asked = record { worker = refl; tenant = refl; command = refl };
    birth = refl;
    first = refl;
    last = refl;
    follows = follows;
  }

  pub has_moved_with : (told : Option Outcome) (prepared : Option Prepared) (s : Splits) → MayFollow op.walk.phase w.phase
      → HasMoved (view_of op) (view_of (went_with op (c.steps + 1) w told prepared s)) (c.steps + 1)
  has_moved_with told prepared s = has_moved_on told prepared s op.removal

  pub has_moved : (told : Option Outcome) (prepared : Option Prepared) → MayFollow op.walk.phase w.phase
      → HasMoved (view_of op) (view_of (went op (c.steps + 1) w told prepared)) (c.steps + 1)
  has_moved told prepared = has_moved_with told prepared op.splits
