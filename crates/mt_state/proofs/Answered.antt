-- How many of a table's operations have made a step, where one of them is begun, makes a step or is taken out: for all steps, begins and takes.
use Rattle.std.proofs.Common.{◌≡◌, ◌≢◌, ℕ, zero, suc, ◌+◌, ◌<◌, ◌≤◌, inl, inr, Bool, true, false, cond, eqb, [], ◌∷◌, set, Option, Some, None, refl, sym, ap, ◌∙◌, arith}
use Rattle.std.proofs.lemmas.Bool.{cases_eq, ne_eqb}
use Rattle.mt_operation.specs.{declared.operation.Operation.Operation, Operations.{OperationView, view_of}, Tables.{Table, op_at as operation_at}}
use Rattle.mt_state.{specs.{Views.{Shown, op_at}, Invariant.{one_if_made, made_count}}, proofs.Shown.{shown_table, shown_there, shown_set}}

-- an operation counts at most once
one_at_most : (x : Option OperationView) → one_if_made x ≤ 1
one_at_most None = omega arith
one_at_most (Some op) = by (eqb op.first 0)
  where
    by : (b : Bool) → cond b 0 1 ≤ 1
    by true = omega arith
    by false = omega arith

-- one that has made a step counts once
pub made_once : (op : OperationView) → 0 < op.first → one_if_made (Some op) ≡ 1
made_once op begun = ap (λ b. cond b 0 1) (ne_eqb op.first 0 (λ is. omega (arith, is, begun)))

-- one that has made none counts nothing
pub made_never : (op : OperationView) → op.first ≡ 0 → one_if_made (Some op) ≡ 0
made_never op none = ap (λ f. cond (eqb f 0) 0 1) none

-- where one place is written over, at most one operation more has made a step
pub made_over : (table : Shown) (o : ℕ) (x : Option OperationView) → made_count (set table o x) ≤ suc (made_count table)
made_over [] o x = omega arith
made_over (y ∷ table) zero x = let one = one_at_most x in omega (arith, one)
made_over (y ∷ table) (suc o) x = let rest = made_over table o x in omega (arith, rest)

-- the same of the table that is inside
pub made_set : (table : Table) (o : ℕ) (after : Operation) → made_count (shown_table (set table o (Some after))) ≤ suc (made_count (shown_table table))
made_set table o after =
    let is = ap made_count (shown_set table o (Some after)) in let over = made_over (shown_table table) o (Some (view_of after)) in omega (arith, is, over)

-- nothing counts where nothing has made a step
none_made : (table : Shown) → ((q : ℕ) → one_if_made (op_at table q) ≡ 0) → made_count table ≡ 0
none_made [] none = refl
none_made (x ∷ table) none = let one = none 0 in let rest = none_made table (λ q. none (suc q)) in omega (arith, one, rest)

-- two tables whose operations count the same, id by id, count the same, however long they are
pub made_same : (old new : Shown) → ((q : ℕ) → one_if_made (op_at new q) ≡ one_if_made (op_at old q)) → made_count new ≡ made_count old
made_same [] new same = none_made new same
made_same (x ∷ old) [] same = sym (none_made (x ∷ old) (λ q. sym (same q)))
made_same (x ∷ old) (y ∷ new) same = let one = same 0 in let rest = made_same old new (λ q. same (suc q)) in omega (arith, one, rest)

-- an operation more that has made no step, at an id that was free, counts nothing
pub made_begun : (old new : Shown) (o : ℕ) (op : OperationView) → op_at old o ≡ None → op_at new o ≡ Some op → op.first ≡ 0
    → ((q : ℕ) → q ≢ o → op_at new q ≡ op_at old q) → made_count new ≡ made_count old
made_begun old new o op free there none others = made_same old new (λ q. elim (cases_eq q o) [
  | inl is ↦ ap (λ k. one_if_made (op_at new k)) is ∙ ap one_if_made there ∙ made_never op none ∙ sym (ap (λ k. one_if_made (op_at old k)) is ∙ ap one_if_made free)
  | inr ne ↦ ap one_if_made (others q ne)
])

-- one operation less counts one less, if it has made a step
pub made_taken : (table : Shown) (o : ℕ) (op : OperationView) → op_at table o ≡ Some op → 0 < op.first → suc (made_count (set table o None)) ≡ made_count table
made_taken [] o op there begun = absurd (cc)
made_taken (x ∷ table) zero op there begun = let one = ap one_if_made there ∙ made_once op begun in omega (arith, one)
made_taken (x ∷ table) (suc o) op there begun = let rest = made_taken table o op there begun in omega (arith, rest)

-- a begin keeps the bound
pub answered_begun : (answers steps : ℕ) (old new : Shown) (o : ℕ) (op : OperationView) → op_at old o ≡ None → op_at new o ≡ Some op → op.first ≡ 0
    → ((q : ℕ) → q ≢ o → op_at new q ≡ op_at old q) → answers + made_count old ≤ steps → answers + made_count new ≤ steps
answered_begun answers steps old new o op free there none others bound = let is = made_begun old new o op free there none others in omega (arith, is, bound)

-- a take keeps the bound: by the table as it is shown, and by the one that is inside
pub answered_taken : (answers steps : ℕ) (table : Shown) (o : ℕ) (op : OperationView) → op_at table o ≡ Some op → 0 < op.first
    → answers + made_count table ≤ steps
    → answers + 1 + made_count (set table o None) ≤ steps
answered_taken answers steps table o op there begun bound = let one = made_taken table o op there begun in omega (arith, one, bound)

pub answered_out : (answers steps : ℕ) (table : Table) (o : ℕ) (op : Operation) → operation_at table o ≡ Some op → 0 < op.walk.first
    → answers + made_count (shown_table table) ≤ steps
    → answers + 1 + made_count (shown_table (set table o None)) ≤ steps
answered_out answers steps table o op there begun bound =
    let is = ap made_count (shown_set table o None) in
    let kept = answered_taken answers steps (shown_table table) o (view_of op) (shown_there table o op there) begun bound in
    omega (arith, is, kept)
