-- The table as it is shown, by the table that is inside: for all calls.
use Rattle.std.proofs.{Common.{◌≡◌, ℕ, zero, suc, [], ◌∷◌, set, Option, Some, None, refl, sym, ap, ◌∙◌}, lemmas.Option.same_Some}
use Rattle.std.specs.{Prelude.map, Option.option_map}
use Rattle.mt_operation.specs.{declared.operation.Operation.Operation, Operations.{OperationView, view_of}, Tables.{Table, op_at as operation_at}}
use Rattle.mt_state.specs.Views.{Shown, op_at}

-- what is shown of a table
abbrev pub shown_table : Table → Shown
shown_table table = map (option_map view_of) table

-- of each operation
pub shown_at : (table : Table) (o : ℕ) → op_at (shown_table table) o ≡ option_map view_of (operation_at table o)
shown_at [] o = refl
shown_at (x ∷ table) zero = refl
shown_at (x ∷ table) (suc o) = shown_at table o

-- of one that is there
pub shown_there : (table : Table) (o : ℕ) (op : Operation) → operation_at table o ≡ Some op → op_at (shown_table table) o ≡ Some (view_of op)
shown_there table o op is = shown_at table o ∙ ap (option_map view_of) is

-- and of a table with another operation
pub shown_set : (table : Table) (o : ℕ) (op : Option Operation) → shown_table (set table o op) ≡ set (shown_table table) o (option_map view_of op)
shown_set [] o op = refl
shown_set (x ∷ table) zero op = refl
shown_set (x ∷ table) (suc o) op = ap (λ t. option_map view_of x ∷ t) (shown_set table o op)

-- what is shown is shown of an operation that is inside
pub inside_of : (table : Table) (o : ℕ) (view : OperationView) → op_at (shown_table table) o ≡ Some view
    → (op : Operation) × (operation_at table o ≡ Some op) × (view_of op ≡ view)
inside_of table o view is = known (operation_at table o) refl
  where
    known : (x : Option Operation) → operation_at table o ≡ x → (op : Operation) × (operation_at table o ≡ Some op) × (view_of op ≡ view)
    known None e = absurd (let no = sym is ∙ shown_at table o ∙ ap (option_map view_of) e in cc)
    known (Some op) e = (op, e, same_Some (view_of op) view (sym (shown_there table o op e) ∙ is))
