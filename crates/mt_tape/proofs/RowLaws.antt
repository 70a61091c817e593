-- Contents with one row written: what stands at each key, the row put back, and the tenants' maps. For the maps that a tape tells of.
use Rattle.std.proofs.Common.{◌≡◌, ◌≢◌, ℕ, Bool, true, false, cond, Option, Some, None, refl, sym, ap, ◌∙◌}
use Rattle.std.specs.{Ordering.eq_by_cmp, FinMap.{get, get-insert, get-remove}}
use Rattle.mt_rows.specs.{Rows.Bytes, Tenants.{owned_cmp, Contents, tenant_map}, Stamps.Stamped}
use Rattle.mt_rows.proofs.ContentLaws.{owned_total, same_contents, same_owner, tied_owner, tenant_map-insert, tenant_map-insert_other, tenant_map-remove, tenant_map-remove_other}
use Rattle.mt_tape.specs.Histories.{with_row}

-- a written row stands at its key, and at each other what stood there
pub get-with_row : (contents : Contents) (key : ℕ × Bytes) (row : Option Stamped) (q : ℕ × Bytes) → get (with_row contents key row) q ≡ cond (eq_by_cmp owned_cmp q key) row (get contents q)
get-with_row contents key None q = get-remove owned_total contents key q
get-with_row contents key (Some row) q = get-insert owned_total contents key row q

-- so its key has it
pub get-with_row_same : (contents : Contents) (key : ℕ × Bytes) (row : Option Stamped) → get (with_row contents key row) key ≡ row
get-with_row_same contents key row = get-with_row contents key row key ∙ ap (λ b. cond b row (get contents key)) (same_owner key)

-- and any other key has what it had
pub get-with_row_other : (contents : Contents) (key : ℕ × Bytes) (row : Option Stamped) (q : ℕ × Bytes) → key ≢ q → get (with_row contents key row) q ≡ get contents q
get-with_row_other contents key row q other = get-with_row contents key row q ∙ by (eq_by_cmp owned_cmp q key) refl
  where
    by : (b : Bool) → eq_by_cmp owned_cmp q key ≡ b → cond b row (get contents q) ≡ get contents q
    by true is = absurd (other (sym (tied_owner q key is)))
    by false is = refl

-- the row that was there, put back, gives the contents that were
pub with_row-put_back : (contents : Contents) (key : ℕ × Bytes) (row was : Option Stamped) → get contents key ≡ was → with_row (with_row contents key row) key was ≡ contents
with_row-put_back contents key row was is = same_contents _ contents (λ q.
    get-with_row (with_row contents key row) key was q ∙ by q (eq_by_cmp owned_cmp q key) refl)
  where
    by : (q : ℕ × Bytes) (b : Bool) → eq_by_cmp owned_cmp q key ≡ b → cond b was (get (with_row contents key row) q) ≡ get contents q
    by q true e = sym is ∙ ap (get contents) (sym (tied_owner q key e))
    by q false e = get-with_row contents key row q ∙ ap (λ b. cond b row (get contents q)) e

-- a row written for a tenant is one in its map
pub tenant_map-with_row : (t : ℕ) (contents : Contents) (key : Bytes) (row : Option Stamped) → tenant_map t (with_row contents (t, key) row) ≡ with_row (tenant_map t contents) key row
tenant_map-with_row t contents key None = tenant_map-remove t contents key
tenant_map-with_row t contents key (Some row) = tenant_map-insert t contents key row

-- and none in another's
pub tenant_map-with_row_other : (t u : ℕ) (contents : Contents) (key : Bytes) (row : Option Stamped) → u ≢ t → tenant_map t (with_row contents (u, key) row) ≡ tenant_map t contents
tenant_map-with_row_other t u contents key None other = tenant_map-remove_other t u contents key other
tenant_map-with_row_other t u contents key (Some row) other = tenant_map-insert_other t u contents key row other
