-- Tenants stay apart, by their stored keys and in each step: for `tenants_stay_apart`.
use Rattle.std.{proofs.{Common.{◌≡◌, ◌≢◌, ℕ, ◌+◌, ◌<◌, inl, inr, Bool, cond, Some, sym, ap, ◌∙◌}, lemmas.Bool.ne_eqb, lemmas.Option.same_Some}, specs.Prelude.{◌^◌}}
use Rattle.mt_slices.{specs.Keys.{stored_key, tenant_of}, proofs.Tenants.tenant_of-stored_key}
use Rattle.mt_rows.specs.{Rows.Bytes, Maps.map_after, Tenants.tenant_map}
use Rattle.mt_operation.specs.Operations.{OperationView}
use Rattle.mt_state.specs.{Views.{StateView, contents_of, op_at, quota_of}, Promises.IsStep}

-- a stored key has its tenant's number, so two tenants' ones differ
pub keys_apart : (t u : ℕ) (key other : Bytes) → t < 2 ^ 32 → u < 2 ^ 32 → t ≢ u → stored_key t key ≢ stored_key u other
keys_apart t u key other fits fit apart same = apart (sym (tenant_of-stored_key t key fits) ∙ ap tenant_of same ∙ tenant_of-stored_key u other fit)

-- a step leaves the contents as they were, or applies its command to its own tenant's map
pub maps_apart : (old new : StateView) (o t : ℕ) (done : Bool) (op : OperationView) → IsStep old new o done → op_at old.table o ≡ Some op → t ≢ op.tenant
    → tenant_map t (contents_of new) ≡ tenant_map t (contents_of old)
maps_apart old new o t done op s there apart =
    let same = same_Some s.before op (sym s.there ∙ there) in
    elim s.effect [
      | inl quiet ↦ ap (tenant_map t) quiet.contents
      | inr placing ↦
          placing.makes t ∙ ap (λ b. cond b (map_after (quota_of old t) (old.steps + 1) s.before.command (tenant_map t (contents_of old))) (tenant_map t (contents_of old)))
          (ne_eqb t s.before.tenant (λ is. apart (is ∙ ap (λ (p : OperationView). p.tenant) same)))
    ]
