-- the tenant is told by the bytes written first
use Rattle.std.proofs.Common.{arith}
use Rattle.mt_slices.proofs.Tenants.{tenant_of-stored_key}
use Rattle.mt_slices.proofs.key.StoredKey.rewrite.Goals as goal

pub returns-clause-tenant : goal.returns-clause-tenant
returns-clause-tenant c =
    rw (c.in_ok-extend_from_slice.ensures.items, c.copy_from_slice.ensures.items, c.to_be_bytes-own.ensures)
    (tenant_of-stored_key c.args.tenant c.args.key.now (omega arith))
