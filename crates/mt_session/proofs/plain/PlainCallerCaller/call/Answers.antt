-- a command is that of the opened tenant
use Rattle.std.proofs.{Common.{◌<◌, ℕ, length, Option, slice_set, refl, sym, subst, ap, ◌≡◌}, lemmas.Option.slice_get_read}
use Rattle.mt_session.specs.Plain.{PlainTenants, plain_tenants, IsInList, PlainCalls, TenantCalls, next_number}
use Rattle.mt_session.proofs.plain.PlainCallerCaller.call.Goals as goal

pub returns-in-Some : goal.returns-in-Some
returns-in-Some c =
    let list = c.self.inside.tenants.items in
    let opened = c.self.inside.opened in
    let last = c.self.inside.last in
    let number : c.saturating_add-self-inside.result ≡ next_number last = c.saturating_add-self-inside.ensures in
    let place = c.in-Some.place in
    let now = slice_set list place c.call_tenant.new.tenant in
    let after = plain_tenants now opened c.saturating_add-self-inside.result in
    let listed : place < length list = subst (IsInList list) c.in-Some.is c.self.invariant in
    let at = slice_get_read list (length list) place c.index_mut.result.now refl listed c.index_mut.ensures.value in
    let told = subst (λ n. TenantCalls c.index_mut.result.now n c.args.command c.call_tenant.result c.call_tenant.new.tenant) number c.call_tenant.ensures in
    subst (λ (d : PlainTenants). PlainCalls d.opened d c.args.command c.call_tenant.result after) c.self.view_is
    (subst (λ (o : Option ℕ). PlainCalls o (plain_tenants list opened last) c.args.command c.call_tenant.result after) (sym c.in-Some.is)
    (c.index_mut.result.now, c.call_tenant.new.tenant, at, told, ap (plain_tenants now opened) number))
