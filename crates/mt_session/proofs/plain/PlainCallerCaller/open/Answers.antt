-- a tenant is opened where it is in the list
use Rattle.std.proofs.Common.{◌≡◌, None, Some, refl, sym, ap, subst, ◌∙◌}
use Rattle.mt_rows.specs.declared.refusal.Refusal.TheVariants.{NoTenant}
use Rattle.mt_session.specs.Plain.{PlainTenants, plain_tenants, place_of, PlainOpens}
use Rattle.mt_session.proofs.plain.PlainCallerCaller.open.Goals as goal

pub returns-in-Some : goal.returns-in-Some
returns-in-Some c =
    let place = place_of c.self.inside.tenants.items c.args.tenant in
    let is : place ≡ Some c.in-Some.place = ap (λ l. place_of l c.args.tenant) (sym c.deref.ensures.value) ∙ sym c.find_tenant.ensures ∙ c.in-Some.is in
    subst (λ (d : PlainTenants). PlainOpens (place_of d.list c.args.tenant) d c.args.tenant None (plain_tenants c.self.inside.tenants.items (Some c.in-Some.place) c.self.inside.last)) c.self.view_is
    (rw is (refl, refl))

pub returns-in-None : goal.returns-in-None
returns-in-None c =
    let place = place_of c.self.inside.tenants.items c.args.tenant in
    let is : place ≡ None = ap (λ l. place_of l c.args.tenant) (sym c.deref.ensures.value) ∙ sym c.find_tenant.ensures ∙ c.in-None.is in
    subst (λ (d : PlainTenants). PlainOpens (place_of d.list c.args.tenant) d c.args.tenant (Some (NoTenant c.args.tenant)) d) c.self.view_is (rw is (refl, refl))
