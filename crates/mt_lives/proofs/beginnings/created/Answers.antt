-- The logs that were made, and a state in which nothing has happened, are those of a new store.
use Rattle.std.proofs.{Common.{rules, ◌≡◌, ◌++◌, length, take, drop, refl, sym, ap, subst, ◌∙◌, Some}, Math.Seq.take-append_seam}
use Rattle.std.specs.Prelude.{vec_len}
use Rattle.mt_state.specs.Begins.{new_state}
use Rattle.mt_lives.{specs.{declared.live_slots.LiveSlots.TheVariants.Rest, Lives.new_standing, Holds.Holds, Returns.IsFresh}, proofs.{Flushing.{keeps_rules, failures_of}, Beginning.holds_new}}
use Rattle.mt_disk.specs.Mem.{mem_state}
use Rattle.mt_store_logs.{specs.{Places.AreInOrder, Opens.{AreClosedOn, MakesAll}}, proofs.Closed.{closed_in_order, same_order}}
use Rattle.mt_lives.proofs.beginnings.created.Goals as goal

pub returns-clause-ok : goal.returns-clause-ok
returns-clause-ok c =
    let made = c.create_logs.new.logs in
    let was = c.deref_mut.result.now in
    let files = c.args.files.items in
    let many : vec_len c.args.files ≡ length files = search rules in
    let closed : AreClosedOn (length files) files was =
    subst (AreClosedOn (length files) files) (sym c.deref_mut.ensures.value) (subst (λ n. AreClosedOn n files c.in_ok-logs.logs.items) many c.in_ok-logs.ensures.logs) in
    let behind = drop (length made) c.in_ok-logs.logs.items in
    let len : c.in_ok-logs.logs.len ≡ length made = search rules in
    let whole : take c.in_ok-logs.logs.len (made ++ behind) ≡ made = ap (λ n. take n (made ++ behind)) len ∙ take-append_seam made behind in
    let is : c.in_ok-state.state ≡ new_state (length made) c.args.tenants.now = search rules in
    let fresh : IsFresh c.new-2.result = record {
      tickets = c.new-2.ensures.tickets;
      names = c.new-2.ensures.names;
      settles = c.new-2.ensures.settles;
    } in
    subst (λ logs. Holds c.args.tenants.now (Rest c.create.new.self) new_standing logs (Some c.new-2.result)) (sym whole)
    (holds_new c.args.tenants.now files was made c.requires.some c.requires.few closed c.in_default.ensures.ok c.in_ok-state.state is c.facts.ensures c.new-2.result c.new-2.ensures.state fresh c.new-2.ensures.generation
    c.args.slots c.create.new.self c.in_default-create.ensures.ok)

pub returns-clause-order : goal.returns-clause-order
returns-clause-order c =
    let made = c.create_logs.new.logs in
    let was = c.deref_mut.result.now in
    let files = c.args.files.items in
    let many : vec_len c.args.files ≡ length files = search rules in
    let closed : AreClosedOn (length files) files was =
    subst (AreClosedOn (length files) files) (sym c.deref_mut.ensures.value) (subst (λ n. AreClosedOn n files c.in_ok-logs.logs.items) many c.in_ok-logs.ensures.logs) in
    let behind = drop (length made) c.in_ok-logs.logs.items in
    let len : c.in_ok-logs.logs.len ≡ length made = search rules in
    let whole : take c.in_ok-logs.logs.len (made ++ behind) ≡ made = ap (λ n. take n (made ++ behind)) len ∙ take-append_seam made behind in
    subst AreInOrder (sym whole) (same_order was made c.create_logs.ensures.workers (closed_in_order (length files) files was closed))

pub returns-clause-made : goal.returns-clause-made
returns-clause-made c =
    let made = c.create_logs.new.logs in
    let was = c.deref_mut.result.now in
    let files = c.args.files.items in
    let many : vec_len c.args.files ≡ length files = search rules in
    let closed : AreClosedOn (length files) files was =
    subst (AreClosedOn (length files) files) (sym c.deref_mut.ensures.value) (subst (λ n. AreClosedOn n files c.in_ok-logs.logs.items) many c.in_ok-logs.ensures.logs) in
    let behind = drop (length made) c.in_ok-logs.logs.items in
    let len : c.in_ok-logs.logs.len ≡ length made = search rules in
    let whole : take c.in_ok-logs.logs.len (made ++ behind) ≡ made = ap (λ n. take n (made ++ behind)) len ∙ take-append_seam made behind in
    (was, closed, subst (λ logs. MakesAll keeps_rules mem_state failures_of was logs) (sym whole) c.in_default.ensures.ok)

pub returns-clause-slots : goal.returns-clause-slots
returns-clause-slots c = (c.create.new.self, refl, c.in_default-create.ensures.ok)

pub returns-clause-serves : goal.returns-clause-serves
returns-clause-serves c = (c.new-2.result, refl)
