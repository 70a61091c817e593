-- What Snap reads, and what is kept of it.
use Rattle.std.{proofs.Common.{◌≡◌, ℕ, true, false, Option, Result, Ok, Err, refl, sym, ap, subst, ◌∙◌}, specs.{Prelude.OnErr, List.All}}
use Rattle.mt_rows.specs.Rows.{Bytes}
use Rattle.mt_slices.specs.Keys.{tenant_of}
use Rattle.mt_arena.specs.{NodeView.NodeView, declared.tree.Tree.Tree, Accesses.at}
use Rattle.mt_operation.specs.{Operations.{ScanView, scan_of}, declared.phase.Phase.TheVariants.Check}
use Rattle.mt_readings.specs.Reading.{is_behind}
use Rattle.mt_scan.specs.{Snaps.{SnapsOr, StopsAt, next_at}, Looks.{has_unstable, NamesTenant, IsOfTenant}, Hops.IsAtCheck}
use Rattle.mt_scan.proofs.Snapping.{same_behind, blocked, held_then, names, of_tenant, settled, ends, all_seen, at_check}
use Rattle.mt_scan.proofs.phases.snap.snap.Goals as goal

pub returns-then-has_unstable-clause-snaps : goal.returns-then-has_unstable-clause-snaps
returns-then-has_unstable-clause-snaps c =
    let v = c.args.arena.now in
    let w = c.args.walk.now in
    let s : ScanView = scan_of c.args.task.now c.args.scan.now in
    let f = c.fence_of-fence.ensures in
    let b = same_behind s w.layer _ _ _ _ f.slice f.mark f.suffix f.after in
    let slots = ap (λ (x : NodeView). x.slots) c.border-border.ensures in
    let some : has_unstable (is_behind s.fence s.after w.layer) (at v w.place.node).slots ≡ true = (λ i. has_unstable (sym b i) (slots i))
    ∙ sym c.if-has_unstable.ensures in
    subst (SnapsOr v w w s s) (sym (c.holder.ensures ∙ ap (λ (x : NodeView). x.holder) c.node.ensures)) (blocked v s w c.facts.ensures.arena c.requires.kept some)

pub returns-then-has_unstable-clause-kept : goal.returns-then-has_unstable-clause-kept
returns-then-has_unstable-clause-kept c =
    let v = c.args.arena.now in
    let w = c.args.walk.now in
    let s : ScanView = scan_of c.args.task.now c.args.scan.now in
    let f = c.fence_of-fence.ensures in
    let b = same_behind s w.layer _ _ _ _ f.slice f.mark f.suffix f.after in
    let slots = ap (λ (x : NodeView). x.slots) c.border-border.ensures in
    let some : has_unstable (is_behind s.fence s.after w.layer) (at v w.place.node).slots ≡ true = (λ i. has_unstable (sym b i) (slots i))
    ∙ sym c.if-has_unstable.ensures in
    λ none. absurd (held_then v s w c.facts.ensures.arena c.requires.kept some (sym (c.holder.ensures ∙ ap (λ (x : NodeView). x.holder) c.node.ensures) ∙ none))

pub see-requires-clause-names : goal.see-requires-clause-names
see-requires-clause-names c =
    let v = c.args.arena.now in
    let w = c.args.walk.now in
    let s : ScanView = scan_of c.args.task.now c.args.scan.now in
    let slots = ap (λ (x : NodeView). x.slots) c.border-border.ensures in
    let prefix = c.as_bytes-prefix.ensures ∙ ap (λ (x : Tree). x.prefix) c.tree.ensures in
    subst (All (NamesTenant c.as_bytes-prefix.result.now)) slots
    (subst (λ (p : Bytes). All (NamesTenant p) (at v w.place.node).slots) (sym prefix) (names v s w c.facts.ensures.arena c.requires.kept))

pub see-requires-clause-tenant : goal.see-requires-clause-tenant
see-requires-clause-tenant c =
    let v = c.args.arena.now in
    let w = c.args.walk.now in
    let s : ScanView = scan_of c.args.task.now c.args.scan.now in
    let prefix = c.as_bytes-prefix.ensures ∙ ap (λ (x : Tree). x.prefix) c.tree.ensures in
    subst (IsOfTenant c.as_bytes-prefix.result.now) (sym c.tenant-tenant.ensures.value)
    (subst (λ (p : Bytes). IsOfTenant p (tenant_of s.fence)) (sym prefix) (of_tenant v s w c.facts.ensures.arena c.requires.kept))

pub returns-clause-snaps : goal.returns-clause-snaps
returns-clause-snaps c =
    let v = c.args.arena.now in
    let w = c.args.walk.now in
    let s : ScanView = scan_of c.args.task.now c.args.scan.now in
    let f = c.fence_of-fence.ensures in
    let b = same_behind s w.layer _ _ _ _ f.slice f.mark f.suffix f.after in
    let slots = ap (λ (x : NodeView). x.slots) c.border-border.ensures in
    let prefix = c.as_bytes-prefix.ensures ∙ ap (λ (x : Tree). x.prefix) c.tree.ensures in
    let none : has_unstable (is_behind s.fence s.after w.layer) (at v w.place.node).slots ≡ false = (λ i. has_unstable (sym b i) (slots i))
    ∙ sym c.if-has_unstable.ensures in
    let next = c.next_of-walk.ensures ∙ ap (λ (x : NodeView). next_at x.next c.stop_at-scan.result) (sym c.border-border.ensures) in
    record {
      settled = settled (is_behind s.fence s.after w.layer) (at v w.place.node).slots none;
      seen = all_seen v s w c.facts.ensures.arena c.requires.kept _ _ _ _ _ _ slots b c.tenant-tenant.ensures.value prefix c.clear.ensures c.in_ok-link.ensures.seen;
      stops = ends v s w c.facts.ensures.arena c.requires.kept _ _ _ _ _ _ slots b c.tenant-tenant.ensures.value
          (c.high.ensures ∙ ap (λ (x : NodeView). x.high) (sym c.border-border.ensures))
          c.in_ok-link.ensures.link c.stop_at-scan.ensures;
      rest = refl;
      walk = ap (λ (o : Option ℕ). record w { next = o; phase = Check }) next;
    }

pub returns-clause-kept : goal.returns-clause-kept
returns-clause-kept c =
    let v = c.args.arena.now in
    let w = c.args.walk.now in
    let s : ScanView = scan_of c.args.task.now c.args.scan.now in
    let f = c.fence_of-fence.ensures in
    let b = same_behind s w.layer _ _ _ _ f.slice f.mark f.suffix f.after in
    let slots = ap (λ (x : NodeView). x.slots) c.border-border.ensures in
    let next = c.next_of-walk.ensures ∙ ap (λ (x : NodeView). next_at x.next c.stop_at-scan.result) (sym c.border-border.ensures) in
    let end : StopsAt (at v w.place.node) s w.layer c.stop_at-scan.result =
    ends v s w c.facts.ensures.arena c.requires.kept _ _ _ _ _ _ slots b c.tenant-tenant.ensures.value
    (c.high.ensures ∙ ap (λ (x : NodeView). x.high) (sym c.border-border.ensures)) c.in_ok-link.ensures.link
    c.stop_at-scan.ensures in
    λ none. subst (λ (o : Option ℕ). IsAtCheck v s.fence (record w { next = o; phase = Check }) c.stop_at-scan.result) (sym next)
    (at_check v s w c.facts.ensures.arena c.requires.kept c.stop_at-scan.result end)

on_err : {A E P : Type 0} (r : Result A E) → P → OnErr r P
on_err (Ok a) p = tt
on_err (Err e) p = p

pub returns-in_err-link-clause-settled_on_err : goal.returns-in_err-link-clause-settled_on_err
returns-in_err-link-clause-settled_on_err c =
    let w = c.args.walk.now in
    let s : ScanView = scan_of c.args.task.now c.args.scan.now in
    let f = c.fence_of-fence.ensures in
    let b = same_behind s w.layer _ _ _ _ f.slice f.mark f.suffix f.after in
    let slots = ap (λ (x : NodeView). x.slots) c.border-border.ensures in
    let none : has_unstable (is_behind s.fence s.after w.layer) (at c.args.arena.now w.place.node).slots ≡ false = (λ i. has_unstable (sym b i) (slots i))
    ∙ sym c.if-has_unstable.ensures in
    on_err c.from_residual.result (settled (is_behind s.fence s.after w.layer) (at c.args.arena.now w.place.node).slots none)
