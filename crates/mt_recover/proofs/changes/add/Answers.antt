-- The map tells one record more.
use Rattle.std.proofs.{Common.{rules, cond, ◌≡◌, ◌∙◌, ap, sym, Option, Some, None}, lemmas.Result.on_ok_weaker}
use Rattle.std.specs.{Option.{option_copied_mut, unwrap_or}, BTreeMap.{is_at, get}}
use Rattle.mt_rows.specs.{Stamps.Stamped, Tenants.owned_cmp, TenantPairs.pairs_of}
use Rattle.mt_crashes.specs.Fronts.{key_of, replayed}
use Rattle.mt_recover.{specs.Changes.Changes, proofs.ChangeMaps.one_after}
use Rattle.mt_recover.proofs.changes.add.Goals as goal
use Rattle.std.specs.FinMap as fin

pub returns-in-Some : goal.returns-in-Some
returns-in-Some c =
    let change = c.args.change in
    let pairs = pairs_of c.args.pairs.now in
    let row = c.replay_over.new.row in
    let there : get owned_cmp c.args.changes.now (key_of change) ≡ Some c.in-Some.row.now = sym c.in-Some.ensures.value in
    on_ok_weaker c.replay_over.result
    (λ made m after.
    one_after change c.args.changes.now (c.get_mut.follows.lender row) pairs m after row ((c.get_mut.follows.holds row).3 (search (rules, there))).0
    (made ∙ ap (λ (o : Option (Option Stamped)). replayed change.stamp change.write (unwrap_or o (fin.get pairs (key_of change)))) (sym there)))
    c.replay_over.ensures

pub returns : goal.returns
returns c =
    let change = c.args.change in
    let pairs = pairs_of c.args.pairs.now in
    let none : get owned_cmp c.args.changes.now (key_of change) ≡ None = sym c.get_mut.ensures.value ∙ ap option_copied_mut c.in_default.is in
    λ m after.
    one_after change c.args.changes.now c.insert.new.self pairs m after c.replay_over-2.new.row (λ q. c.in_ok-insert.ensures.updates.0 q ∙ ap (λ (old : Changes). cond (is_at (owned_cmp (key_of change)) q) (Some c.replay_over-2.new.row) (get owned_cmp old q)) c.get_mut.follows.holds-at-none)
    (c.in_ok-replay_over.ensures
    ∙ ap (replayed change.stamp change.write) (c.in_ok-row.ensures ∙ ap (λ (o : Option (Option Stamped)). unwrap_or o (fin.get pairs (key_of change))) (sym none)))
