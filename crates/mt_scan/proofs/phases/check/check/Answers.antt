-- What Check makes of a scan, and what is kept of it.
use Rattle.std.proofs.Common.{sym, ap, subst, ◌∙◌}
use Rattle.mt_version.specs.{Parts.Parts, Changes.{IsStable, SameButLock}}
use Rattle.mt_rows.specs.Rows.{Bytes}
use Rattle.mt_arena.specs.{NodeView.NodeView, declared.tree.Tree.Tree, Accesses.at}
use Rattle.mt_descent.proofs.Ways.{kept_moved_on}
use Rattle.mt_operation.specs.Operations.{scan_of}
use Rattle.mt_scan.{specs.{Snaps.prefix_in, Goings.HasBehind}, proofs.Checking.{checked, stands, has_behind, kept_kept, kept_moved}}
use Rattle.mt_scan.proofs.phases.check.check.Goals as goal

pub keep-requires-clause-fence : goal.keep-requires-clause-fence
keep-requires-clause-fence c =
    let v = c.args.arena.now in
    let w = c.args.walk.now in
    let prefix = c.as_bytes-prefix.ensures ∙ ap (λ (x : Tree). x.prefix) c.tree.ensures in
    let version = c.version.ensures ∙ ap (λ (x : NodeView). x.version) c.node-node.ensures in
    let same : SameButLock (at v w.place.node).version w.place.seen =
    subst (λ (p : Parts). SameButLock p w.place.seen) version (c.same_but_lock.ensures.0 c.if-same_but_lock.true) in
    subst (λ (p : Bytes). HasBehind p c.args.scan.now.stop) (sym prefix)
    (has_behind v c.args.task.now.key w c.args.scan.now.stop c.facts.ensures.arena c.requires.kept
    (stands v c.args.task.now.key w c.args.scan.now.stop c.facts.ensures.arena c.requires.kept same))

pub returns-in_ok-keep-clause-checks : goal.returns-in_ok-keep-clause-checks
returns-in_ok-keep-clause-checks c count columns asks =
    let v = c.args.arena.now in
    let w = c.args.walk.now in
    let stable = subst (λ (n : NodeView). IsStable n.version) c.node-node.ensures c.in_default.ensures.none in
    let prefix = c.as_bytes-prefix.ensures ∙ ap (λ (x : Tree). x.prefix) c.tree.ensures in
    let version = c.version.ensures ∙ ap (λ (x : NodeView). x.version) c.node-node.ensures in
    let same : SameButLock (at v w.place.node).version w.place.seen =
    subst (λ (p : Parts). SameButLock p w.place.seen) version (c.same_but_lock.ensures.0 c.if-same_but_lock.true) in
    checked (at v w.place.node) _ (prefix_in v w) count columns w c.keep.new.walk _ _ stable same prefix (c.in_ok-keep.ensures.keeps count columns asks)

pub returns-in_ok-keep-clause-kept : goal.returns-in_ok-keep-clause-kept
returns-in_ok-keep-clause-kept c none going past row =
    let v = c.args.arena.now in
    let w = c.args.walk.now in
    let a = c.requires.asked in
    let prefix = c.as_bytes-prefix.ensures ∙ ap (λ (x : Tree). x.prefix) c.tree.ensures in
    let version = c.version.ensures ∙ ap (λ (x : NodeView). x.version) c.node-node.ensures in
    let same : SameButLock (at v w.place.node).version w.place.seen =
    subst (λ (p : Parts). SameButLock p w.place.seen) version (c.same_but_lock.ensures.0 c.if-same_but_lock.true) in
    kept_kept v w c.facts.ensures.arena (scan_of c.args.task.now c.args.scan.now)
    (scan_of c.keep.new.task c.keep.new.scan) c.requires.kept same _ prefix a.count a.columns c.keep.new.walk
    (c.in_ok-keep.ensures.keeps a.count a.columns a.asks) past row going

pub returns-else-same_but_lock-clause-kept : goal.returns-else-same_but_lock-clause-kept
returns-else-same_but_lock-clause-kept c none going past row =
    let stable = subst (λ (n : NodeView). IsStable n.version) c.node-node.ensures c.in_default.ensures.none in
    rw (c.move_on.ensures, c.node-node.ensures)
    (kept_moved c.args.arena.now c.args.task.now.key c.args.walk.now c.args.scan.now.stop c.facts.ensures.arena c.requires.kept past row
    (kept_moved_on c.args.arena.now past c.args.task.now.key row c.args.walk.now c.facts.ensures.arena c.requires.kept.at_border stable) c.args.scan.now.stop)
