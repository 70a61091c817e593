-- The gate tells which end counts, and what follows leaves the one front or the other.
use Rattle.std.proofs.Common.{rules, ◌≡◌, ◌≢◌, ◌++◌, IsTrue, sym, ap, subst, ◌∙◌}
use Rattle.mt_disk.specs.Disk.{DiskState}
use Rattle.mt_log.{specs.Format.open_batch, proofs.Unsure.{kept, counted, torn_here, uncounted, after_open, after_torn}}
use Rattle.mt_log.proofs.log_end.set_right_at.Goals as goal

pub returns-in_err-gate-clause-leaves : goal.returns-in_err-gate-clause-leaves
returns-in_err-gate-clause-leaves g c honest front bytes first unsure =
    let s = g.D.Disk.state c.args.disk.now in
    let mid = g.D.Disk.state c.gate_at.new.disk in
    let still = subst IsTrue (sym c.sync.ensures.honest) honest in
    kept front bytes c.args.before c.args.after first s mid unsure (c.gate_at.ensures.same still ∙ c.in_ok-sync.ensures.done honest)

pub returns-in_err-cut_behind-clause-leaves : goal.returns-in_err-cut_behind-clause-leaves
returns-in_err-cut_behind-clause-leaves g c honest front bytes first unsure =
    let s = g.D.Disk.state c.args.disk.now in
    let mid = g.D.Disk.state c.gate_at.new.disk in
    let still = subst IsTrue (sym c.sync.ensures.honest) honest in
    let on = subst IsTrue (sym c.gate_at.ensures.honest) still in
    let same = c.gate_at.ensures.same still in
    let done = same ∙ c.in_ok-sync.ensures.done honest in
    let is_open : c.in_ok-gate.gate ≡ 1 = search rules in
    let found = counted front bytes c.args.before c.args.after first s mid unsure done c.in_ok-gate.gate
    (λ f behind gate e at. c.in_ok-gate.ensures.gate still f behind gate (ap (λ (t : DiskState). t.image) (sym same) ∙ e) at) is_open in
    after_open front bytes c.args.before c.args.after first s mid unsure done (g.D.Disk.state c.cut_behind.new.disk)
    (c.cut_behind.ensures.leaves on (front ++ open_batch bytes) found)

pub returns-then-gate-eq-OPEN-clause-leaves : goal.returns-then-gate-eq-OPEN-clause-leaves
returns-then-gate-eq-OPEN-clause-leaves g c honest front bytes first unsure =
    let s = g.D.Disk.state c.args.disk.now in
    let mid = g.D.Disk.state c.gate_at.new.disk in
    let still = subst IsTrue (sym c.sync.ensures.honest) honest in
    let on = subst IsTrue (sym c.gate_at.ensures.honest) still in
    let same = c.gate_at.ensures.same still in
    let done = same ∙ c.in_ok-sync.ensures.done honest in
    let is_open : c.in_ok-gate.gate ≡ 1 = search rules in
    let found = counted front bytes c.args.before c.args.after first s mid unsure done c.in_ok-gate.gate
    (λ f behind gate e at. c.in_ok-gate.ensures.gate still f behind gate (ap (λ (t : DiskState). t.image) (sym same) ∙ e) at) is_open in
    after_open front bytes c.args.before c.args.after first s mid unsure done (g.D.Disk.state c.cut_behind.new.disk)
    (c.cut_behind.ensures.leaves on (front ++ open_batch bytes) found)

pub returns-then-gate-eq-OPEN-clause-rest : goal.returns-then-gate-eq-OPEN-clause-rest
returns-then-gate-eq-OPEN-clause-rest g c honest front bytes first unsure =
    let s = g.D.Disk.state c.args.disk.now in
    let mid = g.D.Disk.state c.gate_at.new.disk in
    let still = subst IsTrue (sym c.sync.ensures.honest) honest in
    let on = subst IsTrue (sym c.gate_at.ensures.honest) still in
    let same = c.gate_at.ensures.same still in
    let done = same ∙ c.in_ok-sync.ensures.done honest in
    let is_open : c.in_ok-gate.gate ≡ 1 = search rules in
    let found = counted front bytes c.args.before c.args.after first s mid unsure done c.in_ok-gate.gate
    (λ f behind gate e at. c.in_ok-gate.ensures.gate still f behind gate (ap (λ (t : DiskState). t.image) (sym same) ∙ e) at) is_open in
    c.in_ok-cut_behind.ensures.rest on (front ++ open_batch bytes) found

pub returns-in_err-set_right-clause-leaves : goal.returns-in_err-set_right-clause-leaves
returns-in_err-set_right-clause-leaves g c honest front bytes first unsure =
    let s = g.D.Disk.state c.args.disk.now in
    let mid = g.D.Disk.state c.gate_at.new.disk in
    let still = subst IsTrue (sym c.sync.ensures.honest) honest in
    let on = subst IsTrue (sym c.gate_at.ensures.honest) still in
    let same = c.gate_at.ensures.same still in
    let done = same ∙ c.in_ok-sync.ensures.done honest in
    let shut : c.in_ok-gate.gate ≢ 1 = search rules in
    after_torn front bytes c.args.before c.args.after first s mid unsure done (g.D.Disk.state c.set_right.new.disk)
    (c.set_right.ensures.torn on front bytes (uncounted front bytes c.args.before c.args.after first s mid unsure done c.in_ok-gate.gate
    (λ f behind gate e at. c.in_ok-gate.ensures.gate still f behind gate (ap (λ (t : DiskState). t.image) (sym same) ∙ e) at) shut)
    (torn_here front bytes c.args.before c.args.after first s mid unsure done c.in_ok-gate.gate
    (λ f behind gate e at. c.in_ok-gate.ensures.gate still f behind gate (ap (λ (t : DiskState). t.image) (sym same) ∙ e) at) shut))

pub returns-clause-leaves : goal.returns-clause-leaves
returns-clause-leaves g c honest front bytes first unsure =
    let s = g.D.Disk.state c.args.disk.now in
    let mid = g.D.Disk.state c.gate_at.new.disk in
    let still = subst IsTrue (sym c.sync.ensures.honest) honest in
    let on = subst IsTrue (sym c.gate_at.ensures.honest) still in
    let same = c.gate_at.ensures.same still in
    let done = same ∙ c.in_ok-sync.ensures.done honest in
    let shut : c.in_ok-gate.gate ≢ 1 = search rules in
    after_torn front bytes c.args.before c.args.after first s mid unsure done (g.D.Disk.state c.set_right.new.disk)
    (c.set_right.ensures.torn on front bytes (uncounted front bytes c.args.before c.args.after first s mid unsure done c.in_ok-gate.gate
    (λ f behind gate e at. c.in_ok-gate.ensures.gate still f behind gate (ap (λ (t : DiskState). t.image) (sym same) ∙ e) at) shut)
    (torn_here front bytes c.args.before c.args.after first s mid unsure done c.in_ok-gate.gate
    (λ f behind gate e at. c.in_ok-gate.ensures.gate still f behind gate (ap (λ (t : DiskState). t.image) (sym same) ∙ e) at) shut))

pub returns-clause-rest : goal.returns-clause-rest
returns-clause-rest g c honest front bytes first unsure =
    let s = g.D.Disk.state c.args.disk.now in
    let mid = g.D.Disk.state c.gate_at.new.disk in
    let still = subst IsTrue (sym c.sync.ensures.honest) honest in
    let on = subst IsTrue (sym c.gate_at.ensures.honest) still in
    let same = c.gate_at.ensures.same still in
    let done = same ∙ c.in_ok-sync.ensures.done honest in
    let shut : c.in_ok-gate.gate ≢ 1 = search rules in
    c.in_ok-set_right.ensures.rest on front (uncounted front bytes c.args.before c.args.after first s mid unsure done c.in_ok-gate.gate
    (λ f behind gate e at. c.in_ok-gate.ensures.gate still f behind gate (ap (λ (t : DiskState). t.image) (sym same) ∙ e) at) shut)
