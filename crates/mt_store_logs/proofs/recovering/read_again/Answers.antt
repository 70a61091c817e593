-- A second reading was ended.
use Rattle.std.proofs.Common.{◌∙◌, rules, sym}
use Rattle.mt_store_logs.proofs.{Rereading.follows_itself, SecondEnds.{by_way, fault_gives, recovery_gives, refusal_gives}}
use Rattle.mt_store_logs.proofs.recovering.read_again.Goals as goal

pub returns-in-Some-default-clause-err : goal.returns-in-Some-default-clause-err
returns-in-Some-default-clause-err g c =
    let is_honest = g.D.Disk.is_honest in
    let state = g.D.Disk.state in
    let failures = g.D.Disk.failures in
    let start = c.new-source.result in
    let now = c.recover-recovered.new.source in
    let follows = c.recover-recovered.ensures.goes.after start (follows_itself is_honest state failures start c.new-source.ensures.none) in
    let names = sym (follows.same_logs ∙ c.new-source.ensures.same_logs) in
    let slot_names = sym (follows.same_slots ∙ c.new-source.ensures.same_slots) in
    fault_gives is_honest state failures c.args.tenants.now c.args.chains.now c.args.seen.now start now follows
    (c.new-source.ensures.readers ∙ c.deref_mut.ensures.value ∙ c.in-Ok.ensures)
    c.args.logs.now c.args.slots.now c.new-source.ensures.logs c.new-source.ensures.slots _ _ (by_way _ c.end.new.self.0 now.logs.now (search (rules, names)) c.end.ensures.logs)
    (by_way _ c.end.new.self.1.0 now.slots.now (search (rules, slot_names)) c.end.ensures.slots)
    c.in-Some-default.fault (sym c.end.ensures.fault ∙ c.in-Some-default.is-0)

pub returns-in-None-Ok-clause-ok : goal.returns-in-None-Ok-clause-ok
returns-in-None-Ok-clause-ok g c =
    let is_honest = g.D.Disk.is_honest in
    let state = g.D.Disk.state in
    let failures = g.D.Disk.failures in
    let start = c.new-source.result in
    let now = c.recover-recovered.new.source in
    let recover = c.recover-recovered.ensures in
    let follows = recover.goes.after start (follows_itself is_honest state failures start c.new-source.ensures.none) in
    let names = sym (follows.same_logs ∙ c.new-source.ensures.same_logs) in
    let slot_names = sym (follows.same_slots ∙ c.new-source.ensures.same_slots) in
    recovery_gives is_honest state failures c.args.tenants.now c.args.chains.now c.args.seen.now start now follows
    (c.new-source.ensures.readers ∙ c.deref_mut.ensures.value ∙ c.in-Ok.ensures)
    c.args.logs.now c.args.slots.now c.new-source.ensures.logs c.new-source.ensures.slots _ _
    (by_way _ c.end.new.self.0 now.logs.now (search (rules, names)) c.end.ensures.logs)
    (by_way _ c.end.new.self.1.0 now.slots.now (search (rules, slot_names)) c.end.ensures.slots)
    c.deref_mut-2.result.now c.recover-recovered.new.fronts c.deref_mut-2.ensures.value recover.same (sym c.end.ensures.fault ∙ c.in-None-Ok.is-0)
    c.recover-recovered.result c.in-None-Ok.recovered c.in-None-Ok.is-1 recover.recovered recover.again recover.ascend recover.quotas c.requires.format recover.limits recover.stamped recover.last

pub returns-clause-err : goal.returns-clause-err
returns-clause-err g c =
    let is_honest = g.D.Disk.is_honest in
    let state = g.D.Disk.state in
    let failures = g.D.Disk.failures in
    let start = c.new-source.result in
    let now = c.recover-recovered.new.source in
    let recover = c.recover-recovered.ensures in
    let follows = recover.goes.after start (follows_itself is_honest state failures start c.new-source.ensures.none) in
    let names = sym (follows.same_logs ∙ c.new-source.ensures.same_logs) in
    let slot_names = sym (follows.same_slots ∙ c.new-source.ensures.same_slots) in
    refusal_gives is_honest state failures c.args.tenants.now c.args.chains.now c.args.seen.now start now follows
    (c.new-source.ensures.readers ∙ c.deref_mut.ensures.value ∙ c.in-Ok.ensures)
    c.args.logs.now c.args.slots.now c.new-source.ensures.logs c.new-source.ensures.slots _ _
    (by_way _ c.end.new.self.0 now.logs.now (search (rules, names)) c.end.ensures.logs)
    (by_way _ c.end.new.self.1.0 now.slots.now (search (rules, slot_names)) c.end.ensures.slots)
    c.deref_mut-2.result.now c.recover-recovered.new.fronts c.deref_mut-2.ensures.value recover.same (sym c.end.ensures.fault ∙ c.in-None-Err.is-0)
    c.recover-recovered.result c.in-None-Err.refusal c.of_all-in-None-Err.result c.in-None-Err.is-1 c.of_all-in-None-Err.ensures recover.refused
