-- Why a recovery's pairs may be put into a state, and what it says where there is none.
use Rattle.std.proofs.Common.{◌+◌, refl, sym, inl, inr}
use Rattle.mt_disk.specs.Mem.{mem_state}
use Rattle.mt_recover.proofs.Limits.{distinct}
use Rattle.mt_store_logs.proofs.Limits.{limits_of, resumes_within, stamps_of}
use Rattle.mt_lives.proofs.Flushing.{keeps_rules, failures_of}
use Rattle.mt_lives.proofs.crashes.come_back.Goals as goal

pub returns-in-Err-clause-err : goal.returns-in-Err-clause-err
returns-in-Err-clause-err c = record { cause = inl (c.in-Err.refused, sym c.refusal.ensures, c.in-Err.ensures.err) }

pub restored-requires-clause-steps : goal.restored-requires-clause-steps
restored-requires-clause-steps c = resumes_within keeps_rules mem_state failures_of c.args.tenants.now c.in-Ok.store.recovered c.in-Ok.store.generation c.args.logs.now c.args.slots.now c.recover_store.new.logs c.recover_store.new.slots c.in-Ok.ensures.ok

pub restored-requires-clause-limits : goal.restored-requires-clause-limits
restored-requires-clause-limits c = limits_of keeps_rules mem_state failures_of c.args.tenants.now c.in-Ok.store.recovered c.in-Ok.store.generation c.args.logs.now c.args.slots.now c.recover_store.new.logs c.recover_store.new.slots c.in-Ok.ensures.ok

pub restored-requires-clause-stamps : goal.restored-requires-clause-stamps
restored-requires-clause-stamps c = stamps_of keeps_rules mem_state failures_of c.args.tenants.now c.in-Ok.store.recovered c.in-Ok.store.generation c.args.logs.now c.args.slots.now c.recover_store.new.logs c.recover_store.new.slots c.in-Ok.ensures.ok

pub restored-requires-clause-distinct : goal.restored-requires-clause-distinct
restored-requires-clause-distinct c = distinct c.in-Ok.store.recovered.pairs.items c.in-Ok.ensures.ok.recovers.ascend

pub returns-in-Err-restored-clause-err : goal.returns-in-Err-restored-clause-err
returns-in-Err-restored-clause-err c = record { cause = inr (refl, (c.in-Ok.store.recovered, c.in-Ok.store.generation + 1, (c.in-Ok.store.generation, refl, c.in-Ok.ensures.ok))) }

pub returns-in-Ok-restored-clause-recovered : goal.returns-in-Ok-restored-clause-recovered
returns-in-Ok-restored-clause-recovered c = (c.in-Ok.store.generation, c.new.ensures.generation, c.in-Ok.ensures.ok)
