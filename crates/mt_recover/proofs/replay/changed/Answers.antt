-- One record more is taken, and replayed if it counts.
use Rattle.std.proofs.Common.{rules, ◌≡◌, inl, inr, map, List, ◌++◌, take, drop, length, ◌∙◌, sym, ap, subst, arith, Option, Some, None, Err}
use Rattle.mt_rows.specs.{declared.record.Record.Record, TenantPairs.pairs_of}
use Rattle.mt_log.specs.Contents.{contents_of}
use Rattle.mt_recover.specs.{Sources.AreLeft, Takes.{HaveLeft, StopsTaking, Takes}, Merges.{Taken, AreMerging}, declared.lanes.Lane.Lane}
use Rattle.mt_recover.proofs.{Outlines.set_again, ReplayLemmas.{Replaying, whole, read_here, stops_further, knows_it, one_replayed, all_replayed}}
use Rattle.mt_recover.proofs.replay.changed.Goals as goal

pub take_record-requires-clause-set : goal.take_record-requires-clause-set
take_record-requires-clause-set g c =
    set_again (map contents_of c.args.fronts.now) (map contents_of c.loop-changes.fronts) c.loop-changes.invariant.read.again.same c.requires.set

pub returns-in_err-record-clause-read : goal.returns-in_err-record-clause-read
returns-in_err-record-clause-read g c =
    let sofar : Replaying g.S.Source.logs g.S.Source.follows g.S.Source.left c.args.source.now (map contents_of c.args.fronts.now) c.args.voids.now c.args.base c.args.cutoff (pairs_of c.args.pairs.now) c.loop-changes.source (map contents_of c.loop-changes.fronts) c.deref_mut.result.now c.loop-changes.walk c.loop-changes.changes =
    subst (λ (ls : List Lane). Replaying g.S.Source.logs g.S.Source.follows g.S.Source.left c.args.source.now (map contents_of c.args.fronts.now) c.args.voids.now c.args.base c.args.cutoff (pairs_of c.args.pairs.now) c.loop-changes.source (map contents_of c.loop-changes.fronts) ls c.loop-changes.walk c.loop-changes.changes) (sym c.deref_mut.ensures.value) c.loop-changes.invariant in
    read_here g.S.Source.logs g.S.Source.follows g.S.Source.left c.args.source.now (map contents_of c.args.fronts.now) c.args.voids.now c.args.base c.args.cutoff (pairs_of c.args.pairs.now) c.loop-changes.source (map contents_of c.loop-changes.fronts) c.deref_mut.result.now c.loop-changes.walk c.loop-changes.changes sofar c.take_record.new.source (map contents_of c.take_record.new.fronts) c.take_record.new.lanes c.take_record.ensures.read

pub returns-in_err-record-clause-stops : goal.returns-in_err-record-clause-stops
returns-in_err-record-clause-stops g c =
    let sofar : Replaying g.S.Source.logs g.S.Source.follows g.S.Source.left c.args.source.now (map contents_of c.args.fronts.now) c.args.voids.now c.args.base c.args.cutoff (pairs_of c.args.pairs.now) c.loop-changes.source (map contents_of c.loop-changes.fronts) c.deref_mut.result.now c.loop-changes.walk c.loop-changes.changes =
    subst (λ (ls : List Lane). Replaying g.S.Source.logs g.S.Source.follows g.S.Source.left c.args.source.now (map contents_of c.args.fronts.now) c.args.voids.now c.args.base c.args.cutoff (pairs_of c.args.pairs.now) c.loop-changes.source (map contents_of c.loop-changes.fronts) ls c.loop-changes.walk c.loop-changes.changes) (sym c.deref_mut.ensures.value) c.loop-changes.invariant in
    let is : c.from_residual-in_err-record.result ≡ Err c.in_err-record.field-0.0 = search rules in
    rw is
    (inr (stops_further g.S.Source.logs g.S.Source.follows g.S.Source.left g.S.Source.refused (AreLeft (g.S.Source.left c.args.source.now) (map contents_of c.args.fronts.now)) (HaveLeft g.S.Source.logs g.S.Source.follows g.S.Source.left c.loop-changes.source (map contents_of c.loop-changes.fronts) c.deref_mut.result.now)
    c.take_record.new.source (map contents_of c.take_record.new.fronts) c.in_err-record.field-0.0 sofar.has (c.in_err-record.ensures.stops)))

pub replay_one-requires-clause-knows : goal.replay_one-requires-clause-knows
replay_one-requires-clause-knows g c =
    let sofar : Replaying g.S.Source.logs g.S.Source.follows g.S.Source.left c.args.source.now (map contents_of c.args.fronts.now) c.args.voids.now c.args.base c.args.cutoff (pairs_of c.args.pairs.now) c.loop-changes.source (map contents_of c.loop-changes.fronts) c.deref_mut.result.now c.loop-changes.walk c.loop-changes.changes =
    subst (λ (ls : List Lane). Replaying g.S.Source.logs g.S.Source.follows g.S.Source.left c.args.source.now (map contents_of c.args.fronts.now) c.args.voids.now c.args.base c.args.cutoff (pairs_of c.args.pairs.now) c.loop-changes.source (map contents_of c.loop-changes.fronts) ls c.loop-changes.walk c.loop-changes.changes) (sym c.deref_mut.ensures.value) c.loop-changes.invariant in
    let takes : (taken : List Taken) → AreMerging taken (map contents_of c.loop-changes.fronts) c.deref_mut.result.now → Takes taken (Some c.in-Some.record) (map contents_of c.take_record.new.fronts) c.take_record.new.lanes =
    subst (λ (o : Option Record). (taken : List Taken) → AreMerging taken (map contents_of c.loop-changes.fronts) c.deref_mut.result.now → Takes taken o (map contents_of c.take_record.new.fronts) c.take_record.new.lanes) c.in-Some.is c.in_ok-record.ensures.taken in
    knows_it g.S.Source.logs g.S.Source.follows g.S.Source.left c.args.source.now (map contents_of c.args.fronts.now) c.args.voids.now c.args.base c.args.cutoff (pairs_of c.args.pairs.now) c.loop-changes.source (map contents_of c.loop-changes.fronts) c.deref_mut.result.now c.loop-changes.walk c.loop-changes.changes sofar c.take_record.new.source (map contents_of c.take_record.new.fronts) c.take_record.new.lanes c.take_record.ensures.read c.in-Some.record takes

pub loop-changes-preserved : goal.loop-changes-preserved
loop-changes-preserved g c =
    let sofar : Replaying g.S.Source.logs g.S.Source.follows g.S.Source.left c.args.source.now (map contents_of c.args.fronts.now) c.args.voids.now c.args.base c.args.cutoff (pairs_of c.args.pairs.now) c.loop-changes.source (map contents_of c.loop-changes.fronts) c.deref_mut.result.now c.loop-changes.walk c.loop-changes.changes =
    subst (λ (ls : List Lane). Replaying g.S.Source.logs g.S.Source.follows g.S.Source.left c.args.source.now (map contents_of c.args.fronts.now) c.args.voids.now c.args.base c.args.cutoff (pairs_of c.args.pairs.now) c.loop-changes.source (map contents_of c.loop-changes.fronts) ls c.loop-changes.walk c.loop-changes.changes) (sym c.deref_mut.ensures.value) c.loop-changes.invariant in
    let takes : (taken : List Taken) → AreMerging taken (map contents_of c.loop-changes.fronts) c.deref_mut.result.now → Takes taken (Some c.in-Some.record) (map contents_of c.take_record.new.fronts) c.take_record.new.lanes =
    subst (λ (o : Option Record). (taken : List Taken) → AreMerging taken (map contents_of c.loop-changes.fronts) c.deref_mut.result.now → Takes taken o (map contents_of c.take_record.new.fronts) c.take_record.new.lanes) c.in-Some.is c.in_ok-record.ensures.taken in
    let all : take c.loop-changes.lanes.len (c.take_record.new.lanes ++ drop (length c.take_record.new.lanes) c.loop-changes.lanes.items) ≡ c.take_record.new.lanes = whole c.loop-changes.lanes.len c.take_record.new.lanes _ (omega (arith, c.take_record.auto.lanes, c.deref_mut.ensures.len)) in
    subst (λ (ls : List Lane). Replaying g.S.Source.logs g.S.Source.follows g.S.Source.left c.args.source.now (map contents_of c.args.fronts.now) c.args.voids.now c.args.base c.args.cutoff (pairs_of c.args.pairs.now) c.take_record.new.source (map contents_of c.take_record.new.fronts) ls c.replay_one.new.walk c.replay_one.new.changes)
    (sym all)
    (one_replayed g.S.Source.logs g.S.Source.follows g.S.Source.left c.args.source.now (map contents_of c.args.fronts.now) c.args.voids.now c.args.base c.args.cutoff (pairs_of c.args.pairs.now) c.loop-changes.source (map contents_of c.loop-changes.fronts) c.deref_mut.result.now c.loop-changes.walk c.loop-changes.changes sofar c.take_record.new.source (map contents_of c.take_record.new.fronts) c.take_record.new.lanes c.take_record.ensures.read c.in-Some.record takes c.replay_one.new.walk c.replay_one.new.changes c.in_ok-record.ensures.left c.in_ok-replay_one.ensures.knows c.in_ok-replay_one.ensures.replayed)

pub returns-in_err-replay_one-clause-read : goal.returns-in_err-replay_one-clause-read
returns-in_err-replay_one-clause-read g c =
    let sofar : Replaying g.S.Source.logs g.S.Source.follows g.S.Source.left c.args.source.now (map contents_of c.args.fronts.now) c.args.voids.now c.args.base c.args.cutoff (pairs_of c.args.pairs.now) c.loop-changes.source (map contents_of c.loop-changes.fronts) c.deref_mut.result.now c.loop-changes.walk c.loop-changes.changes =
    subst (λ (ls : List Lane). Replaying g.S.Source.logs g.S.Source.follows g.S.Source.left c.args.source.now (map contents_of c.args.fronts.now) c.args.voids.now c.args.base c.args.cutoff (pairs_of c.args.pairs.now) c.loop-changes.source (map contents_of c.loop-changes.fronts) ls c.loop-changes.walk c.loop-changes.changes) (sym c.deref_mut.ensures.value) c.loop-changes.invariant in
    read_here g.S.Source.logs g.S.Source.follows g.S.Source.left c.args.source.now (map contents_of c.args.fronts.now) c.args.voids.now c.args.base c.args.cutoff (pairs_of c.args.pairs.now) c.loop-changes.source (map contents_of c.loop-changes.fronts) c.deref_mut.result.now c.loop-changes.walk c.loop-changes.changes sofar c.take_record.new.source (map contents_of c.take_record.new.fronts) c.take_record.new.lanes c.take_record.ensures.read

pub returns-clause-read : goal.returns-clause-read
returns-clause-read g c =
    let sofar : Replaying g.S.Source.logs g.S.Source.follows g.S.Source.left c.args.source.now (map contents_of c.args.fronts.now) c.args.voids.now c.args.base c.args.cutoff (pairs_of c.args.pairs.now) c.loop-changes.source (map contents_of c.loop-changes.fronts) c.deref_mut.result.now c.loop-changes.walk c.loop-changes.changes =
    subst (λ (ls : List Lane). Replaying g.S.Source.logs g.S.Source.follows g.S.Source.left c.args.source.now (map contents_of c.args.fronts.now) c.args.voids.now c.args.base c.args.cutoff (pairs_of c.args.pairs.now) c.loop-changes.source (map contents_of c.loop-changes.fronts) ls c.loop-changes.walk c.loop-changes.changes) (sym c.deref_mut.ensures.value) c.loop-changes.invariant in
    read_here g.S.Source.logs g.S.Source.follows g.S.Source.left c.args.source.now (map contents_of c.args.fronts.now) c.args.voids.now c.args.base c.args.cutoff (pairs_of c.args.pairs.now) c.loop-changes.source (map contents_of c.loop-changes.fronts) c.deref_mut.result.now c.loop-changes.walk c.loop-changes.changes sofar c.take_record.new.source (map contents_of c.take_record.new.fronts) c.take_record.new.lanes c.take_record.ensures.read

pub returns-clause-replayed : goal.returns-clause-replayed
returns-clause-replayed g c =
    let sofar : Replaying g.S.Source.logs g.S.Source.follows g.S.Source.left c.args.source.now (map contents_of c.args.fronts.now) c.args.voids.now c.args.base c.args.cutoff (pairs_of c.args.pairs.now) c.loop-changes.source (map contents_of c.loop-changes.fronts) c.deref_mut.result.now c.loop-changes.walk c.loop-changes.changes =
    subst (λ (ls : List Lane). Replaying g.S.Source.logs g.S.Source.follows g.S.Source.left c.args.source.now (map contents_of c.args.fronts.now) c.args.voids.now c.args.base c.args.cutoff (pairs_of c.args.pairs.now) c.loop-changes.source (map contents_of c.loop-changes.fronts) ls c.loop-changes.walk c.loop-changes.changes) (sym c.deref_mut.ensures.value) c.loop-changes.invariant in
    all_replayed g.S.Source.logs g.S.Source.follows g.S.Source.left c.args.source.now (map contents_of c.args.fronts.now) c.args.voids.now c.args.base c.args.cutoff (pairs_of c.args.pairs.now) c.loop-changes.source (map contents_of c.loop-changes.fronts) c.deref_mut.result.now c.loop-changes.walk c.loop-changes.changes sofar c.take_record.new.source (map contents_of c.take_record.new.fronts) c.take_record.new.lanes c.take_record.ensures.read
    (subst (λ (o : Option Record). (taken : List Taken) → AreMerging taken (map contents_of c.loop-changes.fronts) c.deref_mut.result.now → Takes taken o (map contents_of c.take_record.new.fronts) c.take_record.new.lanes) c.in_default.is c.in_ok-record.ensures.taken)
    c.requires.voids
