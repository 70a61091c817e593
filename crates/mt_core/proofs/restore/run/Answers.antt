-- a put that is alone is done, or memory or numbers were refused; and done it is told that its pair is new
use Rattle.std.proofs.Common.{◌+◌, refl, ap, inl, inr}
use Rattle.mt_operation.specs.Phases.{is_done}
use Rattle.mt_state.specs.{Views.shown, Begins.begun, declared.moves.Move.TheVariants.{Done as DoneMove}}
use Rattle.mt_core.{specs.{Alone.{EndsAlone, most_steps}, Restores.put_of}, proofs.Restoring.{is_alone, ends_so, told_new, has_one_more}}
use Rattle.mt_core.proofs.restore.run.Goals as goal

pub unreachable-requires : goal.unreachable-requires
unreachable-requires c =
    let b = c.requires in
    let ends = c.run_alone.ensures.alone (begun 0 b.1.tenant (put_of b.1) b.0.steps) (is_alone b.0 b.1 b.2 b.3 (shown c.args.inner.now) c.args.ticket.id b.4 c.args.inner.now refl c.kept.ensures.invariant) in
    ends_so c.run_alone.result (shown c.run_alone.new.self).steps ((shown c.args.inner.now).steps + most_steps (shown c.args.inner.now) (put_of b.1)) ends.after.phase ends.ends
    c.in_default.not-Done c.in_default.not-NoMemory c.in_default.not-Spent

pub returns-in-New : goal.returns-in-New
returns-in-New c = λ v p idle may begins.
    has_one_more v p idle may (shown c.args.inner.now) c.args.ticket.id begins (shown c.run_alone.new.self) (shown c.take.new.self) c.in-Ok.answer c.in-Done.ensures.runs
    (c.in-Done.ensures.alone (begun 0 p.tenant (put_of p) v.steps) (is_alone v p idle may (shown c.args.inner.now) c.args.ticket.id begins c.args.inner.now refl c.kept.ensures.invariant))
    c.in-Ok.ensures.told c.in-New.is

pub unreachable-requires-in_default-reply : goal.unreachable-requires-in_default-reply
unreachable-requires-in_default-reply c =
    let b = c.requires in
    elim (told_new b.0 b.1 b.2 b.3 (shown c.args.inner.now) c.args.ticket.id b.4 (shown c.run_alone.new.self) (shown c.take.new.self) c.in-Ok.answer c.in-Done.ensures.runs
    (c.in-Done.ensures.alone (begun 0 b.1.tenant (put_of b.1) b.0.steps) (is_alone b.0 b.1 b.2 b.3 (shown c.args.inner.now) c.args.ticket.id b.4 c.args.inner.now refl c.kept.ensures.invariant))
    c.in-Ok.ensures.told) [
      | inl none ↦ c.in_default-reply.not-NoMemory none
      | inr new ↦ c.in_default-reply.not-New new
    ]

pub unreachable-requires-in-Err : goal.unreachable-requires-in-Err
unreachable-requires-in-Err c =
    let b = c.requires in
    let ends : EndsAlone (shown c.args.inner.now) (shown c.run_alone.new.self) c.args.ticket.id (begun 0 b.1.tenant (put_of b.1) b.0.steps) DoneMove =
    c.in-Done.ensures.alone (begun 0 b.1.tenant (put_of b.1) b.0.steps) (is_alone b.0 b.1 b.2 b.3 (shown c.args.inner.now) c.args.ticket.id b.4 c.args.inner.now refl c.kept.ensures.invariant) in
    c.in-Err.ensures.told.2 (ends.after, ends.there, ap is_done ends.ends)
