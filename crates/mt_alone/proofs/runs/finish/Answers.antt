-- the run ends as it may where no other operation is open
use Rattle.mt_alone.proofs.RunLemmas.{not_absent, not_held, is_ended, finishes_done, finishes_spent, finishes_stuck}
use Rattle.mt_alone.proofs.runs.finish.Goals as goal

pub unreachable-requires : goal.unreachable-requires
unreachable-requires c = c.in-Err.ensures.2 (is_ended c.args.state.now c.run_alone.new.self c.args.ticket.id c.in-Done.ensures.runs)

pub unreachable-requires-in-Again : goal.unreachable-requires-in-Again
unreachable-requires-in-Again c = not_held c.args.state.now c.run_alone.new.self c.args.ticket.id c.in-Again.holder c.requires c.in-Again.ensures.runs

pub unreachable-requires-in-NoSuch : goal.unreachable-requires-in-NoSuch
unreachable-requires-in-NoSuch c = not_absent c.args.state.now c.run_alone.new.self c.args.ticket.id c.requires c.in-NoSuch.ensures.runs

pub returns-in-Ok : goal.returns-in-Ok
returns-in-Ok c =
    finishes_done c.args.state.now c.run_alone.new.self c.take.new.self c.tidy.new.self c.args.ticket.id c.in-Ok.answer c.requires c.in-Done.ensures.runs c.in-Ok.ensures c.tidy.ensures
    c.in-Done.ensures.alone

pub returns-in-Spent : goal.returns-in-Spent
returns-in-Spent c = finishes_spent c.args.state.now c.run_alone.new.self c.args.ticket c.requires c.in-Spent.ensures.runs c.in-Spent.ensures.alone

pub returns-in-NoMemory : goal.returns-in-NoMemory
returns-in-NoMemory c = finishes_stuck c.args.state.now c.run_alone.new.self c.args.ticket c.requires c.in-NoMemory.ensures.runs c.in-NoMemory.ensures.alone c.facts.ensures
