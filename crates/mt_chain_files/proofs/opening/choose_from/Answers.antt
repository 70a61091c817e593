-- All files that are needed were read, and what was chosen or not is by these.
use Rattle.std.{proofs.{Common.{map, inl, inr}, lemmas.Result.err_from_is_err_and}, specs.Option.option_map}
use Rattle.mt_recover.specs.Pairs.{view_of}
use Rattle.mt_chains.specs.Files.{standing_of}
use Rattle.mt_chain_files.specs.Chosen.{BeginAt, RefuseToBegin, Chooses, NotChosen}
use Rattle.mt_chain_files.proofs.Loops.{of_some_ok, of_some_err}
use Rattle.mt_chain_files.proofs.opening.choose_from.Goals as goal

pub returns-in_err-read_plain-clause-err : goal.returns-in_err-read_plain-clause-err
returns-in_err-read_plain-clause-err g c = let p = err_from_is_err_and c.from_residual.result c.from_residual.ensures.1 in rw (p.1, p.2) (inl c.in_err-read_plain.ensures.err)

pub returns-clause-ok : goal.returns-clause-ok
returns-clause-ok g c =
    let slots = map (option_map view_of) c.args.checkpoints.now in
    let logs = c.read_plain.new.logs in
    of_some_ok c.choose_of.result
    (λ n. BeginAt (map standing_of logs) slots n)
    (λ n. Chooses g.D.Disk.is_honest g.D.Disk.state g.D.Disk.failures slots n c.args.files.now c.read_plain.new.files c.args.logs.now logs)
    (λ n begin. (c.in_ok-read_plain.ensures.ok, begin))
    c.choose_of.ensures.ok

pub returns-clause-err : goal.returns-clause-err
returns-clause-err g c =
    let slots = map (option_map view_of) c.args.checkpoints.now in
    let logs = c.read_plain.new.logs in
    of_some_err c.choose_of.result
    (λ e. RefuseToBegin (map standing_of logs) slots e)
    (λ e. NotChosen g.D.Disk.is_honest g.D.Disk.state g.D.Disk.failures slots e c.args.files.now c.read_plain.new.files c.args.logs.now logs)
    (λ e why. inr (c.in_ok-read_plain.ensures.ok, why))
    c.choose_of.ensures.err
