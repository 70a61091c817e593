-- What was opened, and what was chosen or not.
use Rattle.std.{proofs.{Common.{map, length, sym, subst, ap, ◌∙◌}, lemmas.Result.err_from_is_err_and}, specs.Option.option_map}
use Rattle.mt_log.specs.Contents.{contents_of}
use Rattle.mt_generations.specs.Standings.{AreFrom}
use Rattle.mt_recover.specs.Pairs.{view_of}
use Rattle.mt_chains.specs.Files.{standing_of}
use Rattle.mt_chain_files.specs.Chosen.{begun_in, BeginAt}
use Rattle.mt_chain_files.proofs.Loops.{written}
use Rattle.mt_chain_files.proofs.Agreeing.{stops_chosen, stops_for_memory, opens_chosen, first_read}
use Rattle.mt_chain_files.proofs.opening.open_chains.Goals as goal

pub returns-in_err-generation-clause-err : goal.returns-in_err-generation-clause-err
returns-in_err-generation-clause-err g c =
    let p = err_from_is_err_and c.from_residual-in_err-generation.result c.from_residual-in_err-generation.ensures.1 in
    let slots = map (option_map view_of) c.args.checkpoints.now in
    rw (p.1, p.2)
    (stops_chosen g.D.Disk.is_honest g.D.Disk.state g.D.Disk.failures slots c.args.files.now c.open_numbered_files.new.files c.choose_from.new.files c.deref_mut.result.now c.choose_from.new.logs
    c.requires.some (first_read g.D.Disk.is_honest g.D.Disk.state g.D.Disk.failures (map (option_map view_of) c.args.checkpoints.now) c.args.files.now c.open_numbered_files.new.files c.in_ok-logs.logs.items c.deref_mut.result.now (sym c.deref_mut.ensures.value) c.in_ok-logs.ensures.ok) c.in_err-generation.field-0.0 c.in_err-generation.ensures.err)

pub returns-in-Ok-clause-ok : goal.returns-in-Ok-clause-ok
returns-in-Ok-clause-ok g c =
    opens_chosen g.D.Disk.is_honest g.D.Disk.state g.D.Disk.failures (map (option_map view_of) c.args.checkpoints.now) c.args.files.now c.open_numbered_files.new.files c.choose_from.new.files
    c.deref_mut.result.now c.choose_from.new.logs c.requires.some (first_read g.D.Disk.is_honest g.D.Disk.state g.D.Disk.failures (map (option_map view_of) c.args.checkpoints.now) c.args.files.now c.open_numbered_files.new.files c.in_ok-logs.logs.items c.deref_mut.result.now (sym c.deref_mut.ensures.value) c.in_ok-logs.ensures.ok) c.in-Ok.chains
    c.in_ok-generation.ensures.ok.0
    (subst (λ n. BeginAt (map standing_of c.choose_from.new.logs) (map (option_map view_of) c.args.checkpoints.now) n) (sym c.in-Ok.ensures.generation) c.in_ok-generation.ensures.ok.1)
    (subst (λ logs. AreFrom c.in-Ok.chains.generation (map standing_of logs) (map contents_of c.in-Ok.chains.fronts.items))
    (written c.in_ok-logs.logs.len c.choose_from.new.logs c.in_ok-logs.logs.items c.in_ok-logs.logs.ok.0 (c.in_ok-generation.ensures.count ∙ ap length c.deref_mut.ensures.value))
    c.in-Ok.ensures.are)
    (c.in-Ok.ensures.begun ∙ ap (begun_in c.in-Ok.chains.generation)
    (written c.in_ok-logs.logs.len c.choose_from.new.logs c.in_ok-logs.logs.items c.in_ok-logs.logs.ok.0 (c.in_ok-generation.ensures.count ∙ ap length c.deref_mut.ensures.value)))

pub returns-in-Err-clause-err : goal.returns-in-Err-clause-err
returns-in-Err-clause-err g c =
    stops_for_memory g.D.Disk.is_honest g.D.Disk.state g.D.Disk.failures (map (option_map view_of) c.args.checkpoints.now) c.args.files.now c.open_numbered_files.new.files c.choose_from.new.files
    c.deref_mut.result.now c.choose_from.new.logs c.requires.some (first_read g.D.Disk.is_honest g.D.Disk.state g.D.Disk.failures (map (option_map view_of) c.args.checkpoints.now) c.args.files.now c.open_numbered_files.new.files c.in_ok-logs.logs.items c.deref_mut.result.now (sym c.deref_mut.ensures.value) c.in_ok-logs.ensures.ok) c.of_all.result c.in_ok-generation.ensures.ok.0 c.of_all.ensures
