-- The plain files were opened if they are needed.
use Rattle.std.{proofs.{Common.{map, inl, inr, refl, sym, ◌∙◌}, lemmas.Bool.true≢false}, specs.{Option.option_map}}
use Rattle.mt_recover.specs.Pairs.{view_of}
use Rattle.mt_chain_files.specs.{Plain.{OpensPlainFiles, StopsPlainFiles}, Chosen.{ReadsPlain, StopsPlain}}
use Rattle.mt_chain_files.proofs.Loops.{of_ok, of_some_err}
use Rattle.mt_chain_files.proofs.opening.read_plain.Goals as goal

pub returns-then-need_plain-clause-ok : goal.returns-then-need_plain-clause-ok
returns-then-need_plain-clause-ok g c =
    let is_honest = g.D.Disk.is_honest in
    let state = g.D.Disk.state in
    let failures = g.D.Disk.failures in
    let slots = map (option_map view_of) c.args.checkpoints.now in
    of_ok c.open_plain_files.result
    (OpensPlainFiles is_honest state failures c.args.files.now c.open_plain_files.new.files c.open_plain_files.new.logs)
    (ReadsPlain is_honest state failures slots c.args.files.now c.open_plain_files.new.files c.args.logs.now c.open_plain_files.new.logs)
    (λ opens. inl (c.need_plain.ensures.0 c.if-need_plain.true, opens, c.open_plain_files.ensures.numbered))
    c.open_plain_files.ensures.ok

pub returns-then-need_plain-clause-err : goal.returns-then-need_plain-clause-err
returns-then-need_plain-clause-err g c =
    let is_honest = g.D.Disk.is_honest in
    let state = g.D.Disk.state in
    let failures = g.D.Disk.failures in
    let slots = map (option_map view_of) c.args.checkpoints.now in
    of_some_err c.open_plain_files.result
    (λ e. StopsPlainFiles is_honest state failures e c.args.files.now c.open_plain_files.new.files)
    (λ e. StopsPlain is_honest state failures slots e c.args.files.now c.open_plain_files.new.files c.args.logs.now)
    (λ e stops. (c.need_plain.ensures.0 c.if-need_plain.true, stops))
    c.open_plain_files.ensures.err

pub returns-else-need_plain-clause-ok : goal.returns-else-need_plain-clause-ok
returns-else-need_plain-clause-ok g c = inr ((λ need. true≢false (sym (c.need_plain.ensures.1 need) ∙ c.if-need_plain.false)), refl, refl)
