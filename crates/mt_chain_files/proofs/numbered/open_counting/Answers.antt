-- What was opened at first was enough, or all files were opened after that.
use Rattle.std.proofs.Common.{inl, inr, refl, sym, ◌∙◌, subst, arith, map}
use Rattle.std.specs.Option.{option_map}
use Rattle.mt_generations.specs.Standings.{HaveNoChoice}
use Rattle.mt_recover.specs.Pairs.{view_of}
use Rattle.mt_chains.specs.Files.{standing_of}
use Rattle.mt_chain_files.specs.Numbered.{OpensNumberedFiles, StopsNumberedFiles}
use Rattle.mt_chain_files.specs.Rounds.{HasChoice, OpensCounting, StopsCounting}
use Rattle.mt_chain_files.proofs.Loops.{of_some_ok, of_some_err}
use Rattle.mt_chain_files.proofs.Agreeing.{has_choice, has_none}
use Rattle.mt_chain_files.proofs.numbered.open_counting.Goals.{then-from-le1-via-then-from-le1, then-from-le1-via-else-from-le1+then-is_some}
use Rattle.mt_chain_files.proofs.numbered.open_counting.Goals as goal

pub returns-then-from-le1-clause-ok : goal.returns-then-from-le1-clause-ok
returns-then-from-le1-clause-ok g c =
    let slots = map (option_map view_of) c.args.checkpoints.now in
    record {
      from = c.first_counting-from.result;
      before = c.args.files.now;
      comes = inl (refl, c.first_counting-from.ensures);
      opens = c.in_ok-logs.ensures.ok;
      enough = elim c.then-from-le1.branch [
        | then-from-le1-via-then-from-le1 w ↦ inl w.if-from-le1.true
        | then-from-le1-via-else-from-le1+then-is_some w ↦
            inr (subst (λ logs. HasChoice (map standing_of logs) slots) w.deref.ensures.value
            (has_choice (map standing_of w.deref.result.now) slots w.choose.result (sym w.is_some.ensures ∙ w.if-is_some.true) w.choose.ensures.chosen w.choose.ensures.has))
      ];
    }

pub returns-clause-ok : goal.returns-clause-ok
returns-clause-ok g c =
    let is_honest = g.D.Disk.is_honest in
    let state = g.D.Disk.state in
    let failures = g.D.Disk.failures in
    let slots = map (option_map view_of) c.args.checkpoints.now in
    let told = c.args.told.now in
    let old = c.args.files.now in
    let mid = c.open_from.new.files in
    let new = c.open_from-2.new.files in
    let tried = c.in_ok-logs.logs.items in
    of_some_ok c.open_from-2.result
    (λ logs. OpensNumberedFiles is_honest state failures 0 told mid new logs.items)
    (λ logs. OpensCounting is_honest state failures slots told old new logs.items)
    (λ logs opens. record {
      from = 0;
      before = mid;
      comes =
          inr (
            refl,
            (
              tried,
              subst (λ from. OpensNumberedFiles is_honest state failures from told old mid tried) c.first_counting-from.ensures c.in_ok-logs.ensures.ok,
              subst (λ logs. HaveNoChoice (map standing_of logs) slots) c.deref.ensures.value
                  (has_none c.choose.result (HaveNoChoice (map standing_of c.deref.result.now) slots) (sym c.is_some.ensures ∙ c.if-is_some.false) c.choose.ensures.none),
            ),
          );
      opens = opens;
      enough = inl (omega arith);
    })
    c.open_from-2.ensures.ok

pub returns-clause-err : goal.returns-clause-err
returns-clause-err g c =
    let is_honest = g.D.Disk.is_honest in
    let state = g.D.Disk.state in
    let failures = g.D.Disk.failures in
    let slots = map (option_map view_of) c.args.checkpoints.now in
    let told = c.args.told.now in
    let old = c.args.files.now in
    let mid = c.open_from.new.files in
    let new = c.open_from-2.new.files in
    let tried = c.in_ok-logs.logs.items in
    of_some_err c.open_from-2.result
    (λ e. StopsNumberedFiles is_honest state failures 0 told e mid new)
    (λ e. StopsCounting is_honest state failures slots told e old new)
    (λ e stops. record {
      from = 0;
      before = mid;
      comes =
          inr (
            refl,
            (
              tried,
              subst (λ from. OpensNumberedFiles is_honest state failures from told old mid tried) c.first_counting-from.ensures c.in_ok-logs.ensures.ok,
              subst (λ logs. HaveNoChoice (map standing_of logs) slots) c.deref.ensures.value
                  (has_none c.choose.result (HaveNoChoice (map standing_of c.deref.result.now) slots) (sym c.is_some.ensures ∙ c.if-is_some.false) c.choose.ensures.none),
            ),
          );
      stops = stops;
    })
    c.open_from-2.ensures.err
