-- The files were taken out, opened and put back.
use Rattle.std.proofs.{Common.{inr, [], map, length, refl, sym, ◌∙◌, ap, subst, arith}, lemmas.{Bool.{eqb-true, eqb-false}, List.length-map}}
use Rattle.mt_chain_files.{specs.Chosen.{OpensChains, StopsChains}, proofs.Lasts.as_many_places}
use Rattle.mt_store_logs.specs.{Recovers.slots_of, Taking.{files_of, StopsOpening}}
use Rattle.mt_store_logs.proofs.{ChainFormat.generation_within, Openings.{put_back, keep_none, count_stops, none_stop, many_stop}}
use Rattle.mt_store_logs.proofs.opening.open_logs.Goals.{then-is_empty-via-then-is_empty, then-is_empty-via-else-is_empty+then-logs-gt64}
use Rattle.mt_store_logs.proofs.opening.open_logs.Goals as goal

pub returns-then-is_empty-clause-err : goal.returns-then-is_empty-clause-err
returns-then-is_empty-clause-err g c =
    let is_honest = g.D.Disk.is_honest in
    let state = g.D.Disk.state in
    let failures = g.D.Disk.failures in
    let slots = slots_of c.args.checkpoints.now in
    let logs = c.args.logs.now in
    subst (λ e. StopsOpening is_honest state failures slots e logs logs) (sym c.of_all.ensures)
    (elim c.then-is_empty.branch [
      | then-is_empty-via-then-is_empty w ↦ none_stop is_honest state failures slots logs (eqb-true (length logs) 0 (sym c.is_empty.ensures ∙ w.if-is_empty.true))
      | then-is_empty-via-else-is_empty+then-logs-gt64 w ↦ many_stop is_honest state failures slots logs (let over = w.if-logs-gt64.true in omega (arith, over))
    ])

pub put_all-requires-clause-none : goal.put_all-requires-clause-none
put_all-requires-clause-none g c = keep_none c.args.logs.now c.take_all.new.logs c.take_all.ensures.logs

pub put_all-requires-in-Err-open_chains-clause-none : goal.put_all-requires-in-Err-open_chains-clause-none
put_all-requires-in-Err-open_chains-clause-none g c = keep_none c.args.logs.now c.take_all.new.logs c.take_all.ensures.logs

pub put_all-requires-clause-last : goal.put_all-requires-clause-last
put_all-requires-clause-last g c =
    let some = eqb-false (length c.args.logs.now) 0 (sym c.is_empty.ensures ∙ c.if-is_empty.false) in
    let same = ap length (c.deref_mut.ensures.value ∙ c.take_all.ensures.files) in
    let many = length-map c.args.logs.now files_of in
    generation_within g.D.Disk.is_honest g.D.Disk.state g.D.Disk.failures (slots_of c.args.checkpoints.now) c.deref_mut.result.now c.open_chains.new.files
    c.in-Ok-open_chains.chains c.in-Ok-open_chains.ensures.ok (omega (arith, some, same, many))

pub returns-in-Ok-open_chains-clause-last : goal.returns-in-Ok-open_chains-clause-last
returns-in-Ok-open_chains-clause-last g c =
    let some = eqb-false (length c.args.logs.now) 0 (sym c.is_empty.ensures ∙ c.if-is_empty.false) in
    let same = ap length (c.deref_mut.ensures.value ∙ c.take_all.ensures.files) in
    let many = length-map c.args.logs.now files_of in
    generation_within g.D.Disk.is_honest g.D.Disk.state g.D.Disk.failures (slots_of c.args.checkpoints.now) c.deref_mut.result.now c.open_chains.new.files
    c.in-Ok-open_chains.chains c.in-Ok-open_chains.ensures.ok (omega (arith, some, same, many))

pub returns-in-Ok-open_chains-clause-ok : goal.returns-in-Ok-open_chains-clause-ok
returns-in-Ok-open_chains-clause-ok g c =
    let is_honest = g.D.Disk.is_honest in
    let state = g.D.Disk.state in
    let failures = g.D.Disk.failures in
    let slots = slots_of c.args.checkpoints.now in
    let chains = c.in-Ok-open_chains.chains in
    let new = c.open_chains.new.files in
    let opens = c.in-Ok-open_chains.ensures.ok in
    record {
      files = new;
      opens = subst (λ old. OpensChains is_honest state failures slots old new chains) (c.deref_mut.ensures.value ∙ c.take_all.ensures.files) opens;
      back =
          put_back chains.generation chains.begun.items c.deref.result.now c.take_all.new.files.len new c.take_all.new.files.items c.args.logs.now c.take_all.new.logs c.put_all.new.logs
          c.take_all.ensures.logs c.put_all.ensures.logs c.deref.ensures.value c.take_all.new.files.ok.0
          (as_many_places is_honest state failures slots c.deref_mut.result.now new chains opens ∙ ap length c.deref_mut.ensures.value);
    }

pub returns-in-Err-open_chains-clause-err : goal.returns-in-Err-open_chains-clause-err
returns-in-Err-open_chains-clause-err g c =
    let is_honest = g.D.Disk.is_honest in
    let state = g.D.Disk.state in
    let failures = g.D.Disk.failures in
    let slots = slots_of c.args.checkpoints.now in
    let e = c.in-Err-open_chains.fault in
    let new = c.open_chains.new.files in
    let stops = c.in-Err-open_chains.ensures.err in
    inr (record {
      files = new;
      stops =
          subst (λ e. StopsChains is_honest state failures slots e (map files_of c.args.logs.now) new) (sym c.from.ensures)
          (subst (λ old. StopsChains is_honest state failures slots e old new) (c.deref_mut.ensures.value ∙ c.take_all.ensures.files) stops);
      back =
          put_back 0 [] [] c.take_all.new.files.len new c.take_all.new.files.items c.args.logs.now c.take_all.new.logs c.put_all-in-Err-open_chains.new.logs
          c.take_all.ensures.logs c.put_all-in-Err-open_chains.ensures.logs refl c.take_all.new.files.ok.0
          (count_stops is_honest state failures slots e c.deref_mut.result.now new stops ∙ ap length c.deref_mut.ensures.value);
    })
