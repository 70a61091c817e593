-- What was gathered is the next batch, and bounded.
use Rattle.std.{proofs.Common.{◌≡◌, ℕ, List, sym, subst}, specs.Option.unwrap_or}
use Rattle.mt_batches.specs.Batches.{IsBounded, BringsOn}
use Rattle.mt_rows.specs.{declared.record.Record.Record, declared.record.Batch.Batch}
use Rattle.mt_drains.{specs.Drains.IsNextBatch, proofs.Draining.{is_next, is_bounded, are_gathered, brings}}
use Rattle.mt_drains.proofs.drains.batch_after.Goals as goal

pub new-requires : goal.new-requires
new-requires c =
    let t = c.args.tape.now in
    are_gathered c.args.worker c.args.after c.args.steps t.floor c.count_upto-first.result t.entries c.gather.new.records.items c.in_ok-full.full
    c.count_upto-first.ensures.rising c.requires.keys c.requires.made c.count_upto-first.ensures.later c.in_ok-full.ensures.gathers

-- the batch, as it is told
told : (from : ℕ) (to is : ℕ) (records given : List Record) → to ≡ is → given ≡ records
    → (P : Batch → Type 0) → P (record { from = from; to = is; records = records }) → P (record { from = from; to = to; records = given })
told from to is records given same same_records P p =
    subst (λ (n : ℕ). P (record { from = from; to = n; records = given })) (sym same)
    (subst (λ (rs : List Record). P (record { from = from; to = is; records = rs })) (sym same_records) p)

pub returns-clause-is : goal.returns-clause-is
returns-clause-is c =
    let t = c.args.tape.now in
    told c.args.after c.unwrap_or.result (unwrap_or c.in_ok-full.full c.args.steps) c.gather.new.records.items c.new.result c.unwrap_or.ensures c.new.ensures
    (IsNextBatch c.args.worker c.args.after c.args.steps t.entries)
    (is_next c.args.worker c.args.after c.args.steps t.floor c.count_upto-first.result t.entries c.gather.new.records.items c.in_ok-full.full
    c.count_upto-first.ensures.rising c.requires.made c.requires.order c.count_upto-first.ensures.later c.in_ok-full.ensures.gathers)

pub returns-clause-bounded : goal.returns-clause-bounded
returns-clause-bounded c =
    let t = c.args.tape.now in
    told c.args.after c.unwrap_or.result (unwrap_or c.in_ok-full.full c.args.steps) c.gather.new.records.items c.new.result c.unwrap_or.ensures c.new.ensures
    IsBounded
    (is_bounded c.args.worker c.args.after c.args.steps t.floor c.count_upto-first.result t.entries c.gather.new.records.items c.in_ok-full.full
    c.count_upto-first.ensures.rising c.requires.keys c.requires.made c.requires.order c.requires.few c.count_upto-first.ensures.later c.in_ok-full.ensures.gathers
    c.in_ok-full.ensures.few c.in_ok-full.ensures.limits)

pub returns-clause-brings : goal.returns-clause-brings
returns-clause-brings c = λ upto le.
    let t = c.args.tape.now in
    told c.args.after c.unwrap_or.result (unwrap_or c.in_ok-full.full c.args.steps) c.gather.new.records.items c.new.result c.unwrap_or.ensures c.new.ensures
    (BringsOn upto)
    (brings upto c.args.steps t.entries c.args.worker c.args.after _ le
    (is_next c.args.worker c.args.after c.args.steps t.floor c.count_upto-first.result t.entries c.gather.new.records.items c.in_ok-full.full
    c.count_upto-first.ensures.rising c.requires.made c.requires.order c.count_upto-first.ensures.later c.in_ok-full.ensures.gathers))
