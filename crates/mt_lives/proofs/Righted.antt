-- A state whose worker was drained is right, as it was before.
use Rattle.std.proofs.{Common.{ℕ, ◌<◌, ◌≤◌, length, sym, subst, arith}, lemmas.List.length-set, lemmas.List.Elements.All-set}
use Rattle.std.specs.Prelude.{slice_set, slice_index_or}
use Rattle.mt_rows.specs.declared.record.Batch.{Batch}
use Rattle.mt_operation.specs.{declared.outcome.Outcome.Outcome, Operations.OperationView}
use Rattle.mt_state.specs.{Views.StateView, Promises.IsAnswer}
use Rattle.mt_core.specs.{Drains.Drains, Rights.{IsRightTape, IsRightOperation, IsRightState}}

-- a state whose log was given its worker's changes up to a step
abbrev given_to : StateView → ℕ → ℕ → StateView
given_to v worker to = record v { logs = slice_set v.logs worker to }

module _ (v : StateView) (worker to : ℕ) (h : IsRightState v) (there : worker < length v.logs) (later : slice_index_or v.logs worker 0 ≤ to) (made : to ≤ v.steps) where
  right_tape : IsRightTape (given_to v worker to)
  right_tape = record {
    rises = h.tape.rises;
    made = h.tape.made;
    legal = h.tape.legal;
    keys = h.tape.keys;
    logs = record {
      few = let same = length-set v.logs worker to in omega (arith, same, h.tape.logs.few);
      made = All-set (λ m. m ≤ v.steps) v.logs worker to made h.tape.logs.made;
      reached =
          let floor = h.tape.logs.reached worker 0 there in
          All-set (λ m. v.tape.floor ≤ m) v.logs worker to (omega (arith, floor, later)) h.tape.logs.reached;
    };
  }

  answers : (op : OperationView) (told : Outcome) → IsAnswer v op told → IsAnswer (given_to v worker to) op told
  answers op told a = record {
    begun = a.begun;
    since = a.since;
    upto = a.upto;
    placed = λ memory scan. let p = a.placed memory scan in record { changes = p.changes; looks = p.looks };
    lawful = a.lawful;
  }

  right_operation : (op : OperationView) → IsRightOperation v op → IsRightOperation (given_to v worker to) op
  right_operation op r = record {
    floor = r.floor;
    answer = λ done. let a = r.answer done in (a.0, a.1, answers op a.0 a.2);
    placed = λ m is. let e = r.placed m is in record {
      entry = e.entry;
      there = e.there;
      step_is = e.step_is;
      worker = e.worker;
      tenant = e.tenant;
      key_is = e.key_is;
      makes = e.makes;
      keeps = e.keeps;
      was = e.was;
      met = e.met;
    };
  }

  right_given : IsRightState (given_to v worker to)
  right_given = record {
    answers = h.answers;
    tape = right_tape;
    operations = λ o op is. right_operation op (h.operations o op is);
    accounts = λ t a is. let r = h.accounts t a is in record { count = r.count; quota = r.quota };
    holders = h.holders;
    quotas = h.quotas;
    written = λ e has. let w = h.written e has in record { made = w.made; before = w.before };
    stamps = h.stamps;
  }

-- a drain leaves a state right
pub right_drained : (old new : StateView) (worker : ℕ) (batch : Batch) → IsRightState old → worker < length old.logs → batch.from ≤ batch.to → Drains old new worker batch → IsRightState new
right_drained old new worker batch h there order d =
    let begins = d.next.begins in
    subst IsRightState (sym d.stands) (right_given old worker batch.to h there (omega (arith, begins, order)) d.next.made)
