-- What was begun, added and ended, in that order.
use Rattle.std.proofs.Common.{ap, inl, inr, refl}
use Rattle.mt_stored.specs.Checkpoints.{scanner}
use Rattle.mt_stored.proofs.checkpoints.write_checkpoint.Goals as goal

pub returns-in-Err-add_pages-clause-err : goal.returns-in-Err-add_pages-clause-err
returns-in-Err-add_pages-clause-err g c = inr (inl (record {
  first = c.look-first.result.steps;
  looked = scanner c.look-first.new.self c.args.pass.now.seen c.args.pass.now.share.amount;
  start = c.new-walk.result;
  begun = c.in-Ok.writing;
  begins = record {
    first_is = record { logs = c.look-first.result.logs; looked = c.look-first.ensures; same = refl };
    begins = c.in-Ok.ensures.ok;
    starts = record {
      tenants_are = ap (λ v. v.items) c.new-walk.ensures.tenants;
      place = c.new-walk.ensures.place;
      from = c.new-walk.ensures.from;
      after = c.new-walk.ensures.after;
    };
  };
  stops = c.in-Err-add_pages.ensures.err;
}))

pub returns-in-Ok-end-clause-ok : goal.returns-in-Ok-end-clause-ok
returns-in-Ok-end-clause-ok g c = record {
  first = c.look-first.result.steps;
  last = c.look-last.result.steps;
  looked = scanner c.look-first.new.self c.args.pass.now.seen c.args.pass.now.share.amount;
  shown = scanner c.add_pages.new.desk c.add_pages.new.pass.seen c.add_pages.new.pass.share.amount;
  start = c.new-walk.result;
  walk = c.add_pages.new.walk;
  begun = c.in-Ok.writing;
  writing = c.in-Ok-add_pages.writing;
  begins = record {
    first_is = record { logs = c.look-first.result.logs; looked = c.look-first.ensures; same = refl };
    begins = c.in-Ok.ensures.ok;
    starts = record {
      tenants_are = ap (λ v. v.items) c.new-walk.ensures.tenants;
      place = c.new-walk.ensures.place;
      from = c.new-walk.ensures.from;
      after = c.new-walk.ensures.after;
    };
  };
  adds = c.in-Ok-add_pages.ensures.ok;
  last_is = record { logs = c.look-last.result.logs; looked = c.look-last.ensures; same = refl };
  ends = c.in-Ok-end.ensures.ok;
  told = c.in-Ok-end.ensures.digest;
}

pub returns-clause-err : goal.returns-clause-err
returns-clause-err g c = inr (inr (record {
  first = c.look-first.result.steps;
  last = c.look-last.result.steps;
  looked = scanner c.look-first.new.self c.args.pass.now.seen c.args.pass.now.share.amount;
  shown = scanner c.add_pages.new.desk c.add_pages.new.pass.seen c.add_pages.new.pass.share.amount;
  start = c.new-walk.result;
  walk = c.add_pages.new.walk;
  begun = c.in-Ok.writing;
  writing = c.in-Ok-add_pages.writing;
  begins = record {
    first_is = record { logs = c.look-first.result.logs; looked = c.look-first.ensures; same = refl };
    begins = c.in-Ok.ensures.ok;
    starts = record {
      tenants_are = ap (λ v. v.items) c.new-walk.ensures.tenants;
      place = c.new-walk.ensures.place;
      from = c.new-walk.ensures.from;
      after = c.new-walk.ensures.after;
    };
  };
  adds = c.in-Ok-add_pages.ensures.ok;
  last_is = record { logs = c.look-last.result.logs; looked = c.look-last.ensures; same = refl };
  fault = c.in-Err-end.fault;
  fails = c.in-Err-end.ensures.err;
  cause = refl;
}))
