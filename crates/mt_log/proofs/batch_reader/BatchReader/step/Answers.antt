-- An open gate stands before no batch if its length goes past the end. Over an honest disk the window is what stands after the gate and its length.
use Rattle.std.proofs.{Common.{◌∙◌, ◌+◌, Option, drop, sym, subst, arith}, lemmas.List.length-drop}
use Rattle.mt_log.{specs.{declared.batch.ReadBatch.ReadBatch, declared.reader.Head.Head, Stops.{IsHead, IsBehind, IsNoBatch}}, proofs.ReadLaws.{not_open, past_end_bad, none_in_window, batch_in_window}}
use Rattle.mt_log.proofs.batch_reader.BatchReader.step.Goals as goal

pub returns-in_default-clause-told : goal.returns-in_default-clause-told
returns-in_default-clause-told g c = λ honest len is. not_open c.args.self.now.version (drop c.args.self.now.place (g.D.Disk.state c.args.disk.now).image) c.args.self.now.head c.in_default.not-Open is

pub returns-then-self-size-clause-told : goal.returns-then-self-size-clause-told
returns-then-self-size-clause-told g c = λ honest len is.
    let old = c.args.self.now in
    let image = (g.D.Disk.state c.args.disk.now).image in
    let rest = drop old.place image in
    let left = c.if-self-size.true in
    subst (IsNoBatch old.version rest) (sym c.in-Open.is)
    (past_end_bad old.version rest c.in-Open.size (subst (IsHead rest) c.in-Open.is is) (omega (arith, len, left, length-drop old.place image)))

pub returns-in_default-2-clause-told : goal.returns-in_default-2-clause-told
returns-in_default-2-clause-told g c = λ honest len is.
    let old = c.args.self.now in
    let image = (g.D.Disk.state c.args.disk.now).image in
    let rest = drop old.place image in
    let bytes = c.deref.result.now in
    let inside = old.within in
    let left = c.if-self-size.false in
    let none = subst (λ (x : Option (ReadBatch × Head)). IsBehind old.version c.in-Open.size bytes x) c.in_default-2.is c.in_ok-read.ensures in
    subst (IsNoBatch old.version rest) (sym c.in-Open.is)
    (none_in_window old.version image bytes old.place c.in-Open.size (subst (IsHead rest) c.in-Open.is is) (omega (arith, inside, left, len)) (c.deref.ensures.value ∙ c.in_ok-bytes.ensures.ok.told honest len) none)

pub returns-clause-told : goal.returns-clause-told
returns-clause-told g c = λ honest len is.
    let old = c.args.self.now in
    let image = (g.D.Disk.state c.args.disk.now).image in
    let rest = drop old.place image in
    let bytes = c.deref.result.now in
    let inside = old.within in
    let left = c.if-self-size.false in
    let read = subst (λ (x : Option (ReadBatch × Head)). IsBehind old.version c.in-Open.size bytes x) c.in-Some.is c.in_ok-read.ensures in
    record {
      size = 5 + c.in-Open.size;
      place = omega arith;
      batch =
          batch_in_window old.version image bytes old.place c.in-Open.size (subst (IsHead rest) c.in-Open.is is) (omega (arith, inside, left, len)) (c.deref.ensures.value ∙ c.in_ok-bytes.ensures.ok.told honest len) c.in-Some.read.batch c.in-Some.head read;
    }
