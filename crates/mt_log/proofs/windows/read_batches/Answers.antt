-- A batch that was read stands behind those so far. If none was, the reader stays.
use Rattle.std.proofs.Common.{◌≡◌, ◌++◌, ◌∷◌, [], ℕ, Option, IsTrue, drop, sym, ◌∙◌, subst, arith}
use Rattle.mt_rows.specs.Rows.{Bytes}
use Rattle.mt_log.specs.{declared.batch.ReadBatch.ReadBatch, declared.batch_reader.BatchReader.BatchReader, Contents.IsLogBatch}
use Rattle.mt_log.{specs.Stops.{IsHead, IsNoBatch, IsFoundBy, IsGivenBy, StandBefore, IsStop}, proofs.ReadLaws.{of_same, batches_more, stand_over}}
use Rattle.mt_log.proofs.windows.read_batches.Goals as goal

pub loop-read-preserved : goal.loop-read-preserved
loop-read-preserved g c =
    let before = c.loop-read.invariant in
    let start = c.args.start in
    let old = c.loop-read.reader in
    let new = c.step.new.self in
    let bs = c.loop-read.batches.items in
    let b = c.in-Some.read.batch in
    let given = subst (λ (o : Option ReadBatch). IsGivenBy old o new) c.in-Some.is c.in_ok-read.ensures.given in
    let more : c.push.new.self.items ≡ bs ++ b ∷ [] = c.in_ok-push.ensures.items in
    record {
      batches = rw (c.to-mark.ensures, more) (batches_more start.version start.start c.loop-read.mark bs b before.batches (subst (λ (v : ℕ). IsLogBatch v b) before.version given.0));
      version = c.step.ensures.version ∙ before.version;
      len = c.step.ensures.len ∙ before.len;
      told =
          λ honest has first. (
          let image = (g.D.Disk.state c.args.disk.now).image in
          let stand = before.told honest has first in
          let told = of_same g.D.Disk.is_honest g.D.Disk.state c.args.disk.now old.len c.loop-read.disk before.same before.honest (λ (l : Bytes). IsHead (drop old.place l) old.head → IsFoundBy l old c.in_ok-read.field-0 new) c.in_ok-read.ensures.told in
          let over = subst (λ (o : Option ReadBatch). IsFoundBy image old o new) c.in-Some.is (told honest (before.len ∙ has) stand.1) in
          let next = stand_over start.place image bs b old new stand.0 over in
          (subst (StandBefore start.place new.place image) (sym more) next.0, next.1)
          );
      same = λ honest. c.step.ensures.same (subst IsTrue (sym before.honest) honest) ∙ before.same honest;
      honest = c.step.ensures.honest ∙ before.honest;
      count = c.in_ok-read.ensures.count ∙ before.count;
    }

pub returns-clause-ok : goal.returns-clause-ok
returns-clause-ok g c =
    let before = c.loop-read.invariant in
    let start = c.args.start in
    let old = c.loop-read.reader in
    let new = c.step.new.self in
    let bs = c.loop-read.batches.items in
    let stays = subst (λ (o : Option ReadBatch). IsGivenBy old o new) c.in_default.is c.in_ok-read.ensures.given in
    let within = new.within in
    let len = before.len in
    record {
      batches = before.batches;
      within = omega (arith, within, c.step.ensures.len, len);
      told =
          λ honest has first. (
          let image = (g.D.Disk.state c.args.disk.now).image in
          let stand = before.told honest has first in
          let told = of_same g.D.Disk.is_honest g.D.Disk.state c.args.disk.now old.len c.loop-read.disk before.same before.honest (λ (l : Bytes). IsHead (drop old.place l) old.head → IsFoundBy l old c.in_ok-read.field-0 new) c.in_ok-read.ensures.told in
          let none = subst (λ (o : Option ReadBatch). IsFoundBy image old o new) c.in_default.is (told honest (len ∙ has) stand.1) in
          subst (λ (r : BatchReader). IsStop start.version start.place image bs r) (sym stays) (record { stand = stand.0; stops = subst (λ (v : ℕ). IsNoBatch v (drop old.place image) old.head) before.version none })
          );
    }
