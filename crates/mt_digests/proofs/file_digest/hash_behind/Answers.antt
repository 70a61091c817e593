-- Each window adds what stands after those before.
use Rattle.std.proofs.Common.{◌≡◌, ◌-◌, ◌≤◌, ℕ, List, ◌++◌, IsTrue, take, drop, length, sym, ◌∙◌, ap, subst, arith}
use Rattle.mt_disk.specs.Disk.{DiskState}
use Rattle.sha2.specs.Hashers.{Holds256}
use Rattle.mt_digests.proofs.Windows.{window_more, window_read}
use Rattle.mt_digests.proofs.file_digest.hash_behind.Goals as goal

pub windows-preserved : goal.windows-preserved
windows-preserved g c =
    let before = c.windows.invariant in
    let from = before.from in
    record {
      from = omega (arith, from);
      within = omega (arith, from, c.windows-test.true, c.min-count.ensures);
      told = λ honest has. (
          let still = subst IsTrue (sym before.honest) honest in
          let image = (g.D.Disk.state c.args.disk.now).image in
          let place = c.windows.place in
          let count = c.min-count.result in
          let short : count ≤ length c.windows.window = omega (arith, c.min-count.ensures) in
          let same = ap (λ (s : DiskState). s.image) (before.same honest) in
          let part : take count (c.read.new.out ++ drop count c.windows.window) ≡ take count (drop place image) =
          window_read c.windows.window (g.D.Disk.state c.windows.disk).image c.read.new.out place count short (c.in_ok-read.ensures.told still)
          ∙ ap (λ (l : List ℕ). take count (drop place l)) same in
          subst (λ (m : List ℕ). Holds256 c.update.new.self m)
          (ap (λ (l : List ℕ). take (place - 1) (drop 1 image) ++ l) part ∙ window_more image place count from)
          (c.update.ensures (take (place - 1) (drop 1 image)) (before.told honest has))
          );
      same = λ honest. c.in_ok-read.ensures.same (subst IsTrue (sym before.honest) honest) ∙ before.same honest;
      honest = c.in_ok-read.ensures.honest ∙ before.honest;
      count = c.in_ok-read.ensures.count ∙ before.count;
    }
