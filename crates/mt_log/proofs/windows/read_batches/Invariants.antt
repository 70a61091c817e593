-- The batches so far stand before the reader's gate, if the file is that of an honest disk; and no call changed or failed.
use Rattle.std.proofs.Common.{◌≡◌, ◌-◌, IsTrue, drop}
use Rattle.mt_log.specs.Stops.{OfImage, IsHead, AreBatches, StandBefore}
use Rattle.mt_log.proofs.windows.read_batches.Given as goal

abbrev pub invariant-loop-read : goal.invariant-loop-read
invariant-loop-read g l = record {
  batches : AreBatches l.fn.start.version l.fn.start.start l.mark l.batches.items;
  version : l.reader.version ≡ l.fn.start.version;
  len : l.reader.len ≡ l.len;
  told :
      OfImage g.D.Disk.is_honest g.D.Disk.state l.fn.disk l.len (λ image. IsHead (drop l.fn.start.place image) l.fn.start.head → StandBefore l.fn.start.place l.reader.place image l.batches.items × IsHead (drop l.reader.place image) l.reader.head);
  same : IsTrue (g.D.Disk.is_honest l.fn.disk) → g.D.Disk.state l.disk ≡ g.D.Disk.state l.fn.disk;
  honest : g.D.Disk.is_honest l.disk ≡ g.D.Disk.is_honest l.fn.disk;
  count : g.D.Disk.failures l.disk ≡ g.D.Disk.failures l.fn.disk;
}

abbrev pub decreases-loop-read : goal.decreases-loop-read
decreases-loop-read g l = l.reader.len - l.reader.place
