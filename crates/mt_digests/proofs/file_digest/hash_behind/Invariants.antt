-- The hasher holds what stands before this place, if the file is that of an honest disk; and no call changed or failed.
use Rattle.std.proofs.Common.{◌≡◌, ◌≤◌, ◌-◌, IsTrue, length, take, drop, max}
use Rattle.sha2.specs.Hashers.{Holds256}
use Rattle.mt_digests.proofs.file_digest.hash_behind.Given as goal

abbrev pub invariant-windows : goal.invariant-windows
invariant-windows g l = record {
  from : 1 ≤ l.place;
  within : l.place ≤ max 1 l.len;
  told : IsTrue (g.D.Disk.is_honest l.fn.disk) → l.len ≡ length (g.D.Disk.state l.fn.disk).image → Holds256 l.hash (take (l.place - 1) (drop 1 (g.D.Disk.state l.fn.disk).image));
  same : IsTrue (g.D.Disk.is_honest l.fn.disk) → g.D.Disk.state l.disk ≡ g.D.Disk.state l.fn.disk;
  honest : g.D.Disk.is_honest l.disk ≡ g.D.Disk.is_honest l.fn.disk;
  count : g.D.Disk.failures l.disk ≡ g.D.Disk.failures l.fn.disk;
}

abbrev pub decreases-windows : goal.decreases-windows
decreases-windows g l = l.len - l.place
