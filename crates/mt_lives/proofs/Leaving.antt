-- A store that serves no life, and goes on.
use Rattle.std.proofs.Common.{◌≡◌, ℕ, ◌<◌, ◌≤◌, min, List, length, sym, subst, ◌∙◌}
use Rattle.mt_rows.specs.{Accounts.Accounts, TenantPairs.{quota_in, HasTenants, KeepsQuotas}}
use Rattle.mt_disk.specs.declared.mem.MemDisk.{MemDisk}
use Rattle.mt_crashes.specs.{Histories.{Placed, pairs_upto}, Stores.{Store, LogNow, AllReach}}
use Rattle.mt_store_logs.specs.declared.store_log.StoreLog.{StoreLog}
use Rattle.mt_lives.{specs.{Lives.{Past, AreLeftOf}, Holds.{quotas_of, HasCome, LeadsTo, EachLog, IsDown, KeepsAll, IsLogAt, IsLogDown}}, proofs.{Comes.comes_on, Logged.all_on}}
use Rattle.mt_lives.specs.{Bases.Whole, Turning.Part}

-- the files of each log are as the store tells
abbrev pub AllDown : ℕ → Whole → Store → List (StoreLog MemDisk) → Type 0
AllDown g h s logs = EachLog (λ worker now log. IsLogDown g h now log) s logs

-- a log that stands is one of these
pub log_at_down : (g : ℕ) (part : Part) (s : Store) (given : List ℕ) (worker : ℕ) (now : LogNow) (log : StoreLog MemDisk) → IsLogAt g part s given worker now log → IsLogDown g part.whole now log
log_at_down g part s given worker now log at =
    record { files = at.files; turn = at.stands.turn; shows = at.stands.shows; begins = at.begins.whole; owner = at.stands.owner }

-- a store of so many logs that serves no life
pub record IsLeft (accounts : Accounts) (settled : ℕ) (past : Past) (count : ℕ) (s : Store) : Type 0 where
  pub some : 0 < count
  pub few : count ≤ 64
  pub come : HasCome count s
  pub len : length s.logs ≡ count
  pub settled_so : AllReach settled s
  pub keeps : KeepsAll accounts s
  pub down : IsDown accounts past s

-- it is so of what things led to, while the history stays
pub left_on : (accounts : Accounts) (settled : ℕ) (past : Past) (count : ℕ) (s t : Store) → IsLeft accounts settled past count s → LeadsTo s t
    → length t.logs ≡ length s.logs → t.history ≡ s.history → IsLeft accounts settled past count t
left_on accounts settled past count s t l leads len history = record {
  some = l.some;
  few = l.few;
  come = comes_on count s t l.come leads;
  len = len ∙ l.len;
  settled_so = all_on count settled s t l.some l.few l.come leads l.settled_so;
  keeps = λ m. subst
      (λ (h : List Placed). HasTenants (quota_in accounts) (pairs_upto m h) × KeepsQuotas (quota_in accounts) (pairs_upto m h))
      (sym history) (l.keeps m);
  down = record {
    left = λ cutoff le. subst
        (λ (h : List Placed). AreLeftOf (quotas_of accounts) past.life (min past.kept cutoff) (pairs_upto cutoff h))
        (sym history) (l.down.left cutoff le);
    reach = all_on count past.life.base s t l.some l.few l.come leads l.down.reach;
  };
}
