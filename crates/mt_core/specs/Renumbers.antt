-- A state that keeps logs from now on, and one whose counting begins anew.
use Rattle.std.specs.Prelude.{◌≡◌, ℕ, ◌≤◌, [], length, replicate, Some}
use Rattle.mt_rows.specs.{Rows.Bytes, Stamps.Stamped, Tenants.Contents}
use Rattle.mt_arena.specs.Renumbers.{arena_renumbered}
use Rattle.mt_state.specs.Views.{Core}
use Rattle.std.specs.FinMap as pairs

-- no pair gets a stamp over a number from this function
abbrev pub AreGivenUpto : ℕ → (ℕ → ℕ) → Contents → Type 0
AreGivenUpto number f contents = (q : ℕ × Bytes) (r : Stamped) → pairs.get contents q ≡ Some r → f r.stamp ≤ number

-- with so many logs, each of which was given all that was done
abbrev pub with_logs : ℕ → Core → Core
with_logs count c = record c { logs = replicate count c.steps }

-- so many steps were made, no answer was taken and no operation is open; the tape and the logs begin there, no node's version counts a change, and
-- each pair has the stamp that a function gives for its own
abbrev pub core_renumbered : ℕ → (ℕ → ℕ) → Core → Core
core_renumbered steps f c = record {
  steps = steps;
  answers = 0;
  logs = replicate (length c.logs) steps;
  accounts = c.accounts;
  arena = arena_renumbered steps f c.arena;
  tape = record { entries = []; floor = steps; reserved = 0 };
  table = [];
}
