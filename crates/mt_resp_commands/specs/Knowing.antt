-- What sessions ask besides their commands, and what they are told.
use Rattle.std.specs.Prelude.{ℕ, Option}
use Rattle.mt_rows.specs.Rows.{Bytes}
use Rattle.mt_resp.specs.declared.{told.Told.Told, asked.Status.Status}

-- A cursor that stands for a key of a tenant, from after which a scan goes on; the key of a cursor, if it is still kept;
-- what the server reports.
pub data Known : Type 0 where
  Keeps : ℕ → Bytes → ℕ → Known
  Finds : ℕ → ℕ → Option Bytes → Known
  Reports : ℕ → Status → Told → Known

-- what a state knows
abbrev pub KnowledgeRelation : Type 0 → Type 1
KnowledgeRelation S = S → Known → Type 0
