-- The changes of a replay, as a map of the code: of each owner that changed the row that stands there now.
use Rattle.std.specs.{Prelude.{◌≡◌, ℕ, Option}, Option.unwrap_or, BTreeMap.{BTreeMap, get}}
use Rattle.mt_rows.specs.{Rows.Bytes, Stamps.Stamped, Tenants.{Contents as Pairs, owned_cmp}}
use Rattle.std.specs.FinMap as pairs

-- by owner the row that stands there now, or none
abbrev pub Changes : Type 0
Changes = BTreeMap (ℕ × Bytes) (Option Stamped)

-- pairs after changes: at each owner stands what these tell, or else what stood there
pub record AreAfter (changes : Changes) (old new : Pairs) : Type 0 where
  pub at : (owner : ℕ × Bytes) → pairs.get new owner ≡ unwrap_or (get owned_cmp changes owner) (pairs.get old owner)
