-- What the parts of Snap look for in the entries of a border node, and what they tell of them.
use Rattle.std.specs.Prelude.{◌≡◌, ◌≢◌, ℕ, ◌≤◌, Bool, true, false, List, [], ◌∷◌, length, if◌then◌else◌, Option, Some, None}
use Rattle.std.specs.Ordering.{nat_cmp, ordering_then}
use Rattle.mt_slices.specs.{declared.mark.Mark.Mark, Marks.{IsMark, mark_rank}, Slices.piece_bytes, Keys.tenant_of}
use Rattle.mt_rows.specs.Rows.{Bytes}
use Rattle.mt_border.specs.{declared.entry.Entry.Entry, Held.Held, Entry.pair_of}
use Rattle.mt_interior.specs.Fences.{end_of}
use Rattle.mt_operation.specs.declared.scan.Stop.{Stop}
use Rattle.mt_readings.specs.Reading.{behind_by}
use Rattle.mt_scan.specs.Snaps.{IsOver}
use Rattle.mt_border.specs.Held as helds
use Rattle.mt_operation.specs.declared.scan.Stop.TheVariants as stops

-- which entries a fence with this slice, mark and suffix is behind
abbrev pub behind_at : ℕ → Mark → Bytes → Bool → Entry → Bool
behind_at slice mark suffix after e = behind_by suffix after (ordering_then (nat_cmp e.slice slice) (nat_cmp (mark_rank e.mark) (mark_rank mark))) (pair_of e.held)

-- whether an unstable slot stands among the entries that are read
abbrev pub unstable_on : Held → Bool → Bool
unstable_on (helds.Stable pair) rest = rest
unstable_on (helds.Unstable pair tree) rest = true
unstable_on (helds.Link tree) rest = false

abbrev pub has_unstable : (Entry → Bool) → List Entry → Bool
has_unstable behind [] = false
has_unstable behind (e ∷ es) = if behind e then has_unstable behind es else unstable_on e.held (has_unstable behind es)

-- the slice and the tree of a link
abbrev pub TellsLink : Option Entry → Option (ℕ × ℕ) → Type 0
TellsLink None None = Unit {0}
TellsLink None (Some link) = ⊥
TellsLink (Some e) None = ⊥
TellsLink (Some e) (Some link) = (e.slice ≡ link.0) × (e.held ≡ helds.Link link.1)

-- no link of the tenant's
abbrev pub HasNoOwn : ℕ → ℕ → Option (ℕ × ℕ) → Type 0
HasNoOwn t layer link = (slice tree : ℕ) → link ≡ Some (slice, tree) → IsOver t layer slice

-- how a stretch ends, by the link at which the reading stopped, and by the node's high fence
abbrev pub EndsAt : ℕ → ℕ → Option (ℕ × ℕ) → Option ℕ → Stop → Type 0
EndsAt t layer link high (stops.Link slice tree) = (link ≡ Some (slice, tree)) × ¬ IsOver t layer slice
EndsAt t layer link high (stops.Next slice) = HasNoOwn t layer link × (high ≡ Some slice) × ¬ IsOver t layer slice
EndsAt t layer link high stops.Tree = HasNoOwn t layer link × (high ≡ None) × (layer ≢ 0)
EndsAt t layer link high stops.Tenant = HasNoOwn t layer link × IsOver t layer (end_of high)

-- an entry whose key has its tenant's four bytes in its tree's first bytes, or in its own
pub record NamesTenant (prefix : Bytes) (e : Entry) : Type 0 where
  pub mark : IsMark e.mark
  pub long : prefix ≡ [] → 4 ≤ length (piece_bytes e.slice e.mark)

-- a tree below the top has keys of one tenant alone: they begin with its four bytes
pub record IsOfTenant (prefix : Bytes) (t : ℕ) : Type 0 where
  pub long : prefix ≢ [] → 4 ≤ length prefix
  pub is : prefix ≢ [] → tenant_of prefix ≡ t
