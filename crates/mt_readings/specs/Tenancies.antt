-- What a reading tells of one tenant's map.
use Rattle.std.specs.{Prelude.{◌≡◌, ◌⊎◌, ℕ, ◌==◌, if◌then◌else◌, Bool, true, false, List, Option, Some, None, filter_map}, List.Contains}
use Rattle.mt_slices.specs.Keys.{IsStoredKey, stored_key, tenant_of, user_key_of}
use Rattle.mt_rows.specs.{Rows.Bytes, Tenants.Contents, Stamps.Stamped}
use Rattle.mt_border.specs.{Held.Pair, declared.entry.Entry.Entry, Entry.pair_of, Contents.{owned, key_at, HasKey, row_of}}
use Rattle.mt_readings.specs.{Reading.is_below, Spans.HasPair}
use Rattle.std.specs.FinMap as pairs

-- a tenant's pair, by its user's key
abbrev pub own_pair : ℕ → Bytes → Bytes → Stamped → Option (Bytes × Stamped)
own_pair t prefix key row = if tenant_of key == t then Some (user_key_of key, row) else None

-- the tenant's pairs among those that were read
abbrev pub own_pairs : ℕ → Bytes → List (Entry × Pair) → List (Bytes × Stamped)
own_pairs t prefix xs = filter_map (λ x. own_pair t prefix (key_at prefix x.0 x.1) (row_of x.1)) xs

-- which of a tenant's keys are done with at a fence
abbrev pub passed_at : ℕ → Bytes → Bool → Bytes → Bool
passed_at t fence after key = is_below fence after (stored_key t key)

-- each pair of the contents is that of a stored key
abbrev pub HasStoredKeys : Contents → Type 0
HasStoredKeys c = (q : ℕ × Bytes) (row : Stamped) → pairs.get c q ≡ Some row → (key : Bytes) × IsStoredKey key × (owned key ≡ q)

-- what was read tells all that the contents have of a tenant from a fence on, as far as its keys are reached
pub record TellsTenant (c : Contents) (t : ℕ) (prefix : Bytes) (layer : ℕ) (fence : Bytes) (after : Bool) (reached : Bytes → Bool) (xs : List (Entry × Pair)) : Type 0 where
  pub whole : (key : Bytes) → IsStoredKey key → tenant_of key ≡ t → is_below fence after key ≡ false → reached key ≡ true → HasPair c prefix layer xs key ⊎ (pairs.get c (owned key) ≡ None)
  pub real : (x : Entry × Pair) → Contains xs x → (key : Bytes) × HasKey prefix layer x.0 key × (pair_of x.0.held ≡ Some x.1) × (pairs.get c (owned key) ≡ Some (row_of x.1)) × (is_below fence after key ≡ false) × (tenant_of key ≡ t → reached key ≡ true)
