-- What a finished scan may show, by the maps that its tenant had between its first and last step.
use Rattle.std.specs.{Prelude.{◌≡◌, ℕ, ◌≤◌, Bool, true, List, length, map, IsSome, Some}, List.{All, Contains}, List.Sorted.IsStrictlySortedBy}
use Rattle.std.specs.{Ordering.{nat_cmp, is_le}, Cmp.Lexicographic.slice_cmp}
use Rattle.mt_rows.specs.{declared.command.Command.Command, declared.command.Command.TheVariants.Scan, declared.reply.Reply.Reply}
use Rattle.mt_rows.specs.{declared.reply.Reply.TheVariants.{Pairs, NoMemory}, Rows.Bytes, Maps.{Map, is_walked}, Stamps.{Stamped, as_shown}}
use Rattle.std.specs.FinMap as pairs

-- the pairs that a scan shows
abbrev pub Shown : Type 0
Shown = List (Bytes × Stamped)

-- up to the last key shown, where as many pairs were shown as were asked for
abbrev pub IsReached : ℕ → Shown → Bytes → Type 0
IsReached count ps key = length ps ≡ count → (k : Bytes) × (Contains (map (λ p. p.0) ps) k) × (is_le (slice_cmp nat_cmp key k) ≡ true)

-- at most count pairs of the walked keys in rising order, each one of some map between; and each walked key that stayed throughout
pub record IsLawful (maps : ℕ → Map) (Between : ℕ → Type 0) (from : Bytes) (after : Bool) (count : ℕ) (columns : List ℕ) (ps : Shown) : Type 0 where
  pub few : length ps ≤ count
  pub rises : IsStrictlySortedBy (slice_cmp nat_cmp) (map (λ p. p.0) ps)
  pub walked : All (λ p. is_walked from after p.0 ≡ true) ps
  pub real : All (λ p. (m : ℕ) × Between m × ((row : Stamped) × (pairs.get (maps m) p.0 ≡ Some row) × (p.1 ≡ as_shown columns row))) ps
  pub whole : (key : Bytes) → is_walked from after key ≡ true → IsReached count ps key → ((m : ℕ) → Between m → IsSome (pairs.get (maps m) key)) → Contains (map (λ p. p.0) ps) key

-- a scan shows lawful pairs, unless memory stopped it; another command owes nothing here
abbrev pub IsLawfulScan : (ℕ → Map) → (ℕ → Type 0) → Command → Reply → Type 0
IsLawfulScan maps Between (Scan from after count columns) (Pairs ps) = IsLawful maps Between from after count columns ps
IsLawfulScan maps Between (Scan from after count columns) NoMemory = Unit {0}
IsLawfulScan maps Between (Scan from after count columns) _ = ⊥
IsLawfulScan maps Between _ _ = Unit {0}
