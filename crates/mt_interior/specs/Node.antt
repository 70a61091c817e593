-- An interior node as callers see it.
use Rattle.std.specs.Prelude.{◌≡◌, ℕ, ◌-◌, ◌≤◌, List, [], length, Option, None}
use Rattle.mt_version.specs.Parts.{Parts}
use Rattle.mt_lists.specs.Rising.{IsRising}

-- what a node holds: child i of it lies between separators i - 1 and i
pub record InteriorNode : Type 0 where
  pub separators : List ℕ
  pub children : List ℕ
  pub parent : Option ℕ
  pub low : ℕ
  pub high : Option ℕ
  pub version : Parts

-- a new node, without children and parent
abbrev pub childless : ℕ → Option ℕ → Parts → InteriorNode
childless low high version = record {
  separators = [];
  children = [];
  parent = None;
  low = low;
  high = high;
  version = version;
}

-- what holds of each node: at most sixteen children, a separator between each two, and these rise
pub record IsInterior (separators children : List ℕ) : Type 0 where
  pub room : length children ≤ 16
  pub between : length separators ≡ length children - 1
  pub rising : IsRising separators
