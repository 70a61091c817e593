-- What commands ask that show many keys.
use Rattle.std.specs.Prelude.{ℕ, ◌-◌, ◌^◌, Bool, true, false, ◌&&◌, List, [], ◌∷◌, codes, Option, Some, None, if◌then◌else◌}
use Rattle.mt_resp.specs.{Grammar.Bytes, Names.is_named, Failing.failed, Arguments.number_of}
use Rattle.mt_resp.specs.declared.asked.{Asked.Asked, RangeWay.RangeWay}
use Rattle.mt_resp.specs.declared.asked.Asked.TheVariants as asks
use Rattle.mt_resp.specs.declared.asked.RangeWay.TheVariants as ways
use Rattle.mt_resp.specs.declared.told.Failure.TheVariants as failures

-- a SCAN from a cursor on, of keys like a pattern, if there is one
abbrev pub scan_of : Option ℕ → Option Bytes → Option ℕ → Asked
scan_of None pattern count = failed failures.NoCursor
scan_of (Some cursor) pattern None = failed failures.NoInteger
scan_of (Some cursor) pattern (Some count) = asks.Scan cursor pattern count

-- a number of keys
abbrev pub count_of : Bytes → Option ℕ
count_of word = number_of (2 ^ 63 - 1) word

-- SCAN with its options: MATCH and COUNT, each once
abbrev pub scan_asked : Option ℕ → List Bytes → Asked
scan_asked cursor [] = scan_of cursor None (Some 10)
scan_asked cursor (o ∷ v ∷ []) =
    if is_named o (codes "match") then scan_of cursor (Some v) (Some 10) else
    if is_named o (codes "count") then scan_of cursor None (count_of v) else failed failures.Syntax
scan_asked cursor (o ∷ v ∷ p ∷ w ∷ []) =
    if is_named o (codes "match") && is_named p (codes "count") then scan_of cursor (Some v) (count_of w) else
    if is_named o (codes "count") && is_named p (codes "match") then scan_of cursor (Some w) (count_of v) else failed failures.Syntax
scan_asked cursor options = failed failures.Syntax

-- a RANGE from a key on, or after it, or of those that begin with it
abbrev pub way_of : Bytes → Option RangeWay
way_of option = if is_named option (codes "after") then Some ways.After else if is_named option (codes "prefix") then Some ways.Prefix else None

abbrev pub range_of : Bytes → Option ℕ → Option RangeWay → Bool → Asked
range_of from None way stamps = failed failures.NoInteger
range_of from (Some count) None stamps = failed failures.Syntax
range_of from (Some count) (Some way) stamps = asks.Range from way count stamps

-- RANGE with its options: AFTER or PREFIX, and STAMPS
abbrev pub range_asked : Bytes → Option ℕ → List Bytes → Asked
range_asked from count [] = range_of from count (Some ways.From) false
range_asked from count (o ∷ []) = if is_named o (codes "stamps") then range_of from count (Some ways.From) true else range_of from count (way_of o) false
range_asked from count (o ∷ p ∷ []) = if is_named p (codes "stamps") then range_of from count (way_of o) true else failed failures.Syntax
range_asked from count options = failed failures.Syntax
