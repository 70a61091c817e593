-- Records that are gathered one behind the other, each with a later stamp.
use Rattle.std.proofs.{Common.{ℕ, ◌+◌, ◌<◌, ◌≤◌, List, [], ◌∷◌, ◌++◌, map, arith}, lemmas.List.{get_or_append_left, map-append, length-append}}
use Rattle.std.proofs.{lemmas.List.Elements.{All-nil, All-cons, All-append, All-map, All-weaker}, Math.Seq.get_or-append_seam}
use Rattle.std.specs.{List.All, List.Sorted.IsStrictlyIncreasing}
use Rattle.mt_rows.specs.{Commands.IsKey, Limits.AreRecords, declared.record.Record.Record}

-- records, none with a stamp over this one
pub record AreUpTo (last : ℕ) (records : List Record) : Type 0 where
  pub are : AreRecords records
  pub low : All (λ r. r.stamp ≤ last) records

rising_behind : (xs : List ℕ) (last x : ℕ) → IsStrictlyIncreasing xs → All (λ y. y ≤ last) xs → last < x → IsStrictlyIncreasing (xs ++ x ∷ [])
rising_behind xs last x rising low over k lt =
    grind (arith, rising k, low k 0, length-append xs (x ∷ []), get_or_append_left xs (x ∷ []) 0 k, get_or_append_left xs (x ∷ []) 0 (k + 1), get_or-append_seam xs x [] 0)

-- one record more
pub one_more : (last : ℕ) (r : Record) (records : List Record) → AreUpTo last records → last < r.stamp → IsKey r.key → AreUpTo r.stamp (records ++ r ∷ [])
one_more last r records h over key = record {
  are = record {
    keys = All-append (λ (x : Record). IsKey x.key) records (r ∷ []) h.are.keys (All-cons (λ (x : Record). IsKey x.key) r [] key (All-nil (λ (x : Record). IsKey x.key)));
    stamps = rw (map-append (λ (x : Record). x.stamp) records (r ∷ [])) (rising_behind (map (λ (x : Record). x.stamp) records) last r.stamp h.are.stamps (All-map (λ y. y ≤ last) (λ (x : Record). x.stamp) records h.low) over);
  };
  low = All-append (λ (x : Record). x.stamp ≤ r.stamp) records (r ∷ [])
      (All-weaker (λ (x : Record). x.stamp ≤ last) (λ (x : Record). x.stamp ≤ r.stamp) (λ x le. omega arith) records h.low)
      (All-cons (λ (x : Record). x.stamp ≤ r.stamp) r [] (omega arith) (All-nil (λ (x : Record). x.stamp ≤ r.stamp)));
}
