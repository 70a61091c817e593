-- How long records may be, and that a bounded batch fits four bytes.
use Rattle.std.proofs.{Common.{◌*◌, ◌≤◌, List, [], ◌∷◌, length, refl, arith, ℕ, ◌≡◌}, lemmas.List.{length-append, length-map}}
use Rattle.std.proofs.lemmas.List.Elements.{recursion_from_All}
use Rattle.std.specs.List.{flat_map, AllByRecursion}
use Rattle.mt_rows.specs.{declared.record.Record.Record, declared.record.Batch.Batch, Changes.{IsChange, Named, indexes_of}, Rows.Bytes}
use Rattle.mt_rows.specs.{declared.record.Write.TheVariants.{Changed, Removed, Whole}, declared.record.Write.Write}
use Rattle.mt_rows.proofs.Indexes.{few_indexes}
use Rattle.mt_fields.specs.Fields.{string}
use Rattle.mt_batches.specs.Batches.{IsRecord, IsBounded, IsWrite}
use Rattle.mt_row_fields.{proofs.RowLaws.row_short, specs.Format.{change_bytes, named_bytes}}
use Rattle.mt_log.{specs.{Format.{record_bytes, write_bytes}, Contents.IsBatch}, proofs.ReadLaws.body_len}

named_len : (change : Named) → AllByRecursion (λ (c : ℕ × Bytes). length c.1 ≤ 1024) change → length (flat_map named_bytes change) ≤ 1027 * length change
named_len [] is = omega arith
named_len (c ∷ change) is =
    let first : length c.1 ≤ 1024 = is.0 in
    let rest = named_len change is.1 in
    let all = length-append (named_bytes c) (flat_map named_bytes change) in
    omega (arith, first, rest, all)

-- changed columns are 16 at most
change_len : (change : Named) → IsChange change → length (change_bytes change) ≤ 16433
change_len change is =
    let few : length (indexes_of change) ≤ 16 = few_indexes (indexes_of change) is.names.indexes in
    let same : length (indexes_of change) ≡ length change = length-map change (λ (c : ℕ × Bytes). c.0) in
    let all = named_len change (recursion_from_All (λ (c : ℕ × Bytes). length c.1 ≤ 1024) change is.short) in
    omega (arith, few, same, all)

write_len : (write : Write) → IsWrite write → length (write_bytes write) ≤ 16434
write_len Removed is = omega arith
write_len (Whole row) is = let row_fits = row_short row is in omega (arith, row_fits)
write_len (Changed change) is = let change_fits = change_len change is in omega (arith, change_fits)

record_len : (r : Record) → IsRecord r → length (record_bytes r) ≤ 16699
record_len r is =
    let write = write_len r.write is.write in
    let parts = length-append (string r.key) (write_bytes r.write) in
    omega (arith, write, is.key, parts)

records_len : (records : List Record) → AllByRecursion IsRecord records → length (flat_map record_bytes records) ≤ 16699 * length records
records_len [] is = omega arith
records_len (r ∷ rs) is =
    let first = record_len r is.0 in
    let rest = records_len rs is.1 in
    let all = length-append (record_bytes r) (flat_map record_bytes rs) in
    omega (arith, first, rest, all)

-- so a bounded batch is one that an append takes
pub bounded_fits : (b : Batch) → IsBounded b → IsBatch b
bounded_fits b is =
    let len = records_len b.records (recursion_from_All IsRecord b.records is.in_order.records.each) in
    let total = body_len b (length (flat_map record_bytes b.records)) refl in
    record {
      order = is.in_order.order;
      last = is.in_order.last;
      records = is.in_order.records;
      few = omega (arith, is.few);
      short = omega (arith, len, total, is.few);
    }
