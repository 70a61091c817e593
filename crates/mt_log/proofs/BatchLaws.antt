-- A batch that is read is spelled so, and a spelled batch is read again.
use Rattle.std.proofs.Common.{◌≡◌, ℕ, ◌^◌, ◌<◌, true, cond, eqb, List, [], ◌∷◌, ◌++◌, length, Some, None, refl, sym, ap, subst, ◌∙◌, append_assoc, arith, Bool, false, not, ◌&&◌}
use Rattle.std.proofs.{lemmas.Bool.{eqb-true, and_parts, not-true}, lemmas.List.{append-nil, nil_from_length}}
use Rattle.std.proofs.{lemmas.List.Elements.{All-from_recursion, recursion_from_All, All-weaker}, lemmas.Option.same_Some}
use Rattle.std.specs.{Int.{w32, w64, to_be_bytes}, List.{flat_map, AllByRecursion}}
use Rattle.mt_rows.specs.{Rows.{Bytes, Columns}, declared.record.Record.Record, declared.record.Batch.Batch}
use Rattle.mt_rows.specs.{declared.record.Write.TheVariants.{Changed, Removed, Whole}, declared.record.Write.Write}
use Rattle.mt_fields.specs.{Fields.string, Reading.{◌>>=◌, byte_at, number_at, each_at}}
use Rattle.mt_fields.proofs.FieldLaws.{IsBytes, bind_some, guard_ended, choose, Takes, Takes-then, Takes-more, byte_takes, wide32, wide64, number_takes, number_again, taken_again, each_takes, each_again}
use Rattle.mt_row_fields.specs.{Format.{row_bytes, change_bytes}, Reading.{row_at, key_at, change_at}}
use Rattle.mt_row_fields.proofs.{Tests.{at_most_from_test, test_from_at_most}, RowLaws.{row_takes, row_again, key_takes, key_again}}
use Rattle.mt_row_fields.proofs.ChangeLaws.{change_again, change_takes}
use Rattle.mt_log.specs.{declared.batch.LogBatch.LogBatch, declared.batch.LogBatch.TheVariants.{Records, Resume, OldRecords}}
use Rattle.mt_log.specs.{Format.{record_bytes, body, told_body, batch_fields, write_bytes}, Contents.{IsLogBatch, IsOldBatch, IsOldWrite, IsRecordBatch}}
use Rattle.mt_log.specs.Reading.{record_of, record_at, is_step, records_at, resume_at, batch_kind_at, batch_in, batch_at, changed_at, read_as, whole_at, write_at, write_kind_at}
use Rattle.mt_batches.specs.Batches.{IsRecord, IsWrite}

-- ---- what became of a key

-- what an old record may tell, if it is one
abbrev pub FitsOld : Bool → Write → Type 0
FitsOld true write = IsOldWrite write
FitsOld false write = Unit {0}

abbrev ReadsWrite : Bool → Bytes → Write × Bytes → Type 0
ReadsWrite old bytes x = Takes bytes (write_bytes x.0) x.1 × IsWrite x.0 × FitsOld old x.0

any_whole : (old : Bool) (row : Columns) → FitsOld old (Whole row)
any_whole true row = tt
any_whole false row = tt

any_removed : (old : Bool) → FitsOld old Removed
any_removed true = tt
any_removed false = tt

whole_takes : (old : Bool) (bytes : Bytes) (x : Write × Bytes) → IsBytes bytes → whole_at bytes ≡ Some x → ReadsWrite old (1 ∷ bytes) x
unfolding whole_at
whole_takes old bytes x fits e =
    let a = bind_some (row_at bytes) (λ row. Some (Whole row.0, row.1)) x e in
    let t = row_takes bytes a.0 fits a.1 in
    let made : Write × Bytes = (Whole a.0.0, a.0.1) in
    subst (ReadsWrite old (1 ∷ bytes)) (same_Some made x a.2) (Takes-more 1 bytes (row_bytes a.0.0) a.0.1 t.0, t.1, any_whole old a.0.0)

changed_takes : (bytes : Bytes) (x : Write × Bytes) → IsBytes bytes → changed_at bytes ≡ Some x → ReadsWrite false (2 ∷ bytes) x
unfolding changed_at
changed_takes bytes x fits e =
    let a = bind_some (change_at bytes) (λ change. Some (Changed change.0, change.1)) x e in
    let t = change_takes bytes a.0 fits a.1 in
    let made : Write × Bytes = (Changed a.0.0, a.0.1) in
    subst (ReadsWrite false (2 ∷ bytes)) (same_Some made x a.2) (Takes-more 2 bytes (change_bytes a.0.0) a.0.1 t.0, t.1, tt)

removed_takes : (old : Bool) (bytes : Bytes) (x : Write × Bytes) → IsBytes bytes → Some (Removed, bytes) ≡ Some x → ReadsWrite old (0 ∷ bytes) x
removed_takes old bytes x fits e =
    let made : Write × Bytes = (Removed, bytes) in
    subst (ReadsWrite old (0 ∷ bytes)) (same_Some made x e) (record { parts = refl; rest_fits = fits }, tt, any_removed old)

write_kind_takes : (old : Bool) (kind : ℕ) (bytes : Bytes) (x : Write × Bytes) → IsBytes bytes → write_kind_at old kind bytes ≡ Some x → ReadsWrite old (kind ∷ bytes) x
unfolding write_kind_at
write_kind_takes old kind bytes x fits e =
    let at : (n : ℕ) → eqb kind n ≡ true → ReadsWrite old (n ∷ bytes) x → ReadsWrite old (kind ∷ bytes) x = λ n t r. subst (λ k. ReadsWrite old (k ∷ bytes) x) (sym (eqb-true kind n t)) r in
    choose (eqb kind 0) _ _ _ e (λ t h. at 0 t (removed_takes old bytes x fits h)) (λ _ e1.
    choose (eqb kind 1) _ _ _ e1 (λ t h. at 1 t (whole_takes old bytes x fits h)) (λ _ e2.
    choose (eqb kind 2 && not old) _ _ _ e2 (λ t h.
    let both = and_parts (eqb kind 2) (not old) t in
    at 2 both.0 (subst (λ o. ReadsWrite o (2 ∷ bytes) x) (sym (not-true old both.1)) (changed_takes bytes x fits h))) (λ _ h. absurd cc)))

write_takes : (old : Bool) (bytes : Bytes) (x : Write × Bytes) → IsBytes bytes → write_at old bytes ≡ Some x → ReadsWrite old bytes x
unfolding write_at
write_takes old bytes x fits e =
    let a = bind_some (byte_at bytes) (λ kind. write_kind_at old kind.0 kind.1) x e in
    let first = byte_takes bytes a.0.0 a.0.1 fits a.1 in
    subst (λ (b : Bytes). ReadsWrite old b x) (sym first.0.parts) (write_kind_takes old a.0.0 a.0.1 x first.0.rest_fits a.2)

write_again : (old : Bool) (write : Write) (rest : Bytes) → IsWrite write → FitsOld old write → write_at old (write_bytes write ++ rest) ≡ Some (write, rest)
unfolding write_at write_kind_at whole_at changed_at
write_again old Removed rest h o = refl
write_again old (Whole row) rest h o = rw (row_again row rest h) refl
write_again true (Changed change) rest h o = absurd o
write_again false (Changed change) rest h o = rw (change_again change rest h) refl

-- ---- records

-- a record, old or not, within its limits
abbrev pub FitsRecord : Bool → Record → Type 0
FitsRecord old r = IsRecord r × FitsOld old r.write

pub record_takes : (old : Bool) (bytes : Bytes) (x : Record × Bytes) → IsBytes bytes → record_at old bytes ≡ Some x → Takes bytes (record_bytes x.0) x.1 × FitsRecord old x.0
unfolding record_at
record_takes old bytes x fits e =
    let a = bind_some (number_at w64 bytes) (λ stamp. number_at w32 stamp.1 >>= λ tenant. key_at tenant.1 >>= λ key. write_at old key.1 >>= λ row. Some (record_of stamp.0 tenant.0 key.0 row.0, row.1)) x e in
    let b = bind_some (number_at w32 a.0.1) (λ tenant. key_at tenant.1 >>= λ key. write_at old key.1 >>= λ row. Some (record_of a.0.0 tenant.0 key.0 row.0, row.1)) x a.2 in
    let d = bind_some (key_at b.0.1) (λ key. write_at old key.1 >>= λ row. Some (record_of a.0.0 b.0.0 key.0 row.0, row.1)) x b.2 in
    let f = bind_some (write_at old d.0.1) (λ row. Some (record_of a.0.0 b.0.0 d.0.0 row.0, row.1)) x d.2 in
    let s = number_takes w64 (2 ^ 64) wide64 bytes a.0.0 a.0.1 fits a.1 in
    let t = number_takes w32 (2 ^ 32) wide32 a.0.1 b.0.0 b.0.1 s.0.rest_fits b.1 in
    let u = key_takes b.0.1 d.0 t.0.rest_fits d.1 in
    let v = write_takes old d.0.1 f.0 u.0.rest_fits f.1 in
    let last = Takes-then b.0.1 (string d.0.0) d.0.1 (write_bytes f.0.0) f.0.1 u.0 v.0 in
    let middle = Takes-then a.0.1 (to_be_bytes w32 b.0.0) b.0.1 (string d.0.0 ++ write_bytes f.0.0) f.0.1 t.0 last in
    let whole = Takes-then bytes (to_be_bytes w64 a.0.0) a.0.1 (to_be_bytes w32 b.0.0 ++ (string d.0.0 ++ write_bytes f.0.0)) f.0.1 s.0 middle in
    let made : Record × Bytes = (record_of a.0.0 b.0.0 d.0.0 f.0.0, f.0.1) in
    subst (λ (y : Record × Bytes). Takes bytes (record_bytes y.0) y.1 × FitsRecord old y.0) (same_Some made x f.2)
    (whole, (record { stamp = s.1; tenant = t.1; key = u.1; write = v.1 }, v.2))

pub record_again : (old : Bool) (r : Record) (rest : Bytes) → FitsRecord old r → record_at old (record_bytes r ++ rest) ≡ Some (r, rest)
unfolding record_at
record_again old r rest fits =
    let change = write_bytes r.write ++ rest in
    ap (λ (t : Bytes). record_at old (to_be_bytes w64 r.stamp ++ (to_be_bytes w32 r.tenant ++ t))) (append_assoc (string r.key) (write_bytes r.write) rest)
    ∙ rw (number_again w64 (2 ^ 64) wide64 r.stamp (to_be_bytes w32 r.tenant ++ (string r.key ++ change)) fits.0.stamp, number_again w32 (2 ^ 32) wide32 r.tenant (string r.key ++ change) fits.0.tenant, key_again r.key change fits.0.key, write_again old r.write rest fits.0.write fits.1) refl

-- ---- batches, by their first byte

-- what was read behind the first byte, of a body whose length fits four bytes
abbrev Reads : ℕ → ℕ → Bytes → LogBatch × Bytes → Type 0
Reads version kind bytes x = Takes (kind ∷ bytes) (body x.0) x.1 × (length (body x.0) < 2 ^ 32 → IsLogBatch version x.0)

abbrev batch_of : ℕ → ℕ → List Record → Batch
batch_of from to records = record { from = from; to = to; records = records }

-- the fields of a batch of records, and those records
abbrev ReadsRecords : Bool → Bytes → LogBatch × Bytes → Type 0
ReadsRecords old bytes x = (b : Batch) × (x.0 ≡ read_as old b) × Takes bytes (batch_fields b) x.1 × (length (body (Records b)) < 2 ^ 32 → IsRecordBatch b)
    × AllByRecursion (FitsRecord old) b.records

records_takes : (old : Bool) (bytes : Bytes) (x : LogBatch × Bytes) → IsBytes bytes → records_at old bytes ≡ Some x → ReadsRecords old bytes x
unfolding records_at
records_takes old bytes x fits e =
    let a = bind_some (number_at w64 bytes) (λ from. number_at w64 from.1 >>= λ to. number_at w32 to.1 >>= λ count. each_at (record_at old) count.0 count.1 >>= λ records. cond (is_step to.0) (Some (read_as old (batch_of from.0 to.0 records.0), records.1)) None) x e in
    let b = bind_some (number_at w64 a.0.1) (λ to. number_at w32 to.1 >>= λ count. each_at (record_at old) count.0 count.1 >>= λ records. cond (is_step to.0) (Some (read_as old (batch_of a.0.0 to.0 records.0), records.1)) None) x a.2 in
    let d = bind_some (number_at w32 b.0.1) (λ count. each_at (record_at old) count.0 count.1 >>= λ records. cond (is_step b.0.0) (Some (read_as old (batch_of a.0.0 b.0.0 records.0), records.1)) None) x b.2 in
    let f = bind_some (each_at (record_at old) d.0.0 d.0.1) (λ records. cond (is_step b.0.0) (Some (read_as old (batch_of a.0.0 b.0.0 records.0), records.1)) None) x d.2 in
    let made : LogBatch × Bytes = (read_as old (batch_of a.0.0 b.0.0 f.0.0), f.0.1) in
    let g = guard_ended (is_step b.0.0) made x f.2 in
    let s = number_takes w64 (2 ^ 64) wide64 bytes a.0.0 a.0.1 fits a.1 in
    let t = number_takes w64 (2 ^ 64) wide64 a.0.1 b.0.0 b.0.1 s.0.rest_fits b.1 in
    let u = number_takes w32 (2 ^ 32) wide32 b.0.1 d.0.0 d.0.1 t.0.rest_fits d.1 in
    let v = each_takes (record_at old) record_bytes (FitsRecord old) (record_takes old) d.0.0 d.0.1 f.0 u.0.rest_fits f.1 in
    let texts = flat_map record_bytes f.0.0 in
    let last : Takes b.0.1 (to_be_bytes w32 (length f.0.0) ++ texts) f.0.1 = subst (λ (k : ℕ). Takes b.0.1 (to_be_bytes w32 k ++ texts) f.0.1) (sym v.1) (Takes-then b.0.1 (to_be_bytes w32 d.0.0) d.0.1 texts f.0.1 u.0 v.0) in
    let middle = Takes-then a.0.1 (to_be_bytes w64 b.0.0) b.0.1 (to_be_bytes w32 (length f.0.0) ++ texts) f.0.1 t.0 last in
    let whole = Takes-then bytes (to_be_bytes w64 a.0.0) a.0.1 (to_be_bytes w64 b.0.0 ++ (to_be_bytes w32 (length f.0.0) ++ texts)) f.0.1 s.0 middle in
    let few : length f.0.0 < 2 ^ 32 = omega (arith, u.1, v.1) in
    let each : AllByRecursion IsRecord f.0.0 = recursion_from_All IsRecord f.0.0 (All-weaker (FitsRecord old) IsRecord (λ r h. h.0) f.0.0 (All-from_recursion (FitsRecord old) f.0.0 v.2)) in
    subst (ReadsRecords old bytes) g.1 (
      batch_of a.0.0 b.0.0 f.0.0,
      refl,
      whole,
      (λ short. record { first = s.1; last = at_most_from_test b.0.0 (2 ^ 59) g.0; each = All-from_recursion IsRecord f.0.0 each; few = few; short = short }),
      v.2,
    )

new_takes : (version : ℕ) (bytes : Bytes) (x : LogBatch × Bytes) → IsBytes bytes → records_at false bytes ≡ Some x → Reads version 2 bytes x
new_takes version bytes x fits e =
    let r = records_takes false bytes x fits e in
    subst (λ (y : LogBatch). Takes (2 ∷ bytes) (body y) x.1 × (length (body y) < 2 ^ 32 → IsLogBatch version y)) (sym r.1) (Takes-more 2 bytes (batch_fields r.0) x.1 r.2, r.3)

old_takes : (version : ℕ) (bytes : Bytes) (x : LogBatch × Bytes) → version ≡ 1 → IsBytes bytes → records_at true bytes ≡ Some x → Reads version 0 bytes x
old_takes version bytes x first fits e =
    let r = records_takes true bytes x fits e in
    let old : AllByRecursion (λ (q : Record). IsOldWrite q.write) r.0.records = recursion_from_All (λ (q : Record). IsOldWrite q.write) r.0.records (All-weaker (FitsRecord true) (λ (q : Record). IsOldWrite q.write) (λ q h. h.1) r.0.records (All-from_recursion (FitsRecord true) r.0.records r.4)) in
    subst (λ (y : LogBatch). Takes (0 ∷ bytes) (body y) x.1 × (length (body y) < 2 ^ 32 → IsLogBatch version y)) (sym r.1)
    (Takes-more 0 bytes (batch_fields r.0) x.1 r.2, λ short. (first, record { batch = r.3 short; old = All-from_recursion (λ (q : Record). IsOldWrite q.write) r.0.records old }))

resume_takes : (version : ℕ) (bytes : Bytes) (x : LogBatch × Bytes) → IsBytes bytes → resume_at bytes ≡ Some x → Reads version 1 bytes x
unfolding resume_at
resume_takes version bytes x fits e =
    let a = bind_some (number_at w64 bytes) (λ from. number_at w64 from.1 >>= λ to. number_at w64 to.1 >>= λ kept. cond (is_step to.0) (Some (Resume from.0 to.0 kept.0, kept.1)) None) x e in
    let b = bind_some (number_at w64 a.0.1) (λ to. number_at w64 to.1 >>= λ kept. cond (is_step to.0) (Some (Resume a.0.0 to.0 kept.0, kept.1)) None) x a.2 in
    let d = bind_some (number_at w64 b.0.1) (λ kept. cond (is_step b.0.0) (Some (Resume a.0.0 b.0.0 kept.0, kept.1)) None) x b.2 in
    let made : LogBatch × Bytes = (Resume a.0.0 b.0.0 d.0.0, d.0.1) in
    let g = guard_ended (is_step b.0.0) made x d.2 in
    let s = number_takes w64 (2 ^ 64) wide64 bytes a.0.0 a.0.1 fits a.1 in
    let t = number_takes w64 (2 ^ 64) wide64 a.0.1 b.0.0 b.0.1 s.0.rest_fits b.1 in
    let u = number_takes w64 (2 ^ 64) wide64 b.0.1 d.0.0 d.0.1 t.0.rest_fits d.1 in
    let middle = Takes-then a.0.1 (to_be_bytes w64 b.0.0) b.0.1 (to_be_bytes w64 d.0.0) d.0.1 t.0 u.0 in
    let whole = Takes-then bytes (to_be_bytes w64 a.0.0) a.0.1 (to_be_bytes w64 b.0.0 ++ to_be_bytes w64 d.0.0) d.0.1 s.0 middle in
    subst (Reads version 1 bytes) g.1 (
      Takes-more 1 bytes (to_be_bytes w64 a.0.0 ++ (to_be_bytes w64 b.0.0 ++ to_be_bytes w64 d.0.0)) d.0.1 whole,
      λ short. record { first = s.1; last = at_most_from_test b.0.0 (2 ^ 59) g.0; past = u.1 },
    )

kind_takes : (version kind : ℕ) (bytes : Bytes) (x : LogBatch × Bytes) → IsBytes bytes → batch_kind_at version kind bytes ≡ Some x → Reads version kind bytes x
unfolding batch_kind_at
kind_takes version kind bytes x fits e =
    let at : (n : ℕ) → eqb kind n ≡ true → Reads version n bytes x → Reads version kind bytes x = λ n t r. subst (λ k. Reads version k bytes x) (sym (eqb-true kind n t)) r in
    choose (eqb kind 0 && eqb version 1) _ _ _ e (λ t h. let both = and_parts (eqb kind 0) (eqb version 1) t in at 0 both.0 (old_takes version bytes x (eqb-true version 1 both.1) fits h)) (λ _ e1.
    choose (eqb kind 1) _ _ _ e1 (λ t h. at 1 t (resume_takes version bytes x fits h)) (λ _ e2.
    choose (eqb kind 2) _ _ _ e2 (λ t h. at 2 t (new_takes version bytes x fits h)) (λ _ h. absurd cc)))

-- what is read as a body is spelled so
pub body_takes : (version : ℕ) (bytes : Bytes) (b : LogBatch) → IsBytes bytes → batch_in version bytes ≡ Some b → (bytes ≡ body b) × (length (body b) < 2 ^ 32 → IsLogBatch version b)
unfolding batch_in
body_takes version bytes b fits e =
    let k = bind_some (byte_at bytes) (λ kind. batch_kind_at version kind.0 kind.1 >>= λ x. cond (eqb (length x.1) 0) (Some x.0) None) b e in
    let x = bind_some (batch_kind_at version k.0.0 k.0.1) (λ x. cond (eqb (length x.1) 0) (Some x.0) None) b k.2 in
    let g = guard_ended (eqb (length x.0.1) 0) x.0.0 b x.2 in
    let first = byte_takes bytes k.0.0 k.0.1 fits k.1 in
    let second = kind_takes version k.0.0 k.0.1 x.0 first.0.rest_fits x.1 in
    let nothing : x.0.1 ≡ [] = nil_from_length x.0.1 (eqb-true _ _ g.0) in
    let whole : bytes ≡ body x.0.0 = first.0.parts ∙ second.0.parts ∙ ap (λ (t : Bytes). body x.0.0 ++ t) nothing ∙ append-nil (body x.0.0) in
    subst (λ (y : LogBatch). (bytes ≡ body y) × (length (body y) < 2 ^ 32 → IsLogBatch version y)) g.1 (whole, second.1)

-- ---- what is spelled so is read

-- the fields of a batch of records are read again
fields_again : (old : Bool) (b : Batch) → IsRecordBatch b → AllByRecursion (FitsRecord old) b.records → records_at old (batch_fields b) ≡ Some (read_as old b, [])
unfolding records_at
fields_again old b is each =
    let texts = flat_map record_bytes b.records ++ [] in
    let last = is.last in
    ap (λ (t : Bytes). records_at old (to_be_bytes w64 b.from ++ (to_be_bytes w64 b.to ++ (to_be_bytes w32 (length b.records) ++ t)))) (sym (append-nil (flat_map record_bytes b.records)))
    ∙ rw (number_again w64 (2 ^ 64) wide64 b.from (to_be_bytes w64 b.to ++ (to_be_bytes w32 (length b.records) ++ texts)) is.first, number_again w64 (2 ^ 64) wide64 b.to (to_be_bytes w32 (length b.records) ++ texts) (omega arith), number_again w32 (2 ^ 32) wide32 (length b.records) texts is.few, each_again (record_at old) record_bytes (FitsRecord old) (record_again old) b.records [] each, test_from_at_most b.to (2 ^ 59) last) refl

new_fits : (b : Batch) → IsRecordBatch b → AllByRecursion (FitsRecord false) b.records
new_fits b is = recursion_from_All (FitsRecord false) b.records (All-weaker IsRecord (FitsRecord false) (λ r h. (h, tt)) b.records is.each)

old_fits : (b : Batch) → IsOldBatch b → AllByRecursion (FitsRecord true) b.records
old_fits b is = recursion_from_All (FitsRecord true) b.records (λ k d lt. (is.batch.each k d lt, is.old k d lt))

body_again : (version : ℕ) (b : LogBatch) → IsLogBatch version b → batch_in version (body b) ≡ Some b
unfolding batch_in batch_kind_at resume_at
body_again version (Records b) is = rw (fields_again false b is (new_fits b is)) refl
body_again version (OldRecords b) is = ap (λ v. batch_in v (body (OldRecords b))) is.0 ∙ rw (fields_again true b is.1.batch (old_fits b is.1)) refl
body_again version (Resume from to kept) is =
    let last = is.last in
    rw (wide64.again from is.first, wide64.again to (omega arith), wide64.again kept is.past, test_from_at_most to (2 ^ 59) last) refl

-- its length fits four bytes
pub short_body : (version : ℕ) (b : LogBatch) → IsLogBatch version b → length (body b) < 2 ^ 32
short_body version (Records b) is = is.short
short_body version (OldRecords b) is = is.1.batch.short
short_body version (Resume from to kept) is = omega arith

pub batch_again : (version : ℕ) (b : LogBatch) (rest : Bytes) → IsLogBatch version b → batch_at version (told_body (body b) ++ rest) ≡ Some (b, rest)
unfolding batch_at
batch_again version b rest is =
    rw (number_again w32 (2 ^ 32) wide32 (length (body b)) (body b ++ rest) (short_body version b is), taken_again (body b) rest, body_again version b is) refl
