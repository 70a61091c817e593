-- the fields stand behind what was there, one behind the other
use Rattle.mt_disk.proofs.CrashLaws.{at_ok}
use Rattle.std.specs.Int.{to_be_bytes, w32, w64}
use Rattle.mt_fields.specs.Fields.{string}
use Rattle.mt_log.{proofs.ReadLaws.fields_joined, specs.Format.write_bytes}
use Rattle.mt_log.proofs.writer.put_record.Goals as goal

pub returns : goal.returns
returns c =
    let r = c.args.change.now in
    at_ok c.put_write.result
    (λ e. fields_joined c.args.out.now.items c.put_u64.new.out.items c.put_u32.new.out.items c.put_key.new.out.items c.put_write.new.out.items
    (to_be_bytes w64 r.stamp) (to_be_bytes w32 r.tenant) (string r.key) (write_bytes r.write)
    c.in_ok-put_u64.ensures.ok c.in_ok-put_u32.ensures.ok
    c.in_ok-put_key.ensures.ok
    e)
    c.put_write.ensures
