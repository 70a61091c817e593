-- The length is that of the body, and the next gate stands behind it.
use Rattle.std.{proofs.Common.{◌+◌, ◌++◌, ◌∷◌, [], List, length, ap, ◌∙◌}, specs.{Int.{to_be_bytes, w32}, List.flat_map}}
use Rattle.mt_rows.specs.{Rows.Bytes, declared.record.Record.Record}
use Rattle.mt_log.{specs.{declared.batch.LogBatch.TheVariants.Records, Format.{record_bytes, body}}, proofs.ReadLaws.{told_joined, body_len}}
use Rattle.mt_log.proofs.writer.batch_block.Goals as goal

pub returns : goal.returns
returns c =
    let b = c.args.batch.now in
    let len = body_len b c.records_len-len.result (c.records_len-len.ensures.exact ∙ ap (λ (rs : List Record). length (flat_map record_bytes rs)) c.as_slice.ensures.records) in
    c.in_ok-push.ensures.items
    ∙ ap (λ (bytes : Bytes). bytes ++ 0 ∷ [])
    (told_joined [] c.put_u32.new.out.items c.put_body.new.out.items (body (Records b)) (21 + c.records_len-len.result)
    len (c.in_ok-put_u32.ensures.ok ∙ ap (λ (bytes : Bytes). bytes ++ to_be_bytes w32 (21 + c.records_len-len.result)) c.new-block.ensures.items) c.in_ok-put_body.ensures)
