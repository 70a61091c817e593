use Rattle.std.proofs.Common.{length, ap, ◌∙◌, arith}
use Rattle.std.proofs.lemmas.List.{length-drop}
use Rattle.mt_rows.specs.Changes.{indexed}
use Rattle.mt_resp.{specs.Strings.{columns_of}, proofs.LongStrings.{next_column, all_columns}}
use Rattle.mt_resp.proofs.strings.columns_of.Goals as goal

pub loop-rest-preserved : goal.loop-rest-preserved
loop-rest-preserved c = record {
  same = next_column c.loop-rest.columns.items c.push.new.self.items (indexed 0 (columns_of c.args.value.now)) c.loop-rest.index c.loop-rest.rest.now c.in_ok-from_slice.field-0 c.split_at.result.1.now (omega arith) c.in_ok-push.ensures.items (c.in_ok-from_slice.ensures ∙ c.split_at.ensures.front) c.split_at.ensures.back c.loop-rest.invariant.same;
  sizes = omega (arith, length-drop 1024 c.loop-rest.rest.now, ap length c.split_at.ensures.back);
}

pub returns : goal.returns
returns c = c.new.ensures ∙ all_columns c.loop-rest.columns.items c.push-2.new.self.items (indexed 0 (columns_of c.args.value.now)) c.loop-rest.index c.loop-rest.rest.now c.in_ok-from_slice-2.field-0 (omega arith) c.in_ok-push-2.ensures.items c.in_ok-from_slice-2.ensures c.loop-rest.invariant.same
