-- The new pair stands behind those that were seen.
use Rattle.std.proofs.{Common.{◌≡◌, ◌++◌, length, ap, ◌∙◌, arith}, lemmas.List.{length-append, append_assoc}}
use Rattle.mt_rows.specs.Rows.{Bytes}
use Rattle.mt_operation.proofs.Seeing.{one_more}
use Rattle.mt_operation.proofs.seen.Seen.push.Goals as goal

pub returns-clause-one_more : goal.returns-clause-one_more
returns-clause-one_more c =
    let front = c.args.front.now in
    let middle = c.args.middle.now in
    let back = c.args.back.now in
    let bytes = c.self.inside.bytes.items in
    let one : c.extend_from_slice-2.new.self.items ≡ bytes ++ (front ++ middle) =
    c.in_ok-extend_from_slice-2.ensures.items ∙ ap (λ (b : Bytes). b ++ middle) c.in_ok-extend_from_slice.ensures.items ∙ append_assoc bytes front middle in
    let all : c.extend_from_slice-3.new.self.items ≡ bytes ++ (front ++ middle ++ back) =
    c.in_ok-extend_from_slice-3.ensures.items ∙ ap (λ (b : Bytes). b ++ back) one ∙ append_assoc bytes (front ++ middle) back in
    let size = ap (λ (b : Bytes). length b) all ∙ length-append bytes (front ++ middle ++ back) in
    rw (c.in_ok-push.ensures.items, all, ← c.self.view_is)
    (one_more bytes (front ++ middle ++ back) c.self.inside.pairs.items _ c.self.invariant (omega (arith, c.len-key_start.ensures)) (omega (arith, size, c.len.ensures, c.len-key_start.ensures)))
