-- There is room, or the cut makes it.
use Rattle.std.proofs.Common.{rules, ◌≡◌, ◌≤◌, length, vec_len, vec_capacity, arith, true, not, sym, subst}
use Rattle.std.specs.List.{list_any}
use Rattle.mt_disk.{specs.FileEdits.{edit_of, edits_of, begins_before, remembered}, proofs.{CrashLaws.at_ok, CutLaws.{cut_length, remembered_length}}}
use Rattle.mt_disk.proofs.edit.make_room.Goals as goal

pub returns-in-Cut-clause-room : goal.returns-in-Cut-clause-room
returns-in-Cut-clause-room c =
    let many : vec_len c.args.edits.now ≡ length c.args.edits.now.items = search rules in
    let fits : vec_len c.args.edits.now ≤ vec_capacity c.args.edits.now = search rules in
    let len = c.in-Cut.len in
    let some : list_any (λ e. not (begins_before len (edit_of e))) c.args.edits.now.items ≡ true = search rules in
    let fewer = cut_length len c.args.edits.now.items some in
    subst (λ e. length (remembered (edit_of e) (edits_of c.args.edits.now.items)) ≤ vec_capacity c.args.edits.now) (sym c.in-Cut.is) (omega (arith, many, fits, fewer))

pub returns-in_default-clause-room : goal.returns-in_default-clause-room
returns-in_default-clause-room c =
    let many : vec_len c.args.edits.now ≡ length c.args.edits.now.items = search rules in
    at_ok c.reserve.result (λ room. omega (arith, many, room, remembered_length (edit_of c.args.edit.now) c.args.edits.now.items)) c.reserve.ensures.ok
