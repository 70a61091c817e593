-- The pairs before the owner are listed, the owner's own is let go, and its row's pair is listed.
use Rattle.std.proofs.lemmas.Result.{on_ok_weaker}
use Rattle.mt_recover.proofs.Merges.{is_made, taken_first}
use Rattle.mt_recover.proofs.merging.make.Goals as goal

pub returns-clause-pairs : goal.returns-clause-pairs
returns-clause-pairs c =
    let before = c.in_ok-list_before.ensures in
    on_ok_weaker c.list_row.result
    (λ more.
    (is_made c.args.owner c.args.row c.args.listed.now.items c.args.left.now.items c.list_before.new.listed.items c.list_before.new.left.items _ _ before.same c.requires.ascend before.before before.all
    (taken_first c.args.owner c.list_before.new.left.items c.take_first.new.left.items c.take_first.result c.take_first.ensures) more).pairs)
    c.list_row.ensures

pub returns-clause-ascend : goal.returns-clause-ascend
returns-clause-ascend c =
    let before = c.in_ok-list_before.ensures in
    on_ok_weaker c.list_row.result
    (λ more.
    (is_made c.args.owner c.args.row c.args.listed.now.items c.args.left.now.items c.list_before.new.listed.items c.list_before.new.left.items _ _ before.same c.requires.ascend before.before before.all
    (taken_first c.args.owner c.list_before.new.left.items c.take_first.new.left.items c.take_first.result c.take_first.ensures) more).order)
    c.list_row.ensures

pub returns-clause-before : goal.returns-clause-before
returns-clause-before c =
    let before = c.in_ok-list_before.ensures in
    on_ok_weaker c.list_row.result
    (λ more.
    (is_made c.args.owner c.args.row c.args.listed.now.items c.args.left.now.items c.list_before.new.listed.items c.list_before.new.left.items _ _ before.same c.requires.ascend before.before before.all
    (taken_first c.args.owner c.list_before.new.left.items c.take_first.new.left.items c.take_first.result c.take_first.ensures) more).before)
    c.list_row.ensures
