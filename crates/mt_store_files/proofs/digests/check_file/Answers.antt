-- Both files are compared as they were opened.
use Rattle.std.proofs.{Common.{IsTrue, rules, sym, ◌∙◌}, lemmas.Bool.true≢false}
use Rattle.mt_store_files.proofs.CheckLemmas.{do_agree, do_not_agree}
use Rattle.mt_store_files.proofs.digests.check_file.Goals as goal

pub returns-in-Ok-true-clause-checked : goal.returns-in-Ok-true-clause-checked
returns-in-Ok-true-clause-checked g c =
    let digests = rw c.in-Some.is at c.in_ok-digests.ensures.calls in
    let disk = rw c.in-Some-2.is at c.in_ok-disk.ensures.calls in
    let same : IsTrue c.in-Ok-true.field-0 = search rules in
    do_agree g.S.File.Disk.is_honest g.S.File.Disk.state c.args.file c.in-Some.digests
    (g.S.FolderSystem.calls c.args.system.now) (g.S.FolderSystem.calls c.open.new.self) (g.S.FolderSystem.calls c.open-2.new.self) digests c.in-Some-2.disk disk
    (λ kept found. (c.in-Ok-true.ensures.told found kept).0 same)

pub returns-in-Ok-false-clause-checked : goal.returns-in-Ok-false-clause-checked
returns-in-Ok-false-clause-checked g c =
    let digests = rw c.in-Some.is at c.in_ok-digests.ensures.calls in
    let disk = rw c.in-Some-2.is at c.in_ok-disk.ensures.calls in
    do_not_agree g.S.File.Disk.is_honest g.S.File.Disk.state c.args.file c.in-Some.digests
    (g.S.FolderSystem.calls c.args.system.now) (g.S.FolderSystem.calls c.open.new.self) (g.S.FolderSystem.calls c.open-2.new.self) digests c.in-Some-2.disk disk
    (λ kept found same. true≢false (sym ((c.in-Ok-false.ensures.told found kept).1 same) ∙ c.in-Ok-false.field-0-test))
