-- A cut of a `MemFile`.
use Rattle.std.proofs.Common.{rules, take, refl, subst, ⊎_elim, arith}
use Rattle.mt_disk.specs.{Disk.cut_range, FileEdits.CutTo, Files.IsTried, MemFiles.{mem_file_state, IsCommit}}
use Rattle.mt_disk.proofs.{Images.{still_left, kept_by_cut}, EditLaws.committed}
use Rattle.mt_disk.proofs.mem_file.MemFileSystemFile.cut.Goals as goal

pub returns-clause-first : goal.returns-clause-first
returns-clause-first c honest =
    let m = c.next_fails-fails.new.self in
    let old = mem_file_state m in
    let new = mem_file_state c.commit.new.self in
    let e = CutTo c.args.len in
    let next = take c.args.len m.image.items in
    let made : IsCommit next (cut_range c.args.len old.disk) e c.commit.result old new = search rules in
    subst (λ s. IsTried e c.commit.result s new) c.next_fails-fails.ensures.state
    (committed e next c.commit.result old new made
    (λ may. still_left old.disk.now (cut_range c.args.len old.disk) old.disk.image next (λ i within out. kept_by_cut c.args.len old.disk.image i (⊎_elim (λ before. before) (λ behind. absurd (omega (arith, behind, within))) out)) may)
    (λ within. refl))
