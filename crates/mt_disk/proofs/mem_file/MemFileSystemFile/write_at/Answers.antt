-- A write of a `MemFile`: the one that is owed next, or a first one.
use Rattle.std.{proofs.Common.{rules, ◌≡◌, ℕ, ◌+◌, ◌<◌, ◌≤◌, List, length, sym, ◌∙◌, ap, subst, arith}, specs.List.slice_get}
use Rattle.mt_disk.specs.{Disk.{Range, overwritten}, FileEdits.Wrote, Files.{IsTried, IsAgain}, MemFiles.{mem_file_state, IsCommit}}
use Rattle.mt_disk.proofs.{Images.{still_left, kept_by_write}, EditLaws.{some_owed, none_owed, committed}}
use Rattle.mt_disk.proofs.mem_file.MemFileSystemFile.write_at.Goals as goal

pub returns-then-self-len-clause-first : goal.returns-then-self-len-clause-first
returns-then-self-len-clause-first c honest none =
    let m = c.next_fails-fails.new.self in
    let owes : m.made < length m.unsynced.items = search rules in
    absurd (some_owed m.unsynced.items m.made owes (ap (λ s. s.owed) c.next_fails-fails.ensures.state ∙ none))

pub returns-then-self-len-clause-again : goal.returns-then-self-len-clause-again
returns-then-self-len-clause-again c honest =
    let e = Wrote c.args.at c.args.bytes.now in
    subst (λ s. IsAgain e c.again.result s (mem_file_state c.again.new.self)) c.next_fails-fails.ensures.state (λ rest is. c.again.ensures e rest is)

pub returns-clause-first : goal.returns-clause-first
returns-clause-first c honest none =
    let m = c.next_fails-fails.new.self in
    let old = mem_file_state m in
    let new = mem_file_state c.commit.new.self in
    let e = Wrote c.args.at c.args.bytes.now in
    let next = c.in_ok-image.image.items in
    let range : Range = (c.args.at, c.args.at + length c.args.bytes.now) in
    let bytes : c.in_ok-to_vec.field-0.items ≡ c.args.bytes.now = search rules in
    let same : c.in_ok-image.range ≡ range = c.in_ok-image.ensures.range in
    let made : IsCommit next range e c.commit.result old new = subst (λ r. IsCommit next r e c.commit.result old new) same (subst (λ (l : List ℕ). IsCommit next c.in_ok-image.range (Wrote c.args.at l) c.commit.result old new) bytes c.commit.ensures) in
    let within : c.args.at ≤ length old.disk.image = search rules in
    let after : next ≡ overwritten c.args.at c.args.bytes.now old.disk.image = search rules in
    subst (λ s. IsTried e c.commit.result s new) c.next_fails-fails.ensures.state
    (committed e next c.commit.result old new made
    (λ may. still_left old.disk.now range old.disk.image next (λ i here out. ap (λ (l : List ℕ). slice_get l i) after ∙ kept_by_write c.args.at c.args.bytes.now old.disk.image i within out) may)
    (λ begins. after))

pub returns-clause-again : goal.returns-clause-again
returns-clause-again c honest rest owed =
    let m = c.next_fails-fails.new.self in
    let le : length m.unsynced.items ≤ m.made = search rules in
    let none = none_owed m.unsynced.items m.made le in
    absurd (omega (arith, ap length (sym none ∙ ap (λ s. s.owed) c.next_fails-fails.ensures.state ∙ owed)))
