-- What was owed before is owed still, and the change was made.
use Rattle.std.proofs.Common.{rules, ◌≡◌, ◌≤◌, ◌<◌, length, refl, drop}
use Rattle.mt_disk.{specs.{FileEdits.{edits_of}, Files.{still_owed}}, proofs.EditLaws.{all_still, none_still}}
use Rattle.mt_disk.proofs.mem_file.MemFile.commit.Goals.{then-owes, else-owes}
use Rattle.mt_disk.proofs.mem_file.MemFile.commit.Goals as goal

pub returns : goal.returns
returns c =
    let items = c.args.self.now.unsynced.items in
    let made = c.args.self.now.made in
    let after = c.remember.new.edits.items in
    let owed : drop c.if-owes.self (edits_of after) ≡ still_owed (drop made (edits_of items)) (edits_of after) =
    elim c.if-owes.branch [
      | then-owes w ↦
          let lt : made < length items = search rules in
          all_still items made c.if-owes.self (edits_of after) lt (search rules)
      | else-owes w ↦
          let le : length items ≤ made = search rules in
          let all : length after ≤ c.if-owes.self = search rules in
          none_still items made c.if-owes.self after le all
    ] in
    (record { image = refl; now = search rules; past = search rules; unsynced = search rules }, owed)
