-- What is owed after a change, and that what is remembered holds no more bytes than are dirty.
use Rattle.std.proofs.{Common.{rules, ◌≡◌, true, if◌then◌else◌, [], length, Err, ◌∙◌, sym, ap}, lemmas.List.{nil_from_length, length-map}}
use Rattle.mt_disk.specs.{declared.system.FileFault.TheVariants.{NotMade}, FileEdits.{edit_of, edits_of, remembered}}
use Rattle.mt_disk.proofs.HeldBytes.{still_fits, still_all, still_none}
use Rattle.mt_disk.proofs.cached.make.Goals.{then-is_owed, else-is_owed}
use Rattle.mt_disk.proofs.cached.make.Goals as goal

pub returns-then-owes-clause-keeps : goal.returns-then-owes-clause-keeps
returns-then-owes-clause-keeps g c honest keeps =
    let old = g.F.SystemFile.state c.args.file.now in
    let new = g.F.SystemFile.state c.make_first-made.new.file in
    let e = edit_of c.args.edit in
    let items = c.args.unsynced.now.items in
    let edits = edits_of items in
    let after = edits_of c.remember.new.edits.items in
    let result = c.make_first-made.result in
    let first = c.make_first-made.ensures.first honest in
    let made : result ≡ Err NotMade → ⊥ = λ none. search rules in
    let is : after ≡ remembered e edits = search rules in
    let both : (c.args.is_owed.now ≡ true) × (length items ≡ 0 → ⊥) = elim c.if-is_owed.branch [ then-is_owed w ↦ (w.if-is_owed.true, λ none. search rules) | else-is_owed w ↦ absurd cc ] in
    let some : edits ≡ [] → ⊥ = λ none. both.1 (sym (length-map items edit_of) ∙ ap length none) in
    record {
      unsynced = search rules;
      owed = still_all e result old new edits after c.args.is_owed.now keeps c.requires first made is both.0 some ∙ sym (ap (λ b. if b then after else []) c.if-owes.true);
      fits = still_fits e result old new edits after c.args.is_owed.now keeps c.requires first made is;
    }

pub returns-else-owes-clause-keeps : goal.returns-else-owes-clause-keeps
returns-else-owes-clause-keeps g c honest keeps =
    let old = g.F.SystemFile.state c.args.file.now in
    let new = g.F.SystemFile.state c.make_first-made.new.file in
    let e = edit_of c.args.edit in
    let items = c.args.unsynced.now.items in
    let edits = edits_of items in
    let after = edits_of c.remember.new.edits.items in
    let result = c.make_first-made.result in
    let first = c.make_first-made.ensures.first honest in
    let made : result ≡ Err NotMade → ⊥ = λ none. search rules in
    let is : after ≡ remembered e edits = search rules in
    let none : old.owed ≡ [] = elim c.if-is_owed.branch [
      | then-is_owed w ↦
          let empty : length items ≡ 0 = search rules in
          keeps.owed ∙ ap (λ b. if b then edits else []) w.if-is_owed.true ∙ ap edits_of (nil_from_length items empty)
      | else-is_owed w ↦ keeps.owed ∙ ap (λ b. if b then edits else []) w.if-is_owed.false
    ] in
    record {
      unsynced = search rules;
      owed = still_none e result old new edits after c.args.is_owed.now keeps c.requires first made is none ∙ sym (ap (λ b. if b then after else []) c.is_err-else-owes.ensures.value);
      fits = still_fits e result old new edits after c.args.is_owed.now keeps c.requires first made is;
    }
