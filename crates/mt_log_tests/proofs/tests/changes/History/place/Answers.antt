-- The change that was placed has a key, as those before it have, and is of the last step.
use Rattle.std.proofs.{Common.{◌≡◌, ◌+◌, ◌≤◌, ◌++◌, ◌∷◌, [], List, rules, sym, subst, arith}, lemmas.List.Elements.{All-append, All-cons, All-nil}}
use Rattle.std.specs.List.{All}
use Rattle.mt_rows.specs.Commands.{IsKey}
use Rattle.mt_tape.{specs.{declared.entry.Entry.Entry, Tapes.last_step_over}, proofs.EntryLaws.last_step_over-push}
use Rattle.mt_log_tests.proofs.tests.changes.History.place.Goals as goal

pub invariant_of-self-2-clause-keys : goal.invariant_of-self-2-clause-keys
invariant_of-self-2-clause-keys c =
    let old = c.args.self.now.tape.entries in
    let placed : Entry = record { step = c.args.self.now.steps + 1; worker = c.args.worker; tenant = 7; key = c.in_ok-key.key; before = c.in_ok-before.before; after = c.in_ok-after.after; change = c.in_ok-change.change } in
    let grown : c.push.new.self.entries ≡ old ++ placed ∷ [] = search rules in
    subst (All (λ (e : Entry). IsKey e.key)) (sym grown)
    (All-append (λ (e : Entry). IsKey e.key) old (placed ∷ []) c.args.self.now.keys (All-cons (λ (e : Entry). IsKey e.key) placed [] c.in_ok-key.ensures (All-nil (λ (e : Entry). IsKey e.key))))

pub invariant_of-self-2-clause-made : goal.invariant_of-self-2-clause-made
invariant_of-self-2-clause-made c =
    let old = c.args.self.now.tape.entries in
    let placed : Entry = record { step = c.args.self.now.steps + 1; worker = c.args.worker; tenant = 7; key = c.in_ok-key.key; before = c.in_ok-before.before; after = c.in_ok-after.after; change = c.in_ok-change.change } in
    let grown : c.push.new.self.entries ≡ old ++ placed ∷ [] = search rules in
    let last = last_step_over-push c.push.new.self.floor old placed in
    subst (λ (entries : List Entry). last_step_over c.push.new.self.floor entries ≤ c.args.self.now.steps + 1) (sym grown) (omega (arith, last))
