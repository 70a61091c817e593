-- the first entry that is left is given
use Rattle.std.proofs.{Common.{◌+◌, ◌∷◌, ◌<◌, length, drop, ap, sym, ◌∙◌, arith}, lemmas.List.drop_more}
use Rattle.mt_border.specs.{Rows.entry_seen, Slots.listed}
use Rattle.mt_border.proofs.iter.EntriesIterator.next.Goals as goal

pub returns-clause-steps : goal.returns-clause-steps
returns-clause-steps c =
    let xs = listed c.self.inside.slots.now in
    let e = entry_seen c.entry-entry.result in
    let within : c.self.inside.place < length xs = omega (arith, c.if-self-len.false, c.len.ensures.value) in
    sym c.self.view_is ∙ drop_more xs c.self.inside.place e within ∙ ap (λ x. x ∷ drop (c.self.inside.place + 1) xs) (sym c.entry-entry.ensures)
