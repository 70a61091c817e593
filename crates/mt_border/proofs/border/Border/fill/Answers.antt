-- what is written is not listed, and neither is what the other free slots give up
use Rattle.std.proofs.Common.{◌≡◌, List, length, set, sym, subst, arith}
use Rattle.std.proofs.lemmas.List.{get_or-set_same}
use Rattle.mt_border.{specs.{Held.{Held, Link}, Slots.{listed, next_free, helds_left}, Keeps.KeepsEntries}, proofs.Emptied.{listed_filled, length_left, left_unflagged}}
use Rattle.mt_border.proofs.{Slotting.next_below, KeptEntries.shown_filled}
use Rattle.mt_border.proofs.border.Border.fill.Goals as goal

same : (c : goal.After-fill) → listed c.fill.new.self ≡ listed c.self.inside.slots
same c =
    rw (c.fill.ensures.after) (listed_filled c.self.inside.slots c.self.invariant.slotted c.args.held (rw (← c.self.view_is) at c.requires.room))

pub invariant_of-self : goal.invariant_of-self
invariant_of-self c = record { slotted = c.fill.ensures.slotted; border = rw (same c) c.self.invariant.border }

pub returns-clause-entries : goal.returns-clause-entries
returns-clause-entries c = rw (← c.self.view_is) (same c)

pub returns-clause-there : goal.returns-clause-there
returns-clause-there c =
    let s = c.self.inside.slots in
    rw (c.fill.ensures.after)
    (get_or-set_same (helds_left s) (next_free s) c.args.held (Link 0)
    (omega (arith, next_below s c.self.invariant.slotted (rw (← c.self.view_is) at c.requires.room), length_left s c.self.invariant.slotted)))

pub returns-clause-keeps : goal.returns-clause-keeps
returns-clause-keeps c =
    let s = c.self.inside.slots in
    rw (← c.self.view_is)
    (λ unflagged. rw (c.fill.ensures.after)
    (subst (λ (hs : List Held). let t = record s { helds = set hs (next_free s) c.args.held } in KeepsEntries (listed s) s (listed t) t) (sym (left_unflagged s unflagged))
    (shown_filled s c.self.invariant.slotted (rw (← c.self.view_is) at c.requires.room) c.args.held unflagged)))
