-- the slices that were gathered are those of all sixteen
use Rattle.std.proofs.Common.{◌≡◌, rules}
use Rattle.mt_border.{specs.{Entries.slices, Slots.listed}, proofs.Cuts.parted}
use Rattle.mt_border.proofs.split.separator_of.Goals as goal

pub cut_of-cut-requires-clause-parted : goal.cut_of-cut-requires-clause-parted
cut_of-cut-requires-clause-parted c =
    let gathered : c.try_extend_from_slice.new.self.items ≡ slices (listed c.args.slots.now) = search rules in
    rw (c.deref.ensures.0, c.insert.ensures.items, gathered, c.place_of.ensures.place)
    (parted (listed c.args.slots.now) c.args.slice c.args.mark c.requires.border c.requires.mark c.requires.missing c.requires.full)
