-- the ranks behind the place moved up by one
use Rattle.std.{proofs.Common.{◌≡◌, ◌∙◌, ap, sym, length, arith}, specs.List.insert}
use Rattle.mt_border.proofs.Ranks.{length-marks, marks_put}
use Rattle.mt_border.proofs.marks.MarkList.insert.Goals as goal

len_is : (c : goal.After-self-1) → length c.args.self.now ≡ c.self.inside.len
len_is c = ap length (sym c.self.view_is) ∙ length-marks c.self.inside.ranks c.self.inside.len (omega (arith, c.self.invariant, c.self.told))

pub returns : goal.returns
returns c =
    marks_put c.self.inside.ranks c.copy_within.new.self c.self.inside.len c.args.place c.rank_of.result (omega (arith, len_is c, c.requires.room, c.self.told)) (omega (arith, len_is c, c.requires.in_bounds)) c.copy_within.ensures.len
    (rw c.from-len.ensures at c.copy_within.ensures.by_index.0) c.copy_within.ensures.by_index.1
    ∙ rw (c.rank_of.ensures) (ap (λ xs. insert xs c.args.place c.args.mark) c.self.view_is)
