-- the ranks behind the place moved down by one
use Rattle.std.{proofs.Common.{◌≡◌, ◌∙◌, ap, sym, length, arith}, specs.List.remove}
use Rattle.mt_border.proofs.Ranks.{length-marks, marks_taken}
use Rattle.mt_border.proofs.marks.MarkList.remove.Goals as goal

len_is : (c : goal.After-self-1) → length c.args.self.now ≡ c.self.inside.len
len_is c = ap length (sym c.self.view_is) ∙ length-marks c.self.inside.ranks c.self.inside.len (omega (arith, c.self.invariant, c.self.told))

pub returns-clause-rest : goal.returns-clause-rest
returns-clause-rest c =
    marks_taken c.self.inside.ranks c.copy_within.new.self c.self.inside.len c.args.place _ (omega (arith, c.self.invariant, c.self.told)) (omega (arith, len_is c, c.requires)) (omega (arith, len_is c, c.requires)) c.copy_within.ensures.len
    (rw c.from-len.ensures at c.copy_within.ensures.by_index.0) c.copy_within.ensures.by_index.1 ∙ ap (λ xs. remove xs c.args.place) c.self.view_is
