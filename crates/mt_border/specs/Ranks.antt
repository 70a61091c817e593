-- Marks by their ranks in the order of marks.
use Rattle.std.specs.Prelude.{ℕ, List, map, take, if◌then◌else◌, nat_lt}
use Rattle.mt_slices.specs.{declared.mark.Mark.Mark, declared.mark.Mark.TheVariants.{Short, Long}}

-- the mark of a rank: the short ones of zero to eight bytes, and behind them the long one
abbrev pub mark_of_rank : ℕ → Mark
mark_of_rank rank = if nat_lt rank 9 then Short rank else Long

-- the marks of the first ranks
abbrev pub marks_in : List ℕ → ℕ → List Mark
marks_in ranks len = map mark_of_rank (take len ranks)
