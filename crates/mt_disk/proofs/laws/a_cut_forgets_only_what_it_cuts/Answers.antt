-- Each change that is gone changes nothing before the new end.
use Rattle.std.proofs.Common.{refl, sym}
use Rattle.mt_disk.proofs.CutImages.{same_before}
use Rattle.mt_disk.proofs.laws.a_cut_forgets_only_what_it_cuts.Goals as goal

pub returns : goal.returns
returns c = λ len edits image within. sym (same_before len edits image image within refl)
