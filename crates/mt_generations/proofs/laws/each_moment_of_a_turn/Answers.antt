-- The parts of the whole log are the same, or the last one has a batch more.
use Rattle.mt_generations.proofs.Moments.{first_stands, first_whole, without_same, begun_stands, longer_next, longer_first, without_stands, turned_stands, kept_whole, keeps_with, keeps_without, whole_without}
use Rattle.mt_generations.proofs.laws.each_moment_of_a_turn.Goals as goal

pub returns-clause-first : goal.returns-clause-first
returns-clause-first c s fronts log begin = (first_stands log, first_whole s fronts begin)

pub returns-clause-begun : goal.returns-clause-begun
returns-clause-begun c g log f next stands none begun = begun_stands g log f stands next none begun

pub returns-clause-longer_next : goal.returns-clause-longer_next
returns-clause-longer_next c g log f b d stands has = longer_next g log f stands b d has

pub returns-clause-longer_first : goal.returns-clause-longer_first
returns-clause-longer_first c g log f b d stands none has = longer_first g log f stands b d none has

pub returns-clause-given_up : goal.returns-clause-given_up
returns-clause-given_up c g log f stands = (without_stands g log f stands, without_same g f)

pub returns-clause-turned : goal.returns-clause-turned
returns-clause-turned c = turned_stands

pub returns-clause-stands_on : goal.returns-clause-stands_on
returns-clause-stands_on c = kept_whole

pub returns-clause-keeps_with : goal.returns-clause-keeps_with
returns-clause-keeps_with c = keeps_with

pub returns-clause-keeps_without : goal.returns-clause-keeps_without
returns-clause-keeps_without c = keeps_without

pub returns-clause-whole_without : goal.returns-clause-whole_without
returns-clause-whole_without c = whole_without
