use Rattle.mt_readings.{specs.Reading.is_behind, proofs.Readings.{read_in, behind_is, before}}
use Rattle.mt_readings.proofs.reads.what_is_read.Goals as goal

pub returns-clause-stands : goal.returns-clause-stands
returns-clause-stands c = λ fence after layer es x h. read_in (is_behind fence after layer) es x h

pub returns-clause-from_the_fence : goal.returns-clause-from_the_fence
returns-clause-from_the_fence c = λ prefix fence after layer e pair key at has is. behind_is prefix fence after layer at e pair key has is

pub returns-clause-before_the_link : goal.returns-clause-before_the_link
returns-clause-before_the_link c = λ fence after layer es x link border h s. before (is_behind fence after layer) es x link border.rising h s
