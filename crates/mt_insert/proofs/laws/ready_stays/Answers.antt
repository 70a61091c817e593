-- What a put keeps that has made its row ready, for the law of it.
use Rattle.mt_insert.proofs.Rely.{ready}
use Rattle.mt_insert.proofs.laws.ready_stays.Goals as goal

pub returns : goal.returns
returns c = λ op o old new task prepared w phase guarantee other h. ready op o old new guarantee other task prepared w phase h
