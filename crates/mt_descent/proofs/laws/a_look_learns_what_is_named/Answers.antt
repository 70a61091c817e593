-- What each phase comes to remember, for the law of it.
use Rattle.mt_descent.proofs.Learning.{learns_enter, learns_pick, learns_child, learns_verify, learns_search, learns_load, learns_confirm, learns_forward, learns_here, learns_lock, learns_change, learns_anew}
use Rattle.mt_descent.proofs.laws.a_look_learns_what_is_named.Goals as goal

pub returns-clause-enter : goal.returns-clause-enter
returns-clause-enter c = λ v w on arena there. learns_enter v w on arena there

pub returns-clause-pick : goal.returns-clause-pick
returns-clause-pick c = λ v w key phase arena h. learns_pick v w key arena phase h

pub returns-clause-child : goal.returns-clause-child
returns-clause-child c = λ v w seen phase. learns_child v w seen phase

pub returns-clause-verify : goal.returns-clause-verify
returns-clause-verify c = λ v before after phase f. learns_verify v before phase after f

pub returns-clause-search : goal.returns-clause-search
returns-clause-search c = λ v w key found step phase arena h f. learns_search v w key step arena phase h found f

pub returns-clause-load : goal.returns-clause-load
returns-clause-load c = λ v past key row before after phase h l. learns_load v before past key phase h after row l

pub returns-clause-confirm : goal.returns-clause-confirm
returns-clause-confirm c = λ v key before after phase h f. learns_confirm v before key phase h after f

pub returns-clause-forward : goal.returns-clause-forward
returns-clause-forward c = λ v w slice j phase next. learns_forward v w phase slice j next

pub returns-clause-here : goal.returns-clause-here
returns-clause-here c = λ v w phase. learns_here v w phase

pub returns-clause-lock : goal.returns-clause-lock
returns-clause-lock c = λ op old new before after phase f. learns_lock op old new before after phase f

pub returns-clause-change : goal.returns-clause-change
returns-clause-change c = λ v w now on node. learns_change v w on now node

pub returns-clause-anew : goal.returns-clause-anew
returns-clause-anew c = λ v w on. learns_anew v w on
