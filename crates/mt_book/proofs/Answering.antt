-- What calls of the state leave of the number of answers: for the book's calls.
use Rattle.std.proofs.Common.{◌≡◌, ℕ, ap}
use Rattle.mt_state.specs.{declared.moves.Move.Move, declared.moves.Move.TheVariants.{Moved, Again, NoMemory, Done, Spent, NoSuch}, Views.StateView}
use Rattle.mt_state.specs.Promises.{Tells}

-- a step takes no answer
pub step_takes_none : (old new : StateView) (o : ℕ) (answer : Move) → Tells old new o answer → new.answers ≡ old.answers
step_takes_none old new o Moved t = t.answers
step_takes_none old new o Done t = t.answers
step_takes_none old new o (Again holder) t = ap (λ (v : StateView). v.answers) t.0
step_takes_none old new o NoMemory t = ap (λ (v : StateView). v.answers) t.0
step_takes_none old new o Spent t = ap (λ (v : StateView). v.answers) t.0
step_takes_none old new o NoSuch t = ap (λ (v : StateView). v.answers) t.0
