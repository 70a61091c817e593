-- What a store hands on of the steps of an operation: for `NamedStore::step`, `until` and `run`, and for `walk`.
use Rattle.std.{proofs.Common.{◌≡◌, ◌≢◌, ℕ, true, false, Option, Some, None, refl, sym, ◌∙◌, ap, subst, arith}, specs.Prelude.is_some}
use Rattle.mt_state.specs.{declared.moves.Move.Move, declared.moves.Move.TheVariants.{Moved, Again, NoMemory, Done, Spent, NoSuch}, Views.{StateView, op_at}}
use Rattle.mt_state.specs.{Promises.{IsStep, Tells}, Begins.IsEnded}
use Rattle.mt_operation.specs.declared.phase.Phase.{Phase}
use Rattle.mt_lines.specs.{declared.response.Response.Response, Names.{Tickets, shows_of, operation_of, FreesName}}
use Rattle.mt_lines.specs.Stores.{StopsAt, StoreView, TellsMove, TellsStep, EndsWalk, SaysEnd, IsWalk, TellsWalk, SaysMove, CanSay, TellsNamed}
use Rattle.mt_lines.proofs.NamedLemmas.{written_is}
use Rattle.mt_lines.specs.declared.response.Response.TheVariants as responses

-- after its last step an operation is there, and no step of it is left
pub ended : (old new : StateView) (o : ℕ) → IsStep old new o true → IsEnded new.table o
ended old new o s = (s.after, ap (λ t. op_at t o) s.table ∙ written_is old.table o s.before s.after s.there, sym s.ends)

-- what a step tells
pub tells_move : (old new : StateView) (o : ℕ) (move : Move) → Tells old new o move → TellsMove old new o move
tells_move old new o Moved t = t
tells_move old new o (Again holder) t = t
tells_move old new o NoMemory t = t
tells_move old new o Done t = t
tells_move old new o Spent t = (t.0, omega (arith, t.2))
tells_move old new o NoSuch t = t

-- what was told of a step can be said: an operation that is done has ended, and a holder is open
pub can_say : (old new : StateView) (o : ℕ) (move : Move) → TellsMove old new o move → CanSay new o move
can_say old new o Moved t = tt
can_say old new o (Again holder) t = ap (λ (v : StateView). is_some (op_at v.table holder)) t.0 ∙ ap is_some t.2.unfinished.1
can_say old new o NoMemory t = tt
can_say old new o Done t = ended old new o t
can_say old new o Spent t = tt
can_say old new o NoSuch t = tt

-- what a step told, and then was said of it
pub tells_step : (old mid new : StoreView) (name o : ℕ) (move : Move) (response : Response) → mid.named ≡ old.named
    → TellsMove old.state mid.state o move → SaysMove mid new name o move response → TellsStep old new name o response
tells_step old mid new name o Moved response same t s = rw (s.0, s.1) (t, same)
tells_step old mid new name o (Again holder) response same t s =
    let (other, said, named, stands) = s in
    rw (said, stands) (holder, t, ap (λ n. operation_of n other) (sym same) ∙ named, same)
tells_step old mid new name o NoMemory response same t s = rw (s.0, s.1) (t, same)
tells_step old mid new name o Done response same t s =
    let (answer, said, g) = s in
    rw said (record { made = mid.state; taken = g.taken; last = t; takes = g.takes; tidies = g.tidies }, subst (λ (n : Tickets). FreesName n new.named name) same g.frees, ap (λ (n : Tickets). shows_of n name) same)
tells_step old mid new name o Spent response same t s = rw (s.0, s.1) (t, same)
tells_step old mid new name o NoSuch response same t s = rw (s.0, s.1) (t, same)

-- a step that tells anything but that the operation moved on ends a walk
pub ends_walk : (stop : Option Phase) (mid new : StateView) (o : ℕ) (move : Move) → move ≢ Moved → Tells mid new o move → EndsWalk stop mid new o move
ends_walk stop mid new o Moved ne t = absurd (ne refl)
ends_walk stop mid new o (Again holder) ne t = t
ends_walk stop mid new o NoMemory ne t = t
ends_walk stop mid new o Done ne t = t
ends_walk stop mid new o Spent ne t = (t.0, omega (arith, t.2))
ends_walk stop mid new o NoSuch ne t = t

-- a walk that isn't to stop ends otherwise
pub never_stops : (mid new : StateView) (o : ℕ) (move : Move) → EndsWalk None mid new o move → move ≢ Moved
never_stops mid new o Moved h ne = h.1
never_stops mid new o (Again holder) h ne = absurd (search arith)
never_stops mid new o NoMemory h ne = absurd (search arith)
never_stops mid new o Done h ne = absurd (search arith)
never_stops mid new o Spent h ne = absurd (search arith)
never_stops mid new o NoSuch h ne = absurd (search arith)

-- and its last step tells so
pub told_at_end : (stop : Option Phase) (mid new : StateView) (o : ℕ) (move : Move) → move ≢ Moved → EndsWalk stop mid new o move → TellsMove mid new o move
told_at_end stop mid new o Moved ne t = absurd (ne refl)
told_at_end stop mid new o (Again holder) ne t = t
told_at_end stop mid new o NoMemory ne t = t
told_at_end stop mid new o Done ne t = t
told_at_end stop mid new o Spent ne t = t
told_at_end stop mid new o NoSuch ne t = t

-- what is said of an answer that did not move the operation on is said of the walk's end
says_end : (stop : Option Phase) (mid after new : StoreView) (name o : ℕ) (move : Move) (response : Response) → move ≢ Moved
    → SaysMove after new name o move response → TellsStep mid new name o response → SaysEnd stop mid new name o response
says_end stop mid after new name o Moved response ne s t = absurd (ne refl)
says_end stop mid after new name o (Again holder) response ne s t = rw (s.1) (subst (TellsStep mid new name o) (s.1) t)
says_end stop mid after new name o NoMemory response ne s t = rw (s.0) (subst (TellsStep mid new name o) (s.0) t)
says_end stop mid after new name o Done response ne s t = rw (s.1) (subst (TellsStep mid new name o) (s.1) t)
says_end stop mid after new name o Spent response ne s t = rw (s.0) (subst (TellsStep mid new name o) (s.0) t)
says_end stop mid after new name o NoSuch response ne s t = rw (s.0) (subst (TellsStep mid new name o) (s.0) t)

-- a walk whose last step is answered
pub tells_walk : (stop : Option Phase) (old after new : StoreView) (name o : ℕ) (move : Move) (response : Response) → after.named ≡ old.named
    → IsWalk stop old.state after.state o move → move ≢ Moved
    → SaysMove after new name o move response → TellsWalk stop old new name o response
tells_walk stop old after new name o move response same walk goes says =
    let mid : StoreView = record { state = walk.mid; named = old.named } in
    record {
      steps = walk.steps;
      mid = walk.mid;
      walks = walk.walks;
      says =
          says_end stop mid after new name o move response goes says (tells_step mid after new name o move response same (told_at_end stop walk.mid after.state o move goes walk.ends) says);
    }

-- a walk that stopped
pub stands_there : (phase : Phase) (old new : StoreView) (name o : ℕ) → new.named ≡ old.named → IsWalk (Some phase) old.state new.state o Moved
    → TellsWalk (Some phase) old new name o (responses.At phase)
stands_there phase old new name o same walk = record {
  steps = walk.steps;
  mid = walk.mid;
  walks = walk.walks;
  says =
      (refl, ap (λ (n : Tickets). record { state = new.state; named = n }) same ∙ ap (λ (v : StateView). record { state = v; named = old.named }) walk.ends.0, walk.ends.1);
}

-- what is told of the operation that a name stands for
pub of_named : (named : Tickets) (name o : ℕ) (old new : StoreView) (response : Response) (told : ℕ → Type 0) → operation_of named name ≡ Some o
    → told o → TellsNamed (operation_of named name) old new response told
of_named named name o old new response told e t = subst (λ (q : Option ℕ). TellsNamed q old new response told) (sym e) t

end_can_say : (stop : Option Phase) (mid new : StateView) (o : ℕ) (move : Move) → EndsWalk stop mid new o move → CanSay new o move
end_can_say stop mid new o Moved e = tt
end_can_say stop mid new o (Again holder) e = can_say mid new o (Again holder) e
end_can_say stop mid new o NoMemory e = tt
end_can_say stop mid new o Done e = can_say mid new o Done e
end_can_say stop mid new o Spent e = tt
end_can_say stop mid new o NoSuch e = tt

-- a walk's last answer can be said
pub walk_can_say : (stop : Option Phase) (old new : StateView) (o : ℕ) (move : Move) → IsWalk stop old new o move → CanSay new o move
walk_can_say stop old new o move w = end_can_say stop w.mid new o move w.ends

-- an operation that is to stop nowhere goes on
pub nowhere_to_stop : (stop here : Option Phase) → is_some stop ≡ false → ¬ StopsAt stop here
nowhere_to_stop None here none stops = stops
nowhere_to_stop (Some phase) here none stops = absurd cc

-- so does one that is to stop elsewhere
pub elsewhere_to_stop : (stop here : Option Phase) → here ≢ stop → ¬ StopsAt stop here
elsewhere_to_stop None here apart stops = stops
elsewhere_to_stop (Some phase) here apart stops = apart stops

-- one that is to stop here stops
pub here_to_stop : (stop here : Option Phase) → is_some stop ≡ true → here ≡ stop → StopsAt stop here
here_to_stop None here some same = absurd cc
here_to_stop (Some phase) here some same = same
