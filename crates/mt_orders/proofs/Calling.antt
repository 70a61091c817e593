-- Where in a history a call's periods have happened, and that its answer is of the operation that it began: for the law.
use Rattle.std.{proofs.{Common.{◌≡◌, ℕ, ◌<◌, inl, inr, List, [], ◌∷◌, ◌++◌, Some, Result, Ok, refl, sym, ap, subst, ◌∙◌, arith}, lemmas.List.append-nil, lemmas.Option.same_Some}, specs.List.AllByRecursion}
use mathlib.Core.List.{IsPrefix}
use Rattle.mt_runs.specs.{declared.event.Answer.Answer, Runs.{Story, Finished}, Orders.Precedes}
use Rattle.mt_operation.specs.{declared.phase.Phase.Phase, Operations.OperationView}
use Rattle.mt_state.specs.{Views.{StateView, Shown}, Begins.{begun as before_any, Takes}}
use Rattle.mt_core.specs.{Admitted.{OpeningView, IsMadeOf}, Restores.IsIdle}
use Rattle.mt_history.{specs.{Legal.Along, Views.MarkView}, proofs.Fronts.{prefix_trans, prefix_length}}
use Rattle.mt_book.{specs.{declared.calls.CallFault.CallFault, Calls.{Asked, IsOpeningOf, IsTurnBy, AreTurns, IsRestBy, IsRest, Calls, Answers}, Periods.{Deed, Began, Rested, Stepped, Took, Period, Chain}}, proofs.Chains.all_snoc}
use Rattle.mt_book.specs.{Happens.{Happening, Acted, Leads}, OneRun.Through, Births.birth_at, Serves.{ClerkView, Serves, birth_by}}
use Rattle.mt_orders.specs.{Stories.{Ids, no_ids, ids_at, story_along}, Explained.{IsBegunAt, IsTakenAt}, Answered.IsAnsweredIn}
use Rattle.mt_orders.proofs.{Explaining.explained, Adding.{added, added_to}, Owning.{IsNamed, named_from}, Preceding.shows_in_turn}
use Rattle.mt_state.specs.declared.moves.Move.TheVariants as moves

-- a chain of a clerk's periods in two parts
split : (old new : ClerkView) (ps qs : List Period) → Chain Serves old (ps ++ qs) new → (mid : ClerkView) × Chain Serves old ps mid × Chain Serves mid qs new
split old new [] qs c = (old, refl, c)
split old new (p ∷ ps) qs c = let rest = split c.0 new ps qs c.2 in (rest.0, (c.0, c.1, rest.1), rest.2)

-- the last period of a chain
last_served : (old new : ClerkView) (ps : List Period) (p : Period) → Chain Serves old (ps ++ p ∷ []) new → (mid : ClerkView) × Chain Serves old ps mid × Serves mid p new
last_served old new ps p c =
    let parts = split old new ps (p ∷ []) c in
    (parts.0, parts.1, subst (Serves parts.0 p) (sym parts.2.2) parts.2.1)

-- what the clerk has seen before is a beginning of what it has seen after it
serves_front : (p : Period) (old new : ClerkView) → Serves old p new → IsPrefix old.mark.log new.mark.log
serves_front p old new s = let a = s.adds in prefix_trans old.mark.log a.before new.mark.log a.since (a.to ∷ [], sym a.log)

pub chain_front : (old new : ClerkView) (ps : List Period) → Chain Serves old ps new → IsPrefix old.mark.log new.mark.log
chain_front old new [] c = subst (λ (m : ClerkView). IsPrefix old.mark.log m.mark.log) (sym c) ([], append-nil old.mark.log)
chain_front old new (p ∷ ps) c = prefix_trans old.mark.log c.0.mark.log new.mark.log (serves_front p old c.0 c.1) (chain_front c.0 new ps c.2)

-- ---- no period after the begin gives another birth

abbrev KeepsBirth : Period → Type 0
KeepsBirth p = (birth : ℕ) → birth_by p.steps birth p.deed ≡ birth

turn_keeps : (seen ticket shown : ℕ) (next : Phase) (steps : ℕ) (deed : Deed) (left : Phase) → IsTurnBy seen ticket shown next steps deed left → (birth : ℕ) → birth_by steps birth deed ≡ birth
turn_keeps seen ticket shown next steps (Stepped t turned made told) left h birth = refl
turn_keeps seen ticket shown next steps (Rested t) left h birth = refl
turn_keeps seen ticket shown next steps _ left h birth = absurd h

rest_keeps : (seen ticket steps : ℕ) (deed : Deed) → IsRestBy seen ticket steps deed → (birth : ℕ) → birth_by steps birth deed ≡ birth
rest_keeps seen ticket steps (Rested t) h birth = refl
rest_keeps seen ticket steps _ h birth = absurd h

turns_keep : (seen ticket shown : ℕ) (next : Phase) (ps : List Period) (last : ℕ) (left : Phase) → AreTurns seen ticket shown next ps last left → AllByRecursion KeepsBirth ps
turns_keep seen ticket shown next [] last left h = tt
turns_keep seen ticket shown next (p ∷ ps) last left (mid, turn, rest) =
    (turn_keeps seen ticket shown next p.steps p.deed mid turn, turns_keep seen ticket p.steps mid ps last left rest)

rests_keep : (seen ticket : ℕ) (ps : List Period) → AllByRecursion (IsRest seen ticket) ps → AllByRecursion KeepsBirth ps
rests_keep seen ticket [] all = tt
rests_keep seen ticket (p ∷ ps) all = (rest_keeps seen ticket p.steps p.deed all.0, rests_keep seen ticket ps all.1)

same_birth : (old new : ClerkView) (ps : List Period) → AllByRecursion KeepsBirth ps → Chain Serves old ps new → new.birth ≡ old.birth
same_birth old new [] all c = ap (λ (v : ClerkView). v.birth) c
same_birth old new (p ∷ ps) all c = same_birth c.0 new ps all.1 c.2 ∙ c.1.birth ∙ all.0 old.birth

-- the operation of an opening is what was asked
asked_from : (opening : OpeningView) (asked : Asked) (op : OperationView) → opening.made ≡ Ok op → IsOpeningOf asked opening
    → op ≡ before_any asked.worker asked.tenant asked.command 0
asked_from opening asked op is o = subst (λ made. IsMadeOf made asked.worker asked.tenant asked.command) is o.made

begun_so : (story : Story) (name steps : ℕ) (asked : Asked) (op : OperationView) → op ≡ before_any asked.worker asked.tenant asked.command 0 → IsBegunAt story name steps op
    → story.asked name ≡ Some (record { tenant = asked.tenant; command = asked.command })
begun_so story name steps asked op is b = subst (λ (x : OperationView). story.asked name ≡ Some (record { tenant = x.tenant; command = x.command })) is b.asked_so

-- so the take is of an operation with the birth that the begin gave
own_birth : (start mid last : ClerkView) (stepped rests : List Period) (shown : ℕ) (table : Shown) (id : ℕ) → start.birth ≡ shown → AllByRecursion KeepsBirth stepped
    → Chain Serves start stepped mid → AllByRecursion KeepsBirth rests → Chain Serves mid rests last → birth_at table id ≡ Some last.birth → birth_at table id ≡ Some shown
own_birth start mid last stepped rests shown table id birth keeps steps keep waits own =
    own ∙ ap Some (same_birth mid last rests keep waits ∙ same_birth start mid stepped keeps steps ∙ birth)

-- what finished by one name of an id finished by the other
finished_as : (story : Story) (ids : Ids) (id one name : ℕ) (answer : Answer) → ids id ≡ Some one → ids id ≡ Some name → Finished story one answer → Finished story name answer
finished_as story ids id one name answer is named f = subst (λ n. Finished story n answer) (same_Some one name (sym is ∙ named)) f

-- the first step of an operation whose answer is taken is after its birth
of_its_time : (birth id name : ℕ) (ids : Ids) (v mid : StateView) (answer : Answer) → IsNamed birth id name ids v → Takes v mid id answer → birth < answer.first
of_its_time birth id name ids v mid answer n t =
    let same = ap (λ (x : OperationView). x.first) (same_Some n.op t.op (sym n.there ∙ t.there)) in
    let begun = t.right.begun in
    let told = t.told.first in
    elim n.since [
      | inl still ↦ absurd (omega (arith, still, same, begun))
      | inr lt ↦ let low = lt.0 in omega (arith, low, same, told)
    ]

pub answered_in : (s : StateView) (log : List StateView) (run : List Happening) → IsIdle s → Along Leads s log → Through s log run
    → (old new : ClerkView) (seen : ℕ) (asked : Asked) (answer : Answer) → Calls Serves old new seen asked (Ok answer) → IsPrefix new.mark.log (s ∷ log)
    → IsAnsweredIn s log (story_along s log run) old.mark new.mark asked answer
answered_in s log run idle legal through old new seen asked answer c front =
    let told : Answers seen asked answer c.periods = c.tells in
    let runs = told.runs in
    let opens = runs.opens in
    let ends = runs.ends in
    let took = told.taken in
    let ticket = told.ticket in
    let story = story_along s log run in
    let halves = split old new told.front told.back (subst (λ ps. Chain Serves old ps new) told.parts c.chain) in
    let mid = halves.0 in
    let pieces = split old mid runs.opened runs.stepped (subst (λ ps. Chain Serves old ps mid) runs.parts halves.1) in
    let start = pieces.0 in
    let mid_front = prefix_trans mid.mark.log new.mark.log (s ∷ log) (chain_front mid new told.back halves.2) front in
    let longer_front = chain_front start mid runs.stepped pieces.2 in
    let start_front = prefix_trans start.mark.log mid.mark.log (s ∷ log) longer_front mid_front in
    let begin_period : Period = record { steps = runs.shown; deed = Began runs.opening opens.logs (Ok ticket) (Some runs.next) } in
    let take_period : Period = record { steps = took.steps; deed = Took ticket.id took.room answer } in
    let begin = last_served old start opens.before begin_period (subst (λ ps. Chain Serves old ps start) opens.parts pieces.1) in
    let take = last_served mid new took.rests take_period (subst (λ ps. Chain Serves mid ps new) took.parts halves.2) in
    let first = added (Acted begin_period) begin.0.mark start.mark s log begin.2.adds start_front in
    let last = added (Acted take_period) take.0.mark new.mark s log take.2.adds front in
    let low = prefix_length old.mark.log begin.0.mark.log (chain_front old begin.0 opens.before begin.1) in
    let since = first.since in
    let longer = prefix_length start.mark.log mid.mark.log longer_front in
    let waited = prefix_length mid.mark.log take.0.mark.log (chain_front mid take.0 took.rests take.1) in
    let seen_first = first.upto in
    let seen_last = last.since in
    let turn : first.place < last.place = omega (arith, longer, waited, seen_first, seen_last) in
    let kept : AllByRecursion KeepsBirth runs.stepped =
    subst (AllByRecursion KeepsBirth) (sym ends.parts) (all_snoc KeepsBirth ends.between (record { steps = ends.steps; deed = Stepped ticket.id ends.turned moves.Done ends.told }) (turns_keep seen ticket.id runs.shown runs.next ends.between ends.last ends.left ends.turns) (λ birth. refl)) in
    let was = take.2.adds.from in
    let own : birth_at was.table ticket.id ≡ Some runs.shown =
    own_birth start mid take.0 runs.stepped took.rests runs.shown was.table ticket.id begin.2.birth kept pieces.2 (rests_keep seen ticket.id took.rests took.early) take.1 take.2.own in
    let state = added_to (Acted take_period) take.0.mark new.mark s log take.2.adds front last.place last.upto in
    let named : IsNamed runs.shown ticket.id first.place (ids_at run last.place) was =
    named_from runs.opening opens.logs ticket (Some runs.next) log run s was 0 first.place last.place first.place runs.shown no_ids (omega arith) through turn first.happens state own in
    let takes : Takes was take.2.adds.happens.1.0 ticket.id answer = take.2.adds.happens.1.1 in
    let time = of_its_time runs.shown ticket.id first.place (ids_at run last.place) was take.2.adds.happens.1.0 answer named takes in
    let all = explained s log run idle legal through in
    let stands : (op : OperationView) × (runs.opening.made ≡ Ok op) × IsBegunAt story first.place runs.shown op = all.stand first.place (Acted begin_period) first.happens in
    let ended : IsTakenAt story (ids_at run last.place) took.steps ticket.id answer = all.stand last.place (Acted take_period) last.happens in
    let finished = finished_as story (ids_at run last.place) ticket.id ended.name first.place answer ended.is named.named ended.finished in
    let numbers = all.headline.1.numbers first.place answer finished in
    let made = asked_from runs.opening asked stands.0 stands.1 runs.made in
    record {
      begun = first.place;
      taken = last.place;
      since = omega (arith, low, since);
      in_turn = turn;
      upto = last.upto;
      begins = record { steps = runs.shown; opening = runs.opening; logs = opens.logs; ticket = ticket; next = Some runs.next; happens = first.happens };
      takes = record { steps = took.steps; id = ticket.id; room = took.room; happens = last.happens };
      one_id = refl;
      asked_so = begun_so story first.place runs.shown asked stands.0 made stands.2;
      finished = finished;
      between = λ m own.
          let low = numbers.0.1 m own in
          let high = numbers.1.1 m own in
          let upto = ended.made in
          (omega (arith, time, low), omega (arith, high, upto));
    }

-- what is said of a call by clerks is said of it by their views: for the crates above
chain_views : {S : Type 0} (view : S → ClerkView) (old new : S) (ps : List Period) → Chain (λ o p n. Serves (view o) p (view n)) old ps new → Chain Serves (view old) ps (view new)
chain_views view old new [] c = ap view c
chain_views view old new (p ∷ ps) c = (view c.0, c.1, chain_views view c.0 new ps c.2)

pub calls_views : {S : Type 0} (view : S → ClerkView) (old new : S) (seen : ℕ) (asked : Asked) (result : Result Answer CallFault)
    → Calls (λ o p n. Serves (view o) p (view n)) old new seen asked result → Calls Serves (view old) (view new) seen asked result
calls_views view old new seen asked result c = record { periods = c.periods; chain = chain_views view old new c.periods c.chain; tells = c.tells }

-- what was answered before another call began precedes what that one is answered
pub in_turn : (s : StateView) (log : List StateView) (run : List Happening) → Through s log run → (old mid later new : MarkView StateView) (asked after : Asked) (answer reply : Answer)
    → (one : IsAnsweredIn s log (story_along s log run) old mid asked answer) (next : IsAnsweredIn s log (story_along s log run) later new after reply)
    → IsPrefix mid.log later.log → Precedes (story_along s log run) one.begun next.begun
in_turn s log run through old mid later new asked after answer reply one next front =
    let longer = prefix_length mid.log later.log front in
    let upto = one.upto in
    let since = next.since in
    let turn : one.taken < next.begun = omega (arith, longer, upto, since) in
    let take_period : Period = record { steps = one.takes.steps; deed = Took one.takes.id one.takes.room answer } in
    let begin_period : Period = record { steps = next.begins.steps; deed = Began next.begins.opening next.begins.logs (Ok next.begins.ticket) next.begins.next } in
    let shown = shows_in_turn log run s one.taken next.begun take_period begin_period through turn one.takes.happens next.begins.happens in
    λ m n own owns. let high = (one.between m own).1 in let low = (next.between n owns).0 in omega (arith, high, shown, low)
