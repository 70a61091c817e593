-- What the notes of a whole Settle say of its number.
use Rattle.std.proofs.Common.{◌≡◌, ℕ, zero, suc, ◌≤◌, List, [], ◌∷◌, ◌++◌, replicate, Option, Some, None, Result, Ok, refl, sym, ap, ◌∙◌, inl, inr, ⊎_elim, arith}
use Rattle.std.proofs.lemmas.Option.{same_Some}
use Rattle.mt_rows.specs.{Accounts.Accounts, declared.refusal.Refusal.Refusal}
use Rattle.mt_disk.specs.declared.mem.MemDisk.{MemDisk}
use Rattle.mt_lives.specs.declared.live_slots.LiveSlots.{LiveSlots}
use Rattle.mt_runs.specs.Placings.{Quotas}
use Rattle.mt_recover.specs.declared.recovering.Recovered.{Recovered as AnyRecovered}
use Rattle.mt_store_logs.specs.declared.store_log.StoreLog.{StoreLog}
use Rattle.mt_lives.specs.{declared.events.CrashImages.CrashImages, declared.events.StoreEvent.StoreEvent, declared.events.StoreEvent.TheVariants.{Core, Move, Take, Tidy, Flush, Reopen, SettleBegin, SettleNext, CheckBegin, CheckStep, Crash}}
use Rattle.mt_lives.specs.declared.events.StoreNote.{StoreNote}
use Rattle.mt_lives.specs.declared.events.StoreNote.TheVariants.{Told, Finished, Took, Tidied, Flushed, Reopened, Begun, Turned, Settled, CheckBegun, CheckTurned, CheckWrites, CheckTold, CheckAdded, CheckEnded, TurnEnded, Recovered, Refused, NoSuch}
use Rattle.mt_lives.specs.{declared.serving.Serving.Serving, Lives.{Life, Past, Standing, steps_in, IsNoted, Notes, NotesLead}, Holds.quotas_of}
use Rattle.mt_lives.specs.Owned.{turn_notes, AreTurnNotes, IsWholeSettle}
use Rattle.mt_lives.proofs.Goes.{ok_life}

-- ---- which log's turn

log_of : StoreEvent → Option ℕ
log_of (Flush worker) = Some worker
log_of (Reopen worker) = Some worker
log_of event = None

first_log : Notes → Option ℕ
unfolding log_of
first_log [] = None
first_log (x ∷ notes) = log_of x.0

first_is : (worker : ℕ) (mark : Option ℕ) (steps : List ℕ) (told : Result ℕ Refusal) → first_log (turn_notes worker mark steps told) ≡ Some worker
unfolding log_of first_log
first_is worker None steps told = refl
first_is worker (Some mark) [] told = refl
first_is worker (Some mark) (step ∷ steps) told = refl

turn_of : (worker : ℕ) (mark : Option ℕ) (told : Result ℕ Refusal) (notes : Notes) → AreTurnNotes worker mark told notes → first_log notes ≡ Some worker
unfolding log_of first_log
turn_of worker mark told notes (inl some) = ap first_log some.1 ∙ first_is worker mark some.0 told
turn_of worker mark told notes (inr none) = ap first_log none.1.2

-- notes of a turn tell whose log had it
pub same_log : (worker other : ℕ) (mark other_mark : Option ℕ) (told other_told : Result ℕ Refusal) (notes : Notes) → AreTurnNotes worker mark told notes
    → AreTurnNotes other other_mark other_told notes → worker ≡ other
same_log worker other mark other_mark told other_told notes a b =
    same_Some worker other (sym (turn_of worker mark told notes a) ∙ turn_of other other_mark other_told notes b)

-- ---- the number

module _ (quotas : Quotas) (id n : ℕ) where
  -- it is at most the last step
  at_most : (turns : ℕ) (old new : Standing) (life : Life) → old.now ≡ Ok life → NotesLead quotas old (replicate turns (SettleNext id, Turned) ++ (SettleNext id, Settled n) ∷ []) new
      → n ≤ steps_in life
  at_most zero old new life is (mid, noted, rest) =
      let same : steps_in life ≡ steps_in noted.0 = ap (λ (r : Result Life Past). steps_in (ok_life life r)) (sym is ∙ noted.2) in
      let most = noted.5 in
      omega (arith, same, most)
  at_most (suc turns) old new life is (mid, noted, rest) = at_most turns mid new life (ap (λ (s : Standing). s.now) noted.2 ∙ is) rest

  -- and has been settled then
  is_settled : (turns : ℕ) (old new : Standing) → NotesLead quotas old (replicate turns (SettleNext id, Turned) ++ (SettleNext id, Settled n) ∷ []) new → n ≤ new.settled
  is_settled zero old new (mid, noted, rest) =
      let a = ap (λ (s : Standing). s.settled) rest in
      let b = ap (λ (s : Standing). s.settled) noted.6 in
      omega (arith, a, b)
  is_settled (suc turns) old new (mid, noted, rest) = is_settled turns mid new rest

-- a number that was settled stays so
never_falls : (quotas : Quotas) (old new : Standing) (event : StoreEvent) (note : StoreNote) → IsNoted quotas old event note new → old.settled ≤ new.settled
never_falls quotas old new (Core e) (Told t) noted = let same = ap (λ (s : Standing). s.settled) noted.3 in omega (arith, same)
never_falls quotas old new (Move op) (Told t) noted = let same = ap (λ (s : Standing). s.settled) noted.3 in omega (arith, same)
never_falls quotas old new (Move op) Finished noted = let same = ap (λ (s : Standing). s.settled) noted.4 in omega (arith, same)
never_falls quotas old new (Take op) (Took answer) noted = let same = ap (λ (s : Standing). s.settled) noted.3 in omega (arith, same)
never_falls quotas old new Tidy Tidied noted = let same = ap (λ (s : Standing). s.settled) noted.1 in omega (arith, same)
never_falls quotas old new (Flush worker) (Flushed number) noted = let same = ap (λ (s : Standing). s.settled) noted.4 in omega (arith, same)
never_falls quotas old new (Flush worker) (Refused e) noted = let same = ap (λ (s : Standing). s.settled) noted.2 in omega (arith, same)
never_falls quotas old new (Reopen worker) Reopened noted = let same = ap (λ (s : Standing). s.settled) noted.1 in omega (arith, same)
never_falls quotas old new (Reopen worker) (Refused e) noted = let same = ap (λ (s : Standing). s.settled) noted.2 in omega (arith, same)
never_falls quotas old new (SettleBegin id) (Begun number) noted = let same = ap (λ (s : Standing). s.settled) noted.4 in omega (arith, same)
never_falls quotas old new (SettleNext id) Turned noted = let same = ap (λ (s : Standing). s.settled) noted.2 in omega (arith, same)
never_falls quotas old new (SettleNext id) (Settled number) noted = let same = ap (λ (s : Standing). s.settled) noted.6 in omega (arith, same)
never_falls quotas old new (SettleNext id) (Refused e) noted = let same = ap (λ (s : Standing). s.settled) noted.3 in omega (arith, same)
never_falls quotas old new (Core e) NoSuch noted = let same = ap (λ (s : Standing). s.settled) noted.1 in omega (arith, same)
never_falls quotas old new (Move op) NoSuch noted = let same = ap (λ (s : Standing). s.settled) noted.1 in omega (arith, same)
never_falls quotas old new (Take op) NoSuch noted = let same = ap (λ (s : Standing). s.settled) noted in omega (arith, same)
never_falls quotas old new Tidy NoSuch noted = let same = ap (λ (s : Standing). s.settled) noted.1 in omega (arith, same)
never_falls quotas old new (SettleBegin id) NoSuch noted = let same = ap (λ (s : Standing). s.settled) noted.1 in omega (arith, same)
never_falls quotas old new (SettleNext id) NoSuch noted = let same = ap (λ (s : Standing). s.settled) noted.1 in omega (arith, same)
never_falls quotas old new (Crash images) (Recovered r) noted = let same = ap (λ (s : Standing). s.settled) noted.3 in omega (arith, same)
never_falls quotas old new (Crash images) (Refused e) noted = let same = ap (λ (s : Standing). s.settled) noted.1.2 in omega (arith, same)
never_falls quotas old new (Flush worker) NoSuch noted = let same = ap (λ (s : Standing). s.settled) noted in omega (arith, same)
never_falls quotas old new (Reopen worker) NoSuch noted = let same = ap (λ (s : Standing). s.settled) noted in omega (arith, same)
never_falls quotas old new (Crash images) NoSuch noted = let same = ap (λ (s : Standing). s.settled) noted in omega (arith, same)
never_falls quotas old new CheckBegin (CheckBegun number) noted = let same = ap (λ (s : Standing). s.settled) noted.4 in omega (arith, same)
never_falls quotas old new CheckBegin (Refused e) noted = let same = ap (λ (s : Standing). s.settled) noted.3 in omega (arith, same)
never_falls quotas old new CheckBegin NoSuch noted = let same = ap (λ (s : Standing). s.settled) noted in omega (arith, same)
never_falls quotas old new CheckStep CheckTurned noted = let same = ap (λ (s : Standing). s.settled) noted.2 in omega (arith, same)
never_falls quotas old new CheckStep (CheckWrites number) noted = let same = ap (λ (s : Standing). s.settled) noted.6 in omega (arith, same)
never_falls quotas old new CheckStep TurnEnded noted = let same = ap (λ (s : Standing). s.settled) noted.2 in omega (arith, same)
never_falls quotas old new CheckStep (CheckTold t) noted =
    ⊎_elim (λ e. let same = ap (λ (s : Standing). s.settled) e in omega (arith, same)) (λ e. let same = ap (λ (s : Standing). s.settled) e in omega (arith, same)) noted.6
never_falls quotas old new CheckStep CheckAdded noted = let same = ap (λ (s : Standing). s.settled) noted.2 in omega (arith, same)
never_falls quotas old new CheckStep (CheckEnded number) noted = let same = ap (λ (s : Standing). s.settled) noted.6 in omega (arith, same)
never_falls quotas old new CheckStep (Refused e) noted = let same = ap (λ (s : Standing). s.settled) noted.3 in omega (arith, same)
never_falls quotas old new CheckStep NoSuch noted = let same = ap (λ (s : Standing). s.settled) noted.1 in omega (arith, same)
never_falls quotas old new event note noted = absurd noted

-- so each later cutoff is at least that, and numbers go on from there
kept_on : (quotas : Quotas) (n : ℕ) (notes : Notes) (old new : Standing) (images : CrashImages) (r : AnyRecovered) → n ≤ old.settled
    → NotesLead quotas old (notes ++ (Crash images, Recovered r) ∷ []) new → (n ≤ r.cutoff) × (n ≤ r.resume)
kept_on quotas n [] old new images r le (mid, noted, rest) =
    let kept = noted.0 in
    let over = noted.1 in
    (omega (arith, le, kept), omega (arith, le, kept, over))
kept_on quotas n (x ∷ notes) old new images r le (mid, noted, rest) =
    let on = never_falls quotas old mid x.0 x.1 noted in
    kept_on quotas n notes mid new images r (omega (arith, le, on)) rest

-- a Settle begins by a name that no open one has
pub was_free : (accounts : Accounts) (slots : LiveSlots) (standing : Standing) (id steps count : ℕ) (told : Result ℕ Refusal) (logs : List (StoreLog MemDisk)) (serving : Serving)
    → IsWholeSettle accounts slots standing id steps count told logs serving → standing.begun id ≡ None
was_free accounts slots standing id steps count told logs serving w = w.lead.1.3

module _ (accounts : Accounts) (slots : LiveSlots) (standing : Standing) (id steps count n : ℕ) (logs : List (StoreLog MemDisk)) (serving : Serving)
    (w : IsWholeSettle accounts slots standing id steps count (Ok n) logs serving) where
  -- its number is at most the last step
  pub within_steps : (life : Life) → standing.now ≡ Ok life → n ≤ steps_in life
  within_steps life is =
      at_most (quotas_of accounts) id n w.turns w.lead.0 w.next life (ap (λ (s : Standing). s.now) w.lead.1.4 ∙ is) w.lead.2

  -- and at most every later cutoff, from which numbers go on
  pub kept_later : (notes : Notes) (images : CrashImages) (r : AnyRecovered) (end : Standing)
      → NotesLead (quotas_of accounts) w.next (notes ++ (Crash images, Recovered r) ∷ []) end → (n ≤ r.cutoff) × (n ≤ r.resume)
  kept_later notes images r end lead =
      kept_on (quotas_of accounts) n notes w.next end images r (is_settled (quotas_of accounts) id n w.turns w.lead.0 w.next w.lead.2) lead
