-- What comes of a turn that is due, and that none is due after it; for the turner.
use Rattle.std.proofs.{Common.{◌≡◌, ◌∙◌, ℕ, Bool, List, [], ◌∷◌, ◌++◌, Option, Some, Result, Ok, Err, IfOk, IfErr, ap, refl, sym, subst, inl, inr, arith}, lemmas.Fn.FoldsTo-push}
use Rattle.mt_disk.specs.Disk.{DiskState}
use Rattle.mt_book.specs.{declared.passes.Pass.Pass, Periods.Period}
use Rattle.mt_options.specs.declared.tenants.TenantQuota.{TenantQuota}
use Rattle.mt_slots.specs.declared.store_slots.StoreSlots.{StoreSlots}
use Rattle.mt_settle.specs.Turns.{Turn}
use Rattle.mt_service.specs.declared.turners.Turner.{Turner}
use Rattle.mt_stored.specs.{Checkpoints.scanner, Digests.DigestCall, WholeTurns.{Parts, WritesTurn, StopsTurn}, Checks.{IsDue, IsReached, TakesDue, EndsTurn}}
use Rattle.mt_stored.specs.{declared.checks.Checks.Checks, declared.checks.DueTurn.DueTurn, declared.checks.Interval.Interval, declared.turns.TurnStop.TurnStop}
use Rattle.mt_service.specs.{Turning.{Turning, ComesTo, MakesTurn, TellsTurn, Finishes}, Turners.{TurnerDeed, ByTurn, DoesDeed, MayTurn, Works, Leaves, turner_of}}

module _ {S K D G : Type 0} (does : S → Period → S → Type 0) (is_honest : D → Bool) (state : D → DiskState) (failures : D → ℕ) (keeps : K → Turn → K → Type 0) (count : K → ℕ) (calls : G → DigestCall → G → Type 0) (tenants : List TenantQuota) where
  -- a turn that was begun is whole or stopped
  pub comes : (worker logs generation : ℕ) (numbers : List ℕ) (r : Result (StoreSlots D) (TurnStop × StoreSlots D)) (new : StoreSlots D → Parts K S D G) (old : Parts K S D G)
      → IfOk r (λ left. WritesTurn keeps does worker is_honest state failures calls logs generation numbers old (new left))
      → IfErr r (λ e. StopsTurn keeps does worker is_honest state failures calls logs generation numbers e.0 old (new e.1))
      → ComesTo does is_honest state failures keeps count calls tenants worker logs generation numbers r new old
  comes worker logs generation numbers (Ok left) new old ok err = ok
  comes worker logs generation numbers (Err e) new old ok err = err

  -- and so it is told
  pub told : (due : DueTurn D) (old new : Turning S K G) (r : Result (StoreSlots D) (TurnStop × StoreSlots D))
      → MakesTurn does is_honest state failures keeps count calls tenants due old r new → TellsTurn does is_honest state failures keeps count calls tenants due old r new
  told due old new (Ok left) made = made
  told due old new (Err e) made = inr made

  -- one deed more
  pub works_on : (old mid new : Turning S K G) (deed : TurnerDeed) → Works does is_honest state failures keeps count calls tenants old mid
      → DoesDeed does is_honest state failures keeps count calls tenants mid deed new → Works does is_honest state failures keeps count calls tenants old new
  works_on old mid new deed w d = (w.0 ++ deed ∷ [], FoldsTo-push (DoesDeed does is_honest state failures keeps count calls tenants) old w.0 mid deed new w.1 d)

  pub may_work_on : (old mid new : Turning S K G) → Works does is_honest state failures keeps count calls tenants old mid
      → MayTurn does is_honest state failures keeps count calls tenants mid new → Works does is_honest state failures keeps count calls tenants old new
  may_work_on old mid new w (inl same) = subst (Works does is_honest state failures keeps count calls tenants old) (sym same) w
  may_work_on old mid new w (inr d) = works_on old mid new ByTurn w d

  pub finish_work : (old mid new : Turning S K G) (old_checks new_checks : Checks D) → Works does is_honest state failures keeps count calls tenants old mid
      → Finishes does is_honest state failures keeps count calls tenants old_checks mid new_checks new → Works does is_honest state failures keeps count calls tenants old new
  finish_work old mid new old_checks new_checks w (inl none) = subst (Works does is_honest state failures keeps count calls tenants old) (sym none.2) w
  finish_work old mid new old_checks new_checks w (inr turn) = works_on old mid new ByTurn w (turn.due, turn.told, turn.makes)

  -- what is left of a turner
  pub leaves : {L R : Type 0} (t : Turner L R S K G) (old : Turning S K G) (pass : Pass L) (desk : S) (logs : K) → pass ≡ t.pass → desk ≡ t.desk → logs ≡ t.logs
      → Works does is_honest state failures keeps count calls tenants old (turner_of t)
      → Leaves does is_honest state failures keeps count calls tenants old (scanner desk pass.seen pass.share.amount) logs
  leaves {L} t old pass desk logs pass_is desk_is logs_are w = record {
    last = turner_of t;
    works = w;
    desk_is = ap (λ d. scanner d t.pass.seen t.pass.share.amount) (sym desk_is) ∙ ap (λ (p : Pass L). scanner desk p.seen p.share.amount) (sym pass_is);
    logs_are = sym logs_are;
  }

  pub no_work : (old : Turning S K G) → Works does is_honest state failures keeps count calls tenants old old
  no_work old = ([], refl)

-- nothing was counted
none_reached : (interval : Interval) → interval.since ≡ 0 → ¬ IsReached interval
none_reached interval none reached = absurd (omega (arith, none, reached.0, reached.1))

-- when a turn has ended that was handed out, none is due
pub not_due : {D : Type 0} (told : Result (StoreSlots D) (TurnStop × StoreSlots D)) (old taken new : Checks D) (due : DueTurn D) (stop : Option TurnStop)
    → TakesDue old (Some due) taken → EndsTurn told taken stop new → ¬ IsDue new
not_due {D} (Ok slots) old taken new due stop takes ends is = elim is.1 [
  | inl reached ↦ none_reached new.answers (ap (λ (c : Checks D). c.answers.since) ends.1 ∙ ap (λ (c : Checks D). c.answers.since) takes.3) reached
  | inr reached ↦ none_reached new.bytes (ap (λ (c : Checks D). c.bytes.since) ends.1 ∙ ap (λ (c : Checks D). c.bytes.since) takes.3) reached
]
not_due {D} (Err e) old taken new due stop takes ends is = elim is.1 [
  | inl reached ↦ none_reached new.answers (ap (λ (c : Checks D). c.answers.since) ends.1 ∙ ap (λ (c : Checks D). c.answers.since) takes.3) reached
  | inr reached ↦ none_reached new.bytes (ap (λ (c : Checks D). c.bytes.since) ends.1 ∙ ap (λ (c : Checks D). c.bytes.since) takes.3) reached
]
