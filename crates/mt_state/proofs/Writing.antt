-- A step keeps that all maps since the floor keep their quotas, and that each entry's row is made by a change: for all phases.
use Rattle.std.proofs.Common.{◌≡◌, ℕ, ◌+◌, ◌≤◌, inl, inr, true, [], ◌∷◌, ◌++◌, Option, Some, None, refl, sym, ap, subst, ◌∙◌, arith, IsSome}
use Rattle.std.proofs.{lemmas.Bool.cases_lt, lemmas.Option.same_Some, lemmas.List.Elements.{All-push, All-contains, Contains-push_cases}}
use Rattle.std.specs.{Prelude.{if◌then◌else◌}, Option.option_map, List.{All, Contains}, FinMap.len}
use Rattle.mt_rows.specs.{declared.tenants.Account.Account, Stamps.{Stamped, written}, Changes.{Named, NamesColumns, AreShort}, Commands.{HasColumns, HasShortColumns}, Maps.is_change}
use Rattle.mt_rows.specs.{Accounts.account_of, Tenants.tenant_map}
use Rattle.mt_tape.{specs.{declared.entry.Entry.{Entry as TapeEntry}, Tapes.last_step_over, Histories.after_of}, proofs.{EntryLaws.all_upto_last, TapeLaws.map_at-now}}
use Rattle.mt_arena.specs.Arena.{content_of}
use Rattle.mt_operation.specs.declared.task.Request.{Request}
use Rattle.mt_operation.specs.{declared.task.Request.TheVariants.{Get as GetOf, Put as PutOf, PutIf as PutIfOf, Remove as RemoveOf, Scan as ScanOf}, declared.task.Task.Task}
use Rattle.mt_operation.specs.{declared.operation.Operation.Operation, Tasks.{command_of, ask, aim_of}, Operations.view_of}
use Rattle.mt_insert.specs.Puts.{change_of, is_put, MeetsStamp}
use Rattle.mt_state.specs.{Views.{Core, shown, granted_in, quota_of}, Steps.{told_change, change_in}, Promises.IsPlacing, KeptOperations.IsPlacedOnce}
use Rattle.mt_state.specs.{Written.{KeepsQuotas, IsMadeByPut, IsMadeByChange, row_left, change_kept}, Invariant.StateInvariant, Moves.{IsMove, IsTold}}
use Rattle.mt_state.proofs.Replies.{change_writes}
use Rattle.mt_remove.specs.Writes.{is_remove}
use Rattle.mt_operation.specs.declared.walk.Aim.TheVariants as aims

-- an account that has its quota still was there
account_was : (now was : Option Account) (a : Account) → granted_in now ≡ granted_in was → now ≡ Some a → (b : Account) × (was ≡ Some b) × (b.quota ≡ a.quota)
account_was now None a same is = absurd (let no = sym same ∙ ap granted_in is in cc)
account_was now (Some b) a same is = (b, refl, same_Some b.quota a.quota (sym same ∙ ap granted_in is))

-- the row that a put leaves
pub row_left_put : (number : ℕ) (r : Request) → is_put (command_of r) ≡ true → (before : Option Stamped)
    → row_left number (command_of r) before ≡ Some (written number (change_of (command_of r)) before)
row_left_put number (PutOf key change) put before = refl
row_left_put number (PutIfOf key stamp change) put before = refl
row_left_put number (GetOf key columns) put before = absurd (cc)
row_left_put number (ScanOf from after count columns) put before = absurd (cc)
row_left_put number (RemoveOf key) put before = absurd (cc)

-- a removal leaves none
pub row_left_remove : (number : ℕ) (r : Request) → is_remove (command_of r) ≡ true → (before : Option Stamped) → row_left number (command_of r) before ≡ None
row_left_remove number (RemoveOf key) removes before = refl
row_left_remove number (GetOf key columns) removes before = absurd (cc)
row_left_remove number (ScanOf from after count columns) removes before = absurd (cc)
row_left_remove number (PutOf key change) removes before = absurd (cc)
row_left_remove number (PutIfOf key stamp change) removes before = absurd (cc)

-- the change that a put's entry keeps
pub change_kept_put : (r : Request) → is_put (command_of r) ≡ true → (before : Option Stamped)
    → option_map (λ (was : Stamped). change_of (command_of r)) before ≡ change_kept (command_of r) before
change_kept_put (PutOf key change) put before = refl
change_kept_put (PutIfOf key stamp change) put before = refl
change_kept_put (GetOf key columns) put before = absurd (cc)
change_kept_put (ScanOf from after count columns) put before = absurd (cc)
change_kept_put (RemoveOf key) put before = absurd (cc)

-- a removal's keeps none
pub change_kept_remove : (r : Request) → is_remove (command_of r) ≡ true → (before : Option Stamped) → change_kept (command_of r) before ≡ None
change_kept_remove (RemoveOf key) removes before = refl
change_kept_remove (GetOf key columns) removes before = absurd (cc)
change_kept_remove (ScanOf from after count columns) removes before = absurd (cc)
change_kept_remove (PutOf key change) removes before = absurd (cc)
change_kept_remove (PutIfOf key stamp change) removes before = absurd (cc)

-- a removal asks for no stamp
pub remove_meets : (r : Request) → is_remove (command_of r) ≡ true → (standing : ℕ) → MeetsStamp (command_of r) standing
remove_meets (RemoveOf key) removes standing = tt
remove_meets (GetOf key columns) removes standing = absurd (cc)
remove_meets (ScanOf from after count columns) removes standing = absurd (cc)
remove_meets (PutOf key change) removes standing = absurd (cc)
remove_meets (PutIfOf key stamp change) removes standing = absurd (cc)

-- what a put writes is made by its change, which is the one that its entry keeps
kept_is : (change : Named) (before : Option Stamped) (c : Named) → option_map (λ (was : Stamped). change) before ≡ Some c → c ≡ change
kept_is change None c e = absurd (cc)
kept_is change (Some was) c e = sym (same_Some change c e)

put_by : (change : Named) → NamesColumns change → AreShort change → (e : TapeEntry) → after_of e ≡ Some (written e.step change e.before)
    → e.change ≡ option_map (λ (was : Stamped). change) e.before → IsMadeByPut e
put_by change names short e makes keeps = record {
  change = change;
  within = record { names = names; short = short };
  makes = makes;
  kept = λ c is. kept_is change e.before c (sym keeps ∙ is);
}

-- what a put or a removal writes is made by it
made_by : (r : Request) → aim_of (command_of r) ≡ aims.Write → HasColumns (command_of r) → HasShortColumns (command_of r) → (e : TapeEntry)
    → after_of e ≡ row_left e.step (command_of r) e.before → e.change ≡ change_kept (command_of r) e.before → (is_remove (command_of r) ≡ true → IsSome e.before) → IsMadeByChange e
made_by (PutOf key change) writes names short e makes keeps was = inl (put_by change names short e makes keeps)
made_by (PutIfOf key stamp change) writes names short e makes keeps was = inl (put_by change names short e makes keeps)
made_by (RemoveOf key) writes names short e makes keeps was = inr (record { was = was refl; gone = makes })
made_by (GetOf key columns) writes names short e makes keeps was = absurd (cc)
made_by (ScanOf from after count columns) writes names short e makes keeps was = absurd (cc)

module _ (old new : Core) (o : ℕ) (before after : Operation) (h : StateInvariant old) (m : IsMove old new o before after) where
  -- each map since the floor keeps its quota: the older ones stay, and the new one is counted
  pub quotas_stay : KeepsQuotas (shown new)
  quotas_stay t n a there from upto = elim (cases_lt old.steps n) [
    | inl late ↦
        let now = map_at-now new.tape.floor n new.tape.entries (content_of new.arena) t m.tape.rises (omega (arith, m.tape.made, late, m.number)) in
        let counted = m.counts t a there in
        subst (λ all. len all ≤ a.quota) (sym now) (omega (arith, counted.0, counted.1))
    | inr was ↦
        let account = account_was (account_of new.accounts t) (account_of old.accounts t) a (m.leaves.grows.quotas t) there in
        let kept = h.quotas t n account.0 account.1 (omega (arith, from, m.leaves.floor)) was in
        subst (λ all. len all ≤ a.quota) (sym (m.leaves.grows.maps t n was)) (omega (arith, kept, account.2))
  ]

  -- a step that places has its entry, which is the one of its operation
  module _ (p : IsPlacing (shown old) (shown new) (view_of before) (view_of after)) where
    has_changed : change_in (view_of after) ≡ Some (old.steps + 1)
    has_changed = ap told_change p.outcome ∙ ap (λ b. if b then Some (old.steps + 1) else None) p.changes

    once : IsPlacedOnce new after (old.steps + 1)
    once = m.kept.placed (old.steps + 1) has_changed

    pushed_there : Contains (old.tape.entries ++ p.entry ∷ []) once.entry
    pushed_there = subst (λ es. Contains es once.entry) p.pushes once.there

    entry_is : p.entry ≡ once.entry
    entry_is = elim (Contains-push_cases old.tape.entries p.entry once.entry pushed_there) [
      | inl was ↦
          let upto = All-contains (λ e. e.step ≤ last_step_over old.tape.floor old.tape.entries) old.tape.entries once.entry (all_upto_last old.tape.floor old.tape.entries h.tape.rises) was in
          absurd (omega (arith, upto, once.step_is, h.tape.made))
      | inr is ↦ is
    ]

    writes_before : aim_of (ask before.task) ≡ aims.Write
    writes_before =
        change_writes (quota_of (shown old) before.task.tenant) (ask before.task) (tenant_map before.task.tenant (content_of old.arena)) (sym (ap is_change p.told) ∙ p.changes)

    writes_after : aim_of (ask after.task) ≡ aims.Write
    writes_after = ap (λ (t : Task). aim_of (ask t)) m.asked ∙ writes_before

    entry_made : IsMadeByChange p.entry
    entry_made = subst IsMadeByChange (sym entry_is)
        (made_by after.task.request writes_after m.kept.always.columns m.kept.always.short once.entry once.makes once.keeps once.was)

  -- every entry is made by a change
  pub written_stays : IsTold old new o before after → All IsMadeByChange new.tape.entries
  written_stays t = elim t.effect [
    | inl quiet ↦ subst (λ es. All IsMadeByChange es) (sym quiet.entries) h.written
    | inr placing ↦ subst (λ es. All IsMadeByChange es) (sym placing.pushes) (All-push IsMadeByChange old.tape.entries placing.entry h.written (entry_made placing))
  ]
