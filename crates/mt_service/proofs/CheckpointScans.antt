-- The scans of a checkpoint are operations of the history over which it was written: for the law.
use Rattle.std.proofs.Common.{◌≡◌, ◌<◌, ◌≤◌, ℕ, Bool, List, [], ◌∷◌, Option, Some, None, Result, Ok, refl, sym, ap, subst, arith}
use mathlib.Core.List.{IsPrefix}
use Rattle.std.{proofs.lemmas.{List.append-nil, Option.{none-some, same_Some}}, specs.{List.slice_get, Option.option_map}}
use Rattle.mt_rows.specs.{Rows.Bytes, Stamps.Stamped, declared.record.TenantPair.TenantPair, declared.command.Command.Command, declared.command.Command.TheVariants.Scan, declared.reply.Reply.Reply, declared.reply.Reply.TheVariants.Pairs}
use Rattle.mt_disk.specs.Disk.{DiskState}
use Rattle.mt_runs.specs.{declared.event.Answer.Answer, Runs.{Story, owner, Finished, IsBetween}, Scans.{IsLawful, IsLawfulScan}, Placings.{Quotas, Maps, HasOneOrder, map_upto}}
use Rattle.mt_state.{specs.Views.{StateView, quota_of}, proofs.Lawful.lawful_more}
use Rattle.mt_core.specs.Restores.{IsIdle}
use Rattle.mt_history.{specs.Legal.Along, proofs.Fronts.{prefix_trans, prefix_length}}
use Rattle.mt_book.specs.{declared.shared.Clerk.Clerk, declared.calls.CallFault.CallFault, Happens.{Happening, Acted, Leads}, Periods.{Looked, Began, Took, Period, Chain}, OneRun.Through, Calls.{Asked, asked_by, Calls}, Serves.{ClerkView, Serves, clerk_of}}
use Rattle.mt_orders.{specs.{Stories.{story_along, maps_in}, Added.HappenedAt}, proofs.{Adding.added, Calling.{answered_in, calls_views, chain_front}, Preceding.shows_in_turn}}
use Rattle.mt_pages.specs.declared.walk.PageWalk.{PageWalk}
use Rattle.mt_slots.specs.{declared.store_slots.StoreSlots.StoreSlots, declared.checkpointing.Checkpointing.Checkpointing}
use Rattle.mt_stored.specs.{Checkpoints.{Scanner, Looks, Scans, Shows, AddsPages, NoPage, OnePage, WritesCheckpoint}, Digests.FileDigest}
use Rattle.mt_service.specs.{Sessions.{Within, SeesFront, acts}, CheckpointScans.{IsMadeBetween, AreMadeBetween}}

-- ---- what a scan of a walk shows

-- it is the scan of all columns of up to 64 pairs
command_is : (at : Option ℕ) (from : Bytes) (after : Bool) (tenant : ℕ) (command : Command) → option_map {U = ℕ × Command} (λ (t : ℕ). (t, Scan from after 64 [])) at ≡ Some (tenant, command)
    → command ≡ Scan from after 64 []
command_is None from after tenant command is = absurd (none-some (tenant, command) is)
command_is (Some t) from after tenant command is = sym (ap (λ (p : ℕ × Command). p.1) (same_Some (t, Scan from after 64 []) (tenant, command) is))

-- an operation whose steps are between two numbers is between them
within : (story : Story) (name first last : ℕ) → ((m : ℕ) → owner story m ≡ Some name → (first < m) × (m ≤ last)) → (m : ℕ) → IsBetween story name m → (first < m) × (m ≤ last)
within story name first last between m (since, upto) =
    let low = (between since.0 since.2).0 in
    let high = (between upto.0 upto.2).1 in
    (omega (arith, low, since.1), omega (arith, high, upto.1))

-- its page is lawful by the maps there
lawful_page : (quotas : Quotas) (maps : Maps) (story : Story) (first last name tenant : ℕ) (walk : PageWalk) (command : Command) (answer : Answer) (page : List (Bytes × Stamped))
    → story.asked name ≡ Some (record { tenant = tenant; command = command }) → Finished story name answer → ((m : ℕ) → owner story m ≡ Some name → (first < m) × (m ≤ last))
    → command ≡ Scan walk.from walk.after 64 [] → answer.reply ≡ Pairs page → (order : HasOneOrder quotas maps story)
    → IsLawful (map_upto quotas maps story order.0 tenant) (λ m. (first < m) × (m ≤ last)) walk.from walk.after 64 [] page
lawful_page quotas maps story first last name tenant walk command answer page asked finished between command_so shown order =
    let by = map_upto quotas maps story order.0 tenant in
    let Between : ℕ → Type 0 = λ m. (first < m) × (m ≤ last) in
    let own : IsLawfulScan by (IsBetween story name) command answer.reply = order.3 name answer (record { tenant = tenant; command = command }) finished asked in
    let wide = lawful_more by (IsBetween story name) Between (within story name first last between) command answer.reply own in
    let scan = subst (λ (c : Command). IsLawfulScan by Between c answer.reply) command_so wide in
    subst (λ (r : Reply). IsLawfulScan by Between (Scan walk.from walk.after 64 []) r) shown scan

module _ {L J : Type 0} (s : StateView) (log : List StateView) where
  -- what a clerk of the book does over beginnings of the history
  abbrev Acts : Clerk L J → Period → Clerk L J → Type 0
  Acts = Within (SeesFront (s ∷ log)) acts

  abbrev view : Clerk L J → ClerkView
  view c = clerk_of c.mark c.birth

  abbrev seen : Clerk L J → List StateView
  seen c = c.mark.log

  -- a call over beginnings of it is a call
  chain_of : (old : Clerk L J) (ps : List Period) (new : Clerk L J) → Chain Acts old ps new → Chain acts old ps new
  chain_of old [] new c = c
  chain_of old (p ∷ ps) new c = (c.0, c.1.0, chain_of c.0 ps new c.2)

  call_of : (old new : Clerk L J) (known : ℕ) (asked : Asked) (result : Result Answer CallFault) → Calls Acts old new known asked result → Calls Serves (view old) (view new) known asked result
  call_of old new known asked result c =
      calls_views view old new known asked result (record { periods = c.periods; chain = chain_of old c.periods new c.chain; tells = c.tells })

  -- what was seen before a scan is a beginning of what was seen after it, and so before and after all of them
  scan_front : (worker : ℕ) (old new : Scanner (Clerk L J)) (walk : PageWalk) (told : Result Answer CallFault) → Scans Acts worker old walk told new → IsPrefix (seen old.desk) (seen new.desk)
  scan_front worker old new walk told scans =
      let c = call_of old.desk new.desk old.seen (asked_by worker scans.tenant scans.command) told scans.calls in
      chain_front (view old.desk) (view new.desk) c.periods c.chain

  module _ {D : Type 0} (worker : ℕ) (is_honest : D → Bool) (state : D → DiskState) (failures : D → ℕ) where
    abbrev Adds : Scanner (Clerk L J) → PageWalk → Checkpointing D → List TenantPair → Scanner (Clerk L J) → PageWalk → Checkpointing D → Type 0
    Adds = AddsPages Acts worker is_honest state failures

    pages_front : {old new : Scanner (Clerk L J)} {start walk : PageWalk} {begun writing : Checkpointing D} {pairs : List TenantPair} → Adds old start begun pairs new walk writing
        → IsPrefix (seen old.desk) (seen new.desk)
    pages_front {old} NoPage = ([], append-nil (seen old.desk))
    pages_front {old} {new} (OnePage {at = at} adds shows more) =
        prefix_trans (seen old.desk) (seen at.desk) (seen new.desk) (pages_front adds) (scan_front worker at new _ _ shows.scans)

    module _ (run : List Happening) (idle : IsIdle s) (legal : Along Leads s log) (through : Through s log run)
        (before looked shown after : Scanner (Clerk L J)) (first last : ℕ) (first_is : Looks Acts worker before first looked) (last_is : Looks Acts worker shown last after) where
      abbrev first_period : Period
      first_period = record { steps = first; deed = Looked first_is.logs }

      abbrev last_period : Period
      last_period = record { steps = last; deed = Looked last_is.logs }

      -- where the first look and the last one happened
      begins_at : HappenedAt (Acted first_period) before.desk.mark looked.desk.mark s log
      begins_at = added (Acted first_period) before.desk.mark looked.desk.mark s log first_is.looked.0.adds first_is.looked.1

      ends_at : HappenedAt (Acted last_period) shown.desk.mark after.desk.mark s log
      ends_at = added (Acted last_period) shown.desk.mark after.desk.mark s log last_is.looked.0.adds last_is.looked.1

      whole_front : IsPrefix (seen shown.desk) (s ∷ log)
      whole_front =
          let there = view after.desk in
          prefix_trans (seen shown.desk) (seen after.desk) (s ∷ log) (chain_front (view shown.desk) there (last_period ∷ []) (there, last_is.looked.0, refl)) last_is.looked.1

      -- a scan that was asked after the first look, and answered before the last one
      scan_between : (old new : Scanner (Clerk L J)) (walk on : PageWalk) (pairs : List TenantPair) (shows : Shows Acts worker old walk pairs new on)
          → IsPrefix (seen looked.desk) (seen old.desk) → IsPrefix (seen new.desk) (seen shown.desk)
          → IsMadeBetween (quota_of s) (maps_in s) (story_along s log run) first last walk shows.scans.tenant shows.scans.command shows.answer shows.page
      scan_between old new walk on pairs shows since upto =
          let scans = shows.scans in
          let answer = shows.answer in
          let asked = asked_by worker scans.tenant scans.command in
          let calls = call_of old.desk new.desk old.seen asked (Ok answer) scans.calls in
          let front = prefix_trans (seen new.desk) (seen shown.desk) (s ∷ log) upto whole_front in
          let a = answered_in s log run idle legal through (view old.desk) (view new.desk) old.seen asked answer calls front in
          let begin : Period = record { steps = a.begins.steps; deed = Began a.begins.opening a.begins.logs (Ok a.begins.ticket) a.begins.next } in
          let take : Period = record { steps = a.takes.steps; deed = Took a.takes.id a.takes.room answer } in
          let begins = begins_at in
          let ends = ends_at in
          let low = prefix_length (seen looked.desk) (seen old.desk) since in
          let high = prefix_length (seen new.desk) (seen shown.desk) upto in
          let looked_upto = begins.upto in
          let begun_since = a.since in
          let taken_upto = a.upto in
          let looked_since = ends.since in
          let early : begins.place < a.begun = omega (arith, low, looked_upto, begun_since) in
          let late : a.taken < ends.place = omega (arith, high, taken_upto, looked_since) in
          let shows_first : first ≤ a.begins.steps = shows_in_turn log run s begins.place a.begun first_period begin through early begins.happens a.begins.happens in
          let shows_last : a.takes.steps ≤ last = shows_in_turn log run s a.taken ends.place take last_period through late a.takes.happens ends.happens in
          let between : (m : ℕ) → owner (story_along s log run) m ≡ Some a.begun → (first < m) × (m ≤ last) =
          λ m own.
          let made = a.between m own in
          let lower = made.0 in
          let upper = made.1 in
          (omega (arith, shows_first, lower), omega (arith, upper, shows_last)) in
          record {
            name = a.begun;
            asked_so = a.asked_so;
            finished = a.finished;
            between = between;
            lawful = lawful_page (quota_of s) (maps_in s) (story_along s log run) first last a.begun scans.tenant walk scans.command answer shows.page a.asked_so a.finished between
                (command_is (slice_get walk.tenants.items walk.place) walk.from walk.after scans.tenant scans.command scans.next) shows.shown;
          }

      pages_between : {new : Scanner (Clerk L J)} {start walk : PageWalk} {begun writing : Checkpointing D} {pairs : List TenantPair} (adds : Adds looked start begun pairs new walk writing)
          → IsPrefix (seen new.desk) (seen shown.desk) → AreMadeBetween (quota_of s) (maps_in s) (story_along s log run) first last adds
      pages_between NoPage upto = tt
      pages_between {new} (OnePage {at = at} adds shows more) upto =
          let here = prefix_trans (seen at.desk) (seen new.desk) (seen shown.desk) (scan_front worker at new _ _ shows.scans) upto in
          (pages_between adds here, scan_between at new _ _ _ shows (pages_front adds) upto)

    pub scans_between : (run : List Happening) → IsIdle s → Along Leads s log → Through s log run → (old new : Scanner (Clerk L J)) (tenants : List ℕ) (slots left : StoreSlots D) (digest : FileDigest)
        → (w : WritesCheckpoint Acts worker is_honest state failures old tenants slots digest new left) → AreMadeBetween (quota_of s) (maps_in s) (story_along s log run) w.first w.last w.adds.1
    scans_between run idle legal through old new tenants slots left digest w =
        pages_between run idle legal through old w.looked w.shown new w.first w.last w.begins.first_is w.last_is w.adds.1 ([], append-nil (seen w.shown.desk))
