-- What flushes and reopenings make of all that holds of a store, and what may be noted of them.
use Rattle.std.proofs.Common.{◌≡◌, ◌≢◌, ℕ, ◌<◌, ◌≤◌, List, length, Option, Some, Result, Ok, Err, refl, sym, subst, ◌∙◌, arith}
use Rattle.std.specs.Prelude.{slice_get, slice_set}
use Rattle.mt_rows.specs.Accounts.{Accounts}
use Rattle.mt_disk.specs.declared.mem.MemDisk.{MemDisk}
use Rattle.mt_lives.specs.declared.live_slots.LiveSlots.{LiveSlots}
use Rattle.mt_state.specs.Histories.{AreById}
use Rattle.mt_core.specs.Tickets.{named}
use Rattle.mt_crashes.{specs.Stores.{Store, LogNow}, proofs.Invariant.within_place}
use Rattle.mt_store_logs.specs.declared.store_log.StoreLog.{StoreLog}
use Rattle.mt_lives.specs.{declared.serving.Serving.Serving, Lives.{Life, Past, Standing}}
use Rattle.mt_lives.specs.Holds.{IsLogAt, Serves, AreSettles, HoldsServing, HoldsNow, HasCome, Holds}
use Rattle.mt_lives.proofs.{Bases.{is_come, stands_stay}, Comes.{with_log, set_there, comes_on}}
use Rattle.mt_lives.proofs.Logged.{set_length, all_on, settles_on, serves_logged, each_logged}
use Rattle.mt_lives.proofs.Flushing.{within, Moves}
use Rattle.mt_lives.specs.Turning.{Turning, part_of}

-- who serves, serves a life
pub serving_life : (from : ℕ) (turning : Turning) (accounts : Accounts) (begun : ℕ → Option ℕ) (now : Result Life Past) (s : Store) (logs : List (StoreLog MemDisk)) (serving : Serving)
    → HoldsNow from turning accounts begun now s logs (Some serving) → (life : Life) × (now ≡ Ok life)
serving_life from turning accounts begun (Ok life) s logs serving h = (life, refl)
serving_life from turning accounts begun (Err past) s logs serving h = absurd h

module _ (accounts : Accounts) (slots : LiveSlots) (standing : Standing) (logs : List (StoreLog MemDisk)) (serving : Serving) (h : Holds accounts slots standing logs (Some serving)) where
  pub life_served : Life
  life_served = (serving_life h.from h.turning accounts standing.begun standing.now h.s logs serving h.now).0

  pub lives_so : standing.now ≡ Ok life_served
  unfolding life_served
  lives_so = (serving_life h.from h.turning accounts standing.begun standing.now h.s logs serving h.now).1

  pub held : HoldsServing h.from h.turning accounts standing.begun life_served h.s logs serving
  held = subst (λ (n : Result Life Past). HoldsNow h.from h.turning accounts standing.begun n h.s logs (Some serving)) lives_so h.now

  -- all of it holds again
  pub record HoldsAgain (now_logs : List (StoreLog MemDisk)) (now_serving : Serving) (P : Store → Type 0) : Type 0 where
    pub again : Holds accounts slots standing now_logs (Some now_serving)
    pub so : P again.s

  module _ (worker : ℕ) (log new : StoreLog MemDisk) (here : slice_get logs worker ≡ Some log) where
    pub found : (now : LogNow) × (slice_get h.s.logs worker ≡ Some now)
    found = within_place h.s.logs worker (subst (λ n. worker < n) (sym h.count) (within logs worker log here))

    pub at : IsLogAt h.from (part_of h.turning worker) h.s serving.state.logs worker found.0 log
    at = held.each worker found.0 log found.1 here

    pub moved : (now_serving : Serving) (m : Moves h.from (part_of h.turning worker) h.s now_serving.state.logs worker new)
        → Serves accounts life_served h.s now_serving.state (named now_serving.roster.tickets)
        → now_serving.roster ≡ serving.roster → now_serving.settles ≡ serving.settles → now_serving.generation ≡ serving.generation
        → ((k : ℕ) → k ≢ worker → slice_get now_serving.state.logs k ≡ slice_get serving.state.logs k)
        → HoldsAgain (slice_set logs worker new) now_serving (λ s. slice_get s.logs worker ≡ Some m.next)
    moved now_serving m serves roster settles generation others =
        let t = with_log worker m.next h.s in
        let count = length logs in
        let len : length (slice_set logs worker new) ≡ length logs = set_length logs worker new in
        let holds_now : HoldsServing h.from h.turning accounts standing.begun life_served t (slice_set logs worker new) now_serving = record {
          serves = serves_logged accounts life_served h.s now_serving.state (named now_serving.roster.tickets) serves count worker m.next h.some h.few h.come m.goes;
          by_id = subst (λ r. AreById r.names (named r.tickets)) (sym roster) held.by_id;
          each = each_logged h.from h.turning h.s logs serving.state.logs now_serving.state.logs worker found.0 m.next log new found.1 here m.at others held.each;
          turns_to = generation ∙ held.turns_to;
          settles = subst (AreSettles t standing.begun) (sym settles)
              (settles_on count h.s t h.some h.few h.come m.goes (omega arith) (set_length h.s.logs worker m.next) standing.begun serving.settles held.settles);
        } in
        record {
          again = record {
            s = t;
            from = h.from;
            turning = h.turning;
            some = subst (λ n. 0 < n) (sym len) h.some;
            few = subst (λ n. n ≤ 64) (sym len) h.few;
            come = subst (λ n. HasCome n t) (sym len) (comes_on count h.s t h.come m.goes);
            count = set_length h.s.logs worker m.next ∙ h.count ∙ sym len;
            stand = h.stand;
            base =
                stands_stay standing.now h.from h.turning slots h.s t (is_come count h.s h.some h.few h.come) m.goes refl refl refl (set_length h.s.logs worker m.next) (omega arith)
                h.base;
            settled = all_on count standing.settled h.s t h.some h.few h.come m.goes h.settled;
            keeps = h.keeps;
            now = subst (λ (n : Result Life Past). HoldsNow h.from h.turning accounts standing.begun n t (slice_set logs worker new) (Some now_serving)) (sym lives_so) holds_now;
          };
          so = set_there h.s.logs worker found.0 m.next found.1;
        }
