-- A tidying of a store that serves a life: the life, the logs and what was settled are as they were.
use Rattle.std.proofs.Common.{◌≡◌, ◌≤◌, List, ◌++◌, map, length, Some, Result, refl, sym, ap, subst, ◌∙◌, arith}
use Rattle.std.proofs.lemmas.{List.{append_assoc, map-append}, List.Elements.{All-append, All-map, All-weaker}}
use Rattle.mt_rows.specs.Accounts.{Accounts}
use Rattle.mt_disk.specs.declared.mem.MemDisk.{MemDisk}
use Rattle.mt_tape.specs.{declared.entry.Entry.Entry, Histories.contents_at}
use Rattle.mt_state.specs.{Views.{StateView, contents_of, op_at, granted}, Histories.{Names, AreById}}
use Rattle.mt_core.specs.{Tidies.Tidies, Rights.IsRightState, Tickets.named}
use Rattle.mt_crashes.specs.{Histories.Placed, Stores.Store}
use Rattle.mt_store_logs.specs.declared.store_log.StoreLog.{StoreLog}
use Rattle.mt_lives.specs.{declared.live_slots.LiveSlots.LiveSlots, declared.serving.Serving.Serving, Serving.TidiesServing}
use Rattle.mt_lives.specs.{declared.events.StoreEvent.TheVariants.Tidy, declared.events.StoreNote.TheVariants.Tidied, Lives.{Life, Past, Standing, firsts, story_in}}
use Rattle.mt_lives.specs.{Earlier.{earlier_entries, untidied}, Remembers.Remembers, Holds.{quotas_of, placed_of, AreSettles, Serves, HoldsServing, HoldsNow, Holds}}
use Rattle.mt_lives.proofs.{Tapes.{parted, earlier_upto}, Served.pairs_at, Logged.EachAt, Noting.{life_served, lives_so, held}, Goes.Goes}

module _ (accounts : Accounts) (life : Life) (s : Store) (v : StateView) (names : Names) (h : Serves accounts life s v names) (new : StateView) (t : Tidies v new) (right : IsRightState new) where
  -- what the tidying gave up
  abbrev given : List Entry
  given = earlier_entries new.tape.floor v.tape.entries

  -- it is before what the tape holds now
  entries_same : given ++ new.tape.entries ≡ v.tape.entries
  entries_same = ap (λ es. given ++ es) t.leaves.entries ∙ parted v.tape.floor new.tape.floor v.tape.entries h.right.tape.rises

  whole_entries : (h.gone ++ given) ++ new.tape.entries ≡ h.gone ++ v.tape.entries
  whole_entries = append_assoc h.gone given new.tape.entries ∙ ap (λ es. h.gone ++ es) entries_same

  -- so with all that was given up the state is what it was
  same : untidied (h.gone ++ given) life.base new ≡ untidied h.gone life.base v
  same = λ i. record {
    steps = t.leaves.steps i;
    answers = t.leaves.answers i;
    logs = t.leaves.logs i;
    accounts = t.leaves.accounts i;
    arena = t.leaves.arena i;
    tape = record { entries = whole_entries i; floor = life.base; reserved = t.leaves.reserved i };
    table = t.leaves.table i;
  }

  serves_tidied : Serves accounts life s new names
  serves_tidied = record {
    serving = h.serving;
    steps = t.leaves.steps ∙ h.steps;
    logs = ap length t.leaves.logs ∙ h.logs;
    gone = h.gone ++ given;
    history = subst (λ (w : StateView). Remembers (quotas_of accounts) (firsts life) (story_in life) names w) (sym same) h.history;
    tenants = λ tenant. ap (λ (w : StateView). granted w tenant) same ∙ h.tenants tenant;
    right = right;
    floor = omega (arith, h.floor, t.leaves.rises);
    given_up =
        All-append (λ (e : Entry). e.step ≤ new.tape.floor) h.gone given
        (All-weaker (λ (e : Entry). e.step ≤ v.tape.floor) (λ (e : Entry). e.step ≤ new.tape.floor) (λ e le. omega (arith, le, t.leaves.rises)) h.gone h.given_up)
        (earlier_upto new.tape.floor v.tape.entries);
    workers = λ n op there. h.workers n op (ap (λ table. op_at table n) (sym t.leaves.table) ∙ there);
    starts = λ n op there. h.starts n op (ap (λ table. op_at table n) (sym t.leaves.table) ∙ there);
    before = h.before ++ map placed_of given;
    ended =
        All-append (λ (p : Placed). p.change.stamp ≤ new.tape.floor) h.before (map placed_of given)
        (All-weaker (λ (p : Placed). p.change.stamp ≤ v.tape.floor) (λ (p : Placed). p.change.stamp ≤ new.tape.floor) (λ p le. omega (arith, le, t.leaves.rises)) h.before h.ended)
        (All-map (λ (p : Placed). p.change.stamp ≤ new.tape.floor) placed_of given (earlier_upto new.tape.floor v.tape.entries));
    holds =
        h.holds
        ∙ ap (λ es. h.before ++ map placed_of es) (sym entries_same)
        ∙ ap (λ ps. h.before ++ ps) (map-append placed_of given new.tape.entries)
        ∙ sym (append_assoc h.before (map placed_of given) (map placed_of new.tape.entries));
    pairs = λ cutoff from le. pairs_at accounts life s v names h cutoff from ∙ ap (λ (w : StateView). contents_at w.tape.entries (contents_of w) cutoff) (sym same);
    reach = h.reach;
  }

-- where what serves is another, and the life goes on at the same store, all of it holds again with the same standing
pub serves_again : (accounts : Accounts) (slots : LiveSlots) (standing : Standing) (logs : List (StoreLog MemDisk)) (serving : Serving) (h : Holds accounts slots standing logs (Some serving))
    (now : Serving) → Serves accounts (life_served accounts slots standing logs serving h) h.s now.state (named now.roster.tickets) → AreById now.roster.names (named now.roster.tickets)
    → now.state.logs ≡ serving.state.logs → now.settles ≡ serving.settles → now.generation ≡ serving.generation → Holds accounts slots standing logs (Some now)
serves_again accounts slots standing logs serving h now serves by_id given settles generation =
    let life = life_served accounts slots standing logs serving h in
    let was = held accounts slots standing logs serving h in
    let holds_now : HoldsServing h.from h.turning accounts standing.begun life h.s logs now = record {
      serves = serves;
      by_id = by_id;
      each = subst (λ ls. EachAt h.from h.turning h.s ls logs) (sym given) was.each;
      turns_to = generation ∙ was.turns_to;
      settles = subst (AreSettles h.s standing.begun) (sym settles) was.settles;
    } in
    record {
      s = h.s;
      from = h.from;
      turning = h.turning;
      some = h.some;
      few = h.few;
      come = h.come;
      count = h.count;
      stand = h.stand;
      base = h.base;
      settled = h.settled;
      keeps = h.keeps;
      now = subst (λ (n : Result Life Past). HoldsNow h.from h.turning accounts standing.begun n h.s logs (Some now)) (sym (lives_so accounts slots standing logs serving h)) holds_now;
    }

-- so a tidying changes nothing of it
pub tidied : (accounts : Accounts) (slots : LiveSlots) (standing : Standing) (logs : List (StoreLog MemDisk)) (serving : Serving) (h : Holds accounts slots standing logs (Some serving))
    (now : Serving) → TidiesServing serving now → Goes accounts slots standing logs serving h Tidy Tidied logs now
tidied accounts slots standing logs serving h now t =
    let life = life_served accounts slots standing logs serving h in
    let was = held accounts slots standing logs serving h in
    let names = named serving.roster.tickets in (
      standing,
      ((life, lives_so accounts slots standing logs serving h), refl),
      serves_again accounts slots standing logs serving h now
          (subst (λ r. Serves accounts life h.s now.state (named r.tickets)) (sym t.roster) (serves_tidied accounts life h.s serving.state names was.serves now.state t.state t.right))
          (subst (λ r. AreById r.names (named r.tickets)) (sym t.roster) was.by_id) t.state.leaves.logs t.settles t.generation,
    )
