-- The sessions of a table: the turn of one of its connections, and what leaves the others as they are.
use Rattle.std.proofs.Common.{◌≡◌, ℕ, Option, Some, inl, inr, sym, ap, subst, ◌∙◌}
use Rattle.std.proofs.lemmas.Bool.{cases_eq}
use Rattle.slab.specs.Slab.{get, Updates}
use Rattle.mt_rows.specs.Rows.{Bytes}
use Rattle.mt_caller.specs.Exchanges.{CallerRelation}
use Rattle.mt_loop.specs.{Connections.{IsSession, IsFresh, IsNext, ending_of}, Deeds.{Led, Resumed, SharedExchanges}, Tables.{Beginning, HasSession, HaveSessions, AreAmong, IsDone}}
use Rattle.mt_loop.specs.declared.{sharing.Shared.Shared, table.Entry.Entry, table.Table.Table, connection.Connection.Connection, connection.Next.TheVariants.{Wait, Again}}
use Rattle.mt_loop.proofs.Deeds.{led_none, led_then, led_resumed, resumed_none, resumed_then, session_resumed, fresh_session}

-- a connection that is to wait, or to have another turn, is not done
pub waits_on : {T : Type 0} (entry : Entry T) → IsNext Wait entry.connection → IsDone entry → ⊥
waits_on entry (inl unsent) (ended, sent) = unsent sent
waits_on entry (inr waits) (ended, sent) = ended (ap ending_of waits)

pub goes_again : {T : Type 0} (entry : Entry T) → IsNext Again entry.connection → IsDone entry → ⊥
goes_again entry (goes, sent, other) (ended, all) = ended goes

module _ {C T : Type 0} (exchanges : CallerRelation C) (resumes : C → C → Type 0) (opened : C → Option ℕ) (remaining contents : T → Option Bytes) where
  -- a connection has its turn: its session resumes, and goes on
  pub turned : (beginning : Beginning C) (old new : Entry T) (stream : T) (connection : Connection) (tenant : Option ℕ) (now : C) (mid after : Shared C)
      → new.stream ≡ stream → new.connection ≡ connection → new.opened ≡ tenant → resumes now mid.caller → opened mid.caller ≡ old.opened
      → ((before held : Option Bytes) (start : Shared C)
      → IsSession (SharedExchanges exchanges resumes opened) before (remaining old.stream) held (contents old.stream) start old.connection mid
      → IsSession (SharedExchanges exchanges resumes opened) before (remaining stream) held (contents stream) start connection after)
      → tenant ≡ opened after.caller → HasSession exchanges resumes opened remaining contents beginning old now
      → HasSession exchanges resumes opened remaining contents beginning new after.caller
  turned beginning old new stream connection tenant now mid after es ec et r o goes left has =
      let again : Resumed exchanges resumes opened has.last.caller mid.caller = (led_then exchanges resumes has.last.caller now mid.caller has.led (led_resumed exchanges resumes now mid.caller r), o ∙ has.left) in
      let (begin, b, session) = session_resumed exchanges resumes opened beginning.had (remaining old.stream) beginning.held (contents old.stream) has.start has.last mid old.connection has.session again in
      record {
        start = begin;
        last = after;
        begun = resumed_then exchanges resumes opened beginning.caller has.start.caller begin.caller has.begun b;
        session = rw (es, ec) (goes beginning.had beginning.held begin session);
        left = et ∙ left;
        led = led_none exchanges resumes after.caller;
      }

  -- a connection begins
  pub begun : (entry : Entry T) (now : Shared C) → IsFresh entry.connection → entry.opened ≡ opened now.caller
      → HasSession exchanges resumes opened remaining contents (record { had = remaining entry.stream; held = contents entry.stream; caller = now.caller }) entry now.caller
  begun entry now fresh left = record {
    start = now;
    last = now;
    begun = resumed_none exchanges resumes opened now.caller;
    session = fresh_session (SharedExchanges exchanges resumes opened) (remaining entry.stream) (contents entry.stream) now entry.connection fresh;
    left = left;
    led = led_none exchanges resumes now.caller;
  }

  -- others have their turns
  pub led_on : (beginning : Beginning C) (entry : Entry T) (now later : C) → HasSession exchanges resumes opened remaining contents beginning entry now → Led exchanges resumes now later
      → HasSession exchanges resumes opened remaining contents beginning entry later
  led_on beginning entry now later has l = record { start = has.start; last = has.last; begun = has.begun; session = has.session; left = has.left; led = led_then exchanges resumes has.last.caller now later has.led l }

  -- only whether connections are queued changes, and which there still are
  pub among : (beginnings : ℕ → Beginning C) (old new : Table T) (now : C) → AreAmong old new
      → HaveSessions exchanges resumes opened remaining contents beginnings old now → HaveSessions exchanges resumes opened remaining contents beginnings new now
  among beginnings old new now still have key entry found =
      let (was, e) = still key entry found in
      let has = have key (record entry { is_queued = was }) e in
      record { start = has.start; last = has.last; begun = has.begun; session = has.session; left = has.left; led = has.led }

  -- one connection has its turn
  pub one_turned : (beginnings : ℕ → Beginning C) (old new : Table T) (key : ℕ) (was is : Entry T) (now later : C)
      → get old.entries key ≡ Some was → Updates old.entries new.entries key (Some is) → Led exchanges resumes now later
      → (HasSession exchanges resumes opened remaining contents (beginnings key) was now → HasSession exchanges resumes opened remaining contents (beginnings key) is later)
      → HaveSessions exchanges resumes opened remaining contents beginnings old now → HaveSessions exchanges resumes opened remaining contents beginnings new later
  one_turned beginnings old new key was is now later found updates l goes have other entry at =
      elim (cases_eq other key) [
        | inl same ↦
            let e : Some is ≡ Some entry = sym updates.changed ∙ ap (get new.entries) (sym same) ∙ at in
            let i : is ≡ entry = cc in
            subst (λ (x : ℕ). HasSession exchanges resumes opened remaining contents (beginnings x) entry later) (sym same) (subst (λ (x : Entry T). HasSession exchanges resumes opened remaining contents (beginnings key) x later) i (goes (have key was found)))
        | inr differs ↦ led_on (beginnings other) entry now later (have other entry (sym (updates.others other differs) ∙ at)) l
      ]
