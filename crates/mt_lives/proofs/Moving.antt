-- A step whose answer waits to be taken, and a take, at a store that serves a life.
use Rattle.std.proofs.{Common.{◌≡◌, ℕ, List, Option, Some, refl, sym, ap, subst, ◌∙◌, inl, inr}, lemmas.Bool.cases_eq}
use Rattle.std.specs.{Ordering.nat_cmp, BTreeMap.{BTreeMap, get, Updates}}
use Rattle.mt_rows.specs.Accounts.{Accounts}
use Rattle.mt_disk.specs.declared.mem.MemDisk.{MemDisk}
use Rattle.mt_runs.specs.{declared.event.Event.TheVariants.Step, declared.event.Told.{Told as Answered}, declared.event.Told.TheVariants.Done}
use Rattle.mt_state.specs.{Views.StateView, Histories.{Names, AreById, TellsEvent}}
use Rattle.mt_core.{specs.{declared.answers.Ticket.Ticket, Tickets.named}, proofs.EventNames.{id_in, other_key, by_id_taken}}
use Rattle.mt_store_logs.specs.declared.store_log.StoreLog.{StoreLog}
use Rattle.mt_lives.specs.{declared.live_slots.LiveSlots.LiveSlots, declared.serving.Serving.Serving, Serving.{TellsServing, Moves, TakesBy, DoesServing}}
use Rattle.mt_lives.specs.{declared.events.StoreEvent.TheVariants.{Move, Take}, declared.events.StoreNote.StoreNote, declared.events.StoreNote.TheVariants.{Told, Finished, Took, NoSuch}}
use Rattle.mt_lives.specs.{Lives.{Life, Standing, with_event, living}, Holds.{Serves, Holds}}
use Rattle.mt_lives.proofs.{Cores.{waiting, finished, taken, told_so}, Told.{few_logs, lives_by, lives_on, slots_on}, Noting.{life_served, lives_so, held}, Goes.Goes, Tidying.serves_again}
use mathlib.Core.Path.{fun_ext}

-- ---- names

-- what stays at a name stays at all
pub names_stay : (old new : BTreeMap ℕ (Option Ticket)) (op : ℕ) (w : Option (Option Ticket)) → Updates nat_cmp old new op w → get nat_cmp old op ≡ w → named new ≡ named old
names_stay old new op w u is = fun_ext (λ q. elim (cases_eq q op) [
  | inl same ↦ ap id_in (ap (get nat_cmp new) same ∙ u.1 ∙ sym is ∙ ap (get nat_cmp old) (sym same))
  | inr ne ↦ ap id_in (u.2 q (other_key op q ne))
])

pub taken_by_id : (ids : BTreeMap ℕ ℕ) (names now : Names) (old new : StateView) (op : ℕ) (note : StoreNote) → AreById ids names → TakesBy names old now new op note → AreById ids now
taken_by_id ids names now old new op (Took answer) by_id t = by_id_taken ids names now op by_id t.2
taken_by_id ids names now old new op NoSuch by_id t = subst (AreById ids) (sym t.1) by_id
taken_by_id ids names now old new op note by_id t = absurd t

-- ---- events

-- a step that is not the last one is answered as any
told_moved : (names : Names) (old new : StateView) (op : ℕ) (told : Answered) → Moves names old new op (Told told) → TellsEvent names old names new (Step op) told
told_moved names old new op (Done answer) m = absurd m
told_moved names old new op told m = m

module _ (accounts : Accounts) (slots : LiveSlots) (standing : Standing) (logs : List (StoreLog MemDisk)) (serving : Serving) (h : Holds accounts slots standing logs (Some serving)) (now : Serving)
    (op : ℕ) where
  abbrev life : Life
  life = life_served accounts slots standing logs serving h

  abbrev names : Names
  names = named serving.roster.tickets

  abbrev serves : Serves accounts life h.s serving.state names
  serves = (held accounts slots standing logs serving h).serves

  pub moves : (note : StoreNote) → DoesServing serving now (Move op) note → Goes accounts slots standing logs serving h (Move op) note logs now
  moves (Told told) d =
      let tells : TellsServing serving now (Step op) told = record {
        tells = subst (λ (w : Names). TellsEvent names serving.state w now.state (Step op) told) (sym d.does.0) (told_moved names serving.state now.state op told d.does.1);
        by_id = d.by_id;
        right = d.right;
        settles = d.settles;
        generation = d.generation;
      } in
      let on = lives_on accounts slots standing logs serving h now (Step op) told tells tt in (
        living (with_event life (Step op) told) standing,
        (life, lives_so accounts slots standing logs serving h, on.order, refl),
        on.holds slots standing.check on.turning (slots_on accounts slots standing logs serving h now (Step op) told on),
      )
  moves Finished d =
      let some = few_logs accounts slots standing logs serving h in
      let answer = waiting accounts life h.s serving.state names serves h.keeps some op d.does.1.0 now.state d.does.1.1 d.does.1.2 d.right in
      let grown = finished accounts life h.s serving.state names serves h.keeps some op d.does.1.0 now.state d.does.1.1 d.does.1.2 d.right in
      let on =
      lives_by accounts slots standing logs serving h now (Step op) (Done answer)
      (subst (λ (w : Names). Rattle.mt_lives.proofs.Cores.Grown accounts life h.s serving.state names serves h.keeps some (with_event life (Step op) (Done answer)) now.state w) (sym d.does.0) grown)
      d.by_id d.settles d.generation in (
        living (with_event life (Step op) (Done answer)) standing,
        (life, answer, lives_so accounts slots standing logs serving h, on.order, refl),
        on.holds slots standing.check on.turning (slots_on accounts slots standing logs serving h now (Step op) (Done answer) on),
      )
  moves note d = absurd d.does.1

  pub takes : (note : StoreNote) → DoesServing serving now (Take op) note → Goes accounts slots standing logs serving h (Take op) note logs now
  takes (Took answer) d =
      let some = few_logs accounts slots standing logs serving h in
      let n = d.does.0 in
      let t = d.does.3 in
      let g = taken accounts life h.s serving.state names serves h.keeps some op n answer now.state (named now.roster.tickets) d.does.1 t d.does.2 d.right in (
        standing,
        (
          life,
          lives_so accounts slots standing logs serving h,
          told_so accounts life h.s serving.state names serves h.keeps some op n answer now.state (named now.roster.tickets) d.does.1 t d.does.2 d.right,
          refl,
        ),
        serves_again accounts slots standing logs serving h now g d.by_id (ap (λ (v : StateView). v.logs) t.gone) d.settles d.generation,
      )
  takes NoSuch d = (
    standing,
    refl,
    serves_again accounts slots standing logs serving h now
        (subst (λ v. Serves accounts life h.s v (named now.roster.tickets)) (sym d.does.2) (subst (λ (w : Names). Serves accounts life h.s serving.state w) (sym d.does.1) serves))
        d.by_id (ap (λ (v : StateView). v.logs) d.does.2) d.settles d.generation,
  )
  takes note d = absurd d.does
