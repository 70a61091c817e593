-- Behind a recovery each log gets its resume batch, or, where that fails, keeps it in doubt or does without.
use Rattle.std.proofs.Common.{◌≡◌, ◌⊎◌, ℕ, ◌<◌, ◌≤◌, ◌^◌, false, List, ◌∷◌, map, length, Option, Some, None, refl, sym, ap, subst, ◌∙◌, arith, inl, inr, ⊎_elim}
use Rattle.std.proofs.{lemmas.Bool.cases_lt, lemmas.Option.same_Some}
use Rattle.std.specs.Prelude.{slice_get, slice_set}
use Rattle.mt_rows.specs.declared.refusal.Refusal.{Refusal}
use Rattle.mt_disk.specs.{declared.mem.MemDisk.MemDisk, Mem.mem_state}
use Rattle.mt_log.specs.{declared.batch.LogBatch.LogBatch, declared.batch.LogBatch.TheVariants.Resume, Contents.{Contents, Rises, mark_of, with_batch}}
use Rattle.mt_crashes.specs.{Fronts.{Numbers, HoldResume}, Stores.{Store, LogNow, at_rest, Resumes}}
use Rattle.mt_crashes.proofs.{FrontLaws.{mark_more, resume_right}, Invariant.{within_place, map_place}}
use Rattle.mt_recover.specs.{declared.resuming.LogSlot.LogSlot, Resumes.FailsToResume}
use Rattle.mt_store_logs.specs.{declared.store_log.StoreLog.StoreLog, Lists.StopsAt, Places.slot_of}
use Rattle.mt_store_logs.specs.Recovers.{ResumesLog, FailsToResumeLog, ResumesAll, StopsResumingAt}
use Rattle.mt_store_logs.proofs.TurnLaws.{resumed_in_turn, not_resumed_in_turn}
use Rattle.mt_lives.specs.{Lives.IsMemoryOrDevice, Holds.{LeadsTo, IsLogDown}}
use Rattle.mt_lives.proofs.{Comes.{set_there, set_same, stays_here, one_more, then_to, and_then, to_rest}, Logged.{set_other, set_length}}
use Rattle.mt_lives.proofs.{Begun.begins_kept, Flushing.{keeps_rules, failures_of, within}, Walking.{with_logs, Walked, walk}, Leaving.AllDown, Opening.{IsLogOpen, AllOpen, open_down}}
use Rattle.mt_rows.specs.declared.refusal.Refusal.TheVariants as refusals
use Rattle.mt_lives.specs.Bases.{Whole}

-- the batch with which a recovery ends at a log, and that log with it, for certain or not
abbrev pub resume_batch : ℕ → ℕ → Contents → LogBatch
resume_batch kept to c = Resume (mark_of c) to kept

abbrev pub resumed_log : ℕ → ℕ → Contents → LogNow
resumed_log kept to c = at_rest (with_batch (resume_batch kept to c) c)

abbrev pub doubted_log : ℕ → ℕ → Contents → LogNow
doubted_log kept to c = record { had = c; doubt = Some (resume_batch kept to c) }

of_resume : (kept to : ℕ) (e : Refusal) (old new : LogSlot MemDisk) → FailsToResume keeps_rules mem_state failures_of kept to e old new → IsMemoryOrDevice e
of_resume kept to refusals.Device old new f = inr refl
of_resume kept to refusals.Memory old new f = inl refl
of_resume kept to e old new f = absurd f

-- a log at a place has its resume batch, and rests with it
record HasBatch (g : ℕ) (h : Whole) (kept to : ℕ) (new : List (StoreLog MemDisk)) (k : ℕ) (was next : LogNow) : Type 0 where
  front : Contents
  rested : was ≡ at_rest front
  rises : Rises (resume_batch kept to front)
  is : next ≡ resumed_log kept to front
  opens : (log : StoreLog MemDisk) → slice_get new k ≡ Some log → IsLogOpen g h next log

module _ (t : Store) (kept : ℕ) (before : List Numbers) (off : t.serving ≡ false) (last : t.voids ≡ (kept, t.reached) ∷ before) (fits : t.reached ≤ 2 ^ 59) where
  begins : (ls : List LogNow) (k : ℕ) (c : Contents) → slice_get ls k ≡ Some (at_rest c) → Rises (resume_batch kept t.reached c)
      → LeadsTo (with_logs ls t) (with_logs (slice_set ls k (doubted_log kept t.reached c)) t)
  begins ls k c there rises =
      let old = with_logs ls t in
      let new = with_logs (slice_set ls k (doubted_log kept t.reached c)) t in
      let r : Resumes old new = record {
        recovers = off;
        worker = k;
        had = c;
        rests = there;
        kept = kept;
        before = before;
        last = last;
        rises = rises;
        fits = fits;
        stands = refl;
      } in
      one_more old old new (stays_here old old refl) (inr (inr (inr (inr (inr (inl r))))))

  ends_with : (ls : List LogNow) (k : ℕ) (c : Contents) → slice_get ls k ≡ Some (at_rest c) → Rises (resume_batch kept t.reached c)
      → LeadsTo (with_logs ls t) (with_logs (slice_set ls k (resumed_log kept t.reached c)) t)
  ends_with ls k c there rises =
      let doubt = doubted_log kept t.reached c in
      and_then k (with_logs ls t) (at_rest c) doubt (resumed_log kept t.reached c) there (begins ls k c there rises)
      (to_rest k (with_logs (slice_set ls k doubt) t) doubt (with_batch (resume_batch kept t.reached c) c) (set_there ls k (at_rest c) doubt there)
      (inr (resume_batch kept t.reached c, refl, refl)))

  module _ (fronts : List Contents) (rest : t.logs ≡ map at_rest fronts) (g : ℕ) (h : Whole) (old new : List (StoreLog MemDisk)) (count : length t.logs ≡ length old) (len : length new ≡ length old)
      (each : AllOpen g h t old) where
    abbrev Has : ℕ → LogNow → LogNow → Type 0
    Has = HasBatch g h kept t.reached new

    goes : (ls : List LogNow) (k : ℕ) (was next : LogNow) → slice_get ls k ≡ Some was → Has k was next → LeadsTo (with_logs ls t) (with_logs (slice_set ls k next) t)
    goes ls k was next there has =
        subst (λ (n : LogNow). LeadsTo (with_logs ls t) (with_logs (slice_set ls k n) t)) (sym has.is)
        (ends_with ls k has.front (there ∙ ap Some has.rested) has.rises)

    front_at : (k : ℕ) (now : LogNow) → slice_get t.logs k ≡ Some now → (c : Contents) × (now ≡ at_rest c)
    front_at k now there =
        let c = map_place at_rest fronts k now (ap (λ ls. slice_get ls k) (sym rest) ∙ there) in
        (c.0, c.2)

    -- one log
    module _ (k : ℕ) (now : LogNow) (was is : StoreLog MemDisk) (there : slice_get t.logs k ≡ Some now) (was_there : slice_get old k ≡ Some was) where
      front : Contents
      front = (front_at k now there).0

      rests : now ≡ at_rest front
      unfolding front
      rests = (front_at k now there).1

      log_was : IsLogOpen g h (at_rest front) was
      log_was = subst (λ (n : LogNow). IsLogOpen g h n was) rests (each k now was there was_there)

      open_with : ResumesLog keeps_rules mem_state failures_of kept t.reached was is → Rises (resume_batch kept t.reached front) × IsLogOpen g h (resumed_log kept t.reached front) is
      open_with r =
          let l = log_was in
          let a = resumed_in_turn keeps_rules mem_state failures_of g front kept t.reached l.files was is l.stands l.none fits r in
          (a.1, record { files = a.0; stands = a.2; begins = begins_kept g h l.files a.0 a.3 l.begins; none = r.does.1 ∙ l.none; sure = r.doubts ∙ l.sure })

      has : slice_get new k ≡ Some is → ResumesLog keeps_rules mem_state failures_of kept t.reached was is → (next : LogNow) × Has k now next
      has is_there r =
          let a = open_with r in (
            resumed_log kept t.reached front,
            record {
              front = front;
              rested = rests;
              rises = a.0;
              is = refl;
              opens = λ log at. subst (IsLogOpen g h (resumed_log kept t.reached front)) (same_Some is log (sym is_there ∙ at)) a.1;
            },
          )

      -- what is left of a log that has its batch not for certain
      record LeftWithout : Type 0 where
        next : LogNow
        down : IsLogDown g h next is
        either : (next ≡ at_rest front) ⊎ (Rises (resume_batch kept t.reached front) × (next ≡ doubted_log kept t.reached front))

      owner_of : (next : LogNow) → (next ≡ at_rest front) ⊎ (Rises (resume_batch kept t.reached front) × (next ≡ doubted_log kept t.reached front)) → next.had ≡ front
      owner_of next (inl same) = ap (λ (n : LogNow). n.had) same
      owner_of next (inr doubt) = ap (λ (n : LogNow). n.had) doubt.1

      without : (e : Refusal) → FailsToResumeLog keeps_rules mem_state failures_of kept t.reached e was is → LeftWithout
      without e f =
          let l = log_was in
          let a = not_resumed_in_turn keeps_rules mem_state failures_of g front kept t.reached e l.files was is l.stands fits f in
          let had = owner_of a.0 a.5 in
          let owner = l.stands.owner in
          record {
            next = a.0;
            down = record {
              files = a.1;
              turn = a.2;
              shows = a.3;
              begins = begins_kept g h l.files a.1 a.4 l.begins;
              owner = (
                ap (λ x. x.owner.worker) f.rest ∙ owner.0 ∙ sym (ap (λ (c : Contents). c.worker) had),
                ap (λ x. x.owner.logs) f.rest ∙ owner.1 ∙ sym (ap (λ (c : Contents). c.logs) had),
              );
            };
            either = a.5;
          }

    -- ---- all of them

    pub record ResumedAll : Type 0 where
      pub logs : List LogNow
      pub leads : LeadsTo t (with_logs logs t)
      pub len_so : length logs ≡ length t.logs
      pub rest_so : (k : ℕ) (now : LogNow) → slice_get logs k ≡ Some now → now ≡ at_rest now.had
      pub marks : (k : ℕ) (now : LogNow) → slice_get logs k ≡ Some now → mark_of now.had ≡ t.reached
      pub held : (k : ℕ) (now : LogNow) → slice_get logs k ≡ Some now → HoldResume t.reached now.had.batches
      pub opens : AllOpen g h (with_logs logs t) new

    resumed_by : (logs : List LogNow) → Walked t Has goes (length t.logs) t.logs logs → ResumedAll
    resumed_by logs w =
        let there : (k : ℕ) (now : LogNow) → slice_get logs k ≡ Some now → (was : LogNow) × Has k was now = λ k now at.
        let below : k < length t.logs = subst (λ n. k < n) w.len (within logs k now at) in
        let was = within_place t.logs k below in
        let e = w.each k was.0 below was.1 in
        (was.0, subst (λ (n : LogNow). Has k was.0 n) (same_Some e.0 now (sym e.1 ∙ at)) e.2) in
        record {
          logs = logs;
          leads = w.leads;
          len_so = w.len;
          rest_so = λ k now at. let b = (there k now at).1 in b.is ∙ ap at_rest (ap (λ (n : LogNow). n.had) (sym b.is));
          marks = λ k now at.
              let b = (there k now at).1 in
              ap (λ (n : LogNow). mark_of n.had) b.is ∙ mark_more (resume_batch kept t.reached b.front) b.front;
          held = λ k now at.
              let b = (there k now at).1 in
              subst (λ (n : LogNow). HoldResume t.reached n.had.batches) (sym b.is)
              (resume_right t.reached (resume_batch kept t.reached b.front) b.front.batches refl);
          opens = λ k now log at at_log. (there k now at).1.opens log at_log;
        }

    pub all_resumed : ResumesAll keeps_rules mem_state failures_of kept t.reached old new → ResumedAll
    all_resumed all =
        let w = walk t Has goes (length t.logs) t.logs (omega arith) (λ k now lt there.
        let below : k < length old = subst (λ n. k < n) count lt in
        let was = within_place old k below in
        let is = within_place new k (subst (λ n. k < n) (sym len) below) in
        has k now was.0 is.0 there was.1 is.1 (all.each k was.0 is.0 below was.1 is.1)) in
        resumed_by w.0 w.1

    -- ---- some of them

    pub record ResumedInPart (e : Refusal) : Type 0 where
      pub logs : List LogNow
      pub leads : LeadsTo t (with_logs logs t)
      pub len_so : length logs ≡ length t.logs
      pub downs : AllDown g h (with_logs logs t) new
      pub cause : IsMemoryOrDevice e

    module _ (e : Refusal) (place : ℕ)
        (stops : StopsAt (λ k was is. ResumesLog keeps_rules mem_state failures_of kept t.reached was is) (FailsToResumeLog keeps_rules mem_state failures_of kept t.reached e) place old new) where
      place_within : place < length t.logs
      place_within = subst (λ n. place < n) (sym count) (within old place stops.was stops.was_there)

      here : (now : LogNow) × (slice_get t.logs place ≡ Some now)
      here = within_place t.logs place place_within

      left : LeftWithout place here.0 stops.was stops.is here.1 stops.was_there
      left = without place here.0 stops.was stops.is here.1 stops.was_there e stops.fails

      stopped : (logs : List LogNow) → slice_get logs place ≡ Some here.0 → LeadsTo (with_logs logs t) (with_logs (slice_set logs place left.next) t)
      stopped logs there =
          let c = front place here.0 stops.was stops.is here.1 stops.was_there in
          let rested = rests place here.0 stops.was stops.is here.1 stops.was_there in
          ⊎_elim
          (λ same.
          stays_here (with_logs logs t) (with_logs (slice_set logs place left.next) t)
          (ap (λ (n : LogNow). with_logs (slice_set logs place n) t) (same ∙ sym rested) ∙ ap (λ ls. with_logs ls t) (set_same logs place here.0 there)))
          (λ doubt. subst (λ (n : LogNow). LeadsTo (with_logs logs t) (with_logs (slice_set logs place n) t)) (sym doubt.1)
          (begins logs place c (there ∙ ap Some rested) doubt.0))
          left.either

      downs_by : (logs : List LogNow) → Walked t Has goes place t.logs logs → slice_get logs place ≡ Some here.0 → (k : ℕ) (now : LogNow) (log : StoreLog MemDisk)
          → slice_get (slice_set logs place left.next) k ≡ Some now → slice_get new k ≡ Some log → IsLogDown g h now log
      downs_by logs w there k now log at_now at_log = ⊎_elim
          (λ earlier.
          let was = within_place t.logs k (omega (arith, earlier, place_within)) in
          let x = w.each k was.0 earlier was.1 in
          let now_is : x.0 ≡ now = same_Some x.0 now (sym x.1 ∙ sym (set_other logs place k left.next (λ same. omega (arith, same, earlier))) ∙ at_now) in
          subst (λ (n : LogNow). IsLogDown g h n log) now_is (open_down g h x.0 log (x.2.opens log at_log)))
          (λ from. ⊎_elim
          (λ behind.
          open_down g h now log (each k now log
          (sym (w.behind k from) ∙ sym (set_other logs place k left.next (λ same. omega (arith, same, behind))) ∙ at_now)
          (sym (stops.behind k behind) ∙ at_log)))
          (λ upto.
          let same : k ≡ place = omega (arith, from, upto) in
          let now_is : left.next ≡ now = same_Some left.next now (sym (set_there logs place here.0 left.next there) ∙ subst (λ j. slice_get (slice_set logs place left.next) j ≡ Some now) same at_now) in
          let log_is : stops.is ≡ log = same_Some stops.is log (sym stops.is_there ∙ subst (λ j. slice_get new j ≡ Some log) same at_log) in
          subst (λ (n : LogNow). IsLogDown g h n log) now_is (subst (IsLogDown g h left.next) log_is left.down))
          (cases_lt place k))
          (cases_lt k place)

      stopped_by : (logs : List LogNow) → Walked t Has goes place t.logs logs → ResumedInPart e
      stopped_by logs w =
          let there : slice_get logs place ≡ Some here.0 = w.behind place (omega arith) ∙ here.1 in
          let last = slice_set logs place left.next in
          record {
            logs = last;
            leads = then_to t (with_logs logs t) (with_logs last t) w.leads (stopped logs there);
            len_so = set_length logs place left.next ∙ w.len;
            downs = downs_by logs w there;
            cause = of_resume kept t.reached e (slot_of stops.was) (slot_of stops.is) stops.fails.does.0;
          }

      pub resumed_before : ResumedInPart e
      resumed_before =
          let w = walk t Has goes place t.logs (omega (arith, place_within)) (λ k now lt there.
          let below : k < length old = subst (λ n. k < n) count (omega (arith, lt, place_within)) in
          let was = within_place old k below in
          let is = within_place new k (subst (λ n. k < n) (sym len) below) in
          has k now was.0 is.0 there was.1 is.1 (stops.before k was.0 is.0 lt was.1 is.1)) in
          stopped_by w.0 w.1

    pub resumed_in_part : (at : Option ℕ) (e : Refusal) → StopsResumingAt keeps_rules mem_state failures_of kept t.reached at e old new → ResumedInPart e
    resumed_in_part None e stops = absurd stops
    resumed_in_part (Some place) e stops = resumed_before e place stops
