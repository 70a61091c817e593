-- The last log of each worker is open, and ends where the worker's chain does.
use Rattle.std.proofs.Common.{◌≡◌, ◌⊎◌, inl, inr, ⊎_elim, ℕ, zero, suc, ◌+◌, ◌<◌, ◌≤◌, ◌==◌, ◌%◌, Bool, true, false, IsTrue, cond, List, [], ◌∷◌, ◌++◌, length, map, refl, sym, ◌∙◌, ap, subst, arith, Option, Some, None}
use Rattle.std.proofs.lemmas.{Bool.{eqb-true, ne_eqb, cases_eq, cond-false}, List.length-map, Option.same_Some}
use Rattle.std.specs.{Prelude.slice_get, Option.option_map}
use Rattle.mt_disk.specs.Disk.{DiskState}
use Rattle.mt_log_generations.specs.{declared.header.{Parity.Parity, Parity.TheVariants.{Even, Odd}}, Headers.parity_of}
use Rattle.mt_log.specs.{declared.batch.Front.Front, declared.log_file.LogFile.LogFile, Contents.{Contents, mark_of, end_of, contents_of}, Fronts.IsOfKind, Logs.IsLogOf}
use Rattle.mt_crashes.{specs.{Bases.Slots}, proofs.{Members.{no_some, place_in}, Invariant.{zip_right, within_place, map_place, place_map}}}
use Rattle.mt_generations.specs.{Chains.Chain, Standings.{Standing, joined, chain_from, StartFalls}}
use Rattle.mt_generations.proofs.Parts.{end_joined}
use Rattle.mt_recover.specs.{declared.resuming.LogSlot.LogSlot, declared.resuming.LogSlot.TheVariants.{Open, Failed, Closed, Away}}
use Rattle.mt_chains.specs.{declared.worker_logs.WorkerLogs.WorkerLogs, Files.{standing_of, numbered_log, SameNumbered}, Testing.is_there}
use Rattle.mt_log_files.specs.{declared.worker.WorkerFiles.WorkerFiles, Slots.{disk_in, file_of, OpensPlain, OpensNumbered}}
use Rattle.mt_chain_files.specs.{declared.headers.Told.Told, declared.opening.Chains.Chains, Numbered.{OpensFrom, OpensWorker, OpensNumberedFiles}, Plain.OpensPlainAs}
use Rattle.mt_chain_files.specs.{Chosen.{ReadsPlain, OpensChains}, Lasts.{last_generation_of, EndsAt, AreOpenAtTheirEnds}}
use Rattle.mt_chain_files.proofs.{Loops.{get_within, zip_count}, Agreeing.{agree_self, count_numbered, count_numbered_logs}, Reading.read_later}
use Rattle.mt_log.specs.declared.reader.FileKind.TheVariants as kinds

-- ---- which of a worker's files has a log

-- this was read of a file, it is of a generation, and it is a log
abbrev IsFound : ℕ → Contents → Option Front → Type 0
IsFound h c found = (front : Front) × (found ≡ Some front) × (front.generation ≡ h) × (contents_of front ≡ c)

found_or_later : (h : ℕ) (found : Option Front) (logs : List (Option Front)) (c : Contents) → numbered_log h (found ∷ logs) ≡ Some c
    → IsFound h c found ⊎ (numbered_log h logs ≡ Some c)
found_or_later h None logs c is = inr is
found_or_later h (Some front) logs c is = by (front.generation == h) refl is
  where
    by : (b : Bool) → (front.generation == h) ≡ b → cond b (Some (contents_of front)) (numbered_log h logs) ≡ Some c
        → IsFound h c (Some front) ⊎ (numbered_log h logs ≡ Some c)
    by true same e = inl (front, refl, eqb-true front.generation h same, same_Some (contents_of front) c e)
    by false same e = inr e

found_plain : (found : Option Front) (c : Contents) → option_map contents_of found ≡ Some c → (front : Front) × (found ≡ Some front) × (contents_of front ≡ c)
found_plain None c is = absurd (no_some c is)
found_plain (Some front) c is = (front, refl, same_Some (contents_of front) c is)

module _ {D : Type 0} where
  file_even : (h : ℕ) (places : WorkerFiles D) → 1 ≤ h → parity_of h ≡ Even → file_of h places ≡ places.even
  file_even h places some even =
      cond-false (h == 0) places.plain (cond (h % 2 == 0) places.even places.odd) (ne_eqb h 0 (λ e. omega (arith, e, some))) ∙ by (h % 2 == 0) even
    where
      by : (b : Bool) → cond b Even Odd ≡ Even → cond b places.even places.odd ≡ places.even
      by true is = refl
      by false is = absurd cc

  file_odd : (h : ℕ) (places : WorkerFiles D) → 1 ≤ h → parity_of h ≡ Odd → file_of h places ≡ places.odd
  file_odd h places some odd =
      cond-false (h == 0) places.plain (cond (h % 2 == 0) places.even places.odd) (ne_eqb h 0 (λ e. omega (arith, e, some))) ∙ by (h % 2 == 0) odd
    where
      by : (b : Bool) → cond b Even Odd ≡ Odd → cond b places.even places.odd ≡ places.odd
      by true is = absurd cc
      by false is = refl

  -- ---- each log that was read is open

  same_ends : (b c : Contents) (slot : LogSlot D) → mark_of b ≡ mark_of c → EndsAt b slot → EndsAt c slot
  same_ends b c (Open log) same ends = ends ∙ same
  same_ends b c (Failed log) same ends = absurd ends
  same_ends b c (Closed disk) same ends = absurd ends
  same_ends b c Away same ends = absurd ends

  -- so there is a log at its place
  pub open_of : (c : Contents) (slot : LogSlot D) → EndsAt c slot → (log : LogFile D) × (slot ≡ Open log) × (log.mark ≡ mark_of c)
  open_of c (Open log) ends = (log, refl, ends)
  open_of c (Failed log) ends = absurd ends
  open_of c (Closed disk) ends = absurd ends
  open_of c Away ends = absurd ends

  -- The last of both logs of a chain ends where the chain does.
  last_ends : (g : ℕ) (f : Standing) (places : WorkerFiles D) (c : Chain) → ((h : ℕ) (d : Contents) → f h ≡ Some d → EndsAt d (file_of h places))
      → ((start : ℕ) → ¬ StartFalls g f start) → chain_from g f ≡ Some c → EndsAt c (file_of (last_generation_of g (Some (is_there (f (g + 1))))) places)
  last_ends g f places c each meets from = by (f g) refl (f (g + 1)) refl from
    where
      by : (x : Option Chain) → f g ≡ x → (y : Option Chain) → f (g + 1) ≡ y → joined x y ≡ Some c
          → EndsAt c (file_of (last_generation_of g (Some (is_there y))) places)
      by None first y next e = absurd (no_some c e)
      by (Some a) first None next e = each g c (first ∙ e)
      by (Some a) first (Some b) next e =
          let met : b.start ≡ mark_of a = ⊎_elim
          (λ same. same)
          (λ apart. absurd (meets b.start (record { first = a; next = b; has_first = first; has_next = next; apart = apart; is = refl })))
          (cases_eq b.start (mark_of a)) in
          same_ends b c (file_of (g + 1) places)
          (ap (λ (n : ℕ). end_of n b.batches) met ∙ sym (end_joined a.start a.batches b.batches) ∙ ap mark_of (same_Some (record a { batches = a.batches ++ b.batches }) c e))
          (each (g + 1) b next)

module _ {D : Type 0} (is_honest : D → Bool) (state : D → DiskState) where
  -- a log with these contents is open, and ends where they do
  abbrev pub StandsIn : Contents → LogSlot D → Type 0
  StandsIn c (Open log) = (log.mark ≡ mark_of c) × (IsTrue (is_honest log.disk) → IsLogOf state c log)
  StandsIn c (Failed log) = ⊥
  StandsIn c (Closed disk) = ⊥
  StandsIn c Away = ⊥

  stands_ends : (c : Contents) (slot : LogSlot D) → StandsIn c slot → EndsAt c slot
  stands_ends c (Open log) stands = stands.0
  stands_ends c (Failed log) stands = absurd stands
  stands_ends c (Closed disk) stands = absurd stands
  stands_ends c Away stands = absurd stands

  -- a log that was read of a numbered file is open there, and of the file's parity
  abbrev IsOpenIn : Parity → Option Front → LogSlot D → Type 0
  IsOpenIn parity found slot = (front : Front) → found ≡ Some front → StandsIn (contents_of front) slot × IsOfKind (kinds.Numbered parity) front.generation

  -- what was read of a worker's files is open there
  pub record AreOpen (one : WorkerLogs) (places : WorkerFiles D) : Type 0 where
    pub even : Option Front
    pub odd : Option Front
    pub numbered : one.numbered ≡ even ∷ odd ∷ []
    pub open_even : IsOpenIn Even even places.even
    pub open_odd : IsOpenIn Odd odd places.odd
    pub open_plain : (front : Front) → one.plain ≡ Some front → StandsIn (contents_of front) places.plain × (front.generation ≡ 0)

  -- so each log that stands is open in the file of its generation
  pub each_open : (one : WorkerLogs) (places : WorkerFiles D) → AreOpen one places → (h : ℕ) (c : Contents) → standing_of one h ≡ Some c
      → StandsIn c (file_of h places) × (c.generation ≡ h)
  each_open one places o zero c is =
      let f = found_plain one.plain c is in
      subst (λ (d : Contents). StandsIn d places.plain × (d.generation ≡ 0)) f.2 (o.open_plain f.0 f.1)
  each_open one places o (suc n) c is =
      ⊎_elim
      (λ (f : IsFound (suc n) c o.even). (
      let e = o.open_even f.0 f.1 in
      let same = f.2 in (
        subst (StandsIn c) (sym (file_even (suc n) places (omega arith) (ap parity_of (sym same) ∙ e.1.1)))
            (subst (λ (d : Contents). StandsIn d places.even) f.3 e.0),
        sym (ap (λ (d : Contents). d.generation) f.3) ∙ same,
      )
      ))
      (λ later. ⊎_elim
      (λ (f : IsFound (suc n) c o.odd). (
      let e = o.open_odd f.0 f.1 in
      let same = f.2 in (
        subst (StandsIn c) (sym (file_odd (suc n) places (omega arith) (ap parity_of (sym same) ∙ e.1.1)))
            (subst (λ (d : Contents). StandsIn d places.odd) f.3 e.0),
        sym (ap (λ (d : Contents). d.generation) f.3) ∙ same,
      )
      ))
      (λ none. absurd (no_some c none))
      (found_or_later (suc n) o.odd [] c later))
      (found_or_later (suc n) o.even (o.odd ∷ []) c (sym (read_later one o.even o.odd (suc n) (omega arith) o.numbered) ∙ is))

module _ {D : Type 0} (is_honest : D → Bool) (state : D → DiskState) (failures : D → ℕ) where
  -- a log that was read of a plain file is open there
  plain_open : (old : Option D) (new : LogSlot D) (found : Option Front) → OpensPlain is_honest state failures old new found
      → (front : Front) → found ≡ Some front → StandsIn is_honest state (contents_of front) new × (front.generation ≡ 0)
  plain_open old new None o front there = absurd (no_some front there)
  plain_open (Some disk) (Open log) (Some read) o front there =
      subst (λ (f : Front). StandsIn is_honest state (contents_of f) (Open log) × (f.generation ≡ 0)) (same_Some read front there)
      ((o.mark, λ h. o.has (subst IsTrue o.honest h)), o.of_kind)
  plain_open (Some disk) (Failed log) (Some read) o front there = absurd o
  plain_open (Some disk) (Closed new) (Some read) o front there = absurd o
  plain_open (Some disk) Away (Some read) o front there = absurd o
  plain_open None (Open log) (Some read) o front there = absurd o
  plain_open None (Failed log) (Some read) o front there = absurd o
  plain_open None (Closed new) (Some read) o front there = absurd o
  plain_open None Away (Some read) o front there = absurd o

  numbered_open : (parity : Parity) (old : Option D) (new : LogSlot D) (found : Option Front) → OpensNumbered is_honest state failures parity old new found
      → IsOpenIn is_honest state parity found new
  numbered_open parity old new None o front there = absurd (no_some front there)
  numbered_open parity (Some disk) (Open log) (Some read) o front there =
      subst (λ (f : Front). StandsIn is_honest state (contents_of f) (Open log) × IsOfKind (kinds.Numbered parity) f.generation) (same_Some read front there)
      ((o.0.mark, λ h. o.0.has (subst IsTrue o.0.honest h)), o.0.of_kind)
  numbered_open parity (Some disk) (Failed log) (Some read) o front there = absurd o
  numbered_open parity (Some disk) (Closed new) (Some read) o front there = absurd o
  numbered_open parity (Some disk) Away (Some read) o front there = absurd o
  numbered_open parity None (Open log) (Some read) o front there = absurd o
  numbered_open parity None (Failed log) (Some read) o front there = absurd o
  numbered_open parity None (Closed new) (Some read) o front there = absurd o
  numbered_open parity None Away (Some read) o front there = absurd o

  -- also if an older one was passed over
  from_open : (from told : ℕ) (parity : Parity) (old new : LogSlot D) (found : Option Front) → OpensFrom is_honest state failures from told parity old new found
      → IsOpenIn is_honest state parity found new
  from_open from told parity old new found (inl over) front there = absurd (no_some front (sym over.2 ∙ there))
  from_open from told parity old new found (inr opens) front there = numbered_open parity (disk_in old) new found opens.1 front there

  -- the numbered files of a worker that count were opened
  open_first : (from : ℕ) (told : List Told) (old between : List (WorkerFiles D)) (first : List WorkerLogs) → OpensNumberedFiles is_honest state failures from told old between first
      → (k : ℕ) (one : WorkerLogs) (places : WorkerFiles D) → slice_get first k ≡ Some one → slice_get between k ≡ Some places → AreOpen is_honest state one places
  open_first from told old between first numbered k one places there then =
      let within = get_within first k one there in
      let count = numbered.count in
      let below : k < length old = omega (arith, within, count) in
      let was = within_place old k below in
      let r = numbered.each.each k was.0 places below was.1 then in
      let t = r.2.0 in
      let o = subst (OpensWorker is_honest state failures from t was.0 places) (same_Some r.0 one (sym r.1 ∙ there)) r.2.2 in
      record {
        even = o.even;
        odd = o.odd;
        numbered = ap (λ (w : WorkerLogs). w.numbered) o.read;
        open_even = from_open from t.even Even was.0.even places.even o.even o.opens_even;
        open_odd = from_open from t.odd Odd was.0.odd places.odd o.odd o.opens_odd;
        open_plain = λ front is. absurd (no_some front (sym (ap (λ (w : WorkerLogs). w.plain) o.read) ∙ is));
      }

  module _ (slots : Slots) where
    -- and its plain file, if that is needed
    pub open_all : (from : ℕ) (told : List Told) (old between new : List (WorkerFiles D)) (first logs : List WorkerLogs) → OpensNumberedFiles is_honest state failures from told old between first
        → ReadsPlain is_honest state failures slots between new first logs → (k : ℕ) (one : WorkerLogs) (places : WorkerFiles D)
        → slice_get logs k ≡ Some one → slice_get new k ≡ Some places → AreOpen is_honest state one places
    open_all from told old between new first logs numbered (inr unread) k one places there then =
        open_first from told old between first numbered k one places
        (subst (λ (l : List WorkerLogs). slice_get l k ≡ Some one) unread.2 there)
        (subst (λ (l : List (WorkerFiles D)). slice_get l k ≡ Some places) unread.1 then)
    open_all from told old between new first logs numbered (inl read) k one places there then =
        let len = read.1.len in
        let within = get_within new k places then in
        let below : k < length between = omega (arith, within, len) in
        let mid = within_place between k below in
        let p = read.1.each k mid.0 places below mid.1 then in
        let was = zip_right SameNumbered first logs k one read.2 there in
        let a = open_first from told old between first numbered k was.0 mid.0 was.1 mid.1 in
        let o = subst (λ (w : WorkerLogs). OpensPlainAs is_honest state failures w mid.0 places) (same_Some p.0 one (sym p.1 ∙ there)) p.2 in
        record {
          even = a.even;
          odd = a.odd;
          numbered = sym was.2 ∙ a.numbered;
          open_even = λ front is. (let e = a.open_even front is in (subst (StandsIn is_honest state (contents_of front)) (sym o.1.0) e.0, e.1));
          open_odd = λ front is. (let e = a.open_odd front is in (subst (StandsIn is_honest state (contents_of front)) (sym o.1.1) e.0, e.1));
          open_plain = plain_open (disk_in mid.0.plain) places.plain one.plain o.0;
        }

    module _ (old new : List (WorkerFiles D)) (chains : Chains) (opens : OpensChains is_honest state failures slots old new chains) where
      -- a worker's chain, the logs that were read of it, and whether its next one is told to be begun
      pub record ChainAt (k : ℕ) (front : Front) : Type 0 where
        pub one : WorkerLogs
        pub there : slice_get opens.reads.logs k ≡ Some one
        pub from : chain_from chains.generation (standing_of one) ≡ Some (contents_of front)
        pub begun : slice_get chains.begun.items k ≡ Some (is_there (standing_of one (chains.generation + 1)))
        pub meets : (start : ℕ) → ¬ StartFalls chains.generation (standing_of one) start

      pub chain_at : (k : ℕ) (front : Front) → slice_get chains.fronts.items k ≡ Some front → ChainAt k front
      chain_at k front there =
          let g = chains.generation in
          let logs = opens.reads.logs in
          let chosen = opens.chosen (map standing_of logs) (agree_self g (map standing_of logs)) in
          let f = zip_right (λ (f : Standing) (c : Chain). chain_from g f ≡ Some c) (map standing_of logs) (map contents_of chains.fronts.items) k (contents_of front) chosen.chosen.0
          (place_map contents_of chains.fronts.items k front there) in
          let w = map_place standing_of logs k f.0 f.1 in
          record {
            one = w.0;
            there = w.1;
            from = subst (λ (s : Standing). chain_from g s ≡ Some (contents_of front)) w.2 f.2;
            begun =
                ap (λ (l : List Bool). slice_get l k) opens.begun
                ∙ place_map (λ (worker : WorkerLogs). is_there (standing_of worker (g + 1))) logs k w.0 w.1;
            meets = λ start falls. chosen.meets (standing_of w.0) start (place_in (standing_of w.0) k (map standing_of logs) (place_map standing_of logs k w.0 w.1)) (inl falls);
          }

      pub open_at_ends : AreOpenAtTheirEnds chains new
      open_at_ends k front places there then =
          let r = opens.reads in
          let n = r.numbered.counting in
          let c = chain_at k front there in
          subst (λ (b : Option Bool). EndsAt (contents_of front) (file_of (last_generation_of chains.generation b) places)) (sym c.begun)
          (last_ends chains.generation (standing_of c.one) places (contents_of front)
          (λ h d is. stands_ends is_honest state d (file_of h places)
          (each_open is_honest state c.one places (open_all n.from r.numbered.told n.before r.between new r.first r.logs n.opens r.plain k c.one places c.there then) h d is).0)
          c.meets c.from)

      count_new : ReadsPlain is_honest state failures slots opens.reads.between new opens.reads.first opens.reads.logs → length new ≡ length opens.reads.between
      count_new (inl read) = read.1.len
      count_new (inr unread) = ap length unread.1

      count_logs : ReadsPlain is_honest state failures slots opens.reads.between new opens.reads.first opens.reads.logs
          → length opens.reads.logs ≡ length opens.reads.first
      count_logs (inl read) = zip_count SameNumbered opens.reads.first opens.reads.logs read.2
      count_logs (inr unread) = ap length unread.2

      -- as many places as before
      pub as_many_places : length new ≡ length old
      as_many_places = let r = opens.reads in count_new r.plain ∙ count_numbered is_honest state failures slots old r.between r.first r.numbered

      as_many_read : length opens.reads.logs ≡ length old
      as_many_read = let r = opens.reads in count_logs r.plain ∙ count_numbered_logs is_honest state failures slots old r.between r.first r.numbered

      -- a chain for each worker
      pub as_many_chains : length chains.fronts.items ≡ length old
      as_many_chains =
          let g = chains.generation in
          let logs = opens.reads.logs in
          let chosen = opens.chosen (map standing_of logs) (agree_self g (map standing_of logs)) in
          sym (length-map chains.fronts.items contents_of)
          ∙ zip_count (λ (f : Standing) (c : Chain). chain_from g f ≡ Some c) (map standing_of logs) (map contents_of chains.fronts.items) chosen.chosen.0
          ∙ length-map logs standing_of
          ∙ as_many_read

      -- and each is told whether its next log is begun
      pub as_many_begun : length chains.begun.items ≡ length old
      as_many_begun =
          ap length opens.begun
          ∙ length-map opens.reads.logs (λ (worker : WorkerLogs). is_there (standing_of worker (chains.generation + 1)))
          ∙ as_many_read
