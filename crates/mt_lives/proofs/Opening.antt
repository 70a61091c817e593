-- The files of all logs of a store that serves no life are opened: the logs come to rest, or stay as they were.
use Rattle.std.proofs.Common.{◌≡◌, ◌⊎◌, ℕ, suc, ◌+◌, ◌<◌, ◌≤◌, get_or, Bool, true, false, List, [], ◌∷◌, map, length, Option, Some, None, refl, sym, ap, subst, ◌∙◌, arith, inl, inr, ⊎_elim}
use Rattle.std.proofs.lemmas.{Bool.true≢false, Option.{same_Some, slice_get-get_or}, List.Elements.{All-nil, All-cons}}
use Rattle.std.specs.{Prelude.slice_get, List.AllZip}
use Rattle.mt_disk.specs.{declared.mem.MemDisk.MemDisk, Mem.mem_state}
use Rattle.mt_log.specs.Contents.{Contents, contents_of}
use Rattle.mt_crashes.specs.{Fronts.In, Bases.Slots, Stores.{Store, LogNow, new_store, at_rest, MayLeaveFront, MayLeaveFronts, MayLeaveSlots}, Invariants.IsStore}
use Rattle.mt_crashes.proofs.{Members.place_in, Invariant.{within_place, map_place, place_map, zip_left, zip_right}, NewStore.new_is, Kept.leads}
use Rattle.mt_generations.specs.{Chains.{Chain, EndsLog, BeginBy, HasUse}, Standings.{Standing, chain_from}, Turns.HasBase}
use Rattle.mt_chains.specs.{declared.worker_logs.WorkerLogs.WorkerLogs, Files.{standing_of as read_of}, Testing.is_there}
use Rattle.mt_log_files.specs.{declared.worker.WorkerFiles.WorkerFiles, Files.{Spare, Has}}
use Rattle.mt_chain_files.specs.{declared.opening.Chains.Chains, Lasts.last_generation_of}
use Rattle.mt_chain_files.specs.Turns.{FilesNow, now_of, AreOfTurn, StaysWhole, ShowFiles, HasLast, IsLastOfTurn, ComeToRest, StayTheirs, Rests as FileRests}
use Rattle.mt_chain_files.proofs.{Agreeing.agree_self, Narrowing.Narrows, Starts.HasFrom, OwnFiles.{opened, failed, opened_have, failed_narrow}}
use Rattle.mt_store_logs.specs.{declared.fault.LogRefusal.LogRefusal, declared.store_log.StoreLog.StoreLog, Ends.StandsInTurn}
use Rattle.mt_store_logs.proofs.FirstAndCrashed.{opened_in_turn}
use Rattle.mt_store_logs.specs.{Taking.{files_of, fault_of, HasItsFiles, IsRefusedAtOnce, OpensLogs, StopsFiles, StopsOpening}, Leaves.NoneBegun}
use Rattle.mt_lives.specs.{Lives.IsMemoryOrDevice, Holds.{HasCome, LeadsTo, EachLog, IsLogDown}}
use Rattle.mt_lives.proofs.{Begun.{stay_whole, begins_narrow, begins_from_chain}, Flushing.{keeps_rules, failures_of, within}, Walking.{with_logs, all_rest, rested_count}, Leaving.AllDown}
use Rattle.mt_lives.specs.Bases.{Whole, BeginsBy}

-- ---- the files of all logs, in one list

pub record Collected (g : ℕ) (h : Whole) (lows : List LogNow) (logs : List (StoreLog MemDisk)) : Type 0 where
  pub files : List FilesNow
  pub turn : AllZip (AreOfTurn g) lows files
  pub shows : AllZip (ShowFiles keeps_rules mem_state) files (map files_of logs)
  pub begins : (f : FilesNow) → In f files → BeginsBy g h f

pub collect : (g : ℕ) (h : Whole) (lows : List LogNow) (logs : List (StoreLog MemDisk)) → length lows ≡ length logs
    → ((k : ℕ) (now : LogNow) (log : StoreLog MemDisk) → slice_get lows k ≡ Some now → slice_get logs k ≡ Some log → IsLogDown g h now log) → Collected g h lows logs
collect g h [] [] len each = record { files = []; turn = tt; shows = tt; begins = λ f at. absurd at }
collect g h [] (log ∷ logs) len each = absurd (omega (arith, len))
collect g h (now ∷ lows) [] len each = absurd (omega (arith, len))
collect g h (now ∷ lows) (log ∷ logs) len each =
    let one = each 0 now log refl refl in
    let rest = collect g h lows logs (omega (arith, len)) (λ k x y at_x at_y. each (suc k) x y at_x at_y) in
    record {
      files = one.files ∷ rest.files;
      turn = (one.turn, rest.turn);
      shows = (one.shows, rest.shows);
      begins = λ f at. ⊎_elim (λ same. subst (BeginsBy g h) (sym same) one.begins) (λ there. rest.begins f there) at;
    }

-- a front is of the same worker as the log of which it is left
same_owner : (now : LogNow) (front : Contents) → MayLeaveFront now front → (front.worker ≡ now.had.worker) × (front.logs ≡ now.had.logs)
same_owner now front (inl same) = (ap (λ (c : Contents). c.worker) same, ap (λ (c : Contents). c.logs) same)
same_owner now front (inr more) = (ap (λ (c : Contents). c.worker) more.2, ap (λ (c : Contents). c.logs) more.2)

-- A log that was opened, and rests. It is known whether it has a next one.
pub record IsLogOpen (g : ℕ) (h : Whole) (now : LogNow) (log : StoreLog MemDisk) : Type 0 where
  pub files : FilesNow
  pub stands : StandsInTurn keeps_rules mem_state g now files log
  pub begins : BeginsBy g h files
  pub none : log.kept ≡ None
  pub sure : log.next_in_doubt ≡ false

abbrev pub AllOpen : ℕ → Whole → Store → List (StoreLog MemDisk) → Type 0
AllOpen g h s logs = EachLog (λ worker now log. IsLogOpen g h now log) s logs

pub open_down : (g : ℕ) (h : Whole) (now : LogNow) (log : StoreLog MemDisk) → IsLogOpen g h now log → IsLogDown g h now log
open_down g h now log is = record { files = is.files; turn = is.stands.turn; shows = is.stands.shows; begins = is.begins; owner = is.stands.owner }

pub all_open_down : (g : ℕ) (h : Whole) (s : Store) (logs : List (StoreLog MemDisk)) → AllOpen g h s logs → AllDown g h s logs
all_open_down g h s logs all worker now log there at = open_down g h now log (all worker now log there at)

-- ---- which workers have begun a generation

-- some worker has, if it is not so that none has
one_begun : (begun : List Bool) → ¬ NoneBegun begun → (k : ℕ) × (slice_get begun k ≡ Some true)
one_begun [] some = absurd (some (All-nil (λ (b : Bool). b ≡ false)))
one_begun (true ∷ begun) some = (0, refl)
one_begun (false ∷ begun) some =
    let later = one_begun begun (λ none. some (All-cons (λ (b : Bool). b ≡ false) false begun refl none)) in
    (suc later.0, later.1)

none_at : (begun : List Bool) (k : ℕ) (b : Bool) → NoneBegun begun → slice_get begun k ≡ Some b → b ≡ false
none_at begun k b none at =
    let below = within begun k b at in
    same_Some b (get_or begun k b) (sym at ∙ slice_get-get_or begun k b below) ∙ none k b below

not_begun : (generation : ℕ) (told : Option Bool) → ((b : Bool) → told ≡ Some b → b ≡ false) → last_generation_of generation told ≡ generation
not_begun generation None none = refl
not_begun generation (Some true) none = absurd (true≢false (none true refl))
not_begun generation (Some false) none = refl

module _ (s : Store) (count : ℕ) (some : 0 < count) (few : count ≤ 64) (come : HasCome count s) (g : ℕ) (h : Whole) (base : HasBase s h.starts) (old : List (StoreLog MemDisk)) (len : length s.logs ≡ length old)
    (each : AllDown g h s old) (read : Slots) (left_slots : MayLeaveSlots s.slots read) where
  all : Collected g h s.logs old
  all = collect g h s.logs old len each

  is : IsStore s
  is = leads come.0 (new_store count) s (new_is count some few) come.1

  whole : StaysWhole g h.generation s all.files
  whole = stay_whole g h s all.files base all.begins

  -- the log at a place, and its files
  record WasAt (k : ℕ) (log : StoreLog MemDisk) (at : slice_get old k ≡ Some log) : Type 0 where
    now : LogNow
    there : slice_get s.logs k ≡ Some now
    down : IsLogDown g h now log

  was_at : (k : ℕ) (log : StoreLog MemDisk) (at : slice_get old k ≡ Some log) → WasAt k log at
  was_at k log at =
      let now = within_place s.logs k (subst (λ n. k < n) (sym len) (within old k log at)) in
      record { now = now.0; there = now.1; down = each k now.0 log now.1 at }

  -- what began by a step does so once the files were opened
  begins_at : (files : List FilesNow) → AllZip Narrows all.files files → (k : ℕ) (f : FilesNow) → slice_get files k ≡ Some f → BeginsBy g h f
  begins_at files leave k f there =
      let was = zip_right Narrows all.files files k f leave there in
      begins_narrow g h was.0 f was.2 (all.begins was.0 (place_in was.0 k all.files was.1))

  -- ---- all were opened

  module _ (mid : List (StoreLog MemDisk)) (chains : Chains) (o : OpensLogs keeps_rules mem_state failures_of read old mid chains) where
    rests : ComeToRest keeps_rules mem_state g all.files s.logs o.files chains
    rests = opened keeps_rules mem_state failures_of s is g h.generation all.files read left_slots all.turn whole (map files_of old) all.shows o.files chains o.opens

    -- they have the logs from which the chains are
    have_logs : AllZip (λ (f : FilesNow) (c : Chain). HasFrom g chains.generation c.start f) rests.files (map contents_of chains.fronts.items)
    unfolding rests
    have_logs =
        opened_have keeps_rules mem_state failures_of s is g h.generation all.files read left_slots all.turn whole (map files_of old) all.shows o.files chains o.opens

    -- the generation of the chains, all of which began by a step
    abbrev pub opened_whole : ℕ → Whole
    opened_whole starts = record { generation = chains.generation; starts = starts }

    pub fronts : List Contents
    fronts = rests.fronts

    pub fronts_left : MayLeaveFronts s.logs fronts
    unfolding fronts
    fronts_left = rests.left

    pub chains_end : AllZip EndsLog fronts (map contents_of chains.fronts.items)
    unfolding fronts
    chains_end = rests.ends

    pub chains_use : HasUse (map contents_of chains.fronts.items) read
    chains_use = (o.opens.chosen (map read_of o.opens.reads.logs) (agree_self chains.generation (map read_of o.opens.reads.logs))).chosen.1

    -- they begin in the turn
    pub firsts : (chains.generation ≡ g) ⊎ (chains.generation ≡ g + 1)
    firsts = rests.firsts

    -- if no worker is told to have begun the generation after theirs, the last logs are all of theirs
    pub of_theirs : NoneBegun chains.begun.items → (k : ℕ) (log : StoreLog MemDisk) → slice_get mid k ≡ Some log → log.log.generation ≡ chains.generation
    of_theirs none k log at =
        let was = within_place old k (subst (λ n. k < n) o.back.len (within mid k log at)) in
        (o.back.each k was.0 log (within old k was.0 was.1) was.1 at).stands.generation
        ∙ not_begun chains.generation (slice_get chains.begun.items k) (λ b told. none_at chains.begun.items k b none told)

    -- what is told, is told of a worker that has its files
    told_files : (k : ℕ) (b : Bool) → slice_get chains.begun.items k ≡ Some b → (f : FilesNow) × (slice_get rests.files k ≡ Some f)
    told_files k b told =
        let read = o.opens.reads.logs in
        let here = map_place (λ (w : WorkerLogs). is_there (read_of w (chains.generation + 1))) read k b (ap (λ (bs : List Bool). slice_get bs k) (sym o.opens.begun) ∙ told) in
        let from = (o.opens.chosen (map read_of read) (agree_self chains.generation (map read_of read))).chosen.0 in
        let chain = zip_left (λ (f : Standing) (c : Chain). chain_from chains.generation f ≡ Some c) (map read_of read) (map contents_of chains.fronts.items) k (read_of here.0) from
        (place_map read_of read k here.0 here.1) in
        let file = zip_right (λ (f : FilesNow) (c : Chain). HasFrom g chains.generation c.start f) rests.files (map contents_of chains.fronts.items) k chain.0 have_logs chain.1 in
        (file.0, file.1)

    -- if some worker is, theirs is the first one of the turn
    pub of_first : ¬ NoneBegun chains.begun.items → chains.generation ≡ g
    of_first some_begun =
        let one = one_begun chains.begun.items some_begun in
        let file = told_files one.0 true one.1 in
        let last : IsLastOfTurn g (chains.generation + 1) file.0 =
        subst (λ (told : Option Bool). IsLastOfTurn g (last_generation_of chains.generation told) file.0) one.1 (rests.next one.0 file.0 file.1) in
        ⊎_elim
        (λ first. let is = first.0 in ⊎_elim (λ e. absurd (omega (arith, is, e))) (λ e. absurd (omega (arith, is, e))) firsts)
        (λ later. let is = later.0 in omega (arith, is))
        last

    pub rested_leads : LeadsTo s (with_logs (map at_rest fronts) s)
    rested_leads = all_rest s fronts fronts_left

    pub rested_len : length (map at_rest fronts) ≡ length s.logs
    rested_len = rested_count s fronts fronts_left

    -- the log at a place, and all that is told of it
    module _ (k : ℕ) (now : LogNow) (log : StoreLog MemDisk) (there : slice_get (map at_rest fronts) k ≡ Some now) (at : slice_get mid k ≡ Some log) where
      front : (c : Contents) × (slice_get fronts k ≡ Some c) × (now ≡ at_rest c)
      front = map_place at_rest fronts k now there

      was : (w : StoreLog MemDisk) × (slice_get old k ≡ Some w)
      was = within_place old k (subst (λ n. k < n) o.back.len (within mid k log at))

      back : HasItsFiles chains.generation chains.begun.items o.files k was.0 log
      back = o.back.each k was.0 log (within old k was.0 was.1) was.1 at

      abbrev last_generation : ℕ
      last_generation = last_generation_of chains.generation (slice_get chains.begun.items k)

      file : (f : FilesNow) × (slice_get rests.files k ≡ Some f) × AreOfTurn g now f
      unfolding fronts
      file = zip_left (AreOfTurn g) (map at_rest fronts) rests.files k now rests.turn there

      places : (p : WorkerFiles MemDisk) × (slice_get o.files k ≡ Some p) × ShowFiles keeps_rules mem_state file.0 p
      places = zip_left (ShowFiles keeps_rules mem_state) rests.files o.files k file.0 rests.shows file.1

      files_are : log.log.files ≡ places.0
      files_are = back.stands.files ∙ same_Some back.one places.0 (sym back.there ∙ places.1)

      shows : ShowFiles keeps_rules mem_state file.0 log.log.files
      shows = subst (ShowFiles keeps_rules mem_state file.0) (sym files_are) places.2

      last : HasLast last_generation front.0 file.0
      unfolding fronts
      last = rests.lasts k front.0 file.0 front.1 file.1

      next : IsLastOfTurn g last_generation file.0
      next = rests.next k file.0 file.1

      has : now_of log.log.generation file.0 ≡ Has (at_rest last.last)
      has = subst (λ n. now_of n file.0 ≡ Has (at_rest last.last)) (sym back.stands.generation) last.has

      -- it is that of the turn's first generation, or the next one
      opened_in : ((log.log.generation ≡ g) × (now_of (g + 1) file.0 ≡ Spare)) ⊎ ((log.log.generation ≡ g + 1) × FileRests (now_of g file.0))
      opened_in = ⊎_elim (λ first. inl (back.stands.generation ∙ first.0, first.1)) (λ later. inr (back.stands.generation ∙ later.0, later.1)) next

      owner : (log.log.owner.worker ≡ front.0.worker) × (log.log.owner.logs ≡ front.0.logs)
      owner =
          let w = was_at k was.0 was.1 in
          let left = zip_right MayLeaveFront s.logs fronts k front.0 fronts_left front.1 in
          let same : left.0 ≡ w.now = same_Some left.0 w.now (sym left.1 ∙ w.there) in
          let own = same_owner w.now front.0 (subst (λ (n : LogNow). MayLeaveFront n front.0) same left.2) in
          (back.stands.worker ∙ w.down.owner.0 ∙ sym own.0, back.stands.logs ∙ w.down.owner.1 ∙ sym own.1)

      log_open : (starts : ℕ) → BeginBy starts (map contents_of chains.fronts.items) → IsLogOpen g (opened_whole starts) now log
      log_open starts by = record {
        files = file.0;
        stands = subst (λ (n : LogNow). StandsInTurn keeps_rules mem_state g n file.0 log) (sym front.2)
            (opened_in_turn keeps_rules mem_state failures_of g front.0 last.last file.0 log (subst (λ (n : LogNow). AreOfTurn g n file.0) front.2 file.2) shows has (last.of ∙ sym back.stands.generation)
            last.ends opened_in back.rest.sure back.rest.none owner);
        begins =
            let c = zip_left (λ (f : FilesNow) (c : Chain). HasFrom g chains.generation c.start f) rests.files (map contents_of chains.fronts.items) k file.0 have_logs file.1 in
            begins_from_chain g chains.generation c.0.start starts file.0 c.2 (by c.0 (place_in c.0 k (map contents_of chains.fronts.items) c.1));
        none = back.rest.none;
        sure = back.rest.sure;
      }

    pub all_open : (starts : ℕ) → BeginBy starts (map contents_of chains.fronts.items) → AllOpen g (opened_whole starts) (with_logs (map at_rest fronts) s) mid
    all_open starts by k now log there at = log_open k now log there at starts by

  -- ---- they were not

  -- the same logs, and why
  pub record NotOpened (e : LogRefusal) (new : List (StoreLog MemDisk)) : Type 0 where
    pub cause : IsMemoryOrDevice e.refusal
    pub len_so : length new ≡ length old
    pub each_so : AllDown g h s new

  module _ (e : LogRefusal) (new : List (StoreLog MemDisk)) (stops : StopsFiles keeps_rules mem_state failures_of read e old new) where
    stay : IsMemoryOrDevice e.refusal × StayTheirs keeps_rules mem_state g h.generation s stops.files
    stay = failed keeps_rules mem_state failures_of s is g h.generation all.files read left_slots all.turn whole (map files_of old) all.shows stops.files (fault_of e) stops.stops

    -- no more may be left of them
    narrowed : AllZip Narrows all.files stay.1.files
    unfolding stay
    narrowed =
        failed_narrow keeps_rules mem_state failures_of s is g h.generation all.files read left_slots all.turn whole (map files_of old) all.shows stops.files (fault_of e) stops.stops

    stays_at : (k : ℕ) (now : LogNow) (log : StoreLog MemDisk) → slice_get s.logs k ≡ Some now → slice_get new k ≡ Some log → IsLogDown g h now log
    unfolding stay
    stays_at k now log there at =
        let was = within_place old k (subst (λ n. k < n) stops.back.len (within new k log at)) in
        let back = stops.back.each k was.0 log (within old k was.0 was.1) was.1 at in
        let theirs = stay.1 in
        let file = zip_left (AreOfTurn g) s.logs theirs.files k now theirs.turn there in
        let places = zip_left (ShowFiles keeps_rules mem_state) theirs.files stops.files k file.0 theirs.shows file.1 in
        let files_are : log.log.files ≡ places.0 = back.stands.files ∙ same_Some back.one places.0 (sym back.there ∙ places.1) in
        let down = each k now was.0 there was.1 in
        record {
          files = file.0;
          turn = file.2;
          shows = subst (ShowFiles keeps_rules mem_state file.0) (sym files_are) places.2;
          begins = begins_at theirs.files narrowed k file.0 file.1;
          owner = (back.stands.worker ∙ down.owner.0, back.stands.logs ∙ down.owner.1);
        }

    files_stopped : NotOpened e new
    files_stopped = record { cause = stay.0; len_so = stops.back.len; each_so = stays_at }

  at_once : length old ≤ 64 → (e : LogRefusal) → IsRefusedAtOnce e old → IsMemoryOrDevice e.refusal
  at_once upto e (inl memory) = inl (ap (λ (x : LogRefusal). x.refusal) memory)
  at_once upto e (inr many) = let over = many.1 in absurd (omega (arith, upto, over))

  pub not_opened : length old ≤ 64 → (e : LogRefusal) (new : List (StoreLog MemDisk)) → StopsOpening keeps_rules mem_state failures_of read e old new → NotOpened e new
  not_opened upto e new (inl none) = record {
    cause = at_once upto e none.0;
    len_so = ap length none.1;
    each_so = subst (AllDown g h s) (sym none.1) each;
  }
  not_opened upto e new (inr stops) = files_stopped e new stops
