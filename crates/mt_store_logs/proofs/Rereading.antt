-- A store's logs and slots that are read a second time, call by call.
use Rattle.std.proofs.Common.{◌≡◌, ◌≢◌, ◌⊎◌, ⊎_elim, ℕ, zero, suc, ◌+◌, ◌<◌, Bool, true, false, IsTrue, ◌&&◌, List, [], ◌∷◌, length, map, refl, sym, ◌∙◌, ap, subst, arith, Option, Some, None}
use Rattle.std.proofs.lemmas.{Option.{same_Some, none-some}}
use Rattle.std.specs.{Prelude.{slice_get, slice_set, Result, Ok, Err, is_none, IfOk}, Option.option_map}
use Rattle.mt_disk.specs.Disk.{DiskState, LeavesOnly}
use Rattle.mt_log.specs.declared.{batch.{LogBatch.LogBatch, ReadBatch.ReadBatch}, fault.ReadFault.ReadFault}
use Rattle.mt_crashes.{specs.{Bases.CheckpointView, SlotDisks.view_of_walk}}
use Rattle.mt_checkpoint.specs.{declared.checkpoint.Checkpoint.Checkpoint, Checkpoints.{Walk, walk_of, IsOneOf}}
use Rattle.mt_recover.specs.{Pairs.view_of, Sources.Gives}
use Rattle.mt_slots.specs.{declared.slot.Slot.Slot, declared.slot.Slot.TheVariants.{First, Second}, declared.store_slots.StoreSlots.StoreSlots, declared.fault.SlotFault.SlotFault}
use Rattle.mt_slots.specs.{Places.{Both, at, in_order, number_of}, Loads.{LoadsSlot, FailsToLoad}}
use Rattle.mt_slots.proofs.Settling.{loaded, not_loaded, loaded_so, only_one}
use Rattle.mt_checkpoint.specs.Slots.{ReadSlot}
use Rattle.mt_chain_files.specs.{declared.chain_reader.ChainReader.ChainReader, Rereads.{reader_from, IsNumbered, ChainIsAhead}}
use Rattle.mt_chain_files.proofs.Giving.{gives_on, files_after, files_same}
use Rattle.mt_rows.specs.declared.refusal.Refusal.{Refusal, TheVariants.{Memory, Device}}
use Rattle.mt_store_logs.specs.{declared.fault.StoreRefusal.StoreRefusal, declared.fault.StoreRefusal.TheVariants.{Logs as OfLogs}, declared.fault.LogRefusal.LogRefusal, declared.second_reading.SecondReading.SecondReading, declared.store_log.StoreLog.StoreLog}
use Rattle.mt_store_logs.specs.Rereads.{with_files, AreNumbered, KeepPlain, IsFault, LogIsRead, LogsAreRead, SlotsStay, AreReadAgain, IsLeft, Holds, Follows}
use Rattle.mt_store_logs.proofs.Loops.{set_cases, set_there, set_other, one_set, each_after}

-- ---- plain files

pub keep_plain_after : {D : Type 0} (old mid new : List (StoreLog D)) → KeepPlain old mid → KeepPlain mid new → KeepPlain old new
keep_plain_after old mid new first second =
    each_after (λ k was is. is.log.files.plain ≡ was.log.files.plain) (λ k was is. is.log.files.plain ≡ was.log.files.plain) (λ k was is. is.log.files.plain ≡ was.log.files.plain)
    old mid new (λ k a b c f g. g ∙ f) first second

pub keep_plain_same : {D : Type 0} (logs : List (StoreLog D)) → KeepPlain logs logs
keep_plain_same logs = record { len = refl; each = λ k was is below there then. ap (λ (l : StoreLog _). l.log.files.plain) (same_Some is was (sym then ∙ there)) }

-- readers of chains from a numbered generation on
reader_numbered : (g : ℕ) (begun : Bool) → 0 < g → IsNumbered (reader_from g (Some begun))
reader_numbered g true some = record { this = some; next = λ n is. (let same = same_Some (g + 1) n is in omega (arith, same)) }
reader_numbered g false some = record { this = some; next = λ n is. absurd (none-some n is) }

pub readers_numbered : (g : ℕ) (begun : List Bool) → 0 < g → AreNumbered (map (λ (b : Bool). reader_from g (Some b)) begun)
readers_numbered g [] some k r there = absurd (none-some r there)
readers_numbered g (b ∷ begun) some zero r there = subst IsNumbered (same_Some (reader_from g (Some b)) r there) (reader_numbered g b some)
readers_numbered g (b ∷ begun) some (suc k) r there = readers_numbered g begun some k r there

-- a log at a place was not read
pub at_fault : (place : ℕ) (refusal : Refusal) (e : LogRefusal) → e ≡ record { log = Some place; refusal = refusal } → (refusal ≡ Memory) ⊎ (refusal ≡ Device) → IsFault (OfLogs e)
at_fault place refusal e is why =
    subst (λ (x : LogRefusal). IsFault (OfLogs x)) (sym is) (why, λ none. absurd (none-some place (sym none)))

module _ {D : Type 0} (is_honest : D → Bool) (state : D → DiskState) (failures : D → ℕ) where
  -- ---- logs

  log_after : (a b : Bool) (old mid new : StoreLog D) → LogIsRead is_honest state failures a old mid → LogIsRead is_honest state failures b mid new
      → LogIsRead is_honest state failures (a && b) old new
  log_after a b old mid new first second = record {
    files = files_after is_honest state failures a b old.log.files mid.log.files new.log.files first.files second.files;
    rest = second.rest ∙ ap (with_files new.log.files) first.rest;
  }

  log_same : (well : Bool) (log : StoreLog D) → LogIsRead is_honest state failures well log log
  log_same well log = record { files = files_same is_honest state failures well log.log.files; rest = refl }

  pub logs_after : (a b : Bool) (old mid new : List (StoreLog D)) → LogsAreRead is_honest state failures a old mid → LogsAreRead is_honest state failures b mid new
      → LogsAreRead is_honest state failures (a && b) old new
  logs_after a b old mid new first second =
      each_after (λ k was is. LogIsRead is_honest state failures a was is) (λ k was is. LogIsRead is_honest state failures b was is)
      (λ k was is. LogIsRead is_honest state failures (a && b) was is) old mid new (λ k x y z f g. log_after a b x y z f g) first second

  pub logs_same : (well : Bool) (logs : List (StoreLog D)) → LogsAreRead is_honest state failures well logs logs
  logs_same well logs = record {
    len = refl;
    each = λ k was is below there then. subst (LogIsRead is_honest state failures well was) (same_Some was is (sym there ∙ then)) (log_same well was);
  }

  -- a call that reads the log at a place
  module _ (logs : List (StoreLog D)) (readers : List ChainReader) (place : ℕ) (was new : StoreLog D) (reader then : ChainReader) (there : slice_get logs place ≡ Some was)
      (at : slice_get readers place ≡ Some reader) where
    abbrev logs_now : List (StoreLog D)
    logs_now = slice_set logs place new

    abbrev readers_now : List ChainReader
    readers_now = slice_set readers place then

    pub logs_read : (well : Bool) → LogIsRead is_honest state failures well was new → LogsAreRead is_honest state failures well logs logs_now
    logs_read well read = one_set (λ k x y. LogIsRead is_honest state failures well x y) place logs new was (λ k x. log_same well x) there read

    pub plain_kept : (IsNumbered reader → IsNumbered then × (new.log.files.plain ≡ was.log.files.plain)) → AreNumbered readers → AreNumbered readers_now × KeepPlain logs logs_now
    plain_kept one all =
        let is = one (all place reader at) in (
          (λ k r on. ⊎_elim (λ l. subst IsNumbered (sym l.1) is.0) (λ o. all k r o.1) (set_cases readers place k then r on)),
          one_set (λ k x y. y.log.files.plain ≡ x.log.files.plain) place logs new was (λ k x. refl) there is.1,
        )

    pub others_left : (other : ℕ) (batches : List LogBatch) → other ≢ place → IsLeft is_honest state failures logs readers other batches
        → IsLeft is_honest state failures logs_now readers_now other batches
    others_left other batches apart left = record {
      log = left.log;
      there = set_other logs place other new apart ∙ left.there;
      reader = left.reader;
      reads = set_other readers place other then apart ∙ left.reads;
      ahead = left.ahead;
    }

    pub this_gives : (r : Result (Option ReadBatch) ReadFault) → place < length logs → place < length readers
        → IfOk r (λ given. (batches : List LogBatch) → ChainIsAhead is_honest state batches was.log.files reader
        → Gives (λ rest. ChainIsAhead is_honest state rest new.log.files then) batches (option_map (λ (b : ReadBatch). b.batch) given))
        → IfOk r (λ given. (batches : List LogBatch) → IsLeft is_honest state failures logs readers place batches
        → Gives (IsLeft is_honest state failures logs_now readers_now place) batches (option_map (λ (b : ReadBatch). b.batch) given))
    this_gives (Err e) within many each = tt
    this_gives (Ok given) within many each = λ batches left.
        gives_on (λ rest. ChainIsAhead is_honest state rest new.log.files then) (IsLeft is_honest state failures logs_now readers_now place)
        (λ rest ahead. record { log = new; there = set_there logs place new within; reader = then; reads = set_there readers place then many; ahead = ahead })
        batches (option_map (λ (b : ReadBatch). b.batch) given)
        (each batches
        (subst (λ (l : StoreLog D). ChainIsAhead is_honest state batches l.log.files reader) (same_Some left.log was (sym left.there ∙ there))
        (subst (λ (r : ChainReader). ChainIsAhead is_honest state batches left.log.log.files r) (same_Some left.reader reader (sym left.reads ∙ at)) left.ahead)))

  -- ---- slots

  pub stay_same : (slots : StoreSlots D) → SlotsStay is_honest state failures slots slots
  stay_same slots = record { keeps = λ mays keeps. keeps; newest = refl; owed = refl }

  pub stay_after : (old mid new : StoreSlots D) → SlotsStay is_honest state failures old mid → SlotsStay is_honest state failures mid new → SlotsStay is_honest state failures old new
  stay_after old mid new first second = record {
    keeps = λ mays keeps. second.keeps mays (first.keeps mays keeps);
    newest = second.newest ∙ first.newest;
    owed = second.owed ∙ first.owed;
  }

  pub loaded_stay : (slot : Slot) (old new : StoreSlots D) (x : Option Checkpoint) → LoadsSlot is_honest state failures slot old new x → SlotsStay is_honest state failures old new
  loaded_stay slot old new x l = record {
    keeps = λ mays keeps. loaded is_honest state failures mays old new keeps slot x l;
    newest = l.newest;
    owed = l.owed;
  }

  pub not_loaded_stay : (slot : Slot) (old new : StoreSlots D) (e : SlotFault) → FailsToLoad is_honest state failures slot e old new → SlotsStay is_honest state failures old new
  not_loaded_stay slot old new e l = record {
    keeps = λ mays keeps. not_loaded is_honest state failures mays old new keeps slot e l;
    newest = l.newest;
    owed = l.owed;
  }

  -- a slot that was read, and then read again, has what was read first
  twice : (a b c : D) (x y : Option Checkpoint) → ReadSlot is_honest state failures a b x → ReadSlot is_honest state failures b c y → ReadSlot is_honest state failures a c x
  twice a b c x y first second = record {
    format = first.format;
    tells = first.tells;
    settles = λ h may since leaves.
        let one = first.settles h may since leaves in
        let so = subst IsTrue (sym first.honest) h in
        let two = second.settles so may since one.leaves in
        let again = second.settles so (option_map walk_of x ∷ []) (state b) one.now in
        let same = only_one (option_map walk_of y) (option_map walk_of x) again.among in
        record { among = one.among; leaves = two.leaves; now = subst (λ (w : Option Walk). LeavesOnly (IsOneOf (w ∷ [])) (state c) (state c)) same two.now };
    count = second.count ∙ first.count;
    honest = second.honest ∙ first.honest;
  }

  pub read_again : (slot : Slot) (old new : StoreSlots D) (x : Option Checkpoint) → LoadsSlot is_honest state failures slot old new x → AreReadAgain is_honest state failures old new
  read_again First old new x l before found reads = record {
    each = elim [
      | First ↦ twice before.first old.first new.first found.first x (reads.each First) l.read
      | Second ↦ subst (λ (d : D). ReadSlot is_honest state failures before.second d found.second) (sym l.other) (reads.each Second)
    ];
    newest = l.newest ∙ reads.newest;
    owed = l.owed ∙ reads.owed;
  }
  read_again Second old new x l before found reads = record {
    each = elim [
      | First ↦ subst (λ (d : D). ReadSlot is_honest state failures before.first d found.first) (sym l.other) (reads.each First)
      | Second ↦ twice before.second old.second new.second found.second x (reads.each Second) l.read
    ];
    newest = l.newest ∙ reads.newest;
    owed = l.owed ∙ reads.owed;
  }

  -- what a slot holds is loaded
  same_view : (x y : Option Checkpoint) → option_map walk_of x ≡ option_map walk_of y → option_map view_of x ≡ option_map view_of y
  same_view x y same = sym (view_is x) ∙ ap (option_map view_of_walk) same ∙ view_is y
    where
      view_is : (x : Option Checkpoint) → option_map view_of_walk (option_map walk_of x) ≡ option_map view_of x
      view_is None = refl
      view_is (Some c) = refl

  held : (slot : Slot) (found : Both (Option Checkpoint)) (number : ℕ) (v : Option CheckpointView) → number ≡ number_of slot
      → slice_get (map (option_map view_of) (in_order found)) number ≡ Some v → option_map view_of (at slot found) ≡ v
  held First found number v same at_slot =
      same_Some (option_map view_of found.first) v (subst (λ (n : ℕ). slice_get (map (option_map view_of) (in_order found)) n ≡ Some v) same at_slot)
  held Second found number v same at_slot =
      same_Some (option_map view_of found.second) v (subst (λ (n : ℕ). slice_get (map (option_map view_of) (in_order found)) n ≡ Some v) same at_slot)

  pub gives_held : (slot : Slot) (old new : StoreSlots D) (x : Option Checkpoint) (number : ℕ) → number ≡ number_of slot → LoadsSlot is_honest state failures slot old new x
      → (v : Option CheckpointView) → Holds is_honest state failures old number v → option_map view_of x ≡ v
  gives_held slot old new x number same l v h =
      same_view x (at slot h.found) (loaded_so is_honest state failures h.found slot old new x h.keeps l) ∙ held slot h.found number v same h.is

  -- ---- the calls of a second reading

  and_true : (b : Bool) → (b && true) ≡ b
  and_true true = refl
  and_true false = refl

  and_false : (b : Bool) → (b && false) ≡ false
  and_false true = refl
  and_false false = refl

  module _ (start old new : SecondReading D) (same_logs : new.logs.ghost_name ≡ old.logs.ghost_name) (same_slots : new.slots.ghost_name ≡ old.slots.ghost_name)
      (plain : AreNumbered old.readers.now → AreNumbered new.readers.now × KeepPlain old.logs.now new.logs.now) (stay : SlotsStay is_honest state failures old.slots.now new.slots.now)
      (before : Follows is_honest state failures start old) where
    plain_after : AreNumbered start.readers.now → AreNumbered new.readers.now × KeepPlain start.logs.now new.logs.now
    plain_after numbered =
        let first = before.plain numbered in
        let second = plain first.0 in
        (second.0, keep_plain_after start.logs.now old.logs.now new.logs.now first.1 second.1)

    -- one that goes well
    pub follows_well : new.fault ≡ old.fault → LogsAreRead is_honest state failures true old.logs.now new.logs.now → AreReadAgain is_honest state failures old.slots.now new.slots.now
        → Follows is_honest state failures start new
    follows_well same read again = record {
      same_logs = same_logs ∙ before.same_logs;
      same_slots = same_slots ∙ before.same_slots;
      reads =
          subst (λ (b : Bool). LogsAreRead is_honest state failures b start.logs.now new.logs.now) (and_true (is_none old.fault) ∙ ap is_none (sym same))
          (logs_after (is_none old.fault) true start.logs.now old.logs.now new.logs.now before.reads read);
      plain = plain_after;
      stay = stay_after start.slots.now old.slots.now new.slots.now before.stay stay;
      well = λ none first found reads. again first found (before.well (sym same ∙ none) first found reads);
      why = λ e is. before.why e (sym same ∙ is);
    }

    -- one that fails
    pub follows_fault : (fault : StoreRefusal) → new.fault ≡ Some fault → IsFault fault → LogsAreRead is_honest state failures false old.logs.now new.logs.now
        → Follows is_honest state failures start new
    follows_fault fault is so read = record {
      same_logs = same_logs ∙ before.same_logs;
      same_slots = same_slots ∙ before.same_slots;
      reads =
          subst (λ (b : Bool). LogsAreRead is_honest state failures b start.logs.now new.logs.now) (and_false (is_none old.fault) ∙ ap is_none (sym is))
          (logs_after (is_none old.fault) false start.logs.now old.logs.now new.logs.now before.reads read);
      plain = plain_after;
      stay = stay_after start.slots.now old.slots.now new.slots.now before.stay stay;
      well = λ none. absurd (none-some fault (sym none ∙ is));
      why = λ e same. subst IsFault (same_Some fault e (sym is ∙ same)) so;
    }

  -- before any call
  pub follows_itself : (s : SecondReading D) → s.fault ≡ None → Follows is_honest state failures s s
  follows_itself s none = record {
    same_logs = refl;
    same_slots = refl;
    reads = logs_same (is_none s.fault) s.logs.now;
    plain = λ numbered. (numbered, keep_plain_same s.logs.now);
    stay = stay_same s.slots.now;
    well = λ same before found reads. reads;
    why = λ e is. absurd (none-some e (sym none ∙ is));
  }
