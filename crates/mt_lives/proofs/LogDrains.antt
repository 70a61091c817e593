-- What a flush makes of a worker's log, told drain by drain of the log over its three files. A contract tells it of the last log.
use Rattle.std.proofs.Common.{◌≡◌, ◌⊎◌, ℕ, zero, suc, ◌<◌, ◌≤◌, ◌%◌, ◌==◌, cond, true, false, Bool, refl, sym, ap, subst, ◌∙◌, inl, inr}
use Rattle.mt_rows.specs.{declared.record.Batch.Batch, declared.refusal.Refusal.Refusal, declared.refusal.Refusal.TheVariants.Memory}
use Rattle.mt_disk.specs.Disk.{DiskState}
use Rattle.mt_batches.specs.Batches.{IsBounded, BringsOn}
use Rattle.mt_recover.specs.declared.resuming.LogSlot.{LogSlot}
use Rattle.mt_log_files.specs.{declared.worker.WorkerFiles.WorkerFiles, Slots.{file_of, with_file}}
use Rattle.mt_turns.specs.{declared.worker_log.WorkerLog.WorkerLog, Logs.ReplacesLast}
use Rattle.mt_turns.proofs.Places.{file_is, file_again}
use Rattle.mt_store_logs.specs.{declared.last_log.LastLog.LastLog, declared.store_log.StoreLog.StoreLog}
use Rattle.mt_store_logs.specs.Places.{log_with, worker_of, slot_of, last_log_of, with_last, OnLast}
use Rattle.mt_store_logs.specs.Waits.{AppendsKept, FailsToAppend, AppendsNew, FailsToAppendNew, with_kept}
use Rattle.mt_store_logs.specs.Flushes.{DrainsIn, FailsToDrain, DrainsShort, HasDrained, Flushes, FailsToFlush}
use Rattle.mt_store_logs.specs.{Turns.{FindsNext, FindsNoNext, LooksForNext, ReopensLog, FailsToReopenLog}, LogTurns.{BringsUp, FailsToBringUp}}
use Rattle.mt_rows.specs.declared.refusal.Refusal.TheVariants as refusals

-- ---- the same words, of a worker's log

module _ {D S : Type 0} (is_honest : D → Bool) (state : D → DiskState) (failures : D → ℕ) (gives : S → S → ℕ → Batch → Type 0) (worker : ℕ) where
  -- its worker was drained once, towards a step, and the batch appended
  pub record DrainsLog (upto mark : ℕ) (old new : StoreLog D) (was is : S) : Type 0 where
    pub batch : Batch
    pub given : gives was is worker batch
    pub bounded : IsBounded batch
    pub brings : BringsOn upto batch
    pub appended : OnLast (AppendsNew is_honest state failures batch) old new
    pub told : mark ≡ batch.to

  -- it was not: the drain was refused memory
  pub record IsNotDrainedLog (e : Refusal) (old new : StoreLog D) (was is : S) : Type 0 where
    pub same_log : new ≡ old
    pub same : is ≡ was
    pub told : e ≡ Memory

  -- it was, and its batch waits
  pub record KeepsDrainedLog (e : Refusal) (old new : StoreLog D) (was is : S) : Type 0 where
    pub batch : Batch
    pub given : gives was is worker batch
    pub bounded : IsBounded batch
    pub fails : OnLast (FailsToAppendNew is_honest state failures e batch) old new

  abbrev pub FailsToDrainLog : Refusal → StoreLog D → StoreLog D → S → S → Type 0
  FailsToDrainLog e old new was is = IsNotDrainedLog e old new was is ⊎ KeepsDrainedLog e old new was is

  -- drains short of the step that was asked for
  abbrev pub DrainsLogShort : ℕ → ℕ → StoreLog D → StoreLog D → S → S → Type 0
  DrainsLogShort zero upto old new was is = (new ≡ old) × (is ≡ was)
  DrainsLogShort (suc n) upto old new was is =
      (mark : ℕ) × (mid : StoreLog D) × (between : S) × DrainsLogShort n upto old mid was between × DrainsLog upto mark mid new between is × (mark < upto)

  -- it was drained so, and once more
  pub record HasDrainedLog (upto mark : ℕ) (old new : StoreLog D) (was is : S) : Type 0 where
    pub times : ℕ
    pub mid : StoreLog D
    pub between : S
    pub short : DrainsLogShort times upto old mid was between
    pub last : DrainsLog upto mark mid new between is

  -- it was drained so far, and then not
  pub record FailsInLogDrains (upto : ℕ) (e : Refusal) (old new : StoreLog D) (was is : S) : Type 0 where
    pub times : ℕ
    pub mid : StoreLog D
    pub between : S
    pub short : DrainsLogShort times upto old mid was between
    pub fails : FailsToDrainLog e mid new between is

  -- the batch that waited was appended, and then the worker was drained
  pub record Drains (upto mark : ℕ) (old new : StoreLog D) (was is : S) : Type 0 where
    pub first : StoreLog D
    pub kept : OnLast (AppendsKept is_honest state failures) old first
    pub drains : HasDrainedLog upto mark first new was is
    pub reaches : upto ≤ mark

  -- it still waits
  pub record StillWaitsLog (e : Refusal) (old new : StoreLog D) (was is : S) : Type 0 where
    pub fails : OnLast (FailsToAppend is_honest state failures e) old new
    pub same : is ≡ was

  -- it was appended, and the worker was drained so far
  pub record StopsDrainingLog (upto : ℕ) (e : Refusal) (old new : StoreLog D) (was is : S) : Type 0 where
    pub first : StoreLog D
    pub kept : OnLast (AppendsKept is_honest state failures) old first
    pub fails : FailsInLogDrains upto e first new was is

  abbrev pub FailsToDrainUpto : ℕ → Refusal → StoreLog D → StoreLog D → S → S → Type 0
  FailsToDrainUpto upto e old new was is = StillWaitsLog e old new was is ⊎ StopsDrainingLog upto e old new was is

  -- a turn: the log is opened again, and then flushed
  pub record TurnsLog (upto mark : ℕ) (old new : StoreLog D) (was is : S) : Type 0 where
    pub mid : StoreLog D
    pub opens : ReopensLog is_honest state failures old mid
    pub flushes : Drains upto mark mid new was is

  -- it was not opened
  pub record IsNotOpenedLog (e : Refusal) (old new : StoreLog D) (was is : S) : Type 0 where
    pub fails : FailsToReopenLog is_honest state failures e old new
    pub same : is ≡ was

  -- it was, and then drained so far
  pub record IsNotDrainedUpto (upto : ℕ) (e : Refusal) (old new : StoreLog D) (was is : S) : Type 0 where
    pub mid : StoreLog D
    pub opens : ReopensLog is_honest state failures old mid
    pub fails : FailsToDrainUpto upto e mid new was is

  abbrev pub FailsToTurn : ℕ → Refusal → StoreLog D → StoreLog D → S → S → Type 0
  FailsToTurn upto e old new was is = IsNotOpenedLog e old new was is ⊎ IsNotDrainedUpto upto e old new was is

-- ---- a worker's log by its parts

-- one with the same parts is the same
pub same_parts : {D : Type 0} (a b : StoreLog D) → a.log ≡ b.log → a.kept ≡ b.kept → a.next_in_doubt ≡ b.next_in_doubt → a.oldest ≡ b.oldest → a ≡ b
same_parts a b log kept doubt oldest = λ i. record { log = log i; kept = kept i; next_in_doubt = doubt i; oldest = oldest i }

-- a log whose last one is put where it is, is the same
abbrev one_place : Bool → Bool → {D : Type 0} → WorkerFiles D → LogSlot D
one_place none even files = cond none files.plain (cond even files.even files.odd)

put_back : {D : Type 0} (none even : Bool) (files : WorkerFiles D)
    → cond none (record files { plain = one_place none even files }) (cond even (record files { even = one_place none even files }) (record files { odd = one_place none even files })) ≡ files
put_back true even files = refl
put_back false true files = refl
put_back false false files = refl

pub file_same : {D : Type 0} (g : ℕ) (files : WorkerFiles D) → with_file g (file_of g files) files ≡ files
file_same g files = put_back (g == 0) (g % 2 == 0) files

-- ---- what is told of last logs, told of a worker's log

module _ {D : Type 0} (base : StoreLog D) where
  -- a last log in its place
  abbrev placed : LastLog D → StoreLog D
  placed last = with_last last base

  -- and as that of this worker
  abbrev named : LastLog D → LastLog D
  named last = log_with (worker_of base) base.log.generation last.slot last.kept

  abbrev with_files : WorkerFiles D → WorkerLog D
  with_files files = record base.log { generation = base.log.generation; files = files }

  abbrev on_file : LogSlot D → WorkerFiles D → WorkerFiles D
  on_file slot files = with_file base.log.generation slot files

  slot_there : (last : LastLog D) → slot_of (placed last) ≡ last.slot
  slot_there last = file_is base.log.generation last.slot base.log.files

  last_there : (last : LastLog D) → last_log_of (placed last) ≡ named last
  last_there last = ap (λ (s : LogSlot D). log_with (worker_of base) base.log.generation s last.kept) (slot_there last)

  between : (Does : LastLog D → LastLog D → Type 0) (a b : LastLog D) → Does (named a) (named b) → OnLast Does (placed a) (placed b)
  between Does a b does = record {
    does =
        subst (λ (l : LastLog D). Does l (last_log_of (placed b))) (sym (last_there a))
        (subst (Does (named a)) (sym (last_there b)) does);
    rest =
        sym (ap with_files (file_again base.log.generation b.slot a.slot base.log.files))
        ∙ ap (λ (s : LogSlot D). with_files (on_file s (on_file a.slot base.log.files))) (sym (slot_there b));
    doubts = refl;
    oldest = refl;
  }

  -- from the log itself
  to_first : (Does : LastLog D → LastLog D → Type 0) (b : LastLog D) → Does (last_log_of base) (named b) → OnLast Does base (placed b)
  to_first Does b does = record {
    does = subst (Does (last_log_of base)) (sym (last_there b)) does;
    rest = ap (λ (s : LogSlot D). with_files (on_file s base.log.files)) (sym (slot_there b));
    doubts = refl;
    oldest = refl;
  }

  -- to one that stands
  module _ (new : StoreLog D) (rest : ReplacesLast (slot_of new) base.log new.log) (doubts : new.next_in_doubt ≡ base.next_in_doubt) (oldest : new.oldest ≡ base.oldest) where
    end_named : named (last_log_of new) ≡ last_log_of new
    end_named = λ i. log_with (sym (ap (λ (l : WorkerLog D). l.owner.worker) rest) i) (sym (ap (λ (l : WorkerLog D). l.generation) rest) i) (slot_of new) new.kept

    to_end : (Does : LastLog D → LastLog D → Type 0) (a : LastLog D) → Does (named a) (named (last_log_of new)) → OnLast Does (placed a) new
    to_end Does a does = record {
      does =
          subst (λ (l : LastLog D). Does l (last_log_of new)) (sym (last_there a))
          (subst (Does (named a)) end_named does);
      rest = rest ∙ sym (ap with_files (file_again base.log.generation (slot_of new) a.slot base.log.files));
      doubts = doubts;
      oldest = oldest;
    }

    same_end : (a : LastLog D) → last_log_of new ≡ a → new ≡ placed a
    same_end a same = same_parts new (placed a)
        (rest ∙ ap (λ (l : LastLog D). with_files (on_file l.slot base.log.files)) same)
        (ap (λ (l : LastLog D). l.kept) same)
        doubts oldest

  module _ (is_honest : D → Bool) (state : D → DiskState) (failures : D → ℕ) where
    -- appends tell of the place and of the batch that waits alone
    kept_named : (a b : LastLog D) → AppendsKept is_honest state failures a b → AppendsKept is_honest state failures (named a) (named b)
    kept_named a b r = record { takes = r.takes; none = r.none }

    not_kept_named : (e : Refusal) (a b : LastLog D) → FailsToAppend is_honest state failures e a b → FailsToAppend is_honest state failures e (named a) (named b)
    not_kept_named refusals.Device a b (inl shut) = inl (shut.0, ap named shut.1)
    not_kept_named refusals.Device a b (inr c) = inr (record { batch = c.batch; waited = c.waited; waits = c.waits; fails = c.fails })
    not_kept_named refusals.Memory a b s = record {
      same = ap named s.same;
      batch = s.batch;
      waits = s.waits;
      mark = s.mark;
      open_up_to = s.open_up_to;
      beyond = s.beyond;
      holds = s.holds;
    }
    not_kept_named (refusals.WrongTurn mark) a b s = record {
      same = ap named s.same;
      batch = s.batch;
      waits = s.waits;
      mark = s.mark;
      open_up_to = s.open_up_to;
      beyond = s.beyond;
      holds = s.holds;
    }
    not_kept_named e a b f = absurd f

    new_named : (batch : Batch) (a b : LastLog D) → AppendsNew is_honest state failures batch a b → AppendsNew is_honest state failures batch (named a) (named b)
    new_named batch a b r = record { turn = r.turn; appends = record { takes = r.appends.takes; none = r.appends.none }; mark = r.mark }

    not_new_named : (e : Refusal) (batch : Batch) (a b : LastLog D) → FailsToAppendNew is_honest state failures e batch a b
        → FailsToAppendNew is_honest state failures e batch (named a) (named b)
    not_new_named e batch a b (inl f) = inl (not_kept_named e (with_kept batch a) b f)
    not_new_named e batch a b (inr out) = inr (record { mark = out.mark; told = out.told; open_up_to = out.open_up_to; elsewhere = out.elsewhere; waits = ap named out.waits })

    module _ {S : Type 0} (gives : S → S → ℕ → Batch → Type 0) (worker upto : ℕ) where
      once : (mark : ℕ) (a b : LastLog D) (was is : S) → DrainsIn is_honest state failures gives worker upto mark a b was is
          → DrainsLog is_honest state failures gives worker upto mark (placed a) (placed b) was is
      once mark a b was is d = record {
        batch = d.batch;
        given = d.given;
        bounded = d.bounded;
        brings = d.brings;
        appended = between (AppendsNew is_honest state failures d.batch) a b (new_named d.batch a b d.appended);
        told = d.told;
      }

      short : (n : ℕ) (a b : LastLog D) (was is : S) → DrainsShort is_honest state failures gives worker n upto a b was is
          → DrainsLogShort is_honest state failures gives worker n upto (placed a) (placed b) was is
      short zero a b was is s = (ap placed s.0, s.1)
      short (suc n) a b was is (mark, mid, middle, rest, d, less) = (mark, placed mid, middle, short n a mid was middle rest, once mark mid b middle is d, less)

      module _ (new : StoreLog D) (rest : ReplacesLast (slot_of new) base.log new.log) (doubts : new.next_in_doubt ≡ base.next_in_doubt) (oldest : new.oldest ≡ base.oldest) where
        has : (mark : ℕ) (a : LastLog D) (was is : S) → HasDrained is_honest state failures gives worker upto mark a (last_log_of new) was is
            → HasDrainedLog is_honest state failures gives worker upto mark (placed a) new was is
        has mark a was is h = record {
          times = h.times;
          mid = placed h.mid;
          between = h.between;
          short = short h.times a h.mid was h.between h.short;
          last =
              let d = h.last in
              record {
                batch = d.batch;
                given = d.given;
                bounded = d.bounded;
                brings = d.brings;
                appended = to_end new rest doubts oldest (AppendsNew is_honest state failures d.batch) h.mid (new_named d.batch h.mid (last_log_of new) d.appended);
                told = d.told;
              };
        }

        not_drained : (e : Refusal) (a : LastLog D) (was is : S) → FailsToDrain is_honest state failures gives worker e a (last_log_of new) was is
            → FailsToDrainLog is_honest state failures gives worker e (placed a) new was is
        not_drained e a was is (inl none) = inl (record { same_log = same_end new rest doubts oldest a none.same_log; same = none.same; told = none.told })
        not_drained e a was is (inr k) = inr (record {
          batch = k.batch;
          given = k.given;
          bounded = k.bounded;
          fails = to_end new rest doubts oldest (FailsToAppendNew is_honest state failures e k.batch) a (not_new_named e k.batch a (last_log_of new) k.fails);
        })

        drains : (mark : ℕ) (was is : S) → Flushes is_honest state failures gives worker upto mark (last_log_of base) (last_log_of new) was is
            → Drains is_honest state failures gives worker upto mark base new was is
        drains mark was is f = record {
          first = placed f.first;
          kept = to_first (AppendsKept is_honest state failures) f.first (kept_named (last_log_of base) f.first f.kept);
          drains = has mark f.first was is f.drains.0;
          reaches = f.drains.1;
        }

        not_upto : (e : Refusal) (was is : S) → FailsToFlush is_honest state failures gives worker upto e (last_log_of base) (last_log_of new) was is
            → FailsToDrainUpto is_honest state failures gives worker upto e base new was is
        not_upto e was is (inl w) = inl (record { fails = record { does = w.fails; rest = rest; doubts = doubts; oldest = oldest }; same = w.same })
        not_upto e was is (inr s) = inr (record {
          first = placed s.first;
          kept = to_first (AppendsKept is_honest state failures) s.first (kept_named (last_log_of base) s.first s.kept);
          fails = record {
            times = s.fails.times;
            mid = placed s.fails.mid;
            between = s.fails.between;
            short = short s.fails.times s.first s.fails.mid was s.fails.between s.fails.short;
            fails = not_drained e s.fails.mid s.fails.between is s.fails.fails;
          };
        })

-- ---- a flush, and a turn

module _ {D S : Type 0} (is_honest : D → Bool) (state : D → DiskState) (failures : D → ℕ) (gives : S → S → ℕ → Batch → Type 0) (worker upto : ℕ) where
  -- whose log it is stays
  same_worker : {Does : LastLog D → LastLog D → Type 0} (old new : StoreLog D) → OnLast Does old new → worker_of new ≡ worker_of old
  same_worker old new on = ap (λ (l : WorkerLog D). l.owner.worker) on.rest

  looked_worker : (old new : StoreLog D) → LooksForNext is_honest state failures old new → worker_of new ≡ worker_of old
  looked_worker old new (inl same) = ap worker_of same.1
  looked_worker old new (inr looked) = by looked.1.does
    where
      by : FindsNext is_honest state failures old.log new.log ⊎ FindsNoNext is_honest state failures old.log new.log → worker_of new ≡ worker_of old
      by (inl found) = ap (λ (l : WorkerLog D). l.owner.worker) found.stands
      by (inr none) = ap (λ (l : WorkerLog D). l.owner.worker) none.stands

  reopened_worker : (old new : StoreLog D) → ReopensLog is_honest state failures old new → worker_of new ≡ worker_of old
  reopened_worker old new r = same_worker r.mid new r.reopens ∙ looked_worker old r.mid r.looks

  pub log_drains : (mark : ℕ) (old new : StoreLog D) (was is : S) → worker_of old ≡ worker
      → OnLast (λ a b. Flushes is_honest state failures gives (worker_of old) upto mark a b was is) old new
      → Drains is_honest state failures gives worker upto mark old new was is
  log_drains mark old new was is whose on =
      subst (λ w. Drains is_honest state failures gives w upto mark old new was is) whose
      (drains old is_honest state failures gives (worker_of old) upto new on.rest on.doubts on.oldest mark was is on.does)

  pub log_not_drained : (e : Refusal) (old new : StoreLog D) (was is : S) → worker_of old ≡ worker
      → OnLast (λ a b. FailsToFlush is_honest state failures gives (worker_of old) upto e a b was is) old new
      → FailsToDrainUpto is_honest state failures gives worker upto e old new was is
  log_not_drained e old new was is whose on =
      subst (λ w. FailsToDrainUpto is_honest state failures gives w upto e old new was is) whose
      (not_upto old is_honest state failures gives (worker_of old) upto new on.rest on.doubts on.oldest e was is on.does)

  pub log_turns : (mark : ℕ) (old new : StoreLog D) (was is : S) → worker_of old ≡ worker → BringsUp is_honest state failures gives upto mark old new was is
      → TurnsLog is_honest state failures gives worker upto mark old new was is
  log_turns mark old new was is whose b = record {
    mid = b.mid;
    opens = b.opens;
    flushes = log_drains mark b.mid new was is (reopened_worker old b.mid b.opens ∙ whose) b.flushes;
  }

  pub log_not_turned : (e : Refusal) (old new : StoreLog D) (was is : S) → worker_of old ≡ worker → FailsToBringUp is_honest state failures gives upto e old new was is
      → FailsToTurn is_honest state failures gives worker upto e old new was is
  log_not_turned e old new was is whose (inl shut) = inl (record { fails = shut.fails; same = shut.same })
  log_not_turned e old new was is whose (inr not) = inr (record {
    mid = not.mid;
    opens = not.opens;
    fails = log_not_drained e not.mid new was is (reopened_worker old not.mid not.opens ∙ whose) not.fails;
  })
