-- The files of all logs, taken out, opened and put back.
use Rattle.std.proofs.Common.{◌≡◌, inl, inr, ⊎_elim, ℕ, ◌+◌, ◌<◌, Bool, List, [], ◌∷◌, ◌++◌, take, drop, length, refl, ◌∙◌, ap, subst, arith, Option, Some, None}
use Rattle.std.specs.Prelude.{slice_get}
use Rattle.mt_disk.specs.Disk.{DiskState}
use Rattle.mt_crashes.{specs.{Bases.Slots}, proofs.Invariant.within_place}
use Rattle.mt_generations.specs.{Standings.{Standing, AgreeFrom, IsLast, HaveNoChoice}}
use Rattle.mt_chains.specs.declared.worker_logs.WorkerLogs.{WorkerLogs}
use Rattle.mt_log_files.specs.declared.worker.WorkerFiles.{WorkerFiles}
use Rattle.mt_chain_files.specs.{declared.fault.FilesFault.FilesFault, Plain.{StopsPlainFilesAt}}
use Rattle.mt_chain_files.specs.Chosen.{RefuseToBegin, ReadsPlain, ReadsFiles, StopsChains}
use Rattle.mt_chain_files.proofs.{Loops.written, Agreeing.{count_numbered, count_not_numbered}}
use Rattle.mt_store_logs.specs.{declared.store_log.StoreLog.StoreLog, Lists.Each, Taking.{IsEmptied, HaveTheirFiles, StopsOpening}}
use Rattle.mt_store_logs.proofs.Loops.{get_within}
use Rattle.mt_rows.specs.declared.refusal.Refusal.TheVariants as refusals

-- ---- logs without files

-- files that were put into emptied logs are those of the logs as they were before
pub files_back : {D : Type 0} (g : ℕ) (begun : List Bool) (files : List (WorkerFiles D)) (old mid new : List (StoreLog D)) → Each (λ k was is. IsEmptied was is) old mid
    → HaveTheirFiles g begun files mid new → HaveTheirFiles g begun files old new
files_back g begun files old mid new emptied back = record {
  len = back.len ∙ emptied.len;
  each = λ k was is below there then.
      let len = emptied.len in
      let within : k < length mid = omega (arith, below, len) in
      let between = within_place mid k within in
      let e = emptied.each k was between.0 below there between.1 in
      let has = back.each k between.0 is within between.1 then in
      record {
        one = has.one;
        there = has.there;
        stands = record {
          worker = has.stands.worker ∙ e.away.worker;
          logs = has.stands.logs ∙ e.away.logs;
          generation = has.stands.generation;
          files = has.stands.files;
        };
        oldest = has.oldest;
        rest = has.rest;
      };
}

-- the same, of a list of files that was written through a slice of all of it
pub put_back : {D : Type 0} (g : ℕ) (begun told : List Bool) (len : ℕ) (files items : List (WorkerFiles D)) (old mid new : List (StoreLog D))
    → Each (λ k was is. IsEmptied was is) old mid → HaveTheirFiles g told (take len (files ++ drop (length files) items)) mid new → told ≡ begun
    → len ≡ length items → length files ≡ length items → HaveTheirFiles g begun files old new
put_back {D} g begun told len files items old mid new emptied back same count many =
    files_back g begun files old mid new emptied
    (subst (λ (fs : List (WorkerFiles D)). HaveTheirFiles g begun fs mid new) (written len files items count many)
    (subst (λ (b : List Bool). HaveTheirFiles g b (take len (files ++ drop (length files) items)) mid new) same back))

-- no batch waits for an emptied log
pub keep_none : {D : Type 0} (old mid : List (StoreLog D)) → Each (λ k was is. IsEmptied was is) old mid
    → (k : ℕ) (log : StoreLog D) → slice_get mid k ≡ Some log → log.kept ≡ None
keep_none old mid emptied k log there =
    let within = get_within mid k log there in
    let len = emptied.len in
    let below : k < length old = omega (arith, within, len) in
    let was = within_place old k below in
    (emptied.each k was.0 log below was.1 there).rest.none

module _ {D : Type 0} (is_honest : D → Bool) (state : D → DiskState) (failures : D → ℕ) (slots : Slots) where
  -- ---- an opening leaves as many files

  count_plain : (between new : List (WorkerFiles D)) (first logs : List WorkerLogs) → ReadsPlain is_honest state failures slots between new first logs
      → length new ≡ length between
  count_plain between new first logs (inl read) = read.1.len
  count_plain between new first logs (inr unread) = ap length unread.1

  count_read : (old new : List (WorkerFiles D)) → ReadsFiles is_honest state failures slots old new → length new ≡ length old
  count_read old new r = count_plain r.between new r.first r.logs r.plain ∙ count_numbered is_honest state failures slots old r.between r.first r.numbered

  pub count_stops : (e : FilesFault) (old new : List (WorkerFiles D)) → StopsChains is_honest state failures slots e old new → length new ≡ length old
  count_stops e old new (inl numbered) = count_not_numbered is_honest state failures slots e old new numbered
  count_stops e old new (inr (inl plain)) = by e.log plain.plain.1 ∙ count_numbered is_honest state failures slots old plain.between plain.first plain.numbered
    where
      by : (place : Option ℕ) → StopsPlainFilesAt is_honest state failures place e.refusal plain.between new → length new ≡ length plain.between
      by None stops = absurd stops
      by (Some place) stops = stops.len
  count_stops e old new (inr (inr refused)) = count_read old new refused.reads

  -- ---- no log

  no_last : (g : ℕ) → ¬ IsLast g []
  no_last g last = let over = last.1 (g + 1) (λ f at. absurd at) in omega (arith, over)

  no_choice : HaveNoChoice [] slots
  no_choice g chains chosen = ⊎_elim (λ last. no_last g last) (λ next. no_last (g + 1) next.0) chosen.2

  none_begin : (standings : List Standing) → AgreeFrom 1 [] standings → RefuseToBegin standings slots (record { log = None; refusal = refusals.LogCount })
  none_begin [] agree = inl (inl no_choice, refl)
  none_begin (f ∷ standings) agree = absurd agree

  -- no log is no store
  pub none_stop : (logs : List (StoreLog D)) → length logs ≡ 0 → StopsOpening is_honest state failures slots (record { log = None; refusal = refusals.LogCount }) logs logs
  none_stop (log ∷ logs) none = absurd (omega (arith, none))
  none_stop [] none = inr (record {
    files = [];
    stops = inr (inr (record {
      reads = record {
        between = [];
        first = [];
        numbered = record {
          told = [];
          looked = [];
          looks = record { count = refl; each = record { len = refl; each = λ k was is below. absurd (omega (arith, below)) } };
          counting = record {
            from = 0;
            before = [];
            comes = inr (refl, ([], record { count = refl; each = record { len = refl; each = λ k was is below. absurd (omega (arith, below)) } }, no_choice));
            opens = record { count = refl; each = record { len = refl; each = λ k was is below. absurd (omega (arith, below)) } };
            enough = inl (omega arith);
          };
        };
        logs = [];
        plain = inr (λ need. ⊎_elim (λ never. never 0 (λ f at. absurd at)) (λ last. no_last 1 last.0) need, refl, refl);
      };
      why = inr (λ standings may. none_begin standings may.1);
    }));
    back = record { len = refl; each = λ k was is below. absurd (omega (arith, below)) };
  })

  -- nor are too many
  pub many_stop : (logs : List (StoreLog D)) → 64 < length logs → StopsOpening is_honest state failures slots (record { log = None; refusal = refusals.LogCount }) logs logs
  many_stop logs over = inl (inr (refl, over), refl)
