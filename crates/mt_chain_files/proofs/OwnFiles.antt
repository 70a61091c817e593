-- A store's own log files: what was read of them stands for whole logs, and they are never refused.
use Rattle.std.proofs.Common.{◌≡◌, ◌⊎◌, inl, inr, ⊎_elim, ℕ, zero, suc, ◌+◌, ◌<◌, ◌≤◌, max, Bool, List, [], ◌∷◌, length, map, refl, sym, ◌∙◌, ap, subst, arith, Option, Some, None}
use Rattle.std.proofs.lemmas.{List.length-map, Option.same_Some}
use Rattle.std.specs.{Prelude.slice_get, List.AllZip, Option.option_map}
use Rattle.mt_rows.specs.declared.refusal.Refusal.{Refusal}
use Rattle.mt_disk.specs.Disk.{DiskState}
use Rattle.mt_log_generations.specs.declared.header.{Parity.Parity, Parity.TheVariants.{Even, Odd}}
use Rattle.mt_log.specs.{declared.batch.Front.Front, Contents.{Contents, contents_of}}
use Rattle.mt_crashes.specs.{Fronts.In, Bases.Slots, Stores.{Store, LogNow, at_rest, MayLeaveFront, MayLeaveFronts, MayLeaveSlots}, Invariants.IsStore}
use Rattle.mt_crashes.proofs.{Members.{no_some, place_in}, Invariant.{zip_left, zip_right, within_place, map_place, place_map}}
use Rattle.mt_generations.specs.Chains.{Chain}
use Rattle.mt_generations.specs.{Standings.{Standing, chain_from, AreFrom, AllHave, AgreeFrom, CanBegin, IsChosen, HaveNoChoice, StandsFor}, Turns.{StandsWhole, KeepsLog}}
use Rattle.mt_generations.proofs.{Deciding.{first_there, have_all, have_or_not, can_or_not}, Choices.older_unread, Moments.kept_whole, Left.is_chosen, Ends.{chosen_ends, never_falls}}
use Rattle.mt_recover.specs.declared.resuming.LogSlot.{LogSlot}
use Rattle.mt_chains.specs.{declared.worker_logs.WorkerLogs.WorkerLogs, Files.{standing_of as read_of, SameNumbered, AreOwned}, Testing.is_there}
use Rattle.mt_log_files.specs.declared.worker.WorkerFiles.{WorkerFiles}
use Rattle.mt_log_files.specs.Slots.{disk_in, OpensPlain, FailsToOpenPlain, OpensNumbered}
use Rattle.mt_log_files.specs.{Shows.IsHonest, Files.{FileNow, Spare, Has, MayHave, MayLeaveFile, found_as, ShowsFile}}
use Rattle.mt_log_files.specs.Workers.{standing_of, Found, AllHaveFiles, MayLeaveFiles, standings_of}
use Rattle.mt_log_files.proofs.WorkerLaws.{all_stand}
use Rattle.mt_log_files.proofs.FileLaws as numbered_files
use Rattle.mt_chain_files.specs.{declared.fault.FilesFault.FilesFault, declared.opening.Chains.Chains}
use Rattle.mt_chain_files.specs.declared.headers.Told.{Told}
use Rattle.mt_chain_files.specs.Headers.{first_counting, LooksAtWorker, FailsToLookAtWorker, LooksAtFiles, StopsLooking}
use Rattle.mt_chain_files.specs.{Numbered.{IsOlder, OpensFrom, OpensWorker, FailsToOpenWorker, OpensNumberedFiles, StopsNumberedFiles}, Plain.{OpensPlainAs, OpensPlainFiles, StopsPlainFiles}}
use Rattle.mt_chain_files.specs.Rounds.{HasChoice, ComesTo}
use Rattle.mt_chain_files.specs.{Chosen.{begun_in, NeedPlain, FallAt, RefuseToBegin, ReadsPlain, StopsPlain, OpensChains, StopsChains}, Lasts.last_generation_of}
use Rattle.mt_chain_files.specs.Turns.{FilesNow, now_of, pair_of, IsOfGeneration, AreOfTurn, StaysWhole, HasLast, IsLastOfTurn, StaySpare, ShowsPlain, ShowFiles, ComeToRest, StayTheirs}
use Rattle.mt_chain_files.proofs.Loops.{get_within, at_place, zip_of, zip_count, before_or_after}
use Rattle.mt_chain_files.proofs.Agreeing.{agree_self, NoneFirst, over_zero, none_first, choice_unneeded, strange_agree, fall_agree}
use Rattle.mt_chain_files.proofs.Faults.{IsOutside, plain_found, plain_failed, numbered_failed}
use Rattle.mt_chain_files.proofs.Narrowing.{NarrowsFile, Narrows, ShowsNarrower, narrow_again, spare_again, stay_theirs, stays_narrow}
use Rattle.mt_chain_files.proofs.Starts.{HasFrom, all_have_chains}
use Rattle.mt_chain_files.proofs.Reading.{first_in, second_in, after_of, after_turn, least, least_left, found_first, found_none, ReadOf, FoundOf, FoundIn, Tells, found_of, stands_less}
use Rattle.mt_chain_files.proofs.Passing.{first_below, TellsBoth, TellAll, read_both, shown_both, SeenAt, seen_at}
use Rattle.mt_chain_files.proofs.Resting.{last_of_turn, stay_spare}
use Rattle.mt_rows.specs.declared.refusal.Refusal.TheVariants as refusals

-- ---- what stands of one worker's whole log

-- a log of the generation two after one that stands does not stand
none_two_on : (g h : ℕ) (log : Contents) (f : Standing) → StandsFor g log f → (a c : Chain) → f h ≡ Some a → f (h + 2) ≡ Some c → ⊥
none_two_on g h log f stands a c first later =
    let one = stands.no_other h a first in
    let two = stands.no_other (h + 2) c later in
    ⊎_elim (λ (e : h ≡ g). ⊎_elim (λ (d : h + 2 ≡ g). omega (arith, e, d)) (λ d. omega (arith, e, d)) two)
    (λ e. ⊎_elim (λ (d : h + 2 ≡ g). omega (arith, e, d)) (λ d. omega (arith, e, d)) two) one

-- each log that stands is of its worker
log_owner : (g : ℕ) (log : Contents) (f : Standing) → StandsFor g log f → (n : ℕ) (c : Chain) → f n ≡ Some c → (c.worker ≡ log.worker) × (c.logs ≡ log.logs)
log_owner g log f stands n c has =
    ⊎_elim
    (λ (e : n ≡ g). (stands.has_first c (ap f (sym e) ∙ has)).owner)
    (λ e. (stands.has_next c (ap f (sym e) ∙ has)).owner)
    (stands.no_other n c has)

part_owner : (g : ℕ) (log : Contents) (f : Standing) → StandsFor g log f → (n : ℕ) (c : Chain) → (f n ≡ Some c) ⊎ (f (n + 1) ≡ Some c)
    → (c.worker ≡ log.worker) × (c.logs ≡ log.logs)
part_owner g log f stands n c (inl has) = log_owner g log f stands n c has
part_owner g log f stands n c (inr has) = log_owner g log f stands (n + 1) c has

-- ---- all workers

have_files : (g : ℕ) (logs : List LogNow) (files : List FilesNow) → AllZip (AreOfTurn g) logs files → AllHaveFiles g logs (map (pair_of g) files)
have_files g [] [] turn = tt
have_files g [] (f ∷ files) turn = absurd turn
have_files g (now ∷ logs) [] turn = absurd turn
have_files g (now ∷ logs) (f ∷ files) turn = (turn.0.are, have_files g logs files turn.1)

all_less : (g : ℕ) (fronts : List Contents) (fs es : List Standing) → AllZip (StandsFor g) fronts fs → AllZip Tells fs es → AllZip (StandsFor g) fronts es
all_less g [] [] [] stand tells = tt
all_less g [] [] (e ∷ es) stand tells = absurd tells
all_less g [] (f ∷ fs) es stand tells = absurd stand
all_less g (c ∷ fronts) [] es stand tells = absurd stand
all_less g (c ∷ fronts) (f ∷ fs) [] stand tells = absurd tells
all_less g (c ∷ fronts) (f ∷ fs) (e ∷ es) stand tells = (stands_less g c f e tells.0 stand.0, all_less g fronts fs es stand.1 tells.1)

-- what was read of all files is what a crash left
found_all : (g : ℕ) (logs : List LogNow) (files : List FilesNow) (read : List WorkerLogs) → AllZip (AreOfTurn g) logs files → AllZip (ReadOf g) files read → AllZip (FoundIn g) files read
found_all g [] [] [] turn all = tt
found_all g [] [] (w ∷ read) turn all = absurd all
found_all g [] (f ∷ files) read turn all = absurd turn
found_all g (now ∷ logs) [] read turn all = absurd turn
found_all g (now ∷ logs) (f ∷ files) [] turn all = absurd all
found_all g (now ∷ logs) (f ∷ files) (w ∷ read) turn all = (found_of f w g now turn.0 all.0, found_all g logs files read turn.1 all.1)

-- those that were spare are
all_spare : (g : ℕ) (files : List FilesNow) (read : List WorkerLogs) → AllZip (ReadOf g) files read → AllZip StaySpare files (map after_of read)
all_spare g [] [] all = tt
all_spare g [] (w ∷ read) all = absurd all
all_spare g (f ∷ files) [] all = absurd all
all_spare g (f ∷ files) (w ∷ read) all = (stay_spare g f w all.0, all_spare g files read all.1)

-- what is known of each worker's files: what they are once they were opened, and which logs stand
module _ {A : Type 0} (after : A → FilesNow) (stands : A → Standing) (g : ℕ) where
  abbrev pub IsFound : FilesNow → A → Type 0
  IsFound f one = FoundOf g f (after one) (stands one)

  -- what a crash left of all files
  all_found : (files : List FilesNow) (read : List A) → AllZip IsFound files read
      → (found : List Found) × MayLeaveFiles (map (pair_of g) files) found × AllZip Tells (standings_of g found) (map stands read)
  all_found [] [] all = ([], tt, tt)
  all_found [] (w ∷ read) all = absurd all
  all_found (f ∷ files) [] all = absurd all
  all_found (f ∷ files) (w ∷ read) all =
      let one = all.0 in
      let rest = all_found files read all.1 in
      ((one.x, one.y) ∷ rest.0, ((one.left_x, one.left_y), rest.1), (one.tells, rest.2))

  -- and these are of the turn then, and rest
  all_rest : (fronts : List Contents) (files : List FilesNow) (read : List A) → AllZip IsFound files read → AllZip (StandsFor g) fronts (map stands read)
      → AllZip (AreOfTurn g) (map at_rest fronts) (map after read)
  all_rest [] files [] all stand = tt
  all_rest [] files (w ∷ read) all stand = absurd stand
  all_rest (c ∷ fronts) files [] all stand = absurd stand
  all_rest (c ∷ fronts) [] (w ∷ read) all stand = absurd all
  all_rest (c ∷ fronts) (f ∷ files) (w ∷ read) all stand = (after_turn g f (after w) (stands w) c all.0 stand.0, all_rest fronts files read all.1 stand.1)

  -- ---- the worker at a place

  module _ (fronts : List Contents) (files : List FilesNow) (read : List A) (all : AllZip IsFound files read) (stand : AllZip (StandsFor g) fronts (map stands read)) (h : ℕ)
      (chains : List Chain) (are : AreFrom h (map stands read) chains) where
    -- its last log is in its file
    last_at : (k : ℕ) (whole : Contents) (one : A) → slice_get fronts k ≡ Some whole → slice_get read k ≡ Some one
        → HasLast (last_generation_of h (Some (is_there (stands one (h + 1))))) whole (after one)
        × IsLastOfTurn g (last_generation_of h (Some (is_there (stands one (h + 1))))) (after one)
    last_at k whole one there then =
        let place = place_map stands read k one then in
        let f = zip_right IsFound files read k one all then in
        let log = zip_right (StandsFor g) fronts (map stands read) k (stands one) stand place in
        let stands_so : StandsFor g whole (stands one) = subst (λ (c : Contents). StandsFor g c (stands one)) (same_Some log.0 whole (sym log.1 ∙ there)) log.2 in
        let chain = zip_left (λ (s : Standing) (c : Chain). chain_from h s ≡ Some c) (map stands read) chains k (stands one) are place in
        last_of_turn g f.0 (after one) (stands one) whole f.2 stands_so h chain.0 chain.2

    -- and each whole log has one there
    whole_at : (k : ℕ) (one : A) → slice_get read k ≡ Some one → (whole : Contents) × (slice_get fronts k ≡ Some whole)
    whole_at k one then =
        let log = zip_right (StandsFor g) fronts (map stands read) k (stands one) stand (place_map stands read k one then) in (log.0, log.1)

    -- the chains begin in the turn
    first_of_turn : 0 < length files → (h ≡ g) ⊎ (h ≡ g + 1)
    first_of_turn some =
        let f = within_place files 0 some in
        let one = zip_left IsFound files read 0 f.0 all f.1 in
        let place = place_map stands read 0 one.0 one.1 in
        let log = zip_right (StandsFor g) fronts (map stands read) 0 (stands one.0) stand place in
        let chain = zip_left (λ (s : Standing) (c : Chain). chain_from h s ≡ Some c) (map stands read) chains 0 (stands one.0) are place in
        let a = first_there (stands one.0 h) (stands one.0 (h + 1)) chain.0 chain.2 in
        log.2.no_other h a.0 a.1

-- what tells of a generation, keeps its log
keep_later : (h : ℕ) (fs es : List Standing) → 0 < h → AllZip Tells fs es → AllZip (KeepsLog h) fs es
keep_later h [] [] over tells = tt
keep_later h [] (e ∷ es) over tells = absurd tells
keep_later h (f ∷ fs) [] over tells = absurd tells
keep_later h (f ∷ fs) (e ∷ es) over tells = (λ c has. (c, tells.0.later h over ∙ has, refl), keep_later h fs es over tells.1)

keep_first : (fs es : List Standing) → AllHave 0 es → AllZip Tells fs es → AllZip (KeepsLog 0) fs es
keep_first [] [] have tells = tt
keep_first [] (e ∷ es) have tells = absurd tells
keep_first (f ∷ fs) [] have tells = absurd tells
keep_first (f ∷ fs) (e ∷ es) have tells = (
  λ c has. ⊎_elim
      (λ (none : e 0 ≡ None). let d = have e (inl refl) in absurd (no_some d.0 (sym none ∙ d.1)))
      (λ (same : e 0 ≡ f 0). (c, same ∙ has, refl))
      tells.0.first,
  keep_first fs es (λ x at. have x (inr at)) tells.1,
)

-- a generation that stands whole though the least of each file is left
module _ (s : Store) where
  abbrev least_found : ℕ → List FilesNow → List Found
  least_found g files = map (λ (f : FilesNow). (least (now_of g f), least (now_of (g + 1) f))) files

  least_leaves : (g : ℕ) (files : List FilesNow) → MayLeaveFiles (map (pair_of g) files) (least_found g files)
  least_leaves g [] = tt
  least_leaves g (f ∷ files) = ((least_left (now_of g f), least_left (now_of (g + 1) f)), least_leaves g files)

  least_in : (g : ℕ) (f : FilesNow) (files : List FilesNow) → In f files
      → In (standing_of g (least (now_of g f)) (least (now_of (g + 1) f))) (standings_of g (least_found g files))
  least_in g f [] at = absurd at
  least_in g f (x ∷ files) (inl e) = inl (ap (λ (y : FilesNow). standing_of g (least (now_of g y)) (least (now_of (g + 1) y))) e)
  least_in g f (x ∷ files) (inr at) = inr (least_in g f files at)

  least_some : (file : FileNow) (c : Contents) → least file ≡ Some c → (now : LogNow) × (file ≡ Has now)
  least_some Spare c e = absurd (no_some c e)
  least_some (Has now) c e = (now, refl)
  least_some (MayHave d) c e = absurd (no_some c e)

  -- if that is generation 0, each plain file has a log
  pub have_plain : (g : ℕ) (files : List FilesNow) → 0 < length files → StaysWhole g 0 s files → (g ≡ 0) × ((f : FilesNow) → In f files → (now : LogNow) × (f.plain ≡ Has now))
  have_plain zero files some whole = (
    refl,
    λ f at. (
        let w = whole (least_found 0 files) (least_leaves 0 files) in
        let c = w.1 (standing_of 0 (least f.plain) (least (now_of 1 f))) (least_in 0 f files at) in
        least_some f.plain c.0 (sym (found_first 0 (least f.plain) (least (now_of 1 f))) ∙ c.1)
        ),
  )
  have_plain (suc g) [] some whole = absurd (omega (arith, some))
  have_plain (suc g) (f ∷ files) some whole =
      let w = whole (least_found (suc g) (f ∷ files)) (least_leaves (suc g) (f ∷ files)) in
      let x = least (now_of (suc g) f) in
      let y = least (now_of (suc g + 1) f) in
      let c = w.1 (standing_of (suc g) x y) (least_in (suc g) f (f ∷ files) (inl refl)) in
      absurd (no_some c.0 (sym (found_none (suc g) x y 0 (λ e. omega (arith, e)) (λ e. omega (arith, e))) ∙ c.1))

-- what a worker's files are after they were opened, and which of its logs stand
record Seen : Type 0 where
  after : FilesNow
  stands : Standing

-- that is what was read, from each generation on of which a log was read
abbrev Agrees : WorkerLogs → Seen → Type 0
Agrees one seen = (n : ℕ) (d : Chain) → read_of one n ≡ Some d → (h : ℕ) → n ≤ h → seen.stands h ≡ read_of one h

-- a worker's first log is in its plain file
abbrev HasFirst : FilesNow → Type 0
HasFirst f = (now : LogNow) × (f.plain ≡ Has now) × (now.had.generation ≡ 0)

abbrev HaveFirst : List FilesNow → Type 0
HaveFirst files = (f : FilesNow) → In f files → HasFirst f

-- ---- files that show what they are

module _ {D : Type 0} (is_honest : D → Bool) (state : D → DiskState) (failures : D → ℕ) where
  abbrev Show : List FilesNow → List (WorkerFiles D) → Type 0
  Show files old = AllZip (ShowFiles is_honest state) files old

  abbrev ShowsNumbered : Parity → FileNow → LogSlot D → Type 0
  ShowsNumbered parity file slot = IsHonest is_honest slot × ShowsFile state parity file slot

  -- every file counts from generation 0 or 1 on
  each_counts : (from told : ℕ) (parity : Parity) → from ≤ 1 → ¬ IsOlder from parity told
  each_counts from told parity few older = let some = older.0 in let below = older.1 in omega (arith, few, some, below)

  opened_file : (from told : ℕ) (parity : Parity) (old new : LogSlot D) (found : Option Front) → from ≤ 1 → OpensFrom is_honest state failures from told parity old new found
      → OpensNumbered is_honest state failures parity (disk_in old) new found
  opened_file from told parity old new found few (inl over) = absurd (each_counts from told parity few over.0)
  opened_file from told parity old new found few (inr opens) = opens.1

  -- all files of a worker were opened
  abbrev OpensAll : ℕ → Told → WorkerFiles D → WorkerFiles D → WorkerLogs → Type 0
  OpensAll from told was is one = (from ≤ 1) × OpensWorker is_honest state failures from told was is one

  read_one : (g from : ℕ) (told : Told) (f : FilesNow) (was is : WorkerFiles D) (one : WorkerLogs) → ShowFiles is_honest state f was → OpensAll from told was is one → ReadOf g f one
  read_one g from told f was is one shows (few, o) =
      subst (ReadOf g f) (sym o.read)
      (read_both is_honest state failures g f was is o.even o.odd shows (opened_file from told.even Even was.even is.even o.even few o.opens_even)
      (opened_file from told.odd Odd was.odd is.odd o.odd few o.opens_odd))

  -- the worker at a place, as it was, as it is, and what was read of it
  record OpenedAt (from : ℕ) (f : FilesNow) (k : ℕ) (new : List (WorkerFiles D)) (logs : List WorkerLogs) : Type 0 where
    was : WorkerFiles D
    is : WorkerFiles D
    one : WorkerLogs
    headers : Told
    shows : ShowFiles is_honest state f was
    is_there : slice_get new k ≡ Some is
    one_there : slice_get logs k ≡ Some one
    opens : OpensWorker is_honest state failures from headers was is one

  opened_at : (from : ℕ) (told : List Told) (files : List FilesNow) (old new : List (WorkerFiles D)) (logs : List WorkerLogs) (k : ℕ) (f : FilesNow) → Show files old
      → OpensNumberedFiles is_honest state failures from told old new logs → slice_get files k ≡ Some f → OpenedAt from f k new logs
  opened_at from told files old new logs k f shows opens there =
      let was = zip_left (ShowFiles is_honest state) files old k f shows there in
      let within = get_within old k was.0 was.1 in
      let len = opens.each.len in
      let is = within_place new k (omega (arith, within, len)) in
      let r = opens.each.each k was.0 is.0 within was.1 is.1 in
      record { was = was.0; is = is.0; one = r.0; headers = r.2.0; shows = was.2; is_there = is.1; one_there = r.1; opens = r.2.2 }

  read_all : (g from : ℕ) (told : List Told) (files : List FilesNow) (old new : List (WorkerFiles D)) (logs : List WorkerLogs) → from ≤ 1 → Show files old
      → OpensNumberedFiles is_honest state failures from told old new logs → AllZip (ReadOf g) files logs
  read_all g from told files old new logs few shows opens =
      zip_of (ReadOf g) files logs (opens.count ∙ zip_count (ShowFiles is_honest state) files old shows) (λ k f one there then. (
      let o = opened_at from told files old new logs k f shows opens there in
      subst (ReadOf g f) (same_Some o.one one (sym o.one_there ∙ then)) (read_one g from o.headers f o.was o.is o.one o.shows (few, o.opens))
      ))

  -- ---- what the places show

  -- both numbered files were opened
  shown_all : (from : ℕ) (told : Told) (f : FilesNow) (was is : WorkerFiles D) (one : WorkerLogs) → ShowFiles is_honest state f was → OpensAll from told was is one
      → ShowFiles is_honest state (after_of one) is
  shown_all from told f was is one shows (few, o) =
      subst (λ (w : WorkerLogs). ShowFiles is_honest state (after_of w) is) (sym o.read)
      (shown_both is_honest state failures f was is o.even o.odd shows (opened_file from told.even Even was.even is.even o.even few o.opens_even)
      (opened_file from told.odd Odd was.odd is.odd o.odd few o.opens_odd))

  plain_stays : (file : FileNow) (was is : LogSlot D) → is ≡ was → ShowsPlain is_honest state file was → ShowsPlain is_honest state file is
  plain_stays file was is same shows = subst (ShowsPlain is_honest state file) (sym same) shows

  -- nothing was done to them
  narrower_same : (f : FilesNow) (was : WorkerFiles D) → ShowFiles is_honest state f was → ShowsNarrower is_honest state f was
  narrower_same f was shows = record { new = f; narrows = record { plain = inl refl; even = inl refl; odd = inl refl }; shows = shows }

  -- a numbered file was opened, or passed over
  record NarrowerIn (parity : Parity) (file : FileNow) (slot : LogSlot D) : Type 0 where
    new : FileNow
    narrows : NarrowsFile file new
    shows : ShowsNumbered parity new slot

  narrower_file : (from told : ℕ) (parity : Parity) (file : FileNow) (was is : LogSlot D) (found : Option Front) → ShowsNumbered parity file was
      → OpensFrom is_honest state failures from told parity was is found → NarrowerIn parity file is
  narrower_file from told parity file was is found shows (inl over) =
      record { new = file; narrows = inl refl; shows = subst (ShowsNumbered parity file) (sym over.1) shows }
  narrower_file from told parity file was is found shows (inr opens) =
      let x = option_map contents_of found in
      let o = numbered_files.opened is_honest state failures parity file was is found shows.0 shows.1 opens.1 in
      record { new = found_as x; narrows = inr (x, o.0, refl); shows = (o.1, o.2) }

  narrower_both : (from : ℕ) (told : Told) (f : FilesNow) (was is : WorkerFiles D) (one : WorkerLogs) → ShowFiles is_honest state f was
      → OpensWorker is_honest state failures from told was is one → ShowsNarrower is_honest state f is
  narrower_both from told f was is one shows o =
      let even = narrower_file from told.even Even f.even was.even is.even o.even shows.even o.opens_even in
      let odd = narrower_file from told.odd Odd f.odd was.odd is.odd o.odd shows.odd o.opens_odd in
      record {
        new = record { plain = f.plain; even = even.new; odd = odd.new };
        narrows = record { plain = inl refl; even = even.narrows; odd = odd.narrows };
        shows = record { plain = plain_stays f.plain was.plain is.plain o.plain shows.plain; even = even.shows; odd = odd.shows };
      }

  narrower_all : (from : ℕ) (told : List Told) (files : List FilesNow) (old new : List (WorkerFiles D)) (logs : List WorkerLogs) → Show files old
      → OpensNumberedFiles is_honest state failures from told old new logs → AllZip (ShowsNarrower is_honest state) files new
  narrower_all from told files old new logs shows opens =
      zip_of (ShowsNarrower is_honest state) files new (opens.each.len ∙ zip_count (ShowFiles is_honest state) files old shows) (λ k f p there then. (
      let o = opened_at from told files old new logs k f shows opens there in
      subst (ShowsNarrower is_honest state f) (same_Some o.is p (sym o.is_there ∙ then)) (narrower_both from o.headers f o.was o.is o.one o.shows o.opens)
      ))

  -- one of both was not opened
  worker_failed : (from : ℕ) (told : Told) (f : FilesNow) (e : Refusal) (was is : WorkerFiles D) → ShowFiles is_honest state f was
      → FailsToOpenWorker is_honest state failures from told e was is → IsOutside e × ShowsNarrower is_honest state f is
  worker_failed from told f e was is shows (same, inl failed) =
      let even = numbered_failed is_honest state failures Even f.even e was.even is.even shows.even failed.0.1 in (
        even.0,
        record {
          new = f;
          narrows = record { plain = inl refl; even = inl refl; odd = inl refl };
          shows = record {
            plain = plain_stays f.plain was.plain is.plain same shows.plain;
            even = even.1;
            odd = subst (ShowsNumbered Odd f.odd) (sym failed.1) shows.odd;
          };
        },
      )
  worker_failed from told f e was is shows (same, inr failed) =
      let even = narrower_file from told.even Even f.even was.even is.even failed.0.0 shows.even failed.0.1 in
      let odd = numbered_failed is_honest state failures Odd f.odd e was.odd is.odd shows.odd failed.1.1 in (
        odd.0,
        record {
          new = record { plain = f.plain; even = even.new; odd = f.odd };
          narrows = record { plain = inl refl; even = even.narrows; odd = inl refl };
          shows = record { plain = plain_stays f.plain was.plain is.plain same shows.plain; even = even.shows; odd = odd.1 };
        },
      )

  -- nothing was done to any
  narrower_none : (files : List FilesNow) (old : List (WorkerFiles D)) → Show files old → AllZip (ShowsNarrower is_honest state) files old
  narrower_none files old shows =
      zip_of (ShowsNarrower is_honest state) files old (zip_count (ShowFiles is_honest state) files old shows) (λ k f p there then. (
      let was = zip_left (ShowFiles is_honest state) files old k f shows there in
      narrower_same f p (subst (ShowFiles is_honest state f) (same_Some was.0 p (sym was.1 ∙ then)) was.2)
      ))

  stops_numbered : (from : ℕ) (told : List Told) (files : List FilesNow) (place : Option ℕ) (e : Refusal) (old new : List (WorkerFiles D)) → Show files old
      → StopsNumberedFiles is_honest state failures from told (record { log = place; refusal = e }) old new → IsOutside e × AllZip (ShowsNarrower is_honest state) files new
  stops_numbered from told files None e old new shows stops =
      (inl stops.0, subst (AllZip (ShowsNarrower is_honest state) files) (sym stops.1) (narrower_none files old shows))
  stops_numbered from told files (Some place) e old new shows stops =
      let f = zip_right (ShowFiles is_honest state) files old place stops.was shows stops.was_there in
      let failed = worker_failed from stops.fails.0 f.0 e stops.was stops.is f.2 stops.fails.2 in (
        failed.0,
        zip_of (ShowsNarrower is_honest state) files new (stops.len ∙ zip_count (ShowFiles is_honest state) files old shows) (λ k g p there then. (
            let was = zip_left (ShowFiles is_honest state) files old k g shows there in
            before_or_after k place
            (λ below. (let o = stops.before k was.0 p below was.1 then in narrower_both from o.1.0 g was.0 p o.0 was.2 o.1.2))
            (λ same. subst (λ (x : FilesNow). ShowsNarrower is_honest state x p) (same_Some f.0 g (sym f.1 ∙ ap (slice_get files) (sym same) ∙ there))
            (subst (ShowsNarrower is_honest state f.0) (same_Some stops.is p (sym stops.is_there ∙ ap (slice_get new) (sym same) ∙ then)) failed.1))
            (λ above. narrower_same g p (subst (ShowFiles is_honest state g) (same_Some was.0 p (sym was.1 ∙ sym (stops.after k above) ∙ then)) was.2))
            )),
      )

  -- ---- all headers were read

  -- a worker's places show the same files
  looked_worker : (f : FilesNow) (was is : WorkerFiles D) (t : Told) → ShowFiles is_honest state f was → LooksAtWorker is_honest state failures was is t
      → ShowFiles is_honest state f is × TellsBoth state f t is
  looked_worker f was is t shows l =
      let even = numbered_files.looked is_honest state failures Even f.even was.even is.even t.even shows.even.0 shows.even.1 l.even in
      let odd = numbered_files.looked is_honest state failures Odd f.odd was.odd is.odd t.odd shows.odd.0 shows.odd.1 l.odd in (
        record { plain = plain_stays f.plain was.plain is.plain l.plain shows.plain; even = (even.0, even.1); odd = (odd.0, odd.1) },
        record { even = even.2; odd = odd.2 },
      )

  not_looked_worker : (f : FilesNow) (was is : WorkerFiles D) → ShowFiles is_honest state f was → FailsToLookAtWorker is_honest state failures was is → ShowFiles is_honest state f is
  not_looked_worker f was is shows (same, inl failed) = record {
    plain = plain_stays f.plain was.plain is.plain same shows.plain;
    even = numbered_files.not_looked is_honest state failures Even f.even was.even is.even shows.even.0 shows.even.1 failed.0;
    odd = subst (ShowsNumbered Odd f.odd) (sym failed.1) shows.odd;
  }
  not_looked_worker f was is shows (same, inr failed) =
      let even = numbered_files.looked is_honest state failures Even f.even was.even is.even failed.0.0 shows.even.0 shows.even.1 failed.0.1 in
      record {
        plain = plain_stays f.plain was.plain is.plain same shows.plain;
        even = (even.0, even.1);
        odd = numbered_files.not_looked is_honest state failures Odd f.odd was.odd is.odd shows.odd.0 shows.odd.1 failed.1;
      }

  looked_all : (files : List FilesNow) (old new : List (WorkerFiles D)) (told : List Told) → Show files old → LooksAtFiles is_honest state failures old new told
      → Show files new × TellAll state files told new
  looked_all files old new told shows looks =
      let count = zip_count (ShowFiles is_honest state) files old shows in
      let at : (k : ℕ) (f : FilesNow) (t : Told) (p : WorkerFiles D) → slice_get files k ≡ Some f → slice_get told k ≡ Some t → slice_get new k ≡ Some p
      → ShowFiles is_honest state f p × TellsBoth state f t p =
      λ k f t p there told_so then. (
      let was = zip_left (ShowFiles is_honest state) files old k f shows there in
      let l = looks.each.each k was.0 p (get_within old k was.0 was.1) was.1 then in
      looked_worker f was.0 p t was.2 (subst (λ (x : Told). LooksAtWorker is_honest state failures was.0 p x) (same_Some l.0 t (sym l.1 ∙ told_so)) l.2)
      ) in (
        zip_of (ShowFiles is_honest state) files new (looks.each.len ∙ count) (λ k f p there then. (
            let within = get_within files k f there in
            let many = looks.count in
            let t = within_place told k (omega (arith, within, many, count)) in
            (at k f t.0 p there t.1 then).0
            )),
        λ k f t p there told_so then. (at k f t p there told_so then).1,
      )

  stops_looking : (files : List FilesNow) (place : Option ℕ) (e : Refusal) (old new : List (WorkerFiles D)) → Show files old
      → StopsLooking is_honest state failures (record { log = place; refusal = e }) old new → IsOutside e × AllZip (ShowsNarrower is_honest state) files new
  stops_looking files None e old new shows stops =
      (inl stops.0, subst (AllZip (ShowsNarrower is_honest state) files) (sym stops.1) (narrower_none files old shows))
  stops_looking files (Some place) e old new shows (device, stops) =
      let f = zip_right (ShowFiles is_honest state) files old place stops.was shows stops.was_there in (
        inr device,
        zip_of (ShowsNarrower is_honest state) files new (stops.len ∙ zip_count (ShowFiles is_honest state) files old shows) (λ k g p there then. (
            let was = zip_left (ShowFiles is_honest state) files old k g shows there in
            before_or_after k place
            (λ below. (let l = stops.before k was.0 p below was.1 then in narrower_same g p (looked_worker g was.0 p l.0 was.2 l.1).0))
            (λ same. subst (λ (x : FilesNow). ShowsNarrower is_honest state x p) (same_Some f.0 g (sym f.1 ∙ ap (slice_get files) (sym same) ∙ there))
            (subst (ShowsNarrower is_honest state f.0) (same_Some stops.is p (sym stops.is_there ∙ ap (slice_get new) (sym same) ∙ then))
            (narrower_same f.0 stops.is (not_looked_worker f.0 stops.was stops.is f.2 stops.fails))))
            (λ above. narrower_same g p (subst (ShowFiles is_honest state g) (same_Some was.0 p (sym was.1 ∙ sym (stops.after k above) ∙ then)) was.2))
            )),
      )

  -- ---- all files were read

  -- the log of a plain file was read of it
  record HasPlain (f : FilesNow) (one : WorkerLogs) (is : WorkerFiles D) : Type 0 where
    front : Front
    has : one.plain ≡ Some front
    left : MayLeaveFile f.plain (Some (contents_of front))
    shows : ShowsPlain is_honest state (found_as (Some (contents_of front))) is.plain
    narrower : ShowsNarrower is_honest state f is

  -- what a worker's places show after its plain file was opened too
  narrower_plain : (from : ℕ) (told : Told) (f : FilesNow) (was mid is : WorkerFiles D) (first one : WorkerLogs) → HasFirst f → ShowFiles is_honest state f was
      → OpensWorker is_honest state failures from told was mid first → OpensPlainAs is_honest state failures one mid is → HasPlain f one is
  narrower_plain from told f was mid is first one now shows opens p =
      let shown : ShowsPlain is_honest state (Has now.0) was.plain = subst (λ (file : FileNow). ShowsPlain is_honest state file was.plain) now.1 shows.plain in
      let found = plain_found is_honest state failures now.0 was.plain is.plain one.plain now.2 shown.0 shown.1
      (subst (λ (slot : LogSlot D). OpensPlain is_honest state failures (disk_in slot) is.plain one.plain) opens.plain p.0) in
      let c = contents_of found.0 in
      let n = narrower_both from told f was mid first shows opens in
      let left : MayLeaveFile f.plain (Some c) = subst (λ (file : FileNow). MayLeaveFile file (Some c)) (sym now.1) (c, found.2.0, refl) in
      record {
        front = found.0;
        has = found.1;
        left = left;
        shows = (found.2.1, found.2.2);
        narrower = record {
          new = record { plain = found_as (Some c); even = n.new.even; odd = n.new.odd };
          narrows = record { plain = inr (Some c, left, refl); even = n.narrows.even; odd = n.narrows.odd };
          shows = record {
            plain = (found.2.1, found.2.2);
            even = subst (ShowsNumbered Even n.new.even) (sym p.1.0) n.shows.even;
            odd = subst (ShowsNumbered Odd n.new.odd) (sym p.1.1) n.shows.odd;
          };
        };
      }

  -- the worker at a place, all of whose files were opened
  record PlainAt (f : FilesNow) (k : ℕ) (new : List (WorkerFiles D)) (logs : List WorkerLogs) : Type 0 where
    is : WorkerFiles D
    one : WorkerLogs
    front : Front
    is_there : slice_get new k ≡ Some is
    one_there : slice_get logs k ≡ Some one
    has : one.plain ≡ Some front
    read : ReadOf 0 f one
    shows : ShowFiles is_honest state (after_of one) is
    narrower : ShowsNarrower is_honest state f is

  plain_at : (from : ℕ) (told : List Told) (files : List FilesNow) (old between new : List (WorkerFiles D)) (first logs : List WorkerLogs) → from ≤ 1 → HaveFirst files → Show files old
      → OpensNumberedFiles is_honest state failures from told old between first → OpensPlainFiles is_honest state failures between new logs → AllZip SameNumbered first logs
      → (k : ℕ) (f : FilesNow) → slice_get files k ≡ Some f → PlainAt f k new logs
  plain_at from told files old between new first logs few have shows opens plain same k f there =
      let o = opened_at from told files old between first k f shows opens there in
      let within = get_within between k o.is o.is_there in
      let len = plain.len in
      let is = within_place new k (omega (arith, within, len)) in
      let p = plain.each k o.is is.0 within o.is_there is.1 in
      let kept = zip_left SameNumbered first logs k o.one same o.one_there in
      let numbered : o.one.numbered ≡ p.0.numbered = kept.2 ∙ ap (λ (w : WorkerLogs). w.numbered) (same_Some kept.0 p.0 (sym kept.1 ∙ p.1)) in
      let r = read_one 0 from o.headers f o.was o.is o.one o.shows (few, o.opens) in
      let n = narrower_plain from o.headers f o.was o.is is.0 o.one p.0 (have f (place_in f k files there)) o.shows o.opens p.2 in
      let b = shown_all from o.headers f o.was o.is o.one o.shows (few, o.opens) in
      record {
        is = is.0;
        one = p.0;
        front = n.front;
        is_there = is.1;
        one_there = p.1;
        has = n.has;
        read = record {
          even = r.even;
          odd = r.odd;
          numbered = sym numbered ∙ r.numbered;
          left_even = r.left_even;
          left_odd = r.left_odd;
          left_plain = inr (refl, subst (λ (x : Option Front). MayLeaveFile f.plain (option_map contents_of x)) (sym n.has) n.left);
        };
        shows = record {
          plain = subst (λ (x : Option Front). ShowsPlain is_honest state (found_as (option_map contents_of x)) is.0.plain) (sym n.has) n.shows;
          even = subst (λ (logs : List (Option Front)). ShowsNumbered Even (found_as (option_map contents_of (first_in logs))) is.0.even) numbered
              (subst (ShowsNumbered Even (after_of o.one).even) (sym p.2.1.0) b.even);
          odd = subst (λ (logs : List (Option Front)). ShowsNumbered Odd (found_as (option_map contents_of (second_in logs))) is.0.odd) numbered
              (subst (ShowsNumbered Odd (after_of o.one).odd) (sym p.2.1.1) b.odd);
        };
        narrower = n.narrower;
      }

  -- what was read at each place, and what is there now
  record RestsAt (k : ℕ) (new : List (WorkerFiles D)) (logs : List WorkerLogs) : Type 0 where
    is : WorkerFiles D
    one : WorkerLogs
    is_there : slice_get new k ≡ Some is
    one_there : slice_get logs k ≡ Some one
    shows : ShowFiles is_honest state (after_of one) is

  all_shown : (files : List FilesNow) (new : List (WorkerFiles D)) (logs : List WorkerLogs) → length logs ≡ length files → length new ≡ length files
      → ((k : ℕ) (f : FilesNow) → slice_get files k ≡ Some f → RestsAt k new logs) → AllZip (ShowFiles is_honest state) (map after_of logs) new
  all_shown files new logs count len each =
      zip_of (ShowFiles is_honest state) (map after_of logs) new (len ∙ sym count ∙ sym (length-map logs after_of)) (λ k a p there then. (
      let w = map_place after_of logs k a there in
      let within = get_within logs k w.0 w.1 in
      let f = within_place files k (omega (arith, within, count)) in
      let r = each k f.0 f.1 in
      let same : r.one ≡ w.0 = same_Some r.one w.0 (sym r.one_there ∙ w.1) in
      subst (λ (n : FilesNow). ShowFiles is_honest state n p) (ap after_of same ∙ sym w.2)
      (subst (ShowFiles is_honest state (after_of r.one)) (same_Some r.is p (sym r.is_there ∙ then)) r.shows)
      ))

  -- the plain files too
  read_plain : (from : ℕ) (told : List Told) (files : List FilesNow) (old between new : List (WorkerFiles D)) (first logs : List WorkerLogs) → from ≤ 1 → HaveFirst files
      → Show files old → OpensNumberedFiles is_honest state failures from told old between first → OpensPlainFiles is_honest state failures between new logs → AllZip SameNumbered first logs
      → AllZip (λ (f : FilesNow) (one : WorkerLogs). ReadOf 0 f one × ((front : Front) × (one.plain ≡ Some front))) files logs
  read_plain from told files old between new first logs few have shows opens plain same =
      zip_of (λ (f : FilesNow) (one : WorkerLogs). ReadOf 0 f one × ((front : Front) × (one.plain ≡ Some front))) files logs
      (zip_count SameNumbered first logs same ∙ opens.count ∙ zip_count (ShowFiles is_honest state) files old shows)
      (λ k f one there then. (
      let a = plain_at from told files old between new first logs few have shows opens plain same k f there in
      subst (λ (w : WorkerLogs). ReadOf 0 f w × ((front : Front) × (w.plain ≡ Some front))) (same_Some a.one one (sym a.one_there ∙ then)) (a.read, (a.front, a.has))
      ))

  split : (files : List FilesNow) (logs : List WorkerLogs) → AllZip (λ (f : FilesNow) (one : WorkerLogs). ReadOf 0 f one × ((front : Front) × (one.plain ≡ Some front))) files logs
      → AllZip (ReadOf 0) files logs × AllHave 0 (map read_of logs)
  split [] [] all = (tt, λ f at. absurd at)
  split [] (w ∷ logs) all = absurd all
  split (f ∷ files) [] all = absurd all
  split (f ∷ files) (w ∷ logs) all =
      let rest = split files logs all.1 in (
        (all.0.0, rest.0),
        have w all.0.1 logs rest.1,
      )
    where
      have : (w : WorkerLogs) → (front : Front) × (w.plain ≡ Some front) → (logs : List WorkerLogs) → AllHave 0 (map read_of logs) → AllHave 0 (map read_of (w ∷ logs))
      have w front logs rest f (inl e) = (contents_of front.0, ap (λ (x : Standing). x 0) e ∙ ap (option_map contents_of) front.1)
      have w front logs rest f (inr at) = rest f at

  -- ---- a store

  module _ (s : Store) (is : IsStore s) (g h : ℕ) (files : List FilesNow) (slots : Slots) (left_slots : MayLeaveSlots s.slots slots) (turn : AllZip (AreOfTurn g) s.logs files)
      (whole : StaysWhole g h s files) (old : List (WorkerFiles D)) (shows : Show files old) where
    -- what was read stands for whole logs
    abbrev Stands : List Standing → Type 0
    Stands standings = (fronts : List Contents) × MayLeaveFronts s.logs fronts × AllZip (StandsFor g) fronts standings

    some_files : 0 < length files
    some_files = let some = is.some in omega (arith, some, zip_count (AreOfTurn g) s.logs files turn)

    own_found : {A : Type 0} (after : A → FilesNow) (stands : A → Standing) (read : List A) → AllZip (IsFound after stands g) files read → Stands (map stands read)
    own_found after stands read all =
        let found = all_found after stands g files read all in
        let stand = all_stand g s.logs (map (pair_of g) files) found.0 (have_files g s.logs files turn) found.1 in
        (stand.0, stand.1, all_less g stand.0 (standings_of g found.0) (map stands read) stand.2 found.2)

    own : (logs : List WorkerLogs) → AllZip (ReadOf g) files logs → Stands (map read_of logs)
    own logs all = own_found after_of read_of logs (found_all g s.logs files logs turn all)

    own_later : (logs : List WorkerLogs) → 0 < h → AllZip (ReadOf g) files logs → StandsWhole h s (map read_of logs)
    own_later logs over all =
        let found = all_found after_of read_of g files logs (found_all g s.logs files logs turn all) in
        kept_whole h s (standings_of g found.0) (map read_of logs) (keep_later h (standings_of g found.0) (map read_of logs) over found.2) (whole found.0 found.1)

    own_first : (logs : List WorkerLogs) → h ≡ 0 → AllHave 0 (map read_of logs) → AllZip (ReadOf g) files logs → StandsWhole h s (map read_of logs)
    own_first logs none have all =
        let found = all_found after_of read_of g files logs (found_all g s.logs files logs turn all) in
        kept_whole h s (standings_of g found.0) (map read_of logs)
        (subst (λ (n : ℕ). AllZip (KeepsLog n) (standings_of g found.0) (map read_of logs)) (sym none) (keep_first (standings_of g found.0) (map read_of logs) have found.2))
        (whole found.0 found.1)

    choice : (standings : List Standing) → Stands standings → StandsWhole h s standings → (m : ℕ) × (chains : List Chain) × IsChosen standings slots m chains
    choice standings stand w =
        let c = is_chosen s stand.0 standings slots g is stand.1 left_slots stand.2 h w in (c.0, c.1, c.2)

    -- no start falls in what stands for whole logs
    not_fallen : (standings : List Standing) → Stands standings → (place start : ℕ) → ¬ FallAt standings slots place start
    not_fallen standings stand place start fall =
        let log = zip_right (StandsFor g) stand.0 standings place fall.apart.worker stand.2 fall.apart.there in
        let first = fall.has fall.apart.worker (place_in fall.apart.worker place standings fall.apart.there) in
        ⊎_elim
        (λ falls. never_falls g log.0 fall.apart.worker log.2 fall.generation start falls)
        (λ later. none_two_on g fall.generation log.0 fall.apart.worker log.2 first.0 later.1.0 first.1 later.1.1)
        fall.apart.falls

    -- each log is of its worker
    all_owned : (standings : List Standing) → Stands standings → (n : ℕ) → AreOwned n standings
    all_owned standings stand n k f c there has =
        let log = zip_right (StandsFor g) stand.0 standings k f stand.2 there in
        let part = part_owner g log.0 f log.2 n c has in
        let left = zip_right MayLeaveFront s.logs stand.0 k log.0 stand.1 log.1 in
        let front = is.logs k left.0 left.1 log.0 left.2 in
        let count : length s.logs ≡ length standings =
        sym (zip_count (StandsFor g) stand.0 standings stand.2 ∙ zip_count MayLeaveFront s.logs stand.0 stand.1) in
        (part.0 ∙ front.owner.0, part.1 ∙ front.owner.1 ∙ count)

    -- ---- what is known of all files after they were opened

    -- the chains begin with what stands, and the files show that
    record Opened (new : List (WorkerFiles D)) (chains : Chains) : Type 0 where
      rest : ComeToRest is_honest state g files s.logs new chains
      have : AllZip (λ (f : FilesNow) (c : Chain). HasFrom g chains.generation c.start f) rest.files (map contents_of chains.fronts.items)

    opened_so : {A : Type 0} (after : A → FilesNow) (stands : A → Standing) (read : List A) (all : AllZip (IsFound after stands g) files read) (new : List (WorkerFiles D)) (chains : Chains)
        → Show (map after read) new → AllZip StaySpare files (map after read)
        → IsChosen (map stands read) slots chains.generation (map contents_of chains.fronts.items)
        → ((k : ℕ) (one : A) → slice_get read k ≡ Some one → slice_get chains.begun.items k ≡ Some (is_there (stands one (chains.generation + 1)))) → Opened new chains
    opened_so after stands read all new chains shown spare chosen told =
        let stand = own_found after stands read all in
        let h = chains.generation in
        let ends = map contents_of chains.fronts.items in
        record {
          rest = record {
            fronts = stand.0;
            left = stand.1;
            ends = chosen_ends g h stand.0 (map stands read) ends stand.2 chosen.0;
            files = map after read;
            turn = all_rest after stands g stand.0 files read all stand.2;
            shows = shown;
            spare = spare;
            firsts = first_of_turn after stands g stand.0 files read all stand.2 h ends chosen.0 some_files;
            lasts = λ k whole file there then. (
                let one = map_place after read k file then in
                subst (λ (f : FilesNow). HasLast (last_generation_of h (slice_get chains.begun.items k)) whole f) (sym one.2)
                (subst (λ (b : Option Bool). HasLast (last_generation_of h b) whole (after one.0)) (sym (told k one.0 one.1))
                (last_at after stands g stand.0 files read all stand.2 h ends chosen.0 k whole one.0 there one.1).0)
                );
            next = λ k file then. (
                let one = map_place after read k file then in
                let whole = whole_at after stands g stand.0 files read all stand.2 h ends chosen.0 k one.0 one.1 in
                subst (λ (f : FilesNow). IsLastOfTurn g (last_generation_of h (slice_get chains.begun.items k)) f) (sym one.2)
                (subst (λ (b : Option Bool). IsLastOfTurn g (last_generation_of h b) (after one.0)) (sym (told k one.0 one.1))
                (last_at after stands g stand.0 files read all stand.2 h ends chosen.0 k whole.0 one.0 whole.1 one.1).1)
                );
          };
          have = all_have_chains after stands g h files read ends all chosen.0;
        }

    -- they are those of the same logs, if not all were opened
    record NotOpened (e : Refusal) (new : List (WorkerFiles D)) : Type 0 where
      outside : IsOutside e
      theirs : StayTheirs is_honest state g h s new
      narrows : AllZip Narrows files theirs.files

    stays_so : (e : Refusal) (new : List (WorkerFiles D)) → IsOutside e → AllZip (ShowsNarrower is_honest state) files new → NotOpened e new
    stays_so e new outside narrower = record {
      outside = outside;
      theirs = stay_theirs is_honest state g h s files new turn whole narrower;
      narrows = stays_narrow is_honest state g h s files new turn whole narrower;
    }

    -- ---- an older file was passed over

    module _ (between : List (WorkerFiles D)) (first : List WorkerLogs) where
      -- what is known of each worker
      record AllSeen (fs : List FilesNow) (ones : List WorkerLogs) (ps : List (WorkerFiles D)) : Type 0 where
        seen : List Seen
        found : AllZip (IsFound (λ (x : Seen). x.after) (λ (x : Seen). x.stands) g) fs seen
        spare : AllZip StaySpare fs (map (λ (x : Seen). x.after) seen)
        shown : Show (map (λ (x : Seen). x.after) seen) ps
        agrees : AllZip Agrees ones seen

      all_seen : (fs : List FilesNow) (ones : List WorkerLogs) (ps : List (WorkerFiles D)) → length ones ≡ length fs → length ps ≡ length fs
          → ((k : ℕ) (f : FilesNow) (one : WorkerLogs) (p : WorkerFiles D) → slice_get fs k ≡ Some f → slice_get ones k ≡ Some one → slice_get ps k ≡ Some p
          → SeenAt is_honest state failures g f one p) → AllSeen fs ones ps
      all_seen [] [] [] count len each = record { seen = []; found = tt; spare = tt; shown = tt; agrees = tt }
      all_seen [] (w ∷ ones) ps count len each = absurd (omega (arith, count))
      all_seen [] [] (p ∷ ps) count len each = absurd (omega (arith, len))
      all_seen (f ∷ fs) [] ps count len each = absurd (omega (arith, count))
      all_seen (f ∷ fs) (w ∷ ones) [] count len each = absurd (omega (arith, len))
      all_seen (f ∷ fs) (w ∷ ones) (p ∷ ps) count len each =
          let one = each 0 f w p refl refl refl in
          let rest = all_seen fs ones ps (omega (arith, count)) (omega (arith, len)) (λ k x y z at_x at_y at_z. each (suc k) x y z at_x at_y at_z) in
          record {
            seen = record { after = one.after; stands = one.stands } ∷ rest.seen;
            found = (one.found, rest.found);
            spare = (one.spare, rest.spare);
            shown = (one.shows, rest.shown);
            agrees = (one.agrees, rest.agrees);
          }

      -- so what stands agrees with what was read, from a generation on of which each log was read
      agree_seen : (ones : List WorkerLogs) (seen : List Seen) (n : ℕ) → AllZip Agrees ones seen → AllHave n (map read_of ones)
          → AgreeFrom n (map read_of ones) (map (λ (x : Seen). x.stands) seen)
      agree_seen [] [] n all have = tt
      agree_seen [] (x ∷ seen) n all have = absurd all
      agree_seen (w ∷ ones) [] n all have = absurd all
      agree_seen (w ∷ ones) (x ∷ seen) n all have =
          let c = have (read_of w) (inl refl) in
          (all.0 n c.0 c.1, agree_seen ones seen n all.1 (λ f at. have f (inr at)))

      module _ (from : ℕ) (told : List Told) (low : from ≡ first_counting told) (tells : TellAll state files told old)
          (numbered : OpensNumberedFiles is_honest state failures from told old between first) (chooses : HasChoice (map read_of first) slots) where
        seen_all : AllSeen files first between
        seen_all =
            let count = zip_count (ShowFiles is_honest state) files old shows in
            all_seen files first between (numbered.count ∙ count) (numbered.each.len ∙ count) (λ k f one p there read then. (
            let was = zip_left (ShowFiles is_honest state) files old k f shows there in
            let now = zip_right (AreOfTurn g) s.logs files k f turn there in
            let r = numbered.each.each k was.0 p (get_within old k was.0 was.1) was.1 then in
            let t = r.2.0 in
            seen_at is_honest state failures g now.0 f now.2 was.0 p was.2 t (tells k f t was.0 there r.2.1 was.1) from
            (subst (λ (n : ℕ). n ≤ max t.even t.odd) (sym low) (first_below told k t r.2.1)) one
            (subst (λ (w : WorkerLogs). OpensWorker is_honest state failures from t was.0 p w) (same_Some r.0 one (sym r.1 ∙ read)) r.2.2)
            ))

        abbrev standings : List Standing
        standings = map (λ (x : Seen). x.stands) seen_all.seen

        unread : ¬ NeedPlain (map read_of first) slots
        unread =
            let some = some_files in
            let count = zip_count (ShowFiles is_honest state) files old shows in
            let many = numbered.count in
            choice_unneeded (map read_of first) slots (omega (arith, some, count, many, length-map first read_of)) (none_first is_honest state failures from told old between first numbered) chooses

        passed_opened : (chains : Chains) → IsChosen (map read_of first) slots chains.generation (map contents_of chains.fronts.items)
            → chains.begun.items ≡ begun_in chains.generation first → Opened between chains
        passed_opened chains chosen begun =
            let h = chains.generation in
            let ends = map contents_of chains.fronts.items in
            let have = have_all h (map read_of first) ends chosen.0 in
            let agree = agree_seen first seen_all.seen h seen_all.agrees have in
            opened_so (λ (x : Seen). x.after) (λ (x : Seen). x.stands) seen_all.seen seen_all.found between chains seen_all.shown seen_all.spare
            (older_unread h (map read_of first) standings slots ends agree chosen)
            (λ k x there. (
            let one = zip_right Agrees first seen_all.seen k x seen_all.agrees there in
            let c = have (read_of one.0) (place_in (read_of one.0) k (map read_of first) (place_map read_of first k one.0 one.1)) in
            ap (λ (l : List Bool). slice_get l k) begun ∙ place_map (λ (worker : WorkerLogs). is_there (read_of worker (h + 1))) first k one.0 one.1
            ∙ ap (λ (y : Option Chain). Some (is_there y)) (sym (one.2 h c.0 c.1 (h + 1) (omega arith)))
            ))

        passed_refused : (e : FilesFault) → ¬ RefuseToBegin (map read_of first) slots e
        passed_refused e (inl (inl none, told)) = none chooses.0 chooses.1 chooses.2
        passed_refused e (inl (inr at, told)) =
            let other = strange_agree slots (map read_of first) standings at (agree_seen first seen_all.seen at.generation seen_all.agrees at.has) in
            other.strange (all_owned standings (own_found (λ (x : Seen). x.after) (λ (x : Seen). x.stands) seen_all.seen seen_all.found) other.generation)
        passed_refused e (inr fall) =
            let at = fall.2 in
            not_fallen standings (own_found (λ (x : Seen). x.after) (λ (x : Seen). x.stands) seen_all.seen seen_all.found) fall.0 fall.1
            (fall_agree slots (map read_of first) standings fall.0 fall.1 at (agree_seen first seen_all.seen at.generation seen_all.agrees at.has))

    -- ---- no file was passed over

    module _ (from : ℕ) (few : from ≤ 1) (told : List Told) (between : List (WorkerFiles D)) (first : List WorkerLogs)
        (numbered : OpensNumberedFiles is_honest state failures from told old between first) where
      read_first : AllZip (ReadOf g) files first
      read_first = read_all g from told files old between first few shows numbered

      some_read : 0 < length (map read_of first)
      some_read = let some = some_files in omega (arith, some, zip_count (ReadOf g) files first read_first, length-map first read_of)

      no_first : NoneFirst (map read_of first)
      no_first = none_first is_honest state failures from told old between first numbered

      -- the plain files are needed only if generation 0 stands whole
      unneeded : 0 < h → ¬ NeedPlain (map read_of first) slots
      unneeded over =
          choice_unneeded (map read_of first) slots some_read no_first (choice (map read_of first) (own first read_first) (own_later first over read_first))

      needed : NeedPlain (map read_of first) slots → h ≡ 0
      needed need = by h refl
        where
          by : (n : ℕ) → h ≡ n → h ≡ 0
          by zero e = e
          by (suc n) e = absurd (unneeded (omega (arith, e)) need)

      plain_there : NeedPlain (map read_of first) slots → (g ≡ 0) × HaveFirst files
      plain_there need =
          let have = have_plain s g files some_files (subst (λ (n : ℕ). StaysWhole g n s files) (needed need) whole) in (
            have.0,
            λ f at. (
                let now = have.1 f at in
                let place = at_place f files at in
                let mine = zip_right (AreOfTurn g) s.logs files place.0 f turn place.1 in
                let turned : AreOfTurn 0 mine.0 f = subst (λ (n : ℕ). AreOfTurn n mine.0 f) have.0 mine.2 in
                (now.0, now.1, subst (IsOfGeneration 0) now.1 turned.first)
                ),
          )

      -- what was read of all files that are needed
      module _ (new : List (WorkerFiles D)) (logs : List WorkerLogs) where
        read_needed : NeedPlain (map read_of first) slots → OpensPlainFiles is_honest state failures between new logs → AllZip SameNumbered first logs
            → AllZip (ReadOf g) files logs × AllHave 0 (map read_of logs)
        read_needed need plain same =
            let have = plain_there need in
            let all = split files logs (read_plain from told files old between new first logs few have.1 shows numbered plain same) in
            (subst (λ (n : ℕ). AllZip (ReadOf n) files logs) (sym have.0) all.0, all.1)

        all_stands : ReadsPlain is_honest state failures slots between new first logs → Stands (map read_of logs)
        all_stands (inl read) = own logs (read_needed read.0 read.1 read.2).0
        all_stands (inr unread) = own logs (subst (AllZip (ReadOf g) files) (sym unread.2) read_first)

        -- there is a choice
        not_none : ReadsPlain is_honest state failures slots between new first logs → ¬ HaveNoChoice (map read_of logs) slots
        not_none (inl read) none =
            let all = read_needed read.0 read.1 read.2 in
            let c = choice (map read_of logs) (own logs all.0) (own_first logs (needed read.0) all.1 all.0) in
            none c.0 c.1 c.2
        not_none (inr unread) none =
            by (have_or_not 1 (map read_of first)) (can_or_not 1 (map read_of first) slots) (subst (λ (l : List WorkerLogs). HaveNoChoice (map read_of l) slots) unread.2 none) h refl
          where
            stand : Stands (map read_of first)
            stand = own first read_first

            -- with generation 0 whole no later one than 1 stands
            one_at_most : h ≡ 0 → (n : ℕ) → AllHave n (map read_of first) → n ≤ 1
            one_at_most whole_first n have =
                let f = within_place (map read_of first) 0 some_read in
                let log = zip_right (StandsFor g) stand.0 (map read_of first) 0 f.0 stand.2 f.1 in
                let c = have f.0 (place_in f.0 0 (map read_of first) f.1) in
                let turned = (have_plain s g files some_files (subst (λ (m : ℕ). StaysWhole g m s files) whole_first whole)).0 in
                ⊎_elim (λ (e : n ≡ g). omega (arith, e, turned)) (λ e. omega (arith, e, turned)) (log.2.no_other n c.0 c.1)

            by : AllHave 1 (map read_of first) ⊎ (¬ AllHave 1 (map read_of first)) → CanBegin 1 (map read_of first) slots ⊎ (¬ CanBegin 1 (map read_of first) slots)
                → HaveNoChoice (map read_of first) slots → (n : ℕ) → h ≡ n → ⊥
            by have can lacks (suc n) e =
                let c = choice (map read_of first) stand (own_later first (omega (arith, e)) read_first) in lacks c.0 c.1 c.2
            by (inr none) can lacks zero e = unread.0 (inl (λ n have. (
                let some = over_zero n (map read_of first) some_read no_first have in
                let one : n ≡ 1 = omega (arith, some, one_at_most e n have) in
                none (subst (λ (m : ℕ). AllHave m (map read_of first)) one have)
                )))
            by (inl have) (inr lack) lacks zero e = unread.0 (inr ((have, one_at_most e), lack))
            by (inl have) (inl can) lacks zero e = lacks 1 can.0 (can.1, can.2, inl (have, one_at_most e))

        not_refused : (e : FilesFault) → ReadsPlain is_honest state failures slots between new first logs → ¬ RefuseToBegin (map read_of logs) slots e
        not_refused e plain (inl (inl none, told)) = not_none plain none
        not_refused e plain (inl (inr at, told)) = at.strange (all_owned (map read_of logs) (all_stands plain) at.generation)
        not_refused e plain (inr fall) = not_fallen (map read_of logs) (all_stands plain) fall.0 fall.1 fall.2

        -- what the places show
        all_places : ReadsPlain is_honest state failures slots between new first logs
            → AllZip (ReadOf g) files logs × AllZip (ShowFiles is_honest state) (map after_of logs) new × AllZip (ShowsNarrower is_honest state) files new
        all_places (inl read) =
            let have = (plain_there read.0).1 in
            let count = zip_count (ShowFiles is_honest state) files old shows in
            let len = read.1.len ∙ numbered.each.len ∙ count in
            let each : (k : ℕ) (f : FilesNow) → slice_get files k ≡ Some f → PlainAt f k new logs = plain_at from told files old between new first logs few have shows numbered read.1 read.2 in (
              (read_needed read.0 read.1 read.2).0,
              all_shown files new logs (zip_count SameNumbered first logs read.2 ∙ numbered.count ∙ count) len
                  (λ k f there. (let a = each k f there in record { is = a.is; one = a.one; is_there = a.is_there; one_there = a.one_there; shows = a.shows })),
              zip_of (ShowsNarrower is_honest state) files new len (λ k f p there then. (
                  let a = each k f there in
                  subst (ShowsNarrower is_honest state f) (same_Some a.is p (sym a.is_there ∙ then)) a.narrower
                  )),
            )
        all_places (inr unread) =
            let count = zip_count (ShowFiles is_honest state) files old shows in
            let len : length between ≡ length files = numbered.each.len ∙ count in
            let each : (k : ℕ) (f : FilesNow) → slice_get files k ≡ Some f → OpenedAt from f k between first = λ k f there. opened_at from told files old between first k f shows numbered there in (
              subst (AllZip (ReadOf g) files) (sym unread.2) read_first,
              subst (λ (l : List WorkerLogs). AllZip (ShowFiles is_honest state) (map after_of l) new) (sym unread.2)
                  (subst (AllZip (ShowFiles is_honest state) (map after_of first)) (sym unread.1)
                  (all_shown files between first (numbered.count ∙ count) len
                  (λ k f there. (
                  let a = each k f there in
                  record { is = a.is; one = a.one; is_there = a.is_there; one_there = a.one_there; shows = shown_all from a.headers f a.was a.is a.one a.shows (few, a.opens) }
                  )))),
              subst (AllZip (ShowsNarrower is_honest state) files) (sym unread.1) (narrower_all from told files old between first shows numbered),
            )

      -- a plain file that is needed shows its log
      stops_plain : (place : Option ℕ) (e : Refusal) (new : List (WorkerFiles D)) → NeedPlain (map read_of first) slots
          → StopsPlainFiles is_honest state failures (record { log = place; refusal = e }) between new → IsOutside e × AllZip (ShowsNarrower is_honest state) files new
      stops_plain None e new need stops = absurd stops
      stops_plain (Some place) e new need stops =
          let have = plain_there need in
          let within = get_within between place stops.was stops.was_there in
          let len = numbered.each.len in
          let count = zip_count (ShowFiles is_honest state) files old shows in
          let f = within_place files place (omega (arith, within, len, count)) in
          let o = opened_at from told files old between first place f.0 shows numbered f.1 in
          let now = have.1 f.0 (place_in f.0 place files f.1) in
          let mid : stops.was ≡ o.is = same_Some stops.was o.is (sym stops.was_there ∙ o.is_there) in
          let slot : stops.was.plain ≡ o.was.plain = ap (λ (w : WorkerFiles D). w.plain) mid ∙ o.opens.plain in
          let shown : ShowsPlain is_honest state (Has now.0) o.was.plain = subst (λ (file : FileNow). ShowsPlain is_honest state file o.was.plain) now.1 o.shows.plain in
          let failed = plain_failed is_honest state failures now.0 e o.was.plain stops.is.plain now.2 shown.0 shown.1
          (subst (λ (x : LogSlot D). FailsToOpenPlain is_honest state failures e (disk_in x) stops.is.plain) slot stops.fails.0) in
          let n = narrower_both from o.headers f.0 o.was o.is o.one o.shows o.opens in
          let there : ShowsNarrower is_honest state f.0 stops.is = record {
            new = record { plain = f.0.plain; even = n.new.even; odd = n.new.odd };
            narrows = record { plain = inl refl; even = n.narrows.even; odd = n.narrows.odd };
            shows = record {
              plain = subst (λ (file : FileNow). ShowsPlain is_honest state file stops.is.plain) (sym now.1) (failed.1, failed.2);
              even = subst (ShowsNumbered Even n.new.even) (sym (stops.fails.1.0 ∙ ap (λ (w : WorkerFiles D). w.even) mid)) n.shows.even;
              odd = subst (ShowsNumbered Odd n.new.odd) (sym (stops.fails.1.1 ∙ ap (λ (w : WorkerFiles D). w.odd) mid)) n.shows.odd;
            };
          } in (
            failed.0,
            zip_of (ShowsNarrower is_honest state) files new (stops.len ∙ len ∙ count) (λ k x p at then. (
                let a = opened_at from told files old between first k x shows numbered at in
                before_or_after k place
                (λ below. (
                let b = stops.before k a.is p below a.is_there then in
                (narrower_plain from a.headers x a.was a.is p a.one b.0 (have.1 x (place_in x k files at)) a.shows a.opens b.1).narrower
                ))
                (λ same. subst (λ (y : FilesNow). ShowsNarrower is_honest state y p) (same_Some f.0 x (sym f.1 ∙ ap (slice_get files) (sym same) ∙ at))
                (subst (ShowsNarrower is_honest state f.0) (same_Some stops.is p (sym stops.is_there ∙ ap (slice_get new) (sym same) ∙ then)) there))
                (λ above. subst (ShowsNarrower is_honest state x) (same_Some a.is p (sym a.is_there ∙ sym (stops.after k above) ∙ then))
                (narrower_both from a.headers x a.was a.is a.one a.shows a.opens))
                )),
          )

      -- what comes of it
      all_opened : (new : List (WorkerFiles D)) (logs : List WorkerLogs) (chains : Chains) → ReadsPlain is_honest state failures slots between new first logs
          → IsChosen (map read_of logs) slots chains.generation (map contents_of chains.fronts.items) → chains.begun.items ≡ begun_in chains.generation logs → Opened new chains
      all_opened new logs chains plain chosen begun =
          let all = all_places new logs plain in
          opened_so after_of read_of logs (found_all g s.logs files logs turn all.0) new chains all.1 (all_spare g files logs all.0) chosen
          (λ k one there. ap (λ (l : List Bool). slice_get l k) begun ∙ place_map (λ (worker : WorkerLogs). is_there (read_of worker (chains.generation + 1))) logs k one there)

    -- ---- what comes of an opening of the files that count

    module _ (told : List Told) (from : ℕ) (tells : (from ≤ 1) ⊎ ((from ≡ first_counting told) × TellAll state files told old)) (between : List (WorkerFiles D)) (first : List WorkerLogs)
        (numbered : OpensNumberedFiles is_honest state failures from told old between first) (enough : (from ≤ 1) ⊎ HasChoice (map read_of first) slots) where
      -- none was passed over, or there is a choice
      abbrev Passing : Type 0
      Passing = (from ≤ 1) ⊎ ((from ≡ first_counting told) × TellAll state files told old × HasChoice (map read_of first) slots)

      passing : Passing
      passing = ⊎_elim (λ few. inl few) (λ known. ⊎_elim (λ few. inl few) (λ chooses. inr (known.0, known.1, chooses)) enough) tells

      opened_by : Passing → (new : List (WorkerFiles D)) (logs : List WorkerLogs) (chains : Chains) → ReadsPlain is_honest state failures slots between new first logs
          → IsChosen (map read_of logs) slots chains.generation (map contents_of chains.fronts.items) → chains.begun.items ≡ begun_in chains.generation logs → Opened new chains
      opened_by (inl few) new logs chains plain chosen begun = all_opened from few told between first numbered new logs chains plain chosen begun
      opened_by (inr known) new logs chains (inl read) chosen begun = absurd (unread between first from told known.0 known.1 numbered known.2 read.0)
      opened_by (inr known) new logs chains (inr same) chosen begun =
          subst (λ (x : List (WorkerFiles D)). Opened x chains) (sym same.1)
          (passed_opened between first from told known.0 known.1 numbered known.2 chains
          (subst (λ (l : List WorkerLogs). IsChosen (map read_of l) slots chains.generation (map contents_of chains.fronts.items)) same.2 chosen)
          (begun ∙ ap (begun_in chains.generation) same.2))

      -- a plain file that is needed was not opened
      stopped_by : Passing → (e : FilesFault) (new : List (WorkerFiles D)) → StopsPlain is_honest state failures slots e between new first → NotOpened e.refusal new
      stopped_by (inl few) e new stops =
          let f = stops_plain from few told between first numbered e.log e.refusal new stops.0 stops.1 in stays_so e.refusal new f.0 f.1
      stopped_by (inr known) e new stops = absurd (unread between first from told known.0 known.1 numbered known.2 stops.0)

      -- there is no memory for the chains
      refused_by : Passing → (e : FilesFault) (new : List (WorkerFiles D)) (logs : List WorkerLogs) → ReadsPlain is_honest state failures slots between new first logs
          → (e ≡ record { log = None; refusal = refusals.Memory }) ⊎ RefuseToBegin (map read_of logs) slots e → NotOpened e.refusal new
      refused_by (inl few) e new logs plain why =
          stays_so e.refusal new
          (⊎_elim
          (λ (memory : e ≡ record { log = None; refusal = refusals.Memory }). inl (ap (λ (x : FilesFault). x.refusal) memory))
          (λ begins. absurd (not_refused from few told between first numbered new logs e plain begins))
          why)
          (all_places from few told between first numbered new logs plain).2
      refused_by (inr known) e new logs (inl read) why = absurd (unread between first from told known.0 known.1 numbered known.2 read.0)
      refused_by (inr known) e new logs (inr same) why =
          stays_so e.refusal new
          (⊎_elim
          (λ (memory : e ≡ record { log = None; refusal = refusals.Memory }). inl (ap (λ (x : FilesFault). x.refusal) memory))
          (λ begins. absurd (passed_refused between first from told known.0 known.1 numbered known.2 e
          (subst (λ (l : List WorkerLogs). RefuseToBegin (map read_of l) slots e) same.2 begins)))
          why)
          (subst (AllZip (ShowsNarrower is_honest state) files) (sym same.1) (narrower_all from told files old between first shows numbered))

  -- ---- a store

  module _ (s : Store) (is : IsStore s) (g h : ℕ) (files : List FilesNow) (slots : Slots) (left_slots : MayLeaveSlots s.slots slots) (turn : AllZip (AreOfTurn g) s.logs files)
      (whole : StaysWhole g h s files) (old : List (WorkerFiles D)) (shows : Show files old) where
    -- the files, before those that count are opened
    record Before (told : List Told) (from : ℕ) (before : List (WorkerFiles D)) : Type 0 where
      now : List FilesNow
      turn_now : AllZip (AreOfTurn g) s.logs now
      whole_now : StaysWhole g h s now
      shows_now : Show now before
      narrows : AllZip Narrows files now
      tells : (from ≤ 1) ⊎ ((from ≡ first_counting told) × TellAll state now told before)

    all_same : (fs : List FilesNow) → AllZip Narrows fs fs
    all_same [] = tt
    all_same (f ∷ fs) = (record { plain = inl refl; even = inl refl; odd = inl refl }, all_same fs)

    came : (told : List Told) (looked before : List (WorkerFiles D)) (from : ℕ) → LooksAtFiles is_honest state failures old looked told
        → ComesTo is_honest state failures slots told looked before from → Before told from before
    came told looked before from looks (inl at) =
        let l = looked_all files old looked told shows looks in
        record {
          now = files;
          turn_now = turn;
          whole_now = whole;
          shows_now = subst (Show files) (sym at.0) l.0;
          narrows = all_same files;
          tells = inr (at.1, subst (TellAll state files told) (sym at.0) l.1);
        }
    came told looked before from looks (inr again) =
        let l = looked_all files old looked told shows looks in
        let tried = again.1 in
        let narrower = narrower_all (first_counting told) told files looked before tried.0 l.0 tried.1 in
        let theirs = stay_theirs is_honest state g h s files before turn whole narrower in
        record {
          now = theirs.files;
          turn_now = theirs.turn;
          whole_now = theirs.whole;
          shows_now = theirs.shows;
          narrows = stays_narrow is_honest state g h s files before turn whole narrower;
          tells = let none = again.0 in inl (omega (arith, none));
        }

    -- ---- they were opened

    opened_after : (new : List (WorkerFiles D)) (chains : Chains) (o : OpensChains is_honest state failures slots old new chains)
        → (b : Before o.reads.numbered.told o.reads.numbered.counting.from o.reads.numbered.counting.before)
        × Opened s is g h b.now slots left_slots b.turn_now b.whole_now o.reads.numbered.counting.before b.shows_now new chains
    opened_after new chains o =
        let r = o.reads in
        let n = r.numbered in
        let c = n.counting in
        let b = came n.told n.looked c.before c.from n.looks c.comes in
        let chosen = (o.chosen (map read_of r.logs) (agree_self chains.generation (map read_of r.logs))).chosen in (
          b,
          opened_by s is g h b.now slots left_slots b.turn_now b.whole_now c.before b.shows_now n.told c.from b.tells r.between r.first c.opens c.enough
              (passing s is g h b.now slots left_slots b.turn_now b.whole_now c.before b.shows_now n.told c.from b.tells r.between r.first c.opens c.enough) new r.logs chains r.plain chosen o.begun,
        )

    pub opened : (new : List (WorkerFiles D)) (chains : Chains) → OpensChains is_honest state failures slots old new chains
        → ComeToRest is_honest state g files s.logs new chains
    opened new chains o =
        let a = opened_after new chains o in
        let rest = a.1.rest in
        record {
          fronts = rest.fronts;
          left = rest.left;
          ends = rest.ends;
          files = rest.files;
          turn = rest.turn;
          shows = rest.shows;
          spare = spare_again files a.0.now rest.files a.0.narrows rest.spare;
          firsts = rest.firsts;
          lasts = rest.lasts;
          next = rest.next;
        }

    -- the files that were opened have the logs from which the chains are
    pub opened_have : (new : List (WorkerFiles D)) (chains : Chains) (o : OpensChains is_honest state failures slots old new chains)
        → AllZip (λ (f : FilesNow) (c : Chain). HasFrom g chains.generation c.start f) (opened new chains o).files (map contents_of chains.fronts.items)
    unfolding opened
    opened_have new chains o = (opened_after new chains o).1.have

    -- ---- they were not

    record Failed (e : Refusal) (new : List (WorkerFiles D)) : Type 0 where
      outside : IsOutside e
      theirs : StayTheirs is_honest state g h s new
      narrows : AllZip Narrows files theirs.files

    -- files that narrow after others do
    failed_on : (e : Refusal) (new : List (WorkerFiles D)) (told : List Told) (from : ℕ) (before : List (WorkerFiles D)) (b : Before told from before)
        → NotOpened s is g h b.now slots left_slots b.turn_now b.whole_now before b.shows_now e new → Failed e new
    failed_on e new told from before b n =
        record { outside = n.outside; theirs = n.theirs; narrows = narrow_again files b.now n.theirs.files b.narrows n.narrows }

    failed_here : (e : Refusal) (new : List (WorkerFiles D)) → IsOutside e × AllZip (ShowsNarrower is_honest state) files new → Failed e new
    failed_here e new (outside, narrower) = record {
      outside = outside;
      theirs = stay_theirs is_honest state g h s files new turn whole narrower;
      narrows = stays_narrow is_honest state g h s files new turn whole narrower;
    }

    failed_so : (new : List (WorkerFiles D)) (e : FilesFault) → StopsChains is_honest state failures slots e old new → Failed e.refusal new
    failed_so new e (inl (inl looking)) = failed_here e.refusal new (stops_looking files e.log e.refusal old new shows looking)
    failed_so new e (inl (inr counting)) =
        let c = counting.3 in
        let b = came counting.0 counting.1 c.before c.from counting.2 c.comes in
        let f = stops_numbered c.from counting.0 b.now e.log e.refusal c.before new b.shows_now c.stops in
        failed_on e.refusal new counting.0 c.from c.before b (stays_so s is g h b.now slots left_slots b.turn_now b.whole_now c.before b.shows_now e.refusal new f.0 f.1)
    failed_so new e (inr (inl stops)) =
        let n = stops.numbered in
        let c = n.counting in
        let b = came n.told n.looked c.before c.from n.looks c.comes in
        failed_on e.refusal new n.told c.from c.before b
        (stopped_by s is g h b.now slots left_slots b.turn_now b.whole_now c.before b.shows_now n.told c.from b.tells stops.between stops.first c.opens c.enough
        (passing s is g h b.now slots left_slots b.turn_now b.whole_now c.before b.shows_now n.told c.from b.tells stops.between stops.first c.opens c.enough) e new stops.plain)
    failed_so new e (inr (inr refuses)) =
        let r = refuses.reads in
        let n = r.numbered in
        let c = n.counting in
        let b = came n.told n.looked c.before c.from n.looks c.comes in
        failed_on e.refusal new n.told c.from c.before b
        (refused_by s is g h b.now slots left_slots b.turn_now b.whole_now c.before b.shows_now n.told c.from b.tells r.between r.first c.opens c.enough
        (passing s is g h b.now slots left_slots b.turn_now b.whole_now c.before b.shows_now n.told c.from b.tells r.between r.first c.opens c.enough) e new r.logs r.plain
        (⊎_elim inl (λ why. inr (why (map read_of r.logs) ((λ need. refl), agree_self 1 (map read_of r.logs)))) refuses.why))

    pub failed : (new : List (WorkerFiles D)) (e : FilesFault) → StopsChains is_honest state failures slots e old new
        → IsOutside e.refusal × StayTheirs is_honest state g h s new
    failed new e stops = let f = failed_so new e stops in (f.outside, f.theirs)

    -- files that were not all opened narrow
    pub failed_narrow : (new : List (WorkerFiles D)) (e : FilesFault) (stops : StopsChains is_honest state failures slots e old new)
        → AllZip Narrows files (failed new e stops).1.files
    unfolding failed
    failed_narrow new e stops = (failed_so new e stops).narrows
