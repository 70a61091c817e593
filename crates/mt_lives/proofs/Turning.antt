-- What is known of one worker's files in a turn, and what each step of the turn makes of it.
use Rattle.std.proofs.Common.{◌≡◌, ◌≢◌, ◌⊎◌, inl, inr, ⊎_elim, ℕ, ◌+◌, ◌<◌, ◌≤◌, Bool, true, false, cond, ltb, refl, sym, ◌∙◌, ap, subst, arith, Option, Some, None}
use Rattle.std.proofs.lemmas.Bool.{true≢false, cases_eq, ltb-true, lt-ltb}
use Rattle.mt_disk.specs.{declared.mem.MemDisk.MemDisk, Mem.mem_state}
use Rattle.mt_log.specs.Contents.{Contents, JoinsAndRises, mark_of}
use Rattle.mt_crashes.{specs.Stores.LogNow, proofs.Members.no_some}
use Rattle.mt_generations.specs.Chains.{Chain}
use Rattle.mt_log_files.specs.{Files.{FileNow, Spare, Has, MayHave, MayLeaveFile}, Workers.standing_of}
use Rattle.mt_chain_files.{specs.Turns.{FilesNow, now_of}, proofs.Reading.{least, least_left, found_first, found_next, found_none}}
use Rattle.mt_store_logs.specs.{declared.store_log.StoreLog.StoreLog, Ends.{IsNextFile, StandsInTurn, start_in, KeepsStart, KeepStarts}}
use Rattle.mt_store_logs.proofs.LastStarts.{began_by}
use Rattle.mt_lives.specs.{Bases.{Whole, BeginsBy}, Turning.{Part, HasBegun, IsPart, Turning, part_of, only_whole}}
use Rattle.mt_lives.proofs.Begun.{begins_kept, keeps_now}

-- ---- which of a worker's two files has the log of the generation that stands whole

-- whatever is left of a file is a log that began by a step
abbrev StartsBy : ℕ → FileNow → Type 0
StartsBy n file = (x : Option Contents) → MayLeaveFile file x → (c : Chain) × (x ≡ Some c) × (c.start ≤ n)

module _ (g : ℕ) (whole : Whole) (files : FilesNow) where
  at_first : whole.generation ≡ g → BeginsBy g whole files → StartsBy whole.starts (now_of g files)
  at_first same begins x left =
      let y = least (now_of (g + 1) files) in
      let c = begins x y left (least_left (now_of (g + 1) files)) in
      (c.0, sym (found_first g x y) ∙ ap (standing_of g x y) (sym same) ∙ c.1, c.2)

  at_next : whole.generation ≡ g + 1 → BeginsBy g whole files → StartsBy whole.starts (now_of (g + 1) files)
  at_next same begins y left =
      let x = least (now_of g files) in
      let c = begins x y (least_left (now_of g files)) left in
      (c.0, sym (found_next g x y) ∙ ap (standing_of g x y) (sym same) ∙ c.1, c.2)

  not_elsewhere : whole.generation ≢ g → whole.generation ≢ g + 1 → BeginsBy g whole files → ⊥
  not_elsewhere not_g not_next begins =
      let x = least (now_of g files) in
      let y = least (now_of (g + 1) files) in
      let c = begins x y (least_left (now_of g files)) (least_left (now_of (g + 1) files)) in
      no_some c.0 (sym (found_none g x y whole.generation not_g not_next) ∙ c.1)

  -- either of both
  at_either : BeginsBy g whole files
      → ((whole.generation ≡ g) × StartsBy whole.starts (now_of g files)) ⊎ ((whole.generation ≡ g + 1) × StartsBy whole.starts (now_of (g + 1) files))
  at_either begins = ⊎_elim
      (λ (same : whole.generation ≡ g). inl (same, at_first same begins))
      (λ not_g. ⊎_elim
      (λ (same : whole.generation ≡ g + 1). inr (same, at_next same begins))
      (λ not_next. absurd (not_elsewhere not_g not_next begins))
      (cases_eq whole.generation (g + 1)))
      (cases_eq whole.generation g)

  from_first : whole.generation ≡ g → StartsBy whole.starts (now_of g files) → BeginsBy g whole files
  from_first same starts x y left_x left_y =
      let c = starts x left_x in
      (c.0, ap (standing_of g x y) same ∙ found_first g x y ∙ c.1, c.2)

  from_next : whole.generation ≡ g + 1 → StartsBy whole.starts (now_of (g + 1) files) → BeginsBy g whole files
  from_next same starts x y left_x left_y =
      let c = starts y left_y in
      (c.0, ap (standing_of g x y) same ∙ found_next g x y ∙ c.1, c.2)

-- none of a file of which none may be left
no_starts : (n : ℕ) (file : FileNow) → MayLeaveFile file None → StartsBy n file → ⊥
no_starts n file left starts = let c = starts None left in no_some c.0 c.1

spare_left : (file : FileNow) → file ≡ Spare → MayLeaveFile file None
spare_left file spare = subst (λ (f : FileNow). MayLeaveFile f None) (sym spare) refl

-- files of which the next one stays
pub next_stays : (g : ℕ) (whole : Whole) (files then : FilesNow) → whole.generation ≡ g + 1 → now_of (g + 1) then ≡ now_of (g + 1) files → BeginsBy g whole files
    → BeginsBy g whole then
next_stays g whole files then is same begins =
    from_next g whole then is (subst (StartsBy whole.starts) (sym same) (at_next g whole files is begins))

-- ---- a log of the next generation

-- the logs of the generation after this one, begun by a step
abbrev begun_by : ℕ → ℕ → Whole
begun_by g n = record { generation = g + 1; starts = n }

begun_later : (g m n : ℕ) (files : FilesNow) → m ≤ n → BeginsBy g (begun_by g m) files → BeginsBy g (begun_by g n) files
begun_later g m n files le begins x y left_x left_y =
    let c = begins x y left_x left_y in
    let by = c.2 in
    (c.0, c.1, omega (arith, by, le))

begun_kept : (g : ℕ) (begun : Option ℕ) (was is : FilesNow) → KeepStarts was is → HasBegun g (g + 1) begun was → HasBegun g (g + 1) begun is
begun_kept g None was is keeps has = tt
begun_kept g (Some n) was is keeps has = begins_kept g (begun_by g n) was is keeps has

begun_stays : (g : ℕ) (begun : Option ℕ) (files then : FilesNow) → now_of (g + 1) then ≡ now_of (g + 1) files → HasBegun g (g + 1) begun files → HasBegun g (g + 1) begun then
begun_stays g None files then same has = tt
begun_stays g (Some n) files then same has = next_stays g (begun_by g n) files then refl same has

-- there is none if none may be left
not_begun : (g : ℕ) (begun : Option ℕ) (files then : FilesNow) → MayLeaveFile (now_of (g + 1) files) None → HasBegun g (g + 1) begun files → HasBegun g (g + 1) begun then
not_begun g None files then none has = tt
not_begun g (Some n) files then none has = absurd (no_starts n (now_of (g + 1) files) none (at_next g (begun_by g n) files refl has))

begun_if : (g next n : ℕ) (files : FilesNow) (b : Bool) → (b ≡ true → BeginsBy g (record { generation = next; starts = n }) files)
    → HasBegun g next (cond b (Some n) None) files
begun_if g next n files true begins = begins refl
begun_if g next n files false begins = tt

if_begun : (g next n : ℕ) (files : FilesNow) (b : Bool) → b ≡ true → HasBegun g next (cond b (Some n) None) files
    → BeginsBy g (record { generation = next; starts = n }) files
if_begun g next n files true is has = has
if_begun g next n files false is has = absurd (true≢false (sym is))

-- ---- what a turn tells of one worker

part_from : (g : ℕ) (turning : Turning) (worker : ℕ) (files : FilesNow) → BeginsBy g turning.whole files
    → (worker < turning.begun → BeginsBy g (begun_by g turning.starts) files) → (worker < turning.given → now_of g files ≡ Spare) → IsPart g (part_of turning worker) files
part_from g turning worker files whole begun given = record {
  whole = whole;
  begun = begun_if g (g + 1) turning.starts files (ltb worker turning.begun) (λ is. begun (ltb-true worker turning.begun is));
  given = λ is. given (ltb-true worker turning.given is);
}

surely_begun : (g : ℕ) (turning : Turning) (worker : ℕ) (files : FilesNow) → worker < turning.begun → IsPart g (part_of turning worker) files
    → BeginsBy g (begun_by g turning.starts) files
surely_begun g turning worker files under part =
    if_begun g (g + 1) turning.starts files (ltb worker turning.begun) (lt-ltb worker turning.begun under) part.begun

pub surely_given : (g : ℕ) (turning : Turning) (worker : ℕ) (files : FilesNow) → worker < turning.given → IsPart g (part_of turning worker) files → now_of g files ≡ Spare
surely_given g turning worker files under part = part.given (lt-ltb worker turning.given under)

pub new_part : (g : ℕ) (whole : Whole) (worker : ℕ) (files : FilesNow) → BeginsBy g whole files → IsPart g (part_of (only_whole whole) worker) files
new_part g whole worker files begins =
    part_from g (only_whole whole) worker files begins (λ under. absurd (omega (arith, under))) (λ under. absurd (omega (arith, under)))

pub forget_part : (g : ℕ) (turning : Turning) (worker : ℕ) (files : FilesNow) → IsPart g (part_of turning worker) files
    → IsPart g (part_of (only_whole turning.whole) worker) files
forget_part g turning worker files part = new_part g turning.whole worker files part.whole

-- ---- other files, of which each log begins where one of before did

-- a file is spare if only none may be left of it
only_none : (file : FileNow) → ((x : Option Contents) → MayLeaveFile file x → x ≡ None) → file ≡ Spare
only_none Spare none = refl
only_none (Has now) none = absurd (no_some now.had (sym (none (Some now.had) (now.had, inl refl, refl))))
only_none (MayHave c) none = absurd (no_some c (sym (none (Some c) (inr refl))))

spare_kept : (was is : FileNow) → KeepsStart was is → was ≡ Spare → is ≡ Spare
spare_kept was is keeps spare = only_none is (λ x left. none x (keeps x left))
  where
    none : (x : Option Contents) → (w : Option Contents) × MayLeaveFile was w × (start_in w ≡ start_in x) → x ≡ None
    none None w = refl
    none (Some c) w = absurd (no_some c.start (sym (ap start_in (subst (λ (f : FileNow). MayLeaveFile f w.0) spare w.1)) ∙ w.2))

pub part_kept : (g : ℕ) (part : Part) (was is : FilesNow) → KeepStarts was is → IsPart g part was → IsPart g part is
part_kept g part was is keeps p = record {
  whole = begins_kept g part.whole was is keeps p.whole;
  begun = begun_kept g part.begun was is keeps p.begun;
  given = λ so. spare_kept (now_of g was) (now_of g is) (keeps_now g was is keeps) (p.given so);
}

-- ---- the next log begins

-- till a log of the turn's second generation is there for certain, none may be left of its file
next_none : (b : Bool) (now : LogNow) (file : FileNow) (log : StoreLog MemDisk) → IsNextFile b now file log → MayLeaveFile file None
next_none false now file log spare = spare_left file spare
next_none true now file log h = ⊎_elim (spare_left file) (λ may. subst (λ (f : FileNow). MayLeaveFile f None) (sym may.1) (inl refl)) h.may

none_left : (g : ℕ) (now : LogNow) (files : FilesNow) (log : StoreLog MemDisk) → StandsInTurn (λ (d : MemDisk). true) mem_state g now files log → log.log.generation ≡ g
    → MayLeaveFile (now_of (g + 1) files) None
none_left g now files log s is = ⊎_elim
    (λ first. next_none log.next_in_doubt now (now_of (g + 1) files) log first.1)
    (λ next. let at = next.0 in absurd (omega (arith, at, is)))
    s.in_turn

-- it may be there or not
pub beginning_part : (g : ℕ) (part : Part) (now : LogNow) (files then : FilesNow) (old : StoreLog MemDisk) → StandsInTurn (λ (d : MemDisk). true) mem_state g now files old
    → old.log.generation ≡ g → now_of g then ≡ now_of g files → IsPart g part files → IsPart g part then
beginning_part g part now files then old s is same p = record {
  whole = ⊎_elim
      (λ first. from_first g part.whole then first.0 (subst (StartsBy part.whole.starts) (sym same) first.1))
      (λ next. absurd (no_starts part.whole.starts (now_of (g + 1) files) none next.1))
      (at_either g part.whole files p.whole);
  begun = not_begun g part.begun files then none p.begun;
  given = λ so. same ∙ p.given so;
}
  where
    none : MayLeaveFile (now_of (g + 1) files) None
    none = none_left g now files old s is

-- it is there, and began by where the whole log ends
pub has_next_part : (g : ℕ) (part : Part) (n : ℕ) (now : LogNow) (files : FilesNow) (log : StoreLog MemDisk) → StandsInTurn (λ (d : MemDisk). true) mem_state g now files log
    → log.log.generation ≡ g + 1 → JoinsAndRises now.had → mark_of now.had ≤ n → IsPart g part files → IsPart g (record part { begun = Some n }) files
has_next_part g part n now files log s is joins by p = record {
  whole = p.whole;
  begun = from_next g (begun_by g n) files refl starts;
  given = p.given;
}
  where
    starts : StartsBy n (now_of (g + 1) files)
    starts x left =
        let c = began_by (λ (d : MemDisk). true) mem_state g now files log s joins x (subst (λ (h : ℕ). MayLeaveFile (now_of h files) x) (sym is) left) in
        let start = c.2 in
        (c.0, c.1, omega (arith, start, by))

-- ---- the older log is given up

pub given_part : (g : ℕ) (part : Part) (files then : FilesNow) → part.whole.generation ≡ g + 1 → now_of g then ≡ Spare → now_of (g + 1) then ≡ now_of (g + 1) files
    → IsPart g part files → IsPart g (record part { given = true }) then
given_part g part files then is spare same p = record {
  whole = next_stays g part.whole files then is same p.whole;
  begun = begun_stays g part.begun files then same p.begun;
  given = λ so. spare;
}

-- or it may be there or not
pub not_given_part : (g : ℕ) (part : Part) (files then : FilesNow) → part.whole.generation ≡ g + 1 → now_of (g + 1) then ≡ now_of (g + 1) files → IsPart g part files
    → IsPart g (record part { given = false }) then
not_given_part g part files then is same p = record {
  whole = next_stays g part.whole files then is same p.whole;
  begun = begun_stays g part.begun files then same p.begun;
  given = λ so. absurd (true≢false (sym so));
}

-- ---- a turn on, and back

pub on_begins : (g : ℕ) (whole : Whole) (files : FilesNow) → now_of g files ≡ Spare → now_of (g + 1 + 1) files ≡ Spare → BeginsBy g whole files → BeginsBy (g + 1) whole files
on_begins g whole files older later begins = ⊎_elim
    (λ first. absurd (no_starts whole.starts (now_of g files) (spare_left (now_of g files) older) first.1))
    (λ next. from_first (g + 1) whole files next.0 next.1)
    (at_either g whole files begins)

pub back_begins : (g : ℕ) (whole : Whole) (files then : FilesNow) → now_of (g + 1 + 1) files ≡ Spare → now_of g then ≡ Spare → now_of (g + 1) then ≡ now_of (g + 1) files
    → BeginsBy (g + 1) whole files → BeginsBy g whole then
back_begins g whole files then later older same begins = ⊎_elim
    (λ first. from_next g whole then first.0 (subst (StartsBy whole.starts) (sym same) first.1))
    (λ next. absurd (no_starts whole.starts (now_of (g + 1 + 1) files) (spare_left (now_of (g + 1 + 1) files) later) next.1))
    (at_either (g + 1) whole files begins)

-- ---- how far all workers are

-- the worker at a place has begun its next log, which began by a step
abbrev pub begun_to : ℕ → ℕ → Turning → Turning
begun_to k n turning = record turning { begun = k + 1; starts = n }

-- the older log of the worker at a place was given up
abbrev pub given_to : ℕ → Turning → Turning
given_to k turning = record turning { given = k + 1 }

-- the next generation stands whole
abbrev pub next_whole : ℕ → Turning → Turning
next_whole g turning = only_whole (record { generation = g + 1; starts = turning.starts })

pub others_begun : (g : ℕ) (turning : Turning) (k n worker : ℕ) (files : FilesNow) → k ≤ turning.begun → turning.starts ≤ n → worker ≢ k
    → IsPart g (part_of turning worker) files → IsPart g (part_of (begun_to k n turning) worker) files
others_begun g turning k n worker files upto later other part = part_from g (begun_to k n turning) worker files part.whole
    (λ under. begun_later g turning.starts n files later (surely_begun g turning worker files (omega (arith, under, other, upto)) part))
    (λ under. surely_given g turning worker files under part)

pub this_begun : (g : ℕ) (turning : Turning) (k n : ℕ) (files : FilesNow) → IsPart g (record (part_of turning k) { begun = Some n }) files
    → IsPart g (part_of (begun_to k n turning) k) files
this_begun g turning k n files part = part_from g (begun_to k n turning) k files part.whole (λ under. part.begun) (λ under. part.given (lt-ltb k turning.given under))

pub others_given : (g : ℕ) (turning : Turning) (k worker : ℕ) (files : FilesNow) → k ≤ turning.given → worker ≢ k → IsPart g (part_of turning worker) files
    → IsPart g (part_of (given_to k turning) worker) files
others_given g turning k worker files upto other part = part_from g (given_to k turning) worker files part.whole
    (λ under. surely_begun g turning worker files under part)
    (λ under. surely_given g turning worker files (omega (arith, under, other, upto)) part)

pub this_given : (g : ℕ) (turning : Turning) (k : ℕ) (files : FilesNow) → IsPart g (record (part_of turning k) { given = true }) files
    → IsPart g (part_of (given_to k turning) k) files
this_given g turning k files part = part_from g (given_to k turning) k files part.whole
    (λ under. if_begun g (g + 1) turning.starts files (ltb k turning.begun) (lt-ltb k turning.begun under) part.begun)
    (λ under. part.given refl)

pub whole_next : (g : ℕ) (turning : Turning) (worker : ℕ) (files : FilesNow) → worker < turning.begun → IsPart g (part_of turning worker) files
    → IsPart g (part_of (next_whole g turning) worker) files
whole_next g turning worker files under part = new_part g (begun_by g turning.starts) worker files (surely_begun g turning worker files under part)
