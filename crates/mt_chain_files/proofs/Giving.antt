-- What readings of a worker's chain give, one after the other.
use Rattle.std.proofs.Common.{◌≡◌, inl, inr, ⊎_elim, ℕ, ◌+◌, ◌==◌, ◌%◌, Bool, true, false, not, ◌&&◌, cond, IsTrue, List, [], ◌∷◌, ◌++◌, Option, Some, None, refl, sym, ◌∙◌, ap, subst, arith}
use Rattle.std.proofs.lemmas.Bool.{eq-eqb, ne_eqb, cases_eq}
use Rattle.std.specs.{Prelude.{Result, Ok, Err, is_ok, IfOk}, Option.option_map}
use Rattle.mt_disk.specs.Disk.{DiskState}
use Rattle.mt_log.specs.{declared.batch.LogBatch.LogBatch, declared.batch.ReadBatch.ReadBatch, declared.batch_reader.BatchReader.BatchReader, declared.log_file.LogFile.LogFile}
use Rattle.mt_log.specs.{declared.reader.FileKind.FileKind, declared.fault.ReadFault.ReadFault, Contents.Contents, Fronts.IsOfKind, Logs.IsLogOf, Rereading.{AreAhead, GivesFirst, IsOnlyRead, CountsReads}}
use Rattle.mt_log.specs.declared.fault.ReadFault.TheVariants as faults
use Rattle.mt_recover.specs.{declared.resuming.LogSlot.LogSlot, declared.resuming.LogSlot.TheVariants.{Open}, Sources.Gives}
use Rattle.mt_log_files.specs.{declared.worker.WorkerFiles.WorkerFiles, Slots.{file_of, with_file}}
use Rattle.mt_chain_files.specs.{declared.chain_reader.ChainReader.ChainReader, Rereads.{kind_of, Counts, SlotIsRead, FilesAreRead, AreToGive, LogIsAhead, LogsAreAhead, ChainIsAhead, NextIsAhead}}

-- what a call gives
abbrev pub Read : Type 0
Read = Result (Option ReadBatch) ReadFault

-- ---- batches that are given

-- what is given of some that are left is given of others
pub gives_on : (P Q : List LogBatch → Type 0) → ((bs : List LogBatch) → P bs → Q bs) → (bs : List LogBatch) (given : Option LogBatch) → Gives P bs given → Gives Q bs given
gives_on P Q each [] None left = each [] left
gives_on P Q each [] (Some b) left = absurd left
gives_on P Q each (b ∷ bs) None left = absurd left
gives_on P Q each (b ∷ bs) (Some given) left = (left.0, each bs left.1)

-- a reader gives the first of those that are ahead of it
pub first_given : (image : List ℕ) (new : BatchReader) (bs : List LogBatch) (given : Option ReadBatch) → GivesFirst bs image given new
    → Gives (λ rest. AreAhead rest image new) bs (option_map (λ (r : ReadBatch). r.batch) given)
first_given image new [] None g = g
first_given image new [] (Some r) g = absurd g
first_given image new (b ∷ bs) None g = absurd g
first_given image new (b ∷ bs) (Some r) g = g

-- ---- counts of failures

pub counts_read : {T : Type 0} (r : Result T ReadFault) (old new : ℕ) → CountsReads r old new → Counts (is_ok r) old new
counts_read (Ok x) old new c = c
counts_read (Err faults.Device) old new (inl c) = omega (arith, c)
counts_read (Err faults.Device) old new (inr c) = let same = c.0 in omega (arith, same)
counts_read (Err faults.Memory) old new c = omega (arith, c)
counts_read (Err (faults.Bad n o)) old new c = omega (arith, c)

pub counts_same : (well : Bool) (n : ℕ) → Counts well n n
counts_same true n = refl
counts_same false n = omega arith

pub counts_after : (well : Bool) (old mid new : ℕ) → mid ≡ old → Counts well mid new → Counts well old new
counts_after well old mid new same c = subst (λ (n : ℕ). Counts well n new) same c

same_open : {D : Type 0} (a b : LogFile D) → let x : LogSlot D = Open a in let y : LogSlot D = Open b in x ≡ y → a ≡ b
same_open a b e = cc

module _ {D : Type 0} (is_honest : D → Bool) (state : D → DiskState) (failures : D → ℕ) where
  pub only_same : (log : LogFile D) → IsOnlyRead is_honest state log log
  only_same log = record { end = refl; mark = refl; same = λ h. refl; honest = refl }

  pub only_twice : (old mid new : LogFile D) → IsOnlyRead is_honest state old mid → IsOnlyRead is_honest state mid new → IsOnlyRead is_honest state old new
  only_twice old mid new a b = record {
    end = b.end ∙ a.end;
    mark = b.mark ∙ a.mark;
    same = λ h. b.same (subst IsTrue (sym a.honest) h) ∙ a.same h;
    honest = b.honest ∙ a.honest;
  }

  -- ---- one log

  module _ (kind : FileKind) (old new : LogFile D) (reader : Option BatchReader) (at : BatchReader) (given : Option ReadBatch) (read : IsOnlyRead is_honest state old new) where
    -- a reader that has begun gives the next one
    pub goes_on : (was : BatchReader) → reader ≡ Some was
        → (IsTrue (is_honest old.disk) → (bs : List LogBatch) → AreAhead bs (state old.disk).image was → GivesFirst bs (state old.disk).image given at)
        → IsTrue (is_honest old.disk) → (bs : List LogBatch) → AreToGive is_honest state kind bs old reader
        → Gives (λ rest. AreToGive is_honest state kind rest new (Some at)) bs (option_map (λ (r : ReadBatch). r.batch) given)
    goes_on was is first h bs ahead =
        gives_on (λ rest. AreAhead rest (state old.disk).image at) (λ rest. AreToGive is_honest state kind rest new (Some at))
        (λ rest a. subst (λ (s : DiskState). AreAhead rest s.image at) (sym (read.same h)) a)
        bs (option_map (λ (r : ReadBatch). r.batch) given)
        (first_given (state old.disk).image at bs given (first h bs (subst (λ (r : Option BatchReader). AreToGive is_honest state kind bs old r) is ahead)))

    -- one that has not begins, and gives the first
    pub begins : (was : BatchReader) (mid : LogFile D) → reader ≡ None → IsOnlyRead is_honest state old mid
        → (IsTrue (is_honest old.disk) → (c : Contents) → IsLogOf state c old → IsOfKind kind c.generation → AreAhead c.batches (state old.disk).image was)
        → (IsTrue (is_honest mid.disk) → (bs : List LogBatch) → AreAhead bs (state mid.disk).image was → GivesFirst bs (state mid.disk).image given at)
        → IsTrue (is_honest old.disk) → (bs : List LogBatch) → AreToGive is_honest state kind bs old reader
        → Gives (λ rest. AreToGive is_honest state kind rest new (Some at)) bs (option_map (λ (r : ReadBatch). r.batch) given)
    begins was mid is begun all first h bs ahead =
        let all_ahead = subst (λ (r : Option BatchReader). AreToGive is_honest state kind bs old r) is ahead in
        let same = begun.same h in
        gives_on (λ rest. AreAhead rest (state mid.disk).image at) (λ rest. AreToGive is_honest state kind rest new (Some at))
        (λ rest a. subst (λ (s : DiskState). AreAhead rest s.image at) (same ∙ sym (read.same h)) a)
        bs (option_map (λ (r : ReadBatch). r.batch) given)
        (first_given (state mid.disk).image at bs given
        (first (subst IsTrue (sym begun.honest) h) bs
        (subst (λ (s : DiskState). AreAhead bs s.image was) (sym same)
        (subst (λ (b : List LogBatch). AreAhead b (state old.disk).image was) (sym all_ahead.3) (all h all_ahead.0 all_ahead.1 all_ahead.2)))))

  -- a place of an open log gives what the log does
  pub slot_gives : (kind : FileKind) (old new : LogFile D) (was is : Option BatchReader) (given : Option LogBatch) → IsOnlyRead is_honest state old new
      → (IsTrue (is_honest old.disk) → (bs : List LogBatch) → AreToGive is_honest state kind bs old was → Gives (λ rest. AreToGive is_honest state kind rest new is) bs given)
      → (bs : List LogBatch) → LogIsAhead is_honest state kind bs (Open old) was → Gives (λ rest. LogIsAhead is_honest state kind rest (Open new) is) bs given
  slot_gives kind old new was is given read each bs ahead =
      let same = same_open old ahead.log ahead.there in
      let h = subst (λ (l : LogFile D). IsTrue (is_honest l.disk)) (sym same) ahead.honest in
      gives_on (λ rest. AreToGive is_honest state kind rest new is) (λ rest. LogIsAhead is_honest state kind rest (Open new) is)
      (λ rest a. record { log = new; there = refl; honest = subst IsTrue (sym read.honest) h; ahead = a })
      bs given (each h bs (subst (λ (l : LogFile D). AreToGive is_honest state kind bs l was) (sym same) ahead.ahead))

  -- a place of no open log has none to give
  pub none_ahead : (kind : FileKind) (bs : List LogBatch) (slot : LogSlot D) (reader : Option BatchReader) (P : Type 0) → ((log : LogFile D) → slot ≡ Open log → ⊥)
      → LogIsAhead is_honest state kind bs slot reader → P
  none_ahead kind bs slot reader P shut ahead = absurd (shut ahead.log ahead.there)

-- ---- the places of a worker's files

over_none : (g : ℕ) → (g + 1 == 0) ≡ false
over_none g = ne_eqb (g + 1) 0 (λ e. omega (arith, e))

other_parity : (g : ℕ) → (((g + 1) % 2) == 0) ≡ not (g % 2 == 0)
other_parity g = ⊎_elim
    (λ even. ne_eqb ((g + 1) % 2) 0 (λ e. omega (arith, e, even)) ∙ sym (ap not (eq-eqb (g % 2) 0 even)))
    (λ odd. eq-eqb ((g + 1) % 2) 0 (omega (arith, odd)) ∙ sym (ap not (ne_eqb (g % 2) 0 odd)))
    (cases_eq (g % 2) 0)

module _ {D : Type 0} where
  -- one of three places, by whether the generation is 0, and whether it is even
  abbrev place : Bool → Bool → WorkerFiles D → LogSlot D
  place none even files = cond none files.plain (cond even files.even files.odd)

  abbrev placed : Bool → Bool → LogSlot D → WorkerFiles D → WorkerFiles D
  placed none even slot files = cond none (record files { plain = slot }) (cond even (record files { even = slot }) (record files { odd = slot }))

  is_placed : (a b : Bool) (slot : LogSlot D) (files : WorkerFiles D) → place a b (placed a b slot files) ≡ slot
  is_placed true b slot files = refl
  is_placed false true slot files = refl
  is_placed false false slot files = refl

  pub file_is : (g : ℕ) (slot : LogSlot D) (files : WorkerFiles D) → file_of g (with_file g slot files) ≡ slot
  file_is g slot files = is_placed (g == 0) (g % 2 == 0) slot files

  next_place : (g : ℕ) (files : WorkerFiles D) → file_of (g + 1) files ≡ place false (not (g % 2 == 0)) files
  next_place g files = λ i. place (over_none g i) (other_parity g i) files

  other_stays : (a b : Bool) (slot : LogSlot D) (files : WorkerFiles D) → place false (not b) (placed a b slot files) ≡ place false (not b) files
  other_stays true b slot files = refl
  other_stays false true slot files = refl
  other_stays false false slot files = refl

  -- the next file stays if another place is put for the first one
  pub next_stays : (g : ℕ) (slot : LogSlot D) (files : WorkerFiles D) → file_of (g + 1) (with_file g slot files) ≡ file_of (g + 1) files
  next_stays g slot files =
      next_place g (with_file g slot files) ∙ other_stays (g == 0) (g % 2 == 0) slot files ∙ sym (next_place g files)

module _ {D : Type 0} (is_honest : D → Bool) (state : D → DiskState) (failures : D → ℕ) where
  -- ---- files that are read

  -- one log of a worker was read
  one_read : (well a b : Bool) (slot : LogSlot D) (files : WorkerFiles D) → SlotIsRead is_honest state failures well (place a b files) slot
      → FilesAreRead is_honest state failures well files (placed a b slot files)
  one_read well true b slot files read = record { plain = read; even = inl refl; odd = inl refl }
  one_read well false true slot files read = record { plain = inl refl; even = read; odd = inl refl }
  one_read well false false slot files read = record { plain = inl refl; even = inl refl; odd = read }

  pub file_read : (well : Bool) (g : ℕ) (slot : LogSlot D) (files : WorkerFiles D) → SlotIsRead is_honest state failures well (file_of g files) slot
      → FilesAreRead is_honest state failures well files (with_file g slot files)
  file_read well g slot files read = one_read well (g == 0) (g % 2 == 0) slot files read

  -- the same, of files that stand so
  pub file_was_read : (r : Read) (x : Option ReadBatch) (g : ℕ) (old new : WorkerFiles D) → r ≡ Ok x → SlotIsRead is_honest state failures (is_ok r) (file_of g old) (file_of g new)
      → new ≡ with_file g (file_of g new) old → FilesAreRead is_honest state failures true old new
  file_was_read r x g old new is read stands =
      subst (λ (files : WorkerFiles D). FilesAreRead is_honest state failures true old files) (sym stands)
      (file_read true g (file_of g new) old (subst (λ (b : Bool). SlotIsRead is_honest state failures b (file_of g old) (file_of g new)) (ap is_ok is) read))

  counts_both : (a b : Bool) (old mid new : ℕ) → Counts a old mid → Counts b mid new → Counts (a && b) old new
  counts_both true true old mid new first second = second ∙ first
  counts_both true false old mid new first second = omega (arith, first, second)
  counts_both false true old mid new first second = omega (arith, first, second)
  counts_both false false old mid new first second = omega (arith, first, second)

  -- one reading after the other
  slot_after : (a b : Bool) (old mid new : LogSlot D) → SlotIsRead is_honest state failures a old mid → SlotIsRead is_honest state failures b mid new
      → SlotIsRead is_honest state failures (a && b) old new
  slot_after a b old mid new (inl first) (inl second) = inl (second ∙ first)
  slot_after a b old mid new (inl first) (inr l) = inr (record {
    was = l.was;
    is = l.is;
    from = sym first ∙ l.from;
    to = l.to;
    only = l.only;
    count = counts_both a b (failures l.was.disk) (failures l.was.disk) (failures l.is.disk) (counts_same a (failures l.was.disk)) l.count;
  })
  slot_after a b old mid new (inr l) (inl second) = inr (record {
    was = l.was;
    is = l.is;
    from = l.from;
    to = second ∙ l.to;
    only = l.only;
    count = counts_both a b (failures l.was.disk) (failures l.is.disk) (failures l.is.disk) l.count (counts_same b (failures l.is.disk));
  })
  slot_after a b old mid new (inr l) (inr m) =
      let same = same_open l.is m.was (sym l.to ∙ m.from) in
      inr (record {
        was = l.was;
        is = m.is;
        from = l.from;
        to = m.to;
        only = only_twice is_honest state failures l.was l.is m.is l.only (subst (λ (x : LogFile D). IsOnlyRead is_honest state x m.is) (sym same) m.only);
        count = counts_both a b (failures l.was.disk) (failures l.is.disk) (failures m.is.disk) l.count (subst (λ (x : LogFile D). Counts b (failures x.disk) (failures m.is.disk)) (sym same) m.count);
      })

  pub files_after : (a b : Bool) (old mid new : WorkerFiles D) → FilesAreRead is_honest state failures a old mid → FilesAreRead is_honest state failures b mid new
      → FilesAreRead is_honest state failures (a && b) old new
  files_after a b old mid new first second = record {
    plain = slot_after a b old.plain mid.plain new.plain first.plain second.plain;
    even = slot_after a b old.even mid.even new.even first.even second.even;
    odd = slot_after a b old.odd mid.odd new.odd first.odd second.odd;
  }

  pub files_same : (well : Bool) (files : WorkerFiles D) → FilesAreRead is_honest state failures well files files
  files_same well files = record { plain = inl refl; even = inl refl; odd = inl refl }

  -- ---- batches of a chain

  other_file : (g next : ℕ) (old new : WorkerFiles D) → new ≡ with_file g (file_of g new) old → next ≡ g + 1 → file_of next old ≡ file_of next new
  other_file g next old new stands after =
      ap (λ (n : ℕ). file_of n old) after ∙ sym (ap (file_of (g + 1)) stands ∙ next_stays g (file_of g new) old) ∙ ap (λ (n : ℕ). file_of n new) (sym after)

  -- the log that a reader is at gives the next batch of the chain
  pub chain_gives : (g : ℕ) (next : Option ℕ) (old new : WorkerFiles D) (was is : Option BatchReader) (b : LogBatch)
      → ((bs : List LogBatch) → LogIsAhead is_honest state (kind_of g) bs (file_of g old) was
      → Gives (λ rest. LogIsAhead is_honest state (kind_of g) rest (file_of g new) is) bs (Some b))
      → new ≡ with_file g (file_of g new) old → (bs : List LogBatch) → LogsAreAhead is_honest state g next bs old was
      → Gives (λ rest. LogsAreAhead is_honest state g next rest new is) bs (Some b)
  chain_gives g None old new was is b each stands bs ahead = each bs ahead
  chain_gives g (Some next) old new was is b each stands bs (first, rest, whole, after, this, later) =
      subst (λ (l : List LogBatch). Gives (λ more. LogsAreAhead is_honest state g (Some next) more new is) l (Some b)) (sym whole) (by first (each first this))
    where
      by : (first : List LogBatch) → Gives (λ more. LogIsAhead is_honest state (kind_of g) more (file_of g new) is) first (Some b)
          → Gives (λ more. LogsAreAhead is_honest state g (Some next) more new is) (first ++ rest) (Some b)
      by [] left = absurd left
      by (x ∷ xs) left =
          (left.0, (xs, rest, refl, after, left.1, subst (λ (slot : LogSlot D). LogIsAhead is_honest state (kind_of next) rest slot None) (other_file g next old new stands after) later))

  -- it has none left, and the next log has the others
  pub chain_goes_on : (g : ℕ) (next : Option ℕ) (old new : WorkerFiles D) (was is : Option BatchReader)
      → ((bs : List LogBatch) → LogIsAhead is_honest state (kind_of g) bs (file_of g old) was
      → Gives (λ rest. LogIsAhead is_honest state (kind_of g) rest (file_of g new) is) bs None)
      → new ≡ with_file g (file_of g new) old → (bs : List LogBatch) → LogsAreAhead is_honest state g next bs old was
      → NextIsAhead is_honest state g next bs new is
  chain_goes_on g None old new was is each stands [] ahead = (refl, each [] ahead)
  chain_goes_on g None old new was is each stands (b ∷ bs) ahead = absurd (each (b ∷ bs) ahead)
  chain_goes_on g (Some next) old new was is each stands bs (first, rest, whole, after, this, later) =
      let left : LogIsAhead is_honest state (kind_of next) rest (file_of next new) None =
      subst (λ (slot : LogSlot D). LogIsAhead is_honest state (kind_of next) rest slot None) (other_file g next old new stands after) later in
      subst (λ (l : List LogBatch). LogIsAhead is_honest state (kind_of next) l (file_of next new) None) (sym (whole ∙ by first (each first this))) left
    where
      by : (first : List LogBatch) → Gives (λ more. LogIsAhead is_honest state (kind_of g) more (file_of g new) is) first None → first ++ rest ≡ rest
      by [] left = refl
      by (x ∷ xs) left = absurd left

  -- ---- the same, by the results of calls

  -- a call gave the first batch of a place's log, if any is left
  abbrev pub IsGivenOf : Read → FileKind → LogSlot D → Option BatchReader → LogSlot D → Option BatchReader → Type 0
  IsGivenOf r kind old was new is = IfOk r
      (λ given. (bs : List LogBatch) → LogIsAhead is_honest state kind bs old was
      → Gives (λ rest. LogIsAhead is_honest state kind rest new is) bs (option_map (λ (b : ReadBatch). b.batch) given))

  pub same_given : (r : Read) (kind told : FileKind) (old was_there new there : LogSlot D) (was is : Option BatchReader) → told ≡ kind → was_there ≡ old → there ≡ new
      → IsGivenOf r told was_there was there is → IsGivenOf r kind old was new is
  same_given r kind told old was_there new there was is e f h given =
      subst (λ (k : FileKind). IsGivenOf r k old was new is) e
      (subst (λ (s : LogSlot D). IsGivenOf r told s was new is) f (subst (λ (s : LogSlot D). IsGivenOf r told was_there was s is) h given))

  pub slot_given : (r : Read) (kind : FileKind) (old new : LogFile D) (was is : Option BatchReader) → IsOnlyRead is_honest state old new
      → (IsTrue (is_honest old.disk) → IfOk r
      (λ given. (bs : List LogBatch) → AreToGive is_honest state kind bs old was
      → Gives (λ rest. AreToGive is_honest state kind rest new is) bs (option_map (λ (b : ReadBatch). b.batch) given)))
      → IsGivenOf r kind (Open old) was (Open new) is
  slot_given (Ok given) kind old new was is read each = slot_gives is_honest state failures kind old new was is (option_map (λ (b : ReadBatch). b.batch) given) read each
  slot_given (Err e) kind old new was is read each = tt

  -- a reader gives the next batch of the log that it is at
  pub reader_gives : (old new : WorkerFiles D) (was is : ChainReader) (b : LogBatch) → is ≡ record was { reader = is.reader }
      → ((bs : List LogBatch) → LogIsAhead is_honest state (kind_of was.generation) bs (file_of was.generation old) was.reader
      → Gives (λ rest. LogIsAhead is_honest state (kind_of was.generation) rest (file_of was.generation new) is.reader) bs (Some b))
      → new ≡ with_file was.generation (file_of was.generation new) old → (bs : List LogBatch) → ChainIsAhead is_honest state bs old was
      → Gives (λ rest. ChainIsAhead is_honest state rest new is) bs (Some b)
  reader_gives old new was is b place each stands bs ahead =
      subst (λ (r : ChainReader). Gives (λ rest. ChainIsAhead is_honest state rest new r) bs (Some b)) (sym place)
      (chain_gives was.generation was.next old new was.reader is.reader b each stands bs ahead)

  -- or has none left there, and the next log gives the others
  pub reader_goes_on : (r then : Read) (old mid : WorkerFiles D) (was is : ChainReader) (left : List LogBatch → Type 0) → is ≡ record was { reader = is.reader } → r ≡ Ok None
      → IsGivenOf r (kind_of was.generation) (file_of was.generation old) was.reader (file_of was.generation mid) is.reader
      → mid ≡ with_file was.generation (file_of was.generation mid) old
      → IfOk then (λ given. (bs : List LogBatch) → NextIsAhead is_honest state is.generation is.next bs mid is.reader → Gives left bs (option_map (λ (b : ReadBatch). b.batch) given))
      → IfOk then (λ given. (bs : List LogBatch) → ChainIsAhead is_honest state bs old was → Gives left bs (option_map (λ (b : ReadBatch). b.batch) given))
  reader_goes_on r (Err e) old mid was is left place none given stands after = tt
  reader_goes_on r (Ok later) old mid was is left place none given stands after = λ bs ahead.
      after bs
      (subst (λ (x : ChainReader). NextIsAhead is_honest state x.generation x.next bs mid x.reader) (sym place)
      (chain_goes_on was.generation was.next old mid was.reader is.reader
      (subst (λ (x : Read). IsGivenOf x (kind_of was.generation) (file_of was.generation old) was.reader (file_of was.generation mid) is.reader) none given) stands bs ahead))
