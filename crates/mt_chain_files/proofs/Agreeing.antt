-- What is chosen, or why nothing is, holds of all that stands if it agrees with what was read.
use Rattle.std.proofs.Common.{◌≡◌, ◌↔◌, ◌⊎◌, Some, inl, inr, ⊎_elim, ℕ, Bool, true, false, IsTrue, not, zero, suc, ◌+◌, ◌<◌, ◌≤◌, List, [], ◌∷◌, length, map, refl, sym, ◌∙◌, ap, subst, arith, Option, None}
use Rattle.std.proofs.lemmas.{Bool.{true≢false, not-true, not_from_false, false_from_ne_true}, List.length-map, Option.same_Some}
use Rattle.std.specs.{Prelude.{is_some, IfSome, IfNone}, Option.option_map}
use Rattle.mt_log.specs.Contents.{contents_of}
use Rattle.mt_crashes.{specs.{Fronts.In, Bases.Slots}, proofs.{Members.{no_some}, Invariant.{zip_left, zip_right, within_place, map_place}}}
use Rattle.mt_generations.specs.Chains.{Chain}
use Rattle.mt_generations.specs.Standings.{Standing, joined, AreFrom, AllHave, AgreeFrom, IsLast, CanBegin, IsChosen, HaveNoChoice, StartFalls}
use Rattle.mt_generations.proofs.{Deciding.{have_all, all_from}, Choices.older_unread}
use Rattle.mt_chains.specs.{declared.worker_logs.WorkerLogs.WorkerLogs, Files.{standing_of, IsOwned, AreOwned, FallsFrom, IsFirstApart}}
use Rattle.mt_disk.specs.Disk.{DiskState}
use Rattle.mt_log_files.specs.declared.worker.WorkerFiles.{WorkerFiles}
use Rattle.mt_chain_files.specs.{declared.fault.FilesFault.FilesFault, declared.headers.Told.Told, declared.opening.Chains.Chains}
use Rattle.mt_chain_files.specs.{Headers.{LooksAtFiles, StopsLookingAt}, Numbered.{numbered_logs, OpensNumberedFiles, StopsNumberedAt}, Rounds.{HasChoice, ComesTo, ReadsNumbered, StopsNumbered}}
use Rattle.mt_chain_files.specs.Chosen.{begun_in, NeedPlain, BeginAt, StrangeAt, FallAt, RefuseToBegin, MayStand, ReadsPlain, NotChosen, OpensChains, StopsChains}
use Rattle.mt_chain_files.proofs.Loops.{get_within, at_place, zip_count}
use Rattle.mt_rows.specs.declared.refusal.Refusal.TheVariants as refusals

-- ---- standings that agree

pub agree_self : (g : ℕ) (files : List Standing) → AgreeFrom g files files
agree_self g [] = tt
agree_self g (f ∷ files) = (λ h le. refl, agree_self g files)

pub agree_back : (g : ℕ) (files others : List Standing) → AgreeFrom g files others → AgreeFrom g others files
agree_back g [] [] all = tt
agree_back g [] (o ∷ others) all = absurd all
agree_back g (f ∷ files) [] all = absurd all
agree_back g (f ∷ files) (o ∷ others) all = (λ h le. sym (all.0 h le), agree_back g files others all.1)

pub agree_later : (g n : ℕ) (files others : List Standing) → g ≤ n → AgreeFrom g files others → AgreeFrom n files others
agree_later g n [] [] le all = tt
agree_later g n [] (o ∷ others) le all = absurd all
agree_later g n (f ∷ files) [] le all = absurd all
agree_later g n (f ∷ files) (o ∷ others) le all = (λ h from. all.0 h (omega (arith, le, from)), agree_later g n files others le all.1)

pub from_agree : (g : ℕ) (files others : List Standing) (chains : List Chain) → AgreeFrom g files others → AreFrom g files chains → AreFrom g others chains
from_agree g [] [] chains all are = are
from_agree g [] (o ∷ others) chains all are = absurd all
from_agree g (f ∷ files) [] chains all are = absurd all
from_agree g (f ∷ files) (o ∷ others) [] all are = absurd are
from_agree g (f ∷ files) (o ∷ others) (c ∷ chains) all are =
    ((λ i. joined (all.0 g (omega arith) i) (all.0 (g + 1) (omega arith) i)) ∙ are.0, from_agree g files others chains all.1 are.1)

pub have_agree : (g : ℕ) (files others : List Standing) → AgreeFrom g files others → AllHave g files → AllHave g others
have_agree g files others all have = let from = all_from g files have in have_all g others from.0 (from_agree g files others from.0 all from.1)

in_agree : (g : ℕ) (files others : List Standing) (o : Standing) → AgreeFrom g files others → In o others → (f : Standing) × In f files × ((h : ℕ) → g ≤ h → o h ≡ f h)
in_agree g [] [] o all at = absurd at
in_agree g [] (x ∷ others) o all at = absurd all
in_agree g (f ∷ files) [] o all at = absurd at
in_agree g (f ∷ files) (x ∷ others) o all (inl e) = (f, inl refl, λ h le. ap (λ (y : Standing). y h) e ∙ all.0 h le)
in_agree g (f ∷ files) (x ∷ others) o all (inr at) = let rest = in_agree g files others o all.1 at in (rest.0, inr rest.1, rest.2)

falls_agree : (g n : ℕ) (f o : Standing) → ((h : ℕ) → g ≤ h → o h ≡ f h) → StartFalls g o n → StartFalls g f n
falls_agree g n f o same s = record {
  first = s.first;
  next = s.next;
  has_first = sym (same g (omega arith)) ∙ s.has_first;
  has_next = sym (same (g + 1) (omega arith)) ∙ s.has_next;
  apart = s.apart;
  is = s.is;
}

from_agrees : (g n : ℕ) (f o : Standing) → ((h : ℕ) → g ≤ h → o h ≡ f h) → FallsFrom g o n → FallsFrom g f n
from_agrees g n f o same (inl s) = inl (falls_agree g n f o same s)
from_agrees g n f o same (inr later) = inr (
  λ m s. later.0 m (falls_agree g m o f (λ h le. sym (same h le)) s),
  (later.1.0, sym (same (g + 2) (omega arith)) ∙ later.1.1, later.1.2),
)

from_back : (g n : ℕ) (f o : Standing) → ((h : ℕ) → g ≤ h → o h ≡ f h) → FallsFrom g f n → FallsFrom g o n
from_back g n f o same s = from_agrees g n o f (λ h le. sym (same h le)) s

long_agree : (g : ℕ) (files others : List Standing) → AgreeFrom g files others → length files ≡ length others
long_agree g files others all = sym (zip_count (λ (f o : Standing). (h : ℕ) → g ≤ h → o h ≡ f h) files others all)

pub owned_agree : (g : ℕ) (files others : List Standing) → AgreeFrom g files others → AreOwned g files → AreOwned g others
owned_agree g files others all owned k o c there is =
    let f = zip_right (λ (f o : Standing). (h : ℕ) → g ≤ h → o h ≡ f h) files others k o all there in
    subst (λ (n : ℕ). IsOwned k n c) (long_agree g files others all) (owned k f.0 c f.1 (by f.0 f.2 is))
  where
    by : (f : Standing) → ((h : ℕ) → g ≤ h → o h ≡ f h) → (o g ≡ Some c) ⊎ (o (g + 1) ≡ Some c) → (f g ≡ Some c) ⊎ (f (g + 1) ≡ Some c)
    by f same (inl has) = inl (sym (same g (omega arith)) ∙ has)
    by f same (inr has) = inr (sym (same (g + 1) (omega arith)) ∙ has)

module _ (slots : Slots) where
  pub chosen_agree : (g : ℕ) (files others : List Standing) → AgreeFrom g files others → ((chains : List Chain) → AreFrom g files chains → IsChosen files slots g chains)
      → (chains : List Chain) → AreFrom g others chains → IsChosen others slots g chains
  chosen_agree g files others all chosen chains are =
      older_unread g files others slots chains all (chosen chains (from_agree g others files chains (agree_back g files others all) are))

  -- ---- chains that begin

  pub meets_agree : (g : ℕ) (files others : List Standing) → AgreeFrom g files others → ((f : Standing) (start : ℕ) → In f files → ¬ FallsFrom g f start)
      → (o : Standing) (start : ℕ) → In o others → ¬ FallsFrom g o start
  meets_agree g files others all meets o start at falls =
      let f = in_agree g files others o all at in meets f.0 start f.1 (from_agrees g start f.0 o f.2 falls)

  apart_agree : (g : ℕ) (files others : List Standing) (place start : ℕ) → AgreeFrom g files others → IsFirstApart g files place start → IsFirstApart g others place start
  apart_agree g files others place start all a =
      let o = zip_left (λ (f e : Standing). (h : ℕ) → g ≤ h → e h ≡ f h) files others place a.worker all a.there in
      record {
        worker = o.0;
        there = o.1;
        falls = from_back g start a.worker o.0 o.2 a.falls;
        first = λ k other n lt there falls. (
            let f = zip_right (λ (f e : Standing). (h : ℕ) → g ≤ h → e h ≡ f h) files others k other all there in
            a.first k f.0 n lt f.1 (from_agrees g n f.0 other f.2 falls)
            );
      }

  pub fall_agree : (files others : List Standing) (place start : ℕ) → (f : FallAt files slots place start) → AgreeFrom f.generation files others → FallAt others slots place start
  fall_agree files others place start f all = record {
    generation = f.generation;
    has = have_agree f.generation files others all f.has;
    chosen = chosen_agree f.generation files others all f.chosen;
    owned = owned_agree f.generation files others all f.owned;
    apart = apart_agree f.generation files others place start all f.apart;
  }

  pub strange_agree : (files others : List Standing) → (f : StrangeAt files slots) → AgreeFrom f.generation files others → StrangeAt others slots
  strange_agree files others f all = record {
    generation = f.generation;
    has = have_agree f.generation files others all f.has;
    chosen = chosen_agree f.generation files others all f.chosen;
    strange = λ owned. f.strange (owned_agree f.generation others files (agree_back f.generation files others all) owned);
  }

-- ---- plain files that were not read

-- no worker has a log of generation 0
abbrev pub NoneFirst : List Standing → Type 0
NoneFirst files = (f : Standing) → In f files → f 0 ≡ None

pub not_first : (files : List Standing) → 0 < length files → NoneFirst files → ¬ AllHave 0 files
not_first [] some none have = omega (arith, some)
not_first (f ∷ files) some none have = let c = have f (inl refl) in no_some c.0 (sym (none f (inl refl)) ∙ c.1)

pub over_zero : (g : ℕ) (files : List Standing) → 0 < length files → NoneFirst files → AllHave g files → 0 < g
over_zero zero files some none have = absurd (not_first files some none have)
over_zero (suc g) files some none have = omega arith

module _ (slots : Slots) (files others : List Standing) (some : 0 < length files) (none : NoneFirst files) (all : AgreeFrom 1 files others) where
  later_have : (h : ℕ) → 0 < h → AllHave h files → AllHave h others
  later_have h over have = have_agree h files others (agree_later 1 h files others (omega (arith, over)) all) have

  earlier_have : (h : ℕ) → 0 < h → AllHave h others → AllHave h files
  earlier_have h over have = have_agree h others files (agree_back h files others (agree_later 1 h files others (omega (arith, over)) all)) have

  -- if plain files are not needed, they are no choice
  no_plain : ¬ NeedPlain files slots → (chains : List Chain) → ¬ IsChosen others slots 0 chains
  no_plain unneeded chains chosen = ⊎_elim
      (λ (last : IsLast 0 others). unneeded (inl (λ g have. (
      let over = over_zero g files some none have in omega (arith, last.1 g (later_have g over have), over)
      ))))
      (λ (next : IsLast 1 others × (¬ CanBegin 1 others slots)). unneeded (inr (
        (
          earlier_have 1 (omega arith) next.0.0,
          λ h have. next.0.1 h (later_have h (over_zero h files some none have) have),
        ),
        λ can. next.1 (can.0, from_agree 1 files others can.0 all can.1, can.2),
      )))
      chosen.2

  pub none_agree : ¬ NeedPlain files slots → HaveNoChoice files slots → HaveNoChoice others slots
  none_agree unneeded lacks zero chains chosen = no_plain unneeded chains chosen
  none_agree unneeded lacks (suc g) chains chosen =
      lacks (suc g) chains (older_unread (suc g) others files slots chains (agree_back (suc g) files others (agree_later 1 (suc g) files others (omega arith) all)) chosen)

-- the last generation is 1, so the plain files are needed if no recovery can begin there
pub need_at_one : (files : List Standing) (slots : Slots) (can : Bool) (last : ℕ) → last ≡ 1 → IsLast last files → (IsTrue can ↔ CanBegin last files slots)
    → IsTrue (not can) ↔ NeedPlain files slots
need_at_one files slots can last one is told = (
  λ no. inr (
    subst (λ (n : ℕ). IsLast n files) one is,
    λ begins. true≢false (sym (told.1 (subst (λ (n : ℕ). CanBegin n files slots) (sym one) begins)) ∙ not-true can no),
  ),
  λ need. not_from_false can (false_from_ne_true can (λ yes.
      ⊎_elim
      (λ (none : (g : ℕ) → ¬ AllHave g files). none last is.0)
      (λ (at : IsLast 1 files × (¬ CanBegin 1 files slots)). at.1 (subst (λ (n : ℕ). CanBegin n files slots) one (told.0 yes)))
      need)),
)

-- ---- what was opened

-- of the numbered files no log of generation 0 was read
pub none_first : {D : Type 0} (is_honest : D → Bool) (state : D → DiskState) (failures : D → ℕ) (from : ℕ) (told : List Told) (old new : List (WorkerFiles D)) (logs : List WorkerLogs)
    → OpensNumberedFiles is_honest state failures from told old new logs → NoneFirst (map standing_of logs)
none_first is_honest state failures from told old new logs opens f at =
    let place = at_place f (map standing_of logs) at in
    let one = map_place standing_of logs place.0 f place.1 in
    let len = opens.each.len in
    let count = opens.count in
    let within = get_within logs place.0 one.0 one.1 in
    let was = within_place old place.0 (omega (arith, within, count)) in
    let is = within_place new place.0 (omega (arith, within, count, len)) in
    let read = opens.each.each place.0 was.0 is.0 (omega (arith, within, count)) was.1 is.1 in
    let same : read.0 ≡ one.0 = same_Some read.0 one.0 (sym read.1 ∙ one.1) in
    let unread : one.0 ≡ numbered_logs read.2.2.even read.2.2.odd = sym same ∙ read.2.2.read in
    ap (λ (x : Standing). x 0) one.2 ∙ ap (λ (w : WorkerLogs). option_map contents_of w.plain) unread

-- what is told of a choice
pub has_choice : (files : List Standing) (slots : Slots) (told : Option ℕ) → is_some told ≡ true
    → IfSome told (λ g. (chains : List Chain) → AreFrom g files chains → IsChosen files slots g chains) → IfSome told (λ g. AllHave g files) → HasChoice files slots
has_choice files slots None some chosen has = absurd (true≢false (sym some))
has_choice files slots (Some g) some chosen has = let from = all_from g files has in (g, from.0, chosen from.0 from.1)

pub has_none : (told : Option ℕ) (P : Type 0) → is_some told ≡ false → IfNone told P → P
has_none None P none holds = holds
has_none (Some g) P none holds = absurd (true≢false none)

-- if there is a choice without plain files, these are not needed
pub choice_unneeded : (files : List Standing) (slots : Slots) → 0 < length files → NoneFirst files → HasChoice files slots → ¬ NeedPlain files slots
choice_unneeded files slots some none chooses need =
    let g = chooses.0 in
    let have = have_all g files chooses.1 chooses.2.0 in
    ⊎_elim
    (λ (never : (n : ℕ) → ¬ AllHave n files). never g have)
    (λ (last : IsLast 1 files × (¬ CanBegin 1 files slots)). (
    let over = over_zero g files some none have in
    let most = last.0.1 g have in
    let one : g ≡ 1 = omega (arith, over, most) in
    last.1 (subst (λ (n : ℕ). CanBegin n files slots) one (chooses.1, chooses.2.0, chooses.2.1))
    ))
    need

module _ {D : Type 0} (is_honest : D → Bool) (state : D → DiskState) (failures : D → ℕ) (slots : Slots) where
  -- the numbered files were opened: as many places, as many logs
  pub count_looked : (old looked : List (WorkerFiles D)) (told : List Told) → LooksAtFiles is_honest state failures old looked told → length looked ≡ length old
  count_looked old looked told looks = looks.each.len

  pub count_come : (told : List Told) (looked before : List (WorkerFiles D)) (from : ℕ) → ComesTo is_honest state failures slots told looked before from
      → length before ≡ length looked
  count_come told looked before from (inl at) = ap length at.0
  count_come told looked before from (inr again) = again.1.1.each.len

  pub count_before : (old new : List (WorkerFiles D)) (logs : List WorkerLogs) → (r : ReadsNumbered is_honest state failures slots old new logs) → length r.counting.before ≡ length old
  count_before old new logs r = count_come r.told r.looked r.counting.before r.counting.from r.counting.comes ∙ count_looked old r.looked r.told r.looks

  pub count_numbered : (old new : List (WorkerFiles D)) (logs : List WorkerLogs) → ReadsNumbered is_honest state failures slots old new logs → length new ≡ length old
  count_numbered old new logs r = r.counting.opens.each.len ∙ count_before old new logs r

  pub count_numbered_logs : (old new : List (WorkerFiles D)) (logs : List WorkerLogs) → ReadsNumbered is_honest state failures slots old new logs → length logs ≡ length old
  count_numbered_logs old new logs r = r.counting.opens.count ∙ count_before old new logs r

  -- so too if one was not
  pub count_not_numbered : (e : FilesFault) (old new : List (WorkerFiles D)) → StopsNumbered is_honest state failures slots e old new → length new ≡ length old
  count_not_numbered e old new (inl stops) = by e.log stops
    where
      by : (place : Option ℕ) → StopsLookingAt is_honest state failures place e.refusal old new → length new ≡ length old
      by None at = ap length at.1
      by (Some place) at = at.1.len
  count_not_numbered e old new (inr counting) = by e.log counting.3.stops ∙ count_come counting.0 counting.1 counting.3.before counting.3.from counting.3.comes ∙ count_looked old counting.1 counting.0 counting.2
    where
      by : (place : Option ℕ) → StopsNumberedAt is_honest state failures counting.3.from counting.0 place e.refusal counting.3.before new → length new ≡ length counting.3.before
      by None at = ap length at.1
      by (Some place) at = at.len

  pub first_read : (old new : List (WorkerFiles D)) (logs first : List WorkerLogs) → logs ≡ first
      → ReadsNumbered is_honest state failures slots old new logs → ReadsNumbered is_honest state failures slots old new first
  first_read old new logs first same opens = subst (ReadsNumbered is_honest state failures slots old new) same opens

module _ {D : Type 0} (is_honest : D → Bool) (state : D → DiskState) (failures : D → ℕ) (slots : Slots) (old between new : List (WorkerFiles D)) (first logs : List WorkerLogs)
    (some : 0 < length old) (numbered : ReadsNumbered is_honest state failures slots old between first) where
  some_first : 0 < length (map standing_of first)
  some_first = let count = count_numbered_logs is_honest state failures slots old between first numbered in omega (arith, some, count, length-map first standing_of)

  no_first : NoneFirst (map standing_of first)
  no_first = let c = numbered.counting in none_first is_honest state failures c.from numbered.told c.before between first c.opens

  agree_unread : ¬ NeedPlain (map standing_of first) slots → ReadsPlain is_honest state failures slots between new first logs → logs ≡ first
  agree_unread unneeded (inl read) = absurd (unneeded read.0)
  agree_unread unneeded (inr same) = same.2

  pub stops_chosen : (e : FilesFault) → NotChosen is_honest state failures slots e between new first logs → StopsChains is_honest state failures slots e old new
  stops_chosen e (inl stops) = inr (inl (record { between = between; first = first; numbered = numbered; plain = stops }))
  stops_chosen e (inr (plain, why)) = inr (inr (record {
    reads = record { between = between; first = first; numbered = numbered; logs = logs; plain = plain };
    why = inr (λ standings may. refuse plain standings may why);
  }))
    where
      refuse : ReadsPlain is_honest state failures slots between new first logs → (standings : List Standing) → MayStand slots first logs standings
          → RefuseToBegin (map standing_of logs) slots e → RefuseToBegin standings slots e
      refuse (inl read) standings may why = subst (λ (s : List Standing). RefuseToBegin s slots e) (sym (may.0 read.0)) why
      refuse (inr unread) standings may why =
          let none = no_first in
          let agree : AgreeFrom 1 (map standing_of first) standings = subst (λ (l : List WorkerLogs). AgreeFrom 1 (map standing_of l) standings) unread.2 may.1 in
          let here : RefuseToBegin (map standing_of first) slots e = subst (λ (l : List WorkerLogs). RefuseToBegin (map standing_of l) slots e) unread.2 why in
          ⊎_elim
          (λ (lacks : (HaveNoChoice (map standing_of first) slots ⊎ StrangeAt (map standing_of first) slots) × (e ≡ record { log = None; refusal = refusals.LogCount })). inl (
            ⊎_elim
                (λ nothing. inl (none_agree slots (map standing_of first) standings some_first none agree unread.0 nothing))
                (λ at. (
                let over = over_zero at.generation (map standing_of first) some_first none at.has in
                inr (strange_agree slots (map standing_of first) standings at (agree_later 1 at.generation (map standing_of first) standings (omega (arith, over)) agree))
                ))
                lacks.0,
            lacks.1,
          ))
          (λ falls. (
          let at = falls.2 in
          let over = over_zero at.generation (map standing_of first) some_first none at.has in
          inr (falls.0, falls.1, fall_agree slots (map standing_of first) standings falls.0 falls.1 at (agree_later 1 at.generation (map standing_of first) standings (omega (arith, over)) agree), falls.3)
          ))
          here

  pub stops_for_memory : (e : FilesFault) → ReadsPlain is_honest state failures slots between new first logs → e ≡ record { log = None; refusal = refusals.Memory }
      → StopsChains is_honest state failures slots e old new
  stops_for_memory e plain memory = inr (inr (record {
    reads = record { between = between; first = first; numbered = numbered; logs = logs; plain = plain };
    why = inl memory;
  }))

  pub opens_chosen : (chains : Chains) → ReadsPlain is_honest state failures slots between new first logs → BeginAt (map standing_of logs) slots chains.generation
      → AreFrom chains.generation (map standing_of logs) (map contents_of chains.fronts.items)
      → chains.begun.items ≡ begun_in chains.generation logs → OpensChains is_honest state failures slots old new chains
  opens_chosen chains plain begin are begun =
      let files = map standing_of logs in
      record {
        reads = record { between = between; first = first; numbered = numbered; logs = logs; plain = plain };
        numbered = λ unneeded. (
            let none = no_first in
            let same = agree_unread unneeded plain in
            let have = have_all chains.generation files (map contents_of chains.fronts.items) are in
            over_zero chains.generation (map standing_of first) some_first none (subst (λ (l : List WorkerLogs). AllHave chains.generation (map standing_of l)) same have)
            );
        begun = begun;
        chosen = λ standings all. record {
          chosen = chosen_agree slots chains.generation files standings all begin.chosen (map contents_of chains.fronts.items) (from_agree chains.generation files standings (map contents_of chains.fronts.items) all are);
          owned = owned_agree chains.generation files standings all begin.owned;
          meets = meets_agree slots chains.generation files standings all begin.meets;
        };
      }
