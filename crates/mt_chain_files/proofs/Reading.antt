-- What was read of one worker's files stands for its whole log.
use Rattle.std.proofs.Common.{◌≡◌, ◌≢◌, ◌⊎◌, inl, inr, ⊎_elim, ℕ, zero, suc, ◌+◌, ◌<◌, ◌==◌, ◌%◌, Bool, true, false, cond, List, [], ◌∷◌, refl, sym, ◌∙◌, ap, subst, arith, Option, Some, None}
use Rattle.std.proofs.lemmas.{Bool.{eq-eqb, ne_eqb, eqb-true, eqb-false, cases_eq, cond-true, cond-false}, Option.same_Some}
use Rattle.std.specs.Option.{option_map}
use Rattle.mt_log.specs.{declared.batch.Front.Front, Contents.{Contents, contents_of}}
use Rattle.mt_crashes.{specs.Stores.{LogNow, at_rest}, proofs.Members.no_some}
use Rattle.mt_generations.specs.{Chains.Chain, Standings.{Standing, StandsFor}, Turns.with_log}
use Rattle.mt_chains.specs.{declared.worker_logs.WorkerLogs.WorkerLogs, Files.{standing_of as read_of, numbered_log}}
use Rattle.mt_log_files.specs.{Files.{FileNow, Spare, Has, MayHave, MayLeaveFile, found_as}, Workers.{nothing_stands, with_found, standing_of}}
use Rattle.mt_chain_files.specs.Turns.{FilesNow, now_of, IsOfGeneration, Rests, AreOfTurn}

-- ---- what a crash leaves of a file

-- a log that a crash may leave of a file
abbrev pub least : FileNow → Option Contents
least Spare = None
least (Has now) = Some now.had
least (MayHave c) = None

pub least_left : (file : FileNow) → MayLeaveFile file (least file)
least_left Spare = refl
least_left (Has now) = (now.had, inl refl, refl)
least_left (MayHave c) = inl refl

abbrev pub FrontOf : ℕ → Option Front → Type 0
FrontOf g found = (front : Front) → found ≡ Some front → front.generation ≡ g

-- it is of the generation of the file's log
pub left_of : (g : ℕ) (file : FileNow) (found : Option Front) → IsOfGeneration g file → MayLeaveFile file (option_map contents_of found) → FrontOf g found
left_of g Spare found is left front there = absurd (no_some (contents_of front) (sym left ∙ ap (option_map contents_of) there))
left_of g (Has now) found is left front there =
    let same : contents_of front ≡ left.0 = same_Some (contents_of front) left.0 (sym (ap (option_map contents_of) there) ∙ left.2) in
    ap (λ (c : Contents). c.generation) same ∙ ⊎_elim
    (λ (had : left.0 ≡ now.had). ap (λ (c : Contents). c.generation) had)
    (λ more. ap (λ (c : Contents). c.generation) more.2)
    left.1 ∙ is
left_of g (MayHave c) found is left front there = ⊎_elim
    (λ none. absurd (no_some (contents_of front) (sym none ∙ ap (option_map contents_of) there)))
    (λ some. ap (λ (d : Contents). d.generation) (same_Some (contents_of front) c (sym (ap (option_map contents_of) there) ∙ some)) ∙ is)
    left

-- a file as it was found has a log of that generation
as_found_of : (g : ℕ) (found : Option Front) → FrontOf g found → IsOfGeneration g (found_as (option_map contents_of found))
as_found_of g None is = tt
as_found_of g (Some front) is = is front refl

-- only what was found is left of it
pub as_found : (z a : Option Contents) → MayLeaveFile (found_as z) a → a ≡ z
as_found None a none = none
as_found (Some c) a (front, inl rest, is) = is ∙ ap Some rest
as_found (Some c) a (front, inr more, is) = absurd (no_some more.0 more.1)

-- the first and the second of some numbered files
abbrev pub first_in : List (Option Front) → Option Front
first_in [] = None
first_in (a ∷ logs) = a

abbrev pub second_in : List (Option Front) → Option Front
second_in [] = None
second_in (a ∷ logs) = first_in logs

-- a worker's files once this was read of them
abbrev pub after_of : WorkerLogs → FilesNow
after_of one = record {
  plain = found_as (option_map contents_of one.plain);
  even = found_as (option_map contents_of (first_in one.numbered));
  odd = found_as (option_map contents_of (second_in one.numbered));
}

-- ---- two numbered files

pub none_in : (h : ℕ) (found : Option Front) (logs : List (Option Front)) → ((front : Front) → found ≡ Some front → front.generation ≢ h)
    → numbered_log h (found ∷ logs) ≡ numbered_log h logs
none_in h None logs other = refl
none_in h (Some front) logs other = cond-false (front.generation == h) (Some (contents_of front)) (numbered_log h logs) (ne_eqb front.generation h (other front refl))

pub one_in : (h : ℕ) (found : Option Front) (logs : List (Option Front)) → FrontOf h found → numbered_log h logs ≡ None → numbered_log h (found ∷ logs) ≡ option_map contents_of found
one_in h None logs is none = none
one_in h (Some front) logs is none = cond-true (front.generation == h) (Some (contents_of front)) (numbered_log h logs) (eq-eqb front.generation h (is front refl))

module _ (a b : Option Front) (m n : ℕ) (is_a : FrontOf m a) (is_b : FrontOf n b) (apart : m ≢ n) where
  pub numbered_first : numbered_log m (a ∷ b ∷ []) ≡ option_map contents_of a
  numbered_first = one_in m a (b ∷ []) is_a (none_in m b [] (λ front there same. apart (sym same ∙ is_b front there)))

  pub numbered_second : numbered_log n (a ∷ b ∷ []) ≡ option_map contents_of b
  numbered_second = none_in n a (b ∷ []) (λ front there same. apart (sym (is_a front there) ∙ same)) ∙ one_in n b [] is_b refl

  pub numbered_none : (h : ℕ) → h ≢ m → h ≢ n → numbered_log h (a ∷ b ∷ []) ≡ None
  numbered_none h not_m not_n =
      none_in h a (b ∷ []) (λ front there same. not_m (sym same ∙ is_a front there))
      ∙ none_in h b [] (λ front there same. not_n (sym same ∙ is_b front there))

-- ---- what was found of two generations

with_at : (g : ℕ) (c : Chain) (f : Standing) → with_log g c f g ≡ Some c
with_at g c f = ap (λ (b : Bool). cond b (Some c) (f g)) (eq-eqb g g refl)

with_past : (g h : ℕ) (c : Chain) (f : Standing) → h ≢ g → with_log g c f h ≡ f h
with_past g h c f other = ap (λ (b : Bool). cond b (Some c) (f h)) (ne_eqb h g other)

found_past : (g h : ℕ) (x : Option Contents) (f : Standing) → h ≢ g → with_found g x f h ≡ f h
found_past g h None f other = refl
found_past g h (Some c) f other = with_past g h c f other

found_at : (g : ℕ) (x : Option Contents) (f : Standing) → f g ≡ None → with_found g x f g ≡ x
found_at g None f none = none
found_at g (Some c) f none = with_at g c f

module _ (g : ℕ) (x y : Option Contents) where
  pub found_first : standing_of g x y g ≡ x
  found_first = found_past (g + 1) g y (with_found g x nothing_stands) (λ e. omega (arith, e)) ∙ found_at g x nothing_stands refl

  pub found_next : standing_of g x y (g + 1) ≡ y
  found_next = found_at (g + 1) y (with_found g x nothing_stands) (found_past g (g + 1) x nothing_stands (λ e. omega (arith, e)))

  pub found_none : (h : ℕ) → h ≢ g → h ≢ g + 1 → standing_of g x y h ≡ None
  found_none h not_g not_next = found_past (g + 1) h y (with_found g x nothing_stands) not_next ∙ found_past g h x nothing_stands not_g

-- ---- a worker's files

-- what was read of a worker's files is what a crash might have left; of the plain one only if its log is in the turn
pub record ReadOf (g : ℕ) (files : FilesNow) (one : WorkerLogs) : Type 0 where
  pub even : Option Front
  pub odd : Option Front
  pub numbered : one.numbered ≡ even ∷ odd ∷ []
  pub left_even : MayLeaveFile files.even (option_map contents_of even)
  pub left_odd : MayLeaveFile files.odd (option_map contents_of odd)
  pub left_plain : (one.plain ≡ None) ⊎ ((g ≡ 0) × MayLeaveFile files.plain (option_map contents_of one.plain))

-- logs have what others have of each numbered generation, and of the first one that or none
pub record Tells (f e : Standing) : Type 0 where
  pub later : (h : ℕ) → 0 < h → e h ≡ f h
  pub first : (e 0 ≡ None) ⊎ (e 0 ≡ f 0)

pub read_later : (one : WorkerLogs) (even odd : Option Front) (h : ℕ) → 0 < h → one.numbered ≡ even ∷ odd ∷ [] → read_of one h ≡ numbered_log h (even ∷ odd ∷ [])
read_later one even odd h over is =
    cond-false (h == 0) (option_map contents_of one.plain) (numbered_log h one.numbered) (ne_eqb h 0 (λ e. omega (arith, e, over))) ∙ ap (numbered_log h) is

-- A worker's two files of a turn, and what a crash left of them. So its files are after that, and these logs stand.
pub record FoundOf (g : ℕ) (files after : FilesNow) (stands : Standing) : Type 0 where
  pub x : Option Contents
  pub y : Option Contents
  pub left_x : MayLeaveFile (now_of g files) x
  pub left_y : MayLeaveFile (now_of (g + 1) files) y
  pub tells : Tells (standing_of g x y) stands
  -- and what is left of them now
  pub kept : Option Contents
  pub all : (h : ℕ) → standing_of g kept y h ≡ stands h
  pub at_first : now_of g after ≡ found_as kept
  pub at_next : now_of (g + 1) after ≡ found_as y
  pub of_first : IsOfGeneration g (found_as kept)
  pub of_next : IsOfGeneration (g + 1) (found_as y)
  pub spare : g ≡ 0 → after.even ≡ Spare

-- what was read of a worker's files is so
abbrev pub FoundIn : ℕ → FilesNow → WorkerLogs → Type 0
FoundIn g files one = FoundOf g files (after_of one) (read_of one)

module _ (files : FilesNow) (one : WorkerLogs) where
  -- the numbered files, if one of both is of no generation other than its own
  pointwise : (g m n : ℕ) (x y : Option Contents) (a b : Option Front) → FrontOf m a → FrontOf n b → m ≢ n → (h : ℕ) → 0 < h
      → (h ≡ m → standing_of g x y h ≡ option_map contents_of a) → (h ≡ n → standing_of g x y h ≡ option_map contents_of b)
      → (h ≢ m → h ≢ n → standing_of g x y h ≡ None) → numbered_log h (a ∷ b ∷ []) ≡ standing_of g x y h
  pointwise g m n x y a b is_a is_b apart h over at_a at_b none = ⊎_elim
      (λ (same : h ≡ m). ap (λ (k : ℕ). numbered_log k (a ∷ b ∷ [])) same ∙ numbered_first a b m n is_a is_b apart ∙ sym (at_a same))
      (λ not_m. ⊎_elim
      (λ (same : h ≡ n). ap (λ (k : ℕ). numbered_log k (a ∷ b ∷ [])) same ∙ numbered_second a b m n is_a is_b apart ∙ sym (at_b same))
      (λ not_n. numbered_none a b m n is_a is_b apart h not_m not_n ∙ sym (none not_m not_n))
      (cases_eq h n))
      (cases_eq h m)

  -- the first log in the plain file
  found_zero : (now : LogNow) → AreOfTurn 0 now files → ReadOf 0 files one → FoundIn 0 files one
  found_zero now turn r = by r.left_plain
    where
      no_even : r.even ≡ None
      no_even = nothing r.even (subst (λ (f : FileNow). MayLeaveFile f (option_map contents_of r.even)) (turn.no_other refl) r.left_even)
        where
          nothing : (found : Option Front) → option_map contents_of found ≡ None → found ≡ None
          nothing None e = refl
          nothing (Some front) e = absurd (no_some (contents_of front) (sym e))

      later : (x : Option Contents) (h : ℕ) → 0 < h → read_of one h ≡ standing_of 0 x (option_map contents_of r.odd) h
      later x h over =
          let y = option_map contents_of r.odd in
          read_later one r.even r.odd h over r.numbered
          ∙ ap (λ (e : Option Front). numbered_log h (e ∷ r.odd ∷ [])) no_even
          ∙ ⊎_elim
          (λ (same : h ≡ 1). ap (λ (k : ℕ). numbered_log k (r.odd ∷ [])) same ∙ one_in 1 r.odd [] (left_of 1 files.odd r.odd turn.next r.left_odd) refl
          ∙ sym (ap (standing_of 0 x y) same ∙ found_next 0 x y))
          (λ other. none_in h r.odd [] (λ front there same. other (sym same ∙ left_of 1 files.odd r.odd turn.next r.left_odd front there))
          ∙ sym (found_none 0 x y h (λ e. omega (arith, e, over)) other))
          (cases_eq h 1)

      front_of : (one.plain ≡ None) ⊎ ((◌≡◌ {A = ℕ} 0 0) × MayLeaveFile files.plain (option_map contents_of one.plain)) → FrontOf 0 one.plain
      front_of (inl none) front there = absurd (no_some front (sym none ∙ there))
      front_of (inr read) front there = left_of 0 files.plain one.plain turn.first read.1 front there

      every : (h : ℕ) → standing_of 0 (option_map contents_of one.plain) (option_map contents_of r.odd) h ≡ read_of one h
      every zero = found_first 0 (option_map contents_of one.plain) (option_map contents_of r.odd)
      every (suc h) = sym (later (option_map contents_of one.plain) (suc h) (omega arith))

      by : (one.plain ≡ None) ⊎ ((◌≡◌ {A = ℕ} 0 0) × MayLeaveFile files.plain (option_map contents_of one.plain)) → FoundIn 0 files one
      by (inl none) = record {
        x = least files.plain;
        y = option_map contents_of r.odd;
        left_x = least_left files.plain;
        left_y = r.left_odd;
        tells = record { later = later (least files.plain); first = inl (ap (option_map contents_of) none) };
        kept = option_map contents_of one.plain;
        all = every;
        at_first = refl;
        at_next = ap (λ (logs : List (Option Front)). found_as (option_map contents_of (second_in logs))) r.numbered;
        of_first = as_found_of 0 one.plain (front_of r.left_plain);
        of_next = as_found_of 1 r.odd (left_of 1 files.odd r.odd turn.next r.left_odd);
        spare = λ first. ap (λ (logs : List (Option Front)). found_as (option_map contents_of (first_in logs))) r.numbered
            ∙ ap (λ (e : Option Front). found_as (option_map contents_of e)) no_even;
      }
      by (inr read) = record {
        x = option_map contents_of one.plain;
        y = option_map contents_of r.odd;
        left_x = read.1;
        left_y = r.left_odd;
        tells = record {
          later = later (option_map contents_of one.plain);
          first = inr (sym (found_first 0 (option_map contents_of one.plain) (option_map contents_of r.odd)));
        };
        kept = option_map contents_of one.plain;
        all = every;
        at_first = refl;
        at_next = ap (λ (logs : List (Option Front)). found_as (option_map contents_of (second_in logs))) r.numbered;
        of_first = as_found_of 0 one.plain (front_of r.left_plain);
        of_next = as_found_of 1 r.odd (left_of 1 files.odd r.odd turn.next r.left_odd);
        spare = λ first. ap (λ (logs : List (Option Front)). found_as (option_map contents_of (first_in logs))) r.numbered
            ∙ ap (λ (e : Option Front). found_as (option_map contents_of e)) no_even;
      }

  -- both logs in numbered files
  found_later : (g : ℕ) (now : LogNow) → 0 < g → AreOfTurn g now files → ReadOf g files one → FoundIn g files one
  found_later g now over turn r = by (g % 2 == 0) refl
    where
      no_plain : read_of one 0 ≡ None
      no_plain = ⊎_elim (λ none. ap (option_map contents_of) none) (λ read. absurd (omega (arith, read.0, over))) r.left_plain

      not_zero : (k : ℕ) → 0 < k → (k == 0) ≡ false
      not_zero k some = ne_eqb k 0 (λ e. omega (arith, e, some))

      is_even : (files : FilesNow) (k : ℕ) → 0 < k → k % 2 ≡ 0 → now_of k files ≡ files.even
      is_even files k some e = cond-false (k == 0) files.plain (cond (k % 2 == 0) files.even files.odd) (not_zero k some) ∙ cond-true (k % 2 == 0) files.even files.odd (eq-eqb (k % 2) 0 e)

      is_odd : (files : FilesNow) (k : ℕ) → 0 < k → k % 2 ≢ 0 → now_of k files ≡ files.odd
      is_odd files k some e = cond-false (k == 0) files.plain (cond (k % 2 == 0) files.even files.odd) (not_zero k some) ∙ cond-false (k % 2 == 0) files.even files.odd (ne_eqb (k % 2) 0 e)

      after_even : (after_of one).even ≡ found_as (option_map contents_of r.even)
      after_even = ap (λ (logs : List (Option Front)). found_as (option_map contents_of (first_in logs))) r.numbered

      after_odd : (after_of one).odd ≡ found_as (option_map contents_of r.odd)
      after_odd = ap (λ (logs : List (Option Front)). found_as (option_map contents_of (second_in logs))) r.numbered

      every : (x y : Option Contents) → ((h : ℕ) → 0 < h → read_of one h ≡ standing_of g x y h) → (h : ℕ) → standing_of g x y h ≡ read_of one h
      every x y later zero = found_none g x y 0 (λ e. omega (arith, e, over)) (λ e. omega (arith, e)) ∙ sym no_plain
      every x y later (suc h) = sym (later (suc h) (omega arith))

      by : (b : Bool) → (g % 2 == 0) ≡ b → FoundIn g files one
      by true e =
          let x = option_map contents_of r.even in
          let y = option_map contents_of r.odd in
          let rest : g % 2 ≡ 0 = eqb-true (g % 2) 0 e in
          let first = is_even files g over rest in
          let next = is_odd files (g + 1) (omega arith) (λ h. omega (arith, rest, h)) in
          let later : (h : ℕ) → 0 < h → read_of one h ≡ standing_of g x y h = λ h some. (
          read_later one r.even r.odd h some r.numbered
          ∙ pointwise g g (g + 1) x y r.even r.odd
          (left_of g files.even r.even (subst (IsOfGeneration g) first turn.first) r.left_even)
          (left_of (g + 1) files.odd r.odd (subst (IsOfGeneration (g + 1)) next turn.next) r.left_odd)
          (λ same. omega (arith, same)) h some
          (λ same. ap (standing_of g x y) same ∙ found_first g x y)
          (λ same. ap (standing_of g x y) same ∙ found_next g x y)
          (λ not_g not_next. found_none g x y h not_g not_next)
          ) in
          record {
            x = x;
            y = y;
            left_x = subst (λ (f : FileNow). MayLeaveFile f x) (sym first) r.left_even;
            left_y = subst (λ (f : FileNow). MayLeaveFile f y) (sym next) r.left_odd;
            tells = record {
              later = later;
              first = inl no_plain;
            };
            kept = x;
            all = every x y later;
            at_first = is_even (after_of one) g over rest ∙ after_even;
            at_next = is_odd (after_of one) (g + 1) (omega arith) (λ h. omega (arith, rest, h)) ∙ after_odd;
            of_first = as_found_of g r.even (left_of g files.even r.even (subst (IsOfGeneration g) first turn.first) r.left_even);
            of_next = as_found_of (g + 1) r.odd (left_of (g + 1) files.odd r.odd (subst (IsOfGeneration (g + 1)) next turn.next) r.left_odd);
            spare = λ none. absurd (omega (arith, none, over));
          }
      by false e =
          let x = option_map contents_of r.odd in
          let y = option_map contents_of r.even in
          let rest : g % 2 ≢ 0 = eqb-false (g % 2) 0 e in
          let first = is_odd files g over rest in
          let next = is_even files (g + 1) (omega arith) (omega (arith, rest)) in
          let later : (h : ℕ) → 0 < h → read_of one h ≡ standing_of g x y h = λ h some. (
          read_later one r.even r.odd h some r.numbered
          ∙ pointwise g (g + 1) g x y r.even r.odd
          (left_of (g + 1) files.even r.even (subst (IsOfGeneration (g + 1)) next turn.next) r.left_even)
          (left_of g files.odd r.odd (subst (IsOfGeneration g) first turn.first) r.left_odd)
          (λ same. omega (arith, same)) h some
          (λ same. ap (standing_of g x y) same ∙ found_next g x y)
          (λ same. ap (standing_of g x y) same ∙ found_first g x y)
          (λ not_next not_g. found_none g x y h not_g not_next)
          ) in
          record {
            x = x;
            y = y;
            left_x = subst (λ (f : FileNow). MayLeaveFile f x) (sym first) r.left_odd;
            left_y = subst (λ (f : FileNow). MayLeaveFile f y) (sym next) r.left_even;
            tells = record {
              later = later;
              first = inl no_plain;
            };
            kept = x;
            all = every x y later;
            at_first = is_odd (after_of one) g over rest ∙ after_odd;
            at_next = is_even (after_of one) (g + 1) (omega arith) (omega (arith, rest)) ∙ after_even;
            of_first = as_found_of g r.odd (left_of g files.odd r.odd (subst (IsOfGeneration g) first turn.first) r.left_odd);
            of_next = as_found_of (g + 1) r.even (left_of (g + 1) files.even r.even (subst (IsOfGeneration (g + 1)) next turn.next) r.left_even);
            spare = λ none. absurd (omega (arith, none, over));
          }

  pub found_of : (g : ℕ) (now : LogNow) → AreOfTurn g now files → ReadOf g files one → FoundIn g files one
  found_of zero now turn r = found_zero now turn r
  found_of (suc g) now turn r = found_later (suc g) now (omega arith) turn r

-- what stands for a whole log, does so without its first log too
pub stands_less : (g : ℕ) (log : Contents) (f e : Standing) → Tells f e → StandsFor g log f → StandsFor g log e
stands_less g log f e tells s = record {
  given = s.given;
  first = s.first;
  next = s.next;
  parts = s.parts;
  has_first = λ c at. s.has_first c (there g c at);
  has_next = λ c at. s.has_next c (there (g + 1) c at);
  not_begun = λ none. s.not_begun (sym (tells.later (g + 1) (omega arith)) ∙ none);
  no_other = λ h c at. s.no_other h c (there h c at);
}
  where
    there : (h : ℕ) (c : Chain) → e h ≡ Some c → f h ≡ Some c
    there zero c at = ⊎_elim (λ none. absurd (no_some c (sym none ∙ at))) (λ same. sym same ∙ at) tells.first
    there (suc h) c at = sym (tells.later (suc h) (omega arith)) ∙ at

-- a file that was found rests
pub found_rests : (found : Option Contents) → Rests (found_as found)
found_rests None = tt
found_rests (Some c) = refl

-- so its files are of the turn then, and rest
pub after_turn : (g : ℕ) (files after : FilesNow) (stands : Standing) (log : Contents) → FoundOf g files after stands → StandsFor g log stands → AreOfTurn g (at_rest log) after
after_turn g files after stands log found stand = record {
  are = λ a b at_a at_b. (
    log,
    inl refl,
    subst (λ (y : Option Contents). StandsFor g log (standing_of g a y)) (sym (as_found found.y b (subst (λ (f : FileNow). MayLeaveFile f b) found.at_next at_b)))
        (subst (λ (x : Option Contents). StandsFor g log (standing_of g x found.y)) (sym (as_found found.kept a (subst (λ (f : FileNow). MayLeaveFile f a) found.at_first at_a))) kept),
  );
  first = subst (IsOfGeneration g) (sym found.at_first) found.of_first;
  next = subst (IsOfGeneration (g + 1)) (sym found.at_next) found.of_next;
  no_other = found.spare;
  rests = inr (subst Rests (sym found.at_first) (found_rests found.kept));
}
  where
    kept : StandsFor g log (standing_of g found.kept found.y)
    kept = stands_less g log stands (standing_of g found.kept found.y) (record { later = λ h over. found.all h; first = inr (found.all 0) }) stand
