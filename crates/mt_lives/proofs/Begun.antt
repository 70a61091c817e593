-- Files of which a log began by a step: on a base that covers it they stand whole, and that stays so.
use Rattle.std.proofs.Common.{◌≡◌, inl, inr, ⊎_elim, ℕ, ◌+◌, ◌≤◌, ◌==◌, ◌%◌, Bool, true, false, cond, List, [], ◌∷◌, map, refl, sym, ◌∙◌, ap, arith, Option, Some, None}
use Rattle.std.proofs.lemmas.{Bool.cases_eq, Option.same_Some}
use Rattle.mt_log.specs.Contents.{Contents}
use Rattle.mt_crashes.{specs.{Fronts.In, Stores.Store}, proofs.Members.no_some}
use Rattle.mt_generations.specs.{Chains.Chain, Standings.Standing, Turns.{AllBegunBy, HasBase}}
use Rattle.mt_log_files.specs.{Files.{FileNow, MayLeaveFile}, Workers.{standing_of, Found, MayLeaveFiles, standings_of}}
use Rattle.mt_chain_files.specs.Turns.{FilesNow, now_of, pair_of, StaysWhole}
use Rattle.mt_chain_files.proofs.{Reading.{found_first, found_next, found_none}, Narrowing.{Narrows, narrow_left, narrow_now}}
use Rattle.mt_store_logs.specs.Ends.{start_in, KeepsStart, KeepStarts}
use Rattle.mt_lives.specs.Bases.{Whole, BeginsBy}

-- ---- they stand whole

begun_all : (g : ℕ) (h : Whole) (files : List FilesNow) (found : List Found) → ((f : FilesNow) → In f files → BeginsBy g h f) → MayLeaveFiles (map (pair_of g) files) found
    → AllBegunBy h.generation h.starts (standings_of g found)
begun_all g h [] [] all left e at = absurd at
begun_all g h [] (x ∷ found) all left e at = absurd left
begun_all g h (f ∷ files) [] all left e at = absurd left
begun_all g h (f ∷ files) (x ∷ found) all left e (inl same) =
    let b = all f (inl refl) x.0 x.1 left.0.0 left.0.1 in
    (b.0, ap (λ (s : Standing). s h.generation) same ∙ b.1, b.2)
begun_all g h (f ∷ files) (x ∷ found) all left e (inr at) = begun_all g h files found (λ i there. all i (inr there)) left.1 e at

pub stay_whole : (g : ℕ) (h : Whole) (s : Store) (files : List FilesNow) → HasBase s h.starts → ((f : FilesNow) → In f files → BeginsBy g h f)
    → StaysWhole g h.generation s files
stay_whole g h s files base all found left = (h.starts, begun_all g h files found all left, base)

-- ---- logs that begin where others do

some_too : (a b : Option Contents) (c : Contents) → start_in a ≡ start_in b → a ≡ Some c → (d : Contents) × (b ≡ Some d) × (d.start ≡ c.start)
some_too a None c same some = absurd (no_some c.start (sym same ∙ ap start_in some))
some_too a (Some d) c same some = (d, refl, same_Some d.start c.start (sym same ∙ ap start_in some))

same_standing : (g h : ℕ) (a b x y : Option Contents) (c : Chain) → start_in a ≡ start_in x → start_in b ≡ start_in y → standing_of g a b h ≡ Some c
    → (d : Chain) × (standing_of g x y h ≡ Some d) × (d.start ≡ c.start)
same_standing g h a b x y c same_a same_b has = ⊎_elim
    (λ (same : h ≡ g).
    let d = some_too a x c same_a (sym (found_first g a b) ∙ ap (standing_of g a b) (sym same) ∙ has) in
    (d.0, ap (standing_of g x y) same ∙ found_first g x y ∙ d.1, d.2))
    (λ not_g. ⊎_elim
    (λ (same : h ≡ g + 1).
    let d = some_too b y c same_b (sym (found_next g a b) ∙ ap (standing_of g a b) (sym same) ∙ has) in
    (d.0, ap (standing_of g x y) same ∙ found_next g x y ∙ d.1, d.2))
    (λ not_next. absurd (no_some c (sym (found_none g a b h not_g not_next) ∙ has)))
    (cases_eq h (g + 1)))
    (cases_eq h g)

-- whatever is left of files, logs might have been left before that begin there too
begins_from : (g : ℕ) (h : Whole) (was : FilesNow) (a b x y : Option Contents) → start_in a ≡ start_in x → start_in b ≡ start_in y → BeginsBy g h was → MayLeaveFile (now_of g was) a
    → MayLeaveFile (now_of (g + 1) was) b → (c : Chain) × (standing_of g x y h.generation ≡ Some c) × (c.start ≤ h.starts)
begins_from g h was a b x y same_a same_b begins left_a left_b =
    let c = begins a b left_a left_b in
    let d = same_standing g h.generation a b x y c.0 same_a same_b c.1 in
    let same = d.2 in
    let by = c.2 in
    (d.0, d.1, omega (arith, same, by))

keeps_either : (b : Bool) (p q r s : FileNow) → KeepsStart p q → KeepsStart r s → KeepsStart (cond b p r) (cond b q s)
keeps_either true p q r s one other = one
keeps_either false p q r s one other = other

pub keeps_now : (g : ℕ) (was is : FilesNow) → KeepStarts was is → KeepsStart (now_of g was) (now_of g is)
keeps_now g was is k =
    keeps_either (g == 0) was.plain is.plain (cond (g % 2 == 0) was.even was.odd) (cond (g % 2 == 0) is.even is.odd) k.plain
    (keeps_either (g % 2 == 0) was.even is.even was.odd is.odd k.even k.odd)

pub begins_kept : (g : ℕ) (h : Whole) (was is : FilesNow) → KeepStarts was is → BeginsBy g h was → BeginsBy g h is
begins_kept g h was is keeps begins x y left_x left_y =
    let a = keeps_now g was is keeps x left_x in
    let b = keeps_now (g + 1) was is keeps y left_y in
    begins_from g h was a.0 b.0 x y a.2 b.2 begins a.1 b.1

-- ---- files that were opened

-- no more is left of files that narrow
pub begins_narrow : (g : ℕ) (h : Whole) (was is : FilesNow) → Narrows was is → BeginsBy g h was → BeginsBy g h is
begins_narrow g h was is n begins x y left_x left_y = begins x y
    (narrow_left (now_of g was) (now_of g is) x (narrow_now g was is n) left_x)
    (narrow_left (now_of (g + 1) was) (now_of (g + 1) is) y (narrow_now (g + 1) was is n) left_y)

-- what is left of a worker's files has a log of a generation, which began just there
abbrev pub HasFrom : ℕ → ℕ → ℕ → FilesNow → Type 0
HasFrom g generation start files = (x y : Option Contents) → MayLeaveFile (now_of g files) x → MayLeaveFile (now_of (g + 1) files) y
    → (c : Chain) × (standing_of g x y generation ≡ Some c) × (c.start ≡ start)

pub begins_from_chain : (g generation start starts : ℕ) (files : FilesNow) → HasFrom g generation start files → start ≤ starts
    → BeginsBy g (record { generation = generation; starts = starts }) files
begins_from_chain g generation start starts files has le x y left_x left_y =
    let c = has x y left_x left_y in
    let same = c.2 in
    (c.0, c.1, omega (arith, same, le))
