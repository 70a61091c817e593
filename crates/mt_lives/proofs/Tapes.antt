-- A store's history as what was written before a tape and the writes of the tape: the pairs after each step, what a drain gives, and what a tidying parts.
use Rattle.std.proofs.Common.{◌≡◌, ℕ, ◌<◌, ◌≤◌, Bool, true, false, not, ◌&&◌, cond, List, [], ◌∷◌, ◌++◌, map, get_or, refl, sym, ap, ◌∙◌, arith, ⊎_elim}
use Rattle.std.proofs.{lemmas.Bool.{cases_lt, lt-ltb, le-ltb, ltb-false, not-true, true≢false}, lemmas.List.{map-append, append-nil}, lemmas.List.Elements.{All-head, All-tail, All-weaker, filter-append, filter_passes}}
use Rattle.std.specs.{Prelude.{nat_lt, ◌==◌}, List.{All, filter}}
use Rattle.mt_rows.specs.{Tenants.Contents, declared.record.Batch.Batch}
use Rattle.mt_tape.specs.{declared.entry.Entry.Entry, Tapes.{RisesOver, later_entries}, Histories.{without_write, undone, contents_at, IsLegalTape}}
use Rattle.mt_tape.proofs.EntryLaws.{rises_all, later_entries-all, later_entries-none, later_entries-dropped}
use Rattle.mt_crashes.{specs.{Fronts.after_changes, Histories.{Placed, upto, changes_of, pairs_upto}, Stores.is_between}, proofs.Bases.after_append}
use Rattle.mt_drains.specs.Drains.{record_of, records_between}
use Rattle.mt_lives.{specs.{Holds.placed_of, Earlier.{earlier_entries, AreTold}}, proofs.Forward.{forward, earlier_none, earlier_more}}
use Rattle.std.specs.FinMap as pairs

-- ---- filters

kept_all : {X : Type 0} (test : X → Bool) (xs : List X) → All (λ x. test x ≡ true) xs → filter test xs ≡ xs
kept_all test [] all = refl
kept_all test (x ∷ xs) all =
    ap (λ b. cond b (x ∷ filter test xs) (filter test xs)) (All-head (λ y. test y ≡ true) x xs all)
    ∙ ap (λ ys. x ∷ ys) (kept_all test xs (All-tail (λ y. test y ≡ true) x xs all))

kept_none : {X : Type 0} (test : X → Bool) (xs : List X) → All (λ x. test x ≡ false) xs → filter test xs ≡ []
kept_none test [] all = refl
kept_none test (x ∷ xs) all =
    ap (λ b. cond b (x ∷ filter test xs) (filter test xs)) (All-head (λ y. test y ≡ false) x xs all)
    ∙ kept_none test xs (All-tail (λ y. test y ≡ false) x xs all)

kept_map : {X Y : Type 0} (f : X → Y) (test : Y → Bool) (xs : List X) → filter test (map f xs) ≡ map f (filter (λ x. test (f x)) xs)
kept_map f test [] = refl
kept_map {X} {Y} f test (x ∷ xs) = by (test (f x)) (kept_map f test xs)
  where
    by : (b : Bool) → filter test (map f xs) ≡ map f (filter (λ x. test (f x)) xs)
        → cond b (f x ∷ filter test (map f xs)) (filter test (map f xs)) ≡ map f (cond b (x ∷ filter (λ x. test (f x)) xs) (filter (λ x. test (f x)) xs))
    by true rest = ap (λ ys. f x ∷ ys) rest
    by false rest = rest

-- ---- pairs

changes_placed : (entries : List Entry) → changes_of (map placed_of entries) ≡ map record_of entries
changes_placed [] = refl
changes_placed (e ∷ entries) = ap (λ rs. record_of e ∷ rs) (changes_placed entries)

pub upto_ended : (base cutoff : ℕ) (before : List Placed) → All (λ p. p.change.stamp ≤ base) before → base ≤ cutoff → upto cutoff before ≡ before
upto_ended base cutoff before ended le =
    kept_all (λ p. not (nat_lt cutoff p.change.stamp)) before (λ k d lt.
    let p : Placed = get_or before k d in
    let small : p.change.stamp ≤ base = ended k d lt in
    ap not (le-ltb cutoff p.change.stamp (omega (arith, small, le))))

changes_upto : (base cutoff : ℕ) (before : List Placed) (entries : List Entry) → All (λ p. p.change.stamp ≤ base) before → base ≤ cutoff
    → changes_of (upto cutoff (before ++ map placed_of entries)) ≡ changes_of before ++ map record_of (earlier_entries cutoff entries)
changes_upto base cutoff before entries ended le =
    ap changes_of (filter-append (λ p. not (nat_lt cutoff p.change.stamp)) before (map placed_of entries))
    ∙ ap (λ ps. changes_of (ps ++ upto cutoff (map placed_of entries))) (upto_ended base cutoff before ended le)
    ∙ ap (λ ps. changes_of (before ++ ps)) (kept_map placed_of (λ p. not (nat_lt cutoff p.change.stamp)) entries)
    ∙ map-append (λ p. p.change) before (map placed_of (earlier_entries cutoff entries))
    ∙ ap (λ rs. changes_of before ++ rs) (changes_placed (earlier_entries cutoff entries))

-- the pairs of the history up to a step of the tape's are those that the tape tells
pub tape_pairs : (base cutoff : ℕ) (before : List Placed) (entries : List Entry) (now first : Contents) → All (λ p. p.change.stamp ≤ base) before
    → after_changes pairs.empty (changes_of before) ≡ first → contents_at entries now base ≡ first → RisesOver base entries → IsLegalTape entries now → AreTold entries → base ≤ cutoff
    → pairs_upto cutoff (before ++ map placed_of entries) ≡ contents_at entries now cutoff
tape_pairs base cutoff before entries now first ended left start rises legal told le =
    ap (after_changes pairs.empty) (changes_upto base cutoff before entries ended le)
    ∙ after_append pairs.empty (changes_of before) (map record_of (earlier_entries cutoff entries))
    ∙ ap (λ (c : Contents). after_changes c (map record_of (earlier_entries cutoff entries))) (left ∙ sym start)
    ∙ sym (forward base cutoff entries now rises legal told le)

-- up to the floor they are what was written before the tape
pub pairs_before : (floor : ℕ) (before : List Placed) (entries : List Entry) → All (λ p. p.change.stamp ≤ floor) before → RisesOver floor entries
    → pairs_upto floor (before ++ map placed_of entries) ≡ after_changes pairs.empty (changes_of before)
pairs_before floor before entries ended rises =
    ap (after_changes pairs.empty)
    (changes_upto floor floor before entries ended (omega arith)
    ∙ ap (λ es. changes_of before ++ map record_of es) (earlier_none floor entries (rises_all floor entries rises))
    ∙ append-nil (changes_of before))

-- ---- writes that were given up

undone_append : (xs ys : List Entry) (now : Contents) → undone (xs ++ ys) now ≡ undone xs (undone ys now)
undone_append [] ys now = refl
undone_append (e ∷ xs) ys now = ap (λ (c : Contents). without_write c e) (undone_append xs ys now)

later_both : (m : ℕ) (gone entries : List Entry) → later_entries m (gone ++ entries) ≡ later_entries m gone ++ later_entries m entries
later_both m gone entries = filter-append (λ e. nat_lt m e.step) gone entries

-- from the floor on the pairs are those of the tape alone
pub whole_since : (floor m : ℕ) (gone entries : List Entry) (now : Contents) → All (λ e. e.step ≤ floor) gone → floor ≤ m
    → contents_at (gone ++ entries) now m ≡ contents_at entries now m
whole_since floor m gone entries now over le =
    ap (λ es. undone es now)
    (later_both m gone entries
    ∙ ap (λ es. es ++ later_entries m entries)
    (later_entries-none m gone (All-weaker (λ (e : Entry). e.step ≤ floor) (λ (e : Entry). e.step ≤ m) (λ e up. omega (arith, up, le)) gone over)))

-- and before it those at the floor, with what was given up undone
pub whole_before : (floor m : ℕ) (gone entries : List Entry) (now : Contents) → RisesOver floor entries → m ≤ floor
    → contents_at (gone ++ entries) now m ≡ undone (later_entries m gone) (contents_at entries now floor)
whole_before floor m gone entries now rises le =
    ap (λ es. undone es now)
    (later_both m gone entries
    ∙ ap (λ es. later_entries m gone ++ es)
    (later_entries-all m entries (All-weaker (λ (e : Entry). floor < e.step) (λ (e : Entry). m < e.step) (λ e up. omega (arith, up, le)) entries (rises_all floor entries rises))
    ∙ sym (later_entries-all floor entries (rises_all floor entries rises))))
    ∙ undone_append (later_entries m gone) (later_entries floor entries) now

-- a tape is what a tidying gives up of it, and then what it leaves
pub parted : (floor m : ℕ) (entries : List Entry) → RisesOver floor entries → earlier_entries m entries ++ later_entries m entries ≡ entries
parted floor m [] rises = refl
parted floor m (e ∷ entries) rises = ⊎_elim all (λ le. first le (parted e.step m entries rises.1)) (cases_lt m e.step)
  where
    all : m < e.step → earlier_entries m (e ∷ entries) ++ later_entries m (e ∷ entries) ≡ e ∷ entries
    all lt =
        let over : All (λ (x : Entry). m < x.step) (e ∷ entries) = rises_all m (e ∷ entries) (lt, rises.1) in
        ap (λ es. es ++ later_entries m (e ∷ entries)) (earlier_none m (e ∷ entries) over) ∙ later_entries-all m (e ∷ entries) over

    first : e.step ≤ m → earlier_entries m entries ++ later_entries m entries ≡ entries → earlier_entries m (e ∷ entries) ++ later_entries m (e ∷ entries) ≡ e ∷ entries
    first le rest =
        ap (λ es. es ++ later_entries m (e ∷ entries)) (earlier_more m e entries le)
        ∙ ap (λ es. e ∷ (earlier_entries m entries ++ es)) (later_entries-dropped m e entries le)
        ∙ ap (λ es. e ∷ es) rest

-- what it gives up is of steps up to there
pub earlier_upto : (m : ℕ) (entries : List Entry) → All (λ e. e.step ≤ m) (earlier_entries m entries)
earlier_upto m entries = λ k d lt.
    let passes = filter_passes (λ (e : Entry). not (nat_lt m e.step)) entries k d lt in
    ltb-false m (get_or (earlier_entries m entries) k d).step (not-true _ passes)

-- ---- batches

-- a test in three parts, of which the first fails
none_from : (worker from to : ℕ) (p : Placed) → p.change.stamp ≤ from → is_between worker from to p ≡ false
none_from worker from to p le = by (p.worker == worker) (nat_lt from p.change.stamp) (not (nat_lt to p.change.stamp)) (le-ltb from p.change.stamp le)
  where
    by : (a b c : Bool) → b ≡ false → (a && b && c) ≡ false
    by true true c e = absurd (true≢false e)
    by true false c e = refl
    by false b c e = refl

none_over : (worker from to : ℕ) (p : Placed) → to < p.change.stamp → is_between worker from to p ≡ false
none_over worker from to p lt = by (p.worker == worker) (nat_lt from p.change.stamp) (nat_lt to p.change.stamp) (lt-ltb to p.change.stamp lt)
  where
    by : (a b c : Bool) → c ≡ true → (a && b && not c) ≡ false
    by true true true e = refl
    by true true false e = sym e
    by true false c e = refl
    by false b c e = refl

-- what a drain gives are the worker's changes of the history
pub drained_changes : (worker from to base : ℕ) (before : List Placed) (entries : List Entry) → All (λ p. p.change.stamp ≤ base) before → base ≤ from
    → records_between worker from to entries ≡ changes_of (filter (is_between worker from to) (before ++ map placed_of entries))
drained_changes worker from to base before entries ended le =
    sym (
    ap changes_of (filter-append (is_between worker from to) before (map placed_of entries))
    ∙ ap (λ ps. changes_of (ps ++ filter (is_between worker from to) (map placed_of entries)))
    (kept_none (is_between worker from to) before (λ k d lt.
    let p : Placed = get_or before k d in
    let small : p.change.stamp ≤ base = ended k d lt in
    none_from worker from to p (omega (arith, small, le))))
    ∙ ap changes_of (kept_map placed_of (is_between worker from to) entries)
    ∙ changes_placed (filter (λ e. is_between worker from to (placed_of e)) entries)
    )

-- a batch that was drained holds the same changes when the history grows
pub holds_more : (worker : ℕ) (b : Batch) (history : List Placed) (p : Placed) → b.to < p.change.stamp
    → changes_of (filter (is_between worker b.from b.to) (history ++ p ∷ [])) ≡ changes_of (filter (is_between worker b.from b.to) history)
holds_more worker b history p lt =
    ap changes_of (
    filter-append (is_between worker b.from b.to) history (p ∷ [])
    ∙ ap (λ t. filter (is_between worker b.from b.to) history ++ cond t (p ∷ []) []) (none_over worker b.from b.to p lt)
    ∙ append-nil (filter (is_between worker b.from b.to) history)
    )
