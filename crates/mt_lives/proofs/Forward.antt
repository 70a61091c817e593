-- The pairs after each step, by going forward over a tape: they are those at its floor, with its writes made.
use Rattle.std.proofs.Common.{◌≡◌, ℕ, ◌<◌, ◌≤◌, not, cond, List, [], ◌∷◌, map, get_or, Option, Some, None, refl, sym, ap, ◌∙◌, arith, inl, inr, ⊎_elim}
use Rattle.std.proofs.lemmas.{Bool.{cases_lt, lt-ltb, le-ltb}, List.Elements.{All-head, All-tail}, Option.none-some}
use Rattle.std.specs.{List.All, Option.option_map, FinMap.get}
use Rattle.mt_rows.specs.{Rows.Columns, Changes.Named, Stamps.{Stamped, written}, Tenants.Contents}
use Rattle.mt_tape.specs.{declared.entry.Entry.Entry, Tapes.RisesOver, Histories.{with_row, written_key, after_of, logged_of, logged, undone, contents_at, IsLegalTape}}
use Rattle.mt_tape.proofs.{EntryLaws.{rises_all, later_entries-dropped, later_entries-all}, RowLaws.{get-with_row_same, with_row-put_back}}
use Rattle.mt_state.specs.Written.{IsMadeByChange}
use Rattle.mt_crashes.specs.Fronts.{made, with_change, after_changes}
use Rattle.mt_drains.specs.Drains.{record_of}
use Rattle.mt_lives.specs.Earlier.{earlier_entries, AreTold}

pub earlier_none : (m : ℕ) (entries : List Entry) → All (λ e. m < e.step) entries → earlier_entries m entries ≡ []
earlier_none m [] over = refl
earlier_none m (e ∷ entries) over =
    ap (λ b. cond (not b) (e ∷ earlier_entries m entries) (earlier_entries m entries)) (lt-ltb m e.step (All-head (λ (x : Entry). m < x.step) e entries over))
    ∙ earlier_none m entries (All-tail (λ (x : Entry). m < x.step) e entries over)

pub earlier_more : (m : ℕ) (e : Entry) (entries : List Entry) → e.step ≤ m → earlier_entries m (e ∷ entries) ≡ e ∷ earlier_entries m entries
earlier_more m e entries le = ap (λ b. cond (not b) (e ∷ earlier_entries m entries) (earlier_entries m entries)) (le-ltb m e.step le)

-- ---- what a log tells of a write

abbrev IsTold : Entry → Type 0
IsTold e = made e.step (logged e) e.before ≡ after_of e

abbrev stamped : ℕ → Columns → Stamped
stamped step row = record { stamp = step; row = row }

told_of : (step : ℕ) (after : Option Columns) (before : Option Stamped) (change : Option Named)
    → ((c : Named) → change ≡ Some c → option_map (stamped step) after ≡ Some (written step c before))
    → made step (logged_of after before change) before ≡ option_map (stamped step) after
told_of step None before change makes = refl
told_of step (Some row) None None makes = refl
told_of step (Some row) None (Some c) makes = refl
told_of step (Some row) (Some was) None makes = refl
told_of step (Some row) (Some was) (Some c) makes = sym (makes c refl)

-- if a change made it, that makes the row after it of the one before it
pub told_by : (e : Entry) → IsMadeByChange e → made e.step (logged e) e.before ≡ after_of e
told_by e (inl put) =
    told_of e.step e.after e.before e.change
    (λ c kept. put.makes ∙ ap (λ (x : Named). Some (written e.step x e.before)) (sym (put.kept c kept)))
told_by e (inr remove) = gone e.after refl
  where
    gone : (after : Option Columns) → e.after ≡ after → made e.step (logged e) e.before ≡ after_of e
    gone None is = ap (λ (x : Option Columns). made e.step (logged_of x e.before e.change) e.before) is ∙ sym remove.gone
    gone (Some row) is = absurd (none-some (stamped e.step row) (sym remove.gone ∙ ap (option_map (stamped e.step)) is))

-- ---- a tape

-- a tape behind its first write is legal
legal_rest : (e : Entry) (entries : List Entry) (now : Contents) → RisesOver e.step entries → IsLegalTape (e ∷ entries) now → IsLegalTape entries now
legal_rest e entries now rises legal = λ k d lt.
    let x : Entry = get_or entries k d in
    let over : e.step < x.step = rises_all e.step entries rises k d lt in
    ap (λ es. get (undone es now) (written_key x)) (sym (later_entries-dropped x.step e entries (omega (arith, over))))
    ∙ All-tail (λ (y : Entry). get (contents_at (e ∷ entries) now y.step) (written_key y) ≡ after_of y) e entries legal k d lt

-- the pairs at the first write's step
after_first : (e : Entry) (entries : List Entry) (now : Contents) → RisesOver e.step entries → contents_at entries now e.step ≡ undone entries now
after_first e entries now rises = ap (λ es. undone es now) (later_entries-all e.step entries (rises_all e.step entries rises))

-- the row before a write was put back, so what a log tells of the write makes the row after it
made_first : (e : Entry) (entries : List Entry) (now : Contents) → RisesOver e.step entries → IsLegalTape (e ∷ entries) now → IsTold e
    → with_change (undone (e ∷ entries) now) (record_of e) ≡ undone entries now
made_first e entries now rises legal told =
    ap (λ (row : Option Stamped). with_row (undone (e ∷ entries) now) (written_key e) row)
    (ap (made e.step (logged e)) (get-with_row_same (undone entries now) (written_key e) e.before) ∙ told)
    ∙ with_row-put_back (undone entries now) (written_key e) e.before (after_of e)
    (
    ap (λ (c : Contents). get c (written_key e)) (sym (after_first e entries now rises))
    ∙ ap (λ es. get (undone es now) (written_key e)) (sym (later_entries-dropped e.step e entries (omega arith)))
    ∙ All-head (λ (y : Entry). get (contents_at (e ∷ entries) now y.step) (written_key y) ≡ after_of y) e entries legal
    )

pub forward : (floor m : ℕ) (entries : List Entry) (now : Contents) → RisesOver floor entries → IsLegalTape entries now → AreTold entries → floor ≤ m
    → contents_at entries now m ≡ after_changes (contents_at entries now floor) (map record_of (earlier_entries m entries))
forward floor m [] now rises legal told le = refl
forward floor m (e ∷ entries) now rises legal told le = ⊎_elim before
    (λ ge. behind ge (forward e.step m entries now rises.1 (legal_rest e entries now rises.1 legal) (All-tail IsTold e entries told) ge)) (cases_lt m e.step)
  where
    rest : RisesOver e.step entries
    rest = rises.1

    whole : contents_at (e ∷ entries) now floor ≡ undone (e ∷ entries) now
    whole = ap (λ es. undone es now) (later_entries-all floor (e ∷ entries) (rises_all floor (e ∷ entries) rises))

    before : m < e.step → contents_at (e ∷ entries) now m ≡ after_changes (contents_at (e ∷ entries) now floor) (map record_of (earlier_entries m (e ∷ entries)))
    before lt =
        let over : All (λ x. m < x.step) (e ∷ entries) = rises_all m (e ∷ entries) (lt, rest) in
        ap (λ es. undone es now) (later_entries-all m (e ∷ entries) over)
        ∙ sym whole
        ∙ ap (λ es. after_changes (contents_at (e ∷ entries) now floor) (map record_of es)) (sym (earlier_none m (e ∷ entries) over))

    behind : e.step ≤ m → contents_at entries now m ≡ after_changes (contents_at entries now e.step) (map record_of (earlier_entries m entries))
        → contents_at (e ∷ entries) now m ≡ after_changes (contents_at (e ∷ entries) now floor) (map record_of (earlier_entries m (e ∷ entries)))
    behind ge further =
        ap (λ es. undone es now) (later_entries-dropped m e entries ge)
        ∙ further
        ∙ ap (λ (c : Contents). after_changes c (map record_of (earlier_entries m entries)))
        (after_first e entries now rest ∙ sym (made_first e entries now rest legal (All-head IsTold e entries told)) ∙ ap (λ (c : Contents). with_change c (record_of e)) (sym whole))
        ∙ ap (λ es. after_changes (contents_at (e ∷ entries) now floor) (map record_of es)) (sym (earlier_more m e entries ge))
