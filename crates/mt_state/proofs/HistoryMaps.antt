-- What a numbered step does to the maps of the steps, and to which of them changed one: for HistorySteps.
use Rattle.std.proofs.{Common.{◌≡◌, ℕ, ◌+◌, ◌<◌, ◌≤◌, true, false, List, get_or, sym, ap, subst, ◌∙◌, arith, eqb}, lemmas.Bool.ne_eqb}
use Rattle.std.proofs.{lemmas.List.Elements.All-push, lemmas.List.Folds.list_any_none}
use Rattle.std.specs.List.{All}
use Rattle.mt_rows.specs.Tenants.{tenant_map}
use Rattle.mt_tape.{specs.{declared.entry.Entry.Entry, Histories.{undone, is_changed}}, proofs.EntryLaws.{later_entries-none, is_changed-push}}
use Rattle.mt_operation.specs.Operations.{OperationView}
use Rattle.mt_state.specs.{Views.{StateView, contents_of, map_of, changed_at}, Promises.{IsQuiet, IsPlacing}}

-- every change was made by a step up to this one
abbrev pub AreMade : List Entry → ℕ → Type 0
AreMade entries m = All (λ e. e.step ≤ m) entries

-- entries of steps that were made were made after more steps too
pub made_later : (entries : List Entry) (m n : ℕ) → m ≤ n → AreMade entries m → AreMade entries n
made_later entries m n le h = λ k d in_. let up = h k d in_ in omega arith

-- after the last step the map is the present one
pub map_of-now : (v : StateView) (t m : ℕ) → AreMade v.tape.entries m → map_of v t m ≡ tenant_map t (contents_of v)
map_of-now v t m made = ap (λ es. tenant_map t (undone es (contents_of v))) (later_entries-none m v.tape.entries made)

-- no step after it changed a map
pub unchanged-after : (entries : List Entry) (m n : ℕ) → m < n → AreMade entries m → is_changed entries n ≡ false
unchanged-after entries m n lt made =
    list_any_none (λ e. eqb e.step n) entries (λ k d in_. let up = made k d in_ in ne_eqb (get_or entries k d).step n (λ is. omega arith))

module _ (old new : StateView) (before after : OperationView) (number : new.steps ≡ old.steps + 1) (made : AreMade old.tape.entries old.steps) where
  -- a quiet step leaves the maps as they are, and changed none
  pub made-quiet : IsQuiet old new before after → AreMade new.tape.entries new.steps
  made-quiet q = subst (λ es. AreMade es new.steps) (sym q.entries) (made_later old.tape.entries old.steps new.steps (omega (arith, number)) made)

  -- after a quiet step the maps are those of before
  pub map-quiet : (t : ℕ) → IsQuiet old new before after → map_of new t (old.steps + 1) ≡ tenant_map t (contents_of old)
  map-quiet t q =
      map_of-now new t (old.steps + 1) (subst (AreMade new.tape.entries) number (made-quiet q)) ∙ ap (tenant_map t) q.contents

  -- and the step changed none
  pub changed-quiet : IsQuiet old new before after → changed_at new (old.steps + 1) ≡ false
  changed-quiet q = ap (λ es. is_changed es (old.steps + 1)) q.entries ∙ unchanged-after old.tape.entries old.steps (old.steps + 1) (omega arith) made

  -- a placing one changed a map
  pub made-placing : IsPlacing old new before after → AreMade new.tape.entries new.steps
  made-placing p =
      subst (λ es. AreMade es new.steps) (sym p.pushes)
      (All-push (λ e. e.step ≤ new.steps) old.tape.entries p.entry (made_later old.tape.entries old.steps new.steps (omega (arith, number)) made) (omega (arith, number, p.step)))

  -- after a placing step the maps are those that it made
  pub map-placing : (t : ℕ) → IsPlacing old new before after → map_of new t (old.steps + 1) ≡ tenant_map t (contents_of new)
  map-placing t p = map_of-now new t (old.steps + 1) (subst (AreMade new.tape.entries) number (made-placing p))

  -- and the step changed one
  pub changed-placing : IsPlacing old new before after → changed_at new (old.steps + 1) ≡ true
  changed-placing p = ap (is_changed new.tape.entries) (sym p.step) ∙ ap (λ es. is_changed es p.entry.step) p.pushes ∙ is_changed-push old.tape.entries p.entry
