-- Which slot stands where once one is taken out: for `DroppingLayer`.
use Rattle.std.proofs.{Common.{◌≡◌, ◌≢◌, ℕ, ◌+◌, ◌-◌, ◌<◌, List, length, get_or, ap, ◌∙◌, inl, inr, arith}, lemmas.Bool.cases_lt}
use Rattle.std.proofs.lemmas.List.Edits.{length-remove, get_or-remove_below, get_or-remove_above}
use Rattle.std.specs.List.{remove}
use Rattle.mt_border.{specs.declared.entry.Entry.Entry, proofs.Edits.any_entry}

-- place j of a list with one less is a place of the list, and another one
pub record WasAt (es : List Entry) (i j : ℕ) : Type 0 where
  pub place : ℕ
  pub other : place ≢ i
  pub in_range : place < length es
  pub same : get_or (remove es i) j any_entry ≡ get_or es place any_entry

-- each slot that is left stood at one place before
pub was_at : (es : List Entry) (i j : ℕ) → i < length es → j < length (remove es i) → WasAt es i j
was_at es i j within lt = elim (cases_lt j i) [
  | inl below ↦ record { place = j; other = λ e. omega (arith, e, below); in_range = omega (arith, below, within); same = get_or-remove_below es i any_entry j below within }
  | inr above ↦ record {
    place = j + 1;
    other = λ e. omega (arith, e, above);
    in_range = omega (arith, lt, length-remove es i within);
    same = get_or-remove_above es i any_entry j above within;
  }
]

-- and any other place of the list is one of it
pub record IsAtStill (es : List Entry) (i s : ℕ) : Type 0 where
  pub place : ℕ
  pub in_range : place < length (remove es i)
  pub same : get_or (remove es i) place any_entry ≡ get_or es s any_entry

-- each other slot stands at one place still
pub at_still : (es : List Entry) (i s : ℕ) → i < length es → s < length es → s ≢ i → IsAtStill es i s
at_still es i s within lt other = elim (cases_lt s i) [
  | inl below ↦ record { place = s; in_range = omega (arith, below, within, length-remove es i within); same = get_or-remove_below es i any_entry s below within }
  | inr above ↦ record {
    place = s - 1;
    in_range = omega (arith, above, other, lt, length-remove es i within);
    same =
        get_or-remove_above es i any_entry (s - 1) (omega (arith, above, other)) within ∙ ap (λ k. get_or es k any_entry) {x = s - 1 + 1} {y = s} (omega (arith, above, other));
  }
]
