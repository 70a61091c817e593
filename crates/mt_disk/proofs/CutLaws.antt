-- What a cut leaves of the changes that are remembered, and how many these are.
use Rattle.std.proofs.Common.{◌≡◌, ℕ, suc, ◌+◌, ◌<◌, ◌≤◌, Bool, true, false, not, ◌||◌, cond, List, [], ◌∷◌, length, map, refl, sym, ◌∙◌, ap, subst, arith, length-append}
use Rattle.std.{specs.List.{filter, list_any}, proofs.lemmas.List.length-map}
use Rattle.std.specs.List.Retain.{RetainsInTurn}
use Rattle.mt_disk.specs.{declared.edit.Edit.Edit, FileEdits.{FileEdit, Wrote, CutTo, edit_of, edits_of, begins_before, shortened, cut_back, remembered}}

-- one more change is left, or not
pub cut_one : (len : ℕ) (e : FileEdit) (edits : List FileEdit) (b : Bool) → b ≡ begins_before len e → cut_back len (e ∷ edits) ≡ cond b (shortened len e ∷ cut_back len edits) (cut_back len edits)
cut_one len e edits b is = subst (λ v. map (shortened len) (cond v (e ∷ filter (begins_before len) edits) (filter (begins_before len) edits)) ≡ cond b (shortened len e ∷ cut_back len edits) (cut_back len edits)) is
    (elim b as (λ v. map (shortened len) (cond v (e ∷ filter (begins_before len) edits) (filter (begins_before len) edits)) ≡ cond v (shortened len e ∷ cut_back len edits) (cut_back len edits)) [ true ↦ refl | false ↦ refl ])

-- a call went over the edits in turn, shortened each, and told which are left
pub cut_in_turn : {S : Type 0} (R : S → Edit → Bool → S → Edit → Type 0) (len : ℕ) (s : S)
    → ((x : Edit) (b : Bool) (t : S) (y : Edit) → R s x b t y → (t ≡ s) × (b ≡ begins_before len (edit_of x)) × (b ≡ true → edit_of y ≡ shortened len (edit_of x)))
    → (xs ys : List Edit) → RetainsInTurn R s xs ys → edits_of ys ≡ cut_back len (edits_of xs)
cut_in_turn R len s f [] ys h = ap edits_of h
cut_in_turn R len s f (x ∷ xs) ys h =
    let said = f x h.0 h.1 h.2 h.3 in
    ap edits_of h.6 ∙ by h.0 (cut_in_turn R len s f xs h.4 (subst (λ t. RetainsInTurn R t xs h.4) said.0 h.5)) said.2 ∙ sym (cut_one len (edit_of x) (edits_of xs) h.0 said.1)
  where
    by : (b : Bool) → edits_of h.4 ≡ cut_back len (edits_of xs) → (b ≡ true → edit_of h.2 ≡ shortened len (edit_of x))
        → edits_of (cond b (h.2 ∷ h.4) h.4) ≡ cond b (shortened len (edit_of x) ∷ cut_back len (edits_of xs)) (cut_back len (edits_of xs))
    by true rest left = ap (λ e. e ∷ edits_of h.4) (left refl) ∙ ap (λ (l : List FileEdit). shortened len (edit_of x) ∷ l) rest
    by false rest left = rest

-- no more are left than there were
few_left : (len : ℕ) (edits : List FileEdit) → length (cut_back len edits) ≤ length edits
few_left len [] = omega arith
few_left len (e ∷ edits) = by (few_left len edits) (begins_before len e) refl
  where
    by : length (cut_back len edits) ≤ length edits → (b : Bool) → b ≡ begins_before len e → length (cut_back len (e ∷ edits)) ≤ suc (length edits)
    by less true is = subst (λ (l : List FileEdit). length l ≤ suc (length edits)) (sym (cut_one len e edits true is)) (omega (arith, less))
    by less false is = subst (λ (l : List FileEdit). length l ≤ suc (length edits)) (sym (cut_one len e edits false is)) (omega (arith, less))

-- fewer, if one of them begins past the new end
fewer_left : (len : ℕ) (edits : List Edit) → list_any (λ e. not (begins_before len (edit_of e))) edits ≡ true → length (cut_back len (edits_of edits)) < length edits
fewer_left len [] some = absurd cc
fewer_left len (e ∷ edits) some = by (fewer_left len edits) (begins_before len (edit_of e)) refl
  where
    same : length (edits_of edits) ≡ length edits
    same = length-map edits edit_of

    by : (list_any (λ x. not (begins_before len (edit_of x))) edits ≡ true → length (cut_back len (edits_of edits)) < length edits)
        → (b : Bool) → b ≡ begins_before len (edit_of e) → length (cut_back len (edits_of (e ∷ edits))) < suc (length edits)
    by fewer true is =
        let less = fewer (ap (λ v. not v || list_any (λ x. not (begins_before len (edit_of x))) edits) is ∙ some) in
        subst (λ (l : List FileEdit). length l < suc (length edits)) (sym (cut_one len (edit_of e) (edits_of edits) true is)) (omega (arith, less))
    by fewer false is =
        let less = few_left len (edits_of edits) in
        subst (λ (l : List FileEdit). length l < suc (length edits)) (sym (cut_one len (edit_of e) (edits_of edits) false is)) (omega (arith, less, same))

-- one more is remembered at most
pub remembered_length : (e : FileEdit) (edits : List Edit) → length (remembered e (edits_of edits)) ≤ length edits + 1
remembered_length (Wrote at bytes) edits = omega (arith, length-append (edits_of edits) (Wrote at bytes ∷ []), length-map edits edit_of)
remembered_length (CutTo len) edits = omega (arith, length-append (cut_back len (edits_of edits)) (CutTo len ∷ []), few_left len (edits_of edits), length-map edits edit_of)

-- a cut that lets some go needs no room
pub cut_length : (len : ℕ) (edits : List Edit) → list_any (λ e. not (begins_before len (edit_of e))) edits ≡ true → length (remembered (CutTo len) (edits_of edits)) ≤ length edits
cut_length len edits some = omega (arith, length-append (cut_back len (edits_of edits)) (CutTo len ∷ []), fewer_left len edits some)
