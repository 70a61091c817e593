-- Marks in the first places of a row of ranks, where others moved up or down: for marks.rt.
use Rattle.std.proofs.Common.{◌+◌, ◌-◌, inl, inr, ◌∙◌, ◌≡◌, ℕ, ◌<◌, ◌≤◌, List, ◌∷◌, length, get_or, set, take, drop, sym, ap, refl, arith}
use Rattle.std.proofs.lemmas.Bool.{cases_lt}
use Rattle.std.proofs.lemmas.List.{ext_get_or, length-take, length-set, length-map, get_or-take, get_or-map, get_or-set_same, get_or-set_other, map-append, take-map, drop-map}
use Rattle.std.proofs.lemmas.List.Edits.{length-insert, get_or-insert_below, get_or-insert_at, get_or-insert_above, length-remove, get_or-remove_below, get_or-remove_above}
use Rattle.std.specs.{Prelude.{map, suc}, List.{insert, remove, SameBelow, CopiedTo}}
use Rattle.mt_slices.specs.declared.mark.Mark.{Mark}
use Rattle.mt_border.specs.Ranks.{mark_of_rank, marks_in}

-- as many marks as ranks are used
pub length-marks : (ranks : List ℕ) (len : ℕ) → len ≤ length ranks → length (marks_in ranks len) ≡ len
length-marks ranks len within = length-map (take len ranks) mark_of_rank ∙ omega (arith, length-take len ranks, within)

-- the mark at a place is that of the rank there
pub mark_at : (ranks : List ℕ) (len place : ℕ) (mark : Mark) → len ≤ length ranks → place < len → mark ≡ mark_of_rank (get_or ranks place 0) → mark ≡ get_or (marks_in ranks len) place mark
mark_at ranks len place mark within there is =
    is ∙ ap mark_of_rank (sym (get_or-take len ranks place 0 there))
    ∙ sym (get_or-map mark_of_rank (take len ranks) place 0 mark (omega (arith, length-take len ranks, within, there)))

-- one more, in a place from which on the others moved up
module _ (ranks moved : List ℕ) (len place rank : ℕ) (room : len < length ranks) (upto : place ≤ len) (long : length moved ≡ length ranks)
    (copied : CopiedTo ranks moved place (place + 1) (len - place)) (below : SameBelow ranks moved (place + 1)) where
  size : length (take len ranks) ≡ len
  size = omega (arith, length-take len ranks, room)

  each : (i : ℕ) → i < len + 1 → get_or (set moved place rank) i 0 ≡ get_or (insert (take len ranks) place rank) i 0
  each i lt = elim (cases_lt i place) [
    | inl before ↦ get_or-set_other moved place i rank 0 (omega (arith, before)) ∙ below i 0 (omega (arith, before)) ∙ sym (get_or-insert_below (take len ranks) place rank 0 i before (omega (arith, upto, size)) ∙ get_or-take len ranks i 0 (omega (arith, before, upto)))
    | inr from ↦ elim (cases_lt place i) [
      | inl behind ↦
          let last : i ≡ (i - 1) + 1 = omega (arith, behind) in
          let back : place + (i - (place + 1)) ≡ i - 1 = omega (arith, behind) in
          get_or-set_other moved place i rank 0 (omega (arith, behind)) ∙ copied i 0 (omega (arith, behind)) (omega (arith, lt, behind, upto)) ∙ ap (λ k. get_or ranks k 0) back
          ∙ sym (ap (λ k. get_or (insert (take len ranks) place rank) k 0) last ∙ get_or-insert_above (take len ranks) place rank 0 (i - 1) (omega (arith, behind)) (omega (arith, upto, size)) ∙ get_or-take len ranks (i - 1) 0 (omega (arith, lt, behind)))
      | inr upto_here ↦
          let here : i ≡ place = omega (arith, from, upto_here) in
          rw here (get_or-set_same moved place rank 0 (omega (arith, long, room, upto)) ∙ sym (get_or-insert_at (take len ranks) place rank 0 (omega (arith, upto, size))))
    ]
  ]

  first_put : take (len + 1) (set moved place rank) ≡ insert (take len ranks) place rank
  first_put =
      let new = length-take (len + 1) (set moved place rank) in
      let same = length-set moved place rank in
      let more = length-insert (take len ranks) place rank (omega (arith, upto, size)) in
      ext_get_or 0 _ _ (omega (arith, new, same, more, long, room, size)) (λ i lt. get_or-take (len + 1) (set moved place rank) i 0 (omega (arith, new, lt)) ∙ each i (omega (arith, new, lt)))

  pub marks_put : marks_in (set moved place rank) (len + 1) ≡ insert (marks_in ranks len) place (mark_of_rank rank)
  marks_put =
      let xs = take len ranks in
      ap (map mark_of_rank) first_put ∙ map-append mark_of_rank (take place xs) (rank ∷ drop place xs) ∙ rw (take-map mark_of_rank place xs, drop-map mark_of_rank place xs) refl

-- and one less, where those behind it moved down
module _ (ranks moved : List ℕ) (len place last : ℕ) (within : len ≤ length ranks) (there : place < len) (one_less : last + 1 ≡ len) (long : length moved ≡ length ranks)
    (copied : CopiedTo ranks moved (place + 1) place (len - (place + 1))) (below : SameBelow ranks moved place) where
  size_before : length (take len ranks) ≡ len
  size_before = omega (arith, length-take len ranks, within)

  each_less : (i : ℕ) → i < last → get_or moved i 0 ≡ get_or (remove (take len ranks) place) i 0
  each_less i lt = elim (cases_lt i place) [
    | inl before ↦ below i 0 before ∙ sym (get_or-remove_below (take len ranks) place 0 i before (omega (arith, there, size_before)) ∙ get_or-take len ranks i 0 (omega (arith, before, there)))
    | inr from ↦
        let next : place + 1 + (i - place) ≡ i + 1 = omega (arith, from) in
        copied i 0 from (omega (arith, lt, there, one_less)) ∙ ap (λ k. get_or ranks k 0) next
        ∙ sym (get_or-remove_above (take len ranks) place 0 i from (omega (arith, there, size_before)) ∙ get_or-take len ranks (i + 1) 0 (omega (arith, lt, one_less)))
  ]

  first_taken : take last moved ≡ remove (take len ranks) place
  first_taken =
      let new = length-take last moved in
      let less = length-remove (take len ranks) place (omega (arith, there, size_before)) in
      ext_get_or 0 _ _ (omega (arith, new, less, long, one_less, within, size_before)) (λ i lt. get_or-take last moved i 0 (omega (arith, new, lt)) ∙ each_less i (omega (arith, new, lt)))

  pub marks_taken : marks_in moved last ≡ remove (marks_in ranks len) place
  marks_taken =
      let xs = take len ranks in
      ap (map mark_of_rank) first_taken ∙ map-append mark_of_rank (take place xs) (drop (suc place) xs) ∙ rw (take-map mark_of_rank place xs, drop-map mark_of_rank (suc place) xs) refl
