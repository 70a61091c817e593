-- Since when the places of a list are out, as one is added, where a later step comes, and where one step took out all: for the calls that take
-- nodes and trees out, and for the crates above.
use Rattle.std.proofs.Common.{◌≡◌, ℕ, zero, suc, ◌+◌, ◌<◌, ◌≤◌, ◌⊎◌, Bool, List, [], ◌∷◌, length, refl, sym, ap, ◌∙◌, inl, inr, arith, length-append}
use Rattle.std.proofs.{lemmas.Bool.cases_eq, lemmas.List.{get_or_append_left, length-map}, Math.Seq.get_or-append_seam}
use Rattle.mt_arena.specs.{declared.retired.Retired.Retired, NodeView.{NodeView, no_node}, declared.tree.Tree.Tree, Forests.no_tree}
use Rattle.mt_arena.specs.Idle.{RetiredPlaces, AreListed, AreRetired, is_idle_border, is_idle_interior, is_idle_tree, no_places, place_of_idle, with_retired, with_border, with_interior, with_tree, retired_by, out_at, all_out_at}
use Rattle.mt_arena.specs.Given.{step_of_idle, IsOutFrom, IsNodeOutFrom, RisesUpTo, AreOutUpTo}

-- what a read behind the last place gives, and the place that is added
abbrev none : Retired
none = record { place = 0; step = 0 }

abbrev one : ℕ → ℕ → Retired
one place step = record { place = place; step = step }

-- the one that is added stands last, and the others stand where they stood
size_more : (gone : List Retired) (place step : ℕ) → length (with_retired gone place step) ≡ length gone + 1
size_more gone place step = length-append gone (one place step ∷ [])

pub last_or_before : (gone : List Retired) (place step i : ℕ) → i < length (with_retired gone place step) → (i ≡ length gone) ⊎ (i < length gone)
last_or_before gone place step i lt = elim (cases_eq i (length gone)) [
  | inl is ↦ inl is
  | inr other ↦ inr (omega (arith, lt, other, size_more gone place step))
]

pub place_before : (gone : List Retired) (place step i : ℕ) → i < length gone → place_of_idle (with_retired gone place step) i ≡ place_of_idle gone i
place_before gone place step i lt = ap (λ (r : Retired). r.place) (get_or_append_left gone (one place step ∷ []) none i lt)

pub step_before : (gone : List Retired) (place step i : ℕ) → i < length gone → step_of_idle (with_retired gone place step) i ≡ step_of_idle gone i
step_before gone place step i lt = ap (λ (r : Retired). r.step) (get_or_append_left gone (one place step ∷ []) none i lt)

pub place_last : (gone : List Retired) (place step i : ℕ) → i ≡ length gone → place_of_idle (with_retired gone place step) i ≡ place
place_last gone place step i is =
    ap (place_of_idle (with_retired gone place step)) is ∙ ap (λ (r : Retired). r.place) (get_or-append_seam gone (one place step) [] none)

pub step_last : (gone : List Retired) (place step i : ℕ) → i ≡ length gone → step_of_idle (with_retired gone place step) i ≡ step
step_last gone place step i is =
    ap (step_of_idle (with_retired gone place step)) is ∙ ap (λ (r : Retired). r.step) (get_or-append_seam gone (one place step) [] none)

-- a place is out no later than before where a later step takes another one out
pub out_more : (from : ℕ) (gone : List Retired) (place step k : ℕ) → from ≤ step → IsOutFrom from gone k → IsOutFrom from (with_retired gone place step) k
out_more from gone place step k upto out i lt is = elim (last_or_before gone place step i lt) [
  | inl last ↦ omega (arith, upto, step_last gone place step i last)
  | inr was ↦ omega (arith, step_before gone place step i was, out i was (sym (place_before gone place step i was) ∙ is))
]

pub node_out_border : (from : ℕ) (gone : RetiredPlaces) (node step k : ℕ) → from ≤ step → IsNodeOutFrom from gone k → IsNodeOutFrom from (with_border gone node step) k
node_out_border from gone node step k upto out = record { border = out_more from gone.borders node step k upto out.border; interior = out.interior }

pub node_out_interior : (from : ℕ) (gone : RetiredPlaces) (node step k : ℕ) → from ≤ step → IsNodeOutFrom from gone k
    → IsNodeOutFrom from (with_interior gone node step) k
node_out_interior from gone node step k upto out = record { border = out.border; interior = out_more from gone.interiors node step k upto out.interior }

-- a list rises up to a later step, and up to one that takes one more out
rises_later : (step next : ℕ) (gone : List Retired) → step ≤ next → RisesUpTo step gone → RisesUpTo next gone
rises_later step next gone later h = record { rises = h.rises; upto = λ i lt. omega (arith, later, h.upto i lt) }

rises_more : (gone : List Retired) (place step : ℕ) → RisesUpTo step gone → RisesUpTo step (with_retired gone place step)
rises_more gone place step h =
    let upto : (i : ℕ) → i < length (with_retired gone place step) → step_of_idle (with_retired gone place step) i ≤ step = λ i lt. elim (last_or_before gone place step i lt) [
      | inl is ↦ omega (arith, step_last gone place step i is)
      | inr was ↦ omega (arith, step_before gone place step i was, h.upto i was)
    ] in
    record {
      rises = λ i j lt within. elim (last_or_before gone place step j within) [
        | inl is ↦ omega (arith, step_last gone place step j is, upto i (omega (arith, lt, within)))
        | inr was ↦ omega (arith, step_before gone place step j was, step_before gone place step i (omega (arith, lt, was)), h.rises i j lt was)
      ];
      upto = upto;
    }

-- so do all lists
pub upto_later : (step next : ℕ) (gone : RetiredPlaces) → step ≤ next → AreOutUpTo step gone → AreOutUpTo next gone
upto_later step next gone later h = record {
  borders = rises_later step next gone.borders later h.borders;
  interiors = rises_later step next gone.interiors later h.interiors;
  trees = rises_later step next gone.trees later h.trees;
}

pub upto_border : (gone : RetiredPlaces) (node step : ℕ) → AreOutUpTo step gone → AreOutUpTo step (with_border gone node step)
upto_border gone node step h = record { borders = rises_more gone.borders node step h.borders; interiors = h.interiors; trees = h.trees }

pub upto_interior : (gone : RetiredPlaces) (node step : ℕ) → AreOutUpTo step gone → AreOutUpTo step (with_interior gone node step)
upto_interior gone node step h = record { borders = h.borders; interiors = rises_more gone.interiors node step h.interiors; trees = h.trees }

pub upto_tree : (gone : RetiredPlaces) (tree step : ℕ) → AreOutUpTo step gone → AreOutUpTo step (with_tree gone tree step)
upto_tree gone tree step h = record { borders = h.borders; interiors = h.interiors; trees = rises_more gone.trees tree step h.trees }

-- and empty ones
pub upto_none : (step : ℕ) → AreOutUpTo step no_places
upto_none step = record { borders = rises_none; interiors = rises_none; trees = rises_none }
  where
    rises_none : RisesUpTo step []
    rises_none = record { rises = λ i j lt within. absurd (omega arith); upto = λ i lt. absurd (omega arith) }

-- where the first place of a list is given out, the rest rises, and all places are out no earlier
rises_less : (step : ℕ) (r : Retired) (gone : List Retired) → RisesUpTo step (r ∷ gone) → RisesUpTo step gone
rises_less step r gone h = record {
  rises = λ i j lt within. h.rises (suc i) (suc j) (omega (arith, lt)) (omega (arith, within));
  upto = λ i lt. h.upto (suc i) (omega (arith, lt));
}

pub upto_border_given : (step : ℕ) (gone : RetiredPlaces) (r : Retired) (rest : List Retired) → AreOutUpTo step (record gone { borders = r ∷ rest })
    → AreOutUpTo step (record gone { borders = rest })
upto_border_given step gone r rest h = record { borders = rises_less step r rest h.borders; interiors = h.interiors; trees = h.trees }

pub node_out_border_given : (from : ℕ) (gone : RetiredPlaces) (r : Retired) (rest : List Retired) (k : ℕ) → IsNodeOutFrom from (record gone { borders = r ∷ rest }) k
    → IsNodeOutFrom from (record gone { borders = rest }) k
node_out_border_given from gone r rest k out = record { border = λ i lt is. out.border (suc i) (omega (arith, lt)) is; interior = out.interior }

pub upto_interior_given : (step : ℕ) (gone : RetiredPlaces) (r : Retired) (rest : List Retired) → AreOutUpTo step (record gone { interiors = r ∷ rest })
    → AreOutUpTo step (record gone { interiors = rest })
upto_interior_given step gone r rest h = record { borders = h.borders; interiors = rises_less step r rest h.interiors; trees = h.trees }

pub node_out_interior_given : (from : ℕ) (gone : RetiredPlaces) (r : Retired) (rest : List Retired) (k : ℕ) → IsNodeOutFrom from (record gone { interiors = r ∷ rest }) k
    → IsNodeOutFrom from (record gone { interiors = rest }) k
node_out_interior_given from gone r rest k out = record { border = out.border; interior = λ i lt is. out.interior (suc i) (omega (arith, lt)) is }

pub upto_tree_given : (step : ℕ) (gone : RetiredPlaces) (r : Retired) (rest : List Retired) → AreOutUpTo step (record gone { trees = r ∷ rest })
    → AreOutUpTo step (record gone { trees = rest })
upto_tree_given step gone r rest h = record { borders = h.borders; interiors = h.interiors; trees = rises_less step r rest h.trees }

-- where one step took out all, the places stand as they stood
pub place_anew : (step : ℕ) (gone : List Retired) (i : ℕ) → place_of_idle (out_at step gone) i ≡ place_of_idle gone i
place_anew step [] i = refl
place_anew step (r ∷ gone) zero = refl
place_anew step (r ∷ gone) (suc i) = place_anew step gone i

pub step_anew : (step : ℕ) (gone : List Retired) (i : ℕ) → i < length (out_at step gone) → step_of_idle (out_at step gone) i ≡ step
step_anew step [] i lt = absurd (omega arith)
step_anew step (r ∷ gone) zero lt = refl
step_anew step (r ∷ gone) (suc i) lt = step_anew step gone i (omega arith)

size_anew : (step : ℕ) (gone : List Retired) → length (out_at step gone) ≡ length gone
size_anew step gone = length-map gone (retired_by step)

listed_anew : {X : Type 0} (idle : X → Bool) (blank : X) (step : ℕ) (xs : List X) (gone : List Retired) → AreListed idle blank xs gone → AreListed idle blank xs (out_at step gone)
listed_anew idle blank step xs gone h = record {
  there = λ i lt. omega (arith, place_anew step gone i, h.there i (omega (arith, lt, size_anew step gone)));
  idle_there = λ i lt. rw (place_anew step gone i) (h.idle_there i (omega (arith, lt, size_anew step gone)));
  once = λ i j lt within same. h.once i j lt (omega (arith, within, size_anew step gone)) (sym (place_anew step gone i) ∙ same ∙ place_anew step gone j);
  counted = h.counted ∙ sym (size_anew step gone);
}

pub retired_anew : (step : ℕ) (nodes : List NodeView) (trees : List Tree) (gone : RetiredPlaces) → AreRetired nodes trees gone → AreRetired nodes trees (all_out_at step gone)
retired_anew step nodes trees gone h = record {
  of_borders = listed_anew is_idle_border no_node step nodes gone.borders h.of_borders;
  of_interiors = listed_anew is_idle_interior no_node step nodes gone.interiors h.of_interiors;
  of_trees = listed_anew is_idle_tree no_tree step trees gone.trees h.of_trees;
}

-- and the lists rise up to that step
rises_anew : (step : ℕ) (gone : List Retired) → RisesUpTo step (out_at step gone)
rises_anew step gone = record {
  rises = λ i j lt within. omega (arith, step_anew step gone i (omega (arith, lt, within)), step_anew step gone j within);
  upto = λ i lt. omega (arith, step_anew step gone i lt);
}

pub upto_anew : (step : ℕ) (gone : RetiredPlaces) → AreOutUpTo step (all_out_at step gone)
upto_anew step gone = record { borders = rises_anew step gone.borders; interiors = rises_anew step gone.interiors; trees = rises_anew step gone.trees }

-- all are out from that step on
pub node_out_anew : (step : ℕ) (gone : RetiredPlaces) (k : ℕ) → IsNodeOutFrom step (all_out_at step gone) k
node_out_anew step gone k = record {
  border = λ i lt is. omega (arith, step_anew step gone.borders i lt);
  interior = λ i lt is. omega (arith, step_anew step gone.interiors i lt);
}
