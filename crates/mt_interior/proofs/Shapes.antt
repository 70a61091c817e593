-- Separators and children keep their shape through each edit: for the edits of `Interior`.
use Rattle.std.proofs.{Common.{◌≡◌, ℕ, ◌+◌, ◌<◌, ◌≤◌, List, length, take, drop, suc, length-append, arith}, lemmas.List.{length-take, length-drop, drop-drop}}
use Rattle.std.proofs.lemmas.List.Edits.{length-insert}
use Rattle.std.specs.List.{insert, remove}
use Rattle.mt_lists.{specs.Rising.IsRising, proofs.Rises.{rising_insert, rising_remove, rising_take, rising_drop}}
use Rattle.mt_interior.{specs.{Places.{IsPlace, IsNew}, Node.IsInterior}, proofs.PlaceLemmas.gap_of-new}

-- a new separator at its place keeps them rising
pub insert_rising : (xs : List ℕ) (place s : ℕ) → IsRising xs → IsNew xs s → IsPlace xs s place → IsRising (insert xs place s)
insert_rising xs place s rising missing parts = rising_insert xs place s rising parts.in_range (gap_of-new xs s place missing parts) parts.above_after

-- so do separators and children with one more child
pub interior_insert : (xs cs : List ℕ) (place s c : ℕ) → IsInterior xs cs → length xs < 15 → 0 < length cs → IsNew xs s → IsPlace xs s place → IsInterior (insert xs place s) (insert cs (place + 1) c)
interior_insert xs cs place s c interior room some missing parts =
    let more_separators = length-insert xs place s parts.in_range in
    let more_children = length-insert cs (place + 1) c (omega (arith, interior.between, parts.in_range)) in
    record {
      room = omega (arith, interior.between, more_children);
      between = omega (arith, interior.between, more_separators, more_children);
      rising = insert_rising xs place s interior.rising missing parts;
    }

-- what a removal makes shorter stood there
removed_there : (xs : List ℕ) (i : ℕ) → length (remove xs i) + 1 ≡ length xs → i < length xs
removed_there xs i shorter = omega (arith, length-append (take i xs) (drop (suc i) xs), length-take i xs, length-drop (suc i) xs, shorter)

-- and with one child less, whichever, and one separator less
pub interior_remove : (xs cs fewer children : List ℕ) (i j : ℕ) → IsInterior xs cs → fewer ≡ remove xs i → children ≡ remove cs j → length fewer + 1 ≡ length xs → length children + 1 ≡ length cs → IsInterior fewer children
interior_remove xs cs fewer children i j interior fewer_are children_are one_separator_less one_child_less = record {
  room = omega (arith, interior.room, one_child_less);
  between = omega (arith, interior.between, one_separator_less, one_child_less);
  rising = rw fewer_are (rising_remove xs i interior.rising (removed_there xs i (rw fewer_are at one_separator_less)));
}

-- a full node with one more child, which is one too many, and its parts
module _ (xs cs : List ℕ) (place s c : ℕ) (more_xs more_cs : List ℕ) (interior : IsInterior xs cs) (full : length xs ≡ 15) (missing : IsNew xs s) (parts : IsPlace xs s place) (xs_are : more_xs ≡ insert xs place s) (cs_are : more_cs ≡ insert cs (place + 1) c) where
  sixteen : length more_xs ≡ 16
  sixteen = rw xs_are (omega (arith, full, length-insert xs place s parts.in_range))

  seventeen : length more_cs ≡ 17
  seventeen = rw cs_are (omega (arith, full, interior.between, length-insert cs (place + 1) c (omega (arith, full, interior.between, parts.in_range))))

  rising : IsRising more_xs
  rising = rw xs_are (insert_rising xs place s interior.rising missing parts)

  -- the first n separators with n + 1 children keep the shape
  pub interior_front : (left children : List ℕ) (n m : ℕ) → left ≡ take n more_xs → children ≡ take m more_cs → m ≡ n + 1 → n ≤ 15 → IsInterior left children
  interior_front left children n m left_is children_are one_more short =
      let separators_kept = length-take n more_xs in
      let children_kept = length-take m more_cs in
      rw (left_is, children_are) record {
        room = omega (arith, children_kept);
        between = omega (arith, sixteen, seventeen, separators_kept, children_kept);
        rising = rising_take n more_xs rising;
      }

  -- and so do the others, when the first of their separators has gone away
  pub interior_back : (right children : List ℕ) (n m : ℕ) → right ≡ drop n more_xs → children ≡ drop m more_cs → m ≡ n + 1 → 0 < n → IsInterior (remove right 0) children
  interior_back right children n m right_is children_are one_more some =
      let separators_moved = length-drop (n + 1) more_xs in
      let children_moved = length-drop m more_cs in
      rw (right_is, children_are, drop-drop 1 n more_xs) record {
        room = omega (arith, seventeen, children_moved);
        between = omega (arith, sixteen, seventeen, separators_moved, children_moved);
        rising = rising_drop (n + 1) more_xs rising;
      }
