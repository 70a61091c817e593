-- Nodes keep their ranges, and right halves that wait for theirs keep their left halves, as one node changes or is added: for the
-- invariant of every call.
use Rattle.mt_border.specs.Slots.{Slotted}
use Rattle.std.proofs.Common.{◌≡◌, ◌≢◌, true, false, ℕ, ◌<◌, ◌≤◌, List, [], ◌∷◌, ◌++◌, length, Option, Some, None, set, refl, sym, ◌∙◌, arith}
use Rattle.mt_version.specs.Parts.{Parts}
use Rattle.mt_border.specs.declared.entry.Entry.{Entry}
use Rattle.mt_interior.specs.Fences.{end_of}
use Rattle.mt_arena.specs.{NodeView.{NodeView, node_at}, Nodes.{AreNodes, IsNode, HasRange}, Ranges.{IsRanged, AreRanged, AreTied, IsLeftHalf, Waits}}
use Rattle.mt_arena.specs.{Settled.IsSettled, Edits.{turned, locked, unlocked, retired, pointed, fresh_root}}
use Rattle.mt_arena.proofs.Pairs.{nodes_set, nodes_push, pairs_set, pairs_push}

-- a node with a range waits for none
pub no_wait : (n : NodeView) → HasRange n → Waits n → ⊥
no_wait n range waits = omega (arith, range, waits.1)

-- one that waits is held
pub waits_held : (count : ℕ) (n : NodeView) → IsNode count n → IsRanged n → Waits n → n.holder ≢ None
waits_held count n h ranged waits = h.lock.splitting (by n.version.splitting refl)
  where
    by : (b : _) → n.version.splitting ≡ b → n.version.splitting ≡ true
    by true is = is
    by false is = absurd (no_wait n (ranged.unmarked is waits.0) waits)

-- a node takes another one's place beside those that name it and that it names
pub record Stays (x y : NodeView) : Type 0 where
  pub live : x.version.deleted ≡ false → y.version.deleted ≡ false
  pub was : y.version.deleted ≡ false → x.version.deleted ≡ false
  pub range : HasRange x → HasRange y
  pub marked : x.version.splitting ≡ true → y.version.splitting ≡ true
  pub tree : y.tree ≡ x.tree
  pub level : y.level ≡ x.level
  pub holder : y.holder ≡ x.holder

-- one that keeps its deleted mark, its splitting mark, its tree, its level and its holder
pub stays : (x y : NodeView) → y.version.deleted ≡ x.version.deleted → y.version.splitting ≡ x.version.splitting → (HasRange x → HasRange y)
    → y.tree ≡ x.tree → y.level ≡ x.level → y.holder ≡ x.holder → Stays x y
stays x y deleted splitting range tree level holder = record { live = λ live. deleted ∙ live; was = λ live. sym deleted ∙ live; range = range; marked = λ marked. splitting ∙ marked; tree = tree; level = level; holder = holder }

left_stays : (x y n : NodeView) → Stays x y → IsLeftHalf x n → IsLeftHalf y n
left_stays x y n s l = record { live = s.live l.live; range = s.range l.range; marked = s.marked l.marked; tree = s.tree ∙ l.tree; level = s.level ∙ l.level; holder = s.holder ∙ l.holder }

-- the other node as the one that is named, and as the one that names
pub tied_to : (k : ℕ) (n : NodeView) (j : ℕ) (x y : NodeView) → Stays x y → AreTied k n j x → AreTied k n j y
tied_to k n j x y s h = record { next = λ live e. s.range (h.next live e); left = λ e waits. left_stays x y n s (h.left e waits) }

-- what ties a node to those that it names stays where the node changes little
pub tied_from : (k : ℕ) (x y : NodeView) (j : ℕ) (m : NodeView) → Stays x y → y.next ≡ x.next → (Waits y → Waits x × (y.previous ≡ x.previous))
    → AreTied k x j m → AreTied k y j m
tied_from k x y j m s next was h = record {
  next = λ live e. h.next (s.was live) (sym next ∙ e);
  left = λ e waits.
      let old = was waits in
      let l = h.left (sym old.1 ∙ e) old.0 in
      record { live = l.live; range = l.range; marked = l.marked; tree = l.tree ∙ sym s.tree; level = l.level ∙ sym s.level; holder = l.holder ∙ sym s.holder };
}

-- a node with a range is tied to its next one alone
pub ranged_from : (k : ℕ) (y : NodeView) (j : ℕ) (m : NodeView) → HasRange y → (y.version.deleted ≡ false → y.next ≡ Some j → HasRange m) → AreTied k y j m
ranged_from k y j m range next = record { next = next; left = λ e waits. absurd (no_wait y range waits) }

-- a node changes, and keeps its place beside the others
pub ranged_set : (xs : List NodeView) (i : ℕ) (y : NodeView) → i < length xs → AreRanged xs → IsRanged y → Stays (node_at xs i) y
    → y.next ≡ (node_at xs i).next → (Waits y → Waits (node_at xs i) × (y.previous ≡ (node_at xs i).previous))
    → AreRanged (set xs i y)
ranged_set xs i y within ranged one s next was =
    let x = node_at xs i in
    record {
      each = nodes_set IsRanged xs i y within ranged.each one;
      ties = pairs_set AreTied xs i y within ranged.ties
          (tied_from i x y i y s next was (tied_to i x i x y s (ranged.ties i i within within)))
          (λ j lt _. tied_from i x y j (node_at xs j) s next was (ranged.ties i j within lt))
          (λ j lt _. tied_to j (node_at xs j) i x y s (ranged.ties j i lt within));
    }

-- other slots and marks
pub ranged_marked : (xs : List NodeView) (i : ℕ) (slots : List Entry) (cells : Slotted) (version : Parts) → i < length xs → AreRanged xs
    → version.deleted ≡ (node_at xs i).version.deleted → ((node_at xs i).version.splitting ≡ true → version.splitting ≡ true)
    → (version.splitting ≡ false → (node_at xs i).version.splitting ≡ false) → AreRanged (set xs i (turned (node_at xs i) slots cells version (node_at xs i).holder))
ranged_marked xs i slots cells version within ranged same kept marked =
    let x = node_at xs i in
    let h = ranged.each i within in
    ranged_set xs i (turned x slots cells version x.holder) within ranged record {
      next = h.next;
      parent = h.parent;
      unmarked = λ whole live. h.unmarked (marked whole) (sym same ∙ live);
      interior = λ above live. h.interior above (sym same ∙ live);
      named = λ waits. h.named (sym same ∙ waits.0, waits.1);
      fits = h.fits;
    } record { live = λ live. same ∙ live; was = λ live. sym same ∙ live; range = λ range. range; marked = kept; tree = refl; level = refl; holder = refl } refl (λ waits. ((sym same ∙ waits.0, waits.1), refl))

-- a lock is taken: nobody waits at a node that nobody holds
pub ranged_locked : (xs : List NodeView) (i op : ℕ) → i < length xs → AreNodes xs → AreRanged xs → (node_at xs i).holder ≡ None
    → AreRanged (set xs i (locked (node_at xs i) op))
ranged_locked xs i op within nodes ranged free =
    let x = node_at xs i in
    let y = locked x op in
    let h = ranged.each i within in
    let range : Waits x → ⊥ = λ waits. waits_held (length xs) x (nodes.each i within) h waits free in
    let to : (k : ℕ) → k < length xs → AreTied k (node_at xs k) i y = λ k lk. record {
      next = (ranged.ties k i lk within).next;
      left =
          λ e waits. absurd (waits_held (length xs) (node_at xs k) (nodes.each k lk) (ranged.each k lk) waits (sym ((ranged.ties k i lk within).left e waits).holder ∙ free));
    } in
    record {
      each =
          nodes_set IsRanged xs i y within ranged.each record { next = h.next; parent = h.parent; unmarked = h.unmarked; interior = h.interior; named = h.named; fits = h.fits };
      ties = pairs_set AreTied xs i y within ranged.ties
          record { next = (to i within).next; left = λ e waits. absurd (range waits) }
          (λ j lt _. record { next = (ranged.ties i j within lt).next; left = λ e waits. absurd (range waits) })
          (λ j lt _. to j lt);
    }

-- a lock is given back: nothing lags behind the node, so nobody waits at it
pub ranged_unlocked : (xs : List NodeView) (i : ℕ) → i < length xs → AreRanged xs → IsSettled xs i (node_at xs i)
    → ((node_at xs i).version.deleted ≡ false → HasRange (node_at xs i)) → AreRanged (set xs i (unlocked (node_at xs i)))
ranged_unlocked xs i within ranged settled range =
    let x = node_at xs i in
    let y = unlocked x in
    let h = ranged.each i within in
    let none : Waits x → ⊥ = λ waits. no_wait x (range waits.0) waits in
    let to : (k : ℕ) → k < length xs → AreTied k (node_at xs k) i y = λ k lk. record {
      next = (ranged.ties k i lk within).next;
      left = λ e waits. absurd (no_wait (node_at xs k) ((ranged.ties i k within lk).next (settled.previous_live k lk e waits.0) (settled.previous k lk e waits.0)) waits);
    } in
    record {
      each =
          nodes_set IsRanged xs i y within ranged.each record { next = h.next; parent = h.parent; unmarked = λ whole live. range live; interior = h.interior; named = h.named; fits = h.fits };
      ties = pairs_set AreTied xs i y within ranged.ties
          record { next = (to i within).next; left = λ e waits. absurd (none waits) }
          (λ j lt _. record { next = (ranged.ties i j within lt).next; left = λ e waits. absurd (none waits) })
          (λ j lt _. to j lt);
    }

-- a node is taken out at which nobody waits
pub ranged_retired : (xs : List NodeView) (i : ℕ) → i < length xs → AreRanged xs
    → ((k : ℕ) → k < length xs → (node_at xs k).previous ≡ Some i → Waits (node_at xs k) → ⊥) → AreRanged (set xs i (retired (node_at xs i)))
ranged_retired xs i within ranged unawaited =
    let x = node_at xs i in
    let y = retired x in
    let h = ranged.each i within in
    record {
      each =
          nodes_set IsRanged xs i y within ranged.each record { next = h.next; parent = h.parent; unmarked = λ whole live. absurd (cc); interior = λ above live. absurd (cc); named = λ waits. absurd (let dead = waits.0 in cc); fits = h.fits };
      ties = pairs_set AreTied xs i y within ranged.ties
          record { next = λ live. absurd (cc); left = λ e waits. absurd (let dead = waits.0 in cc) }
          (λ j lt _. record { next = λ live. absurd (cc); left = λ e waits. absurd (let dead = waits.0 in cc) })
          (λ j lt _. record { next = (ranged.ties j i lt within).next; left = λ e waits. absurd (unawaited j lt e waits) });
    }

-- another node before it and another parent: only a node with a range comes to have a parent, and one that waits keeps its left half
pub ranged_pointed : (xs : List NodeView) (i : ℕ) (previous parent : Option ℕ) → i < length xs → AreRanged xs
    → (parent ≢ None → HasRange (node_at xs i)) → (Waits (node_at xs i) → previous ≡ (node_at xs i).previous)
    → AreRanged (set xs i (pointed (node_at xs i) previous parent))
ranged_pointed xs i previous parent within ranged range tied =
    let x = node_at xs i in
    let h = ranged.each i within in
    ranged_set xs i (pointed x previous parent) within ranged
    record { next = h.next; parent = range; unmarked = h.unmarked; interior = h.interior; named = λ waits none. h.named waits (sym (tied waits) ∙ none); fits = h.fits }
    record { live = λ live. live; was = λ live. live; range = λ range. range; marked = λ marked. marked; tree = refl; level = refl; holder = refl } refl (λ waits. (waits, tied waits))

-- the node does not name number c as its next one or as the one before
abbrev pub IsBeside : ℕ → NodeView → Type 0
IsBeside c n = (n.next ≢ Some c) × (n.previous ≢ Some c)

-- none names a number behind the last one
pub all_beside : (xs : List NodeView) → AreNodes xs → (j : ℕ) → j < length xs → IsBeside (length xs) (node_at xs j)
all_beside xs nodes j lt = (λ e. omega (arith, (nodes.each j lt).names.next (length xs) e), λ e. omega (arith, (nodes.each j lt).names.previous (length xs) e))

-- one node more, which no other one names
pub ranged_push : (xs : List NodeView) (y : NodeView) → ((j : ℕ) → j < length xs → IsBeside (length xs) (node_at xs j)) → AreRanged xs → IsRanged y
    → y.next ≡ None
    → (y.previous ≡ Some (length xs) → Waits y → IsLeftHalf y y)
    → ((j : ℕ) → j < length xs → y.previous ≡ Some j → Waits y → IsLeftHalf (node_at xs j) y) → AreRanged (xs ++ y ∷ [])
ranged_push xs y beside ranged one none self left = record {
  each = nodes_push IsRanged xs y ranged.each one;
  ties = pairs_push AreTied xs y ranged.ties
      record { next = λ _ e. absurd (let no = none in cc); left = self }
      (λ j lt. record { next = λ _ e. absurd (let no = none in cc); left = left j lt })
      (λ j lt. record { next = λ _ e. absurd ((beside j lt).0 e); left = λ e. absurd ((beside j lt).1 e) });
}

-- what holds of a node with a range
pub with_range : (y : NodeView) → HasRange y → end_of y.high ≤ 18446744073709551616 → IsRanged y
with_range y range fits = record { next = λ some. range; parent = λ some. range; unmarked = λ whole live. range; interior = λ above live. range; named = λ waits. absurd (no_wait y range waits); fits = λ _. fits }

-- one with a range
pub ranged_more : (xs : List NodeView) (y : NodeView) → ((j : ℕ) → j < length xs → IsBeside (length xs) (node_at xs j)) → AreRanged xs → HasRange y
    → end_of y.high ≤ 18446744073709551616 → y.next ≡ None → AreRanged (xs ++ y ∷ [])
ranged_more xs y beside ranged range fits none =
    ranged_push xs y beside ranged (with_range y range fits) none (λ _ waits. absurd (no_wait y range waits)) (λ j lt _ waits. absurd (no_wait y range waits))

-- and the root of a new tree
pub ranged_root : (xs : List NodeView) (tree : ℕ) → AreNodes xs → AreRanged xs → AreRanged (xs ++ fresh_root tree ∷ [])
ranged_root xs tree nodes ranged = ranged_more xs (fresh_root tree) (all_beside xs nodes) ranged (omega arith) (omega arith) refl
