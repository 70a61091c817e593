-- Which changes of a node that an operation holds its guarantee allows: for the clause `step` of the calls that change several nodes.
use Rattle.mt_border.proofs.KeptEntries.{entries_none}
use Rattle.mt_border.specs.Slots.{Slotted}
use Rattle.std.proofs.Common.{◌≡◌, ◌≢◌, ℕ, suc, ◌+◌, ◌<◌, ◌≤◌, List, [], ◌∷◌, length, take, drop, Bool, Some, true, false, refl, sym, ap, ◌∙◌, arith, length-append}
use Rattle.std.proofs.{lemmas.Option.same_Some, lemmas.List.Edits.length-remove}
use Rattle.std.specs.List.{insert, remove}
use Rattle.mt_version.specs.Changes.{Ages}
use Rattle.mt_border.specs.declared.entry.Entry.{Entry}
use Rattle.mt_interior.specs.{Places.place_of, Fences.end_of}
use Rattle.mt_arena.specs.{NodeView.NodeView, Guarantee.{Changes, HasSameKeys}, Splits.{left_half, right_half, with_child, exact, inner_left}}
use Rattle.mt_arena.specs.{Unlinks.{joined, without_child}, Growth.{left_below, right_below}}
use Rattle.mt_arena.proofs.Ranges.{not_empty}
use Rattle.mt_version.proofs.CallerLemmas as versions

-- a list with an element put in is not empty
insert_some : (xs : List ℕ) (i x : ℕ) → insert xs i x ≢ []
insert_some xs i x e = absurd (omega (arith, ap length e, length-append (take i xs) (x ∷ drop i xs)))

-- nor is what is taken of one that is not empty
take_some : (xs : List ℕ) (k : ℕ) → xs ≢ [] → take (suc k) xs ≢ []
take_some [] k some e = some refl
take_some (x ∷ xs) k some e = absurd (cc)

-- a node that the operation holds before and after: its range narrows, and its keys and children change, only under a mark
pub changes_held : (op : ℕ) (n m : NodeView) → n.holder ≡ Some op → m.holder ≡ Some op → m.tree ≡ n.tree → m.level ≡ n.level → m.low ≡ n.low
    → Ages n.version m.version → (n.children ≢ [] → m.children ≢ [])
    → (n.version.splitting ≡ false → m.version.deleted ≡ false → end_of n.high ≤ end_of m.high)
    → (n.version.splitting ≡ false → n.version.inserting ≡ false → HasSameKeys n m)
    → Changes op n m
changes_held op n m before after tree level low ages peopled widens keys = record {
  tree = tree;
  level = level;
  low = low;
  ages = ages;
  peopled = peopled;
  widens = λ _ whole live. widens whole live;
  keys = λ _ _ whole still. keys whole still;
  held = λ q other e. absurd (other (same_Some _ _ (sym e ∙ before)));
  taken = λ q other e. absurd (other (same_Some _ _ (sym e ∙ after)));
}

-- both at once are none
pub marks : (b : Bool) → b ≡ true → b ≡ false → ⊥
marks b is isnt = absurd (cc)

-- one that is marked as split
pub changes_split : (op : ℕ) (n m : NodeView) → n.holder ≡ Some op → m.holder ≡ Some op → m.tree ≡ n.tree → m.level ≡ n.level → m.low ≡ n.low
    → Ages n.version m.version → (n.children ≢ [] → m.children ≢ [])
    → n.version.splitting ≡ true → Changes op n m
changes_split op n m before after tree level low ages peopled marked =
    changes_held op n m before after tree level low ages peopled (λ whole. absurd (marks n.version.splitting marked whole)) (λ whole. absurd (marks n.version.splitting marked whole))

-- the halves of a border node
pub changes_left_half : (op : ℕ) (x : NodeView) (kept : List Entry) (cells : Slotted) (low right : ℕ) → x.holder ≡ Some op → x.version.splitting ≡ true
    → Changes op x (left_half x kept cells low right)
changes_left_half op x kept cells low right held marked =
    changes_split op x (left_half x kept cells low right) held held refl refl refl (versions.ages_refl x.version) (λ some. some) marked

-- a held right half may be filled
pub changes_right_half : (op : ℕ) (x r : NodeView) (moved : List Entry) (cells : Slotted) (left : ℕ) → r.holder ≡ Some op → r.version.splitting ≡ true
    → Changes op r (right_half x r moved cells left)
changes_right_half op x r moved cells left held marked =
    changes_split op r (right_half x r moved cells left) held held refl refl refl (versions.ages_refl r.version) (λ some. some) marked

-- the left half whose range in its parent ends at its fence
pub changes_exact : (op : ℕ) (n : NodeView) → n.holder ≡ Some op → Changes op n (exact n)
changes_exact op n held =
    changes_held op n (exact n) held held refl refl refl (versions.ages_refl n.version) (λ some. some) (λ whole live. omega arith) (λ whole still. record { slots = entries_none _ _; separators = refl; children = refl })

-- the halves of a root below the new one: the left one is no root any more
pub changes_left_below : (op : ℕ) (n : NodeView) (top : ℕ) → n.holder ≡ Some op → n.version.splitting ≡ true → Changes op n (left_below n top)
changes_left_below op n top held marked = changes_split op n (left_below n top) held held refl refl refl (record {
  inserts = omega arith;
  splits = omega arith;
  range = omega arith;
  insertion = λ same. omega arith;
  deleted = λ e. e;
  border = refl;
  root = λ same whole. absurd (marks n.version.splitting marked whole);
}) (λ some. some) marked

-- and may come below a new root
pub changes_right_below : (op : ℕ) (n : NodeView) (top : ℕ) → n.holder ≡ Some op → n.version.splitting ≡ true → Changes op n (right_below n top)
changes_right_below op n top held marked = changes_split op n (right_below n top) held held refl refl refl (versions.ages_refl n.version) (λ some. some) marked

-- a parent that is marked for it gets a child
pub changes_with_child : (op : ℕ) (p : NodeView) (separator q : ℕ) → p.holder ≡ Some op → p.version.inserting ≡ true → Changes op p (with_child p separator q)
changes_with_child op p separator q held marked =
    changes_held op p (with_child p separator q) held held refl refl refl (versions.ages_refl p.version) (λ some. insert_some p.children (place_of p.separators separator + 1) q)
    (λ whole live. omega arith) (λ whole still. absurd (marks p.version.inserting marked still))

-- or loses one
pub changes_without_child : (op : ℕ) (p : NodeView) (a : ℕ) → p.holder ≡ Some op → p.version.inserting ≡ true → 0 < a → a < length p.children
    → Changes op p (without_child p a)
changes_without_child op p a held marked not_first within = changes_held op p (without_child p a) held held refl refl refl (versions.ages_refl p.version)
    (λ some. not_empty (remove p.children a) 0 (omega (arith, length-remove p.children a within))) (λ whole live. omega arith) (λ whole still. absurd (marks p.version.inserting marked still))

-- the left half of an interior node that is marked as split
pub changes_inner_left : (op : ℕ) (p : NodeView) (separator q : ℕ) → p.holder ≡ Some op → p.version.splitting ≡ true
    → Changes op p (inner_left (with_child p separator q))
changes_inner_left op p separator q held marked =
    changes_split op p (inner_left (with_child p separator q)) held held refl refl refl (versions.ages_refl p.version)
    (λ some. take_some (with_child p separator q).children 8 (insert_some p.children (place_of p.separators separator + 1) q)) marked

-- the left neighbour of a removed node gets its range
pub changes_joined : (op : ℕ) (n x : NodeView) → n.holder ≡ Some op → end_of n.high ≤ end_of x.high → Changes op n (joined n x)
changes_joined op n x held wider =
    changes_held op n (joined n x) held held refl refl refl (versions.ages_refl n.version) (λ some. some) (λ whole live. wider) (λ whole still. record { slots = entries_none _ _; separators = refl; children = refl })
