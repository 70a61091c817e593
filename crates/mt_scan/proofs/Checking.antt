-- What a scan keeps as it goes on behind a stretch of keys.
use Rattle.std.proofs.Common.{◌≡◌, ◌≢◌, ℕ, ◌+◌, ◌*◌, ◌^◌, ◌<◌, ◌≤◌, Bool, true, false, List, [], ◌∷◌, ◌++◌, length, take, Option, refl, sym, ap, subst, ◌∙◌, inl, inr, arith}
use Rattle.std.proofs.{Math.Seq.take-append_seam, lemmas.Bool.{cases_lt, cases_eq}, lemmas.List.{length-append, length-take}, Math.Nat.le-max_left}
use Rattle.std.specs.{Prelude.{if◌then◌else◌, max, min, Result, Ok, Err, OnOk}, Int.{w64, to_be_bytes}, Ordering.{nat_cmp, is_lt, ordering_then}}
use Rattle.std.specs.{declared.cmp.Ordering.Ordering, declared.cmp.Ordering.TheVariants.{Less, Equal}, Cmp.Lexicographic.slice_cmp}
use Rattle.mt_version.specs.Changes.{IsStable, SameButLock}
use Rattle.mt_slices.specs.{declared.mark.Mark.Mark, declared.mark.Mark.TheVariants.{Short, Long}, Keys.IsStoredKey, Marks.{IsMark, mark_rank}}
use Rattle.mt_slices.specs.{Slices.{slice_of, mark_of, suffix_of}, Fences.{significant, trimmed, least_more, least_from, least_through}}
use Rattle.mt_rows.specs.{Rows.Bytes, Stamps.Stamped}
use Rattle.mt_border.{specs.Contents.IsOfTree, proofs.ContentsKeys.is_mark_of}
use Rattle.mt_arena.{specs.{NodeView.NodeView, Arena.{ArenaView, IsArena}, Accesses.at}, proofs.{Elsewhere.layer_is, Down.{long_below, next_prefix}}}
use Rattle.mt_operation.specs.{declared.phase.Phase.TheVariants.{Hop, Done, Forward}, declared.walk.Walk.Walk, declared.scan.Scan.Scan, declared.scan.Stop.Stop}
use Rattle.mt_operation.specs.{declared.task.Task.Task, Operations.{ScanView, scan_of}}
use Rattle.mt_descent.{specs.{Seen.Stands, Pasts.Past, KeptWalks.{GoesThrough, IsKept}, WalkMoves.{walk_anew, after_change}}, proofs.Ways.same_stands}
use Rattle.mt_readings.proofs.{Readings.in_tree, Bytewise.{nat_less, nat_same}}
use Rattle.mt_scan.specs.{Snaps.prefix_in, Checks.{collects, kept_seen, at_fence, walk_to, GoesBehind, IsCheck}}
use Rattle.mt_scan.specs.{Goings.{HasBehind, Collects, IsStoredBehind, Keeps}, Hops.{IsAtHop, KnowsLink, LeadsNext, KnowsEnd, IsAtCheck, KeptHop, KeptScan}}
use Rattle.mt_slices.proofs.Least as least
use Rattle.mt_operation.specs.declared.scan.Stop.TheVariants as stops

-- what was collected, as it is shown
pub collected : (task : Task) (count : ℕ) (columns : List ℕ) (old new : Scan) (full : Bool) → Collects count columns old new full
    → scan_of task new ≡ kept_seen count columns (scan_of task old)
collected task count columns old new full h = λ i. record { fence = task.key; after = h.after i; collected = h.collected i; seen = h.seen i; stop = h.stop_is i }

-- the least key from a slice on has some bytes of its own
some_more : (prefix : Bytes) → 1 ≤ least_more prefix
some_more [] = omega arith
some_more (b ∷ prefix) = omega arith

least_longer : (prefix bytes : Bytes) → 1 ≤ length bytes → length prefix < length (prefix ++ trimmed (least_more prefix) bytes)
least_longer prefix bytes some =
    let left : ℕ = max (least_more prefix) (significant bytes) in
    let least = some_more prefix in
    let most = le-max_left (least_more prefix) (significant bytes) in
    let both = length-append prefix (take left bytes) in
    let own : length (take left bytes) ≡ min left (length bytes) = length-take left bytes in
    omega (arith, least, most, both, own, some)

-- a key from the least behind a link on, with no greater slice, goes on behind the link
module _ (prefix key : Bytes) (layer slice : ℕ) (of : IsOfTree prefix layer key) (size : length prefix ≡ 8 * layer) (fits : slice < 2 ^ 64)
    (from : slice_of key layer ≤ slice)
    (stored : IsStoredKey (least_through prefix slice)) (not : is_lt (slice_cmp nat_cmp key (least_through prefix slice)) ≡ false) where
  abbrev below : Bytes
  below = least_through prefix slice

  long : length below ≡ 8 * layer + 9
  long = omega (arith, length-append (prefix ++ to_be_bytes w64 slice) (0 ∷ []), length-append prefix (to_be_bytes w64 slice), size)

  of_below : IsOfTree prefix layer below
  of_below = record { stored = stored; reaches = omega (arith, long); begins = sym (least.through prefix layer slice size fits).0 }

  abbrev rest : Ordering
  rest = slice_cmp nat_cmp (suffix_of key layer) (suffix_of below layer)

  abbrev piece : Ordering
  piece = ordering_then (nat_cmp (slice_of key layer) slice) (nat_cmp (mark_rank (mark_of key layer)) 9)

  -- where the key's slice and mark stand before the link's, so does the key
  not_less : piece ≡ Less → ⊥
  not_less less =
      let l = least.through prefix layer slice size fits in
      let is : slice_cmp nat_cmp key below ≡ Less =
      in_tree prefix below false layer of_below key of
      ∙ (λ i. ordering_then (ordering_then (nat_cmp (slice_of key layer) (l.1 i)) (nat_cmp (mark_rank (mark_of key layer)) (mark_rank (l.2 i)))) rest)
      ∙ ap (λ (o : Ordering). ordering_then o rest) less in
      let both = sym (ap is_lt is) ∙ not in cc

  same_slice : slice ≡ slice_of key layer
  same_slice = elim (cases_lt (slice_of key layer) slice) [
    | inl lower ↦ absurd (not_less (ap (λ (o : Ordering). ordering_then o (nat_cmp (mark_rank (mark_of key layer)) 9)) (nat_less (slice_of key layer) slice lower)))
    | inr at_least ↦ omega (arith, from, at_least)
  ]

  is_long : mark_of key layer ≡ Long
  is_long = by (mark_of key layer) refl
    where
      by : (m : Mark) → mark_of key layer ≡ m → mark_of key layer ≡ Long
      by Long e = e
      by (Short n) e =
          let few : n ≤ 8 = subst IsMark e (is_mark_of key layer) in
          let lower : mark_rank (mark_of key layer) < 9 = omega (arith, few, ap mark_rank e) in
          let same : nat_cmp (slice_of key layer) slice ≡ Equal = ap (λ m. nat_cmp (slice_of key layer) m) same_slice ∙ nat_same (slice_of key layer) in
          absurd (not_less (λ i. ordering_then (same i) (nat_less (mark_rank (mark_of key layer)) 9 lower i)))

  pub goes_below : 8 * (layer + 1) < length key
  goes_below = long_below key layer is_long

  pub begins_below : prefix ++ to_be_bytes w64 slice ≡ take (8 * (layer + 1)) key
  begins_below = next_prefix prefix key layer slice of.stored.are_bytes (omega (arith, goes_below)) of.begins same_slice

module _ (v : ArenaView) (key : Bytes) (w : Walk) (stop : Stop) (arena : IsArena v.nodes v.trees) (h : IsAtCheck v key w stop) where
  abbrev prefix : Bytes
  prefix = prefix_in v w

  abbrev n : NodeView
  n = at v w.place.node

  size : length prefix ≡ 8 * w.layer
  size =
      let whole = (arena.forest.each w.place.tree h.at_border.through.there).whole in
      let is = layer_is prefix key w.layer h.at_border.through.of_tree in
      sym whole ∙ ap (λ m. 8 * m) is

  pub stands : SameButLock n.version w.place.seen → Stands n w.place.seen
  stands same = same_stands n w.place.seen h.at_border.covers.remembered.undeleted same

  pub has_behind : Stands n w.place.seen → HasBehind prefix stop
  has_behind stood = by stop h.end
    where
      by : (end : Stop) → KnowsEnd v key w end → HasBehind prefix end
      by (stops.Link slice tree) k = k.short
      by (stops.Next slice) k = let l = k stood in (l.whole, l.short)
      by stops.Tree k = let reaches = h.at_border.through.of_tree.reaches in let within = h.at_border.through.of_tree.stored.within in
          omega (arith, size, reaches, within)
      by stops.Tenant k = tt

  -- behind a link: through its tree, at the least key there or at one that the scan had already
  through_link : (slice tree : ℕ) → KnowsLink v key w slice tree → Stands n w.place.seen → IsStoredKey (least_through prefix slice)
      → (s : ScanView) → s.fence ≡ key
      → (b : Bool) → is_lt (slice_cmp nat_cmp s.fence (least_through prefix slice)) ≡ b
      → GoesThrough v tree (w.layer + 1) (if b then at_fence s (least_through prefix slice) else s).fence
  through_link slice tree k stood stored s fence true is =
      let l = k.leads stood in
      let below : Bytes = least_through prefix slice in
      let more : Bytes = prefix ++ to_be_bytes w64 slice in
      let eight : length more ≡ 8 * (w.layer + 1) = omega (arith, length-append prefix (to_be_bytes w64 slice), size) in
      let long : length below ≡ 8 * (w.layer + 1) + 1 = omega (arith, length-append more (0 ∷ []), eight) in
      record {
        there = l.there;
        unmade = l.unmade;
        of_tree = record {
          stored = stored;
          reaches = omega (arith, long);
          begins = l.prefix_is ∙ sym (take-append_seam more (0 ∷ [])) ∙ ap (λ m. take m below) eight;
        };
        begun = omega (arith, long);
      }
  through_link slice tree k stood stored s fence false is =
      let l = k.leads stood in
      let of = h.at_border.through.of_tree in
      let not : is_lt (slice_cmp nat_cmp key (least_through prefix slice)) ≡ false =
      ap (λ (x : Bytes). is_lt (slice_cmp nat_cmp x (least_through prefix slice))) (sym fence) ∙ is in
      let goes = goes_below prefix key w.layer slice of size k.fits k.from stored not in
      subst (GoesThrough v tree (w.layer + 1)) (sym fence)
      record {
        there = l.there;
        unmade = l.unmade;
        of_tree = record {
          stored = of.stored;
          reaches = omega (arith, goes);
          begins = l.prefix_is ∙ begins_below prefix key w.layer slice of size k.fits k.from stored not;
        };
        begun = goes;
      }

  -- behind a node: at the slice where the next one begins
  at_hop : (slice : ℕ) → (l : LeadsNext v w slice) → IsStoredKey (least_from prefix slice) → IsAtHop v w.place.tree w.layer (least_from prefix slice) l.node
  at_hop slice l stored =
      let own = least.from prefix w.layer slice size l.fits in
      let through = h.at_border.through in
      let more : 8 * w.layer < length (least_from prefix slice) = let longer = least_longer prefix (to_be_bytes w64 slice) (omega arith) in omega (arith, longer, size) in
      record {
        through = record {
          there = through.there;
          unmade = through.unmade;
          of_tree = record { stored = stored; reaches = omega (arith, more); begins = sym own.0 };
          begun = more;
        };
        next = record { there = l.begins.there; tree_is = l.begins.tree_is; border = l.begins.border; begins = l.begins.begins ∙ sym own.1 };
      }

  -- what is kept at the next phase
  pub kept_behind : (past : Past) (row : Option Stamped) (s is : ScanView) (x : Walk) → s.fence ≡ key → Stands n w.place.seen → GoesBehind prefix stop s is w x
      → IsStoredBehind prefix stop is
      → x.phase ≢ Done → KeptScan x.phase v past is.fence row x stop
  kept_behind past row s is x fence stood goes stored going = by stop h.end goes stored
    where
      hop : (end : Stop) → x ≡ walk_to Hop w → KeptHop v is.fence w end → KeptScan x.phase v past is.fence row x end
      hop (stops.Link slice tree) e k = subst (λ (y : Walk). KeptScan y.phase v past is.fence row y (stops.Link slice tree)) (sym e) k
      hop (stops.Next slice) e k = subst (λ (y : Walk). KeptScan y.phase v past is.fence row y (stops.Next slice)) (sym e) k
      hop stops.Tree e k = subst (λ (y : Walk). KeptScan y.phase v past is.fence row y stops.Tree) (sym e) k
      hop stops.Tenant e k = subst (λ (y : Walk). KeptScan y.phase v past is.fence row y stops.Tenant) (sym e) k

      over : x ≡ walk_to Done w → ⊥
      over e = going (ap (λ (y : Walk). y.phase) e)

      by : (end : Stop) → KnowsEnd v key w end → GoesBehind prefix end s is w x → IsStoredBehind prefix end is → KeptScan x.phase v past is.fence row x end
      by (stops.Link slice tree) k g st =
          hop (stops.Link slice tree) g.1 (subst (λ (y : ScanView). GoesThrough v tree (w.layer + 1) y.fence) (sym g.0)
          (through_link slice tree k stood st.1 s fence (is_lt (slice_cmp nat_cmp s.fence (least_through prefix slice))) refl))
      by (stops.Next slice) k g st =
          let l = k stood in
          let at : is.fence ≡ least_from prefix slice = ap (λ (y : ScanView). y.fence) g.0 in
          hop (stops.Next slice) g.1 (l.node, l.is, subst (λ (f : Bytes). IsAtHop v w.place.tree w.layer f l.node) (sym at) (at_hop slice l (subst IsStoredKey at st)))
      by stops.Tree k (inl g) st = hop stops.Tree g.1 st
      by stops.Tree k (inr g) st = absurd (over g.2)
      by stops.Tenant k g st = absurd (over g.1)

  -- and where the node has changed
  pub kept_moved : (past : Past) (row : Option Stamped) → IsKept v past key row (after_change w n.version n.next) → (end : Stop)
      → KeptScan (after_change w n.version n.next).phase v past key row (after_change w n.version n.next) end
  kept_moved past row kept end = by n.version.deleted kept
    where
      by : (b : Bool) → IsKept v past key row (if b then walk_anew w else record w { place = record w.place { seen = n.version }; next = n.next; phase = Forward })
          → KeptScan (if b then walk_anew w else record w { place = record w.place { seen = n.version }; next = n.next; phase = Forward }).phase v past key row
          (if b then walk_anew w else record w { place = record w.place { seen = n.version }; next = n.next; phase = Forward }) end
      by true k = k
      by false k = k

-- a walk that has kept what it has seen
module _ (prefix : Bytes) (task : Task) (count : ℕ) (columns : List ℕ) (old new : Scan) (full : Bool) (h : Collects count columns old new full) (w : Walk) where
  sizes : length (collects count columns (scan_of task old)) ≡ length new.collected.items
  sizes = ap (λ (xs : List (Bytes × Stamped)). length xs) (sym h.collected)

  pub keeps_all : full ≡ true → Keeps prefix count columns w (walk_to Done w) (scan_of task old) (scan_of task new)
  keeps_all is =
      let as_many : length new.collected.items ≡ count = h.is_full.0 is in
      record {
        full = λ e. (collected task count columns old new full h, refl);
        goes = λ differ. absurd (differ (sizes ∙ as_many));
        stored = λ differ. absurd (differ (sizes ∙ as_many));
      }

  pub keeps_some : full ≡ false → (is : ScanView) (x : Walk) → GoesBehind prefix new.stop (scan_of task new) is w x → IsStoredBehind prefix new.stop is
      → Keeps prefix count columns w x (scan_of task old) is
  keeps_some not is x goes stored = record {
    full = λ e. absurd (let some = h.is_full.1 (sym sizes ∙ e) in let both = sym not ∙ some in cc);
    goes = λ differ. subst (λ (s : ScanView). GoesBehind prefix s.stop s is w x) (collected task count columns old new full h) goes;
    stored = λ differ. subst (λ (end : Stop). IsStoredBehind prefix end is) h.stop_is stored;
  }

-- two facts of an `Ok`
pub on_both : {T E P Q R : Type 0} (r : Result T E) → (P → Q → R) → OnOk r P → OnOk r Q → OnOk r R
on_both (Ok x) f p q = f p q
on_both (Err e) f p q = tt

-- a step that kept what was seen
pub checked : (n : NodeView) (own whole : Bytes) (count : ℕ) (columns : List ℕ) (w x : Walk) (was is : ScanView) → IsStable n.version
    → SameButLock n.version w.place.seen → own ≡ whole
    → Keeps own count columns w x was is → IsCheck n whole count columns w x was is
checked n own whole count columns w x was is stable same prefix_is k = record {
  stable = stable;
  full = λ s. k.full;
  goes = λ s differ. subst (λ (p : Bytes). GoesBehind p was.stop (kept_seen count columns was) is w x) prefix_is (k.goes differ);
  changed = λ not. absurd (not same);
}

-- and what is kept after it
module _ (v : ArenaView) (w : Walk) (arena : IsArena v.nodes v.trees) (was is : ScanView) (h : IsAtCheck v was.fence w was.stop)
    (same : SameButLock (at v w.place.node).version w.place.seen) where
  -- the stretch's end is remembered
  stays : (s : ScanView) (fence : Bytes) (b : Bool) → (if b then at_fence s fence else s).stop ≡ s.stop
  stays s fence true = refl
  stays s fence false = refl

  same_end : (whole : Bytes) (count : ℕ) (columns : List ℕ) (x : Walk) (end : Stop) → was.stop ≡ end → GoesBehind whole end (kept_seen count columns was) is w x
      → is.stop ≡ was.stop
  same_end whole count columns x (stops.Link slice tree) e g =
      let s : ScanView = kept_seen count columns was in
      ap (λ (s : ScanView). s.stop) g.0 ∙ stays s (least_through whole slice) (is_lt (slice_cmp nat_cmp s.fence (least_through whole slice)))
  same_end whole count columns x (stops.Next slice) e g = ap (λ (s : ScanView). s.stop) g.0
  same_end whole count columns x stops.Tree e (inl g) = ap (λ (s : ScanView). s.stop) g.0.at
  same_end whole count columns x stops.Tree e (inr g) = ap (λ (s : ScanView). s.stop) g.1
  same_end whole count columns x stops.Tenant e g = ap (λ (s : ScanView). s.stop) g.0

  pub kept_kept : (own : Bytes) → own ≡ prefix_in v w → (count : ℕ) (columns : List ℕ) (x : Walk) → Keeps own count columns w x was is
      → (past : Past) (row : Option Stamped)
      → x.phase ≢ Done → KeptScan x.phase v past is.fence row x is.stop
  kept_kept own own_is count columns x k past row going = elim (cases_eq (length (collects count columns was)) count) [
    | inl full ↦ absurd (going (ap (λ (y : Walk). y.phase) (k.full full).1))
    | inr more ↦
        let goes : GoesBehind (prefix_in v w) was.stop (kept_seen count columns was) is w x =
        subst (λ (p : Bytes). GoesBehind p was.stop (kept_seen count columns was) is w x) own_is (k.goes more) in
        let stored : IsStoredBehind (prefix_in v w) was.stop is = subst (λ (p : Bytes). IsStoredBehind p was.stop is) own_is (k.stored more) in
        subst (λ (end : Stop). KeptScan x.phase v past is.fence row x end) (sym (same_end (prefix_in v w) count columns x was.stop refl goes))
        (kept_behind v was.fence w was.stop arena h past row (kept_seen count columns was) is x refl (stands v was.fence w was.stop arena h same) goes stored going)
  ]
