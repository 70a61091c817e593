-- What Snap reads of its border node, and what is kept of the end of that stretch.
use Rattle.std.proofs.Common.{◌≡◌, ◌≢◌, ℕ, zero, suc, ◌*◌, ◌^◌, ◌<◌, ◌≤◌, Bool, true, false, List, [], ◌∷◌, ◌++◌, length, take, drop, get_or, Option, Some, None, refl, sym, ap, subst, ◌∙◌, inl, inr, arith}
use Rattle.std.proofs.{lemmas.Bool.{cases_lt, cases_eq}, lemmas.Bool.Decides.nat_tests}
use Rattle.std.proofs.{lemmas.List.{get_or_default, length-take-le, take-append-drop, nil_from_length}, lemmas.Option.same_Some}
use Rattle.std.specs.{Prelude.{if◌then◌else◌, nat_le}, Int.{w64, to_be_bytes}, List.{All, Contains}, Ordering.{nat_cmp, ordering_then}}
use Rattle.std.specs.declared.cmp.Ordering.{Ordering}
use Rattle.mt_slices.specs.{declared.mark.Mark.Mark, declared.mark.Mark.TheVariants.{Short, Long}, Keys.tenant_of, Marks.{IsMark, mark_rank}}
use Rattle.mt_slices.specs.{Slices.{rest_of, slice_at, slice_of, mark_at, mark_of, suffix_of, piece_bytes}, Fences.least_from}
use Rattle.mt_slices.proofs.{Bytes.{AreBytes, bytes-drop}, Numbers.{number_lt, slice_at-number}}
use Rattle.mt_rows.specs.{Rows.Bytes, Stamps.Stamped}
use Rattle.mt_border.specs.{Held.Pair, declared.entry.Entry.Entry, Held.Held, Entry.pair_of}
use Rattle.mt_border.proofs.{Edits.any_entry, ContentsKeys.is_mark_of}
use Rattle.mt_arena.specs.{NodeFacts.IsUnstable, NodeView.NodeView, Layers.{slot_at, LeadsTo}, Nodes.{IsNode, HasRange}, Forests.{HaveKeys, tree_at, layer_of}}
use Rattle.mt_arena.specs.{Arena.{ArenaView, IsArena}, Accesses.at}
use Rattle.mt_arena.proofs.{Down.long_below, Elsewhere.{mark_short, layer_is}, Links.long_link}
use Rattle.mt_operation.specs.{declared.phase.Phase.TheVariants.Check, declared.walk.Walk.Walk, declared.scan.Stop.Stop, Operations.ScanView}
use Rattle.mt_descent.specs.{Seen.Stands, KeptWalks.IsAtBorder}
use Rattle.mt_readings.specs.{Reading.{behind_by, is_behind, read_on, read, stop_on, stop}, Tenancies.own_pairs}
use Rattle.mt_readings.proofs.{Readings.{read_in, stop_in}, Bytewise.nat_less}
use Rattle.mt_scan.specs.Snaps.{link_in, IsOver, StopsAtLink, HasNoLink, StopsAt, SnapsOr, next_for, prefix_in}
use Rattle.mt_scan.specs.Looks.{behind_at, unstable_on, has_unstable, TellsLink, NamesTenant, IsOfTenant, HasNoOwn, EndsAt}
use Rattle.mt_scan.specs.Hops.{KnowsLink, LeadsBelow, LeadsNext, KnowsEnd, IsAtCheck}
use Rattle.mt_scan.proofs.{Hopping.sees_next, NextKeys.next_key_fits, Seeing.tenant_first}
use Rattle.mt_version.proofs.CallerLemmas as versions
use Rattle.mt_border.specs.Held as helds
use Rattle.mt_operation.specs.declared.scan.Stop.TheVariants as stops

module _ (behind : Entry → Bool) where
  -- an unstable slot among those that are read
  pub record HasUnstable (es : List Entry) : Type 0 where
    pub x : Entry × Pair
    pub among : Contains (read behind es) x
    pub unstable : IsUnstable x.0.held

  abbrev Settled : List (Entry × Pair) → Type 0
  Settled xs = (x : Entry × Pair) → Contains xs x → ¬ IsUnstable x.0.held

  later : {X : Type 0} (x : X) (xs : List X) (a : X) → Contains xs a → Contains (x ∷ xs) a
  later x xs a h = (suc h.0, let lt = h.1 in omega (arith, lt), h.2)

  found_by : (e : Entry) (es : List Entry) (b : Bool) (held : Held) → behind e ≡ b → e.held ≡ held
      → (if b then has_unstable behind es else unstable_on held (has_unstable behind es)) ≡ true → (has_unstable behind es ≡ true → HasUnstable es)
      → HasUnstable (e ∷ es)
  found_by e es true held b_is held_is h rest =
      let r = rest h in
      record {
        x = r.x;
        among = subst (λ b. Contains (if b then read behind es else read_on e (pair_of e.held) (read behind es)) r.x) (sym b_is) r.among;
        unstable = r.unstable;
      }
  found_by e es false (helds.Stable pair) b_is held_is h rest =
      let r = rest h in
      let among : Contains ((e, pair) ∷ read behind es) r.x = later (e, pair) (read behind es) r.x r.among in
      record {
        x = r.x;
        among = subst (λ b. Contains (if b then read behind es else read_on e (pair_of e.held) (read behind es)) r.x) (sym b_is)
            (subst (λ (p : Option Pair). Contains (read_on e p (read behind es)) r.x) (sym (ap pair_of held_is)) among);
        unstable = r.unstable;
      }
  found_by e es false (helds.Unstable pair tree) b_is held_is h rest =
      let among : Contains ((e, pair) ∷ read behind es) (e, pair) = (0, omega arith, refl) in
      record {
        x = (e, pair);
        among = subst (λ b. Contains (if b then read behind es else read_on e (pair_of e.held) (read behind es)) (e, pair)) (sym b_is)
            (subst (λ (p : Option Pair). Contains (read_on e p (read behind es)) (e, pair)) (sym (ap pair_of held_is)) among);
        unstable = subst IsUnstable (sym held_is) tt;
      }
  found_by e es false (helds.Link tree) b_is held_is h rest = absurd (cc)

  pub found : (es : List Entry) → has_unstable behind es ≡ true → HasUnstable es
  found [] h = absurd (cc)
  found (e ∷ es) h = found_by e es (behind e) e.held refl refl h (found es)

  settled_by : (e : Entry) (es : List Entry) (b : Bool) (held : Held) → e.held ≡ held
      → (if b then has_unstable behind es else unstable_on held (has_unstable behind es)) ≡ false → (has_unstable behind es ≡ false → Settled (read behind es))
      → Settled (if b then read behind es else read_on e (pair_of held) (read behind es))
  settled_by e es true held held_is h rest = rest h
  settled_by e es false (helds.Stable pair) held_is h rest = λ x among. by x among
    where
      by : (x : Entry × Pair) → Contains ((e, pair) ∷ read behind es) x → ¬ IsUnstable x.0.held
      by x (zero, lt, is) = λ u. subst IsUnstable (ap (λ (y : Entry × Pair). y.0.held) (sym is) ∙ held_is) u
      by x (suc k, lt, is) = rest h x (k, omega (arith, lt), is)
  settled_by e es false (helds.Unstable pair tree) held_is h rest = absurd (cc)
  settled_by e es false (helds.Link tree) held_is h rest = λ x among. absurd (let lt = among.1 in omega (arith, lt))

  pub settled : (es : List Entry) → has_unstable behind es ≡ false → Settled (read behind es)
  settled [] h = λ x among. absurd (let lt = among.1 in omega (arith, lt))
  settled (e ∷ es) h = settled_by e es (behind e) e.held refl h (settled es)

  -- the link at which the reading stops is not behind the fence
  ahead_by : (e : Entry) (es : List Entry) (l : Entry) (b : Bool) → behind e ≡ b → (p : Option Pair)
      → (if b then stop behind es else stop_on e p (stop behind es)) ≡ Some l
      → (stop behind es ≡ Some l → behind l ≡ false) → behind l ≡ false
  ahead_by e es l true b_is p h rest = rest h
  ahead_by e es l false b_is None h rest = let same : e ≡ l = cc in ap behind (sym same) ∙ b_is
  ahead_by e es l false b_is (Some pair) h rest = rest h

  pub ahead : (es : List Entry) (l : Entry) → stop behind es ≡ Some l → behind l ≡ false
  ahead [] l h = absurd (cc)
  ahead (e ∷ es) l h = ahead_by e es l (behind e) refl (pair_of e.held) h (ahead es l)

-- an entry that the fence isn't behind has no lower slice
pub from_fence : (fence : Bytes) (after : Bool) (layer : ℕ) (e : Entry) → is_behind fence after layer e ≡ false → slice_of fence layer ≤ e.slice
from_fence fence after layer e not = elim (cases_lt e.slice (slice_of fence layer)) [
  | inl below ↦
      let less : is_behind fence after layer e ≡ true =
      ap (λ (o : Ordering). behind_by (suffix_of fence layer) after (ordering_then o (nat_cmp (mark_rank e.mark) (mark_rank (mark_of fence layer))))
      (pair_of e.held)) (nat_less e.slice (slice_of fence layer) below) in
      absurd (let both = sym less ∙ not in cc)
  | inr at_least ↦ omega (arith, at_least)
]

mark_long : (n : ℕ) → 8 < n → (if nat_le n 8 then Short n else Long) ≡ Long
mark_long n long = grind (arith, nat_tests)

-- a key has its tenant's four bytes in its first slice
piece_long : (slice : ℕ) (xs : Bytes) → 4 ≤ length xs → 4 ≤ length (piece_bytes slice (mark_at xs))
piece_long slice xs long = elim (cases_lt 8 (length xs)) [
  | inl more ↦ subst (λ m. 4 ≤ length (piece_bytes slice m)) (sym (mark_long (length xs) more)) (omega arith)
  | inr few ↦ subst (λ m. 4 ≤ length (piece_bytes slice m)) (sym (mark_short (length xs) few))
      (let size = length-take-le (length xs) (to_be_bytes w64 slice) few in omega (arith, size, long))
]

-- a slice fits 64 bits
slice_lt : (xs : Bytes) → AreBytes xs → slice_at xs < 2 ^ 64
slice_lt xs bytes = rw (slice_at-number xs) (number_lt 8 xs bytes)

slice_of_lt : (key : Bytes) (layer : ℕ) → AreBytes key → slice_of key layer < 2 ^ 64
slice_of_lt key layer bytes = slice_lt (rest_of key layer) (bytes-drop (8 * layer) key bytes)

-- the node's next one, as long as its version stands
module _ (v : ArenaView) (s : ScanView) (w : Walk) (arena : IsArena v.nodes v.trees) (h : IsAtBorder v s.fence w) where
  abbrev k : ℕ
  k = w.place.node

  abbrev n : NodeView
  n = at v k

  abbrev prefix : Bytes
  prefix = prefix_in v w

  abbrev behind : Entry → Bool
  behind = is_behind s.fence s.after w.layer

  node : IsNode (length v.nodes) n
  node = arena.nodes.each k h.covers.remembered.there

  keys : HaveKeys prefix n.slots
  keys = (arena.forest.homes k w.place.tree h.covers.remembered.there h.through.there).keys h.covers.remembered.tree_is

  pub size : length prefix ≡ 8 * w.layer
  size =
      let whole = (arena.forest.each w.place.tree h.through.there).whole in
      let is = layer_is prefix s.fence w.layer h.through.of_tree in
      sym whole ∙ ap (λ m. 8 * m) is

  -- each key has its tenant's four bytes in the tree's first ones, or in its own slice
  pub names : All (NamesTenant prefix) n.slots
  names i d inside =
      let own = keys.keys i d inside in
      let e : Entry = get_or n.slots i d in
      record {
        mark = subst IsMark (sym own.1.mark) (is_mark_of own.0 (layer_of prefix));
        long = λ none. subst (λ m. 4 ≤ length (piece_bytes e.slice m)) (sym (own.1.mark ∙ ap (mark_of own.0) (ap layer_of none)))
            (piece_long e.slice (rest_of own.0 0) own.1.of_tree.stored.has_tenant);
      }

  -- and below the top all have one tenant
  pub of_tenant : IsOfTenant prefix (tenant_of s.fence)
  of_tenant = record {
    long = long;
    is = λ some. ap tenant_of h.through.of_tree.begins
        ∙ sym (tenant_first (take (8 * w.layer) s.fence) (drop (8 * w.layer) s.fence) (subst (λ (p : Bytes). 4 ≤ length p) h.through.of_tree.begins (long some)))
        ∙ ap tenant_of (take-append-drop (8 * w.layer) s.fence);
  }
    where
      long : prefix ≢ [] → 4 ≤ length prefix
      long some = elim (cases_eq w.layer 0) [
        | inl top ↦ absurd (some (nil_from_length prefix (omega (arith, size, top))))
        | inr below ↦ omega (arith, size, below)
      ]

  -- an unstable slot is the work of whoever holds the node
  not_free : HasUnstable behind n.slots → n.holder ≢ None
  not_free u free =
      let in_node = read_in behind n.slots u.x u.among in
      let at_i = in_node.0 in
      node.lock.stable free at_i.0 u.x.0 at_i.1 (subst (λ (e : Entry). IsUnstable e.held) (sym at_i.2) u.unstable)

  pub blocked : has_unstable behind n.slots ≡ true → SnapsOr v w w s s n.holder
  blocked some = by n.holder refl
    where
      u : HasUnstable behind n.slots
      u = found behind n.slots some

      by : (o : Option ℕ) → n.holder ≡ o → SnapsOr v w w s s o
      by None free = absurd (not_free u free)
      by (Some holder) is = (refl, refl, record { x = u.x; among = u.among; unstable = u.unstable; by = is })

  pub held_then : has_unstable behind n.slots ≡ true → n.holder ≢ None
  held_then some = not_free (found behind n.slots some)

  -- how the stretch ends
  no_link : (l : Option Entry) (link : Option (ℕ × ℕ)) → link_in n s w.layer ≡ l → TellsLink l link → HasNoOwn (tenant_of s.fence) w.layer link
      → HasNoLink n s w.layer
  no_link None link is tells none e at_e = absurd (let both = sym is ∙ at_e in cc)
  no_link (Some f) None is tells none e at_e = absurd tells
  no_link (Some f) (Some p) is tells none e at_e =
      let same : f ≡ e = same_Some f e (sym is ∙ at_e) in
      subst (IsOver (tenant_of s.fence) w.layer) (sym tells.0 ∙ ap (λ (x : Entry). x.slice) same) (none p.0 p.1 refl)

  link_is : (slice tree : ℕ) (l : Option Entry) (link : Option (ℕ × ℕ)) → link_in n s w.layer ≡ l → TellsLink l link → link ≡ Some (slice, tree)
      → ¬ IsOver (tenant_of s.fence) w.layer slice
      → StopsAtLink n s w.layer slice tree
  link_is slice tree None None is tells at_link own = absurd (cc)
  link_is slice tree None (Some p) is tells at_link own = absurd tells
  link_is slice tree (Some e) None is tells at_link own = absurd tells
  link_is slice tree (Some e) (Some p) is tells at_link own =
      let same = same_Some p (slice, tree) at_link in
      record { link = e; is = is; slice_is = tells.0 ∙ ap (λ (q : ℕ × ℕ). q.0) same; leads = tells.1 ∙ ap (λ (q : ℕ × ℕ). helds.Link q.1) same; own = own }

  pub stops_at : (link : Option (ℕ × ℕ)) (end : Stop) → TellsLink (link_in n s w.layer) link → EndsAt (tenant_of s.fence) w.layer link n.high end
      → StopsAt n s w.layer end
  stops_at link (stops.Link slice tree) tells e = link_is slice tree (link_in n s w.layer) link refl tells e.0 e.1
  stops_at link (stops.Next slice) tells e = (no_link (link_in n s w.layer) link refl tells e.0, e.1, e.2)
  stops_at link stops.Tree tells e = (no_link (link_in n s w.layer) link refl tells e.0, e.1, e.2)
  stops_at link stops.Tenant tells e = (no_link (link_in n s w.layer) link refl tells e.0, e.1)

  -- the same, from what the code has
  pub ends : (es : List Entry) (b : Entry → Bool) (t : ℕ) (high : Option ℕ) (link : Option (ℕ × ℕ)) (end : Stop) → n.slots ≡ es → b ≡ behind
      → t ≡ tenant_of s.fence → high ≡ n.high
      → TellsLink (stop b es) link → EndsAt t w.layer link high end → StopsAt n s w.layer end
  ends es b t high link end slots same tenant high_is tells e =
      stops_at link end (subst (λ (l : Option Entry). TellsLink l link) (λ i. stop (same i) (sym slots i)) tells)
      (subst (λ (o : Option ℕ). EndsAt (tenant_of s.fence) w.layer link o end) high_is (subst (λ u. EndsAt u w.layer link high end) tenant e))

  pub all_seen : (es : List Entry) (b : Entry → Bool) (t : ℕ) (p : Bytes) (was seen : List (Bytes × Stamped)) → n.slots ≡ es → b ≡ behind
      → t ≡ tenant_of s.fence
      → p ≡ prefix → was ≡ []
      → seen ≡ was ++ own_pairs t p (read b es) → seen ≡ own_pairs (tenant_of s.fence) prefix (read behind n.slots)
  all_seen es b t p was seen slots same tenant prefix_is none is =
      is ∙ ap (λ (xs : List (Bytes × Stamped)). xs ++ own_pairs t p (read b es)) none ∙ (λ i. own_pairs (tenant i) (prefix_is i) (read (same i) (sym slots i)))

  -- a link's slot stands for a key that goes on behind its slice
  module _ (slice tree : ℕ) (at_link : StopsAtLink n s w.layer slice tree) where
    pub place : Contains n.slots at_link.link
    place = stop_in behind n.slots at_link.link at_link.is

    slot_is : slot_at n place.0 ≡ at_link.link
    slot_is = get_or_default n.slots place.0 any_entry at_link.link place.1 ∙ place.2

    link_held : (slot_at n place.0).held ≡ helds.Link tree
    link_held = ap (λ (e : Entry). e.held) slot_is ∙ at_link.leads

    slot_slice : (slot_at n place.0).slice ≡ slice
    slot_slice = ap (λ (e : Entry). e.slice) slot_is ∙ at_link.slice_is

    through_link : length prefix ≤ 246
    through_link =
        let own = keys.keys place.0 any_entry place.1 in
        let mark = long_link Long (slot_at n place.0) tree (node.slots.border.each place.0 any_entry place.1).held link_held in
        let below = long_below own.0 (layer_of prefix) (sym own.1.mark ∙ mark) in
        let whole = (arena.forest.each w.place.tree h.through.there).whole in
        omega (arith, below, whole, own.1.of_tree.stored.within)

    -- a live node's link leads to a live tree
    pub leads_to : n.version.deleted ≡ false → LeadsTo v.trees n place.0 tree
    leads_to live = arena.layers.links k h.covers.remembered.there live place.0 tree place.1 link_held

    leads : Stands n w.place.seen → LeadsBelow v prefix slice tree
    leads stands =
        let to : LeadsTo v.trees n place.0 tree = leads_to stands.in_range.live in
        record {
          there = to.there;
          unmade = λ q making. absurd (let both = sym to.live ∙ making in cc);
          prefix_is = to.prefix ∙ (λ i. (tree_at v.trees (h.covers.remembered.tree_is i)).prefix ++ to_be_bytes w64 (slot_slice i));
        }

    fits : slice < 2 ^ 64
    fits =
        let own = keys.keys place.0 any_entry place.1 in
        subst (λ m. m < 2 ^ 64) (sym own.1.slice ∙ slot_slice) (slice_of_lt own.0 (layer_of prefix) own.1.of_tree.stored.are_bytes)

    knows_link : KnowsLink v s.fence w slice tree
    knows_link = record {
      fits = fits;
      from = subst (λ m. slice_of s.fence w.layer ≤ m) at_link.slice_is (from_fence s.fence s.after w.layer at_link.link (ahead behind n.slots at_link.link at_link.is));
      short = through_link;
      leads = leads;
    }

  -- while the version stands, the node has its range, and so a next one where it has an end
  ranged : Stands n w.place.seen → HasRange n
  ranged stands =
      let whole = (versions.range_age_tells n.version w.place.seen stands.in_range.range).1 ∙ h.covers.remembered.was.whole in
      (arena.ranged.each k h.covers.remembered.there).unmarked whole stands.in_range.live

  leads_next : (slice : ℕ) → n.high ≡ Some slice → Stands n w.place.seen → LeadsNext v (record w { next = n.next }) slice
  leads_next slice high stands = by n.next refl
    where
      by : (o : Option ℕ) → n.next ≡ o → LeadsNext v (record w { next = n.next }) slice
      by None none = absurd (let end = node.chain.last h.border (ranged stands) none in let both = sym end ∙ high in cc)
      by (Some x) is =
          let seen = sees_next v k x arena h.covers.remembered.there stands.in_range.live h.border is in
          let same : (at v x).low ≡ slice = same_Some (at v x).low slice (sym seen.0 ∙ high) in
          let there = seen.1.there in
          let range : HasRange (at v x) = (arena.ranged.ties k x h.covers.remembered.there there).next stands.in_range.live is in
          let most = (arena.ranged.each x there).fits range in
          let key = next_key_fits v w.place.tree k x arena h.covers.remembered.there h.covers.remembered.tree_is stands.in_range.live h.border is in
          record {
            fits = omega (arith, range, most, same);
            node = x;
            is = is;
            begins = record { there = there; tree_is = seen.1.tree_is ∙ h.covers.remembered.tree_is; border = seen.1.border; begins = same };
            short = subst (λ m. length (least_from prefix m) ≤ 255) same key.1;
            whole = subst (λ m. 4 ≤ length (least_from prefix m)) same key.0;
          }

  -- what is kept of the end
  pub knows_end : (end : Stop) → StopsAt n s w.layer end → KnowsEnd v s.fence (record w { next = next_for n end; phase = Check }) end
  knows_end (stops.Link slice tree) e = let l = knows_link slice tree e in record { fits = l.fits; from = l.from; short = l.short; leads = l.leads }
  knows_end (stops.Next slice) e = λ stands. let l = leads_next slice e.1 stands in
      record { fits = l.fits; node = l.node; is = l.is; begins = l.begins; short = l.short; whole = l.whole }
  knows_end stops.Tree e = tt
  knows_end stops.Tenant e = tt

  pub at_check : (end : Stop) → StopsAt n s w.layer end → IsAtCheck v s.fence (record w { next = next_for n end; phase = Check }) end
  at_check end e = record { at_border = record { through = h.through; covers = h.covers; border = h.border }; end = knows_end end e }

-- the fence of the code is that of the scan
pub same_behind : (s : ScanView) (layer slice : ℕ) (mark : Mark) (suffix : Bytes) (after : Bool) → slice ≡ slice_of s.fence layer → mark ≡ mark_of s.fence layer
    → suffix ≡ suffix_of s.fence layer → after ≡ s.after → behind_at slice mark suffix after ≡ is_behind s.fence s.after layer
same_behind s layer slice mark suffix after a b c d = λ i. behind_at (a i) (b i) (c i) (d i)
