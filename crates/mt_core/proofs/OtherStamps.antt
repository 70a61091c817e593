-- Contents with other stamps have as many pairs of each tenant, and each slot that counts has its pair in them: for `renumber` and `restored`.
use Rattle.std.proofs.{Common.{◌≡◌, ℕ, suc, ◌<◌, Bool, true, false, cond, ◌&&◌, T, List, [], ◌∷◌, map, length, Some, refl, sym, ap, subst, ◌∙◌}, lemmas.List.Elements.All-from_get_or}
use Rattle.std.specs.{Prelude.if◌then◌else◌, Option.option_map, Ordering.{nat_cmp, is_lt, eq_by_cmp}, Cmp.Lexicographic.slice_cmp}
use Rattle.std.specs.{FinMap.Entries.below_all, FinMap.{get, len, entries, find, is_sorted, from_sorted, entries_sorted, entries-from_sorted, get-entries, get-from_sorted, len-entries}}
use Rattle.mt_rows.specs.{Rows.Bytes, Stamps.{Stamped, restamped_row}, Maps.Map, Tenants.{Contents, tenant_map}}
use Rattle.mt_rows.proofs.{CommandLaws.same_rows, ContentLaws.get-tenant_map}
use Rattle.mt_runs.specs.Renumbered.{renumbered_pair, AreRenumbered}
use Rattle.mt_border.specs.{Held.Pair, Entry.pair_of, Contents.{owned, key_at, row_of, IsStamped, AllStamped}}
use Rattle.mt_border.proofs.{Edits.any_entry, ContentsKeys.owned_at}
use Rattle.mt_arena.specs.{declared.tree.Standing.Standing, declared.tree.Standing.TheVariants.{Made, Live, Dead}, NodeView.NodeView, Forests.{tree_at, layer_of}}
use Rattle.mt_arena.specs.{Layers.slot_at, Contents.{is_live, counts}, Arena.{ArenaView, IsArena, content_of}, Accesses.{at, tree_of}, Renumbers.AreRestamped}
use Rattle.mt_arena.proofs.{Homes.begun, Owners.found}

-- ---- a map with other stamps

module _ (f : ℕ → ℕ) where
  abbrev entries_now : List (Bytes × Stamped) → List (Bytes × Stamped)
  entries_now = map (renumbered_pair f)

  -- the keys of its entries are the same
  below_now : (key : Bytes) (es : List (Bytes × Stamped)) → below_all (slice_cmp nat_cmp) key (entries_now es) ≡ below_all (slice_cmp nat_cmp) key es
  below_now key [] = refl
  below_now key (e ∷ es) = ap (λ b. is_lt (slice_cmp nat_cmp key e.0) && b) (below_now key es)

  sorted_now : (es : List (Bytes × Stamped)) → is_sorted (slice_cmp nat_cmp) (entries_now es) ≡ is_sorted (slice_cmp nat_cmp) es
  sorted_now [] = refl
  sorted_now (e ∷ es) = ap (λ b. b && is_sorted (slice_cmp nat_cmp) (entries_now es)) (below_now e.0 es) ∙ ap (λ b. below_all (slice_cmp nat_cmp) e.0 es && b) (sorted_now es)

  find_now : (key : Bytes) (es : List (Bytes × Stamped)) → find (slice_cmp nat_cmp) key (entries_now es) ≡ option_map (restamped_row f) (find (slice_cmp nat_cmp) key es)
  find_now key [] = refl
  find_now key (e ∷ es) = by (find_now key es) (eq_by_cmp (slice_cmp nat_cmp) key e.0)
    where
      by : find (slice_cmp nat_cmp) key (entries_now es) ≡ option_map (restamped_row f) (find (slice_cmp nat_cmp) key es) → (b : Bool)
          → cond b (Some (restamped_row f e.1)) (find (slice_cmp nat_cmp) key (entries_now es)) ≡ option_map (restamped_row f) (cond b (Some e.1) (find (slice_cmp nat_cmp) key es))
      by h true = refl
      by h false = h

  length_now : (es : List (Bytes × Stamped)) → length (entries_now es) ≡ length es
  length_now [] = refl
  length_now (e ∷ es) = ap suc (length_now es)

  -- so it has as many
  same_entries : (m n : Map) → AreRenumbered f m n → entries n ≡ entries_now (entries m)
  same_entries m n are =
      let es = entries m in
      let sorted : T (is_sorted (slice_cmp nat_cmp) (entries_now es)) = subst T (sym (sorted_now es)) (entries_sorted m) in
      let made : Map = from_sorted (entries_now es) in
      let is : n ≡ made =
      same_rows n made (λ key. are key ∙ sym (get-from_sorted (slice_cmp nat_cmp) (entries_now es) key sorted ∙ find_now key es ∙ ap (option_map (restamped_row f)) (sym (get-entries m key)))) in
      ap entries is ∙ entries-from_sorted (slice_cmp nat_cmp) (entries_now es) sorted

  same_len : (m n : Map) → AreRenumbered f m n → len n ≡ len m
  same_len m n are = len-entries n ∙ ap length (same_entries m n are) ∙ length_now (entries m) ∙ sym (len-entries m)

  -- and so has each tenant in contents with other stamps
  pub len-restamped : (a b : Contents) → AreRestamped f a b → (t : ℕ) → len (tenant_map t b) ≡ len (tenant_map t a)
  len-restamped a b are t = same_len (tenant_map t a) (tenant_map t b) (λ key. get-tenant_map t b key ∙ are (t, key) ∙ ap (option_map (restamped_row f)) (sym (get-tenant_map t a key)))

-- ---- the slots

-- a node that counts is live, and so is its tree
counts_live : (deleted : Bool) (standing : Standing) → (if deleted then false else is_live standing) ≡ true → (deleted ≡ false) × (standing ≡ Live)
counts_live true standing e = absurd (cc)
counts_live false (Made by) e = absurd (cc)
counts_live false Live e = (refl, refl)
counts_live false Dead e = absurd (cc)

module _ (v : ArenaView) (arena : IsArena v.nodes v.trees) (k : ℕ) (there : k < length v.nodes) (counted : counts v.trees (at v k) ≡ true) where
  abbrev n : NodeView
  n = at v k

  abbrev prefix : Bytes
  prefix = (tree_of v k).prefix

  -- the contents have the pair of each of its slots
  slot_there : (i : ℕ) (pair : Pair) → i < length n.slots → pair_of (slot_at n i).held ≡ Some pair → get (content_of v) (owned (key_at prefix (slot_at n i) pair)) ≡ Some (row_of pair)
  slot_there i pair inside is =
      let live = counts_live n.version.deleted (tree_at v.trees n.tree).standing counted in
      let has = ((arena.forest.homes k n.tree there (arena.forest.tree_there k there)).keys refl).keys i any_entry inside in
      ap (get (content_of v)) (owned_at prefix (layer_of prefix) (slot_at n i) has.0 pair has.1 is)
      ∙ found v.nodes v.trees arena (begun v.nodes v.trees arena.forest) has.0 (layer_of prefix) k i pair (record {
        there = there;
        live = live.0;
        tree_live = live.1;
        in_range = inside;
        has = has.1;
        pair_is = is;
      })

  -- so what holds of all pairs of the contents and their stamps holds of those of its slots
  pub stamped_slots : (P : ℕ × Bytes → ℕ → Type 0) → ((q : ℕ × Bytes) (r : Stamped) → get (content_of v) q ≡ Some r → P q r.stamp) → AllStamped P prefix n.slots
  stamped_slots P each = All-from_get_or (IsStamped P prefix) n.slots any_entry (λ i inside pair is. each (owned (key_at prefix (slot_at n i) pair)) (row_of pair) (slot_there i pair inside is))
