-- Maps with the same rows, whatever their stamps: what commands that ask for no stamp are told by them, and leave. For the law `one_text`.
use Rattle.mt_alone.specs.Texts.{HaveSameRows, IsWithoutStamp, row_in}
use Rattle.mt_rows.proofs.CommandLaws.{keys_total, same_rows}
use Rattle.mt_rows.specs.Changes.{Named, changed}
use Rattle.mt_rows.specs.Maps.{Map, is_walked, map_after_put, map_after, reply_of, scanned, told_of_put, told_of_remove, told_of_row}
use Rattle.mt_rows.specs.{Rows.{Bytes, Columns, shown}, Stamps.{Stamped, as_shown, restamped_row, unstamped, written}}
use Rattle.mt_rows.specs.{declared.command.Command.Command, declared.command.Command.TheVariants.{Get, PutIf, Put, Remove, Scan}}
use Rattle.mt_runs.specs.Renumbered.{renumbered_pair}
use Rattle.mt_wire.specs.Asked.{shown_as}
use Rattle.std.proofs.Common.{Bool, List, None, Option, Some, T, [], ap, cond, false, filter, length, map, nat_lt, option_map, refl, subst, suc, sym, take, true, ℕ, ◌&&◌, ◌∙◌, ◌∷◌, ◌≡◌}
use Rattle.std.proofs.lemmas.Option.{none-some, same_Some}
use Rattle.std.specs.{Cmp.Lexicographic.slice_cmp, FinMap.Entries.below_all}
use Rattle.std.specs.FinMap.{entries-from_sorted, entries_sorted, from_sorted, get-entries, get-from_sorted, get-insert, get-remove, is_sorted, len-entries}
use Rattle.std.specs.{List.take-map, Ordering.{eq_by_cmp, is_lt, nat_cmp}}
use Rattle.mt_wire.specs.declared.message.Shown.TheVariants as told
use Rattle.std.specs.FinMap as pairs

-- what a scan shows of entries
abbrev shown_of : Bytes → Bool → ℕ → List ℕ → List (Bytes × Stamped) → List (Bytes × Stamped)
shown_of from after count columns es = map (λ e. (e.0, as_shown columns e.1)) (take count (filter (λ e. is_walked from after e.0) es))

module _ (f : ℕ → ℕ) where
  abbrev rows : Option Stamped → Option Stamped
  rows = option_map (restamped_row f)

  abbrev entries_now : List (Bytes × Stamped) → List (Bytes × Stamped)
  entries_now = map (renumbered_pair f)

  -- lists of entries with other stamps: the keys are the same
  below_now : (key : Bytes) (es : List (Bytes × Stamped)) → below_all (slice_cmp nat_cmp) key (entries_now es) ≡ below_all (slice_cmp nat_cmp) key es
  below_now key [] = refl
  below_now key (e ∷ es) = ap (λ b. is_lt (slice_cmp nat_cmp key e.0) && b) (below_now key es)

  sorted_now : (es : List (Bytes × Stamped)) → is_sorted (slice_cmp nat_cmp) (entries_now es) ≡ is_sorted (slice_cmp nat_cmp) es
  sorted_now [] = refl
  sorted_now (e ∷ es) = ap (λ b. b && is_sorted (slice_cmp nat_cmp) (entries_now es)) (below_now e.0 es) ∙ ap (λ b. below_all (slice_cmp nat_cmp) e.0 es && b) (sorted_now es)

  find_now : (key : Bytes) (es : List (Bytes × Stamped)) → pairs.find (slice_cmp nat_cmp) key (entries_now es) ≡ rows (pairs.find (slice_cmp nat_cmp) key es)
  find_now key [] = refl
  find_now key (e ∷ es) = by (find_now key es) (eq_by_cmp (slice_cmp nat_cmp) key e.0)
    where
      by : pairs.find (slice_cmp nat_cmp) key (entries_now es) ≡ rows (pairs.find (slice_cmp nat_cmp) key es) → (b : Bool) → cond b (Some (restamped_row f e.1)) (pairs.find (slice_cmp nat_cmp) key (entries_now es)) ≡ rows (cond b (Some e.1) (pairs.find (slice_cmp nat_cmp) key es))
      by h true = refl
      by h false = h

  filter_now : (p : Bytes → Bool) (es : List (Bytes × Stamped)) → filter (λ e. p e.0) (entries_now es) ≡ entries_now (filter (λ e. p e.0) es)
  filter_now p [] = refl
  filter_now p (e ∷ es) = by (filter_now p es) (p e.0)
    where
      by : filter (λ d. p d.0) (entries_now es) ≡ entries_now (filter (λ d. p d.0) es) → (b : Bool) → cond b (renumbered_pair f e ∷ filter (λ d. p d.0) (entries_now es)) (filter (λ d. p d.0) (entries_now es)) ≡ entries_now (cond b (e ∷ filter (λ d. p d.0) es) (filter (λ d. p d.0) es))
      by h true = ap (λ ds. renumbered_pair f e ∷ ds) h
      by h false = h

  shown_now : (columns : List ℕ) (es : List (Bytes × Stamped)) → map (λ e. (e.0, as_shown columns e.1)) (entries_now es) ≡ entries_now (map (λ e. (e.0, as_shown columns e.1)) es)
  shown_now columns [] = refl
  shown_now columns (e ∷ es) = ap (λ ds. (e.0, as_shown columns (restamped_row f e.1)) ∷ ds) (shown_now columns es)

  length_now : (es : List (Bytes × Stamped)) → length (entries_now es) ≡ length es
  length_now [] = refl
  length_now (e ∷ es) = ap suc (length_now es)

  -- and so are the rows
  bare_now : (es : List (Bytes × Stamped)) → map unstamped (entries_now es) ≡ map unstamped es
  bare_now [] = refl
  bare_now (e ∷ es) = ap (λ ds. unstamped e ∷ ds) (bare_now es)

  scan_now : (from : Bytes) (after : Bool) (count : ℕ) (columns : List ℕ) (es : List (Bytes × Stamped)) → shown_of from after count columns (entries_now es) ≡ entries_now (shown_of from after count columns es)
  scan_now from after count columns es =
      ap (λ ds. map (λ e. (e.0, as_shown columns e.1)) (take count ds)) (filter_now (is_walked from after) es)
      ∙ ap (map (λ e. (e.0, as_shown columns e.1))) (take-map (renumbered_pair f) count (filter (λ e. is_walked from after e.0) es))
      ∙ shown_now columns (take count (filter (λ e. is_walked from after e.0) es))

  bare_scan : (from : Bytes) (after : Bool) (count : ℕ) (columns : List ℕ) (es : List (Bytes × Stamped)) → map unstamped (shown_of from after count columns es) ≡ map unstamped (shown_of from after count columns (entries_now es))
  bare_scan from after count columns es = sym (bare_now (shown_of from after count columns es)) ∙ ap (map unstamped) (sym (scan_now from after count columns es))

  -- a map with other stamps
  abbrev made_of : Map → Map
  made_of m = from_sorted (entries_now (pairs.entries m))

  sorted_of : (m : Map) → T (is_sorted (slice_cmp nat_cmp) (entries_now (pairs.entries m)))
  sorted_of m = subst T (sym (sorted_now (pairs.entries m))) (entries_sorted m)

  get_made : (m : Map) (key : Bytes) → pairs.get (made_of m) key ≡ rows (pairs.get m key)
  get_made m key = get-from_sorted (slice_cmp nat_cmp) (entries_now (pairs.entries m)) key (sorted_of m) ∙ find_now key (pairs.entries m) ∙ ap rows (sym (get-entries m key))

  -- maps with the same row at each key have the same entries
  same_entries : (m n : Map) → ((key : Bytes) → rows (pairs.get m key) ≡ rows (pairs.get n key)) → entries_now (pairs.entries m) ≡ entries_now (pairs.entries n)
  same_entries m n are =
      let is : made_of m ≡ made_of n = same_rows (made_of m) (made_of n) (λ key. get_made m key ∙ are key ∙ sym (get_made n key)) in
      sym (entries-from_sorted (slice_cmp nat_cmp) (entries_now (pairs.entries m)) (sorted_of m)) ∙ ap pairs.entries is ∙ entries-from_sorted (slice_cmp nat_cmp) (entries_now (pairs.entries n)) (sorted_of n)

-- all stamps are 0
abbrev no_stamp : ℕ → ℕ
no_stamp n = 0

abbrev bare : Columns → Stamped
bare row = record { stamp = 0; row = row }

row_bare : (x : Option Stamped) → option_map (restamped_row no_stamp) x ≡ option_map bare (row_in x)
row_bare None = refl
row_bare (Some r) = refl

-- then the entries are the same, and as many
entries_bare : (m n : Map) → HaveSameRows m n → map (renumbered_pair no_stamp) (pairs.entries m) ≡ map (renumbered_pair no_stamp) (pairs.entries n)
entries_bare m n are = same_entries no_stamp m n (λ key. row_bare (pairs.get m key) ∙ ap (option_map bare) (are key) ∙ sym (row_bare (pairs.get n key)))

same_len : (m n : Map) → HaveSameRows m n → pairs.len m ≡ pairs.len n
same_len m n are =
    len-entries m ∙ sym (length_now no_stamp (pairs.entries m)) ∙ ap length (entries_bare m n are) ∙ length_now no_stamp (pairs.entries n) ∙ sym (len-entries n)

same_scan : (from : Bytes) (after : Bool) (count : ℕ) (columns : List ℕ) (m n : Map) → HaveSameRows m n → map unstamped (scanned from after count columns m) ≡ map unstamped (scanned from after count columns n)
same_scan from after count columns m n are =
    bare_scan no_stamp from after count columns (pairs.entries m)
    ∙ ap (λ es. map unstamped (shown_of from after count columns es)) (entries_bare m n are)
    ∙ sym (bare_scan no_stamp from after count columns (pairs.entries n))

-- what is told by what stands at a key
same_get : (columns : List ℕ) (x y : Option Stamped) → row_in x ≡ row_in y → shown_as false (told_of_row columns x) ≡ shown_as false (told_of_row columns y)
same_get columns None None e = refl
same_get columns (Some r) (Some s) e = ap (λ row. told.Found (shown columns row)) (same_Some r.row s.row e)
same_get columns None (Some s) e = absurd (none-some s.row e)
same_get columns (Some r) None e = absurd (none-some r.row (sym e))

same_put : (quota count : ℕ) (x y : Option Stamped) → row_in x ≡ row_in y → told_of_put quota count x ≡ told_of_put quota count y
same_put quota count None None e = refl
same_put quota count (Some r) (Some s) e = refl
same_put quota count None (Some s) e = absurd (none-some s.row e)
same_put quota count (Some r) None e = absurd (none-some r.row (sym e))

same_remove : (x y : Option Stamped) → row_in x ≡ row_in y → told_of_remove x ≡ told_of_remove y
same_remove None None e = refl
same_remove (Some r) (Some s) e = refl
same_remove None (Some s) e = absurd (none-some s.row e)
same_remove (Some r) None e = absurd (none-some r.row (sym e))

-- a command that asks for no stamp is told the same
pub same_reply : (quota : ℕ) (c : Command) (m n : Map) → HaveSameRows m n → IsWithoutStamp c → shown_as false (reply_of quota c m) ≡ shown_as false (reply_of quota c n)
unfolding reply_of
same_reply quota (Get key columns) m n are free = same_get columns (pairs.get m key) (pairs.get n key) (are key)
same_reply quota (Put key change) m n are free =
    ap (shown_as false) (ap (λ count. told_of_put quota count (pairs.get m key)) (same_len m n are) ∙ same_put quota (pairs.len n) (pairs.get m key) (pairs.get n key) (are key))
same_reply quota (PutIf key stamp change) m n are free = absurd free
same_reply quota (Remove key) m n are free = ap (shown_as false) (same_remove (pairs.get m key) (pairs.get n key) (are key))
same_reply quota (Scan from after count columns) m n are free = ap told.Pairs (same_scan from after count columns m n are)

-- what is left
same_insert : (key : Bytes) (r s : Stamped) (m n : Map) → r.row ≡ s.row → HaveSameRows m n → HaveSameRows (pairs.insert m key r) (pairs.insert n key s)
same_insert key r s m n e are q = ap row_in (get-insert keys_total m key r q) ∙ by (eq_by_cmp (slice_cmp nat_cmp) q key) ∙ ap row_in (sym (get-insert keys_total n key s q))
  where
    by : (b : Bool) → row_in (cond b (Some r) (pairs.get m q)) ≡ row_in (cond b (Some s) (pairs.get n q))
    by true = ap Some e
    by false = are q

same_removal : (key : Bytes) (m n : Map) → HaveSameRows m n → HaveSameRows (pairs.remove m key) (pairs.remove n key)
same_removal key m n are q = ap row_in (get-remove keys_total m key q) ∙ by (eq_by_cmp (slice_cmp nat_cmp) q key) ∙ ap row_in (sym (get-remove keys_total n key q))
  where
    by : (b : Bool) → row_in (cond b None (pairs.get m q)) ≡ row_in (cond b None (pairs.get n q))
    by true = refl
    by false = are q

same_after_put : (quota i j : ℕ) (key : Bytes) (change : Named) (m n : Map) (x y : Option Stamped) → row_in x ≡ row_in y → HaveSameRows m n
    → HaveSameRows (map_after_put quota i key change m x) (map_after_put quota j key change n y)
same_after_put quota i j key change m n None None e are =
    subst (λ count. HaveSameRows (map_after_put quota i key change m None) (cond (nat_lt count quota) (pairs.insert n key (written j change None)) n)) (same_len m n are) (by (nat_lt (pairs.len m) quota))
  where
    by : (b : Bool) → HaveSameRows (cond b (pairs.insert m key (written i change None)) m) (cond b (pairs.insert n key (written j change None)) n)
    by true = same_insert key (written i change None) (written j change None) m n refl are
    by false = are
same_after_put quota i j key change m n (Some r) (Some s) e are =
    same_insert key (written i change (Some r)) (written j change (Some s)) m n (ap (changed change) (same_Some r.row s.row e)) are
same_after_put quota i j key change m n None (Some s) e are = absurd (none-some s.row e)
same_after_put quota i j key change m n (Some r) None e are = absurd (none-some r.row (sym e))

-- and leaves the same rows, by whatever numbers
pub same_after : (quota i j : ℕ) (c : Command) (m n : Map) → HaveSameRows m n → IsWithoutStamp c → HaveSameRows (map_after quota i c m) (map_after quota j c n)
unfolding map_after
same_after quota i j (Get key columns) m n are free = are
same_after quota i j (Put key change) m n are free = same_after_put quota i j key change m n (pairs.get m key) (pairs.get n key) (are key) are
same_after quota i j (PutIf key stamp change) m n are free = absurd free
same_after quota i j (Remove key) m n are free = same_removal key m n are
same_after quota i j (Scan from after count columns) m n are free = are
