-- The same commands with other numbers are told the same with these: for the law of renumbered commands.
use Rattle.mt_rows.proofs.CommandLaws.{keys_total, same_rows}
use Rattle.mt_rows.specs.Changes.{Named}
use Rattle.mt_rows.specs.Maps.{Map, is_walked, map_after_put_if, map_after_put, map_after, reply_of, scanned, told_of_put_if, told_of_put, told_of_remove, told_of_row}
use Rattle.mt_rows.specs.{Rows.Bytes, Stamps.{Stamped, as_shown, restamped_row, stamp_in, written}, declared.command.Command.TheVariants.{Get, PutIf, Put, Remove, Scan}}
use Rattle.mt_rows.specs.{declared.command.Command.Command, declared.reply.Reply.TheVariants.{Full, New, Pairs, Stale}}
use Rattle.mt_runs.proofs.Replies.{replies_of-commands_of, replies}
use Rattle.mt_runs.specs.Placings.{Maps, Placing, Quotas, commands_of, replies_of}
use Rattle.mt_runs.specs.Renumbered.{AreRenumbered, IsRenumbering, renumbered_call, renumbered_command, renumbered_pair, renumbered_reply}
use Rattle.mt_runs.specs.Runs.{Story}
use Rattle.std.proofs.Common.{Bool, List, None, Option, Some, T, [], ap, cond, eqb, false, filter, length, map, nat_lt, option_map, refl, subst, suc, sym, take, true, ℕ, ◌&&◌, ◌∙◌, ◌∷◌, ◌≡◌}
use Rattle.std.proofs.lemmas.Bool.{eq-eqb, eqb-true, ne_eqb}
use Rattle.std.specs.{Cmp.Lexicographic.slice_cmp, FinMap.Entries.below_all}
use Rattle.std.specs.FinMap.{entries-from_sorted, entries_sorted, from_sorted, get-entries, get-from_sorted, get-insert, get-remove, is_sorted, len-entries}
use Rattle.std.specs.{List.take-map, Ordering.{eq_by_cmp, is_lt, nat_cmp}}
use Rattle.std.specs.FinMap as pairs

module _ (f : ℕ → ℕ) where
  abbrev rows : Option Stamped → Option Stamped
  rows = option_map (restamped_row f)

  abbrev entries_now : List (Bytes × Stamped) → List (Bytes × Stamped)
  entries_now = map (renumbered_pair f)

  -- lists of entries: the keys are the same
  below_now : (key : Bytes) (es : List (Bytes × Stamped)) → below_all (slice_cmp nat_cmp) key (entries_now es) ≡ below_all (slice_cmp nat_cmp) key es
  below_now key [] = refl
  below_now key (e ∷ es) = ap (λ b. is_lt (slice_cmp nat_cmp key e.0) && b) (below_now key es)

  sorted_now : (es : List (Bytes × Stamped)) → is_sorted (slice_cmp nat_cmp) (entries_now es) ≡ is_sorted (slice_cmp nat_cmp) es
  sorted_now [] = refl
  sorted_now (e ∷ es) = ap (λ b. b && is_sorted (slice_cmp nat_cmp) (entries_now es)) (below_now e.0 es) ∙ ap (λ b. below_all (slice_cmp nat_cmp) e.0 es && b) (sorted_now es)

  find_now : (key : Bytes) (es : List (Bytes × Stamped)) → pairs.find (slice_cmp nat_cmp) key (entries_now es) ≡ rows (pairs.find (slice_cmp nat_cmp) key es)
  find_now key [] = refl
  find_now key (e ∷ es) = by (find_now key es) (eq_by_cmp (slice_cmp nat_cmp) key e.0)
    where
      by : pairs.find (slice_cmp nat_cmp) key (entries_now es) ≡ rows (pairs.find (slice_cmp nat_cmp) key es) → (b : Bool) → cond b (Some (restamped_row f e.1)) (pairs.find (slice_cmp nat_cmp) key (entries_now es)) ≡ rows (cond b (Some e.1) (pairs.find (slice_cmp nat_cmp) key es))
      by h true = refl
      by h false = h

  filter_now : (p : Bytes → Bool) (es : List (Bytes × Stamped)) → filter (λ e. p e.0) (entries_now es) ≡ entries_now (filter (λ e. p e.0) es)
  filter_now p [] = refl
  filter_now p (e ∷ es) = by (filter_now p es) (p e.0)
    where
      by : filter (λ d. p d.0) (entries_now es) ≡ entries_now (filter (λ d. p d.0) es) → (b : Bool) → cond b (renumbered_pair f e ∷ filter (λ d. p d.0) (entries_now es)) (filter (λ d. p d.0) (entries_now es)) ≡ entries_now (cond b (e ∷ filter (λ d. p d.0) es) (filter (λ d. p d.0) es))
      by h true = ap (λ ds. renumbered_pair f e ∷ ds) h
      by h false = h

  shown_now : (columns : List ℕ) (es : List (Bytes × Stamped)) → map (λ e. (e.0, as_shown columns e.1)) (entries_now es) ≡ entries_now (map (λ e. (e.0, as_shown columns e.1)) es)
  shown_now columns [] = refl
  shown_now columns (e ∷ es) = ap (λ ds. (e.0, as_shown columns (restamped_row f e.1)) ∷ ds) (shown_now columns es)

  length_now : (es : List (Bytes × Stamped)) → length (entries_now es) ≡ length es
  length_now [] = refl
  length_now (e ∷ es) = ap suc (length_now es)

  -- so the entries of a map that is the same but for the numbers
  same_entries : (m n : Map) → AreRenumbered f m n → pairs.entries n ≡ entries_now (pairs.entries m)
  same_entries m n are =
      let es = pairs.entries m in
      let sorted : T (is_sorted (slice_cmp nat_cmp) (entries_now es)) = subst T (sym (sorted_now es)) (entries_sorted m) in
      let made : Map = from_sorted (entries_now es) in
      let is : n ≡ made = same_rows n made (λ key. are key ∙ sym (get-from_sorted (slice_cmp nat_cmp) (entries_now es) key sorted ∙ find_now key es ∙ ap rows (sym (get-entries m key)))) in
      ap pairs.entries is ∙ entries-from_sorted (slice_cmp nat_cmp) (entries_now es) sorted

  same_len : (m n : Map) → AreRenumbered f m n → pairs.len n ≡ pairs.len m
  same_len m n are = len-entries n ∙ ap length (same_entries m n are) ∙ length_now (pairs.entries m) ∙ sym (len-entries m)

  module _ (is : IsRenumbering f) where
    -- the stamp of what stands at a key, and whether it is the one asked for
    stamp_now : (old : Option Stamped) → stamp_in (rows old) ≡ f (stamp_in old)
    stamp_now None = sym is.none
    stamp_now (Some r) = refl

    asked_now : (a b : ℕ) → eqb (f a) (f b) ≡ eqb a b
    asked_now a b = by (eqb a b) refl
      where
        by : (x : Bool) → eqb a b ≡ x → eqb (f a) (f b) ≡ x
        by true e = eq-eqb (f a) (f b) (ap f (eqb-true a b e))
        by false e = ne_eqb (f a) (f b) (λ same. absurd (true_not_false (sym (eq-eqb a b (is.apart a b same)) ∙ e)))
          where
            true_not_false : true ≡ false → ⊥
            true_not_false h = cc

    met_now : (stamp : ℕ) (old : Option Stamped) → eqb (stamp_in (rows old)) (f stamp) ≡ eqb (stamp_in old) stamp
    met_now stamp old = ap (λ s. eqb s (f stamp)) (stamp_now old) ∙ asked_now (stamp_in old) stamp

    -- replies
    told_row : (columns : List ℕ) (old : Option Stamped) → told_of_row columns (rows old) ≡ renumbered_reply f (told_of_row columns old)
    told_row columns None = refl
    told_row columns (Some r) = refl

    told_put : (quota count : ℕ) (old : Option Stamped) → told_of_put quota count (rows old) ≡ renumbered_reply f (told_of_put quota count old)
    told_put quota count None = by (nat_lt count quota)
      where
        by : (b : Bool) → cond b New Full ≡ renumbered_reply f (cond b New Full)
        by true = refl
        by false = refl
    told_put quota count (Some r) = refl

    told_put_if : (quota count stamp : ℕ) (old : Option Stamped) → told_of_put_if quota count (f stamp) (rows old) ≡ renumbered_reply f (told_of_put_if quota count stamp old)
    told_put_if quota count stamp old = ap (λ b. cond b (told_of_put quota count (rows old)) (Stale (stamp_in (rows old)))) (met_now stamp old) ∙ by (eqb (stamp_in old) stamp)
      where
        by : (b : Bool) → cond b (told_of_put quota count (rows old)) (Stale (stamp_in (rows old))) ≡ renumbered_reply f (cond b (told_of_put quota count old) (Stale (stamp_in old)))
        by true = told_put quota count old
        by false = ap Stale (stamp_now old)

    told_remove : (old : Option Stamped) → told_of_remove (rows old) ≡ renumbered_reply f (told_of_remove old)
    told_remove None = refl
    told_remove (Some r) = refl

    scanned_now : (from : Bytes) (after : Bool) (count : ℕ) (columns : List ℕ) (m n : Map) → AreRenumbered f m n → scanned from after count columns n ≡ entries_now (scanned from after count columns m)
    scanned_now from after count columns m n are =
        ap (λ es. map (λ e. (e.0, as_shown columns e.1)) (take count (filter (λ e. is_walked from after e.0) es))) (same_entries m n are)
        ∙ ap (λ es. map (λ e. (e.0, as_shown columns e.1)) (take count es)) (filter_now (is_walked from after) (pairs.entries m))
        ∙ ap (map (λ e. (e.0, as_shown columns e.1))) (take-map (renumbered_pair f) count (filter (λ e. is_walked from after e.0) (pairs.entries m)))
        ∙ shown_now columns (take count (filter (λ e. is_walked from after e.0) (pairs.entries m)))

    reply_now : (quota : ℕ) (c : Command) (m n : Map) → AreRenumbered f m n → reply_of quota (renumbered_command f c) n ≡ renumbered_reply f (reply_of quota c m)
    unfolding reply_of
    reply_now quota (Get key columns) m n are = ap (told_of_row columns) (are key) ∙ told_row columns (pairs.get m key)
    reply_now quota (Put key change) m n are = ap (λ count. told_of_put quota count (pairs.get n key)) (same_len m n are) ∙ ap (told_of_put quota (pairs.len m)) (are key) ∙ told_put quota (pairs.len m) (pairs.get m key)
    reply_now quota (PutIf key stamp change) m n are =
        ap (λ count. told_of_put_if quota count (f stamp) (pairs.get n key)) (same_len m n are) ∙ ap (told_of_put_if quota (pairs.len m) (f stamp)) (are key) ∙ told_put_if quota (pairs.len m) stamp (pairs.get m key)
    reply_now quota (Remove key) m n are = ap told_of_remove (are key) ∙ told_remove (pairs.get m key)
    reply_now quota (Scan from after count columns) m n are = ap Pairs (scanned_now from after count columns m n are)

    -- maps
    after_insert : (key : Bytes) (row : Stamped) (m n : Map) → AreRenumbered f m n → AreRenumbered f (pairs.insert m key row) (pairs.insert n key (restamped_row f row))
    after_insert key row m n are q = get-insert keys_total n key (restamped_row f row) q ∙ by (eq_by_cmp (slice_cmp nat_cmp) q key) ∙ ap rows (sym (get-insert keys_total m key row q))
      where
        by : (b : Bool) → cond b (Some (restamped_row f row)) (pairs.get n q) ≡ rows (cond b (Some row) (pairs.get m q))
        by true = refl
        by false = are q

    after_remove : (key : Bytes) (m n : Map) → AreRenumbered f m n → AreRenumbered f (pairs.remove m key) (pairs.remove n key)
    after_remove key m n are q = get-remove keys_total n key q ∙ by (eq_by_cmp (slice_cmp nat_cmp) q key) ∙ ap rows (sym (get-remove keys_total m key q))
      where
        by : (b : Bool) → cond b None (pairs.get n q) ≡ rows (cond b None (pairs.get m q))
        by true = refl
        by false = are q

    after_put : (quota number : ℕ) (key : Bytes) (change : Named) (m n : Map) (old : Option Stamped) → AreRenumbered f m n
        → AreRenumbered f (map_after_put quota number key change m old) (map_after_put quota (f number) key change n (rows old))
    after_put quota number key change m n None are =
        subst (λ count. AreRenumbered f (map_after_put quota number key change m None) (cond (nat_lt count quota) (pairs.insert n key (written (f number) change None)) n)) (sym (same_len m n are)) (by (nat_lt (pairs.len m) quota))
      where
        by : (b : Bool) → AreRenumbered f (cond b (pairs.insert m key (written number change None)) m) (cond b (pairs.insert n key (written (f number) change None)) n)
        by true = after_insert key (written number change None) m n are
        by false = are
    after_put quota number key change m n (Some r) are = after_insert key (written number change (Some r)) m n are

    after_put_if : (quota number : ℕ) (key : Bytes) (stamp : ℕ) (change : Named) (m n : Map) (old : Option Stamped) → AreRenumbered f m n
        → AreRenumbered f (map_after_put_if quota number key stamp change m old) (map_after_put_if quota (f number) key (f stamp) change n (rows old))
    after_put_if quota number key stamp change m n old are =
        subst (λ b. AreRenumbered f (map_after_put_if quota number key stamp change m old) (cond b (map_after_put quota (f number) key change n (rows old)) n)) (sym (met_now stamp old)) (by (eqb (stamp_in old) stamp))
      where
        by : (b : Bool) → AreRenumbered f (cond b (map_after_put quota number key change m old) m) (cond b (map_after_put quota (f number) key change n (rows old)) n)
        by true = after_put quota number key change m n old are
        by false = are

    after_now : (quota number : ℕ) (c : Command) (m n : Map) → AreRenumbered f m n → AreRenumbered f (map_after quota number c m) (map_after quota (f number) (renumbered_command f c) n)
    unfolding map_after
    after_now quota number (Get key columns) m n are = are
    after_now quota number (Put key change) m n are =
        subst (λ old. AreRenumbered f (map_after_put quota number key change m (pairs.get m key)) (map_after_put quota (f number) key change n old)) (sym (are key)) (after_put quota number key change m n (pairs.get m key) are)
    after_now quota number (PutIf key stamp change) m n are =
        subst (λ old. AreRenumbered f (map_after_put_if quota number key stamp change m (pairs.get m key)) (map_after_put_if quota (f number) key (f stamp) change n old)) (sym (are key))
        (after_put_if quota number key stamp change m n (pairs.get m key) are)
    after_now quota number (Remove key) m n are = after_remove key m n are
    after_now quota number (Scan from after count columns) m n are = are

    -- and so on along a list of commands
    replies_now : (quota : ℕ) (m n : Map) → AreRenumbered f m n → (cs : List (ℕ × Command)) → replies quota n (map (renumbered_call f) cs) ≡ map (renumbered_reply f) (replies quota m cs)
    replies_now quota m n are [] = refl
    replies_now quota m n are (c ∷ cs) = λ i. reply_now quota c.1 m n are i ∷ replies_now quota (map_after quota c.0 c.1 m) (map_after quota (f c.0) (renumbered_command f c.1) n) (after_now quota c.0 c.1 m n are) cs i

-- two orders that hold the same commands of a tenant with other numbers tell it the same with these
pub renumbered_replies : (f : ℕ → ℕ) → IsRenumbering f → (quotas others : Quotas) (first starts : Maps) (story tale : Story) (placing order : Placing) (t : ℕ) → quotas t ≡ others t → AreRenumbered f (first t) (starts t)
    → commands_of tale t order ≡ map (renumbered_call f) (commands_of story t placing) → replies_of others tale t starts order ≡ map (renumbered_reply f) (replies_of quotas story t first placing)
renumbered_replies f is quotas others first starts story tale placing order t quota are commands =
    replies_of-commands_of others tale t starts order
    ∙ ap (replies (others t) (starts t)) commands
    ∙ ap (λ q. replies q (starts t) (map (renumbered_call f) (commands_of story t placing))) (sym quota)
    ∙ replies_now f is (quotas t) (first t) (starts t) are (commands_of story t placing)
    ∙ ap (map (renumbered_reply f)) (sym (replies_of-commands_of quotas story t first placing))
