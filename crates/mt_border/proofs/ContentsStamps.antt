-- What holds of each entry's owned key and stamp, after a publish and after a store: for the invariants of the crates above.
use Rattle.std.proofs.{Common.{◌≡◌, ◌≢◌, ◌<◌, ℕ, List, length, get_or, set, Some, refl, sym, subst, ◌∙◌, inl, inr, arith}, lemmas.Bool.cases_eq, lemmas.Option.same_Some}
use Rattle.std.proofs.{lemmas.List.{length-set, get_or-set_same, get_or-set_other}, lemmas.List.Elements.All-from_get_or}
use Rattle.mt_rows.specs.Rows.{Bytes, Columns}
use Rattle.mt_border.specs.{Held.{Pair, Stable}, declared.entry.Entry.Entry, Entry.pair_of, Entries.{IsBorder, IsMissing, with_entry}}
use Rattle.mt_border.specs.{Contents.{owned, key_at, HasKey, AreKeys, IsStamped, AllStamped}}
use Rattle.mt_border.proofs.{Edits.any_entry, ContentsKeys.{IsApart, owned_at, has_rewritten_key, order_of_key, missing_key, all_apart}}
use Rattle.mt_border.proofs.{ContentsFinds.apart_beside, ContentsEdits.{each-publish}}

-- of an entry, what holds of its key and of its pair's stamp
stamped_as : (P : ℕ × Bytes → ℕ → Type 0) (prefix : Bytes) (layer : ℕ) (e : Entry) (key : Bytes) (pair : Pair) → HasKey prefix layer e key → pair_of e.held ≡ Some pair → P (owned key) pair.stamp → IsStamped P prefix e
stamped_as P prefix layer e key pair has is known other same =
    subst (λ (p : Pair). P (owned (key_at prefix e p)) p.stamp) (same_Some pair other (sym is ∙ same))
    (subst (λ q. P q pair.stamp) (sym (owned_at prefix layer e key pair has is)) known)

-- what follows for each owned key and its stamp, from what holds of all, holds of all
pub stamped_weaker : (P Q : ℕ × Bytes → ℕ → Type 0) (prefix : Bytes) (entries : List Entry) → ((q : ℕ × Bytes) (s : ℕ) → P q s → Q q s) → AllStamped P prefix entries → AllStamped Q prefix entries
stamped_weaker P Q prefix entries weaker stamped k d inside pair is = weaker _ _ (stamped k d inside pair is)

-- the same for an entry of another key
stamped_beside : (P Q : ℕ × Bytes → ℕ → Type 0) (prefix : Bytes) (q : ℕ × Bytes) (e : Entry) → ((r : ℕ × Bytes) (s : ℕ) → r ≢ q → P r s → Q r s) → IsApart prefix q e → IsStamped P prefix e → IsStamped Q prefix e
stamped_beside P Q prefix q e weaker apart stamped pair is = weaker _ _ (apart pair is) (stamped pair is)

-- after a publish: what follows for other keys, and what is known of the new pair's
pub stamped_publish : (P Q : ℕ × Bytes → ℕ → Type 0) (prefix : Bytes) (layer : ℕ) (entries : List Entry) (e : Entry) (key : Bytes) (pair : Pair) → AreKeys prefix layer entries → HasKey prefix layer e key → IsMissing entries e.slice e.mark → pair_of e.held ≡ Some pair
    → ((r : ℕ × Bytes) (s : ℕ) → r ≢ owned key → P r s → Q r s) → Q (owned key) pair.stamp → AllStamped P prefix entries → AllStamped Q prefix (with_entry entries e)
stamped_publish P Q prefix layer entries e key pair keys has missing is weaker known stamped =
    let apart = all_apart prefix layer entries key keys has.of_tree (missing_key prefix layer entries e key has missing) in
    each-publish (IsStamped Q prefix) entries e
    (λ k d inside. stamped_beside P Q prefix (owned key) (get_or entries k d) weaker (apart k d inside) (stamped k d inside))
    (stamped_as Q prefix layer e key pair has is known)

-- of entries one of which has another row: what follows for other keys, and what is known of the row's
pub stamped_store : (P Q : ℕ × Bytes → ℕ → Type 0) (entries : List Entry) (place : ℕ) (pair : Pair) (row : Columns) (stamp : ℕ) → IsBorder entries → place < length entries → pair_of (get_or entries place any_entry).held ≡ Some pair
    → (prefix : Bytes) (layer : ℕ) (key : Bytes) → AreKeys prefix layer entries → HasKey prefix layer (get_or entries place any_entry) key
    → ((r : ℕ × Bytes) (s : ℕ) → r ≢ owned key → P r s → Q r s) → Q (owned key) stamp → AllStamped P prefix entries
    → AllStamped Q prefix (set entries place (record (get_or entries place any_entry) { held = Stable (record pair { row = row; stamp = stamp }) }))
stamped_store P Q entries place pair row stamp border live is prefix layer key keys has weaker known stamped =
    let old : Entry = get_or entries place any_entry in
    let entry : Entry = record (get_or entries place any_entry) { held = Stable (record pair { row = row; stamp = stamp }) } in
    let size = length-set entries place entry in
    let here : IsStamped Q prefix entry = stamped_as Q prefix layer entry key (record pair { row = row; stamp = stamp }) (has_rewritten_key prefix layer old key pair row stamp has is) refl known in
    All-from_get_or (IsStamped Q prefix) (set entries place entry) any_entry (λ k inside. elim (cases_eq k place) [
      | inl same ↦ rw (same, get_or-set_same entries place entry any_entry live) here
      | inr differ ↦ rw (get_or-set_other entries place k entry any_entry differ) (stamped_beside P Q prefix (owned key) (get_or entries k any_entry) weaker
          (apart_beside prefix layer entries key place border keys has.of_tree live (order_of_key prefix layer old key has) k any_entry (omega arith) differ)
          (stamped k any_entry (omega arith)))
    ])
