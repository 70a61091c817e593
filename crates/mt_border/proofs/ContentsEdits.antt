-- What a publish and a store in a border node are for the contents, and what they keep: for the law of contents and the crates above.
use Rattle.std.proofs.{Common.{◌≡◌, ℕ, ◌+◌, List, length, set, Some, sym, refl, ap, subst, ◌∙◌}, lemmas.List.Edits.length-insert}
use Rattle.std.proofs.lemmas.List.Elements.{All-take, All-set}
use Rattle.std.specs.{List.All, FinMap.insert}
use Rattle.mt_rows.specs.Rows.{Bytes, Columns}
use Rattle.mt_border.specs.{Held.{Pair, Held, Stable}, declared.entry.Entry.Entry, Entry.{pair_of, order_of}}
use Rattle.mt_border.specs.{Entries.{IsBorder, IsMissing, place_in, with_entry}, Node.{Node, entries_of, entry_at, place_at, IsLive, Rewrites}}
use Rattle.mt_border.specs.Contents.{owned, contents_of, HasKey, AreKeys, row_of}
use Rattle.mt_border.proofs.Edits.{any_entry, place_in-le, All-insert, replaced_at}
use Rattle.mt_border.proofs.ContentsKeys.{IsApart, owned_at, has_rewritten_key, order_of_key, missing_key, all_apart}
use Rattle.mt_border.proofs.{ContentsLists.{contents-insert, contents-set}, ContentsFinds.apart_before}

-- a publish makes one entry more
pub length-publish : (entries : List Entry) (e : Entry) → length (with_entry entries e) ≡ length entries + 1
length-publish entries e = length-insert entries (place_in entries (order_of e)) e (place_in-le entries (order_of e))

-- what holds of each entry, and of the new one, holds of each after a publish
pub each-publish : (Q : Entry → Type 0) (entries : List Entry) (e : Entry) → All Q entries → Q e → All Q (with_entry entries e)
each-publish Q entries e all one = All-insert Q entries (place_in entries (order_of e)) e all one

-- so each stands for a key still
pub keys-publish : (prefix : Bytes) (layer : ℕ) (entries : List Entry) (e : Entry) (key : Bytes) → AreKeys prefix layer entries → HasKey prefix layer e key → AreKeys prefix layer (with_entry entries e)
keys-publish prefix layer entries e key keys has = each-publish (λ e. (key : Bytes) × HasKey prefix layer e key) entries e keys (key, has)

-- to publish the pair of a missing key is to insert it
pub contents-publish : (prefix : Bytes) (layer : ℕ) (entries : List Entry) (e : Entry) (key : Bytes) (pair : Pair) → AreKeys prefix layer entries → HasKey prefix layer e key → IsMissing entries e.slice e.mark → pair_of e.held ≡ Some pair
    → contents_of prefix (with_entry entries e) ≡ insert (contents_of prefix entries) (owned key) (row_of pair)
contents-publish prefix layer entries e key pair keys has missing is =
    let apart = all_apart prefix layer entries key keys has.of_tree (missing_key prefix layer entries e key has missing) in
    contents-insert prefix (owned key) entries (place_in entries (order_of e)) e pair is (owned_at prefix layer e key pair has is) (All-take (IsApart prefix (owned key)) (place_in entries (order_of e)) entries apart)

-- one slot of a border that holds something else
module _ (old new : Node) (slot : ℕ) (held : Held) (border : IsBorder (entries_of old)) (live : IsLive old slot) (writes : Rewrites old new slot held) where
  -- the entries are the old ones but for that slot's
  pub slots-store : entries_of new ≡ set (entries_of old) (place_at old slot) (record (entry_at old slot) { held = held })
  slots-store = writes.entries ∙ replaced_at (entries_of old) (place_at old slot) (record (entry_at old slot) { held = held }) any_entry border.rising live refl

  -- what holds of each entry, and of the new one, holds of each after a store
  pub each-store : (Q : Entry → Type 0) → All Q (entries_of old) → Q (record (entry_at old slot) { held = held }) → All Q (entries_of new)
  each-store Q all one = subst (All Q) (sym slots-store) (All-set Q (entries_of old) (place_at old slot) (record (entry_at old slot) { held = held }) one all)

-- a store of a row and its stamp in the slot that stands for a key
module _ (old new : Node) (slot : ℕ) (pair : Pair) (row : Columns) (stamp : ℕ) (border : IsBorder (entries_of old)) (live : IsLive old slot)
    (is : pair_of (entry_at old slot).held ≡ Some pair) (writes : Rewrites old new slot (Stable (record pair { row = row; stamp = stamp }))) where
  abbrev entry : Entry
  entry = record (entry_at old slot) { held = Stable (record pair { row = row; stamp = stamp }) }

  module _ (prefix : Bytes) (layer : ℕ) (key : Bytes) (keys : AreKeys prefix layer (entries_of old)) (has : HasKey prefix layer (entry_at old slot) key) where
    -- each entry stands for a key still
    pub keys-store : AreKeys prefix layer (entries_of new)
    keys-store = each-store old new slot _ border live writes (λ e. (key : Bytes) × HasKey prefix layer e key) keys (key, has_rewritten_key prefix layer (entry_at old slot) key pair row stamp has is)

    -- to store a row is to insert it with its stamp over the old one
    pub contents-store : contents_of prefix (entries_of new) ≡ insert (contents_of prefix (entries_of old)) (owned key) (record { stamp = stamp; row = row })
    contents-store =
        ap (contents_of prefix) (slots-store old new slot _ border live writes)
        ∙ contents-set prefix (owned key) (entries_of old) (place_at old slot) entry any_entry pair (record pair { row = row; stamp = stamp }) live is
        (owned_at prefix layer (entry_at old slot) key pair has is) refl
        (owned_at prefix layer entry key (record pair { row = row; stamp = stamp }) (has_rewritten_key prefix layer (entry_at old slot) key pair row stamp has is) refl)
        (apart_before prefix layer (entries_of old) key (place_at old slot) border keys has.of_tree live (order_of_key prefix layer (entry_at old slot) key has))
