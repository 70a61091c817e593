-- One slot of a border node leads a key to a tree: which one is found where the key is looked for.
use Rattle.std.proofs.Common.{◌≡◌, ◌≢◌, ℕ, ◌<◌, length, IsSomeAnd, sym, ap, subst, ◌∙◌}
use Rattle.mt_slices.specs.Slices.{suffix_of}
use Rattle.mt_rows.specs.Rows.{Bytes}
use Rattle.mt_border.specs.{Held.Held, Held.{Stable, Unstable, Link}, Held.Pair}
use Rattle.mt_border.specs.{declared.entry.FoundKind.FoundKind, declared.entry.FoundKind.TheVariants.{ThisKey, OtherLong, Link as ToTree}}
use Rattle.mt_border.specs.Entry.{pair_of, IsLink}
use Rattle.mt_arena.{specs.{NodeView.place_at, Layers.slot_at, Arena.{ArenaView, IsArena}, Accesses.at}, proofs.Places.same_slot}
use Rattle.mt_descent.specs.KeptWalks.{IsInSlot}
use Rattle.mt_remove.specs.CleanLayer.{LeadsTo}

-- a slot with a pair has no link
no_pair : (held : Held) (P : Pair → Type 0) → IsLink held → IsSomeAnd (pair_of held) P → ⊥
no_pair (Stable pair) P link some = link
no_pair (Unstable pair other) P link some = link
no_pair (Link other) P link some = some

-- nor has it another one
one_link : (held : Held) (one other : ℕ) → held ≡ Link one → held ≡ Link other → one ≡ other
one_link held one other is too = let same : Link one ≡ Link other = sym is ∙ too in cc

module _ (v : ArenaView) (k : ℕ) (key : Bytes) (layer tree : ℕ) where
  module _ (arena : IsArena v.nodes v.trees) (there : k < length v.nodes) (found : ℕ) where
    one_slot : (kind other : FoundKind) → IsInSlot (at v k) found key layer kind → (slot : ℕ) → IsInSlot (at v k) slot key layer other → place_at (at v k) found ≡ place_at (at v k) slot
    one_slot kind other is slot too =
        same_slot v.nodes k (place_at (at v k) found) (place_at (at v k) slot) arena.nodes there is.in_range too.in_range (is.slice_is ∙ sym too.slice_is) (is.mark_is ∙ sym too.mark_is)

    link_in : (slot : ℕ) → place_at (at v k) found ≡ place_at (at v k) slot → IsInSlot (at v k) slot key layer ToTree → IsLink (slot_at (at v k) (place_at (at v k) found)).held
    link_in slot same link = subst (λ i. IsLink (slot_at (at v k) i).held) (sym same) link.kind_is.1

    -- where it has a pair, of the key or of another one, no slot has a link for it
    pub no_link_here : IsInSlot (at v k) found key layer ThisKey → (slot : ℕ) → IsInSlot (at v k) slot key layer ToTree → ⊥
    no_link_here is slot link =
        no_pair (slot_at (at v k) (place_at (at v k) found)).held (λ pair. pair.suffix ≡ suffix_of key layer) (link_in slot (one_slot ThisKey ToTree is slot link) link) is.kind_is

    pub no_link_long : IsInSlot (at v k) found key layer OtherLong → (slot : ℕ) → IsInSlot (at v k) slot key layer ToTree → ⊥
    no_link_long is slot link =
        no_pair (slot_at (at v k) (place_at (at v k) found)).held (λ pair. pair.suffix ≢ suffix_of key layer) (link_in slot (one_slot OtherLong ToTree is slot link) link) is.kind_is.1

    pub none_here : IsInSlot (at v k) found key layer ThisKey → (slot : ℕ) → LeadsTo (at v k) key layer tree slot → ⊥
    none_here is slot leads = no_link_here is slot leads.in_slot

    pub none_long : IsInSlot (at v k) found key layer OtherLong → (slot : ℕ) → LeadsTo (at v k) key layer tree slot → ⊥
    none_long is slot leads = no_link_long is slot leads.in_slot

    -- and where it has a link to another tree
    pub none_other : IsInSlot (at v k) found key layer ToTree → (other : ℕ) → (slot_at (at v k) (place_at (at v k) found)).held ≡ Link other → other ≢ tree
        → (slot : ℕ) → LeadsTo (at v k) key layer tree slot → ⊥
    none_other is other link apart slot leads =
        apart (one_link (slot_at (at v k) (place_at (at v k) found)).held other tree link (ap (λ i. (slot_at (at v k) i).held) (one_slot ToTree ToTree is slot leads.in_slot) ∙ leads.link))
