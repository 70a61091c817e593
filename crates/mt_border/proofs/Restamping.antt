-- Other stamps leave the keys, their order and the columns: for the crates above.
use Rattle.std.proofs.{Common.{◌≡◌, ℕ, List, [], ◌∷◌, length, Some, refl, sym, ap, subst, ◌∙◌, arith, None, Option, map}, lemmas.Option.{same_Some, none-some}}
use Rattle.std.proofs.{lemmas.List.length-map, lemmas.List.Elements.All-map}
use Rattle.std.specs.{Prelude.filter_map, List.{All, cons_option}, Option.option_map}
use Rattle.mt_lists.specs.Rising.{IsRising}
use Rattle.mt_slices.specs.declared.mark.Mark.{Mark}
use Rattle.mt_rows.specs.{Rows.Bytes, Stamps.Stamped}
use Rattle.mt_border.specs.{Held.{Pair, Held, Stable, Unstable, Link}, declared.entry.Entry.Entry, Entry.{pair_of, order_of, CanHold, IsEntry}}
use Rattle.mt_border.specs.{Entries.{orders, slices, IsBorder}, Contents.{owned, key_at, pair_in, HasKey, AreKeys, IsStamped, AllStamped}}
use Rattle.mt_border.specs.Restamps.{with_stamps, restamped, all_restamped, restamped_pair}

-- a pair with another stamp is a pair that was there, with another stamp
pub pair_stamped : (f : ℕ → ℕ) (held : Held) (other : Pair) → pair_of (with_stamps f held) ≡ Some other → (pair : Pair) × (pair_of held ≡ Some pair) × (other ≡ record pair { stamp = f pair.stamp })
pair_stamped f (Stable pair) other is = (pair, refl, sym (same_Some _ _ is))
pair_stamped f (Unstable pair tree) other is = (pair, refl, sym (same_Some _ _ is))
pair_stamped f (Link tree) other is = absurd (none-some other is)

can_stamped : (f : ℕ → ℕ) (mark : Mark) (held : Held) → CanHold mark held → CanHold mark (with_stamps f held)
can_stamped f mark (Stable pair) can = can
can_stamped f mark (Unstable pair tree) can = can
can_stamped f mark (Link tree) can = can

entry_restamped : (f : ℕ → ℕ) (e : Entry) → IsEntry e → IsEntry (restamped f e)
entry_restamped f e h = record { mark = h.mark; held = can_stamped f e.mark e.held h.held }

pub orders-restamped : (f : ℕ → ℕ) (es : List Entry) → orders (all_restamped f es) ≡ orders es
orders-restamped f [] = refl
orders-restamped f (e ∷ es) = ap (λ os. order_of e ∷ os) (orders-restamped f es)

pub slices-restamped : (f : ℕ → ℕ) (es : List Entry) → slices (all_restamped f es) ≡ slices es
slices-restamped f [] = refl
slices-restamped f (e ∷ es) = ap (λ os. e.slice ∷ os) (slices-restamped f es)

pub length-restamped : (f : ℕ → ℕ) (es : List Entry) → length (all_restamped f es) ≡ length es
length-restamped f es = length-map es (restamped f)

-- what holds of each entry with its stamp holds of all
pub each-restamped : (P : Entry → Type 0) (Q : Entry → Type 0) (f : ℕ → ℕ) (es : List Entry) → ((e : Entry) → P e → Q (restamped f e)) → All P es → All Q (all_restamped f es)
each-restamped P Q f es so all = All-map Q (restamped f) es (λ k d inside. so _ (all k d inside))

-- the entries are those of a border node
pub border-restamped : (f : ℕ → ℕ) (es : List Entry) → IsBorder es → IsBorder (all_restamped f es)
border-restamped f es h = record {
  within = omega (arith, length-restamped f es, h.within);
  each = each-restamped IsEntry IsEntry f es (entry_restamped f) h.each;
  rising = subst IsRising (sym (orders-restamped f es)) h.rising;
}

-- each stands for its key
pub has_restamped : (f : ℕ → ℕ) (prefix : Bytes) (layer : ℕ) (e : Entry) (key : Bytes) → HasKey prefix layer e key → HasKey prefix layer (restamped f e) key
has_restamped f prefix layer e key h = record {
  of_tree = h.of_tree;
  slice = h.slice;
  mark = h.mark;
  suffix = λ other is.
      let p = pair_stamped f e.held other is in
      ap (λ (q : Pair). q.suffix) p.2 ∙ h.suffix p.0 p.1;
}

pub keys-restamped : (f : ℕ → ℕ) (prefix : Bytes) (layer : ℕ) (es : List Entry) → AreKeys prefix layer es → AreKeys prefix layer (all_restamped f es)
keys-restamped f prefix layer es keys =
    each-restamped (λ e. (key : Bytes) × HasKey prefix layer e key) (λ e. (key : Bytes) × HasKey prefix layer e key) f es (λ e h. (h.0, has_restamped f prefix layer e h.0 h.1)) keys

-- and for its row, with that stamp
held_in : (f : ℕ → ℕ) (prefix : Bytes) (e : Entry) (held : Held) → pair_in prefix (record e { held = with_stamps f held }) ≡ option_map (restamped_pair f) (pair_in prefix (record e { held = held }))
held_in f prefix e (Stable pair) = refl
held_in f prefix e (Unstable pair tree) = refl
held_in f prefix e (Link tree) = refl

map_cons : (f : ℕ → ℕ) (o : Option ((ℕ × Bytes) × Stamped)) (ps : List ((ℕ × Bytes) × Stamped)) → cons_option (option_map (restamped_pair f) o) (map (restamped_pair f) ps) ≡ map (restamped_pair f) (cons_option o ps)
map_cons f None ps = refl
map_cons f (Some p) ps = refl

pub pairs-restamped : (f : ℕ → ℕ) (prefix : Bytes) (es : List Entry) → filter_map (pair_in prefix) (all_restamped f es) ≡ map (restamped_pair f) (filter_map (pair_in prefix) es)
pairs-restamped f prefix [] = refl
pairs-restamped f prefix (e ∷ es) =
    ap (λ o. cons_option o (filter_map (pair_in prefix) (all_restamped f es))) (held_in f prefix e e.held)
    ∙ ap (cons_option (option_map (restamped_pair f) (pair_in prefix e))) (pairs-restamped f prefix es)
    ∙ map_cons f (pair_in prefix e) (filter_map (pair_in prefix) es)

-- what holds of each owned key and its stamp gives what holds with the other stamps
stamped_so : (P Q : ℕ × Bytes → ℕ → Type 0) (f : ℕ → ℕ) (prefix : Bytes) (e : Entry) → ((q : ℕ × Bytes) (s : ℕ) → P q s → Q q (f s)) → IsStamped P prefix e → IsStamped Q prefix (restamped f e)
stamped_so P Q f prefix e so stamped other is =
    let p = pair_stamped f e.held other is in
    subst (λ (x : Pair). Q (owned (key_at prefix (restamped f e) x)) x.stamp) (sym p.2) (so _ _ (stamped p.0 p.1))

pub all-restamped : (P Q : ℕ × Bytes → ℕ → Type 0) (f : ℕ → ℕ) (prefix : Bytes) (es : List Entry) → ((q : ℕ × Bytes) (s : ℕ) → P q s → Q q (f s)) → AllStamped P prefix es
    → AllStamped Q prefix (all_restamped f es)
all-restamped P Q f prefix es so all = All-map (IsStamped Q prefix) (restamped f) es (λ k d inside. stamped_so P Q f prefix _ so (all k d inside))
