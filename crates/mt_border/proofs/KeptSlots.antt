-- Each edit of slots keeps them for those who remember one, and so do two: for keeping.rt.
use Rattle.std.proofs.Common.{◌≡◌, ◌≢◌, ℕ, zero, suc, ◌+◌, ◌<◌, ◌≤◌, true, false, List, [], ◌∷◌, length, get_or, set, Some, refl, sym, ap, subst, ◌∙◌, inl, inr, arith}
use Rattle.std.proofs.{lemmas.Bool.{cases_eq, cases_lt}, lemmas.Bool.Decides.nat_tests, lemmas.List.{get_or_default, get_or-set_same, get_or-set_other}}
use Rattle.std.proofs.lemmas.List.Edits.{length-insert, get_or-insert_below, get_or-insert_above, length-remove, get_or-remove_below, get_or-remove_above}
use Rattle.std.specs.{Prelude.{◌==◌, if◌then◌else◌}, List.{All, insert, remove}}
use Rattle.mt_slices.specs.{declared.mark.Mark.Mark, declared.mark.Mark.TheVariants.Long}
use Rattle.mt_order.{specs.Places.{Places, place_of_slot, order_with, order_without}, proofs.Once.{live_once, place_is, slot_there, no_place}}
use Rattle.mt_border.specs.{Held.{Held, Stable, Unstable, Link}, Slots.{Slotted, IsSlotted, held_in, listed, next_free, is_dropped}}
use Rattle.mt_border.specs.{Node.{Node, IsNodeSlots, IsLive, held_at, Rewrites}, Keeps.{GoesOn, IsLiveIn, KeepsSlots}}
use Rattle.mt_border.proofs.{Slotting.{next_apart, length-listed}, Writes.{held_is, slot_below}}

pub goes_same : (h : Held) → GoesOn h h
goes_same (Stable p) = refl
goes_same (Unstable p tree) = (refl, λ known. refl)
goes_same (Link u) = refl

pub goes_on : (a b c : Held) → GoesOn a b → GoesOn b c → GoesOn a c
goes_on (Stable p) (Stable q) (Stable r) x y = y ∙ x
goes_on (Stable p) (Stable q) (Unstable r tree) x y = y ∙ x
goes_on (Stable p) (Stable q) (Link u) x y = tt
goes_on (Stable p) (Unstable q tree) (Stable r) x y = absurd y
goes_on (Stable p) (Unstable q tree) (Unstable r other) x y = y.0 ∙ x
goes_on (Stable p) (Unstable q tree) (Link u) x y = tt
goes_on (Stable p) (Link u) (Stable r) x y = absurd y
goes_on (Stable p) (Link u) (Unstable r tree) x y = absurd y
goes_on (Stable p) (Link u) (Link v) x y = tt
goes_on (Unstable p tree) (Stable q) c x y = absurd x
goes_on (Unstable p tree) (Unstable q other) (Stable r) x y = absurd y
goes_on (Unstable p tree) (Unstable q other) (Unstable r third) x y = (y.0 ∙ x.0, λ known. let same = x.1 known in y.1 (rw same known) ∙ same)
goes_on (Unstable p tree) (Unstable q other) (Link u) x y = λ known. let same = x.1 known in sym same ∙ y (rw same known)
goes_on (Unstable p tree) (Link u) (Stable r) x y = absurd y
goes_on (Unstable p tree) (Link u) (Unstable r other) x y = absurd y
goes_on (Unstable p tree) (Link u) (Link v) x y = λ known. x known ∙ ap Some (sym y)
goes_on (Link u) (Stable q) c x y = absurd x
goes_on (Link u) (Unstable q tree) c x y = absurd x
goes_on (Link u) (Link v) (Stable r) x y = absurd y
goes_on (Link u) (Link v) (Unstable r tree) x y = absurd y
goes_on (Link u) (Link v) (Link w) x y = y ∙ x

-- nothing is done
pub kept_none : (s : Slotted) → KeepsSlots s s
kept_none s slot below = record {
  flag = λ f. f;
  live = λ l. inl l;
  slice = λ l m. refl;
  mark = λ l m. refl;
  held = λ l. goes_same (held_in s.helds slot);
  free = λ f d. (f, refl);
}

-- a slot that is live again was live all the time
pub kept_two : (s t u : Slotted) → KeepsSlots s t → KeepsSlots t u → KeepsSlots s u
kept_two s t u first second slot below =
    let a = first slot below in
    let b = second slot below in
    record {
      flag = λ f. b.flag (a.flag f);
      live = λ l. elim (a.live l) [
        | inl on ↦ b.live on
        | inr off ↦ inr (b.flag off.0, (b.free off.1 off.0).0)
      ];
      slice = λ l m. elim (a.live l) [
        | inl on ↦ b.slice on m ∙ a.slice l on
        | inr off ↦ absurd ((b.free off.1 off.0).0 m)
      ];
      mark = λ l m. elim (a.live l) [
        | inl on ↦ b.mark on m ∙ a.mark l on
        | inr off ↦ absurd ((b.free off.1 off.0).0 m)
      ];
      held = λ l. elim (a.live l) [
        | inl on ↦ goes_on (held_in s.helds slot) (held_in t.helds slot) (held_in u.helds slot) (a.held l) (b.held on)
        | inr off ↦ subst (GoesOn (held_in s.helds slot)) (sym (b.free off.1 off.0).1) (a.held l)
      ];
      free = λ f d. let one = a.free f d in let two = b.free one.0 (a.flag d) in (two.0, two.1 ∙ one.1);
    }

-- where what is held alone is written
kept_helds : (s : Slotted) (helds : List Held) → ((i : ℕ) → IsLiveIn s i → GoesOn (held_in s.helds i) (held_in helds i))
    → ((i : ℕ) → ¬ IsLiveIn s i → is_dropped s i ≡ true → held_in helds i ≡ held_in s.helds i) → KeepsSlots s (record s { helds = helds })
kept_helds s helds live free slot below = record {
  flag = λ f. f;
  live = λ l. inl l;
  slice = λ l m. refl;
  mark = λ l m. refl;
  held = λ l. live slot l;
  free = λ f d. (f, free slot f d);
}

pub kept_rewrites : (old new : Node) (slot : ℕ) (held : Held) → IsNodeSlots old.slots → IsLive old slot → Rewrites old new slot held → GoesOn (held_at old slot) held → KeepsSlots old.slots new.slots
kept_rewrites old new slot held sound live writes on =
    let s = old.slots in
    let is_live : IsLiveIn s slot = omega (arith, live, length-listed s sound.slotted) in
    let below = slot_below s slot sound.slotted live in
    let was : GoesOn (held_in s.helds slot) held = subst (λ h. GoesOn h held) (sym (held_is s slot sound.slotted live (Link 0))) on in
    subst (KeepsSlots s) (sym writes.helds) (kept_helds s (set s.helds slot held)
    (λ i l. elim (cases_eq i slot) [
      | inl same ↦ rw (same, get_or-set_same s.helds slot held (Link 0) below) was
      | inr differ ↦ rw (get_or-set_other s.helds slot i held (Link 0) differ) (goes_same (held_in s.helds i))
    ])
    (λ i f d. elim (cases_eq i slot) [
      | inl same ↦ absurd (f (rw same is_live))
      | inr differ ↦ get_or-set_other s.helds slot i held (Link 0) differ
    ]))

-- a slot that was never dropped is not one that was
apart_dropped : (s : Slotted) (i n : ℕ) → is_dropped s n ≡ false → is_dropped s i ≡ true → i ≢ n
apart_dropped s i n unflagged flagged same = absurd (let both = sym flagged ∙ ap (is_dropped s) same ∙ unflagged in cc)

-- and a live slot is not one that isn't there
apart_live : (s : Slotted) (i n : ℕ) → All (λ x. x ≢ n) s.order.live → IsLiveIn s i → i ≢ n
apart_live s i n apart live same = apart (place_of_slot s.order.live i) 0 live (slot_there s.order.live i live ∙ same)

pub kept_fills : (s : Slotted) (held : Held) → IsSlotted s → length (listed s) < 15 → is_dropped s (next_free s) ≡ false → KeepsSlots s (record s { helds = set s.helds (next_free s) held })
kept_fills s held slotted room unflagged =
    kept_helds s (set s.helds (next_free s) held)
    (λ i l. rw (get_or-set_other s.helds (next_free s) i held (Link 0) (apart_live s i (next_free s) (next_apart s slotted room) l)) (goes_same (held_in s.helds i)))
    (λ i f d. get_or-set_other s.helds (next_free s) i held (Link 0) (apart_dropped s i (next_free s) unflagged d))

-- where a slot stands among others, and among these with one more before it or behind
here : (a i n : ℕ) → a ≡ i → (if a == i then 0 else suc n) ≡ 0
here a i n same = grind (arith, nat_tests)

behind : (a i n : ℕ) → a ≢ i → (if a == i then 0 else suc n) ≡ suc n
behind a i n differ = grind (arith, nat_tests)

place_insert : (xs : List ℕ) (place n i : ℕ) → n ≢ i → place ≤ length xs
    → (place_of_slot xs i < place → place_of_slot (insert xs place n) i ≡ place_of_slot xs i) × (place ≤ place_of_slot xs i → place_of_slot (insert xs place n) i ≡ place_of_slot xs i + 1)
place_insert xs zero n i differ within = (λ lt. absurd (omega (arith, lt)), λ le. behind n i (place_of_slot xs i) differ ∙ omega arith)
place_insert [] (suc place) n i differ within = absurd (omega (arith, within))
place_insert (x ∷ xs) (suc place) n i differ within =
    let more = place_insert xs place n i differ (omega (arith, within)) in
    elim (cases_eq x i) [
      | inl same ↦
          let old = here x i (place_of_slot xs i) same in
          let new = here x i (place_of_slot (insert xs place n) i) same in
          (λ lt. new ∙ sym old, λ le. absurd (omega (arith, le, old)))
      | inr apart ↦
          let old = behind x i (place_of_slot xs i) apart in
          let new = behind x i (place_of_slot (insert xs place n) i) apart in
          (λ lt. new ∙ ap suc (more.0 (omega (arith, lt, old))) ∙ sym old, λ le. omega (arith, new, old, more.1 (omega (arith, le, old))))
    ]

-- and without the one of a place
place_remove : (xs : List ℕ) (place i : ℕ) → place < length xs → get_or xs place 0 ≢ i
    → (place_of_slot xs i < place → place_of_slot (remove xs place) i ≡ place_of_slot xs i) × (place ≤ place_of_slot xs i → place_of_slot (remove xs place) i + 1 ≡ place_of_slot xs i)
place_remove [] place i within differ = absurd (omega (arith, within))
place_remove (x ∷ xs) zero i within differ = let old = behind x i (place_of_slot xs i) differ in (λ lt. absurd (omega (arith, lt)), λ le. omega (arith, old))
place_remove (x ∷ xs) (suc place) i within differ =
    let more = place_remove xs place i (omega (arith, within)) differ in
    elim (cases_eq x i) [
      | inl same ↦
          let old = here x i (place_of_slot xs i) same in
          let new = here x i (place_of_slot (remove xs place) i) same in
          (λ lt. new ∙ sym old, λ le. absurd (omega (arith, le, old)))
      | inr apart ↦
          let old = behind x i (place_of_slot xs i) apart in
          let new = behind x i (place_of_slot (remove xs place) i) apart in
          (λ lt. new ∙ ap suc (more.0 (omega (arith, lt, old))) ∙ sym old, λ le. omega (arith, new, old, more.1 (omega (arith, le, old))))
    ]

-- what stands at a slot's place stays at its place
read_insert : {X : Type 0} (ys : List X) (xs : List ℕ) (place n i : ℕ) (y d : X) → n ≢ i → place ≤ length xs → length ys ≡ length xs
    → get_or (insert ys place y) (place_of_slot (insert xs place n) i) d ≡ get_or ys (place_of_slot xs i) d
read_insert ys xs place n i y d differ within long =
    let moved = place_insert xs place n i differ within in
    elim (cases_lt (place_of_slot xs i) place) [
      | inl before ↦ rw (moved.0 before) (get_or-insert_below ys place y d (place_of_slot xs i) before (omega (arith, within, long)))
      | inr from ↦ rw (moved.1 from) (get_or-insert_above ys place y d (place_of_slot xs i) from (omega (arith, within, long)))
    ]

read_remove : {X : Type 0} (ys : List X) (xs : List ℕ) (place i : ℕ) (d : X) → place < length xs → get_or xs place 0 ≢ i → length ys ≡ length xs
    → get_or (remove ys place) (place_of_slot (remove xs place) i) d ≡ get_or ys (place_of_slot xs i) d
read_remove ys xs place i d within differ long =
    let moved = place_remove xs place i within differ in
    elim (cases_lt (place_of_slot xs i) place) [
      | inl before ↦ rw (moved.0 before) (get_or-remove_below ys place d (place_of_slot xs i) before (omega (arith, within, long)))
      | inr from ↦
          let back = moved.1 from in
          get_or-remove_above ys place d (place_of_slot (remove xs place) i) (omega (arith, from, back, place_apart xs place i within differ)) (omega (arith, within, long)) ∙ ap (λ k. get_or ys k d) back
    ]
  where
    place_apart : (xs : List ℕ) (place i : ℕ) → place < length xs → get_or xs place 0 ≢ i → place_of_slot xs i ≢ place
    place_apart xs place i within differ same = differ (ap (λ k. get_or xs k 0) (sym same) ∙ slot_there xs i (omega (arith, same, within)))

-- a live slot stays live beside one that is made so
pub live_published : (s : Slotted) (place : ℕ) → IsSlotted s → length (listed s) < 15 → place ≤ length s.order.live → (i : ℕ) → IsLiveIn s i
    → place_of_slot (order_with s.order place).live i < length (order_with s.order place).live
live_published s place slotted room within i l =
    let n = next_free s in
    let xs = s.order.live in
    let size = length-insert xs place n within in
    let moved = place_insert xs place n i (λ same. apart_live s i n (next_apart s slotted room) l (sym same)) within in
    elim (cases_lt (place_of_slot xs i) place) [
      | inl before ↦ omega (arith, moved.0 before, l, size)
      | inr from ↦ omega (arith, moved.1 from, l, size)
    ]

pub kept_publishes : (s : Slotted) (place slice : ℕ) (mark : Mark) → IsSlotted s → length (listed s) < 15 → place ≤ length s.order.live → is_dropped s (next_free s) ≡ false
    → KeepsSlots s (record s { slices = insert s.slices place slice; marks = insert s.marks place mark; order = order_with s.order place })
kept_publishes s place slice mark slotted room within unflagged i below =
    let n = next_free s in
    let xs = s.order.live in
    let size = length-insert xs place n within in
    let other : IsLiveIn s i → n ≢ i = λ l same. apart_live s i n (next_apart s slotted room) l (sym same) in
    record {
      flag = λ f. f;
      live = λ l. inl (live_published s place slotted room within i l);
      slice = λ l m. read_insert s.slices xs place n i slice 0 (other l) within slotted.slices_are;
      mark = λ l m. read_insert s.marks xs place n i mark Long (other l) within (slotted.marks_are ∙ slotted.slices_are);
      held = λ l. goes_same (held_in s.helds i);
      free = λ f d.
          let differ : n ≢ i = λ same. apart_dropped s i n unflagged d (sym same) in
          let past : place ≤ place_of_slot xs i = elim (cases_lt (place_of_slot xs i) (length xs)) [
            | inl there ↦ absurd (f there)
            | inr gone ↦ omega (arith, gone, within)
          ] in
          let moved = (place_insert xs place n i differ within).1 past in
          (λ there. f (omega (arith, there, moved, size)), refl);
    }

-- the slot that was taken out is not there
gone : (o : Places) (place : ℕ) (slotted : (i j : ℕ) → i < length o.live → j < length o.live → get_or o.live i 0 ≡ get_or o.live j 0 → i ≡ j) → place < length o.live
    → All (λ x. x ≢ get_or o.live place 0) (remove o.live place)
gone o place once within k d lt same =
    let xs = o.live in
    let one = length-remove xs place within in
    elim (cases_lt k place) [
      | inl before ↦
          let read = get_or_default xs k 0 d (omega (arith, before, within)) ∙ sym (get_or-remove_below xs place d k before within) ∙ same in
          omega (arith, before, once k place (omega (arith, before, within)) within read)
      | inr from ↦
          let read = get_or_default xs (k + 1) 0 d (omega (arith, lt, one)) ∙ sym (get_or-remove_above xs place d k from within) ∙ same in
          omega (arith, from, once (k + 1) place (omega (arith, lt, one)) within read)
    ]

-- and beside one that is dropped
pub live_left : (s : Slotted) (place : ℕ) → IsSlotted s → place < length s.order.live → (i : ℕ) → IsLiveIn s i → i ≢ get_or s.order.live place 0
    → place_of_slot (order_without s.order place).live i < length (order_without s.order place).live
live_left s place slotted within i l differ =
    let xs = s.order.live in
    let size = length-remove xs place within in
    let moved = place_remove xs place i within (λ same. differ (sym same)) in
    elim (cases_lt (place_of_slot xs i) place) [
      | inl before ↦ omega (arith, moved.0 before, before, within, size)
      | inr from ↦ omega (arith, moved.1 from, l, size)
    ]

pub kept_lets_go : (s : Slotted) (place : ℕ) → IsSlotted s → place < length s.order.live
    → KeepsSlots s (record s { slices = remove s.slices place; marks = remove s.marks place; dropped = set s.dropped (get_or s.order.live place 0) true; order = order_without s.order place })
kept_lets_go s place slotted within i below =
    let xs = s.order.live in
    let slot = get_or xs place 0 in
    let size = length-remove xs place within in
    let left : place_of_slot (remove xs place) slot ≡ length (remove xs place) =
    no_place (remove xs place) slot (gone s.order place (λ a b la lb same. live_once s.order a b slotted.places la lb same) within) in
    record {
      flag = λ f. elim (cases_eq i slot) [
        | inl same ↦ rw same (get_or-set_same s.dropped slot true false (omega (arith, same, below, slotted.dropped_are)))
        | inr differ ↦ get_or-set_other s.dropped slot i true false differ ∙ f
      ];
      live = λ l. elim (cases_eq i slot) [
        | inl same ↦ inr (rw same (get_or-set_same s.dropped slot true false (omega (arith, same, below, slotted.dropped_are))), rw same (λ there. omega (arith, there, left)))
        | inr differ ↦ inl (live_left s place slotted within i l differ)
      ];
      slice = λ l m. read_remove s.slices xs place i 0 within (λ same. omega (arith, m, left, ap (place_of_slot (remove xs place)) same)) slotted.slices_are;
      mark = λ l m. read_remove s.marks xs place i Long within (λ same. omega (arith, m, left, ap (place_of_slot (remove xs place)) same)) (slotted.marks_are ∙ slotted.slices_are);
      held = λ l. goes_same (held_in s.helds i);
      free = λ f d.
          let differ : get_or xs place 0 ≢ i = λ same. f (rw (← same) (omega (arith, place_is s.order slot place slotted.places within refl, within))) in
          let past : place ≤ place_of_slot xs i = elim (cases_lt (place_of_slot xs i) (length xs)) [
            | inl there ↦ absurd (f there)
            | inr none ↦ omega (arith, none, within)
          ] in
          let moved = (place_remove xs place i within differ).1 past in
          (λ there. f (omega (arith, there, moved, size)), refl);
    }
