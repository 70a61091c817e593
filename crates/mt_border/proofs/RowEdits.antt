-- The entries of three rows are read and edited as the rows are: for the slots of a node.
use Rattle.std.proofs.Common.{◌≡◌, ℕ, zero, suc, ◌<◌, List, [], ◌∷◌, ◌++◌, length, get_or, set, take, drop, refl, sym, ap, ◌∙◌, arith}
use Rattle.std.proofs.lemmas.List.{length-take}
use Rattle.std.specs.{List.{insert, remove}, Prelude.map}
use Rattle.mt_slices.specs.declared.mark.Mark.{Mark}
use Rattle.mt_border.specs.{declared.entry.Entry.Entry, Held.Held, Entries.{slices, marks}, Rows.{entries_in, AreRows}, Restamps.{with_stamps, restamped}}

-- as many entries as slices
pub length-rows : (ss : List ℕ) (ms : List Mark) (hs : List Held) → length ms ≡ length ss → length hs ≡ length ss
    → length (entries_in ss ms hs) ≡ length ss
length-rows [] ms hs marks_are helds_are = refl
length-rows (s ∷ ss) [] hs marks_are helds_are = absurd (omega (arith, marks_are))
length-rows (s ∷ ss) (m ∷ ms) [] marks_are helds_are = absurd (omega (arith, helds_are))
length-rows (s ∷ ss) (m ∷ ms) (h ∷ hs) marks_are helds_are = ap suc (length-rows ss ms hs (omega (arith, marks_are)) (omega (arith, helds_are)))

-- the first row has their slices
pub slices-rows : (ss : List ℕ) (ms : List Mark) (hs : List Held) → length ms ≡ length ss → length hs ≡ length ss
    → slices (entries_in ss ms hs) ≡ ss
slices-rows [] ms hs marks_are helds_are = refl
slices-rows (s ∷ ss) [] hs marks_are helds_are = absurd (omega (arith, marks_are))
slices-rows (s ∷ ss) (m ∷ ms) [] marks_are helds_are = absurd (omega (arith, helds_are))
slices-rows (s ∷ ss) (m ∷ ms) (h ∷ hs) marks_are helds_are = ap (λ xs. s ∷ xs) (slices-rows ss ms hs (omega (arith, marks_are)) (omega (arith, helds_are)))

-- the second their marks
pub marks-rows : (ss : List ℕ) (ms : List Mark) (hs : List Held) → length ms ≡ length ss → length hs ≡ length ss
    → marks (entries_in ss ms hs) ≡ ms
marks-rows [] [] hs marks_are helds_are = refl
marks-rows [] (m ∷ ms) hs marks_are helds_are = absurd (omega (arith, marks_are))
marks-rows (s ∷ ss) [] hs marks_are helds_are = absurd (omega (arith, marks_are))
marks-rows (s ∷ ss) (m ∷ ms) [] marks_are helds_are = absurd (omega (arith, helds_are))
marks-rows (s ∷ ss) (m ∷ ms) (h ∷ hs) marks_are helds_are = ap (λ xs. m ∷ xs) (marks-rows ss ms hs (omega (arith, marks_are)) (omega (arith, helds_are)))

-- an entry is what stands at its place in each row
pub get_or-rows : (ss : List ℕ) (ms : List Mark) (hs : List Held) (i : ℕ) (d : Entry) → length ms ≡ length ss → length hs ≡ length ss
    → i < length ss → get_or (entries_in ss ms hs) i d ≡ record { slice = get_or ss i d.slice; mark = get_or ms i d.mark; held = get_or hs i d.held }
get_or-rows [] ms hs i d marks_are helds_are within = absurd (omega (arith, within))
get_or-rows (s ∷ ss) [] hs i d marks_are helds_are within = absurd (omega (arith, marks_are))
get_or-rows (s ∷ ss) (m ∷ ms) [] i d marks_are helds_are within = absurd (omega (arith, helds_are))
get_or-rows (s ∷ ss) (m ∷ ms) (h ∷ hs) zero d marks_are helds_are within = refl
get_or-rows (s ∷ ss) (m ∷ ms) (h ∷ hs) (suc i) d marks_are helds_are within = get_or-rows ss ms hs i d (omega (arith, marks_are)) (omega (arith, helds_are)) (omega (arith, within))

-- the first entries are those of the first places
pub take-rows : (n : ℕ) (ss : List ℕ) (ms : List Mark) (hs : List Held)
    → entries_in (take n ss) (take n ms) (take n hs) ≡ take n (entries_in ss ms hs)
take-rows zero ss ms hs = refl
take-rows (suc n) [] ms hs = refl
take-rows (suc n) (s ∷ ss) [] hs = refl
take-rows (suc n) (s ∷ ss) (m ∷ ms) [] = refl
take-rows (suc n) (s ∷ ss) (m ∷ ms) (h ∷ hs) = ap (λ xs. record { slice = s; mark = m; held = h } ∷ xs) (take-rows n ss ms hs)

-- and the others those of the others
pub drop-rows : (n : ℕ) (ss : List ℕ) (ms : List Mark) (hs : List Held) → length ms ≡ length ss → length hs ≡ length ss
    → entries_in (drop n ss) (drop n ms) (drop n hs) ≡ drop n (entries_in ss ms hs)
drop-rows zero ss ms hs marks_are helds_are = refl
drop-rows (suc n) [] ms hs marks_are helds_are = refl
drop-rows (suc n) (s ∷ ss) [] hs marks_are helds_are = absurd (omega (arith, marks_are))
drop-rows (suc n) (s ∷ ss) (m ∷ ms) [] marks_are helds_are = absurd (omega (arith, helds_are))
drop-rows (suc n) (s ∷ ss) (m ∷ ms) (h ∷ hs) marks_are helds_are = drop-rows n ss ms hs (omega (arith, marks_are)) (omega (arith, helds_are))

-- rows one behind another have the entries of both
pub append-rows : (ss : List ℕ) (ms : List Mark) (hs : List Held) (ss' : List ℕ) (ms' : List Mark) (hs' : List Held)
    → length ms ≡ length ss → length hs ≡ length ss
    → entries_in (ss ++ ss') (ms ++ ms') (hs ++ hs') ≡ entries_in ss ms hs ++ entries_in ss' ms' hs'
append-rows [] [] [] ss' ms' hs' marks_are helds_are = refl
append-rows [] (m ∷ ms) hs ss' ms' hs' marks_are helds_are = absurd (omega (arith, marks_are))
append-rows [] [] (h ∷ hs) ss' ms' hs' marks_are helds_are = absurd (omega (arith, helds_are))
append-rows (s ∷ ss) [] hs ss' ms' hs' marks_are helds_are = absurd (omega (arith, marks_are))
append-rows (s ∷ ss) (m ∷ ms) [] ss' ms' hs' marks_are helds_are = absurd (omega (arith, helds_are))
append-rows (s ∷ ss) (m ∷ ms) (h ∷ hs) ss' ms' hs' marks_are helds_are =
    ap (λ xs. record { slice = s; mark = m; held = h } ∷ xs) (append-rows ss ms hs ss' ms' hs' (omega (arith, marks_are)) (omega (arith, helds_are)))

-- the first places of rows of one length are as many
same_takes : {A B : Type 0} (n : ℕ) (xs : List A) (ys : List B) → length ys ≡ length xs → length (take n ys) ≡ length (take n xs)
same_takes n xs ys same = omega (arith, same, length-take n xs, length-take n ys)

-- to put an entry in is to put in its parts
pub insert-rows : (ss : List ℕ) (ms : List Mark) (hs : List Held) (at : ℕ) (e : Entry) → length ms ≡ length ss → length hs ≡ length ss
    → entries_in (insert ss at e.slice) (insert ms at e.mark) (insert hs at e.held) ≡ insert (entries_in ss ms hs) at e
insert-rows ss ms hs at e marks_are helds_are =
    append-rows (take at ss) (take at ms) (take at hs) (e.slice ∷ drop at ss) (e.mark ∷ drop at ms) (e.held ∷ drop at hs)
    (same_takes at ss ms marks_are) (same_takes at ss hs helds_are)
    ∙ rw (take-rows at ss ms hs, drop-rows at ss ms hs marks_are helds_are) refl

-- to take one out is to take out its parts
pub remove-rows : (ss : List ℕ) (ms : List Mark) (hs : List Held) (at : ℕ) → length ms ≡ length ss → length hs ≡ length ss
    → entries_in (remove ss at) (remove ms at) (remove hs at) ≡ remove (entries_in ss ms hs) at
remove-rows ss ms hs at marks_are helds_are =
    append-rows (take at ss) (take at ms) (take at hs) (drop (suc at) ss) (drop (suc at) ms) (drop (suc at) hs)
    (same_takes at ss ms marks_are) (same_takes at ss hs helds_are)
    ∙ rw (take-rows at ss ms hs, drop-rows (suc at) ss ms hs marks_are helds_are) refl

-- and to write over what one holds is to write it in the third row
pub set-rows : (ss : List ℕ) (ms : List Mark) (hs : List Held) (i : ℕ) (h : Held) (d : Entry) → length ms ≡ length ss → length hs ≡ length ss
    → i < length ss
    → entries_in ss ms (set hs i h) ≡ set (entries_in ss ms hs) i (record (get_or (entries_in ss ms hs) i d) { held = h })
set-rows [] ms hs i h d marks_are helds_are within = absurd (omega (arith, within))
set-rows (s ∷ ss) [] hs i h d marks_are helds_are within = absurd (omega (arith, marks_are))
set-rows (s ∷ ss) (m ∷ ms) [] i h d marks_are helds_are within = absurd (omega (arith, helds_are))
set-rows (s ∷ ss) (m ∷ ms) (x ∷ hs) zero h d marks_are helds_are within = refl
set-rows (s ∷ ss) (m ∷ ms) (x ∷ hs) (suc i) h d marks_are helds_are within =
    ap (λ xs. record { slice = s; mark = m; held = x } ∷ xs) (set-rows ss ms hs i h d (omega (arith, marks_are)) (omega (arith, helds_are)) (omega (arith, within)))

-- each row is as long as the entries
pub sizes-rows : (ss : List ℕ) (ms : List Mark) (hs : List Held) (es : List Entry) → AreRows ss ms hs → entries_in ss ms hs ≡ es
    → (length ss ≡ length es) × (length ms ≡ length es) × (length hs ≡ length es)
sizes-rows ss ms hs es rows view_is =
    let size = length-rows ss ms hs rows.marks_are rows.helds_are in
    let same = ap length view_is in
    (omega (arith, size, same), omega (arith, size, same, rows.marks_are), omega (arith, size, same, rows.helds_are))

-- what was read at one place of each row is the entry there
pub read-rows : (ss : List ℕ) (ms : List Mark) (hs : List Held) (es : List Entry) (i : ℕ) (e : Entry) → AreRows ss ms hs → entries_in ss ms hs ≡ es
    → i < length es → e.slice ≡ get_or ss i e.slice → e.mark ≡ get_or ms i e.mark → e.held ≡ get_or hs i e.held → e ≡ get_or es i e
read-rows ss ms hs es i e rows view_is within slice_is mark_is held_is =
    let size = sizes-rows ss ms hs es rows view_is in
    sym (rw (← view_is) (get_or-rows ss ms hs i e rows.marks_are rows.helds_are (omega (arith, within, size.0)) ∙ rw (← slice_is, ← mark_is, ← held_is) refl))

none : {A : Type 0} (xs : List A) → length xs ≡ 0 → xs ≡ []
none [] empty = refl
none (x ∷ xs) empty = absurd (omega (arith, empty))

-- where there is no entry each row is empty
pub none-rows : (ss : List ℕ) (ms : List Mark) (hs : List Held) (es : List Entry) → AreRows ss ms hs → entries_in ss ms hs ≡ es → es ≡ []
    → (ss ≡ []) × (ms ≡ []) × (hs ≡ [])
none-rows ss ms hs es rows view_is empty =
    let size = sizes-rows ss ms hs es rows view_is in
    let zero_is = ap length empty in
    (none ss (omega (arith, size.0, zero_is)), none ms (omega (arith, size.1, zero_is)), none hs (omega (arith, size.2, zero_is)))

-- what is held is stamped anew row by row
pub stamp-rows : (f : ℕ → ℕ) (ss : List ℕ) (ms : List Mark) (hs : List Held) → entries_in ss ms (map (with_stamps f) hs) ≡ map (restamped f) (entries_in ss ms hs)
stamp-rows f [] ms hs = refl
stamp-rows f (x ∷ ss) [] hs = refl
stamp-rows f (x ∷ ss) (m ∷ ms) [] = refl
stamp-rows f (x ∷ ss) (m ∷ ms) (h ∷ hs) = ap (λ xs. record { slice = x; mark = m; held = with_stamps f h } ∷ xs) (stamp-rows f ss ms hs)
