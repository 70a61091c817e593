-- The maps that a tape tells of: after its last write, before a new one, after a trim, at each write and between writes. For the laws and the crates above.
use Rattle.std.proofs.Common.{◌≡◌, ◌≢◌, ℕ, ◌+◌, ◌<◌, ◌≤◌, ltb, List, [], ◌∷◌, ◌++◌, get_or, refl, sym, ap, ◌∙◌, arith, ◌⊎◌, inl, inr, ⊎_elim, false}
use Rattle.std.proofs.{lemmas.Bool.{ltb-true, cases_lt, cases_eq}, lemmas.List.Elements.{All-head, All-tail, All-push, All-filter, All-contains, filter_passes}}
use Rattle.std.specs.{List.{All, Contains}, FinMap.get}
use Rattle.mt_rows.{specs.{Rows.Bytes, Maps.Map, Tenants.{Contents, tenant_map}}, proofs.ContentLaws.get-tenant_map}
use Rattle.mt_tape.specs.{declared.entry.Entry.Entry, Tapes.{RisesOver, last_step_over, later_entries}}
use Rattle.mt_tape.specs.Histories.{with_row, written_key, with_write, without_write, undone, contents_at, map_at, is_changed, IsLegalTape, IsNextWrite, IsQuietStep, IsQuietFor, IsUnwrittenSince, after_of}
use Rattle.mt_tape.proofs.EntryLaws.{later_entries-kept, later_entries-dropped, later_entries-past_last, later_entries-push, later_entries-later_entries, later_entries-quiet, later_entries-before}
pub use Rattle.mt_tape.proofs.EntryLaws.{all_upto_last, rises-push, last_step_over-push, rises-later_entries, last_step_over-later_entries, is_changed-past_last, is_changed-push_other, is_changed-push, is_changed-later_entries, quiet_where_unchanged}
pub use Rattle.mt_tape.proofs.RowLaws.{get-with_row_same, get-with_row_other, with_row-put_back, tenant_map-with_row, tenant_map-with_row_other}

-- a list with one more entry at the end is undone from that entry on
undone-push : (entries : List Entry) (e : Entry) (contents : Contents) → undone (entries ++ e ∷ []) contents ≡ undone entries (without_write contents e)
undone-push [] e contents = refl
undone-push (x ∷ entries) e contents = ap (λ (c : Contents). without_write c x) (undone-push entries e contents)

-- from the last write on, the pairs are those of now
pub contents_at-now : (floor m : ℕ) (entries : List Entry) (contents : Contents) → RisesOver floor entries → last_step_over floor entries ≤ m → contents_at entries contents m ≡ contents
contents_at-now floor m entries contents rises le = ap (λ es. undone es contents) (later_entries-past_last floor m entries rises le)

-- so is each tenant's map
pub map_at-now : (floor m : ℕ) (entries : List Entry) (contents : Contents) (t : ℕ) → RisesOver floor entries → last_step_over floor entries ≤ m → map_at entries contents t m ≡ tenant_map t contents
map_at-now floor m entries contents t rises le = ap (tenant_map t) (contents_at-now floor m entries contents rises le)

-- a new write leaves what was before its step
pub contents_at-push : (floor m : ℕ) (entries : List Entry) (contents : Contents) (e : Entry) → IsNextWrite floor entries contents e → m < e.step
    → contents_at (entries ++ e ∷ []) (with_write contents e) m ≡ contents_at entries contents m
contents_at-push floor m entries contents e next lt =
    ap (λ es. undone es (with_write contents e)) (later_entries-push m entries e lt)
    ∙ undone-push (later_entries m entries) e (with_write contents e)
    ∙ ap (undone (later_entries m entries)) (with_row-put_back contents (written_key e) (after_of e) e.before next.before)

-- in each tenant's map too
pub map_at-push : (floor m : ℕ) (entries : List Entry) (contents : Contents) (e : Entry) (t : ℕ) → IsNextWrite floor entries contents e → m < e.step
    → map_at (entries ++ e ∷ []) (with_write contents e) t m ≡ map_at entries contents t m
map_at-push floor m entries contents e t next lt = ap (tenant_map t) (contents_at-push floor m entries contents e next lt)

-- and from its step on the pairs are the new ones
pub contents_at-pushed : (floor m : ℕ) (entries : List Entry) (contents : Contents) (e : Entry) → RisesOver floor entries → last_step_over floor entries < e.step → e.step ≤ m
    → contents_at (entries ++ e ∷ []) contents m ≡ contents
contents_at-pushed floor m entries contents e rises later le =
    contents_at-now floor m (entries ++ e ∷ []) contents (rises-push floor entries e rises later) (omega (arith, last_step_over-push floor entries e))

-- a tape stays legal when a write is added
pub legal-push : (floor : ℕ) (entries : List Entry) (contents : Contents) (e : Entry) → RisesOver floor entries → IsNextWrite floor entries contents e → IsLegalTape entries contents
    → IsLegalTape (entries ++ e ∷ []) (with_write contents e)
legal-push floor entries contents e rises next legal =
    All-push (λ x. get (contents_at (entries ++ e ∷ []) (with_write contents e) x.step) (written_key x) ≡ after_of x) entries e
    (λ k d in_.
    let x : Entry = get_or entries k d in
    let up = all_upto_last floor entries rises k d in_ in
    let later = next.later in
    ap (λ (c : Contents). get c (written_key x)) (contents_at-push floor x.step entries contents e next (omega arith)) ∙ legal k d in_)
    (ap (λ (c : Contents). get c (written_key e)) (contents_at-pushed floor e.step entries (with_write contents e) e rises next.later (omega arith))
    ∙ get-with_row_same contents (written_key e) (after_of e))

-- giving up the entries up to a floor leaves the pairs from the floor on
pub contents_at-trim : (floor m : ℕ) (entries : List Entry) (contents : Contents) → floor ≤ m → contents_at (later_entries floor entries) contents m ≡ contents_at entries contents m
contents_at-trim floor m entries contents le = ap (λ es. undone es contents) (later_entries-later_entries floor m entries le)

-- in each tenant's map too
pub map_at-trim : (floor m : ℕ) (entries : List Entry) (contents : Contents) (t : ℕ) → floor ≤ m → map_at (later_entries floor entries) contents t m ≡ map_at entries contents t m
map_at-trim floor m entries contents t le = ap (tenant_map t) (contents_at-trim floor m entries contents le)

-- and the tape legal
pub legal-trim : (floor : ℕ) (entries : List Entry) (contents : Contents) → IsLegalTape entries contents → IsLegalTape (later_entries floor entries) contents
legal-trim floor entries contents legal =
    let kept = All-filter (λ x. ltb floor x.step) (λ x. get (contents_at entries contents x.step) (written_key x) ≡ after_of x) entries legal in
    let after = filter_passes (λ x. ltb floor x.step) entries in
    λ k d in_.
    let x : Entry = get_or (later_entries floor entries) k d in
    let lt = ltb-true floor x.step (after k d in_) in
    ap (λ (c : Contents). get c (written_key x)) (contents_at-trim floor x.step entries contents (omega arith)) ∙ kept k d in_

-- writes of other keys undone leave a key's row
get-undone_others : (key : ℕ × Bytes) (entries : List Entry) (contents : Contents) → All (λ e. written_key e ≢ key) entries → get (undone entries contents) key ≡ get contents key
get-undone_others key [] contents h = refl
get-undone_others key (e ∷ entries) contents h =
    get-with_row_other (undone entries contents) (written_key e) e.before key (All-head (λ x. written_key x ≢ key) e entries h)
    ∙ get-undone_others key entries contents (All-tail (λ x. written_key x ≢ key) e entries h)

-- a key that no step after s wrote has now the row that it had after each step from s on, or none as it had none
pub get-contents_at : (entries : List Entry) (contents : Contents) (key : ℕ × Bytes) (s m : ℕ) → IsUnwrittenSince entries key s → s ≤ m → get (contents_at entries contents m) key ≡ get contents key
get-contents_at entries contents key s m h le =
    get-undone_others key (later_entries m entries) contents
    (let others = All-filter (λ x. ltb m x.step) (λ x. s < x.step → written_key x ≢ key) entries h in
    let after = filter_passes (λ x. ltb m x.step) entries in
    λ k d in_. let lt = ltb-true m (get_or (later_entries m entries) k d).step (after k d in_) in others k d in_ (omega arith))

-- the same of a tenant's map
pub get-map_at : (entries : List Entry) (contents : Contents) (t : ℕ) (key : Bytes) (s m : ℕ) → IsUnwrittenSince entries (t, key) s → s ≤ m
    → get (map_at entries contents t m) key ≡ get (tenant_map t contents) key
get-map_at entries contents t key s m h le =
    get-tenant_map t (contents_at entries contents m) key ∙ get-contents_at entries contents (t, key) s m h le ∙ sym (get-tenant_map t contents key)

-- a key stays untouched since a step when another is written
pub untouched-push : (entries : List Entry) (e : Entry) (key : ℕ × Bytes) (s : ℕ) → IsUnwrittenSince entries key s → written_key e ≢ key → IsUnwrittenSince (entries ++ e ∷ []) key s
untouched-push entries e key s h other = All-push (λ x. s < x.step → written_key x ≢ key) entries e h (λ lt. other)

-- and when entries are given up
pub untouched-trim : (floor : ℕ) (entries : List Entry) (key : ℕ × Bytes) (s : ℕ) → IsUnwrittenSince entries key s → IsUnwrittenSince (later_entries floor entries) key s
untouched-trim floor entries key s h = All-filter (λ x. ltb floor x.step) (λ x. s < x.step → written_key x ≢ key) entries h

-- and none is touched after the last write
pub untouched-past_last : (floor : ℕ) (entries : List Entry) (key : ℕ × Bytes) (s : ℕ) → RisesOver floor entries → last_step_over floor entries ≤ s → IsUnwrittenSince entries key s
untouched-past_last floor entries key s rises le = λ k d in_ lt. let up = all_upto_last floor entries rises k d in_ in absurd (omega arith)

-- so after a write its own key is untouched, as all are
pub untouched-pushed : (floor : ℕ) (entries : List Entry) (e : Entry) (key : ℕ × Bytes) → RisesOver floor entries → last_step_over floor entries < e.step → IsUnwrittenSince (entries ++ e ∷ []) key e.step
untouched-pushed floor entries e key rises later =
    untouched-past_last floor (entries ++ e ∷ []) key e.step (rises-push floor entries e rises later) (omega (arith, last_step_over-push floor entries e))

-- the pairs just before a write are those just after it with the write undone
pub contents_at-undo : (floor m : ℕ) (entries : List Entry) (contents : Contents) (e : Entry) → RisesOver floor entries → Contains entries e → e.step ≡ m + 1
    → contents_at entries contents m ≡ without_write (contents_at entries contents e.step) e
contents_at-undo floor m entries contents e rises in_ is = ap (λ es. undone es contents) (later_entries-before floor m entries e rises in_ is)

-- just before its step, the key of an entry had the row that the entry tells
pub get-contents_at_before : (floor m : ℕ) (entries : List Entry) (contents : Contents) (e : Entry) → RisesOver floor entries → Contains entries e → e.step ≡ m + 1
    → get (contents_at entries contents m) (written_key e) ≡ e.before
get-contents_at_before floor m entries contents e rises in_ is =
    ap (λ (c : Contents). get c (written_key e)) (contents_at-undo floor m entries contents e rises in_ is)
    ∙ get-with_row_same (contents_at entries contents e.step) (written_key e) e.before

-- of a legal tape, the pairs just after a write are those just before it with that write
pub contents_at-write : (floor m : ℕ) (entries : List Entry) (contents : Contents) (e : Entry) → RisesOver floor entries → IsLegalTape entries contents → Contains entries e → e.step ≡ m + 1
    → contents_at entries contents e.step ≡ with_write (contents_at entries contents m) e
contents_at-write floor m entries contents e rises legal in_ is =
    sym (ap (λ (c : Contents). with_write c e) (contents_at-undo floor m entries contents e rises in_ is)
    ∙ with_row-put_back (contents_at entries contents e.step) (written_key e) e.before (after_of e) (All-contains (λ x. get (contents_at entries contents x.step) (written_key x) ≡ after_of x) entries e legal in_))

-- a write of one tenant leaves every other tenant's map as it was just before
pub map_at-other_tenant : (floor m : ℕ) (entries : List Entry) (contents : Contents) (e : Entry) (t : ℕ) → RisesOver floor entries → Contains entries e → e.step ≡ m + 1 → e.tenant ≢ t
    → map_at entries contents t e.step ≡ map_at entries contents t m
map_at-other_tenant floor m entries contents e t rises in_ is other =
    sym (ap (tenant_map t) (contents_at-undo floor m entries contents e rises in_ is)
    ∙ tenant_map-with_row_other t e.tenant (contents_at entries contents e.step) e.key e.before other)

-- and changes its own tenant's map at its key
pub map_at-write : (floor m : ℕ) (entries : List Entry) (contents : Contents) (e : Entry) → RisesOver floor entries → IsLegalTape entries contents → Contains entries e → e.step ≡ m + 1
    → map_at entries contents e.tenant e.step ≡ with_row (map_at entries contents e.tenant m) e.key (after_of e)
map_at-write floor m entries contents e rises legal in_ is =
    ap (tenant_map e.tenant) (contents_at-write floor m entries contents e rises legal in_ is)
    ∙ tenant_map-with_row e.tenant (contents_at entries contents m) e.key (after_of e)

-- between two numbers, none of which wrote, the pairs are the same
pub contents_at-quiet : (m n : ℕ) (entries : List Entry) (contents : Contents) → m ≤ n → IsQuietStep entries m n → contents_at entries contents m ≡ contents_at entries contents n
contents_at-quiet m n entries contents le quiet = ap (λ es. undone es contents) (later_entries-quiet m n entries le quiet)

-- a step that did not write left the pairs
pub contents_at-unchanged : (m n : ℕ) (entries : List Entry) (contents : Contents) → n ≡ m + 1 → is_changed entries n ≡ false → contents_at entries contents n ≡ contents_at entries contents m
contents_at-unchanged m n entries contents is none =
    sym (contents_at-quiet m n entries contents (omega arith) (quiet_where_unchanged m n entries (λ k after upto. let same : k ≡ n = omega arith in ap (is_changed entries) same ∙ none)))

-- maps of a tenant that are equal stay so when the same row is written or undone in both
without_alike : (t : ℕ) (a b : Contents) (e : Entry) → tenant_map t a ≡ tenant_map t b → tenant_map t (without_write a e) ≡ tenant_map t (without_write b e)
without_alike t a b e same = ⊎_elim own other (cases_eq e.tenant t)
  where
    own : e.tenant ≡ t → tenant_map t (without_write a e) ≡ tenant_map t (without_write b e)
    own is =
        ap (λ u. tenant_map t (with_row a (u, e.key) e.before)) is ∙ tenant_map-with_row t a e.key e.before
        ∙ ap (λ (m : Map). with_row m e.key e.before) same
        ∙ sym (ap (λ u. tenant_map t (with_row b (u, e.key) e.before)) is ∙ tenant_map-with_row t b e.key e.before)

    other : (e.tenant ≡ t → ⊥) → tenant_map t (without_write a e) ≡ tenant_map t (without_write b e)
    other not = tenant_map-with_row_other t e.tenant a e.key e.before not ∙ same ∙ sym (tenant_map-with_row_other t e.tenant b e.key e.before not)

-- between two numbers, none of which wrote for a tenant, its maps are the same
pub map_at-quiet : (t m n : ℕ) (entries : List Entry) (contents : Contents) → m ≤ n → IsQuietFor t entries m n → map_at entries contents t m ≡ map_at entries contents t n
map_at-quiet t m n [] contents le quiet = refl
map_at-quiet t m n (e ∷ entries) contents le quiet =
    by (cases_lt m e.step) (cases_lt n e.step) (All-head (λ x. m < x.step → x.step ≤ n → x.tenant ≢ t) e entries quiet)
    (map_at-quiet t m n entries contents le (All-tail (λ x. m < x.step → x.step ≤ n → x.tenant ≢ t) e entries quiet))
  where
    kept : (k : ℕ) → k < e.step → map_at (e ∷ entries) contents t k ≡ tenant_map t (without_write (contents_at entries contents k) e)
    kept k lt = ap (λ es. tenant_map t (undone es contents)) (later_entries-kept k e entries lt)

    dropped : (k : ℕ) → e.step ≤ k → map_at (e ∷ entries) contents t k ≡ map_at entries contents t k
    dropped k up = ap (λ es. tenant_map t (undone es contents)) (later_entries-dropped k e entries up)

    by : (m < e.step) ⊎ (e.step ≤ m) → (n < e.step) ⊎ (e.step ≤ n) → (m < e.step → e.step ≤ n → e.tenant ≢ t) → map_at entries contents t m ≡ map_at entries contents t n
        → map_at (e ∷ entries) contents t m ≡ map_at (e ∷ entries) contents t n
    by (inl after) (inl past) no_own rest = kept m after ∙ without_alike t (contents_at entries contents m) (contents_at entries contents n) e rest ∙ sym (kept n past)
    by (inl after) (inr upto) no_own rest = kept m after ∙ tenant_map-with_row_other t e.tenant (contents_at entries contents m) e.key e.before (no_own after upto) ∙ rest ∙ sym (dropped n upto)
    by (inr before) (inl past) no_own rest = absurd (omega arith)
    by (inr before) (inr upto) no_own rest = dropped m before ∙ rest ∙ sym (dropped n upto)
