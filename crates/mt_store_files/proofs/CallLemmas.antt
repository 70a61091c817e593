-- Calls that follow each other.
use Rattle.std.proofs.Common.{◌≡◌, ◌∙◌, inl, inr, ℕ, ◌+◌, ◌<◌, ◌++◌, [], ◌∷◌, List, Option, Some, None, Result, Ok, Err, OnOk, map, take, get_or, length, refl, sym, ap, subst, append_assoc, add-one}
use Rattle.std.proofs.lemmas.List.{append-nil, map-append, take_more}
use Rattle.std.proofs.lemmas.List.Elements.{All-append, All-nil}
use Rattle.std.specs.List.{AllZip, flat_map}
use Rattle.std.proofs.lemmas.Grind.{flat_map-append}
use Rattle.mt_store_files.specs.declared.names.StoreFile.{StoreFile}
use Rattle.mt_store_files.specs.Calls.{FolderCall, Adds, removal, removals, IsLook, Looks, IsTry, Tries, IsMaking, Makes, call_of}
use Rattle.mt_store_files.specs.FoundLogs.{files_of, files_up_to}

-- what follows from a success
pub on_ok : {T E : Type 0} {P Q : Type 0} (r : Result T E) → (P → Q) → OnOk r P → OnOk r Q
on_ok (Ok x) f p = f p
on_ok (Err e) f p = tt

pub adds_none : (a : Option (List FolderCall)) → Adds a a []
adds_none None = tt
adds_none (Some calls) = sym (append-nil calls)

pub adds_more : (a b c : Option (List FolderCall)) (xs ys : List FolderCall) → Adds a b xs → Adds b c ys → Adds a c (xs ++ ys)
adds_more a b None xs ys p q = tt
adds_more a None (Some cs) xs ys p q = absurd q
adds_more None (Some bs) (Some cs) xs ys p q = absurd p
adds_more (Some os) (Some bs) (Some cs) xs ys p q = q ∙ ap (λ zs. zs ++ ys) p ∙ append_assoc os xs ys

pub looks_none : (a : Option (List FolderCall)) → Looks a a
looks_none a = ([], All-nil IsLook, adds_none a)

pub looks_more : (a b c : Option (List FolderCall)) → Looks a b → Looks b c → Looks a c
looks_more a b c p q = (p.0 ++ q.0, All-append IsLook p.0 q.0 p.1 q.1, adds_more a b c p.0 q.0 p.2 q.2)

pub zip_append : {A B : Type 0} (R : A → B → Type 0) (xs us : List A) (ys vs : List B) → AllZip R xs ys → AllZip R us vs → AllZip R (xs ++ us) (ys ++ vs)
zip_append R [] us [] vs p q = q
zip_append R [] us (y ∷ ys) vs p q = absurd p
zip_append R (x ∷ xs) us [] vs p q = absurd p
zip_append R (x ∷ xs) us (y ∷ ys) vs p q = (p.0, zip_append R xs us ys vs p.1 q)

pub makes_none : (a : Option (List FolderCall)) → Makes [] a a
makes_none a = ([], tt, adds_none a)

pub makes_more : (a b c : Option (List FolderCall)) (files more : List StoreFile) → Makes files a b → Makes more b c → Makes (files ++ more) a c
makes_more a b c files more p q = (p.0 ++ q.0, zip_append IsMaking files more p.0 q.0 p.1 q.1, adds_more a b c p.0 q.0 p.2 q.2)

pub tries_none : (a : Option (List FolderCall)) → Tries [] a a
tries_none a = ([], tt, adds_none a)

pub tries_more : (a b c : Option (List FolderCall)) (wanted more : List FolderCall) → Tries wanted a b → Tries more b c → Tries (wanted ++ more) a c
tries_more a b c wanted more p q = (p.0 ++ q.0, zip_append IsTry wanted more p.0 q.0 p.1 q.1, adds_more a b c p.0 q.0 p.2 q.2)

-- one call that may have failed
pub is_try : {T E : Type 0} (r : Result T E) (wanted : FolderCall) → IsTry wanted (call_of (λ _. wanted) r)
is_try (Ok x) wanted = inl refl
is_try (Err e) wanted = inr refl

pub tries_one : {T E : Type 0} (r : Result T E) (a b : Option (List FolderCall)) (wanted : FolderCall) → Adds a b (call_of (λ _. wanted) r ∷ []) → Tries (wanted ∷ []) a b
tries_one r a b wanted p = (call_of (λ _. wanted) r ∷ [], (is_try r wanted, tt), p)

-- the files of one worker more
pub files_next : (k j n : ℕ) → j ≡ k → n ≡ k + 1 → files_up_to n ≡ files_up_to k ++ files_of j
files_next k j n same next = ap files_up_to (next ∙ add-one k) ∙ ap (λ i. files_up_to k ++ files_of i) (sym same)

pub removed_next : (a b c : Option (List FolderCall)) (k j n : ℕ) → j ≡ k → n ≡ k + 1
    → Adds a b (flat_map removals (files_up_to k)) → Adds b c (flat_map removals (files_of j)) → Adds a c (flat_map removals (files_up_to n))
removed_next a b c k j n same next p q =
    let whole : flat_map removals (files_up_to n) ≡ flat_map removals (files_up_to k) ++ flat_map removals (files_of j) = ap (λ files. flat_map removals files) (files_next k j n same next) ∙ flat_map-append removals (files_up_to k) (files_of j) in
    subst (Adds a c) (sym whole) (adds_more a b c (flat_map removals (files_up_to k)) (flat_map removals (files_of j)) p q)

pub made_next : (a b c : Option (List FolderCall)) (k j n : ℕ) → j ≡ k → n ≡ k + 1 → Makes (files_up_to k) a b → Makes (files_of j) b c → Makes (files_up_to n) a c
made_next a b c k j n same next p q = subst (λ files. Makes files a c) (sym (files_next k j n same next)) (makes_more a b c (files_up_to k) (files_of j) p q)

-- one more of these files is removed, or is not
pub tried_next : {T E : Type 0} (r : Result T E) (a b c : Option (List FolderCall)) (files : List StoreFile) (i : ℕ) (d : StoreFile) → i < length files
    → Tries (map removal (take i files)) a b → Adds b c (call_of (λ _. removal (get_or files i d)) r ∷ []) → Tries (map removal (take (i + 1) files)) a c
tried_next r a b c files i d within p q =
    let whole : map removal (take (i + 1) files) ≡ map removal (take i files) ++ removal (get_or files i d) ∷ [] = ap (λ some. map removal some) (take_more files i d within) ∙ map-append removal (take i files) (get_or files i d ∷ []) in
    subst (λ calls. Tries calls a c) (sym whole) (tries_more a b c (map removal (take i files)) (removal (get_or files i d) ∷ []) p (tries_one r b c (removal (get_or files i d)) q))
