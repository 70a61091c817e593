-- How the row of names follows the tickets: for `Names::insert` and `Names::remove`; and what is asked of them: for `shows_stamps`.
use Rattle.std.proofs.Common.{◌≡◌, ◌≢◌, ◌<◌, ◌⊎◌, ℕ, zero, suc, List, [], ◌∷◌, Bool, false, Option, Some, None, MatchOption, option_copied, Bor, length, set, refl, sym, ◌∙◌, ap, inl, inr, arith}
use Rattle.std.proofs.{lemmas.Bool.cases_eq, lemmas.Bool.Decides.nat_tests, lemmas.List.get_or-set_other, lemmas.Grind.get_or-set_at}
use Rattle.std.proofs.lemmas.Option.{same_Some, none-some}
use Rattle.std.specs.{Prelude.slice_index_or, Ordering.{nat_cmp, is_eq}, BTreeMap.{Updates, BTreeMap}, Option.option_map}
use Rattle.mt_core.specs.declared.answers.Ticket.{Ticket}
use Rattle.mt_lines.specs.{declared.names.OpenOperation.OpenOperation, Names.{Tickets, ticket_in, shows_in, operation_of, TakesName, FreesName, IsNameRow}}

-- a name that stands for an operation before and one that is free there are two
two_names : (old : Tickets) (n name o : ℕ) → operation_of old n ≡ Some o → operation_of old name ≡ None → n ≢ name
two_names old n name o e free same = none-some o (sym free ∙ ap (operation_of old) (sym same) ∙ e)

takes_by_name : (old new : Tickets) (row : List (Option ℕ)) (name o n q : ℕ) (stamps : Bool) → TakesName old new name o stamps
    → ((other : ℕ) → operation_of old other ≢ Some o) → o < length row → IsNameRow old row
    → operation_of new n ≡ Some q → ((n ≡ name) ⊎ (n ≢ name)) → slice_index_or (set row o (Some name)) q None ≡ Some n
takes_by_name old new row name o n q stamps t unnamed inside r e (inl same) =
    let here : q ≡ o = same_Some q o (sym e ∙ ap (operation_of new) same ∙ t.taken) in
    get_or-set_at row o q (Some name) None here inside ∙ ap Some (sym same)
takes_by_name old new row name o n q stamps t unnamed inside r e (inr other) =
    let before : operation_of old n ≡ Some q = sym (t.others n other) ∙ e in
    let apart : q ≢ o = λ here. unnamed n (before ∙ ap Some here) in
    get_or-set_other row o q (Some name) None apart ∙ r.by_name n q before

takes_by_id : (old new : Tickets) (row : List (Option ℕ)) (name o n q : ℕ) (stamps : Bool) → TakesName old new name o stamps → o < length row → IsNameRow old row
    → slice_index_or (set row o (Some name)) q None ≡ Some n → ((q ≡ o) ⊎ (q ≢ o)) → operation_of new n ≡ Some q
takes_by_id old new row name o n q stamps t inside r e (inl here) =
    let same : name ≡ n = same_Some name n (sym (get_or-set_at row o q (Some name) None here inside) ∙ e) in
    ap (operation_of new) (sym same) ∙ t.taken ∙ ap Some (sym here)
takes_by_id old new row name o n q stamps t inside r e (inr apart) =
    let before : operation_of old n ≡ Some q = r.by_id n q (sym (get_or-set_other row o q (Some name) None apart) ∙ e) in
    t.others n (two_names old n name q before t.free) ∙ before

-- a name is taken: the row has it at its operation's id
pub row_takes : (old new : Tickets) (row : List (Option ℕ)) (name o : ℕ) (stamps : Bool) → TakesName old new name o stamps → ((other : ℕ) → operation_of old other ≢ Some o)
    → o < length row → IsNameRow old row
    → IsNameRow new (set row o (Some name))
row_takes old new row name o stamps t unnamed inside r = record {
  by_name = λ n q e. takes_by_name old new row name o n q stamps t unnamed inside r e (cases_eq n name);
  by_id = λ n q e. takes_by_id old new row name o n q stamps t inside r e (cases_eq q o);
}

frees_by_name : (old new : Tickets) (row : List (Option ℕ)) (name o n q : ℕ) → FreesName old new name → operation_of old name ≡ Some o
    → IsNameRow old row → operation_of new n ≡ Some q
    → slice_index_or (set row o None) q None ≡ Some n
frees_by_name old new row name o n q f held r e =
    let other : n ≢ name = λ same. none-some q (sym f.freed ∙ ap (operation_of new) (sym same) ∙ e) in
    let before : operation_of old n ≡ Some q = sym (f.others n other) ∙ e in
    let here : slice_index_or row q None ≡ Some n = r.by_name n q before in
    let apart : q ≢ o = λ same. other (same_Some n name (sym here ∙ ap (λ k. slice_index_or row k None) same ∙ r.by_name name o held)) in
    get_or-set_other row o q None None apart ∙ here

frees_by_id : (old new : Tickets) (row : List (Option ℕ)) (name o n q : ℕ) → FreesName old new name → operation_of old name ≡ Some o → o < length row
    → IsNameRow old row
    → slice_index_or (set row o None) q None ≡ Some n → ((q ≡ o) ⊎ (q ≢ o)) → operation_of new n ≡ Some q
frees_by_id old new row name o n q f held inside r e (inl here) = absurd (none-some n (sym (get_or-set_at row o q None None here inside) ∙ e))
frees_by_id old new row name o n q f held inside r e (inr apart) =
    let before : operation_of old n ≡ Some q = r.by_id n q (sym (get_or-set_other row o q None None apart) ∙ e) in
    let other : n ≢ name = λ same. apart (same_Some q o (sym before ∙ ap (operation_of old) same ∙ held)) in
    f.others n other ∙ before

-- a name is freed: the row has none at its operation's id
pub row_frees : (old new : Tickets) (row : List (Option ℕ)) (name o : ℕ) → FreesName old new name → operation_of old name ≡ Some o → o < length row
    → IsNameRow old row → IsNameRow new (set row o None)
row_frees old new row name o f held inside r = record {
  by_name = λ n q e. frees_by_name old new row name o n q f held r e;
  by_id = λ n q e. frees_by_id old new row name o n q f held inside r e (cases_eq q o);
}

-- a row that reads the same is as good
pub row_same : (named : Tickets) (old new : List (Option ℕ)) → ((o : ℕ) → slice_index_or new o None ≡ slice_index_or old o None) → IsNameRow named old
    → IsNameRow named new
row_same named old new same r = record {
  by_name = λ n o e. same o ∙ r.by_name n o e;
  by_id = λ n o e. r.by_id n o (sym (same o) ∙ e);
}

other_key : (k q : ℕ) → q ≢ k → is_eq (nat_cmp k q) ≡ false
other_key k q ne = grind (arith, nat_tests)

-- the id of an open operation
abbrev pub id_in : Option OpenOperation → Option ℕ
id_in kept = option_map (λ (t : Ticket). t.id) (ticket_in kept)

-- one that has no id is none
pub no_id : (kept : Option OpenOperation) → id_in kept ≡ None → kept ≡ None
no_id None e = refl
no_id (Some n) e = absurd (none-some n.ticket.id (sym e))

-- a map of open operations that has one more
pub takes_from : (old new : BTreeMap ℕ OpenOperation) (name : ℕ) (ticket : Ticket) (stamps : Bool)
    → Updates nat_cmp old new name (Some (record { ticket = ticket; stamps = stamps }))
    → operation_of old.entries name ≡ None → TakesName old.entries new.entries name ticket.id stamps
takes_from old new name ticket stamps u free = record {
  free = free;
  taken = ap id_in u.1;
  shows = ap shows_in u.1;
  others = λ q ne. ap id_in (u.2 q (other_key name q ne));
  others_show = λ q ne. ap shows_in (u.2 q (other_key name q ne));
}

-- a map of open operations without one
pub frees_from : (old new : BTreeMap ℕ OpenOperation) (name : ℕ) → Updates nat_cmp old new name None → FreesName old.entries new.entries name
frees_from old new name u = record {
  freed = ap id_in u.1;
  others = λ q ne. ap id_in (u.2 q (other_key name q ne));
  others_show = λ q ne. ap shows_in (u.2 q (other_key name q ne));
}

-- where a row has a name, it has a place
pub within_row : (row : List (Option ℕ)) (o name : ℕ) → slice_index_or row o None ≡ Some name → o < length row
within_row [] o name e = absurd (none-some name e)
within_row (x ∷ row) zero name e = omega arith
within_row (x ∷ row) (suc o) name e = omega (arith, within_row row o name e)

-- what is asked of an open operation, if there is one
pub shows_kept : (kept : Option (Bor OpenOperation)) (shows : Bool) (P : Bor OpenOperation → Type 0) → MatchOption kept (shows ≡ false) P
    → ((x : Bor OpenOperation) → P x → shows ≡ x.now.stamps) → shows ≡ shows_in (option_copied kept)
shows_kept None shows P none some = none
shows_kept (Some x) shows P there some = some x there
