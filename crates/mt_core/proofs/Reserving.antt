-- Places that are added and taken: the invariant with more of them, and what is shown of them: for `Inner::admit` and `Inner::reserve`.
use Rattle.std.proofs.{Common.{◌≡◌, ℕ, suc, ◌+◌, ◌≤◌, [], ◌∷◌, length, Some, None, refl, sym, ap, ◌∙◌, arith}, lemmas.List.length-map}
use Rattle.std.specs.Option.{option_map}
use Rattle.mt_operation.specs.{Operations.view_of, Tables.Table}
use Rattle.mt_table.proofs.Places.{there_count, count_there}
use Rattle.mt_state.specs.{Views.{Core, Shown, shown, op_at}, Invariant.{StateInvariant, one_if_made, one_if_prepared, made_count}}
use Rattle.mt_state.proofs.Shown.{shown_table, shown_at}
use Rattle.mt_core.specs.Places.{open_count, HasPlaces, TakesPlace, AddsPlaces}
use Rattle.mt_core.proofs.{Retained.{retained, scan_retained, own_tape}, Tabling.{with_table, same_count}}
use Rattle.mt_operation.specs.Tables as tables

-- two tables have as many operations that have made a step where each id has as many
same_made : (t u : Shown) → ((q : ℕ) → one_if_made (op_at t q) ≡ one_if_made (op_at u q)) → made_count t ≡ made_count u
same_made [] [] h = refl
same_made [] (y ∷ u) h = let rest = same_made [] u (λ q. h (suc q)) in let here = h 0 in omega (arith, rest, here)
same_made (x ∷ t) [] h = let rest = same_made t [] (λ q. h (suc q)) in let here = h 0 in omega (arith, rest, here)
same_made (x ∷ t) (y ∷ u) h = let rest = same_made t u (λ q. h (suc q)) in let here = h 0 in omega (arith, rest, here)

-- as many are open as are shown to be
shown_open : (table : Table) → open_count (shown_table table) ≡ tables.open_count table
shown_open table = sym (count_there (shown_table table)) ∙ all table ∙ count_there table
  where
    all : (table : Table) → there_count (shown_table table) ≡ there_count table
    all [] = refl
    all (None ∷ table) = all table
    all (Some op ∷ table) = ap suc (all table)

-- an operation that found no place
pub no_place : (c : Core) → (tables.HasPlaces c.table 1 → ⊥) → HasPlaces (shown c) 1 → ⊥
no_place c none places = none (omega (arith, places, shown_open c.table, length-map c.table (option_map view_of)))

module _ (c : Core) (table : Table) where
  -- a place that is taken, as it is shown
  pub place_taken : tables.open_count table ≡ tables.open_count c.table + 1 → length c.table ≤ length table
      → TakesPlace (shown c) (shown (with_table c c.answers table))
  place_taken one more = record {
    count = omega (arith, one, shown_open table, shown_open c.table);
    places = omega (arith, more, length-map table (option_map view_of), length-map c.table (option_map view_of));
  }

  module _ (adds : tables.AddsPlaces c.table table) where
    shown_same : (o : ℕ) → op_at (shown_table table) o ≡ op_at (shown_table c.table) o
    shown_same o = shown_at table o ∙ ap (option_map view_of) (adds.same o) ∙ sym (shown_at c.table o)

    -- places that are added
    pub places_added : AddsPlaces (shown c) (shown (with_table c c.answers table))
    places_added = record {
      same = shown_same;
      count = shown_open table ∙ adds.count ∙ sym (shown_open c.table);
      places = omega (arith, adds.places, length-map table (option_map view_of), length-map c.table (option_map view_of));
      stands = refl;
    }

    -- change nothing of what is kept
    pub places_sound : StateInvariant c → StateInvariant (with_table c c.answers table)
    places_sound h = record {
      tape = record { rises = h.tape.rises; made = h.tape.made; legal = h.tape.legal; keys = h.tape.keys; logs = h.tape.logs };
      stamps = h.stamps;
      versions = h.versions;
      holders = λ k o within held. let w = h.holders k o within held in (w.0, adds.same o ∙ w.1, w.2);
      counts = h.counts;
      ops =
          λ o op there. let was = h.ops o op (sym (adds.same o) ∙ there) in retained c c.answers c.logs c.tape table o op (own_tape c op was.always) was.always was;
      scans =
          λ o op there. let here = sym (adds.same o) ∙ there in let was = h.ops o op here in scan_retained c c.answers c.logs c.tape table o op (own_tape c op was.always) was.always (h.scans o op here);
      reserved = h.reserved ∙ sym (same_count table c.table (λ q. ap one_if_prepared (adds.same q)));
      answered = omega (arith, h.answered, same_made (shown_table table) (shown_table c.table) (λ q. ap one_if_made (shown_same q)));
      deleted = h.deleted;
      late = h.late;
      remembered = λ o op there. h.remembered o op (sym (adds.same o) ∙ there);
      few = h.few;
      quotas = h.quotas;
      written = h.written;
    }
