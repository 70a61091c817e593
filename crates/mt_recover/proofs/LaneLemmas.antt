-- A log that is read on, batch by batch: for `fill`.
use Rattle.std.proofs.Common.{◌≡◌, ◌≢◌, ◌⊎◌, inl, inr, ⊎_elim, ℕ, ◌+◌, ◌*◌, ◌-◌, ◌^◌, ◌<◌, ◌≤◌, true, List, [], ◌∷◌, ◌++◌, length, take, drop, refl, sym, ◌∙◌, ap, subst, arith, Option, Some, None}
use Rattle.std.proofs.lemmas.{List.{append-nil, length-map, length-set, drop_all}, Option.{slice_get_within, slice_get_cases}}
use Rattle.std.specs.{Prelude.set, List.flat_map}
use Rattle.mt_rows.specs.{declared.record.Record.Record, declared.refusal.Refusal.{Refusal}, declared.refusal.Refusal.TheVariants.{Device}}
use Rattle.mt_log.specs.{declared.batch.LogBatch.LogBatch, Contents.{Contents}}
use Rattle.mt_crashes.specs.Fronts.{records_in}
use Rattle.mt_recover.specs.{Falls.fall_of, Outlines.{outline, outline_of, is_again, Agrees, with_batch_at}, Sources.{Gives, Goes, IsReadable}, declared.lanes.Lane.{Lane}}
use Rattle.mt_recover.specs.Lanes.{IsLane, work, HasLeft, ReadsOn, StopsReading}
use Rattle.mt_recover.proofs.Agreements.{put_outline, put_rises, put_format, put_records, put_rest, set_there, drop_there, itself_agrees}

-- logs with one outline have as many batches
pub same_length : (log now : Contents) → outline_of now ≡ outline_of log → length now.batches ≡ length log.batches
same_length log now same = sym (length-map now.batches outline) ∙ ap (λ (c : Contents). length c.batches) same ∙ length-map log.batches outline

module _ {S : Type 0} (logs : S → ℕ) (follows : S → S → Type 0) (left : S → ℕ → List LogBatch → Type 0) where
  pub goes_on : (s t u : S) → Goes logs follows s t → Goes logs follows t u → Goes logs follows s u
  goes_on s t u a b = record { count = b.count ∙ a.count; after = λ start h. b.after start (a.after start h) }

  pub goes_not : (s : S) → Goes logs follows s s
  goes_not s = record { count = refl; after = λ start h. h }

  module _ (place : ℕ) (s : S) (log : Contents) (lane : Lane) where
    -- before anything is read
    pub reads_nothing : lane.read ≤ length log.batches → fall_of log ≡ None → ReadsOn logs follows left place s log lane s log lane
    reads_nothing within rises = record {
      goes = goes_not s;
      outline = refl;
      rises = rises;
      parts = λ taken is. is;
      within = within;
      format = λ all. all;
      same = λ h. (refl, h);
      others = λ other bs apart h. h;
    }

    module _ (t : S) (now : Contents) (further : Lane) (on : ReadsOn logs follows left place s log lane t now further) where
      -- and then the source gives a batch that agrees
      module _ (u : S) (b : LogBatch) (next : Contents) (after : Lane) (goes : Goes logs follows t u) (agrees : Agrees b now.batches further.read)
          (put : next ≡ with_batch_at now further.read b) (read : after.read ≡ further.read + 1) (records : after.left.items ≡ records_in b) (none : further.left.items ≡ [])
          (given : (bs : List LogBatch) → left t place bs → Gives (left u place) bs (Some b))
          (others : (other : ℕ) (bs : List LogBatch) → other ≢ place → left t other bs → left u other bs) (readable : IsReadable b) where
        inside : further.read < length now.batches
        inside = slice_get_within now.batches further.read agrees.0 agrees.1

        parts : (taken : List Record) → IsLane taken now further → IsLane taken (with_batch_at now further.read b) after
        parts taken is = record {
          within = omega (arith, read, inside, length-set now.batches further.read b);
          parts = ap (λ (n : ℕ). flat_map records_in (take n (set now.batches further.read b))) read ∙ put_records now further.read agrees.0 b agrees.1 agrees.2
              ∙ ap (λ (l : List Record). l ++ records_in b) (is.parts ∙ ap (λ (l : List Record). taken ++ l) none ∙ append-nil taken)
              ∙ ap (λ (l : List Record). taken ++ l) (sym records);
        }

        same : HasLeft logs follows left place t now further → (with_batch_at now further.read b ≡ now) × HasLeft logs follows left place u (with_batch_at now further.read b) after
        same h =
            let rest : left t place (agrees.0 ∷ drop (further.read + 1) now.batches) = subst (left t place) (drop_there now.batches further.read agrees.0 agrees.1) h in
            let two = given (agrees.0 ∷ drop (further.read + 1) now.batches) rest in (
              ap (λ (bs : List LogBatch). record now { batches = bs }) (ap (set now.batches further.read) two.0 ∙ set_there now.batches further.read agrees.0 agrees.1),
              subst (left u place) (sym (ap (λ (n : ℕ). drop n (set now.batches further.read b)) read ∙ put_rest now further.read agrees.0 b agrees.1 agrees.2)) two.1,
            )

        pub reads_one : ReadsOn logs follows left place s log lane u next after
        reads_one = subst (λ (c : Contents). ReadsOn logs follows left place s log lane u c after) (sym put) (record {
          goes = goes_on s t u on.goes goes;
          outline = put_outline now further.read agrees.0 b agrees.1 agrees.2 ∙ on.outline;
          rises = put_rises now further.read agrees.0 b agrees.1 agrees.2 on.rises;
          parts = λ taken is. parts taken (on.parts taken is);
          within = omega (arith, read, inside, length-set now.batches further.read b);
          format = λ all. put_format now further.read agrees.0 b agrees.1 agrees.2 readable.0 readable.1 (on.format all);
          same = λ h. (let was = on.same h in let is = same was.1 in (is.0 ∙ was.0, is.1));
          others = λ other bs apart h. others other bs apart (on.others other bs apart h);
        })

      -- or its end, where no batch is left
      pub reads_end : (u : S) → Goes logs follows t u → ((bs : List LogBatch) → left t place bs → Gives (left u place) bs None)
          → ((other : ℕ) (bs : List LogBatch) → other ≢ place → left t other bs → left u other bs) → length now.batches ≤ further.read → ReadsOn logs follows left place s log lane u now further
      reads_end u goes given others end = record {
        goes = goes_on s t u on.goes goes;
        outline = on.outline;
        rises = on.rises;
        parts = on.parts;
        within = on.within;
        format = on.format;
        same = λ h. (
            let was = on.same h in
            let none = drop_all further.read now.batches end in
            (was.0, subst (left u place) (sym none) (given [] (subst (left t place) none was.1)))
            );
        others = λ other bs apart h. others other bs apart (on.others other bs apart h);
      }

      module _ (refused : S → Refusal → Type 0) (u : S) (e : Refusal) (goes : Goes logs follows t u) where
        -- or it refuses
        pub stops_by_source : refused u e → StopsReading logs follows left refused place s log lane u now e
        stops_by_source why = record { goes = goes_on s t u on.goes goes; outline = on.outline; rises = on.rises; format = on.format; same = λ h. (on.same h).0; cause = inl why }

        -- or what it gives cannot be of the log
        pub stops_by_change : (next : Contents) → next ≡ now → e ≡ Device → ¬ HasLeft logs follows left place t now further → StopsReading logs follows left refused place s log lane u next e
        stops_by_change next is device isnt = subst (λ (c : Contents). StopsReading logs follows left refused place s log lane u c e) (sym is)
            (record { goes = goes_on s t u on.goes goes; outline = on.outline; rises = on.rises; format = on.format; same = λ h. (on.same h).0; cause = inr (device, λ h. isnt (on.same h).1) })

      -- a batch that does not agree is not the next one
      pub no_next : (u : S) (b : LogBatch) → ((bs : List LogBatch) → left t place bs → Gives (left u place) bs (Some b)) → ¬ Agrees b now.batches further.read → ¬ HasLeft logs follows left place t now further
      no_next u b given isnt h = ⊎_elim
          (λ at.
          let two = given (at.0 ∷ drop (further.read + 1) now.batches) (subst (left t place) (drop_there now.batches further.read at.0 at.2) h) in
          isnt (at.0, at.2, subst (λ (x : LogBatch). is_again at.0 x ≡ true) (sym two.0) (itself_agrees now further.read at.0 at.2 on.rises)))
          (λ past. given [] (subst (left t place) (drop_all further.read now.batches past.0) h))
          (slice_get_cases now.batches further.read).1

      -- and the end is not there before the last
      pub no_end : (u : S) → ((bs : List LogBatch) → left t place bs → Gives (left u place) bs None) → further.read < length now.batches → ¬ HasLeft logs follows left place t now further
      no_end u given lt h = ⊎_elim
          (λ at. given (at.0 ∷ drop (further.read + 1) now.batches) (subst (left t place) (drop_there now.batches further.read at.0 at.2) h))
          (λ past. absurd (omega (arith, lt, past.0)))
          (slice_get_cases now.batches further.read).1

-- a lane that was read on has less left, if its records are few
pub less_left : (log now : Contents) (lane further : Lane) → outline_of now ≡ outline_of log → further.read ≤ length now.batches
    → ((further.read ≡ lane.read) × (further.left.items ≡ lane.left.items)) ⊎ (lane.read < further.read) → length further.left.items < 2 ^ 64 → work now further ≤ work log lane
less_left log now lane further outline within more few =
    let len : length now.batches ≡ length log.batches = same_length log now outline in
    ⊎_elim
    (λ same. omega (arith, len, same.0, ap (λ (l : List Record). length l) same.1))
    (λ read. omega (arith, len, read, within, few))
    more
