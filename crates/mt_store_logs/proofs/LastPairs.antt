-- What becomes of a whole log and of the last log, which is its end, if batches go to that and it comes to rest.
use Rattle.std.proofs.Common.{◌≡◌, inl, inr, ℕ, Bool, Option, Some, None, refl, sym, ◌∙◌, ap, subst}
use Rattle.std.proofs.lemmas.Option.{same_Some}
use Rattle.mt_rows.specs.declared.record.Batch.{Batch}
use Rattle.mt_log.specs.{declared.batch.LogBatch.LogBatch, declared.batch.LogBatch.TheVariants.Records, Contents.{Contents, to_of, with_batch}}
use Rattle.mt_crashes.{specs.Stores.{LogNow, at_rest, MayLeaveFront}, proofs.Members.no_some}
use Rattle.mt_log_files.specs.Files.{FileNow, Has}
use Rattle.mt_store_logs.specs.{Ends.{IsEndOf, IsPast}, Shows.{begun, appended, IsIn, IsInDoubt, ComesToRest}}
use Rattle.mt_store_logs.proofs.{EndLaws.{mark, longer, front, begins}, TurnFiles.{AreWith, at_rest_is, doubted, added, rested}}

-- where a log begins, and its numbers, whatever its batches are
pub record IsNamed (generation start worker logs : ℕ) (whole last : Contents) : Type 0 where
  pub of : last.generation ≡ generation
  pub begins : last.start ≡ start
  pub whose : whole.worker ≡ worker
  pub count : whole.logs ≡ logs

named_more : (n s w l : ℕ) (whole last : Contents) (b : LogBatch) → IsNamed n s w l whole last → IsNamed n s w l (with_batch b whole) (with_batch b last)
named_more n s w l whole last b is = record { of = is.of; begins = is.begins; whose = is.whose; count = is.count }

left_named : (n s w l : ℕ) (whole last f g : Contents) (now then : LogNow) → now.had ≡ whole → then.had ≡ last → MayLeaveFront now f → MayLeaveFront then g
    → IsNamed n s w l whole last → IsNamed n s w l f g
left_named n s w l whole last f g now then is also left too named = record {
  of = same (λ (c : Contents). c.generation) (λ b c. refl) then g too ∙ ap (λ (c : Contents). c.generation) also ∙ named.of;
  begins = same (λ (c : Contents). c.start) (λ b c. refl) then g too ∙ ap (λ (c : Contents). c.start) also ∙ named.begins;
  whose = same (λ (c : Contents). c.worker) (λ b c. refl) now f left ∙ ap (λ (c : Contents). c.worker) is ∙ named.whose;
  count = same (λ (c : Contents). c.logs) (λ b c. refl) now f left ∙ ap (λ (c : Contents). c.logs) is ∙ named.count;
}
  where
    same : (field : Contents → ℕ) → ((b : LogBatch) (c : Contents) → field (with_batch b c) ≡ field c) → (log : LogNow) (x : Contents) → MayLeaveFront log x
        → field x ≡ field log.had
    same field keeps log x (inl e) = ap field e
    same field keeps log x (inr (b, told, e)) = ap field e ∙ keeps b log.had

module _ (at : Bool) (g : ℕ) (older : FileNow) (generation start worker logs : ℕ) where
  -- the files are those of the whole log, of which the last one is the end
  pub record ArePair (whole last : LogNow) : Type 0 where
    pub is_end : IsEndOf whole last
    pub are : AreWith at g whole older (Has last)
    pub past : IsPast whole
    pub named : IsNamed generation start worker logs whole.had last.had

  -- both rest
  at_rest_pair : (whole last : LogNow) → ArePair whole last → last.doubt ≡ None → AreWith at g (at_rest whole.had) older (Has (at_rest last.had))
  at_rest_pair whole last p rests =
      subst (λ (n : LogNow). AreWith at g n older (Has (at_rest last.had))) (at_rest_is whole (sym p.is_end.doubt ∙ rests))
      (subst (λ (n : LogNow). AreWith at g whole older (Has n)) (at_rest_is last rests) p.are)

  pub rests_past : (c : Contents) → IsPast (at_rest c)
  rests_past c b told = absurd (no_some b told)

  -- a batch was appended
  pub more_pair : (whole last : LogNow) (b : LogBatch) → ArePair whole last → last.doubt ≡ None
      → ArePair (at_rest (with_batch b whole.had)) (at_rest (with_batch b last.had))
  more_pair whole last b p rests = record {
    is_end = record { ends = longer whole.had last.had b p.is_end.ends; doubt = refl };
    are = added at g whole.had last.had older b (at_rest_pair whole last p rests);
    past = rests_past (with_batch b whole.had);
    named = named_more generation start worker logs whole.had last.had b p.named;
  }

  abbrev doubting : LogNow → LogBatch → LogNow
  doubting now b = record { had = now.had; doubt = Some b }

  -- a batch is in doubt: no claim is made of where it ends
  pub doubt_files : (whole last : LogNow) (b : LogBatch) → ArePair whole last → last.doubt ≡ None → AreWith at g (doubting whole b) older (Has (doubting last b))
  doubt_files whole last b p rests = doubted at g whole.had last.had older b (at_rest_pair whole last p rests)

  pub in_pair : (kept : Option Batch) (whole last next : LogNow) → ArePair whole last → IsIn kept last next
      → (all : LogNow) × IsIn kept whole all × ArePair all next
  in_pair None whole last next p same = (whole, refl, subst (ArePair whole) (sym same) p)
  in_pair (Some b) whole last next p (inl there) = (whole, inl (refl, sym (mark whole last p.is_end) ∙ there.1), subst (ArePair whole) (sym there.0) p)
  in_pair (Some b) whole last next p (inr more) = (
    appended whole b,
    inr (begins whole last b p.is_end more.0, refl),
    subst (ArePair (appended whole b)) (sym more.1) (more_pair whole last (Records b) p more.0.rests),
  )

  pub doubt_pair : (kept : Option Batch) (whole last next : LogNow) → ArePair whole last → IsInDoubt kept last next
      → (all : LogNow) × IsInDoubt kept whole all × ArePair all next
  doubt_pair None whole last next p same = (whole, refl, subst (ArePair whole) (sym same) p)
  doubt_pair (Some b) whole last next p (inl same) = (whole, inl refl, subst (ArePair whole) (sym same) p)
  doubt_pair (Some b) whole last next p (inr more) =
      let may = begins whole last b p.is_end more.0 in (
        begun whole b,
        inr (may, refl),
        subst (ArePair (begun whole b)) (sym more.1) (record {
          is_end = record { ends = p.is_end.ends; doubt = refl };
          are = doubt_files whole last (Records b) p more.0.rests;
          past = λ c told same. may.past (ap to_of (same_Some (Records b) c told) ∙ same);
          named = p.named;
        }),
      )

  pub rest_pair : (whole last next : LogNow) → ArePair whole last → ComesToRest last next → (all : LogNow) × ComesToRest whole all × ArePair all next
  rest_pair whole last next p r =
      let f = front whole last next.had p.is_end r.left in (
        at_rest f.0,
        record { rests = refl; left = f.1 },
        record {
          is_end = record { ends = f.2; doubt = r.rests };
          are = subst (λ (n : LogNow). AreWith at g (at_rest f.0) older (Has n)) (sym (at_rest_is next r.rests))
              (rested at g whole last older next.had f.0 p.past r.left f.1 f.2 p.are);
          past = rests_past f.0;
          named = left_named generation start worker logs whole.had last.had f.0 next.had whole last refl refl f.1 r.left p.named;
        },
      )
