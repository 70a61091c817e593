-- Pages that are cleared, one after the other.
use Rattle.std.proofs.Common.{◌≡◌, ℕ, suc, Bool, true, false, Option, Some, Result, Ok, Err, inl, inr, refl, ap, ◌∙◌}
use Rattle.mt_rows.specs.Rows.{Bytes}
use Rattle.mt_rows.specs.declared.reply.Reply.TheVariants as replies
use Rattle.mt_caller.specs.Exchanges.{CallerRelation}
use Rattle.mt_resp.specs.declared.told.{Told.Told, Failure.Failure}
use Rattle.mt_resp.specs.declared.told.Told.TheVariants as told
use Rattle.mt_resp.specs.declared.told.Failure.TheVariants as failures
use Rattle.mt_resp_commands.specs.declared.link.{Link.Link, Said.Said, Said.TheVariants.{Replied, Refused}}
use Rattle.mt_resp_commands.specs.{Scans.paged, Clears.{IsPageCleared, ArePagesCleared, IsAllCleared, cleared_told}}

-- what is told if there is no page is a failure
fails : (said : Said) (total : Told) → Err total ≡ paged said → (failure : Failure) × (total ≡ told.Failed failure)
fails (Replied (replies.Pairs page)) total e = absurd cc
fails (Replied replies.NoMemory) total e = (failures.NoMemory, cc)
fails (Replied replies.Absent) total e = (failures.Strange, cc)
fails (Replied (replies.Found row)) total e = (failures.Strange, cc)
fails (Replied replies.New) total e = (failures.Strange, cc)
fails (Replied replies.Replaced) total e = (failures.Strange, cc)
fails (Replied replies.Full) total e = (failures.Strange, cc)
fails (Replied replies.Removed) total e = (failures.Strange, cc)
fails (Replied (replies.Stale stamp)) total e = (failures.Strange, cc)
fails (Refused refusal) total e = (failures.Refused refusal, cc)

told_as_it_is : (counted : Bool) (total : Told) (failure : Failure) → total ≡ told.Failed failure → cleared_told counted total ≡ total
told_as_it_is false total failure e = rw e refl
told_as_it_is true total failure e = rw e refl

module _ {S : Type 0} (exchanges : CallerRelation S) where
  pub page_more : (n count removed : ℕ) (was : Option Bytes) (key : Bytes) (link between next : Link) (old mid new : S) → ArePagesCleared n exchanges link old was (told.Number count) between mid
      → IsPageCleared exchanges between mid was count (Ok (key, removed)) next new → ArePagesCleared (suc n) exchanges link old (Some key) (told.Number removed) next new
  page_more n count removed was key link between next old mid new pages (page, cleared, last) = (was, told.Number count, between, mid, pages, page, key, cleared, last, refl, refl)

  pub pages_end : (n count : ℕ) (counted : Bool) (was : Option Bytes) (total : Told) (link between next : Link) (old mid new : S) → ArePagesCleared n exchanges link old was (told.Number count) between mid
      → IsPageCleared exchanges between mid was count (Err total) next new → IsAllCleared exchanges link old counted (cleared_told counted total) next new
  pages_end n count counted was total link between next old mid new pages (inl (said, is_said, e)) =
      let failed = fails said total e in
      (n, was, told.Number count, between, mid, pages, inl (said, is_said, ap Err (told_as_it_is counted total failed.0 failed.1) ∙ e))
  pages_end n count counted was total link between next old mid new pages (inr (page, cleared, ends)) =
      (n, was, told.Number count, between, mid, pages, inr (page, total, cleared, ends, refl))
