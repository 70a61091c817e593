-- Rounds of a change.
use Rattle.std.proofs.Common.{◌≡◌, ℕ, ◌+◌, add-one, subst, sym, Option, None}
use Rattle.mt_rows.specs.Rows.{Bytes}
use Rattle.mt_caller.specs.Exchanges.{CallerRelation}
use Rattle.mt_resp.specs.declared.{asked.Edit.Edit, told.Told.Told}
use Rattle.mt_resp_commands.specs.{declared.link.Link.Link, Changes.{AreLate, IsTried}}

-- one more round that was late
pub late_more : {S : Type 0} (exchanges : CallerRelation S) (key : Bytes) (edit : Edit) (n : ℕ) (link between next : Link) (old mid new : S) (done : Option Told) → done ≡ None
    → AreLate n exchanges link old key edit between mid → IsTried exchanges between mid key edit done next new → AreLate (n + 1) exchanges link old key edit next new
late_more exchanges key edit n link between next old mid new done e late tried =
    subst (λ (k : ℕ). AreLate k exchanges link old key edit next new) (sym (add-one n)) (between, mid, late, subst (λ (x : Option Told). IsTried exchanges between mid key edit x next new) e tried)
