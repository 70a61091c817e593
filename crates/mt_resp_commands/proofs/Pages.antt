-- Pages: the last element of a list, and what is shown of a page.
use Rattle.std.proofs.Common.{◌≡◌, ◌≢◌, ℕ, zero, suc, ◌+◌, ◌<◌, Bool, List, [], ◌∷◌, ◌++◌, length, get_or, take, Option, Some, Result, Ok, Err, IfOk, refl, sym, ap, subst, ◌∙◌, add-one, arith}
use Rattle.mt_rows.specs.{Rows.Bytes, Stamps.Stamped, declared.command.Command.Command}
use Rattle.mt_rows.specs.declared.command.Command.TheVariants as commands
use Rattle.mt_caller.specs.Exchanges.{CallerRelation}
use Rattle.mt_resp.specs.{Shapes.told_of, declared.told.Told.Told}
use Rattle.mt_resp.specs.declared.told.Told.TheVariants as told
use Rattle.mt_resp.specs.declared.told.Shape.TheVariants as shapes
use Rattle.mt_resp_commands.specs.{declared.link.Link.Link, Knowing.KnowledgeRelation, Lists.{IsFolded, plus}, Scans.{Page, page_of, scan_count, IsPaged, IsCursor, IsBegun, IsScanned}, Clears.{page_after, removes, IsCleared}}

-- the element at the last place
pub at_the_end : {X : Type 0} (xs : List X) (k : ℕ) (x : X) → suc k ≡ length xs → x ≡ get_or xs k x → (front : List X) × (xs ≡ front ++ (x ∷ []))
at_the_end [] k x e g = absurd (omega arith)
at_the_end (y ∷ []) zero x e g = ([], ap (λ z. z ∷ []) (sym g))
at_the_end (y ∷ z ∷ zs) zero x e g = absurd (omega arith)
at_the_end (y ∷ ys) (suc k) x e g = let rest = at_the_end ys k x (omega arith) g in (y ∷ rest.0, ap (λ l. y ∷ l) rest.1)

removes_suc : (page : Page) (k : ℕ) (pair : Bytes × Stamped) → k < length page → pair ≡ get_or page k pair → removes (take (suc k) page) ≡ removes (take k page) ++ (commands.Remove pair.0 ∷ [])
removes_suc [] k pair h e = absurd (omega arith)
removes_suc (y ∷ ys) zero pair h e = ap (λ (p : Bytes × Stamped). commands.Remove p.0 ∷ []) (sym e)
removes_suc (y ∷ ys) (suc k) pair h e = ap (λ (l : List Command). commands.Remove y.0 ∷ l) (removes_suc ys k pair (omega arith) e)

pub removes_more : (page : Page) (k : ℕ) (pair : Bytes × Stamped) → k < length page → pair ≡ get_or page k pair → removes (take (k + 1) page) ≡ removes (take k page) ++ (commands.Remove pair.0 ∷ [])
removes_more page k pair h e = ap (λ (n : ℕ). removes (take n page)) (add-one k) ∙ removes_suc page k pair h e

pub if_ok_both : {T E : Type 0} (P Q R : T → Type 0) (result : Result T E) → ((x : T) → P x → Q x → R x) → IfOk result P → IfOk result Q → IfOk result R
if_ok_both P Q R (Ok x) f p q = f x p q
if_ok_both P Q R (Err e) f p q = p

module _ {S : Type 0} (exchanges : CallerRelation S) where
  pub paged_as : (command other : Command) (page shown : Result Page Told) (link next : Link) (old new : S) → command ≡ other → page ≡ shown
      → IsPaged exchanges link old command page next new → IsPaged exchanges link old other shown next new
  paged_as command other page shown link next old new e f paged =
      subst (λ (x : Command). IsPaged exchanges link old x shown next new) e (subst (λ (x : Result Page Told). IsPaged exchanges link old command x next new) f paged)

  pub cleared_as : (command : Command) (shown : Result Page Told) (page : Page) (list : List Command) (last : Option Bytes) (count : ℕ) (total sum : Told) (link between next : Link) (old mid new : S)
      → command ≡ page_after last → shown ≡ Ok page → list ≡ removes page → total ≡ sum
      → IsPaged exchanges link old command shown between mid → IsFolded exchanges between mid list (told_of shapes.Removed) plus (told.Number count) total next new
      → IsCleared exchanges link old last (told.Number count) page sum next new
  cleared_as command shown page list last count total sum link between next old mid new e f h i paged folded = (
    between,
    mid,
    paged_as command (page_after last) shown (Ok page) link between old mid e f paged,
    subst (λ (x : Told). IsFolded exchanges between mid (removes page) (told_of shapes.Removed) plus (told.Number count) x next new) i
        (subst (λ (x : List Command). IsFolded exchanges between mid x (told_of shapes.Removed) plus (told.Number count) total next new) h folded),
  )

  module _ (knows : KnowledgeRelation S) where
    pub scanned_keys : (link next : Link) (old new : S) (cursor count number after_it : ℕ) (pattern : Option Bytes) (begun : Option (Bytes × Bool)) (from : Bytes) (after : Bool) (command : Command) (shown : Result Page Told) (page : Page)
        → begun ≡ Some (from, after) → number ≡ scan_count count → command ≡ page_of from after number → shown ≡ Ok page → IsBegun knows link.tenant cursor begun old
        → IsPaged exchanges link old command shown next new → IsCursor knows link.tenant number page after_it new → IsScanned exchanges knows link old cursor pattern count (told.Keys after_it page pattern) next new
    scanned_keys link next old new cursor count number after_it pattern begun from after command shown page e n c s begins paged ends = (
      Some (from, after),
      subst (λ (x : Option (Bytes × Bool)). IsBegun knows link.tenant cursor x old) e begins,
      (
        Ok page,
        subst (λ (x : ℕ). IsPaged exchanges link old (page_of from after x) (Ok page) next new) n (paged_as command (page_of from after number) shown (Ok page) link next old new c s paged),
        (
          after_it,
          subst (λ (x : ℕ). IsCursor knows link.tenant x page after_it new) n ends,
          refl,
        ),
      ),
    )

    pub scanned_none : (link next : Link) (old new : S) (cursor count number : ℕ) (pattern : Option Bytes) (begun : Option (Bytes × Bool)) (from : Bytes) (after : Bool) (command : Command) (shown : Result Page Told) (one : Told)
        → begun ≡ Some (from, after) → number ≡ scan_count count → command ≡ page_of from after number → shown ≡ Err one → IsBegun knows link.tenant cursor begun old
        → IsPaged exchanges link old command shown next new → IsScanned exchanges knows link old cursor pattern count one next new
    scanned_none link next old new cursor count number pattern begun from after command shown one e n c s begins paged = (
      Some (from, after),
      subst (λ (x : Option (Bytes × Bool)). IsBegun knows link.tenant cursor x old) e begins,
      (
        Err one,
        subst (λ (x : ℕ). IsPaged exchanges link old (page_of from after x) (Err one) next new) n (paged_as command (page_of from after number) shown (Err one) link next old new c s paged),
        refl,
      ),
    )
