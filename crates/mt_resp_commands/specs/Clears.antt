-- The removal of all pairs, page by page.
use Rattle.std.specs.Prelude.{◌≡◌, ℕ, zero, suc, ◌≤◌, ◌<◌, ◌⊎◌, Bool, true, false, List, [], ◌∷◌, ◌++◌, length, map, Option, Some, None, Result, Ok, Err}
use Rattle.mt_rows.specs.{Rows.Bytes, Stamps.Stamped, declared.command.Command.Command}
use Rattle.mt_rows.specs.declared.command.Command.TheVariants as commands
use Rattle.mt_caller.specs.Exchanges.{CallerRelation}
use Rattle.mt_resp.specs.{Shapes.told_of, declared.told.Told.Told}
use Rattle.mt_resp.specs.declared.told.Told.TheVariants as told
use Rattle.mt_resp.specs.declared.told.Shape.TheVariants as shapes
use Rattle.mt_resp_commands.specs.{declared.link.Link.Link, Lists.{IsFolded, plus}, Scans.{Page, page_of, IsPaged}}

-- a page of 64 pairs after the last key of the page before, or the first one
abbrev pub page_after : Option Bytes → Command
page_after None = page_of [] false 64
page_after (Some key) = page_of key true 64

-- removes of all keys of a page
abbrev pub removes : Page → List Command
removes page = map (λ pair. commands.Remove pair.0) page

-- the last key of a page, if it is full
abbrev pub IsLastKey : Page → Option Bytes → Type 0
IsLastKey page None = length page < 64
IsLastKey page (Some key) = (front : Page) × (row : Stamped) × (page ≡ front ++ (key, row) ∷ []) × (64 ≤ length page)

abbrev pub is_number : Told → Bool
is_number (told.Number n) = true
is_number one = false

-- The keys of a page are removed. How many of them were there comes to the sum, unless one has another answer.
abbrev pub IsCleared : {S : Type 0} → CallerRelation S → Link → S → Option Bytes → Told → Page → Told → Link → S → Type 0
IsCleared {S = S} exchanges link old after sum page total next new =
    (between : Link) × (mid : S) × IsPaged exchanges link old (page_after after) (Ok page) between mid
    × IsFolded exchanges between mid (removes page) (told_of shapes.Removed) plus sum total next new

-- What became of a page after a key, when so many pairs were removed before: all its keys are removed and it is full, so a page follows; or what is told
-- at the end.
abbrev pub IsPageCleared : {S : Type 0} → CallerRelation S → Link → S → Option Bytes → ℕ → Result (Bytes × ℕ) Told → Link → S → Type 0
IsPageCleared exchanges link old after count (Ok (key, removed)) next new =
    (page : Page) × IsCleared exchanges link old after (told.Number count) page (told.Number removed) next new × IsLastKey page (Some key)
IsPageCleared exchanges link old after count (Err total) next new =
    (IsPaged exchanges link old (page_after after) (Err total) next new)
    ⊎ ((page : Page) × IsCleared exchanges link old after (told.Number count) page total next new × (IsLastKey page None ⊎ (is_number total ≡ false)))

-- So many full pages, each after the last key of the one before, and all their keys removed.
abbrev pub ArePagesCleared : {S : Type 0} → ℕ → CallerRelation S → Link → S → Option Bytes → Told → Link → S → Type 0
ArePagesCleared zero exchanges link old last sum next new = (last ≡ None) × (sum ≡ told.Number 0) × (next ≡ link) × (new ≡ old)
ArePagesCleared {S = S} (suc n) exchanges link old last sum next new =
    (was : Option Bytes) × (had : Told) × (between : Link) × (mid : S) × ArePagesCleared n exchanges link old was had between mid
    × (page : Page) × (key : Bytes) × IsCleared exchanges between mid was had page sum next new × IsLastKey page (Some key)
    × (last ≡ Some key) × (is_number sum ≡ true)

-- what is told when the last page was looked at: that it is done, or how many pairs were removed
abbrev pub cleared_told : Bool → Told → Told
cleared_told false (told.Number n) = told.Fine
cleared_told counted one = one

-- All pairs are removed by pages: full ones, and a last one. It ends early if a page or a remove has another answer.
abbrev pub IsAllCleared : {S : Type 0} → CallerRelation S → Link → S → Bool → Told → Link → S → Type 0
IsAllCleared {S = S} exchanges link old counted one next new =
    (n : ℕ) × (was : Option Bytes) × (had : Told) × (between : Link) × (mid : S) × ArePagesCleared n exchanges link old was had between mid
    × ((IsPaged exchanges between mid (page_after was) (Err one) next new)
    ⊎ ((page : Page) × (total : Told) × IsCleared exchanges between mid was had page total next new × (IsLastKey page None ⊎ (is_number total ≡ false)) × (one ≡ cleared_told counted total)))
