-- Pages of keys: SCAN with its cursors, and RANGE.
use Rattle.std.specs.{Prelude.{◌≡◌, ◌≢◌, ℕ, ◌≤◌, ◌<◌, ◌⊎◌, Bool, true, false, List, [], ◌∷◌, ◌++◌, length, min, max, Option, Some, None, Result, Ok, Err}, Option.option_map}
use Rattle.mt_rows.specs.{Rows.Bytes, Stamps.Stamped, declared.command.Command.Command, declared.reply.Reply.Reply}
use Rattle.mt_rows.specs.declared.refusal.Refusal.TheVariants.{ScanCount}
use Rattle.mt_rows.specs.declared.command.Command.TheVariants as commands
use Rattle.mt_rows.specs.declared.reply.Reply.TheVariants as replies
use Rattle.mt_caller.specs.Exchanges.{CallerRelation}
use Rattle.mt_resp.specs.declared.{asked.RangeWay.RangeWay, told.Told.Told}
use Rattle.mt_resp.specs.declared.asked.RangeWay.TheVariants as ways
use Rattle.mt_resp.specs.declared.told.Told.TheVariants as told
use Rattle.mt_resp.specs.declared.told.Failure.TheVariants as failures
use Rattle.mt_resp_commands.specs.{declared.link.{Link.Link, Said.Said, Said.TheVariants.{Replied, Refused}}, Knowing.{Keeps, Finds, KnowledgeRelation}, Links.{IsSaid, refused}}

-- the pairs of a page
abbrev pub Page : Type 0
Page = List (Bytes × Stamped)

-- a page of so many whole rows from a key on, or after it
abbrev pub page_of : Bytes → Bool → ℕ → Command
page_of from after count = commands.Scan from after count []

-- a page, or what is told if there is none
abbrev pub paged : Said → Result Page Told
paged (Replied (replies.Pairs page)) = Ok page
paged (Replied replies.NoMemory) = Err (told.Failed failures.NoMemory)
paged (Replied reply) = Err (told.Failed failures.Strange)
paged (Refused refusal) = Err (refused refusal)

abbrev pub IsPaged : {S : Type 0} → CallerRelation S → Link → S → Command → Result Page Told → Link → S → Type 0
IsPaged exchanges link old command page next new = (said : Said) × IsSaid exchanges link old command said next new × (page ≡ paged said)

-- how many keys a SCAN looks at: at least one, and 64 at most
abbrev pub scan_count : ℕ → ℕ
scan_count count = max 1 (min count 64)

-- A cursor after a page: none after the last one. Else it stands for the page's last key.
abbrev pub IsCursor : {S : Type 0} → KnowledgeRelation S → ℕ → ℕ → Page → ℕ → S → Type 0
IsCursor knows tenant count page cursor now =
    ((length page < count) × (cursor ≡ 0))
    ⊎ ((front : Page) × (key : Bytes) × (row : Stamped) × (count ≤ length page) × (page ≡ front ++ (key, row) ∷ []) × knows now (Keeps tenant key cursor) × (cursor ≢ 0))

-- Where a SCAN begins: at the first key, or after that for which its cursor stands. A cursor that is not kept has none.
abbrev pub IsBegun : {S : Type 0} → KnowledgeRelation S → ℕ → ℕ → Option (Bytes × Bool) → S → Type 0
IsBegun knows tenant cursor begun now =
    ((cursor ≡ 0) × (begun ≡ Some ([], false)))
    ⊎ ((cursor ≢ 0) × (key : Option Bytes) × knows now (Finds tenant cursor key) × (begun ≡ option_map (λ k. (k, true)) key))

-- what is told of a SCAN's page: the keys like its pattern, and the cursor after them
abbrev pub IsPageTold : {S : Type 0} → KnowledgeRelation S → ℕ → ℕ → Option Bytes → Result Page Told → Told → S → Type 0
IsPageTold knows tenant count pattern (Err failed) one now = one ≡ failed
IsPageTold knows tenant count pattern (Ok page) one now =
    (cursor : ℕ) × IsCursor knows tenant count page cursor now × (one ≡ told.Keys cursor page pattern)

abbrev pub IsScannedFrom : {S : Type 0} → CallerRelation S → KnowledgeRelation S → Link → S → Option (Bytes × Bool) → Option Bytes → ℕ → Told → Link → S → Type 0
IsScannedFrom exchanges knows link old None pattern count one next new = (one ≡ told.Failed failures.NoCursor) × (next ≡ link) × (new ≡ old)
IsScannedFrom exchanges knows link old (Some (from, after)) pattern count one next new =
    (page : Result Page Told) × IsPaged exchanges link old (page_of from after count) page next new × IsPageTold knows link.tenant count pattern page one new

-- A SCAN: a page from where its cursor stands.
abbrev pub IsScanned : {S : Type 0} → CallerRelation S → KnowledgeRelation S → Link → S → ℕ → Option Bytes → ℕ → Told → Link → S → Type 0
IsScanned exchanges knows link old cursor pattern count one next new =
    (begun : Option (Bytes × Bool)) × IsBegun knows link.tenant cursor begun old × IsScannedFrom exchanges knows link old begun pattern (scan_count count) one next new

abbrev pub is_after : RangeWay → Bool
is_after ways.After = true
is_after way = false

-- with what the keys of a range begin
abbrev pub prefix_of : RangeWay → Bytes → Option Bytes
prefix_of ways.Prefix from = Some from
prefix_of way from = None

-- what is told of a range's page
abbrev pub ranged : RangeWay → Bytes → Bool → Result Page Told → Told
ranged way from stamps (Ok page) = told.Pairs page (prefix_of way from) stamps
ranged way from stamps (Err one) = one

-- A range: a page of as many pairs as are wanted, 1 to 64.
abbrev pub IsRanged : {S : Type 0} → CallerRelation S → Link → S → Bytes → RangeWay → ℕ → Bool → Told → Link → S → Type 0
IsRanged exchanges link old from way count stamps one next new =
    (((count ≡ 0) ⊎ (64 < count)) × (one ≡ refused ScanCount) × (next ≡ link) × (new ≡ old))
    ⊎ ((0 < count) × (count ≤ 64) × (page : Result Page Told) × IsPaged exchanges link old (page_of from (is_after way) count) page next new × (one ≡ ranged way from stamps page))
