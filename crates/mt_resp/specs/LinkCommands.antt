-- What commands of the connection and the server ask.
use Rattle.std.specs.Prelude.{ℕ, ◌-◌, ◌^◌, List, [], ◌∷◌, codes, Option, Some, None, if◌then◌else◌}
use Rattle.mt_resp.specs.{Grammar.Bytes, Names.is_named, Failing.{failed, miscounted}, Arguments.number_of}
use Rattle.mt_resp.specs.declared.{asked.Asked.Asked, names.LinkName.LinkName}
use Rattle.mt_resp.specs.declared.asked.Asked.TheVariants as asks
use Rattle.mt_resp.specs.declared.asked.Status.TheVariants as statuses
use Rattle.mt_resp.specs.declared.told.Told.TheVariants as told
use Rattle.mt_resp.specs.declared.told.Failure.TheVariants as failures
use Rattle.mt_resp.specs.declared.names.LinkName.TheVariants as names

-- SELECT: the tenant of a number below 2 ^ 32
abbrev pub select_asked : Option ℕ → Asked
select_asked None = failed failures.NoNumber
select_asked (Some number) = asks.Select number

-- HELLO: version 2 of the protocol, or none; a name is taken, a password is not
abbrev pub hello_asked : List Bytes → Asked
hello_asked [] = asks.Told told.Greeting
hello_asked (version ∷ []) = if is_named version (codes "2") then asks.Told told.Greeting else failed failures.NoProtocol
hello_asked (version ∷ option ∷ more) =
    if is_named version (codes "2") then (if is_named option (codes "setname") then asks.Told told.Greeting else failed failures.NoPassword) else failed failures.NoProtocol

-- CONFIG: GET shows nothing
abbrev pub config_asked : Bytes → Asked
config_asked verb = if is_named verb (codes "get") then asks.Told told.Empty else failed failures.NoConfig

-- what commands of the connection and the server ask
abbrev pub link_asked : Bytes → LinkName → List Bytes → Asked
link_asked word names.Ping [] = asks.Told told.Pong
link_asked word names.Ping (text ∷ []) = asks.Told (told.Text text)
link_asked word names.Echo (text ∷ []) = asks.Told (told.Text text)
link_asked word names.Quit words = asks.Quit
link_asked word names.Select (number ∷ []) = select_asked (number_of (2 ^ 32 - 1) number)
link_asked word names.Auth (secret ∷ more) = failed failures.NoPassword
link_asked word names.Hello words = hello_asked words
link_asked word names.Reset [] = asks.Reset
link_asked word names.Note (verb ∷ words) = asks.Told told.Fine
link_asked word names.List words = asks.Told told.Empty
link_asked word names.Config (verb ∷ words) = config_asked verb
link_asked word names.Info words = asks.Status statuses.Info
link_asked word names.Time [] = asks.Status statuses.Time
link_asked word names.Wait (replicas ∷ milliseconds ∷ []) = asks.Told (told.Number 0)
link_asked word names.Settle (here ∷ replicas ∷ milliseconds ∷ []) = asks.Settle
link_asked word names.Foreign words = asks.Close
link_asked word name words = miscounted word
