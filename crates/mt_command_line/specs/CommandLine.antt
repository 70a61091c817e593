-- What the program takes: three numbers with defaults, a folder, a flag, three numbers without a default, a folder, two numbers with defaults, and one word or
-- more that name tenants. The words of clap say what a parse of a command line makes of such rules (`Rattle.clap.specs.Words`).
use Rattle.std.specs.Prelude.{ℕ, List, [], ◌∷◌, Option, Some, codes, unwrap_or, pos, true}
use Rattle.clap.specs.{Lexer.usize_max, Words.{App, Kinds, Row, Rule, Text, all_of, fault_of, first_of, matches_of, new_app, new_rule, one_of, with_rule}}
use Rattle.clap.specs.{declared.builder.ArgAction.TheVariants.{Append, Set, SetTrue}, declared.builder.value_parser.ValueParser.ValueParser, declared.builder.value_parser.ValueParser.TheVariants.{Signed, Unsigned}}

-- an option `--NAME N`, whose value this parser takes, and with these defaults
abbrev pub value_rule : List Text → Text → ValueParser → Rule
value_rule values name parser = record (new_rule name) {
  long = Some name;
  value_names = 1;
  action = Some Set;
  parser = Some parser;
  defaults = values;
}

-- one with a number from `least` to `most`
abbrev pub number_rule_with : List Text → Text → ℕ → ℕ → Rule
number_rule_with values name least most = value_rule values name (Signed (pos least) (pos most))

-- one with its default
abbrev pub number_rule : Text → ℕ → ℕ → Text → Rule
number_rule name least most value = number_rule_with (value ∷ []) name least most

-- `--port`, 7411 if it isn't given
abbrev pub port_rule : Rule
port_rule = number_rule (codes "port") 0 65535 (codes "7411")

-- `--workers`, 4
abbrev pub workers_rule : Rule
workers_rule = number_rule (codes "workers") 1 64 (codes "4")

-- `--sessions`, 0
abbrev pub sessions_rule : Rule
sessions_rule = number_rule (codes "sessions") 0 4294967295 (codes "0")

-- an option `--NAME DIR`, which may be left out
abbrev pub folder_rule : Text → Rule
folder_rule name = record (new_rule name) { long = Some name; value_names = 1; action = Some Set }

-- `--store DIR`
abbrev pub store_rule : Rule
store_rule = folder_rule (codes "store")

-- `--create`, a flag
abbrev pub create_rule : Rule
create_rule = record (new_rule (codes "create")) { long = Some (codes "create"); action = Some SetTrue }

-- `--checkpoint K`, which may be left out
abbrev pub checkpoint_rule : Rule
checkpoint_rule = number_rule_with [] (codes "checkpoint") 0 4294967295

-- `--checkpoint-bytes B`, which may be left out
abbrev pub checkpoint_bytes_rule : Rule
checkpoint_bytes_rule = value_rule [] (codes "checkpoint-bytes") (Unsigned 0 18446744073709551615)

-- `--settle-every M`, which may be left out
abbrev pub settle_every_rule : Rule
settle_every_rule = number_rule_with [] (codes "settle-every") 0 4294967295

-- `--verify DIR`
abbrev pub verify_rule : Rule
verify_rule = folder_rule (codes "verify")

-- `--connections`, 1
abbrev pub connections_rule : Rule
connections_rule = number_rule (codes "connections") 1 65536 (codes "1")

-- `--idle`, 0
abbrev pub idle_rule : Rule
idle_rule = number_rule (codes "idle") 0 4294967 (codes "0")

-- all other words, of which there has to be one
abbrev pub tenants_rule : Rule
tenants_rule = record (new_rule (codes "tenants")) {
  value_names = 1;
  required = true;
  action = Some Append;
  range = Some (record { start_inclusive = 1; end_inclusive = usize_max });
}

-- the program tells its version if it is asked for it, by `--version` or `-V`
abbrev pub with_version : App → App
with_version app = record app { top = record app.top { has_version = true } }

-- what the program takes
unfoldable pub server : App
server =
    with_rule (with_rule (with_rule (with_rule (with_rule (with_rule (with_rule (with_rule (with_rule (with_rule (with_rule (with_rule
    (with_version (new_app (codes "mt_server"))) port_rule) workers_rule) sessions_rule) store_rule) create_rule) checkpoint_rule) checkpoint_bytes_rule)
    settle_every_rule) verify_rule) connections_rule) idle_rule) tenants_rule

-- what clap finds in a command line, rule by rule; its first word is the program's name
unfoldable pub found_in : List Text → List Row
found_in words = matches_of server words

-- the kinds of fault that clap may tell of a command line, none where it has none; a wish for help or for the version is one
unfoldable pub faults_in : List Text → Kinds
faults_in words = fault_of server words

-- the words that name tenants, from the left, of what is found
abbrev pub tenant_words : List Row → List Text
tenant_words rows = unwrap_or (all_of (codes "tenants") rows) []

-- what is found for an option, or its default; nothing where it is left out and has none
abbrev pub given_for : Text → List Row → Option Text
given_for name rows = one_of name rows

-- the folder that is found for `--store`, as it is written
abbrev pub folder_in : List Row → Option Text
folder_in rows = first_of (codes "store") rows

-- the one that is found for `--verify`
abbrev pub verified_in : List Row → Option Text
verified_in rows = first_of (codes "verify") rows
