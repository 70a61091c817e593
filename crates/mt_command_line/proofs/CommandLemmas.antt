-- What clap makes of the program's own command, in the words of specs/CommandLine.antt.
use Rattle.std.proofs.Common.{◌≡◌, true, List, ap, ◌∙◌, refl}
use Rattle.clap.specs.Words.{App, Text, fault_of, is_simple, is_simple_and_free, matches_of}
use Rattle.mt_command_line.specs.CommandLine.{server, found_in, faults_in}

-- clap's exact words hold of it
server_simple : is_simple server ≡ true
unfolding server
server_simple = refl

server_free : is_simple_and_free server ≡ true
unfolding server
server_free = refl

pub simple : (a : App) → a ≡ server → is_simple a ≡ true
simple a e = ap is_simple e ∙ server_simple

pub free : (a : App) → a ≡ server → is_simple_and_free a ≡ true
free a e = ap is_simple_and_free e ∙ server_free

-- its matches and its faults
pub found : (a : App) (words : List Text) → a ≡ server → matches_of a words ≡ found_in words
unfolding found_in
found a words e = ap (λ (b : App). matches_of b words) e

pub faults : (a : App) (words : List Text) → a ≡ server → fault_of a words ≡ faults_in words
unfolding faults_in
faults a words e = ap (λ (b : App). fault_of b words) e
