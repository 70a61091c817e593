-- The names of commands, in capitals or not.
use Rattle.std.specs.{Prelude.{Bool, map, codes, Option, Some, None, bytes_eq, if◌then◌else◌}, Char.to_ascii_lowercase}
use Rattle.mt_resp.specs.{Grammar.Bytes, declared.told.Failure.Failure}
use Rattle.mt_resp.specs.declared.names.{StringName.StringName, NumberName.NumberName, FieldName.FieldName, KeyName.KeyName, LinkName.LinkName}
use Rattle.mt_resp.specs.declared.names.StringName.TheVariants as string_names
use Rattle.mt_resp.specs.declared.names.NumberName.TheVariants as number_names
use Rattle.mt_resp.specs.declared.names.FieldName.TheVariants as field_names
use Rattle.mt_resp.specs.declared.names.KeyName.TheVariants as key_names
use Rattle.mt_resp.specs.declared.names.LinkName.TheVariants as link_names
use Rattle.mt_resp.specs.declared.told.Failure.TheVariants as failures

-- a word is a name, in capitals or not
abbrev pub is_named : Bytes → Bytes → Bool
is_named word name = bytes_eq (map to_ascii_lowercase word) (map to_ascii_lowercase name)

-- which name of a command of strings a word is
abbrev pub string_name : Bytes → Option StringName
string_name word =
    if is_named word (codes "get") then Some string_names.Get else
    if is_named word (codes "set") then Some string_names.Set else
    if is_named word (codes "mget") then Some string_names.GetEach else
    if is_named word (codes "mset") then Some string_names.SetEach else
    if is_named word (codes "setnx") then Some string_names.SetNew else
    if is_named word (codes "strlen") then Some string_names.Length else
    if is_named word (codes "getset") then Some string_names.GetSet else
    if is_named word (codes "getdel") then Some string_names.GetTake else
    if is_named word (codes "append") then Some string_names.Append else None

-- which name of a command of numbers or of stamps a word is
abbrev pub number_name : Bytes → Option NumberName
number_name word =
    if is_named word (codes "incr") then Some number_names.Up else
    if is_named word (codes "incrby") then Some number_names.UpBy else
    if is_named word (codes "decr") then Some number_names.Down else
    if is_named word (codes "decrby") then Some number_names.DownBy else
    if is_named word (codes "gets") then Some number_names.GetStamped else
    if is_named word (codes "putif") then Some number_names.PutIf else None

-- which name of a command of fields a word is
abbrev pub field_name : Bytes → Option FieldName
field_name word =
    if is_named word (codes "hset") then Some field_names.Put else
    if is_named word (codes "hmset") then Some field_names.PutFine else
    if is_named word (codes "hget") then Some field_names.Get else
    if is_named word (codes "hmget") then Some field_names.GetSome else
    if is_named word (codes "hgetall") then Some field_names.GetAll else
    if is_named word (codes "hlen") then Some field_names.Width else
    if is_named word (codes "hexists") then Some field_names.Has else
    if is_named word (codes "hstrlen") then Some field_names.Length else
    if is_named word (codes "hincrby") then Some field_names.UpBy else None

-- which name of a command of keys a word is
abbrev pub key_name : Bytes → Option KeyName
key_name word =
    if is_named word (codes "del") then Some key_names.Remove else
    if is_named word (codes "unlink") then Some key_names.Remove else
    if is_named word (codes "exists") then Some key_names.Has else
    if is_named word (codes "type") then Some key_names.Kind else
    if is_named word (codes "scan") then Some key_names.Scan else
    if is_named word (codes "range") then Some key_names.Range else
    if is_named word (codes "dbsize") then Some key_names.Count else
    if is_named word (codes "flushdb") then Some key_names.Clear else None

-- which name of a command of the connection or the server a word is
abbrev pub link_name : Bytes → Option LinkName
link_name word =
    if is_named word (codes "ping") then Some link_names.Ping else
    if is_named word (codes "echo") then Some link_names.Echo else
    if is_named word (codes "quit") then Some link_names.Quit else
    if is_named word (codes "select") then Some link_names.Select else
    if is_named word (codes "auth") then Some link_names.Auth else
    if is_named word (codes "hello") then Some link_names.Hello else
    if is_named word (codes "reset") then Some link_names.Reset else
    if is_named word (codes "client") then Some link_names.Note else
    if is_named word (codes "command") then Some link_names.List else
    if is_named word (codes "config") then Some link_names.Config else
    if is_named word (codes "info") then Some link_names.Info else
    if is_named word (codes "time") then Some link_names.Time else
    if is_named word (codes "wait") then Some link_names.Wait else
    if is_named word (codes "waitaof") then Some link_names.Settle else
    if is_named word (codes "post") then Some link_names.Foreign else
    if is_named word (codes "host:") then Some link_names.Foreign else None

-- why a command of this name isn't there, if that has a reason
abbrev pub reason : Bytes → Option Failure
reason word =
    if is_named word (codes "expire") then Some failures.NoExpiry else
    if is_named word (codes "pexpire") then Some failures.NoExpiry else
    if is_named word (codes "expireat") then Some failures.NoExpiry else
    if is_named word (codes "pexpireat") then Some failures.NoExpiry else
    if is_named word (codes "persist") then Some failures.NoExpiry else
    if is_named word (codes "ttl") then Some failures.NoExpiry else
    if is_named word (codes "pttl") then Some failures.NoExpiry else
    if is_named word (codes "setex") then Some failures.NoExpiry else
    if is_named word (codes "psetex") then Some failures.NoExpiry else
    if is_named word (codes "getex") then Some failures.NoExpiry else
    if is_named word (codes "multi") then Some failures.NoTransactions else
    if is_named word (codes "exec") then Some failures.NoTransactions else
    if is_named word (codes "discard") then Some failures.NoTransactions else
    if is_named word (codes "watch") then Some failures.NoTransactions else
    if is_named word (codes "unwatch") then Some failures.NoTransactions else
    if is_named word (codes "eval") then Some failures.NoScripts else
    if is_named word (codes "evalsha") then Some failures.NoScripts else
    if is_named word (codes "script") then Some failures.NoScripts else
    if is_named word (codes "fcall") then Some failures.NoScripts else
    if is_named word (codes "publish") then Some failures.NoChannels else
    if is_named word (codes "subscribe") then Some failures.NoChannels else
    if is_named word (codes "psubscribe") then Some failures.NoChannels else
    if is_named word (codes "unsubscribe") then Some failures.NoChannels else
    if is_named word (codes "pubsub") then Some failures.NoChannels else None
