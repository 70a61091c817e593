-- What a tenant is told in an order depends on its own commands alone: for the law that the same commands get the same replies.
use Rattle.std.proofs.Common.{◌≡◌, ℕ, Bool, true, false, cond, eqb, List, [], ◌∷◌, Option, Some, None, sym, refl, ap, ◌∙◌}
use Rattle.std.specs.{List.cons_option, Option.option_map}
use Rattle.mt_rows.specs.{declared.command.Command.Command, declared.reply.Reply.Reply, Maps.{Map, reply_of, map_after}}
use Rattle.mt_runs.specs.{Runs.{Story, Asked}, Placings.{Placing, Quotas, Maps, maps_after_one, command_of, commands_of, replies_of}}

-- the replies to a list of commands, from a map on
abbrev pub replies : ℕ → Map → List (ℕ × Command) → List Reply
replies quota m [] = []
replies quota m (c ∷ cs) = reply_of quota c.1 m ∷ replies quota (map_after quota c.0 c.1 m) cs

-- a tenant's replies in a placing are those to the list of its commands
pub replies_of-commands_of : (quotas : Quotas) (story : Story) (t : ℕ) (maps : Maps) (placing : Placing) → replies_of quotas story t maps placing ≡ replies (quotas t) (maps t) (commands_of story t placing)
replies_of-commands_of quotas story t maps [] = refl
replies_of-commands_of quotas story t maps (p ∷ placing) = by (story.asked p.0) (λ w. replies_of-commands_of quotas story t w placing)
  where
    by : (a : Option Asked) → ((w : Maps) → replies_of quotas story t w placing ≡ replies (quotas t) (w t) (commands_of story t placing))
        → cons_option (option_map (λ c. reply_of (quotas t) c (maps t)) (command_of t a)) (replies_of quotas story t (maps_after_one quotas p.1 a maps) placing)
        ≡ replies (quotas t) (maps t) (cons_option (option_map (λ c. (p.1, c)) (command_of t a)) (commands_of story t placing))
    by None h = h maps
    by (Some a) h = same (eqb t a.tenant) (h (maps_after_one quotas p.1 (Some a) maps))
      where
        same : (b : Bool) {rs : List Reply} → rs ≡ replies (quotas t) (cond b (map_after (quotas t) p.1 a.command (maps t)) (maps t)) (commands_of story t placing)
            → cons_option (option_map (λ c. reply_of (quotas t) c (maps t)) (cond b (Some a.command) None)) rs ≡ replies (quotas t) (maps t) (cons_option (option_map (λ c. (p.1, c)) (cond b (Some a.command) None)) (commands_of story t placing))
        same true e = ap (λ rs. reply_of (quotas t) a.command (maps t) ∷ rs) e
        same false e = e

-- two orders with the same commands of a tenant give it the same replies
pub same_replies : (quotas others : Quotas) (first starts : Maps) (story tale : Story) (placing order : Placing) (t : ℕ) → quotas t ≡ others t → first t ≡ starts t
    → commands_of story t placing ≡ commands_of tale t order → replies_of quotas story t first placing ≡ replies_of others tale t starts order
same_replies quotas others first starts story tale placing order t quota start commands =
    replies_of-commands_of quotas story t first placing
    ∙ ap (λ q. replies q (first t) (commands_of story t placing)) quota
    ∙ ap (λ m. replies (others t) m (commands_of story t placing)) start
    ∙ ap (replies (others t) (starts t)) commands
    ∙ sym (replies_of-commands_of others tale t starts order)
