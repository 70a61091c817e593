-- What one seat that is written over makes of the links and of the table: for the functions of queue.rt, and TableMoves.
use Rattle.std.proofs.Common.{◌≡◌, ◌≢◌, ℕ, zero, suc, inl, inr, [], ◌∷◌, set, Box, Global, Option, Some, None, is_some, refl, sym, ap, subst, ◌∙◌}
use Rattle.std.proofs.{lemmas.Bool.cases_eq, lemmas.Option.same_Some}
use Rattle.mt_operation.{specs.{declared.operation.Operation.Operation, Tables.op_at}, proofs.Tables.{set_is, set_there, set_same}}
use Rattle.mt_table.specs.{declared.queue.Seat.Seat, declared.queue.Ends.Ends, declared.queue.Links.Links}
use Rattle.mt_table.specs.{declared.queue.Queue.Queue, declared.queue.Queue.TheVariants.{FirstSteps, Begins}}
use Rattle.mt_table.specs.Seats.{Seats, seat_at, with_operation, operation_in, table_of, links_of, with_links, after_in, before_in, after_of, before_of, IsEndOrSeat}
use Rattle.mt_table.specs.Queues.{SameLinks, LeavesOthers, SetsAfter, SetsBefore, CutsOut, LinksLast, Becomes}

-- the operation of an id is that of the seat there
pub op_seat : (seats : Seats) (o : ℕ) → op_at (table_of seats) o ≡ operation_in (seat_at seats o)
op_seat [] o = refl
op_seat (x ∷ seats) zero = refl
op_seat (x ∷ seats) (suc o) = op_seat seats o

-- the table with one seat written over
pub table_set : (seats : Seats) (o : ℕ) (x : Option Seat) → table_of (set seats o x) ≡ set (table_of seats) o (operation_in x)
table_set [] o x = refl
table_set (y ∷ seats) zero x = refl
table_set (y ∷ seats) (suc o) x = ap (λ t. operation_in y ∷ t) (table_set seats o x)

some_in : (x : Option Seat) → is_some (operation_in x) ≡ is_some x
some_in None = refl
some_in (Some seat) = refl

-- a seat is there where its operation is
pub seat_there : (seats : Seats) (o : ℕ) → is_some (op_at (table_of seats) o) ≡ is_some (seat_at seats o)
seat_there seats o = ap is_some (op_seat seats o) ∙ some_in (seat_at seats o)

-- the same seats are there where the table is the same
pub seat_kept : (old new : Seats) (s : Option ℕ) → table_of new ≡ table_of old → IsEndOrSeat old s → IsEndOrSeat new s
seat_kept old new None same there = there
seat_kept old new (Some o) same there = sym (seat_there new o) ∙ ap (λ t. is_some (op_at t o)) same ∙ seat_there old o ∙ there

-- a seat with other links has its operation still
written_table : (seats : Seats) (o : ℕ) (seat now : Seat) → seat_at seats o ≡ Some seat → now.operation ≡ seat.operation → table_of (set seats o (Some now)) ≡ table_of seats
written_table seats o seat now at same = table_set seats o (Some now) ∙ set_same (table_of seats) o (Some now.operation.value) (op_seat seats o ∙ ap operation_in at ∙ ap (λ (op : Box Operation Global). Some op.value) (sym same))

-- a seat written over has this of a seat, and every other what it had
pub written_in : {X : Type 0} (f : Option Seat → X) (seats : Seats) (o q : ℕ) (seat now : Seat) → seat_at seats o ≡ Some seat → f (Some now) ≡ f (Some seat) → f (seat_at (set seats o (Some now)) q) ≡ f (seat_at seats q)
written_in f seats o q seat now at same = elim (cases_eq q o) [
  | inl is ↦ ap (λ n. f (seat_at (set seats o (Some now)) n)) is ∙ ap f (set_is seats o now seat at) ∙ same ∙ sym (ap f at) ∙ ap (λ n. f (seat_at seats n)) (sym is)
  | inr other ↦ ap f (set_there seats o q (Some now) other)
]

-- a seat that names others in a queue
links_here : (queue : Queue) (links : Links) (seat : Seat) → links_of queue (with_links queue links seat) ≡ links
links_here FirstSteps links seat = refl
links_here Begins links seat = refl

-- names in any other queue whom it named
links_apart : (queue other : Queue) (links : Links) (seat : Seat) → other ≢ queue → links_of other (with_links queue links seat) ≡ links_of other seat
links_apart FirstSteps FirstSteps links seat ne = absurd (ne refl)
links_apart FirstSteps Begins links seat ne = refl
links_apart Begins FirstSteps links seat ne = refl
links_apart Begins Begins links seat ne = absurd (ne refl)

same_operation : (queue : Queue) (links : Links) (seat : Seat) → (with_links queue links seat).operation ≡ seat.operation
same_operation FirstSteps links seat = refl
same_operation Begins links seat = refl

links_over : (queue : Queue) (links over : Links) (seat : Seat) → with_links queue over (with_links queue links seat) ≡ with_links queue over seat
links_over FirstSteps links over seat = refl
links_over Begins links over seat = refl

-- the links of a queue stay, from one change to the next
pub links_on : (queue : Queue) (p0 p1 p2 : Seats) → SameLinks queue p0 p1 → SameLinks queue p1 p2 → SameLinks queue p0 p2
links_on queue p0 p1 p2 a b = record { afters = λ o. b.afters o ∙ a.afters o; befores = λ o. b.befores o ∙ a.befores o }

pub same_after : (queue : Queue) (p0 p1 : Seats) → SameLinks queue p0 p1 → (ends : Ends) (s : Option ℕ) → after_of queue p1 ends s ≡ after_of queue p0 ends s
same_after queue p0 p1 same ends None = refl
same_after queue p0 p1 same ends (Some o) = same.afters o

pub same_before : (queue : Queue) (p0 p1 : Seats) → SameLinks queue p0 p1 → (ends : Ends) (s : Option ℕ) → before_of queue p1 ends s ≡ before_of queue p0 ends s
same_before queue p0 p1 same ends None = refl
same_before queue p0 p1 same ends (Some o) = same.befores o

-- a seat written over that names the same in a queue
pub links_written : (queue : Queue) (seats : Seats) (o : ℕ) (seat now : Seat) → seat_at seats o ≡ Some seat → links_of queue now ≡ links_of queue seat → SameLinks queue seats (set seats o (Some now))
links_written queue seats o seat now at same = record {
  afters = λ q. written_in (after_in queue) seats o q seat now at (ap (λ (l : Links). l.after) same);
  befores = λ q. written_in (before_in queue) seats o q seat now at (ap (λ (l : Links). l.before) same);
}

module _ (queue : Queue) (seats : Seats) (ends : Ends) (o : ℕ) (seat : Seat) (at : seat_at seats o ≡ Some seat) where
  -- a seat with other links in a queue
  linked_so : Links → Seats
  linked_so links = set seats o (Some (with_links queue links seat))

  others_stay : (links : Links) → LeavesOthers queue seats (linked_so links)
  unfolding linked_so
  others_stay links other ne = links_written other seats o seat (with_links queue links seat) at (links_apart queue other links seat ne)

  -- with another neighbour after it
  pub after_written : (to : Option ℕ) → SetsAfter queue seats ends (set seats o (Some (with_links queue (record { before = (links_of queue seat).before; after = to }) seat))) ends (Some o) to
  unfolding linked_so
  after_written to = record {
    here = ap (after_in queue) (set_is seats o now seat at) ∙ ap (λ (l : Links). l.after) (links_here queue links seat);
    others = others;
    befores = befores;
    leaves = others_stay links;
    table = written_table seats o seat now at (same_operation queue links seat);
  }
    where
      links : Links
      links = record { before = (links_of queue seat).before; after = to }

      now : Seat
      now = with_links queue links seat

      others : (t : Option ℕ) → t ≢ Some o → after_of queue (set seats o (Some now)) ends t ≡ after_of queue seats ends t
      others None ne = refl
      others (Some q) ne = ap (after_in queue) (set_there seats o q (Some now) (λ e. ne (ap (λ n. Some n) e)))

      befores : (t : Option ℕ) → before_of queue (set seats o (Some now)) ends t ≡ before_of queue seats ends t
      befores None = refl
      befores (Some q) = written_in (before_in queue) seats o q seat now at (ap (λ (l : Links). l.before) (links_here queue links seat))

  -- and before it
  pub before_written : (to : Option ℕ) → SetsBefore queue seats ends (set seats o (Some (with_links queue (record { before = to; after = (links_of queue seat).after }) seat))) ends (Some o) to
  unfolding linked_so
  before_written to = record {
    here = ap (before_in queue) (set_is seats o now seat at) ∙ ap (λ (l : Links). l.before) (links_here queue links seat);
    others = others;
    afters = afters;
    leaves = others_stay links;
    table = written_table seats o seat now at (same_operation queue links seat);
  }
    where
      links : Links
      links = record { before = to; after = (links_of queue seat).after }

      now : Seat
      now = with_links queue links seat

      others : (t : Option ℕ) → t ≢ Some o → before_of queue (set seats o (Some now)) ends t ≡ before_of queue seats ends t
      others None ne = refl
      others (Some q) ne = ap (before_in queue) (set_there seats o q (Some now) (λ e. ne (ap (λ n. Some n) e)))

      afters : (t : Option ℕ) → after_of queue (set seats o (Some now)) ends t ≡ after_of queue seats ends t
      afters None = refl
      afters (Some q) = written_in (after_in queue) seats o q seat now at (ap (λ (l : Links). l.after) (links_here queue links seat))

  -- the same, of a seat that is named so
  pub after_named : (s to : Option ℕ) → s ≡ Some o → SetsAfter queue seats ends (set seats o (Some (with_links queue (record { before = (links_of queue seat).before; after = to }) seat))) ends s to
  after_named s to is =
      subst (λ t. SetsAfter queue seats ends (set seats o (Some (with_links queue (record { before = (links_of queue seat).before; after = to }) seat))) ends t to) (sym is) (after_written to)

  pub before_named : (s to : Option ℕ) → s ≡ Some o → SetsBefore queue seats ends (set seats o (Some (with_links queue (record { before = to; after = (links_of queue seat).after }) seat))) ends s to
  before_named s to is =
      subst (λ t. SetsBefore queue seats ends (set seats o (Some (with_links queue (record { before = to; after = (links_of queue seat).after }) seat))) ends t to) (sym is) (before_written to)

-- what was written last is what stays
written_again : (seats : Seats) (o : ℕ) (a b : Option Seat) → set (set seats o a) o b ≡ set seats o b
written_again [] o a b = refl
written_again (x ∷ seats) zero a b = refl
written_again (x ∷ seats) (suc o) a b = ap (λ (t : Seats). x ∷ t) (written_again seats o a b)

-- both links of a seat, one after the other
pub put_behind_seat : (queue : Queue) (seats : Seats) (ends : Ends) (o : ℕ) (seat : Seat) (before : Option ℕ) → seat_at seats o ≡ Some seat
    → (mid : Seats) × SetsAfter queue seats ends mid ends (Some o) None × SetsBefore queue mid ends (set seats o (Some (with_links queue (record { before = before; after = None }) seat))) ends (Some o) before
put_behind_seat queue seats ends o seat before at =
    let first : Links = record { before = (links_of queue seat).before; after = None } in
    let one : Seat = with_links queue first seat in
    let both : Links = record { before = before; after = None } in
    let over : with_links queue (record { before = before; after = (links_of queue one).after }) one ≡ with_links queue both seat =
    ap (λ (l : Links). with_links queue (record { before = before; after = l.after }) one) (links_here queue first seat) ∙ links_over queue first both seat in (
      set seats o (Some one),
      after_written queue seats ends o seat at None,
      subst (λ (p : Seats). SetsBefore queue (set seats o (Some one)) ends p ends (Some o) before)
          (ap (λ (x : Seat). set (set seats o (Some one)) o (Some x)) over ∙ written_again seats o (Some one) (Some (with_links queue both seat)))
          (before_written queue (set seats o (Some one)) ends o one (set_is seats o one seat at) before),
    )

-- an operation that has become another, by what it was and by what it is
pub becomes_by : (seats : Seats) (o : ℕ) (seat : Seat) (f : Operation → Operation) (op : Operation) → seat_at seats o ≡ Some seat → op ≡ f seat.operation.value
    → Becomes seats (set seats o (Some (with_operation seat op))) o f
becomes_by seats o seat f op at is x there =
    let same : seat ≡ x = same_Some seat x (sym at ∙ there) in
    ap (λ w. set seats o (Some (with_operation seat w))) is ∙ ap (λ (w : Seat). set seats o (Some (with_operation w (f w.operation.value)))) same

-- where nobody is, nobody becomes another
pub none_becomes : (seats : Seats) (o : ℕ) (f : Operation → Operation) → seat_at seats o ≡ None → Becomes seats seats o f
none_becomes seats o f none seat at = absurd (none_some (sym none ∙ at))
  where
    none_some : ◌≡◌ {A = Option Seat} None (Some seat) → ⊥
    none_some e = cc

-- four new links put an operation behind all others
pub linked : (queue : Queue) (p0 p1 p2 p3 p4 : Seats) (e0 e1 e2 e3 e4 : Ends) (o : ℕ) → e0.last ≢ Some o
    → SetsAfter queue p0 e0 p1 e1 e0.last (Some o) → SetsAfter queue p1 e1 p2 e2 (Some o) None → SetsBefore queue p2 e2 p3 e3 (Some o) e0.last → SetsBefore queue p3 e3 p4 e4 None (Some o)
    → LinksLast queue p0 e0 p4 e4 o
linked queue p0 p1 p2 p3 p4 e0 e1 e2 e3 e4 o new a b c d = record {
  after = d.afters e0.last ∙ c.afters e0.last ∙ b.others e0.last new ∙ a.here;
  ends = d.afters (Some o) ∙ c.afters (Some o) ∙ b.here;
  before = d.others (Some o) (λ e. some_none e) ∙ c.here;
  last = d.here;
  afters = λ u ne other. d.afters u ∙ c.afters u ∙ b.others u ne ∙ a.others u other;
  befores = λ u ne other. d.others u other ∙ c.others u ne ∙ b.befores u ∙ a.befores u;
  leaves = λ other ne. links_on other p0 p3 p4 (links_on other p0 p2 p3 (links_on other p0 p1 p2 (a.leaves other ne) (b.leaves other ne)) (c.leaves other ne)) (d.leaves other ne);
  table = d.table ∙ c.table ∙ b.table ∙ a.table;
}
  where
    some_none : ◌≡◌ {A = Option ℕ} (Some o) None → ⊥
    some_none e = cc

-- two new links take out what was between
pub unlinked : (queue : Queue) (p0 p1 p2 : Seats) (e0 e1 e2 : Ends) (links : Links) → SetsAfter queue p0 e0 p1 e1 links.before links.after → SetsBefore queue p1 e1 p2 e2 links.after links.before
    → CutsOut queue p0 e0 p2 e2 links
unlinked queue p0 p1 p2 e0 e1 e2 links a b = record {
  after = b.afters links.before ∙ a.here;
  before = b.here;
  afters = λ u ne. b.afters u ∙ a.others u ne;
  befores = λ u ne. b.others u ne ∙ a.befores u;
  leaves = λ other ne. links_on other p0 p1 p2 (a.leaves other ne) (b.leaves other ne);
  table = b.table ∙ a.table;
}
