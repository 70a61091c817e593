-- The places of nodes and trees that were taken out: each stands once in the list of its kind, and no other does.
use Rattle.std.specs.Prelude.{◌≡◌, ◌≢◌, ℕ, ◌+◌, ◌<◌, ◌==◌, ◌&&◌, nat_le, not, Bool, true, false, List, [], ◌∷◌, ◌++◌, length, map, if◌then◌else◌, min, slice_index_or, Option, Some, None}
use Rattle.mt_arena.specs.{declared.arena.TheConstants.MOST, declared.retired.Retired.Retired, declared.tree.Tree.Tree, declared.tree.Standing.Standing}
use Rattle.mt_arena.specs.{declared.tree.Standing.TheVariants.{Made, Live, Dead}, NodeView.{NodeView, no_node}, Forests.no_tree}

-- what a list shows: its places, the earliest first, and how many there is room for
pub record IdleView : Type 0 where
  pub places : List Retired
  pub room : ℕ

-- the idle places of border nodes, of interior nodes and of trees, each list from the earliest on
pub record RetiredPlaces : Type 0 where
  pub borders : List Retired
  pub interiors : List Retired
  pub trees : List Retired

abbrev pub no_places : RetiredPlaces
no_places = record { borders = []; interiors = []; trees = [] }

-- for how many nodes of either kind there is room, and for how many trees
pub record Rooms : Type 0 where
  pub nodes : ℕ
  pub trees : ℕ

pub record IdlePlacesView : Type 0 where
  pub places : RetiredPlaces
  pub room : Rooms

-- the same among the numbers that nodes and trees can have
abbrev pub rooms_for : Rooms → Rooms
rooms_for room = record { nodes = min room.nodes MOST; trees = min room.trees MOST }

-- a list with one place more, which the step of this number took out
abbrev pub with_retired : List Retired → ℕ → ℕ → List Retired
with_retired gone place step = gone ++ (record { place = place; step = step }) ∷ []

-- all places with one more of a border node, of an interior node, and of a tree
abbrev pub with_border : RetiredPlaces → ℕ → ℕ → RetiredPlaces
with_border gone node step = record gone { borders = with_retired gone.borders node step }

abbrev pub with_interior : RetiredPlaces → ℕ → ℕ → RetiredPlaces
with_interior gone node step = record gone { interiors = with_retired gone.interiors node step }

abbrev pub with_tree : RetiredPlaces → ℕ → ℕ → RetiredPlaces
with_tree gone tree step = record gone { trees = with_retired gone.trees tree step }

-- a list of which the step of this number took all out, and all lists so
abbrev pub retired_by : ℕ → Retired → Retired
retired_by step r = record r { step = step }

abbrev pub out_at : ℕ → List Retired → List Retired
out_at step gone = map (retired_by step) gone

abbrev pub all_out_at : ℕ → RetiredPlaces → RetiredPlaces
all_out_at step gone = record { borders = out_at step gone.borders; interiors = out_at step gone.interiors; trees = out_at step gone.trees }

-- the place of a list that is given out: the first one, if this step or an earlier one took it out; and the list that is left
abbrev pub chosen : List Retired → ℕ → Option ℕ
chosen [] least = None
chosen (r ∷ gone) least = if nat_le r.step least then Some r.place else None

abbrev pub left_of : List Retired → ℕ → List Retired
left_of [] least = []
left_of (r ∷ gone) least = if nat_le r.step least then gone else r ∷ gone

abbrev pub given_border : RetiredPlaces → ℕ → RetiredPlaces
given_border gone least = record gone { borders = left_of gone.borders least }

abbrev pub given_interior : RetiredPlaces → ℕ → RetiredPlaces
given_interior gone least = record gone { interiors = left_of gone.interiors least }

abbrev pub given_tree : RetiredPlaces → ℕ → RetiredPlaces
given_tree gone least = record gone { trees = left_of gone.trees least }

-- the place of a border node and that of a tree
abbrev pub given_layer : RetiredPlaces → ℕ → RetiredPlaces
given_layer gone least = given_tree (given_border gone least) least

-- the number of the place: the chosen one, or else that of a new one behind so many
abbrev pub number_of : Option ℕ → ℕ → ℕ
number_of None count = count
number_of (Some place) count = place

-- a border node that was taken out, such an interior node, and a dead tree
abbrev pub is_idle_border : NodeView → Bool
is_idle_border n = n.version.deleted && (n.level == 0)

abbrev pub is_idle_interior : NodeView → Bool
is_idle_interior n = n.version.deleted && not (n.level == 0)

abbrev pub has_ended : Standing → Bool
has_ended (Made q) = false
has_ended Live = false
has_ended Dead = true

abbrev pub is_idle_tree : Tree → Bool
is_idle_tree tree = has_ended tree.standing

-- the place of one of the idle ones
abbrev pub place_of_idle : List Retired → ℕ → ℕ
place_of_idle gone i = (slice_index_or gone i (record { place = 0; step = 0 })).place

-- how many of a list are idle
abbrev pub one_if : Bool → ℕ
one_if idle = if idle then 1 else 0

abbrev pub count_of : {X : Type 0} → (X → Bool) → List X → ℕ
count_of idle [] = 0
count_of idle (x ∷ xs) = one_if (idle x) + count_of idle xs

-- the list of the idle places among those of xs: each stands in it once, and no other
pub record AreListed {X : Type 0} (idle : X → Bool) (blank : X) (xs : List X) (gone : List Retired) : Type 0 where
  pub there : (i : ℕ) → i < length gone → place_of_idle gone i < length xs
  pub idle_there : (i : ℕ) → i < length gone → idle (slice_index_or xs (place_of_idle gone i) blank) ≡ true
  pub once : (i j : ℕ) → i < j → j < length gone → place_of_idle gone i ≢ place_of_idle gone j
  pub counted : count_of idle xs ≡ length gone

-- so are all idle places, by kind
pub record AreRetired (nodes : List NodeView) (trees : List Tree) (gone : RetiredPlaces) : Type 0 where
  pub of_borders : AreListed is_idle_border no_node nodes gone.borders
  pub of_interiors : AreListed is_idle_interior no_node nodes gone.interiors
  pub of_trees : AreListed is_idle_tree no_tree trees gone.trees
