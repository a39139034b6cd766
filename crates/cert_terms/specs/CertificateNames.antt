-- What the names of a certificate stand for.
use Rattle.std.specs.Prelude.{ℕ, ◌==◌, Bool, not, ◌&&◌, cond, List, [], ◌∷◌, map, Option, Some, None, slice_get}
use Rattle.std.specs.Prelude.{option_and_then, option_map}
use Rattle.fs_model.specs.declared.parts.Sort.{Sort}
use Rattle.fs_model.specs.declared.parts.Sort.TheVariants as sort
use Rattle.fs_model.specs.Machines.{Fsmd}
use Rattle.fs_ast.specs.Places.{first_place}
use Rattle.fs_pair.specs.declared.positions.Position.{Position}
use Rattle.fs_pair.specs.Partners.{position_name}
use Rattle.fs_model.specs.declared.sides.Side.{Side}
use Rattle.fs_model.specs.declared.sides.Side.TheVariants.{Left, Right}
use Rattle.fs_model.specs.declared.sides.Pos.{Pos}
use Rattle.fs_model.specs.Runs.{is_port}
use Rattle.fs_model.specs.Sides.{same_side}
use Rattle.nf_terms.specs.declared.symbols.Sort.{Sort as TermSort}
use Rattle.nf_terms.specs.declared.symbols.Sort.TheVariants as term_sort
use Rattle.sym_facts.specs.Facts.{sort_of_terms}
use Rattle.term_values.specs.NameMeanings.{Find}

-- the names of one side along the positions, empty at those of the other side
abbrev pub names_on : (a b : Fsmd) → Side → List Position → List (List ℕ)
names_on a b side ps = map (λ p. cond (same_side p.pos.side side) (position_name a b p.pos) []) ps

-- the place of the position of a name; the empty name has none
abbrev pub place_named : (a b : Fsmd) → List Position → Side → List ℕ → Option ℕ
place_named a b ps side [] = None
place_named a b ps side (c ∷ cs) = first_place (names_on a b side ps) (c ∷ cs)

-- whether a sort has positions in a file of a format: in format 1 a port is none
abbrev pub is_in_format : ℕ → Sort → Bool
is_in_format format s = not (is_port s && (format == 1))

-- a place, where its position is one in a format
abbrev pub place_within : ℕ → List Position → ℕ → Option ℕ
place_within format ps k = option_and_then (λ p. cond (is_in_format format p.sort) (Some k) None) (slice_get ps k)

-- the place of a name in a file of a format, by the places of all names
abbrev pub name_place : (Side → List ℕ → Option ℕ) → List Position → ℕ → Side → List ℕ → Option ℕ
name_place place ps format side x = option_and_then (place_within format ps) (place side x)

-- a position and the sort of its terms
abbrev pub sorted_position : Position → Pos × TermSort
sorted_position p = (p.pos, sort_of_terms p.sort)

-- what the names in terms stand for
abbrev pub find_in : (Side → List ℕ → Option ℕ) → List Position → ℕ → Find
find_in place ps format side x = option_and_then (λ k. option_map sorted_position (slice_get ps k))
    (name_place place ps format side x)

-- the place that a key names: a side with a point, and a name
abbrev pub place_by_key : (Side → List ℕ → Option ℕ) → List ℕ → Option ℕ
place_by_key place [] = None
place_by_key place (s ∷ []) = None
place_by_key place (s ∷ c ∷ x) = cond (c == 46) (cond (s == 76) (place Left x) (cond (s == 82) (place Right x) None)) None

-- the names of states
abbrev pub machine_state_names : Fsmd → List (List ℕ)
machine_state_names m = map (λ q. q.name) m.states

-- the number of the state of a name; the empty name has none
abbrev pub state_named : Fsmd → List ℕ → Option ℕ
state_named m [] = None
state_named m (c ∷ cs) = first_place (machine_state_names m) (c ∷ cs)

abbrev pub sort_or_scalar : Option TermSort → TermSort
sort_or_scalar None = term_sort.Scalar
sort_or_scalar (Some s) = s

-- the sort of the terms at a place
abbrev pub sort_at : List Position → ℕ → TermSort
sort_at ps k = sort_or_scalar (option_map (λ p. sort_of_terms p.sort) (slice_get ps k))
