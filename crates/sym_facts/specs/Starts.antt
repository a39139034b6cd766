-- The fact on the two start stores.
use Rattle.std.specs.Prelude.{ℕ, List, [], map, Option, Some, None, option_map, slice_get}
use Rattle.fs_model.specs.declared.parts.Role.{Role}
use Rattle.fs_model.specs.declared.parts.Role.TheVariants.{Input, Output, Local}
use Rattle.fs_model.specs.declared.parts.Sort.{Sort}
use Rattle.fs_model.specs.declared.parts.Sort.TheVariants as sort
use Rattle.fs_pair.specs.declared.positions.Position.{Position}
use Rattle.nf_trees.specs.NormalTerms.{Zero, bare_array}
use Rattle.nf_terms.specs.Lists.{bare_list}
use Rattle.fs_model.specs.declared.sides.Pos.{Pos}
use Rattle.fs_model.specs.declared.sides.Side.{Side}
use Rattle.fs_model.specs.declared.sides.Side.TheVariants as side
use Rattle.nf_trees.specs.declared.tree.Base.TheVariants as base
use Rattle.nf_terms.specs.declared.tree.SeqBase.TheVariants as list
use Rattle.nf_terms.specs.declared.form.Nf.{Nf}
use Rattle.nf_terms.specs.declared.form.Nf.TheVariants.{Num, Arr, Seq}
use Rattle.sym_facts.specs.Facts.{FactPosition, Fact, own_symbol}

-- 0, 0 everywhere, or the empty list
abbrev pub zero_of : Sort → Nf
zero_of sort.Scalar = Num Zero
zero_of sort.Array = Arr (bare_array base.Zero)
zero_of sort.Port = Seq (bare_list list.Empty)

-- a left input is free, a right one is the left one of its name, and all else is 0
abbrev pub input_form : Side → Sort → (partner : Option Pos) → Option Nf
input_form side.Left s q = None
input_form side.Right s q = option_map (own_symbol s) q

abbrev pub start_form : Role → Side → Sort → (partner : Option Pos) → Option Nf
start_form Input d s q = input_form d s q
start_form Output d s q = Some (zero_of s)
start_form Local d s q = Some (zero_of s)

abbrev pub partner_in : List Position → Option ℕ → Option Pos
partner_in ps None = None
partner_in ps (Some k) = option_map (λ p. p.pos) (slice_get ps k)

abbrev pub start_position : List Position → Position → FactPosition
start_position ps p = record {
  pos = p.pos;
  sort = p.sort;
  equation = start_form p.role p.pos.side p.sort (partner_in ps p.partner);
}

abbrev pub start_fact : List Position → Fact
start_fact ps = record { positions = map (start_position ps) ps; literals = [] }
