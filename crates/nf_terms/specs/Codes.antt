-- A term as a tree of numbers, which gives it back: what the model of a normal form is stored as.
use Rattle.std.specs.Prelude.{◌≡◌, ℕ, ℤ, Bool, true, false, Option, Some, None, List, refl}
use Rattle.std.proofs.Common.{sym, ap, ◌∙◌}
use Rattle.std.specs.Coded.{Coded, code_by, coded×, coded_ℕ, coded_bool, coded_list, coded_option}
use base.Stored.{Gv, gnil, gnum, gcons}
use Rattle.fs_model.specs.Codes.{code_int, int_at, int_back}
use Rattle.nf_trees.specs.NormalTerms.{Atom, Polynomial, ArrayTerm}
use Rattle.nf_terms.specs.Lists.{ListTerm}
use Rattle.nf_trees.specs.Keys.{Key, Leaf, Node}
use Rattle.nf_trees.specs.TermKeys.{key_atom, key_polynomial, key_array, inj_atom, inj_polynomial, inj_array}
use Rattle.fs_model.specs.declared.sides.Side.{Side}
use Rattle.fs_model.specs.declared.sides.Side.TheVariants.{Left, Right}
use Rattle.fs_model.specs.declared.sides.Pos.{Pos}
use Rattle.nf_terms.specs.declared.tree.SeqBase.{SeqBase}
use Rattle.nf_terms.specs.declared.tree.SeqBase.TheVariants as list

-- a key: an integer, or two keys
abbrev pub code_key : Key → Gv
code_key (Leaf z) = gcons gnil (code_int z)
code_key (Node a b) = gcons (gnum 0) (gcons (code_key a) (code_key b))

inj_int : (x y : ℤ) → code_int x ≡ code_int y → x ≡ y
inj_int x y e = sym (int_back x) ∙ ap int_at e ∙ int_back y

pub inj_key : (x y : Key) → code_key x ≡ code_key y → x ≡ y
inj_key (Leaf x) (Leaf y) e = let e0 : x ≡ y = inj_int x y (cc) in cc
inj_key (Leaf x) (Node c d) e = cc
inj_key (Node a b) (Leaf y) e = cc
inj_key (Node a b) (Node c d) e = let e0 : a ≡ c = inj_key a c (cc) in let e1 : b ≡ d = inj_key b d (cc) in cc

-- a polynomial by its key
abbrev pub coded_polynomial : Coded Polynomial
coded_polynomial = record {
  code = λ p. code_key (key_polynomial p);
  inj = λ x y e. inj_polynomial x y (inj_key (key_polynomial x) (key_polynomial y) e);
}

-- an array by its key
abbrev pub coded_array : Coded ArrayTerm
coded_array = record {
  code = λ a. code_key (key_array a);
  inj = λ x y e. inj_array x y (inj_key (key_array x) (key_array y) e);
}

-- an atom by its key
abbrev pub coded_atom : Coded Atom
coded_atom = record {
  code = λ a. code_key (key_atom a);
  inj = λ x y e. inj_atom x y (inj_key (key_atom x) (key_atom y) e);
}

abbrev is_left : Side → Bool
is_left Left = true
is_left Right = false

abbrev coded_side : Bool → Side
coded_side true = Left
coded_side false = Right

pub side_again : (s : Side) → coded_side (is_left s) ≡ s
side_again Left = refl
side_again Right = refl

-- a position: its side and its number
abbrev pub coded_pos : Coded Pos
coded_pos = code_by (Bool × ℕ) (coded× coded_bool coded_ℕ) (λ p. (is_left p.side, p.var))
    (λ t. record { side = coded_side t.0; var = t.1 }) (λ p. λ k. record { side = side_again p.side k; var = p.var })

abbrev list_position : SeqBase → Option Pos
list_position list.Empty = None
list_position (list.Sym p) = Some p

abbrev base_at : Option Pos → SeqBase
base_at None = list.Empty
base_at (Some p) = list.Sym p

pub base_again : (b : SeqBase) → base_at (list_position b) ≡ b
base_again list.Empty = refl
base_again (list.Sym p) = refl

-- a list term: its base and its items
abbrev pub coded_list_term : Coded ListTerm
coded_list_term =
    code_by (Option Pos × List Polynomial) (coded× (coded_option coded_pos) (coded_list coded_polynomial))
    (λ l. (list_position l.base, l.items)) (λ t. record { base = base_at t.0; items = t.1 })
    (λ l. λ k. record { base = base_again l.base k; items = l.items })
